-- The block as links, a size and six lengths.
use Rattle.std.specs.Prelude.{◌≡◌, ℕ, ◌+◌, ◌-◌, ◌≤◌, List, length, take, get_or, slice_get, Some}
use Rattle.am_block.specs.Links.{Links, joined, inserted}
use Rattle.am_block.specs.Pools.{Pools, IsBlock, slots, times}
use Rattle.am_block.specs.Ring.{chain, Ring}
use Rattle.am_block.specs.declared.lengths.Lengths.{Lengths}
use Rattle.am_block.specs.declared.List.{List as Which}
use Rattle.am_block.specs.declared.List.TheVariants.{Free, Requests, Replies, InFlight, Notices, Received}

-- the place of a list's head, behind the n slots
abbrev pub head : ℕ → Which → ℕ
head n Free = n
head n Requests = n + 1
head n Replies = n + 2
head n InFlight = n + 3
head n Notices = n + 4
head n Received = n + 5

abbrev pub length_of : Lengths → Which → ℕ
length_of l Free = l.free
length_of l Requests = l.requests
length_of l Replies = l.replies
length_of l InFlight = l.in_flight
length_of l Notices = l.notices
length_of l Received = l.received

abbrev pub with_length : Lengths → Which → ℕ → Lengths
with_length l Free n = record l { free = n }
with_length l Requests n = record l { requests = n }
with_length l Replies n = record l { replies = n }
with_length l InFlight n = record l { in_flight = n }
with_length l Notices n = record l { notices = n }
with_length l Received n = record l { received = n }

-- the slots of a list, along the links
abbrev pub along : Links → ℕ → Lengths → Which → List ℕ
along k n l which = chain k.next (get_or k.next (head n which) 0) (length_of l which)

abbrev pub pools : Links → ℕ → Lengths → Pools
pools k n l = record {
  free = along k n l Free;
  requests = along k n l Requests;
  replies = along k n l Replies;
  in_flight = along k n l InFlight;
  notices = along k n l Notices;
  received = along k n l Received;
  descriptors = take n k.descriptors;
}

-- the links lead through six rings of such slots, each node knows its list, and the lists are a block
pub record IsSound (k : Links) (n : ℕ) (l : Lengths) : Type 0 where
  pub block : IsBlock (pools k n l)
  pub nodes : length k.next ≡ n + 6
  pub prevs : length k.prev ≡ n + 6
  pub lists : length k.lists ≡ n + 6
  pub descriptors : length k.descriptors ≡ n + 6
  pub rings : (w : Which) → Ring k.next k.prev (head n w) (slots (pools k n l) w)
  pub tags : (w : Which) (s : ℕ) → 1 ≤ times s (slots (pools k n l) w) → slice_get k.lists s ≡ Some w

-- the nodes and lengths once a slot went from one list to the tail of another
abbrev pub shifted : Links → ℕ → ℕ → Which → Links
shifted k n s to = inserted (joined k s) s (head n to) to

abbrev pub one_less : Lengths → Which → Lengths
one_less l a = with_length l a (length_of l a - 1)

abbrev pub one_more : Lengths → Which → Lengths
one_more l a = with_length l a (length_of l a + 1)
