-- What contracts see of a block: six lists of slots, and the descriptor of each slot.
use Rattle.std.specs.Prelude.{◌≡◌, ℕ, ◌+◌, ◌<◌, ◌≤◌, ◌==◌, Bool, cond, List, [], ◌∷◌, ◌++◌, length, count_by, remove, slice_get, slice_set, Option}
use Rattle.std.specs.List.{list_any, position_or_len, range_with_len}
use Rattle.am_block.specs.declared.Descriptor.{Descriptor}
use Rattle.am_block.specs.declared.List.{List as Which}
use Rattle.am_block.specs.declared.List.TheVariants.{Free, Requests, Replies, InFlight, Notices, Received}

pub record Pools : Type 0 where
  pub free : List ℕ
  pub requests : List ℕ
  pub replies : List ℕ
  pub in_flight : List ℕ
  pub notices : List ℕ
  pub received : List ℕ
  pub descriptors : List Descriptor

-- the slots of one list, from front to tail
abbrev pub slots : Pools → Which → List ℕ
slots p Free = p.free
slots p Requests = p.requests
slots p Replies = p.replies
slots p InFlight = p.in_flight
slots p Notices = p.notices
slots p Received = p.received

-- p with these slots in one list
abbrev pub with_slots : Pools → Which → List ℕ → Pools
with_slots p Free xs = record p { free = xs }
with_slots p Requests xs = record p { requests = xs }
with_slots p Replies xs = record p { replies = xs }
with_slots p InFlight xs = record p { in_flight = xs }
with_slots p Notices xs = record p { notices = xs }
with_slots p Received xs = record p { received = xs }

-- how many slots there are
abbrev pub size : Pools → ℕ
size p = length p.descriptors

-- how often a slot stands in a list
abbrev pub times : ℕ → List ℕ → ℕ
times s xs = count_by (λ x. x == s) xs

-- how often a slot stands in the six lists
abbrev pub standings : Pools → ℕ → ℕ
standings p s =
    times s p.free + times s p.requests + times s p.replies + times s p.in_flight + times s p.notices + times s p.received

-- how long the six lists are together
abbrev pub total : Pools → ℕ
total p =
    length p.free + length p.requests + length p.replies + length p.in_flight + length p.notices + length p.received

-- each slot below the size stands once, and no other; so the six lists are together as long as there are slots
pub record IsBlock (p : Pools) : Type 0 where
  pub once : (s : ℕ) → s < size p → standings p s ≡ 1
  pub no_other : (s : ℕ) → size p ≤ s → standings p s ≡ 0
  pub all_stand : total p ≡ size p
  pub small : size p ≤ 128

-- whether a slot stands in a list
abbrev pub stands_in : ℕ → List ℕ → Bool
stands_in s xs = list_any (λ x. x == s) xs

-- the list where a slot stands
unfoldable pub home : Pools → ℕ → Which
home p s =
    cond (stands_in s p.free) Free
    (cond (stands_in s p.requests) Requests
    (cond (stands_in s p.replies) Replies
    (cond (stands_in s p.in_flight) InFlight
    (cond (stands_in s p.notices) Notices Received))))

-- the index of a slot in a list, or the length where it isn't there
abbrev pub place : ℕ → List ℕ → ℕ
place s xs = position_or_len (λ x. x == s) xs

-- the slots without s
abbrev pub without : ℕ → List ℕ → List ℕ
without s xs = remove xs (place s xs)

-- the slot right behind s
abbrev pub behind : ℕ → List ℕ → Option ℕ
behind s xs = slice_get xs (place s xs + 1)

-- the slot is the last of these
abbrev pub IsLast : ℕ → List ℕ → Type 0
IsLast s xs = place s xs + 1 ≡ length xs

-- p with a slot at the tail of a list
abbrev pub appended : Pools → Which → ℕ → Pools
appended p to s = with_slots p to (slots p to ++ s ∷ [])

-- p with a slot out of one list and at the tail of another: the other lists and all descriptors stay
abbrev pub moved : Pools → Which → ℕ → Which → Pools
moved p from s to = appended (with_slots p from (without s (slots p from))) to s

-- p with a descriptor at a slot: the lists and the other descriptors stay
abbrev pub with_descriptor : Pools → ℕ → Descriptor → Pools
with_descriptor p s d = record p { descriptors = slice_set p.descriptors s d }

-- n slots, all in the first list
pub record IsFresh (p : Pools) (n : ℕ) : Type 0 where
  pub free : p.free ≡ range_with_len 0 n
  pub requests : p.requests ≡ []
  pub replies : p.replies ≡ []
  pub in_flight : p.in_flight ≡ []
  pub notices : p.notices ≡ []
  pub received : p.received ≡ []
  pub size : size p ≡ n
