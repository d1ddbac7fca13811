-- The next entries of logs.
use Rattle.std.specs.Prelude.{◌≡◌, ◌⊎◌, ℕ, ◌<◌, ◌≤◌, ◌==◌, ◌&&◌, ◌||◌, Bool, false, Option, Some, None, List, [], ◌∷◌, Contains, length, nat_lt, slice_get}
use Rattle.std.specs.Prelude.{slice_index_or}
use Rattle.std.specs.BinaryHeap.{IsHeap}
use Rattle.std.specs.Ordering.{nat_cmp, ordering_then}
use Rattle.std.specs.declared.cmp.Ordering.{Ordering}
use Rattle.std.specs.declared.cmp.Reverse.{Reverse}
use Rattle.am_office_entries.specs.declared.Entry.{Entry}
use Rattle.am_model.specs.Merge.{rank}
use Rattle.am_machine_journal.specs.declared.merge.heads.Head.{Head}

-- the log at a place among the logs
abbrev pub log_at : List (List Entry) → ℕ → List Entry
log_at logs k = slice_index_or logs k []

abbrev pub head_of : ℕ → ℕ → Option Entry → Option Head
head_of log place None = None
head_of log place (Some x) = Some (record { stamp = x.stamp; rank = rank x; log = log; place = place })

-- the entry at a place of a log as a head, if there is one
abbrev pub next_head : List (List Entry) → ℕ → ℕ → Option Head
next_head logs log place = head_of log place (slice_get (log_at logs log) place)

-- a head, if there is one, as the only element of a heap with the least on top
abbrev pub option_reversed : Option Head → List (Reverse Head)
option_reversed None = []
option_reversed (Some h) = record { 0 = h } ∷ []

abbrev pub head_cmp : Head → Head → Ordering
head_cmp x y = ordering_then (nat_cmp x.stamp y.stamp) (ordering_then (nat_cmp x.rank y.rank) (ordering_then (nat_cmp x.log y.log) (nat_cmp x.place y.place)))

-- a heap in which the least head is on top
abbrev pub IsLeastFirst : List (Reverse Head) → Type 0
IsLeastFirst heads = IsHeap (λ (x y : Reverse Head). head_cmp y.0 x.0) heads

-- whether a head stands after another in the journal
abbrev pub is_later : Head → Head → Bool
is_later x y = nat_lt y.stamp x.stamp || ((y.stamp == x.stamp) && nat_lt y.rank x.rank)

-- whether a head stands in the journal where the last one did
abbrev pub is_again : Option Head → Head → Bool
is_again None h = false
is_again (Some last) h = (last.stamp == h.stamp) && (last.rank == h.rank)

-- an entry stands no later in the journal than a head
abbrev pub IsNoLater : ℕ → ℕ → Head → Type 0
IsNoLater stamp part h = (stamp < h.stamp) ⊎ ((stamp ≡ h.stamp) × (part ≤ h.rank))

-- the head stands no later than any of the others
abbrev pub IsFirst : Head → List (Reverse Head) → Type 0
IsFirst h heads = (g : Reverse Head) → Contains heads g → IsNoLater h.stamp h.rank g.0

-- the first of all heads, if there is one, where these are the others
abbrev pub IsFirstOf : Option Head → List (Reverse Head) → Type 0
IsFirstOf None heads = heads ≡ []
IsFirstOf (Some h) heads = IsFirst h heads

-- the head is the entry at its place
pub record IsHead (logs : List (List Entry)) (h : Head) : Type 0 where
  pub within : h.log < length logs
  pub is : next_head logs h.log h.place ≡ Some h

-- the entry is left where a head stands no later in its log
pub record IsLeft (logs : List (List Entry)) (heads : List (Reverse Head)) (x : Entry) : Type 0 where
  pub head : Head
  pub among : Contains heads (record { 0 = head })
  pub place : ℕ
  pub later : head.place ≤ place
  pub is : slice_get (log_at logs head.log) place ≡ Some x

-- each is a head, and all entries of the logs are left
pub record AreFirst (logs : List (List Entry)) (heads : List (Reverse Head)) : Type 0 where
  pub heads' : (h : Reverse Head) → Contains heads h → IsHead logs h.0
  pub all : (k place : ℕ) (x : Entry) → slice_get (log_at logs k) place ≡ Some x → IsLeft logs heads x
