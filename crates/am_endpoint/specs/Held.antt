-- What an endpoint keeps of its state: all of it in memory, and on disk all but the body.
use Rattle.std.specs.Prelude.{◌≡◌, ℕ, Bool, true, false, Option, List, []}
use Rattle.am_model.specs.declared.Head.{Head}
use Rattle.am_model.specs.Endpoint.{State, is_on_disk}
use Rattle.am_endpoint.specs.Seen.{state_in}
use Rattle.am_endpoint.specs.declared.fields.Fields.{Fields}
use Rattle.am_endpoint.specs.declared.held.HeldEndpoint.{HeldEndpoint}
use Rattle.am_endpoint.specs.declared.held.HeldEndpoint.TheVariants.{Here, OnDisk}

-- in memory these are the fields of a state
pub record IsHere (pool : Option ℕ) (s : State) (f : Fields) : Type 0 where
  pub in_memory : is_on_disk s.head.place ≡ false
  pub state : state_in f ≡ s
  pub pooled : f.body.pool ≡ pool

-- on disk this is the head of a state
pub record IsAway (s : State) (h : Head) : Type 0 where
  pub on_disk : is_on_disk s.head.place ≡ true
  pub head : h ≡ s.head

-- this is kept of a state
abbrev pub IsHeldOf : Option ℕ → State → HeldEndpoint → Type 0
IsHeldOf pool s (Here fields) = IsHere pool s fields
IsHeldOf pool s (OnDisk head) = IsAway s head

-- the slots of the messages in flight, in order: none on disk
abbrev pub flights_of : HeldEndpoint → List ℕ
flights_of (Here fields) = fields.body.flights
flights_of (OnDisk head) = []

abbrev pub head_of : HeldEndpoint → Head
head_of (Here fields) = fields.head
head_of (OnDisk head) = head

-- a state that is wanted, or is not
abbrev pub with_wanted : State → Bool → State
with_wanted s wanted = record s { head = record s.head { wanted = wanted } }

abbrev pub held_wanted : HeldEndpoint → Bool → HeldEndpoint
held_wanted (Here fields) wanted = Here (record fields { head = record fields.head { wanted = wanted } })
held_wanted (OnDisk head) wanted = OnDisk (record head { wanted = wanted })
