-- What a read and a write of a swap do, and when they fail.
use Rattle.std.specs.Prelude.{◌≡◌, ℕ, ◌≤◌, Bool, true, false, List, Option, Some, None, Result, Ok, Err, if◌then◌else◌}
pub use Rattle.am_lemmas.specs.Counts.{one_more, fails_after}
use Rattle.am_names.specs.declared.EndpointId.{EndpointId}
use Rattle.am_names.specs.Names.{same_end}
use Rattle.am_swap_device.specs.declared.swap.SwapFault.{SwapFault}
use Rattle.am_swap_device.specs.declared.swap.SwapFault.TheVariants as faults

-- what is held for each key
abbrev pub Holding : Type 0
Holding = EndpointId → Option (List ℕ)

-- what a device shows of itself: what it holds, the numbers of the calls that fail, where it is told, and how many calls there were
pub record Device : Type 0 where
  pub held : Holding
  pub fails : Option (List ℕ)
  pub calls : ℕ

-- for every key the same is held as before
abbrev pub HoldsSame : Holding → Holding → Type 0
HoldsSame old new = (other : EndpointId) → new other ≡ old other

-- with these bytes for the key, and for every other key what was
abbrev pub held_with : Holding → EndpointId → List ℕ → Holding
held_with held key bytes other = if same_end other key then Some bytes else held other

-- for the key these bytes are held, and for every other key the same as before
abbrev pub HoldsInstead : Holding → Holding → EndpointId → List ℕ → Type 0
HoldsInstead old new key bytes = (other : EndpointId) → new other ≡ held_with old key bytes other

-- a write holds its bytes from now on, and one that fails changes nothing that is held
abbrev pub Writes : {X : Type 0} → Result X SwapFault → Holding → Holding → EndpointId → List ℕ → Type 0
Writes (Ok done) old new key bytes = HoldsInstead old new key bytes
Writes (Err fault) old new key bytes = HoldsSame old new

-- each call is counted, unless there is no memory for it
abbrev pub IsCounted : {X : Type 0} → Result X SwapFault → ℕ → ℕ → Type 0
IsCounted (Ok answer) before now = now ≡ one_more before
IsCounted (Err faults.Failed) before now = now ≡ one_more before
IsCounted (Err faults.NoMemory) before now = now ≡ before

-- a count of faults rose, or stands at its end
abbrev pub Rose : ℕ → ℕ → Type 0
Rose before now = one_more before ≤ now

-- a count of faults doesn't fall, and it rose where a call failed
abbrev pub IsCauseOf : Bool → ℕ → ℕ → Type 0
IsCauseOf true before now = (before ≤ now) × Rose before now
IsCauseOf false before now = before ≤ now

abbrev pub has_failed : {X : Type 0} → Result X SwapFault → Bool
has_failed (Ok answer) = false
has_failed (Err faults.Failed) = true
has_failed (Err faults.NoMemory) = false

-- a call fails only where the count of faults rose
abbrev pub IsCaused : {X : Type 0} → Result X SwapFault → ℕ → ℕ → Type 0
IsCaused answer before now = IsCauseOf (has_failed answer) before now

-- where it is told which calls fail, the one after so many fails just if it is among them
abbrev pub IsAsTold : Bool → Option (List ℕ) → ℕ → Type 0
IsAsTold failed None calls = Unit {0}
IsAsTold failed (Some fails) calls = failed ≡ fails_after fails calls

-- where it is told which calls fail, just those do
abbrev pub FailsAsTold : {X : Type 0} → Result X SwapFault → Option (List ℕ) → ℕ → Type 0
FailsAsTold answer fails calls = IsAsTold (has_failed answer) fails calls

-- the fault that was answered, if any
abbrev pub fault_of : {X : Type 0} → Result X SwapFault → Option SwapFault
fault_of (Ok answer) = None
fault_of (Err fault) = Some fault

-- a device after a call that failed or didn't: if it didn't, it holds this
abbrev pub device_after : Bool → Device → Holding → Device
device_after failed d done = record { held = if failed then d.held else done; fails = d.fails; calls = one_more d.calls }
