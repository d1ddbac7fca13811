-- What a swap in memory answers to each call, exactly.
use Rattle.std.specs.Prelude.{◌≡◌, ℕ, zero, suc, ◌+◌, Bool, true, false, List, [], ◌∷◌, Option, Some, None, find, if◌then◌else◌}
use Rattle.std.specs.Option.{option_map}
use Rattle.am_names.specs.declared.EndpointId.{EndpointId}
use Rattle.am_names.specs.Names.{same_end}
use Rattle.am_swap_device.specs.declared.swap.SwapFault.{SwapFault}
use Rattle.am_swap_device.specs.declared.swap.SwapFault.TheVariants as faults
use Rattle.am_swap_device.specs.Causes.{Device, one_more, fails_after}

-- the bytes that are held for a key
pub record HeldImage : Type 0 where
  pub key : EndpointId
  pub bytes : List ℕ

-- a swap in memory: what it holds, the numbers of the calls that fail, and how many calls and faults there were
pub record Store : Type 0 where
  pub held : List HeldImage
  pub fails : List ℕ
  pub calls : ℕ
  pub faults : ℕ

-- how many of so many calls fail, those whose numbers are listed
unfoldable pub failed_among : List ℕ → ℕ → ℕ
failed_among fails zero = 0
failed_among fails (suc calls) = failed_among fails calls + (if fails_after fails calls then 1 else 0)

-- whether this is held for the key
abbrev pub is_for : EndpointId → HeldImage → Bool
is_for key h = same_end key h.key

-- the bytes that are held for a key, where it was written
abbrev pub held_for : List HeldImage → EndpointId → Option (List ℕ)
held_for held key = option_map (λ (h : HeldImage). h.bytes) (find (is_for key) held)

abbrev pub holding : EndpointId → List ℕ → HeldImage
holding key bytes = record { key = key; bytes = bytes }

-- with these bytes in the place of what is held for the key, or after all else
abbrev pub held_instead : EndpointId → List ℕ → List HeldImage → List HeldImage
held_instead key bytes [] = holding key bytes ∷ []
held_instead key bytes (h ∷ more) = if is_for key h then holding key bytes ∷ more else h ∷ held_instead key bytes more

-- a swap that holds these bytes for the key
abbrev pub with_held : Store → EndpointId → List ℕ → Store
with_held s key bytes = record s { held = held_instead key bytes s.held }

-- a swap after a call that is done
abbrev pub counted : Store → Store
counted s = record s { calls = one_more s.calls }

-- a swap after a call that failed
abbrev pub faulted : Store → Store
faulted s = record s { calls = one_more s.calls; faults = one_more s.faults }

-- what a swap in memory shows as a device
abbrev pub device_of : Store → Device
device_of s = record { held = held_for s.held; fails = Some s.fails; calls = s.calls }

-- a swap that was written to, or just read
abbrev pub written : Store → EndpointId → Option (List ℕ) → Store
written s key (Some bytes) = with_held s key bytes
written s key None = s

-- a call fails just where its number is listed, and else is done and counted, unless there is no memory
abbrev pub CallsSo : Store → Store → EndpointId → Option (List ℕ) → Option SwapFault → Type 0
CallsSo old new key bytes None = (fails_after old.fails old.calls ≡ false) × (new ≡ counted (written old key bytes))
CallsSo old new key bytes (Some faults.Failed) = (fails_after old.fails old.calls ≡ true) × (new ≡ faulted old)
CallsSo old new key bytes (Some faults.NoMemory) = (fails_after old.fails old.calls ≡ false) × (new ≡ old)
