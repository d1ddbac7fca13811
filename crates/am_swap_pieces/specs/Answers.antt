-- What the code reads, against what reading gives.
use Rattle.std.specs.Prelude.{◌≡◌, true, ℕ, is_some, List, Option, Some, None, Result, Ok, Err}
use Rattle.am_lemmas.specs.Options.{◌>>=◌}
use Rattle.am_swap_image.specs.Reading.{Read}
use Rattle.am_swap_pieces.specs.declared.fault.ImageFault.{ImageFault}
use Rattle.am_swap_pieces.specs.declared.fault.ImageFault.TheVariants as faults

-- the bytes behind what is read
abbrev pub behind : {X : Type 0} → Read X → Option (List ℕ)
behind read = read >>= λ x. Some x.1

-- what the code read, seen by view, is what reading gives
abbrev pub Gives : {X Y : Type 0} → (X → Y) → Option X → Option Y → Type 0
Gives view None read = read ≡ None
Gives view (Some x) read = read ≡ Some (view x)

-- the same, unless memory ran out
abbrev pub Finds : {X Y : Type 0} → (X → Y) → Result X ImageFault → Option Y → Type 0
Finds view (Ok x) read = read ≡ Some (view x)
Finds view (Err faults.NoBody) read = read ≡ None
Finds view (Err faults.NoMemory) read = Unit {0}

-- the same; memory ran out only where something is read
abbrev pub FindsExactly : {X Y : Type 0} → (X → Y) → Result X ImageFault → Option Y → Type 0
FindsExactly view (Ok x) read = read ≡ Some (view x)
FindsExactly view (Err faults.NoBody) read = read ≡ None
FindsExactly view (Err faults.NoMemory) read = is_some read ≡ true
