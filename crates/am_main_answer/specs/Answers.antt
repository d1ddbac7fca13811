-- Which answer is due to what a program was asked for, and what became of it: the program reads a text from a source where it needs one, and
-- offers one answer to a sink.
use Rattle.std.specs.Io.KnownBytes.{Appends}
use Rattle.std.specs.Prelude.{◌≡◌, ◌⊎◌, ℕ, ◌≤◌, Bool, true, false, List, [], ◌∷◌, codes, length, Option}
use Rattle.am_io.specs.Causes.{Rose, Stands, Counter}
use Rattle.am_io.specs.Whole.{IsAll, IsLonger}
use Rattle.am_main_lines.specs.Lines.{Answer}
use Rattle.am_main_lines.specs.Offers.{IsOffered, IsWhole, no_memory, read_fault}

-- the answer to too many bytes, with the line that tells it
abbrev pub too_long_by : List ℕ → Answer
too_long_by line = record { status = 7; text = line }

-- P holds of the bytes that a source had left, which are at most 16,777,216; what it doesn't tell may be any bytes
pub record Finds (left : Option (List ℕ)) (P : List ℕ → Type 0) : Type 0 where
  pub bytes : List ℕ
  pub all : IsAll left bytes
  pub few : length bytes ≤ 16_777_216
  pub holds : P bytes

-- Where a text is read: if a read failed, that is told, whatever was read. Else the bytes are too many, memory ran out, or the bytes are
-- all that was left and the answer is one to them.
abbrev pub IsDueToText : (line : List ℕ) (Answers : List ℕ → Answer → Type 0) (left : Option (List ℕ)) (before now : Counter) → Answer → Type 0
IsDueToText line Answers left before now answer =
    (Rose before now × (answer ≡ read_fault))
    ⊎ (Stands before now × ((IsLonger left 16_777_216 × (answer ≡ too_long_by line))
    ⊎ ((answer ≡ no_memory)
    ⊎ Finds left (λ bytes. Answers bytes answer))))

-- Where nothing is read: memory ran out, or the answer is one to no bytes.
abbrev pub IsDueTo : (reads : Bool) (line : List ℕ) (Answers : List ℕ → Answer → Type 0) (left : Option (List ℕ)) (before now : Counter) → Answer → Type 0
IsDueTo true line Answers left before now answer = IsDueToText line Answers left before now answer
IsDueTo false line Answers left before now answer = (answer ≡ no_memory) ⊎ Answers [] answer

-- an answer that is due was offered
pub record IsDueOffered (Due : Answer → Type 0) (status : ℕ) (old new : Option (List ℕ)) : Type 0 where
  pub answer : Answer
  pub due : Due answer
  pub offered : IsOffered answer status old new

-- and the sink took it whole
pub record IsDueTaken (Due : Answer → Type 0) (status : ℕ) (old new : Option (List ℕ)) : Type 0 where
  pub answer : Answer
  pub due : Due answer
  pub whole : IsWhole answer status old new

-- there was no memory: the line that says so was appended, or the sink met a shortage
abbrev pub LacksMemory : Option (List ℕ) → Option (List ℕ) → Counter → Counter → Type 0
LacksMemory old new before now = Appends old new (codes "no memory\n") ⊎ Rose before now

-- ---- the statuses

abbrev pub IsOneOf : List ℕ → ℕ → Type 0
IsOneOf [] status = ⊥
IsOneOf (one ∷ others) status = (status ≡ one) ⊎ IsOneOf others status

-- 4 a read fault, 5 a write fault, 7 too many bytes and 8 no memory are no status of an answer to a text
abbrev pub IsFault : ℕ → Type 0
IsFault status = IsOneOf (4 ∷ 5 ∷ 7 ∷ 8 ∷ []) status

-- With which statuses a program ends whose answers have these: 5 a write fault and 8 no memory, always; 4 a read fault and 7 too many bytes,
-- where a text is read; and those of the answers.
abbrev pub statuses_of : (reads : Bool) → List ℕ → List ℕ
statuses_of true own = 5 ∷ 8 ∷ 4 ∷ 7 ∷ own
statuses_of false own = 5 ∷ 8 ∷ own
