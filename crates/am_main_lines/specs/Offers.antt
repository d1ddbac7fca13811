-- The answers that don't look at the bytes, and what a sink takes of an answer.
use Rattle.std.specs.Prelude.{◌≡◌, ◌⊎◌, ℕ, ◌<◌, List, codes, length, take, Option}
use Rattle.std.specs.Io.KnownBytes.{Appends}
use Rattle.am_session.specs.Answer.{Answer}

abbrev pub read_fault : Answer
read_fault = record { status = 4; text = codes "read fault\n" }

abbrev pub too_long : Answer
too_long = record { status = 7; text = codes "input too long\n" }

abbrev pub no_memory : Answer
no_memory = record { status = 8; text = codes "no memory\n" }

-- a text that is longer than its words may be counted in
abbrev pub text_too_long : Answer
text_too_long = record { status = 11; text = codes "text too long\n" }

-- the status and the whole text are those of the answer
pub record IsWhole (answer : Answer) (status : ℕ) (old new : Option (List ℕ)) : Type 0 where
  pub status' : status ≡ answer.status
  pub given : Appends old new answer.text

-- a front of the text was appended, and not all of it: the status is that of a fault of the sink or of want of memory
pub record IsCutShort (text : List ℕ) (status : ℕ) (old new : Option (List ℕ)) : Type 0 where
  pub status' : (status ≡ 5) ⊎ (status ≡ 8)
  pub count : ℕ
  pub shorter : count < length text
  pub given : Appends old new (take count text)

-- The answer was offered to the sink. It took the text whole, under the answer's status; or a shorter front of it, with
-- status 5 where the sink failed, or with status 8 where the sink found no memory.
abbrev pub IsOffered : Answer → ℕ → Option (List ℕ) → Option (List ℕ) → Type 0
IsOffered answer status old new = IsWhole answer status old new ⊎ IsCutShort answer.text status old new
