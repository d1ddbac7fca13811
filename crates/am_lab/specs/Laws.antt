-- What an answer says, in other words.
use Rattle.std.specs.Prelude.{ℕ, List, Option}
use Rattle.am_io.specs.Causes.{Counter}
use Rattle.am_lab.specs.Answers.{IsAnswered}
use Rattle.am_lab_words.specs.declared.Asked.{Asked}

-- This holds wherever an answer that is due was offered: of what was asked for, the words that were given, what the source had left, its
-- counts before and now, the status, and what the sink held before and now.
abbrev pub OfEachAnswered : (Asked → List ℕ → Option (List ℕ) → Counter → Counter → ℕ → Option (List ℕ) → Option (List ℕ) → Type 0) → Type 0
OfEachAnswered P =
    (asked : Asked) (given : List ℕ) (left : Option (List ℕ)) (before now : Counter) (status : ℕ) (old new : Option (List ℕ)) →
    IsAnswered asked given left before now status old new → P asked given left before now status old new
