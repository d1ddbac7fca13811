-- The lines that a text with segments has beyond those of a scenario, by their first words; and what the others say of segments.
use Rattle.std.specs.Prelude.{ℕ, Bool, false, ◌==◌, List, [], ◌∷◌, codes, if◌then◌else◌, Option, Some, None}
use Rattle.std.specs.Str.{bytes_eq}
use Rattle.am_lexer.specs.Text.{number_of}
use Rattle.am_scenario.specs.declared.lines.head.Head.{Head}
use Rattle.am_scenario.specs.declared.lines.head.Head.TheVariants as head
use Rattle.am_scenario.specs.Lines.Heads.{head_of, section_of}
use Rattle.am_segment.specs.declared.own.Own.{Own}
use Rattle.am_segment.specs.declared.own.Own.TheVariants as own

abbrev pub thread_in : Option Head → Option ℕ
thread_in (Some (head.OfThread number)) = Some number
thread_in other = None

-- the number of a first word that is t and a number
unfoldable pub thread_word : List ℕ → Option ℕ
thread_word word = thread_in (head_of None word)

-- `tT xfer` and `tT serve`
unfoldable pub of_thread : Option ℕ → List (List ℕ) → Option (Own × List (List ℕ))
of_thread None words = None
of_thread (Some thread) [] = None
of_thread (Some thread) (verb ∷ words) =
    if bytes_eq verb (codes "xfer") then Some (own.Transfer thread, words) else
    if bytes_eq verb (codes "serve") then Some (own.Serve thread, words) else None

-- the kind of an own line, by its words, and the words behind those that tell it
unfoldable pub own_of : List (List ℕ) → Option (Own × List (List ℕ))
own_of [] = None
own_of (first ∷ words) = if bytes_eq first (codes "segment") then Some (own.Segment, words) else of_thread (thread_word first) words

-- the number that a line whose first word is `endpoint` has behind it
unfoldable pub declared_by : List (List ℕ) → Option ℕ
declared_by [] = None
declared_by (first ∷ []) = None
declared_by (first ∷ number ∷ words) = if bytes_eq first (codes "endpoint") then number_of number else None

abbrev pub is_of_script : Option Head → Bool
is_of_script None = false
is_of_script (Some head) = section_of head == 4

-- whether a line is of section 4, by its first word
unfoldable pub is_script : List (List ℕ) → Bool
is_script [] = false
is_script (first ∷ words) = is_of_script (head_of None first)
