-- What the words after the program's name ask for. Their numbers are spelled as numbers are printed: one or more digits without a leading
-- zero, with a value below 2 ^ 64.
use Rattle.std.specs.Prelude.{◌≡◌, ℕ, ◌<◌, ◌≤◌, ◌&&◌, nat_le, Bool, true, false, List, [], ◌∷◌, codes, if◌then◌else◌, map, Option, Some, None, String, string_bytes}
use Rattle.std.specs.Global.{Global}
use Rattle.std.specs.Str.{bytes_eq}
use Rattle.std.specs.Option.{option_and_then, option_map}
use Rattle.am_check_lines.specs.Reading.{printed_number}
use Rattle.am_scenario_types.specs.declared.parts.Form.{Form}
use Rattle.am_scenario_types.specs.declared.parts.Form.TheVariants as Forms
use Rattle.am_main.specs.declared.commands.Command.{Command}
use Rattle.am_main.specs.declared.commands.Command.TheVariants as Commands

unfoldable pub of_one_word : List ℕ → Option Command
of_one_word word =
    if bytes_eq word (codes "step") then Some Commands.Step else
    if bytes_eq word (codes "run") then Some Commands.Run else
    if bytes_eq word (codes "segments") then Some Commands.Segments else
    if bytes_eq word (codes "session") then Some Commands.Session else None

-- the form that a word names
unfoldable pub form_of : List ℕ → Option Form
form_of word =
    if bytes_eq word (codes "step") then Some Forms.Step else
    if bytes_eq word (codes "run") then Some Forms.Run else None

unfoldable pub of_two_words : List ℕ → List ℕ → Option Command
of_two_words word other =
    if bytes_eq word (codes "make") then option_map Commands.Make (printed_number other) else
    if bytes_eq word (codes "check") then option_map Commands.Check (form_of other) else None

-- `count` is asked for with 1 to 8 nodes and 0 to 10,000 turns
unfoldable pub count_of : ℕ → ℕ → Option Command
count_of nodes turns = if nat_le 1 nodes && nat_le nodes 8 && nat_le turns 10_000 then Some (Commands.Count nodes turns) else None

unfoldable pub of_three_words : List ℕ → List ℕ → List ℕ → Option Command
of_three_words word nodes turns =
    if bytes_eq word (codes "count") then option_and_then (λ (n : ℕ). option_and_then (count_of n) (printed_number turns)) (printed_number nodes) else None

-- what the words ask for, if they have one of the forms: `step`, `run`, `make` and a number, `segments`, `session`, `count` and two
-- numbers, or `check` and the name of a form
unfoldable pub command_of : List (List ℕ) → Option Command
command_of (word ∷ []) = of_one_word word
command_of (word ∷ other ∷ []) = of_two_words word other
command_of (word ∷ nodes ∷ turns ∷ []) = of_three_words word nodes turns
command_of words = None

-- the same of the words as the program gets them
abbrev pub asked_by : List (String Global) → Option Command
asked_by words = command_of (map string_bytes words)

-- the numbers of a command are ones that it takes
abbrev pub IsInRange : Command → Type 0
IsInRange (Commands.Count nodes turns) = (0 < nodes) × (nodes ≤ 8) × (turns ≤ 10_000)
IsInRange command = Unit {0}

-- the words ask for this
abbrev pub Asks : List (List ℕ) → Command → Type 0
Asks words command = command_of words ≡ Some command

-- whether what the words ask for needs a text from the source
abbrev pub reads_text : Option Command → Bool
reads_text None = false
reads_text (Some (Commands.Make n)) = false
reads_text (Some command) = true
