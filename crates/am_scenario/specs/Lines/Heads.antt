-- The first word of a line, and the section of the line.
use Rattle.std.specs.Prelude.{ℕ, Bool, true, false, ◌==◌, List, [], ◌∷◌, codes, if◌then◌else◌, Option, Some, None}
use Rattle.std.specs.Option.{option_map, option_or}
use Rattle.std.specs.Str.{bytes_eq}
use Rattle.am_lexer.specs.Text.{is_digit, number_of}
use Rattle.am_scenario_types.specs.declared.parts.Form.{Form}
use Rattle.am_scenario_types.specs.declared.parts.Form.TheVariants.{Step, Run}
use Rattle.am_scenario.specs.declared.drafts.settings.Version.{Version}
use Rattle.am_scenario.specs.declared.drafts.settings.Version.TheVariants.{One, Two}
use Rattle.am_scenario.specs.declared.lines.head.SettingName.{SettingName}
use Rattle.am_scenario.specs.declared.lines.head.SettingName.TheVariants.{Network, Nodes, Frames, Channels, Tries, Bounces, Pool, Keep, Log, Turns}
use Rattle.am_scenario.specs.declared.lines.head.Head.{Head}
use Rattle.am_scenario.specs.declared.lines.head.Head.TheVariants as head

-- whether a word's second byte is a digit, which none of a keyword is
abbrev pub has_digit : List ℕ → Bool
has_digit [] = false
has_digit (letter ∷ []) = false
has_digit (letter ∷ digit ∷ rest) = is_digit digit

-- Version 2 knows pools. Until its line has stood, the text is of version 1.
abbrev pub knows_pools : Option Version → Bool
knows_pools (Some Two) = true
knows_pools (Some One) = false
knows_pools None = false

-- section 2
unfoldable pub setting_name_of : Option Version → List ℕ → Option SettingName
setting_name_of version word =
    if bytes_eq word (codes "network") then Some Network else
    if bytes_eq word (codes "nodes") then Some Nodes else
    if bytes_eq word (codes "frames") then Some Frames else
    if bytes_eq word (codes "channels") then Some Channels else
    if bytes_eq word (codes "tries") then Some Tries else
    if bytes_eq word (codes "bounces") then Some Bounces else
    if bytes_eq word (codes "keep") then Some Keep else
    if bytes_eq word (codes "log") then Some Log else
    if bytes_eq word (codes "turns") then Some Turns else
    if bytes_eq word (codes "pool") then (if knows_pools version then Some Pool else None) else None

-- section 3
unfoldable pub declaration_of : List ℕ → Option Head
declaration_of word =
    if bytes_eq word (codes "endpoint") then Some head.Endpoint else
    if bytes_eq word (codes "bundle") then Some head.Bundle else
    if bytes_eq word (codes "thread") then Some head.Thread else
    if bytes_eq word (codes "plan") then Some head.Plan else
    if bytes_eq word (codes "swapfault") then Some head.SwapFault else None

-- a letter followed directly by a number
abbrev pub lettered : ℕ → List ℕ → Option Head
lettered letter digits =
    if letter == 116 then option_map head.OfThread (number_of digits) else
    if letter == 105 then option_map head.OfInterface (number_of digits) else
    if letter == 100 then option_map head.OfDriver (number_of digits) else None

-- section 4
unfoldable pub actor_of : List ℕ → Option Head
actor_of [] = None
actor_of (letter ∷ digits) =
    if bytes_eq (letter ∷ digits) (codes "x") then Some head.Outside else lettered letter digits

-- what the first word says that a line is
unfoldable pub head_of : Option Version → List ℕ → Option Head
head_of version word =
    if bytes_eq word (codes "am2") then Some head.Version else
    option_or (option_map head.Setting (setting_name_of version word)) (option_or (declaration_of word) (actor_of word))

abbrev pub section_of : Head → ℕ
section_of head.Version = 1
section_of (head.Setting name) = 2
section_of head.Endpoint = 3
section_of head.Bundle = 3
section_of head.Thread = 3
section_of head.Plan = 3
section_of head.SwapFault = 3
section_of head.Outside = 4
section_of (head.OfThread number) = 4
section_of (head.OfInterface number) = 4
section_of (head.OfDriver number) = 4

-- Plans and the calls of threads are for runs, single events for steps. All other lines are for both.
abbrev pub is_of_form : Form → Head → Bool
is_of_form Step head.Plan = false
is_of_form Step (head.OfThread number) = false
is_of_form Run head.Outside = false
is_of_form Run (head.OfInterface number) = false
is_of_form Run (head.OfDriver number) = false
is_of_form form head = true
