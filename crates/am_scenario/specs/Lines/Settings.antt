-- Sections 1 and 2: the version and the settings.
use Rattle.std.specs.Prelude.{ℕ, ◌==◌, List, codes, if◌then◌else◌, Option, Result, Ok, Err}
use Rattle.std.specs.Option.{is_some}
use Rattle.std.specs.Str.{bytes_eq}
use Rattle.am_lexer.specs.declared.what.What.{What}
use Rattle.am_lexer.specs.declared.what.What.TheVariants.{UnknownWord, OutOfRange, Twice}
use Rattle.am_lexer.specs.Fields.{◌>>=◌, word_at, within, ended}
use Rattle.am_scenario_types.specs.declared.parts.Form.{Form}
use Rattle.am_scenario_types.specs.declared.parts.Form.TheVariants.{Step, Run}
use Rattle.am_scenario_types.specs.declared.parts.Network.{Network}
use Rattle.am_scenario_types.specs.declared.parts.Network.TheVariants.{Direct, Packet}
use Rattle.am_scenario.specs.declared.drafts.settings.Version.{Version}
use Rattle.am_scenario.specs.declared.drafts.settings.Version.TheVariants.{One, Two}
use Rattle.am_scenario.specs.declared.drafts.settings.Settings.{Settings}
use Rattle.am_scenario.specs.declared.drafts.settings.Setting.{Setting}
use Rattle.am_scenario.specs.declared.drafts.settings.Setting.TheVariants as setting
use Rattle.am_scenario.specs.declared.drafts.line.Line.{Line}
use Rattle.am_scenario.specs.declared.drafts.line.Line.TheVariants as line
use Rattle.am_scenario.specs.Drafts.Said.{Said}
use Rattle.am_scenario.specs.declared.lines.head.SettingName.{SettingName}
use Rattle.am_scenario.specs.declared.lines.head.SettingName.TheVariants.{Network as NetworkWord, Nodes, Frames, Channels, Tries, Bounces, Pool, Keep, Log}
use Rattle.am_scenario.specs.declared.lines.head.SettingName.TheVariants.{Turns}

abbrev pub version_of : ℕ → Version
version_of number = if number == 1 then One else Two

-- am2 V
unfoldable pub version_line : Said → List (List ℕ) → Result Line What
version_line said words = do
  version ← within 1 2 words
  _ ← ended version.1
  if is_some said.version then Err Twice else Ok (line.Version (version_of version.0))

-- the one number of a line that stands at most once
unfoldable pub once_within : ℕ → ℕ → Option ℕ → List (List ℕ) → Result ℕ What
once_within low high stood words = do
  number ← within low high words
  _ ← ended number.1
  if is_some stood then Err Twice else Ok number.0

-- the direct network in the form Step alone
unfoldable pub network_of : Form → List ℕ → Result Network What
network_of Step word =
    if bytes_eq word (codes "direct") then Ok Direct else
    if bytes_eq word (codes "packet") then Ok Packet else Err UnknownWord
network_of Run word =
    if bytes_eq word (codes "direct") then Err OutOfRange else
    if bytes_eq word (codes "packet") then Ok Packet else Err UnknownWord

unfoldable pub network_setting : Form → Option Network → List (List ℕ) → Result Network What
network_setting form stood words = do
  word ← word_at words
  network ← network_of form word.0
  _ ← ended word.1
  if is_some stood then Err Twice else Ok network

-- what was read, as a setting
abbrev pub set_to : {A : Type 0} → (A → Setting) → Result A What → Result Setting What
set_to named read = do
  value ← read
  Ok (named value)

unfoldable pub setting_line : Form → Settings → SettingName → List (List ℕ) → Result Setting What
setting_line form said NetworkWord words = set_to setting.Network (network_setting form said.network words)
setting_line form said Nodes words = set_to setting.Nodes (once_within 1 16 said.nodes words)
setting_line form said Frames words = set_to setting.Frames (once_within 2 16 said.frames words)
setting_line form said Channels words = set_to setting.Channels (once_within 1 4 said.channels words)
setting_line form said Tries words = set_to setting.Tries (once_within 2 16 said.tries words)
setting_line form said Bounces words = set_to setting.Bounces (once_within 0 16 said.bounces words)
setting_line form said Pool words = set_to setting.Pool (once_within 0 32 said.pool words)
setting_line form said Keep words = set_to setting.Keep (once_within 0 64 said.keep words)
setting_line form said Log words = set_to setting.Log (once_within 1 65_536 said.log words)
setting_line form said Turns words = set_to setting.Turns (once_within 0 10_000 said.turns words)

-- the line of a setting
abbrev pub set_line : Form → Settings → SettingName → List (List ℕ) → Result Line What
set_line form said name words = do
  setting ← setting_line form said name words
  Ok (line.Setting setting)
