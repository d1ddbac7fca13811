-- The picture of one message of a report.
use Rattle.std.specs.Prelude.{◌≡◌, ℕ, Some, List, take, drop}
use Rattle.am_check.specs.Cut.{place_of}
use Rattle.am_check.specs.Follows.{IsBegun, IsEnded, ids_of}
use Rattle.am_names.specs.declared.Serial.{Serial}
use Rattle.am_office_entries.specs.declared.Entry.{Entry}
use Rattle.am_office_report.specs.Report.{report}
use Rattle.am_scenario.specs.Laws.{Spells}
use Rattle.am_scenario_types.specs.Lists.{ScenarioLists}
use Rattle.am_scenario_types.specs.declared.parts.Form.{Form}
use Rattle.am_lab_picture.specs.Data.{PictureLists}
use Rattle.am_lab_picture.specs.Messages.{message_picture}
use Rattle.am_lab_drawings.specs.View.Parts.{all_lines}
use Rattle.am_lab_drawings.specs.View.Pictures.{picture_of}

-- what the picture of a whole journal shows of a message
abbrev pub message_picture_of : ScenarioLists → List Entry → Serial → PictureLists
message_picture_of s journal serial = message_picture (picture_of s journal (all_lines journal)) serial

-- What is shown of a message of a report of a scenario.
pub record ShowsMessageOf (form : Form) (s : ScenarioLists) (bytes : List ℕ) (serial : Serial) (picture : PictureLists) : Type 0 where
  pub journal : List Entry
  pub begun : IsBegun form s journal
  pub ended : IsEnded form s journal
  pub report' : bytes ≡ report (ids_of s) journal
  pub picture' : picture ≡ message_picture_of s journal serial

-- What is shown of a message of the report in a text: the report is that of a journal that follows the scenario in front of it.
pub record ShowsMessage (form : Form) (text : List ℕ) (serial : Serial) (picture : PictureLists) : Type 0 where
  pub place : ℕ
  pub place' : place_of text ≡ Some place
  pub scenario : ScenarioLists
  pub spelled : Spells form (take place text) scenario
  pub shown : ShowsMessageOf form scenario (drop place text) serial picture
