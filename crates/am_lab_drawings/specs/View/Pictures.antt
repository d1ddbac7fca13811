-- The picture of some lines of a report.
use Rattle.std.specs.Prelude.{◌≡◌, ℕ, Option, Some, List, Result, Ok, Err, length, take, drop}
use Rattle.am_check.specs.Cut.{place_of}
use Rattle.am_check.specs.Follows.{IsBegun, IsEnded, ids_of}
use Rattle.am_office_entries.specs.declared.Entry.{Entry}
use Rattle.am_office_report.specs.Report.{report, summary}
use Rattle.am_scenario.specs.Laws.{Spells}
use Rattle.am_scenario_types.specs.Lists.{ScenarioLists}
use Rattle.am_scenario_types.specs.declared.parts.Form.{Form}
use Rattle.am_lab_picture.specs.Arrows.{arrows, crosses}
use Rattle.am_lab_picture.specs.Data.{PictureLists}
use Rattle.am_lab_picture.specs.Rows.{placed_rows}
use Rattle.am_lab_picture.specs.declared.data.Lines.{Lines}
use Rattle.am_lab_drawings.specs.View.Parts.{lines_of}
use Rattle.am_lab_drawings.specs.View.Standings.{lanes}
use Rattle.am_lab_drawings.specs.declared.view.parts.LineRange.{LineRange}
use Rattle.am_lab_drawings.specs.declared.view.parts.PictureFault.{PictureFault}

-- the picture of some lines of a journal
abbrev pub picture_of : ScenarioLists → List Entry → Lines → PictureLists
picture_of s journal lines =
    record {
      network = s.network;
      nodes = s.nodes;
      rows = placed_rows lines journal;
      arrows = arrows lines journal;
      crosses = crosses lines journal;
      lanes = lanes s journal lines;
      summary = summary journal;
    }

abbrev pub picture_by : ScenarioLists → List Entry → Result Lines PictureFault → Result PictureLists PictureFault
picture_by s journal (Ok lines) = Ok (picture_of s journal lines)
picture_by s journal (Err fault) = Err fault

-- What is shown of a report of a scenario: the picture of the lines that the part names, or why there is none.
pub record ShowsOf (form : Form) (s : ScenarioLists) (bytes : List ℕ) (part : Option LineRange) (answer : Result PictureLists PictureFault) : Type 0 where
  pub journal : List Entry
  pub begun : IsBegun form s journal
  pub ended : IsEnded form s journal
  pub report' : bytes ≡ report (ids_of s) journal
  pub answer' : answer ≡ picture_by s journal (lines_of (length journal) part)

-- What is shown of the report in a text: the report is that of a journal that follows the scenario in front of it.
pub record Shows (form : Form) (text : List ℕ) (part : Option LineRange) (answer : Result PictureLists PictureFault) : Type 0 where
  pub place : ℕ
  pub place' : place_of text ≡ Some place
  pub scenario : ScenarioLists
  pub spelled : Spells form (take place text) scenario
  pub shown : ShowsOf form scenario (drop place text) part answer
