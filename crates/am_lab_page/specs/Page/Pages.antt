-- The page of a report, and what the command `page` answers.
use Rattle.std.specs.Prelude.{◌≡◌, ◌≢◌, ◌⊎◌, ℕ, nat_le, List, ◌++◌, [], codes, length, Option, Some, None, if◌then◌else◌}
use Rattle.am_check.specs.Exact.{IsChecked}
use Rattle.am_lab_drawings.specs.Charts.{ChartAnswers}
use Rattle.am_lab_state.specs.Changes.{changes}
use Rattle.am_lab_xml.specs.Escaped.{escaped}
use Rattle.am_main_lines.specs.Lines.{Answer}
use Rattle.am_office_entries.specs.declared.Entry.{Entry}
use Rattle.am_scenario_types.specs.Lists.{ScenarioLists}
use Rattle.am_scenario_types.specs.declared.parts.Form.{Form}
use Rattle.am_lab_page.specs.Json.Answers.{JsonAnswers}
use Rattle.am_lab_page.specs.declared.page.back.TheConstants.{BACK}
use Rattle.am_lab_page.specs.declared.page.front.TheConstants.{FRONT}
use Rattle.am_lab_page.specs.declared.page.middle.TheConstants.{MIDDLE}
use Rattle.am_lab_page.specs.declared.page.side.TheConstants.{SIDE}

-- what each entry of a journal changes, if it has at most 2,000
abbrev pub changes_told : ScenarioLists → List Entry → Option (List ℕ)
changes_told s journal = if nat_le (length journal) 2000 then Some (changes s journal) else None

-- the element with these changes, if they are told
unfoldable pub changes_element : Option (List ℕ) → List ℕ
changes_element None = []
changes_element (Some text) = codes "<template id=\"changes\">" ++ escaped text ++ codes "</template>\n"

-- a page with this journal, this picture and these changes in it: the rest is the same in every page
unfoldable pub page_of : (journal picture : List ℕ) → Option (List ℕ) → List ℕ
page_of journal picture told = FRONT.now ++ journal ++ MIDDLE.now ++ picture ++ SIDE.now ++ changes_element told ++ BACK.now

-- the page of a right report, with this journal and this picture
abbrev pub page_with : (journal picture : List ℕ) → ScenarioLists → List Entry → Answer
page_with journal picture s entries = record { status = 0; text = page_of journal picture (changes_told s entries) }

-- the report is right, and this is its page
pub record IsPage (form : Form) (bytes journal picture : List ℕ) (answer : Answer) : Type 0 where
  pub checked : IsChecked form bytes
  pub answer' : answer ≡ page_with journal picture checked.scenario checked.report.journal

-- the journal is told, and `chart` draws it, or tells why not
pub record WritesPage (form : Form) (bytes : List ℕ) (told answer : Answer) : Type 0 where
  pub right : told.status ≡ 0
  pub drawn : Answer
  pub draws : ChartAnswers form bytes None drawn
  pub more : ((drawn.status ≢ 0) × (answer ≡ drawn)) ⊎ ((drawn.status ≡ 0) × IsPage form bytes told.text drawn.text answer)

-- THE HEADLINE, for `page`: the answer is that of `json`, but where that tells a journal, it is the page with that text, with the picture that
-- `chart` answers, and with what each entry changes, where there are at most 2,000; where `chart` draws none, its answer.
pub record PageAnswers (form : Form) (bytes : List ℕ) (answer : Answer) : Type 0 where
  pub told : Answer
  pub tells : JsonAnswers form bytes told
  pub more : ((told.status ≢ 0) × (answer ≡ told)) ⊎ WritesPage form bytes told answer
