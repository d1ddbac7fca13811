-- The parts of a text are what is known of it.
use Rattle.std.proofs.Common.{◌≡◌, ℕ, Option, Some, Result, Ok, List, drop, take, sym, ap, ◌∙◌, subst}
use Rattle.std.specs.Global.{Vec}
use Rattle.std.specs.Prelude.{IfOk}
use Rattle.am_check.specs.Cut.{place_of}
use Rattle.am_check.specs.Exact.{IsChecked}
use Rattle.am_check.specs.Follows.{IsBegun, IsEnded, ids_of}
use Rattle.am_check.specs.Verdict.{IsReportOf}
use Rattle.am_names.specs.declared.Serial.{Serial}
use Rattle.am_office_report.specs.Report.{report}
use Rattle.am_scenario.specs.Grammar.{grammar}
use Rattle.am_scenario_types.specs.declared.parts.Form.{Form}
use Rattle.am_scenario_types.specs.Lists.{ScenarioLists}
use Rattle.am_lab_reasons.specs.Parts.{HasParts, HasReport}
use Rattle.am_lab_reasons.specs.Reasons.{TellsReasons, TellsOf}
use Rattle.am_lab_reasons.proofs.Reported.{same_scenario, told_if}

one_place : (a b : ℕ) (o : Option ℕ) → o ≡ Some a → o ≡ Some b → a ≡ b
one_place a b o e f = cc

-- a text to which `check` says yes has a report behind a scenario
abbrev pub has_report : (form : Form) (text : List ℕ) → IsChecked form text → HasReport form text
has_report form text k = record { place = k.place; place' = k.place'; scenario = k.scenario; spelled = k.spelled }

pub place_in : (form : Form) (text : List ℕ) (h : HasReport form text) (s : ScenarioLists) (bytes : List ℕ) (p : HasParts form text s bytes) →
    h.place ≡ p.place
place_in form text h s bytes p = one_place h.place p.place (place_of text) h.place' p.place'

pub scenario_in : (form : Form) (text : List ℕ) (h : HasReport form text) (s : ScenarioLists) (bytes : List ℕ) → HasParts form text s bytes → h.scenario ≡ s
scenario_in form text h s bytes p =
    same_scenario h.scenario s (grammar form (take p.place text))
    (subst (λ (n : ℕ). grammar form (take n text) ≡ Ok h.scenario) (place_in form text h s bytes p) h.spelled) p.spelled

unfoldable pub report_in : (form : Form) (text : List ℕ) (k : IsChecked form text) (s : ScenarioLists) (bytes : List ℕ) → HasParts form text s bytes →
    IsReportOf form s bytes
report_in form text k s bytes p =
    let same = scenario_in form text (has_report form text k) s bytes p in
    record {
      journal = k.report.journal;
      begun = subst (λ (t : ScenarioLists). IsBegun form t k.report.journal) same k.report.begun;
      ended = subst (λ (t : ScenarioLists). IsEnded form t k.report.journal) same k.report.ended;
      text = p.report' ∙ ap (λ (n : ℕ). drop n text) (sym (place_in form text (has_report form text k) s bytes p)) ∙ k.report.text
          ∙ ap (λ (t : ScenarioLists). report (ids_of t) k.report.journal) same;
    }

-- what is told of the parts is told of the text
pub tells_parts : {E : Type 0} (form : Form) (text : List ℕ) (serial : Serial) (s : ScenarioLists) (bytes : List ℕ) → HasParts form text s bytes →
    (result : Result (Vec ℕ) E) → IfOk result (λ (out : Vec ℕ). TellsOf form s bytes serial out.items) →
    IfOk result (λ (out : Vec ℕ). TellsReasons form text serial out.items)
tells_parts form text serial s bytes p result told =
    told_if result (λ (out : List ℕ). TellsOf form s bytes serial out) (λ (out : List ℕ). TellsReasons form text serial out)
    (λ out of. record {
      place = p.place;
      place' = p.place';
      scenario = s;
      spelled = p.spelled;
      told = subst (λ (b : List ℕ). TellsOf form s b serial out) p.report' of;
    })
    told
