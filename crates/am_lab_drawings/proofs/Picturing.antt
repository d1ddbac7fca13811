-- What is shown of a message of the report in a text, and drawn of it.
use Rattle.std.proofs.Common.{◌≡◌, ℕ, Some, Result, Ok, Err, List, drop, take, sym, ap, ◌∙◌, subst}
use Rattle.std.specs.Prelude.{IfOk}
use Rattle.am_check.specs.Cut.{place_of}
use Rattle.am_check.specs.Exact.{IsChecked}
use Rattle.am_check.specs.Verdict.{IsReportOf}
use Rattle.am_main_lines.specs.Lines.{answer_in}
use Rattle.am_main_lines.specs.declared.outputs.Output.{Output}
use Rattle.am_names.specs.declared.Serial.{Serial}
use Rattle.am_office_entries.specs.declared.Entry.{Entry}
use Rattle.am_scenario.specs.Grammar.{grammar}
use Rattle.am_scenario_types.specs.declared.parts.Form.{Form}
use Rattle.am_scenario_types.specs.Lists.{ScenarioLists}
use Rattle.am_lab_picture.specs.Data.{PictureLists}
use Rattle.am_lab_reasons.proofs.Reported.{same_scenario}
use Rattle.am_lab_drawings.specs.Messages.{ChartsMessage, message_drawing}
use Rattle.am_lab_drawings.specs.View.Messages.{ShowsMessage, ShowsMessageOf, message_picture_of}
use Rattle.am_lab_drawings.proofs.Showing.{one_place}

shown_if : {E : Type 0} (r : Result PictureLists E) (P Q : PictureLists → Type 0) → ((p : PictureLists) → P p → Q p) → IfOk r P → IfOk r Q
shown_if (Ok p) P Q f h = f p h
shown_if (Err e) P Q f h = tt

-- the picture of a message of a report's journal
pub shown_in : {E : Type 0} (form : Form) (s : ScenarioLists) (bytes : List ℕ) (serial : Serial) (r : IsReportOf form s bytes) (journal : List Entry)
    (result : Result PictureLists E) → journal ≡ r.journal → IfOk result (λ (p : PictureLists). p ≡ message_picture_of s journal serial) →
    IfOk result (ShowsMessageOf form s bytes serial)
shown_in form s bytes serial r journal result is h =
    shown_if result (λ (p : PictureLists). p ≡ message_picture_of s journal serial) (ShowsMessageOf form s bytes serial)
    (λ p e. record {
      journal = r.journal;
      begun = r.begun;
      ended = r.ended;
      report' = r.text;
      picture' = e ∙ ap (λ (j : List Entry). message_picture_of s j serial) is;
    })
    h

-- and of the report in a text
pub shown_behind : {E : Type 0} (form : Form) (text : List ℕ) (serial : Serial) → IsChecked form text → (place : ℕ) (bytes : List ℕ) (s : ScenarioLists) →
    place_of text ≡ Some place → bytes ≡ drop place text → grammar form (take place text) ≡ Ok s → (result : Result PictureLists E) →
    ((f : Form) → IsReportOf f s bytes → IfOk result (ShowsMessageOf f s bytes serial)) → IfOk result (ShowsMessage form text serial)
shown_behind form text serial k place bytes s at behind spelled result shows =
    let e : k.place ≡ place = one_place k.place place (place_of text) k.place' at in
    let same : k.scenario ≡ s = same_scenario k.scenario s (grammar form (take place text))
    (subst (λ (p : ℕ). grammar form (take p text) ≡ Ok k.scenario) e k.spelled) spelled in
    let report' = subst (λ (t : ScenarioLists). IsReportOf form t (drop place text)) same
    (subst (λ (p : ℕ). IsReportOf form k.scenario (drop p text)) e k.report) in
    shown_if result (ShowsMessageOf form s bytes serial) (ShowsMessage form text serial)
    (λ p shown. record {
      place = place;
      place' = at;
      scenario = s;
      spelled = spelled;
      shown = subst (λ (b : List ℕ). ShowsMessageOf form s b serial p) behind shown;
    })
    (shows form (subst (λ (b : List ℕ). IsReportOf form s b) (sym behind) report'))

-- what is shown is drawn
pub charted : {E : Type 0} (form : Form) (text : List ℕ) (serial : Serial) (p : PictureLists) (result : Result Output E) → ShowsMessage form text serial p →
    IfOk result (λ (o : Output). answer_in o ≡ message_drawing serial p) → IfOk result (λ (o : Output). ChartsMessage form text serial (answer_in o))
charted form text serial p (Ok o) shows is = record { shown = p; shows = shows; answer' = is }
charted form text serial p (Err e) shows is = tt
