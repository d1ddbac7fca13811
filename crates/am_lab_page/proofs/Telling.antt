-- The journal of a report, told as JSON.
use Rattle.std.proofs.Common.{◌≡◌, ℕ, ◌+◌, List, [], ◌∷◌, ◌++◌, take, drop, length, map, Option, Some, Result, Ok, refl, sym, ap, ◌∙◌, subst, inr, arith}
use Rattle.std.proofs.lemmas.List.{take_all}
use Rattle.std.specs.Global.{Vec}
use Rattle.std.specs.Option.{option_map}
use Rattle.std.specs.Prelude.{IfOk}
use Rattle.am_check.specs.Cut.{place_of}
use Rattle.am_check.specs.Exact.{IsChecked}
use Rattle.am_check.specs.Follows.{IsBegun, IsEnded, ids_of}
use Rattle.am_check.specs.Verdict.{IsReportOf}
use Rattle.am_lab_picture.specs.Rows.{entries_in, row, rows}
use Rattle.am_lab_picture.specs.declared.data.Row.{Row}
use Rattle.am_lab_reasons.proofs.Reported.{same_scenario}
use Rattle.am_lemmas.specs.Numbered.{numbered}
use Rattle.am_main_step.specs.Checks.{CheckAnswers}
use Rattle.am_main_lines.specs.Lines.{Answer}
use Rattle.am_office_entries.specs.declared.Entry.{Entry}
use Rattle.am_office_report.specs.Report.{report}
use Rattle.am_scenario.specs.Grammar.{grammar}
use Rattle.am_scenario_types.specs.Lists.{ScenarioLists}
use Rattle.am_scenario_types.specs.declared.parts.Form.{Form}
use Rattle.am_lab_page.specs.Json.Answers.{JsonAnswers}
use Rattle.am_lab_page.specs.Json.Objects.{json_of, object_line}
use Rattle.am_lab_page.specs.Page.Pages.{changes_told}

-- ---- all rows

all_lines : (journal : List Entry) → entries_in (record { first = 3; count = length journal }) journal ≡ journal
all_lines journal = take_all (length journal) journal (omega arith)

numbered_map : {A B C : Type 0} (f : ℕ → B → List C) (g : A → B) (number : ℕ) (xs : List A) → numbered f number (map g xs) ≡ numbered (λ n x. f n (g x)) number xs
numbered_map f g number [] = refl
numbered_map f g number (x ∷ xs) = ap (λ l. f number (g x) ++ l) (numbered_map f g (number + 1) xs)

all_rows : (journal : List Entry) (made : List Row) → made ≡ rows (record { first = 3; count = length journal }) journal →
    numbered object_line 3 made ≡ json_of journal
all_rows journal made is =
    ap (λ (l : List Row). numbered object_line 3 l) (is ∙ ap (λ (l : List Entry). map (row journal) l) (all_lines journal))
    ∙ numbered_map object_line (row journal) 3 journal

pub all_rows_by : (journal seen : List Entry) (count : ℕ) (made : List Row) (text : List ℕ) → text ≡ numbered object_line 3 made →
    made ≡ rows (record { first = 3; count = count }) seen → seen ≡ journal → count ≡ length journal → text ≡ json_of journal
all_rows_by journal seen count made text is of same long =
    is ∙ all_rows journal made (of ∙ ap (λ (l : List Entry). rows (record { first = 3; count = count }) l) same
    ∙ ap (λ (n : ℕ). rows (record { first = 3; count = n }) journal) long)

-- ---- the report behind its scenario

one_place : (a b : ℕ) (o : Option ℕ) → o ≡ Some a → o ≡ Some b → a ≡ b
one_place a b o e f = cc

scenario_is : (form : Form) (text : List ℕ) (place : ℕ) (s : ScenarioLists) (k : IsChecked form text) → place_of text ≡ Some place →
    grammar form (take place text) ≡ Ok s → k.scenario ≡ s
scenario_is form text place s k at spelled =
    let e : k.place ≡ place = one_place k.place place (place_of text) k.place' at in
    same_scenario k.scenario s (grammar form (take place text)) (subst (λ (p : ℕ). grammar form (take p text) ≡ Ok k.scenario) e k.spelled) spelled

-- the report of what was read
pub report_is : (form : Form) (text : List ℕ) (place : ℕ) (bytes : List ℕ) (s : ScenarioLists) (k : IsChecked form text) → place_of text ≡ Some place →
    bytes ≡ drop place text → grammar form (take place text) ≡ Ok s → IsReportOf form s bytes
report_is form text place bytes s k at behind spelled =
    let e : k.place ≡ place = one_place k.place place (place_of text) k.place' at in
    let same = scenario_is form text place s k at spelled in
    record {
      journal = k.report.journal;
      begun = subst (λ (z : ScenarioLists). IsBegun form z k.report.journal) same k.report.begun;
      ended = subst (λ (z : ScenarioLists). IsEnded form z k.report.journal) same k.report.ended;
      text = behind ∙ ap (λ (p : ℕ). drop p text) (sym e) ∙ k.report.text ∙ ap (λ (z : ScenarioLists). report (ids_of z) k.report.journal) same;
    }

pub told_of_text : {E : Type 0} (form : Form) (text : List ℕ) (place : ℕ) (bytes : List ℕ) (s : ScenarioLists) (result : Result (Vec ℕ) E) →
    place_of text ≡ Some place → bytes ≡ drop place text → grammar form (take place text) ≡ Ok s →
    ((f : Form) (r : IsReportOf f s bytes) → IfOk result (λ (out : Vec ℕ). out.items ≡ json_of r.journal)) →
    (k : IsChecked form text) → IfOk result (λ (out : Vec ℕ). out.items ≡ json_of k.report.journal)
unfolding report_is
told_of_text form text place bytes s result at behind spelled told k = told form (report_is form text place bytes s k at behind spelled)

-- so of what each entry changes
pub changes_of_text : {E : Type 0} (form : Form) (text : List ℕ) (place : ℕ) (bytes : List ℕ) (s : ScenarioLists) (result : Result (Option (Vec ℕ)) E) →
    place_of text ≡ Some place → bytes ≡ drop place text → grammar form (take place text) ≡ Ok s →
    ((f : Form) (r : IsReportOf f s bytes) → IfOk result (λ (told : Option (Vec ℕ)). option_map (λ (v : Vec ℕ). v.items) told ≡ changes_told s r.journal)) →
    (k : IsChecked form text) →
    IfOk result (λ (told : Option (Vec ℕ)). option_map (λ (v : Vec ℕ). v.items) told ≡ changes_told k.scenario k.report.journal)
unfolding report_is
changes_of_text form text place bytes s result at behind spelled told k =
    subst
    (λ (z : ScenarioLists).
    IfOk result (λ (told : Option (Vec ℕ)). option_map (λ (v : Vec ℕ). v.items) told ≡ changes_told z k.report.journal))
    (sym (scenario_is form text place s k at spelled)) (told form (report_is form text place bytes s k at behind spelled))

-- ---- the answer

pub json_right : (form : Form) (bytes : List ℕ) (checked : Answer) (text : List ℕ) → CheckAnswers form bytes checked → checked.status ≡ 0 →
    (k : IsChecked form bytes) → text ≡ json_of k.report.journal → JsonAnswers form bytes (record { status = 0; text = text })
json_right form bytes checked text checks right k is =
    record {
      checked = checked;
      checks = checks;
      more = inr (record { right = right; told = k; answer' = ap (λ (t : List ℕ). record { status = 0; text = t }) is });
    }
