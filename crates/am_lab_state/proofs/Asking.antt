-- What is asked for of a report's journal.
use Rattle.std.proofs.Common.{◌≡◌, ℕ, ◌+◌, ◌-◌, ◌<◌, ◌≤◌, ◌^◌, List, Bool, true, false, Option, Some, None, Result, Ok, Err, drop, length, take, refl, sym, ap, ◌∙◌, arith, subst}
use Rattle.std.proofs.lemmas.Bool.{and_parts, leb-true, ltb-true}
use Rattle.std.proofs.lemmas.List.{take_all}
use Rattle.std.specs.Global.{Vec}
use Rattle.std.specs.Option.{option_map}
use Rattle.std.specs.Prelude.{IfOk, nat_le, nat_lt, if◌then◌else◌}
use Rattle.am_check.specs.Cut.{place_of}
use Rattle.am_check.specs.Exact.{IsChecked}
use Rattle.am_check.specs.Verdict.{IsReportOf, count_of}
use Rattle.am_lexer.specs.Text.{lines_of}
use Rattle.am_main_lines.specs.Lines.{Answer, answer_in}
use Rattle.am_main_lines.specs.declared.outputs.Output.{Output}
use Rattle.am_office_entries.specs.declared.Entry.{Entry}
use Rattle.am_scenario.specs.Grammar.{grammar}
use Rattle.am_scenario_types.specs.Lawful.{IsLawful}
use Rattle.am_scenario_types.specs.Lists.{ScenarioLists}
use Rattle.am_scenario_types.specs.declared.parts.Form.{Form}
use Rattle.am_lab_reasons.proofs.Reported.{reported, same_scenario}
use Rattle.am_lab_state.specs.Answers.{TellsStateIn, answer_by, asked_text, behind, difference_of, is_line, state_answer, up_to}
use Rattle.am_lab_state.specs.Fronts.{HasSoMany, IsFrontOf}
use Rattle.am_lab_state.specs.Texts.{state_text}
use Rattle.am_lab_state.specs.declared.asked.StateLines.{StateLines}

-- ---- the state behind a line

pub has_line_of : (s : ScenarioLists) (journal : List Entry) (count line : ℕ) (text : List ℕ) → length journal ≡ count → is_line count line ≡ true →
    text ≡ state_text s (take (line - 2) journal) → Some text ≡ behind s journal line
has_line_of s journal count line text long h is =
    ap (λ (t : List ℕ). Some t) is
    ∙ sym (ap (λ (b : Bool). if b then Some (state_text s (up_to line journal)) else None) (ap (λ (n : ℕ). is_line n line) long ∙ h))

pub has_no_line : (s : ScenarioLists) (journal : List Entry) (count line : ℕ) → length journal ≡ count → is_line count line ≡ false → None ≡ behind s journal line
has_no_line s journal count line long h =
    sym (ap (λ (b : Bool). if b then Some (state_text s (up_to line journal)) else None) (ap (λ (n : ℕ). is_line n line) long ∙ h))

pub line_low : (count line : ℕ) → is_line count line ≡ true → 3 ≤ line
line_low count line h = leb-true 3 line (and_parts (nat_le 3 line) (nat_lt line (count + 3)) h).0

pub line_within : (count line : ℕ) (journal : List Entry) → is_line count line ≡ true → length journal ≡ count → line - 2 ≤ length journal
line_within count line journal h long =
    let below = ltb-true line (count + 3) (and_parts (nat_le 3 line) (nat_lt line (count + 3)) h).1 in
    omega (arith, below, long)

pub line_front : (form : Form) (s : ScenarioLists) (bytes : List ℕ) (count line : ℕ) → is_line count line ≡ true → HasSoMany form s bytes count →
    IsFrontOf form s bytes (line - 2)
line_front form s bytes count line h r = record { report = r.report; within = line_within count line r.report.journal h r.long }

-- ---- the whole journal

pub whole_front : (form : Form) (s : ScenarioLists) (bytes : List ℕ) (count : ℕ) → HasSoMany form s bytes count → IsFrontOf form s bytes count
whole_front form s bytes count r = let long = r.long in record { report = r.report; within = omega (arith, long) }

pub whole_text : (s : ScenarioLists) (journal : List Entry) (count : ℕ) (text : List ℕ) → length journal ≡ count → text ≡ state_text s (take count journal) →
    Some text ≡ Some (state_text s journal)
whole_text s journal count text long is =
    ap (λ (t : List ℕ). Some t) (is ∙ ap (state_text s) (take_all count journal (omega (arith, long))))

pub so_long : (count : ℕ) (journal : List Entry) → length journal ≡ count → count ≤ length journal
so_long count journal long = omega (arith, long)

-- ---- two lines

pub both_same : {E : Type 0} (result : Result (Option (Vec ℕ)) E) (a b c d : Option (List ℕ)) → a ≡ c → b ≡ d →
    IfOk result (λ (t : Option (Vec ℕ)). option_map (λ (v : Vec ℕ). v.items) t ≡ difference_of a b) →
    IfOk result (λ (t : Option (Vec ℕ)). option_map (λ (v : Vec ℕ). v.items) t ≡ difference_of c d)
both_same (Ok t) a b c d ea eb h = h ∙ ap (λ (x : Option (List ℕ)). difference_of x b) ea ∙ ap (λ (x : Option (List ℕ)). difference_of c x) eb
both_same (Err e) a b c d ea eb h = tt

-- ---- the report

one_count : (a b : ℕ) (o : Option ℕ) → o ≡ Some a → o ≡ Some b → a ≡ b
one_count a b o e f = cc

pub counted : (form : Form) (s : ScenarioLists) → IsLawful s → (bytes : List ℕ) → length bytes < 2 ^ 31 → (r : IsReportOf form s bytes) → (count : ℕ) →
    count_of (lines_of bytes) ≡ Some count → length r.journal ≡ count
counted form s lawful bytes few r count is =
    one_count (length r.journal) count (count_of (lines_of bytes)) (reported form s lawful bytes few r).count is

pub so_many : (form : Form) (s : ScenarioLists) → IsLawful s → (bytes : List ℕ) → length bytes < 2 ^ 31 → IsReportOf form s bytes → (count : ℕ) →
    count_of (lines_of bytes) ≡ Some count → HasSoMany form s bytes count
so_many form s lawful bytes few r count is = record { report = r; long = counted form s lawful bytes few r count is }

pub count_fits : (form : Form) (s : ScenarioLists) → IsLawful s → (bytes : List ℕ) → length bytes < 2 ^ 31 → IsReportOf form s bytes → (count : ℕ) →
    count_of (lines_of bytes) ≡ Some count → count < 2 ^ 31
count_fits form s lawful bytes few r count is =
    let long = counted form s lawful bytes few r count is in
    let low = (reported form s lawful bytes few r).low in
    omega (arith, long, low, few)

pub answered_of : {E : Type 0} (result : Result Output E) (s : ScenarioLists) (journal : List Entry) (lines : StateLines) (count : ℕ)
    (text : Option (List ℕ)) → length journal ≡ count → text ≡ asked_text s journal lines →
    IfOk result (λ (o : Output). answer_in o ≡ answer_by count text) → IfOk result (λ (o : Output). answer_in o ≡ state_answer s journal lines)
answered_of (Ok o) s journal lines count text long is h =
    h ∙ ap (answer_by count) is ∙ ap (λ (n : ℕ). answer_by n (asked_text s journal lines)) (sym long)
answered_of (Err e) s journal lines count text long is h = tt

one_place : (a b : ℕ) (o : Option ℕ) → o ≡ Some a → o ≡ Some b → a ≡ b
one_place a b o e f = cc

told_if : {E : Type 0} (r : Result Output E) (P Q : Answer → Type 0) → ((x : Answer) → P x → Q x) → IfOk r (λ (o : Output). P (answer_in o)) →
    IfOk r (λ (o : Output). Q (answer_in o))
told_if (Ok o) P Q f h = f (answer_in o) h
told_if (Err e) P Q f h = tt

pub report_in : (form : Form) (text : List ℕ) → IsChecked form text → (place : ℕ) (bytes : List ℕ) (s : ScenarioLists) → place_of text ≡ Some place →
    bytes ≡ drop place text → grammar form (take place text) ≡ Ok s → IsReportOf form s bytes
report_in form text k place bytes s at behind' spelled =
    let e : k.place ≡ place = one_place k.place place (place_of text) k.place' at in
    let same : k.scenario ≡ s = same_scenario k.scenario s (grammar form (take place text))
    (subst (λ (p : ℕ). grammar form (take p text) ≡ Ok k.scenario) e k.spelled) spelled in
    let report' = subst (λ (t : ScenarioLists). IsReportOf form t (drop place text)) same
    (subst (λ (p : ℕ). IsReportOf form k.scenario (drop p text)) e k.report) in
    subst (λ (b : List ℕ). IsReportOf form s b) (sym behind') report'

told_cut : {E : Type 0} (form : Form) (text : List ℕ) (lines : StateLines) (place : ℕ) (s : ScenarioLists) → place_of text ≡ Some place →
    grammar form (take place text) ≡ Ok s → (result : Result Output E) → (r : IsReportOf form s (drop place text)) →
    IfOk result (λ (o : Output). answer_in o ≡ state_answer s r.journal lines) → IfOk result (λ (o : Output). TellsStateIn form text lines (answer_in o))
told_cut form text lines place s at spelled result r told =
    told_if result (λ (x : Answer). x ≡ state_answer s r.journal lines) (λ (x : Answer). TellsStateIn form text lines x)
    (λ x p. record { place = place; place' = at; scenario = s; spelled = spelled; told = record { report = r; answer' = p } }) told

pub told_all : {E : Type 0} (form : Form) (text : List ℕ) (lines : StateLines) → IsChecked form text → (place : ℕ) (bytes : List ℕ) (s : ScenarioLists) →
    place_of text ≡ Some place → bytes ≡ drop place text → grammar form (take place text) ≡ Ok s → (result : Result Output E) →
    ((f : Form) (r : IsReportOf f s bytes) → IfOk result (λ (o : Output). answer_in o ≡ state_answer s r.journal lines)) →
    IfOk result (λ (o : Output). TellsStateIn form text lines (answer_in o))
told_all form text lines k place bytes s at behind' spelled result told =
    let here = subst (λ (b : List ℕ). (f : Form) (r : IsReportOf f s b) → IfOk result (λ (o : Output). answer_in o ≡ state_answer s r.journal lines)) behind' told in
    let r = report_in form text k place (drop place text) s at refl spelled in
    told_cut form text lines place s at spelled result r (here form r)
