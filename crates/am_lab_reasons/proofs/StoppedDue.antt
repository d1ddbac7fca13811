-- Where a report stands that is stopped at a line, and what its line tells.
use Rattle.std.proofs.Common.{◌≡◌, ◌<◌, ◌≤◌, ◌+◌, ◌-◌, ◌^◌, ℕ, Bool, true, false, Option, Some, Result, Ok, Err, List, [], ◌∷◌, length}
use Rattle.std.proofs.Common.{map, take, drop, sym, ap, ◌∙◌, subst, inl, inr, arith, length-append, length-drop, if◌then◌else◌}
use Rattle.std.specs.Global.{Vec}
use Rattle.std.specs.Prelude.{◌==◌, IfOk}
use Rattle.std.specs.List.{onto_first}
use Rattle.std.proofs.lemmas.List.{length-map, take_all}
use Rattle.am_check.specs.Cut.{place_of}
use Rattle.am_check.specs.Lines.{TellsOne}
use Rattle.am_check.specs.Verdict.{AnswersAt, HasJournal, AnswersParts, Reaches, StopsReport, number_of}
use Rattle.am_check.specs.declared.faults.CheckStop.{CheckStop}
use Rattle.am_check.specs.declared.faults.CheckStop.TheVariants as Answers
use Rattle.am_check.specs.declared.faults.CheckWhat.{CheckWhat}
use Rattle.am_check.specs.declared.faults.CheckWhat.TheVariants as Whats
use Rattle.am_check.proofs.Coming.{in_range}
use Rattle.am_check_lines.specs.Grammar.{printed}
use Rattle.am_check_lines.proofs.Lines.{read_line}
use Rattle.am_lexer.specs.Text.{lines_of}
use Rattle.am_office_entries.specs.declared.Condition.{Condition}
use Rattle.am_office_entries.specs.declared.Entry.{Entry}
use Rattle.am_office_entries.specs.declared.Event.{Event}
use Rattle.am_scenario.specs.Laws.{Spells}
use Rattle.am_scenario_types.specs.declared.parts.Form.{Form}
use Rattle.am_scenario_types.specs.declared.parts.Form.TheVariants as Forms
use Rattle.am_scenario_types.specs.declared.faults.ScenarioFault.{ScenarioFault}
use Rattle.am_scenario_types.specs.Lists.{ScenarioLists}
use Rattle.am_scenario_types.specs.Lawful.{IsLawful}
use Rattle.am_model.specs.History.{is_in_range}
use Rattle.am_model.specs.Layout.{Layout}
use Rattle.am_model_scripts.specs.Layout.{layout_of}
use Rattle.am_lab_reasons.specs.Journal.Lines as Made
use Rattle.am_lab_reasons.specs.Journal.Lines.{AreLines}
use Rattle.am_lab_reasons.proofs.Again.{are_lines}
use Rattle.am_lab_reasons.specs.Due.Choices.{choices}
use Rattle.am_lab_reasons.specs.Due.Due.{HasEvent, IsBehindJournal, MightCome, WasDue, WasDueOf, StandsAt}

-- ---- a line's number

fits_if : (b : Bool) (byte : ℕ) (ls : List (List ℕ)) (n : ℕ) → length ls ≤ n → length (if b then [] ∷ ls else onto_first byte ls) ≤ n + 1
fits_if true byte ls n h = omega (arith, h)
fits_if false byte [] n h = omega arith
fits_if false byte (l ∷ ls) n h = omega (arith, h)

lines_fit : (text : List ℕ) → length (lines_of text) ≤ length text
unfolding lines_of
lines_fit [] = omega arith
lines_fit (byte ∷ text) = let h = fits_if (byte == 10) byte (lines_of text) (length text) (lines_fit text) in omega (arith, h)

pub small : (form : Form) (s : ScenarioLists) (bytes : List ℕ) (journal : List Entry) (left : List (List ℕ)) →
    Reaches form s (drop 2 (lines_of bytes)) journal left → length journal ≤ length bytes
small form s bytes journal left r =
    let cut = length-drop 2 (lines_of bytes) in
    let all = ap length r.lines' ∙ length-append (map printed journal) left in
    let mapped = length-map journal printed in
    let fits = lines_fit bytes in
    omega (arith, cut, all, mapped, fits)

pub stands : (form : Form) (s : ScenarioLists) (bytes : List ℕ) (number : ℕ) (journal : List Entry) (left : List (List ℕ)) → length bytes < 2 ^ 31 →
    Reaches form s (drop 2 (lines_of bytes)) journal left → number ≡ number_of (length journal + 3) → StandsAt form s bytes number journal left
stands form s bytes number journal left few r is =
    let low = small form s bytes journal left r in
    record { reached = r; number' = omega (arith, is, low, few) }

-- ---- what stops a report

pub follows_place : (form : Form) (s : ScenarioLists) (bytes : List ℕ) (number : ℕ) → length bytes < 2 ^ 31 →
    StopsReport form s bytes (Answers.Fault number Whats.Follows) → IsBehindJournal form s bytes number
follows_place form s bytes number few (inl p) =
    record { journal = p.journal; left = p.has.left; at = stands form s bytes number p.journal p.has.left few p.has.reached p.number' }
follows_place form s bytes number few (inr p) =
    let q = p.stops in
    record { journal = q.journal; left = q.line ∷ q.left; at = stands form s bytes number q.journal (q.line ∷ q.left) few q.reached q.number' }

told_event : (form : Form) (s : ScenarioLists) → IsLawful s →
    (bytes : List ℕ) (number : ℕ) (journal : List Entry) (line : List ℕ) (left : List (List ℕ)) (event : Event) → length bytes < 2 ^ 31 →
    Reaches form s (drop 2 (lines_of bytes)) journal (line ∷ left) → number ≡ number_of (length journal + 3) → TellsOne form s journal line event →
    HasEvent form s bytes number
told_event form s lawful bytes number journal line left event few r is tells =
    record {
      journal = journal;
      event = event;
      tells =
          record {
            line = line;
            left = left;
            at = stands form s bytes number journal (line ∷ left) few r is;
            told = read_line line event tells.told;
            in_range = in_range form s lawful journal event tells.may;
          };
    }

pub outcome_event : (form : Form) (s : ScenarioLists) → IsLawful s → (bytes : List ℕ) (number : ℕ) → length bytes < 2 ^ 31 →
    StopsReport form s bytes (Answers.Fault number Whats.Outcome) → HasEvent form s bytes number
outcome_event form s lawful bytes number few p =
    let q = p.stops in
    told_event form s lawful bytes number q.journal q.line q.left q.stops.0 few q.reached q.number' q.stops.1

pub disabled_event : (form : Form) (s : ScenarioLists) → IsLawful s → (bytes : List ℕ) (number : ℕ) (condition : Condition) → length bytes < 2 ^ 31 →
    StopsReport form s bytes (Answers.Fault number (Whats.NotEnabled condition)) → HasEvent form s bytes number
disabled_event form s lawful bytes number condition few p =
    let q = p.stops in
    told_event form s lawful bytes number q.journal q.line q.left q.stops.0 few q.reached q.number' q.stops.1

-- ---- what the machine that is brought there knows

pub lines_at : (form : Form) (s : ScenarioLists) → IsLawful s → (bytes : List ℕ) (number : ℕ) (journal : List Entry) (left : List (List ℕ)) →
    StandsAt form s bytes number journal left → (layout : Layout) → layout ≡ layout_of s → AreLines layout (drop 2 (lines_of bytes)) journal left
lines_at form s lawful bytes number journal left at layout same =
    subst (λ (l : Layout). AreLines l (drop 2 (lines_of bytes)) journal left) (sym same)
    (are_lines form s lawful (drop 2 (lines_of bytes)) journal left at.reached)

pub place_at : (form : Form) (s : ScenarioLists) → IsLawful s → (bytes : List ℕ) (number : ℕ) (journal : List Entry) (left : List (List ℕ)) →
    StandsAt form s bytes number journal left → (layout : Layout) → layout ≡ layout_of s → Made.IsBehindLines layout bytes number
place_at form s lawful bytes number journal left at layout same =
    record { journal = journal; left = left; are = lines_at form s lawful bytes number journal left at layout same; number' = at.number' }

pub end_at : (form : Form) (s : ScenarioLists) → IsLawful s → (bytes : List ℕ) (journal : List Entry) (h : HasJournal form s bytes journal) (layout : Layout) →
    layout ≡ layout_of s → AreLines layout (drop 2 (lines_of bytes)) journal h.left
end_at form s lawful bytes journal h layout same =
    subst (λ (l : Layout). AreLines l (drop 2 (lines_of bytes)) journal h.left) (sym same)
    (are_lines form s lawful (drop 2 (lines_of bytes)) journal h.left h.reached)

pub has_end : (form : Form) (s : ScenarioLists) → IsLawful s → (bytes : List ℕ) (journal : List Entry) → HasJournal form s bytes journal → (layout : Layout) →
    layout ≡ layout_of s → Made.HasEnd layout bytes
has_end form s lawful bytes journal h layout same =
    record { journal = journal; left = h.left; are = end_at form s lawful bytes journal h layout same; count = h.count }

pub one_event : (a b : Event) (o : Option Event) → Some a ≡ o → o ≡ Some b → b ≡ a
one_event a b o e f = cc

pub range_at : (l layout : Layout) (a b : Event) → l ≡ layout → b ≡ a → is_in_range layout b ≡ true → is_in_range l a ≡ true
range_at l layout a b same is h =
    subst (λ (m : Layout). is_in_range m a ≡ true) (sym same) (subst (λ (e : Event). is_in_range layout e ≡ true) is h)

-- what is said of a text, by which text it is
pub text_told : {E : Type 0} (r : Result (Vec ℕ) E) (text : List ℕ) (Q : List ℕ → Type 0) → ((out : List ℕ) → out ≡ text → Q out) →
    IfOk r (λ (out : Vec ℕ). out.items ≡ text) → IfOk r (λ (out : Vec ℕ). Q out.items)
text_told (Ok out) text Q f h = f out.items h
text_told (Err e) text Q f h = tt

-- the events that might come, where a run stands behind the journal of the lines
pub might_told : {E : Type 0} (r : Result (Vec ℕ) E) (s t : ScenarioLists) (bytes : List ℕ) (number : ℕ) (journal : List Entry) (left : List (List ℕ)) →
    StandsAt Forms.Run s bytes number journal left → t ≡ s → IfOk r (λ (out : Vec ℕ). out.items ≡ choices Forms.Run t journal) →
    IfOk r (λ (out : Vec ℕ). MightCome Forms.Run s bytes number out.items)
might_told (Ok out) s t bytes number journal left at same is =
    record { journal = journal; left = left; at = at; text = is ∙ ap (λ (u : ScenarioLists). choices Forms.Run u journal) same }
might_told (Err e) s t bytes number journal left at same is = tt

-- ---- the parts of a text

pub same_scenario : (a b : ScenarioLists) (r : Result ScenarioLists ScenarioFault) → r ≡ Ok a → r ≡ Ok b → a ≡ b
same_scenario a b r e f = cc

pub is_due : (form : Form) (text : List ℕ) (number : ℕ) (what : CheckWhat) (out : List ℕ) (place : ℕ) → place_of text ≡ Some place →
    (s : ScenarioLists) × Spells form (take place text) s × WasDueOf form s (drop place text) number what out → WasDue form text number what out
is_due form text number Whats.Form out place at p = p.2
is_due form text number (Whats.NotEnabled condition) out place at p = record { place = place; place' = at; scenario = p.0; spelled = p.1; due = p.2 }
is_due form text number Whats.Outcome out place at p = record { place = place; place' = at; scenario = p.0; spelled = p.1; due = p.2 }
is_due form text number Whats.Follows out place at p = record { place = place; place' = at; scenario = p.0; spelled = p.1; due = p.2 }
is_due form text number Whats.Tail out place at p = record { place = place; place' = at; scenario = p.0; spelled = p.1; due = p.2 }

-- what is told for what is wrong there
pub due_in : {E : Type 0} (form : Form) (s : ScenarioLists) (bytes : List ℕ) (number : ℕ) (what other : CheckWhat) (r : Result (Vec ℕ) E) → what ≡ other →
    IfOk r (λ (out : Vec ℕ). WasDueOf form s bytes number other out.items) → IfOk r (λ (out : Vec ℕ). WasDueOf form s bytes number what out.items)
due_in form s bytes number what other r e h = subst (λ (w : CheckWhat). IfOk r (λ (out : Vec ℕ). WasDueOf form s bytes number w out.items)) (sym e) h

pub stopped_for : (form : Form) (s : ScenarioLists) (bytes : List ℕ) (number : ℕ) (what other : CheckWhat) → what ≡ other →
    StopsReport form s bytes (Answers.Fault number what) → StopsReport form s bytes (Answers.Fault number other)
stopped_for form s bytes number what other e h = subst (λ (w : CheckWhat). StopsReport form s bytes (Answers.Fault number w)) e h

pub told_behind : {E : Type 0} (form : Form) (front bytes : List ℕ) (number : ℕ) (what : CheckWhat) (s : ScenarioLists) (r : Result (Vec ℕ) E) →
    Spells form front s → IfOk r (λ (out : Vec ℕ). WasDueOf form s bytes number what out.items) →
    IfOk r (λ (out : Vec ℕ). (t : ScenarioLists) × Spells form front t × WasDueOf form t bytes number what out.items)
told_behind form front bytes number what s (Ok out) spelled h = (s, spelled, h)
told_behind form front bytes number what s (Err e) spelled h = tt

pub told_all : {E : Type 0} (form : Form) (text : List ℕ) (number : ℕ) (what : CheckWhat) (place : ℕ) (bytes : List ℕ) (r : Result (Vec ℕ) E) →
    place_of text ≡ Some place → bytes ≡ drop place text → IfOk r (λ (out : Vec ℕ). (s : ScenarioLists) × Spells form (take place text) s × WasDueOf form s bytes
    number what out.items) → IfOk r (λ (out : Vec ℕ). WasDue form text number what out.items)
told_all form text number what place bytes (Ok out) at behind h =
    is_due form text number what out.items place at (subst (λ (b : List ℕ). (s : ScenarioLists) × Spells form (take place text) s × WasDueOf form s b number what
    out.items) behind h)
told_all form text number what place bytes (Err e) at behind h = tt

-- what stands behind a place, as the code cuts it
pub cut_behind : (text : List ℕ) (place : ℕ) → take (length text - place) (drop place text) ≡ drop place text
cut_behind text place = take_all (length text - place) (drop place text) (omega (arith, length-drop place text))

pub answers_behind : (form : Form) (text : List ℕ) (place : ℕ) (bytes : List ℕ) (answer : Result (Unit {0}) CheckStop) → place_of text ≡ Some place →
    bytes ≡ drop place text → AnswersAt form text (place_of text) answer → AnswersParts form (take place text) bytes answer
answers_behind form text place bytes answer at behind h =
    subst (λ (b : List ℕ). AnswersParts form (take place text) b answer) (sym behind) (subst (λ (o : Option ℕ). AnswersAt form text o answer) at h)
