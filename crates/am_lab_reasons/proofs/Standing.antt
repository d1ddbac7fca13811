-- The journal in front of a fault of a report.
use Rattle.std.proofs.Common.{◌≡◌, ◌<◌, ◌≤◌, ◌^◌, ◌+◌, ℕ, true, false, Option, Some, None, Result, Ok, Err, List, [], ◌∷◌, drop, length, take, refl, sym}
use Rattle.std.proofs.Common.{subst, inl, inr, arith}
use Rattle.std.specs.Prelude.{IfOk}
use Rattle.std.proofs.lemmas.Bool.{leb-true}
use Rattle.am_check.specs.Cut.{place_of}
use Rattle.am_check.specs.Verdict.{AnswersAt, AnswersScenario, Checks, HasJournal, Reaches, StopsJournal, StopsReport, number_of}
use Rattle.am_check.specs.declared.faults.CheckStop.TheVariants as Answers
use Rattle.am_check.specs.declared.faults.CheckWhat.{CheckWhat}
use Rattle.am_check.specs.declared.faults.CheckWhat.TheVariants as Whats
use Rattle.am_lexer.specs.Text.{lines_of}
use Rattle.am_model.specs.History.{EachAfter}
use Rattle.am_model_scripts.specs.Layout.{layout_of}
use Rattle.am_office_entries.specs.declared.Entry.{Entry}
use Rattle.am_scenario.specs.Grammar.{grammar}
use Rattle.am_scenario_types.specs.Lawful.{IsLawful}
use Rattle.am_scenario_types.specs.Lists.{ScenarioLists}
use Rattle.am_scenario_types.specs.declared.parts.Form.{Form}
use Rattle.am_lab_reasons.specs.Before.{IsFrontOf, StandsBefore, has_front, is_behind}
use Rattle.am_lab_reasons.specs.Due.Due.{IsBehindJournal, StandsAt}
use Rattle.am_lab_reasons.specs.Journal.Lines.{IsMadeAgain}
use Rattle.am_lab_reasons.specs.Parts.{HasParts, HasReport}
use Rattle.am_lab_reasons.proofs.Again.{are_lines}
use Rattle.am_lab_reasons.proofs.Reported.{same_scenario}
use Rattle.am_lab_reasons.proofs.StoppedDue.{answers_behind, follows_place, small, stands}

-- ---- the line with the fault stands behind a journal

at_line : (form : Form) (s : ScenarioLists) (bytes : List ℕ) (number : ℕ) (journal : List Entry) (left : List (List ℕ)) → length bytes < 2 ^ 31 →
    Reaches form s (drop 2 (lines_of bytes)) journal left → number ≡ number_of (length journal + 3) → IsBehindJournal form s bytes number
at_line form s bytes number journal left few r is = record { journal = journal; left = left; at = stands form s bytes number journal left few r is }

form_line : (form : Form) (s : ScenarioLists) (bytes : List ℕ) (number count : ℕ) → length bytes < 2 ^ 31 →
    StopsJournal form s count (drop 2 (lines_of bytes)) (Answers.Fault number Whats.Form) → IsBehindJournal form s bytes number
form_line form s bytes number count few (inl q) = at_line form s bytes number q.journal [] few q.reached q.number'
form_line form s bytes number count few (inr q) = at_line form s bytes number q.journal (q.line ∷ q.left) few q.reached q.number'

pub behind_journal : (form : Form) (s : ScenarioLists) (bytes : List ℕ) (number : ℕ) (what : CheckWhat) → length bytes < 2 ^ 31 →
    StopsReport form s bytes (Answers.Fault number what) → has_front number what ≡ true → is_behind what ≡ false → IsBehindJournal form s bytes number
behind_journal form s bytes number Whats.Form few (inl p) front other =
    let low = leb-true 3 number front in let two = p.1 in absurd (omega (arith, low, two))
behind_journal form s bytes number Whats.Form few (inr p) front other = form_line form s bytes number p.count few p.stops
behind_journal form s bytes number (Whats.NotEnabled condition) few p front other =
    let q = p.stops in at_line form s bytes number q.journal (q.line ∷ q.left) few q.reached q.number'
behind_journal form s bytes number Whats.Outcome few p front other =
    let q = p.stops in at_line form s bytes number q.journal (q.line ∷ q.left) few q.reached q.number'
behind_journal form s bytes number Whats.Follows few p front other = follows_place form s bytes number few p
behind_journal form s bytes number Whats.Tail few p front other = absurd (cc)

-- the fault lies behind the whole journal
pub whole_journal : (form : Form) (s : ScenarioLists) (bytes : List ℕ) (number : ℕ) (what : CheckWhat) →
    StopsReport form s bytes (Answers.Fault number what) → is_behind what ≡ true → (journal : List Entry) × HasJournal form s bytes journal
whole_journal form s bytes number Whats.Form p behind = absurd (cc)
whole_journal form s bytes number (Whats.NotEnabled condition) p behind = absurd (cc)
whole_journal form s bytes number Whats.Outcome p behind = absurd (cc)
whole_journal form s bytes number Whats.Follows p behind = absurd (cc)
whole_journal form s bytes number Whats.Tail p behind = (p.journal, p.has)

-- ---- which journal stands before it

pub before_line : (form : Form) (s : ScenarioLists) (bytes : List ℕ) (number : ℕ) (what : CheckWhat) (journal : List Entry) (left : List (List ℕ)) →
    is_behind what ≡ false → StandsAt form s bytes number journal left → StandsBefore form s bytes number what journal
before_line form s bytes number Whats.Form journal left other at = (left, at)
before_line form s bytes number (Whats.NotEnabled condition) journal left other at = (left, at)
before_line form s bytes number Whats.Outcome journal left other at = (left, at)
before_line form s bytes number Whats.Follows journal left other at = (left, at)
before_line form s bytes number Whats.Tail journal left other at = absurd (cc)

pub before_tail : (form : Form) (s : ScenarioLists) (bytes : List ℕ) (number : ℕ) (what : CheckWhat) (journal : List Entry) →
    is_behind what ≡ true → HasJournal form s bytes journal → StandsBefore form s bytes number what journal
before_tail form s bytes number Whats.Form journal behind has = absurd (cc)
before_tail form s bytes number (Whats.NotEnabled condition) journal behind has = absurd (cc)
before_tail form s bytes number Whats.Outcome journal behind has = absurd (cc)
before_tail form s bytes number Whats.Follows journal behind has = absurd (cc)
before_tail form s bytes number Whats.Tail journal behind has = has

-- a journal that is given
pub holds_if : {E : Type 0} (r : Result (List Entry) E) (P : List Entry → Type 0) (js : List Entry) → P js → IfOk r (λ (j : List Entry). j ≡ js) → IfOk r P
holds_if (Ok j) P js has is = subst P (sym is) has
holds_if (Err x) P js has is = tt

reached : (form : Form) (s : ScenarioLists) (bytes : List ℕ) (number : ℕ) (what : CheckWhat) (journal : List Entry) →
    StandsBefore form s bytes number what journal → (left : List (List ℕ)) × Reaches form s (drop 2 (lines_of bytes)) journal left
reached form s bytes number Whats.Form journal p = (p.0, p.1.reached)
reached form s bytes number (Whats.NotEnabled condition) journal p = (p.0, p.1.reached)
reached form s bytes number Whats.Outcome journal p = (p.0, p.1.reached)
reached form s bytes number Whats.Follows journal p = (p.0, p.1.reached)
reached form s bytes number Whats.Tail journal p = (p.left, p.reached)

-- it is made again by its lines
pub again : (form : Form) (s : ScenarioLists) → IsLawful s → (bytes : List ℕ) (number : ℕ) (what : CheckWhat) (journal : List Entry) →
    StandsBefore form s bytes number what journal → EachAfter (IsMadeAgain (layout_of s)) [] journal
again form s lawful bytes number what journal p =
    let r = reached form s bytes number what journal p in (are_lines form s lawful (drop 2 (lines_of bytes)) journal r.0 r.1).each

-- and no longer than the report
pub short : (form : Form) (s : ScenarioLists) (bytes : List ℕ) (number : ℕ) (what : CheckWhat) (journal : List Entry) →
    StandsBefore form s bytes number what journal → length journal ≤ length bytes
short form s bytes number what journal p = let r = reached form s bytes number what journal p in small form s bytes journal r.0 r.1

-- ---- the parts of a text whose report is stopped

none_stopped : (form : Form) (text : List ℕ) (number : ℕ) (what : CheckWhat) → AnswersScenario form text (Err (Answers.Fault number what)) →
    has_front number what ≡ true → ⊥
none_stopped form text number Whats.Form p front = let low = leb-true 3 number front in let one = p.1 in omega (arith, low, one)
none_stopped form text number (Whats.NotEnabled condition) p front = p
none_stopped form text number Whats.Outcome p front = p
none_stopped form text number Whats.Follows p front = p
none_stopped form text number Whats.Tail p front = p

report_at : (form : Form) (text : List ℕ) (number : ℕ) (what : CheckWhat) (place : Option ℕ) → place_of text ≡ place →
    AnswersAt form text place (Err (Answers.Fault number what)) → has_front number what ≡ true → HasReport form text
report_at form text number what None at p front = absurd (none_stopped form text number what p front)
report_at form text number what (Some place) at p front = record { place = place; place' = at; scenario = p.0; spelled = p.1 }

pub has_report : (form : Form) (text : List ℕ) (number : ℕ) (what : CheckWhat) → Checks form text (Err (Answers.Fault number what)) →
    has_front number what ≡ true → HasReport form text
has_report form text number what p front = report_at form text number what (place_of text) refl p front

pub stops_parts : (form : Form) (text : List ℕ) (number : ℕ) (what : CheckWhat) (s : ScenarioLists) (report : List ℕ) →
    Checks form text (Err (Answers.Fault number what)) → HasParts form text s report → StopsReport form s report (Answers.Fault number what)
stops_parts form text number what s report checks parts =
    let p = answers_behind form text parts.place report (Err (Answers.Fault number what)) parts.place' parts.report' checks in
    subst (λ (t : ScenarioLists). StopsReport form t report (Answers.Fault number what))
    (same_scenario p.0 s (grammar form (take parts.place text)) p.1 parts.spelled) p.2

pub front_in : (form : Form) (text : List ℕ) (number : ℕ) (what : CheckWhat) (s : ScenarioLists) (report : List ℕ) (journal : List Entry) →
    HasParts form text s report → StandsBefore form s report number what journal → IsFrontOf form text number what s journal
front_in form text number what s report journal parts stands =
    record {
      place = parts.place;
      place' = parts.place';
      spelled = parts.spelled;
      stands = subst (λ (b : List ℕ). StandsBefore form s b number what journal) parts.report' stands;
    }
