-- The journal of a report is told by its lines.
use Rattle.std.proofs.Common.{◌≡◌, ℕ, ◌-◌, ◌<◌, ◌≤◌, ◌^◌, Some, Result, Ok, Err, List, ◌++◌, drop, take, length, map, sym, ap, ◌∙◌, subst}
use Rattle.std.proofs.Common.{arith, length-drop}
use Rattle.std.proofs.lemmas.List.{take_all}
use Rattle.std.specs.Global.{Vec}
use Rattle.std.specs.Prelude.{IfOk}
use Rattle.am_check.specs.Follows.{ids_of}
use Rattle.am_check.specs.Verdict.{IsReportOf, count_of}
use Rattle.am_check.proofs.Breaks.{behind, count_fits, count_is, rest_is}
use Rattle.am_check_lines.specs.Grammar.{printed}
use Rattle.am_lexer.specs.Text.{lines_of}
use Rattle.am_names.specs.declared.Serial.{Serial}
use Rattle.am_office_entries.specs.declared.Entry.{Entry}
use Rattle.am_scenario_plan.specs.declared.plan.PlanLine.{PlanLine}
use Rattle.am_scenario_types.specs.declared.faults.ScenarioFault.{ScenarioFault}
use Rattle.am_scenario_types.specs.declared.parts.Form.{Form}
use Rattle.am_scenario_types.specs.Lists.{ScenarioLists}
use Rattle.am_scenario_types.specs.Lawful.{IsLawful}
use Rattle.am_model_scripts.specs.Layout.{layout_of}
use Rattle.am_lab_reasons.specs.Journal.Lines.{AreLines, HasEnd}
use Rattle.am_lab_reasons.proofs.Again.{are_lines}
use Rattle.am_lab_reasons.specs.Reasons.{TellsOf, reasons}

-- a report, its journal, and what its lines say of it
pub record IsReported (form : Form) (s : ScenarioLists) (bytes : List ℕ) (journal : List Entry) : Type 0 where
  pub left : List (List ℕ)
  pub are : AreLines (layout_of s) (drop 2 (lines_of bytes)) journal left
  pub count : count_of (lines_of bytes) ≡ Some (length journal)
  pub low : length journal ≤ length bytes

pub reported : (form : Form) (s : ScenarioLists) → IsLawful s → (bytes : List ℕ) → length bytes < 2 ^ 31 → (r : IsReportOf form s bytes) →
    IsReported form s bytes r.journal
reported form s lawful bytes few r =
    let ids = ids_of s in
    let low : length r.journal ≤ length bytes = subst (λ (b : List ℕ). length r.journal ≤ length b) (sym r.text) (count_fits ids r.journal) in
    let lines : drop 2 (lines_of bytes) ≡ map printed r.journal ++ lines_of (behind ids r.journal) = ap (λ (b : List ℕ). drop 2 (lines_of b)) r.text
    ∙ rest_is ids r.journal in
    record {
      left = lines_of (behind ids r.journal);
      are = are_lines form s lawful (drop 2 (lines_of bytes)) r.journal (lines_of (behind ids r.journal)) (record { begun = r.begun; lines' = lines });
      count = ap (λ (b : List ℕ). count_of (lines_of b)) r.text ∙ count_is ids r.journal (omega (arith, low, few));
      low = low;
    }

pub has_end : (form : Form) (s : ScenarioLists) → IsLawful s → (bytes : List ℕ) → length bytes < 2 ^ 31 → IsReportOf form s bytes → HasEnd (layout_of s) bytes
has_end form s lawful bytes few r =
    let t = reported form s lawful bytes few r in
    record { journal = r.journal; left = t.left; are = t.are; count = t.count }

pub same_scenario : (a b : ScenarioLists) (r : Result ScenarioLists ScenarioFault) → r ≡ Ok a → r ≡ Ok b → a ≡ b
same_scenario a b r e f = cc

-- ---- what is told

pub told_if : {E : Type 0} (r : Result (Vec ℕ) E) (P Q : List ℕ → Type 0) → ((out : List ℕ) → P out → Q out) → IfOk r (λ (out : Vec ℕ). P out.items) →
    IfOk r (λ (out : Vec ℕ). Q out.items)
told_if (Ok out) P Q f h = f out.items h
told_if (Err e) P Q f h = tt

pub told_of : {E : Type 0} (form : Form) (s : ScenarioLists) (bytes : List ℕ) (serial : Serial) (r : IsReportOf form s bytes) (plan : List PlanLine)
    (journal : List Entry) (result : Result (Vec ℕ) E) → plan ≡ s.plan → journal ≡ r.journal →
    IfOk result (λ (out : Vec ℕ). out.items ≡ reasons plan journal serial) → IfOk result (λ (out : Vec ℕ). TellsOf form s bytes serial out.items)
told_of form s bytes serial r plan journal result same is h =
    told_if result (λ (out : List ℕ). out ≡ reasons plan journal serial) (λ (out : List ℕ). TellsOf form s bytes serial out)
    (λ out p. record {
      journal = r.journal;
      begun = r.begun;
      ended = r.ended;
      report' = r.text;
      text = p ∙ ap (λ (l : List PlanLine). reasons l journal serial) same ∙ ap (λ (j : List Entry). reasons s.plan j serial) is;
    })
    h

-- what stands behind a place, as the code cuts it
pub cut_behind : (text : List ℕ) (place : ℕ) → take (length text - place) (drop place text) ≡ drop place text
cut_behind text place = take_all (length text - place) (drop place text) (omega (arith, length-drop place text))
