-- What the command `check` prints stands for what the checker says of the text.
use Rattle.std.specs.Prelude.{Result, Ok, Err, IfOk}
use Rattle.std.proofs.Common.{◌≡◌, ◌≢◌, ◌↔◌, ℕ, List, ap, arith}
use Rattle.am_check.specs.declared.faults.CheckStop.{CheckStop}
use Rattle.am_check.specs.declared.faults.CheckStop.TheVariants as Stops
use Rattle.am_check.specs.declared.faults.CheckWhat.{CheckWhat}
use Rattle.am_check.specs.Exact.{IsExact, IsOnly}
use Rattle.am_check.specs.Verdict.{Checks}
use Rattle.am_check.specs.Laws.Laws.{IsTrueReport, YesIsTrue}
use Rattle.am_main_step.specs.Checks.{CheckAnswers, IsTold, IsVerdict, check_line, yes}
use Rattle.am_main_lines.specs.declared.outputs.Output.{Output}
use Rattle.am_main_lines.specs.Lines.{Answer, answer_in, full_line, refusal}
use Rattle.am_office_entries.specs.declared.Part.{Part}
use Rattle.am_scenario_types.specs.declared.faults.ScenarioFault.{ScenarioFault}
use Rattle.am_scenario_types.specs.declared.parts.Form.{Form}

told_is : YesIsTrue → (form : Form) (bytes : List ℕ) (says : Result (Unit {0}) CheckStop) → IsExact form bytes says → IsTold form bytes says
told_is truth form bytes (Ok x) e = (truth form bytes).0 e
told_is truth form bytes (Err Stops.NoMemory) e = tt
told_is truth form bytes (Err (Stops.Fault number what)) e = λ (t : IsTrueReport form bytes). e ((truth form bytes).1 t)
told_is truth form bytes (Err (Stops.Scenario fault)) e = λ (t : IsTrueReport form bytes). e ((truth form bytes).1 t)
told_is truth form bytes (Err (Stops.LogFull part)) e = λ (t : IsTrueReport form bytes). e ((truth form bytes).1 t)

pub verdict_is : YesIsTrue → (form : Form) (bytes : List ℕ) (says : Result (Unit {0}) CheckStop) → Checks form bytes says → IsExact form bytes says →
    IsOnly form bytes says → IsVerdict form bytes says
verdict_is truth form bytes says right exact only = record { right = right; told = told_is truth form bytes says exact; only = only }

-- ---- what is printed

status_is : (answer other : Answer) → answer ≡ other → answer.status ≡ other.status
status_is answer other same = ap (λ (a : Answer). a.status) same

-- another status is that of no true report
never : (form : Form) (bytes : List ℕ) (status n : ℕ) → status ≡ n → n ≢ 0 → ¬ (IsTrueReport form bytes) → (status ≡ 0) ↔ IsTrueReport form bytes
never form bytes status n is other false' = (λ zero'. absurd (other (let z = zero' in omega (arith, is, z))), λ t. absurd (false' t))

pub says_yes : (form : Form) (bytes : List ℕ) (answer : Answer) → IsVerdict form bytes (Ok tt) → answer ≡ yes → CheckAnswers form bytes answer
says_yes form bytes answer v same = record { says = Ok tt; verdict = v; tells = same; exactly = (λ zero'. v.told, λ t. status_is answer yes same) }

pub says_line : (form : Form) (bytes : List ℕ) (number : ℕ) (what : CheckWhat) (answer : Answer) → IsVerdict form bytes (Err (Stops.Fault number what)) →
    answer ≡ record { status = 10; text = check_line number what } → CheckAnswers form bytes answer
says_line form bytes number what answer v same =
    record {
      says = Err (Stops.Fault number what);
      verdict = v;
      tells = same;
      exactly = never form bytes answer.status 10 (ap (λ (a : Answer). a.status) same) (omega arith) v.told;
    }

pub says_scenario : (form : Form) (bytes : List ℕ) (fault : ScenarioFault) (answer : Answer) → IsVerdict form bytes (Err (Stops.Scenario fault)) →
    answer ≡ refusal fault → CheckAnswers form bytes answer
says_scenario form bytes fault answer v same =
    record {
      says = Err (Stops.Scenario fault);
      verdict = v;
      tells = same;
      exactly = never form bytes answer.status 3 (ap (λ (a : Answer). a.status) same) (omega arith) v.told;
    }

pub says_full : (form : Form) (bytes : List ℕ) (part : Part) (answer : Answer) → IsVerdict form bytes (Err (Stops.LogFull part)) →
    answer ≡ record { status = 6; text = full_line part } → CheckAnswers form bytes answer
says_full form bytes part answer v same =
    record {
      says = Err (Stops.LogFull part);
      verdict = v;
      tells = same;
      exactly = never form bytes answer.status 6 (ap (λ (a : Answer). a.status) same) (omega arith) v.told;
    }

-- so of what a call gives, if it has memory
pub given_line : {E : Type 0} (r : Result Output E) (form : Form) (bytes : List ℕ) (number : ℕ) (what : CheckWhat) →
    IsVerdict form bytes (Err (Stops.Fault number what)) → IfOk r (λ output. answer_in output ≡ record { status = 10; text = check_line number what }) →
    IfOk r (λ output. CheckAnswers form bytes (answer_in output))
given_line (Ok output) form bytes number what v same = says_line form bytes number what (answer_in output) v same
given_line (Err e) form bytes number what v same = tt

pub given_scenario : {E : Type 0} (r : Result Output E) (form : Form) (bytes : List ℕ) (fault : ScenarioFault) →
    IsVerdict form bytes (Err (Stops.Scenario fault)) → IfOk r (λ output. answer_in output ≡ refusal fault) →
    IfOk r (λ output. CheckAnswers form bytes (answer_in output))
given_scenario (Ok output) form bytes fault v same = says_scenario form bytes fault (answer_in output) v same
given_scenario (Err e) form bytes fault v same = tt

pub given_full : {E : Type 0} (r : Result Output E) (form : Form) (bytes : List ℕ) (part : Part) → IsVerdict form bytes (Err (Stops.LogFull part)) →
    IfOk r (λ output. answer_in output ≡ record { status = 6; text = full_line part }) → IfOk r (λ output. CheckAnswers form bytes (answer_in output))
given_full (Ok output) form bytes part v same = says_full form bytes part (answer_in output) v same
given_full (Err e) form bytes part v same = tt
