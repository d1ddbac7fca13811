-- What is told of a text that `check` answered.
use Rattle.std.proofs.Common.{◌≡◌, ◌≢◌, inl, inr, ℕ, Bool, true, false, List, Err, refl, sym, subst}
use Rattle.am_check.specs.Exact.{IsChecked}
use Rattle.am_check.specs.Laws.Laws.{YesIsTrue}
use Rattle.am_check.specs.Verdict.{Checks}
use Rattle.am_check.specs.declared.faults.CheckStop.TheVariants as Stops
use Rattle.am_check.specs.declared.faults.CheckWhat.{CheckWhat}
use Rattle.am_lab.specs.Answers.{MessageChartAnswers, TellsFault, TellsFront, TellsIf, TellsUpTo, TellsWhy}
use Rattle.am_lab.specs.Explains.{ExplainsReport}
use Rattle.am_lab_reasons.specs.Before.{has_front}
use Rattle.am_main_step.specs.Checks.{CheckAnswers}
use Rattle.am_main_lines.specs.Lines.{Answer}
use Rattle.am_names.specs.declared.Serial.{Serial}
use Rattle.am_scenario_types.specs.declared.parts.Form.{Form}

pub explains_other : (form : Form) (bytes : List ℕ) (checked : Answer) → CheckAnswers form bytes checked → checked.status ≢ 10 → ExplainsReport form bytes checked
explains_other form bytes checked checks other = record { checked = checked; checks = checks; more = inl (other, refl) }

pub tells_other : (form : Form) (bytes : List ℕ) (serial : Serial) (checked : Answer) → CheckAnswers form bytes checked → checked.status ≢ 0 →
    TellsWhy form bytes serial checked
tells_other form bytes serial checked checks other = record { checked = checked; checks = checks; more = inl (other, refl) }

pub draws_other : (form : Form) (bytes : List ℕ) (serial : Serial) (checked : Answer) → CheckAnswers form bytes checked → checked.status ≢ 0 →
    MessageChartAnswers form bytes serial checked
draws_other form bytes serial checked checks other = record { checked = checked; checks = checks; more = inl (other, refl) }

-- ---- why --front

pub up_to_other : (form : Form) (serial : Serial) (bytes : List ℕ) (checked answer : Answer) → CheckAnswers form bytes checked → checked.status ≢ 10 →
    TellsWhy form bytes serial answer → TellsUpTo form serial bytes answer
up_to_other form serial bytes checked answer checks other tells = record { checked = checked; checks = checks; more = inl (other, tells) }

pub up_to_fault : (form : Form) (serial : Serial) (bytes : List ℕ) (checked answer : Answer) → CheckAnswers form bytes checked →
    TellsFault form bytes serial checked answer → TellsUpTo form serial bytes answer
up_to_fault form serial bytes checked answer checks tells = record { checked = checked; checks = checks; more = inr tells }

pub tells_front : (form : Form) (bytes : List ℕ) (serial : Serial) (number : ℕ) (what : CheckWhat) (checked answer : Answer) →
    Checks form bytes (Err (Stops.Fault number what)) → has_front number what ≡ true → TellsFront form bytes serial number what checked answer →
    TellsFault form bytes serial checked answer
tells_front form bytes serial number what checked answer verdict has tells =
    record {
      number = number;
      what = what;
      verdict = verdict;
      told = subst (λ (b : Bool). TellsIf b form bytes serial number what checked answer) (sym has) tells;
    }

pub tells_none : (form : Form) (bytes : List ℕ) (serial : Serial) (number : ℕ) (what : CheckWhat) (checked : Answer) →
    Checks form bytes (Err (Stops.Fault number what)) → has_front number what ≡ false → TellsFault form bytes serial checked checked
tells_none form bytes serial number what checked verdict lacks =
    record {
      number = number;
      what = what;
      verdict = verdict;
      told = subst (λ (b : Bool). TellsIf b form bytes serial number what checked checked) (sym lacks) refl;
    }

-- ---- a right report

-- what `check` says yes to is checked
pub is_checked : YesIsTrue → (form : Form) (bytes : List ℕ) (checked : Answer) → CheckAnswers form bytes checked → checked.status ≡ 0 → IsChecked form bytes
is_checked truth form bytes checked checks zero' = (truth form bytes).1 (checks.exactly.0 zero')
