-- What each status says.
use Rattle.std.specs.Prelude.{codes, Result, Ok, Err}
use Rattle.std.specs.Io.KnownBytes.{Appends}
use Rattle.std.proofs.Common.{◌≡◌, ◌≢◌, ◌⊎◌, inl, inr, ℕ, List, [], ◌∷◌, Option, Some, None, refl, sym, ap, ◌∙◌, subst, arith}
use Rattle.am_io.specs.Causes.{Rose, Counter}
use Rattle.am_io.specs.Whole.{IsLonger}
use Rattle.am_main.specs.Answers.{AnswersTo, IsAnswered, IsDue, IsDueToText, IsOfCommand, IsOneOf, IsTaken}
use Rattle.am_main_answer.specs.Answers.{IsFault}
use Rattle.am_main_lines.specs.Offers.{IsOffered, IsWhole, no_memory, read_fault, too_long}
use Rattle.am_main.specs.Answers.{own_statuses, statuses, usage}
use Rattle.am_main.specs.declared.commands.Command.{Command}
use Rattle.am_main.specs.declared.commands.Command.TheVariants as Commands
use Rattle.am_check.specs.declared.faults.CheckStop.{CheckStop}
use Rattle.am_check.specs.declared.faults.CheckStop.TheVariants as Stops
use Rattle.am_main_step.specs.Checks.{TellsVerdict}
use Rattle.am_main_run.specs.Counts.Counts.{CountAnswers}
use Rattle.am_main_lines.specs.Lines.{Answer}
use Rattle.am_main_run.specs.Runs.{MakeAnswers, RunAnswers}
use Rattle.am_main_run.specs.Segments.Segments.{SegmentsAnswers}
use Rattle.am_main_step.specs.Meaning.{StepAnswers}
use Rattle.am_scenario.specs.Grammar.{grammar}
use Rattle.am_scenario_types.specs.declared.faults.ScenarioFault.{ScenarioFault}
use Rattle.am_scenario_types.specs.declared.parts.Form.TheVariants as Forms
use Rattle.am_scenario_types.specs.Lists.{ScenarioLists}
use Rattle.am_segment.specs.declared.scenario.SegmentScenario.{SegmentScenario}
use Rattle.am_segment.specs.Spelling.{segment_grammar}
use Rattle.am_session.specs.declared.script.SessionTextFault.{SessionTextFault}
use Rattle.am_session.specs.Grammar as Sessions
use Rattle.am_session.specs.Meaning.{SessionMeans}
use Rattle.am_session.specs.Scripts.{Script}

-- ---- the statuses of a command's answers

status_of : (answer other : Answer) → answer ≡ other → answer.status ≡ other.status
status_of answer other same = ap (λ (a : Answer). a.status) same

step_own : (read : Result ScenarioLists ScenarioFault) (answer : Answer) → StepAnswers read answer → IsOneOf (0 ∷ 3 ∷ 6 ∷ []) answer.status
step_own (Ok s) answer (inl means) = inl means.0
step_own (Ok s) answer (inr (inl means)) = inr (inl means.0)
step_own (Ok s) answer (inr (inr means)) = inr (inr (inl means.0))
step_own (Err fault) answer same = inr (inl (ap (λ (a : Answer). a.status) same))

run_own : (read : Result ScenarioLists ScenarioFault) (answer : Answer) → RunAnswers read answer → IsOneOf (0 ∷ 3 ∷ 6 ∷ []) answer.status
run_own (Ok s) answer (inl means) = inl means.0
run_own (Ok s) answer (inr means) = inr (inr (inl means.0))
run_own (Err fault) answer same = inr (inl (ap (λ (a : Answer). a.status) same))

make_own : (n : ℕ) (answer : Answer) → MakeAnswers n answer → IsOneOf (0 ∷ 6 ∷ []) answer.status
make_own n answer (inl means) = inl means.0
make_own n answer (inr means) = inr (inl means.0)

segments_own : (read : Result SegmentScenario ScenarioFault) (answer : Answer) → SegmentsAnswers read answer → IsOneOf (0 ∷ 3 ∷ 6 ∷ []) answer.status
segments_own (Ok s) answer (inl means) = inl means.0
segments_own (Ok s) answer (inr means) = inr (inr (inl means.0))
segments_own (Err fault) answer same = inr (inl (ap (λ (a : Answer). a.status) same))

session_own : (read : Result Script SessionTextFault) (answer : Answer) → SessionMeans read answer → IsOneOf (0 ∷ 3 ∷ []) answer.status
session_own (Ok s) answer (inl means) = inl means.0
session_own (Ok s) answer (inr means) = inr (inl means.0)
session_own (Err fault) answer same = inr (inl (ap (λ (a : Answer). a.status) same))

count_own : (nodes turns : ℕ) (bytes : List ℕ) (answer : Answer) → CountAnswers nodes turns bytes answer → IsOneOf (0 ∷ 6 ∷ 11 ∷ []) answer.status
count_own nodes turns bytes answer (inl means) = inr (inr (inl (ap (λ (a : Answer). a.status) means.1)))
count_own nodes turns bytes answer (inr (few, inl means)) = inl means.0
count_own nodes turns bytes answer (inr (few, inr means)) = inr (inl means.0)

check_own : (says : Result (Unit {0}) CheckStop) (answer : Answer) → TellsVerdict says answer → IsOneOf (0 ∷ 3 ∷ 6 ∷ 10 ∷ []) answer.status
check_own (Ok x) answer tells = inl (ap (λ (a : Answer). a.status) tells)
check_own (Err (Stops.Scenario fault)) answer tells = inr (inl (ap (λ (a : Answer). a.status) tells))
check_own (Err (Stops.LogFull part)) answer tells = inr (inr (inl (ap (λ (a : Answer). a.status) tells)))
check_own (Err (Stops.Fault number what)) answer tells = inr (inr (inr (inl (ap (λ (a : Answer). a.status) tells))))
check_own (Err Stops.NoMemory) answer tells = absurd tells

own_status : (command : Command) (bytes : List ℕ) (answer : Answer) → AnswersTo command bytes answer → IsOneOf (own_statuses command) answer.status
own_status Commands.Step bytes answer answers = step_own (grammar Forms.Step bytes) answer answers
own_status Commands.Run bytes answer answers = run_own (grammar Forms.Run bytes) answer answers
own_status (Commands.Make n) bytes answer answers = make_own n answer answers
own_status Commands.Segments bytes answer answers = segments_own (segment_grammar bytes) answer answers
own_status Commands.Session bytes answer answers = session_own (Sessions.grammar bytes) answer answers
own_status (Commands.Count nodes turns) bytes answer answers = count_own nodes turns bytes answer answers
own_status (Commands.Check form) bytes answer answers = check_own answers.says answer answers.tells

-- a status in a list of those that follow stands in a longer one too
three_six : (status : ℕ) → IsOneOf (0 ∷ 3 ∷ 6 ∷ []) status → IsOfCommand status
three_six status (inl is) = inl is
three_six status (inr (inl is)) = inr (inl is)
three_six status (inr (inr (inl is))) = inr (inr (inl is))
three_six status (inr (inr (inr none))) = absurd none

of_command : (command : Command) (status : ℕ) → IsOneOf (own_statuses command) status → IsOfCommand status
of_command Commands.Step status is = three_six status is
of_command Commands.Run status is = three_six status is
of_command Commands.Segments status is = three_six status is
of_command (Commands.Make n) status (inl is) = inl is
of_command (Commands.Make n) status (inr (inl is)) = inr (inr (inl is))
of_command (Commands.Make n) status (inr (inr none)) = absurd none
of_command Commands.Session status (inl is) = inl is
of_command Commands.Session status (inr (inl is)) = inr (inl is)
of_command Commands.Session status (inr (inr none)) = absurd none
of_command (Commands.Count nodes turns) status (inl is) = inl is
of_command (Commands.Count nodes turns) status (inr (inl is)) = inr (inr (inl is))
of_command (Commands.Count nodes turns) status (inr (inr (inl is))) = inr (inr (inr (inr (inl is))))
of_command (Commands.Count nodes turns) status (inr (inr (inr none))) = absurd none
of_command (Commands.Check form) status (inl is) = inl is
of_command (Commands.Check form) status (inr (inl is)) = inr (inl is)
of_command (Commands.Check form) status (inr (inr (inl is))) = inr (inr (inl is))
of_command (Commands.Check form) status (inr (inr (inr (inl is)))) = inr (inr (inr (inl is)))
of_command (Commands.Check form) status (inr (inr (inr (inr none)))) = absurd none

pub answer_status : (command : Command) (bytes : List ℕ) (answer : Answer) → AnswersTo command bytes answer → IsOfCommand answer.status
answer_status command bytes answer answers = of_command command answer.status (own_status command bytes answer answers)

-- such a status is no other
pub never : (status other : ℕ) → IsOfCommand status → status ≡ other → 0 ≢ other → 3 ≢ other → 6 ≢ other → 10 ≢ other → 11 ≢ other → ⊥
never status other (inl is) same zero' three six ten eleven = zero' (sym is ∙ same)
never status other (inr (inl is)) same zero' three six ten eleven = three (sym is ∙ same)
never status other (inr (inr (inl is))) same zero' three six ten eleven = six (sym is ∙ same)
never status other (inr (inr (inr (inl is)))) same zero' three six ten eleven = ten (sym is ∙ same)
never status other (inr (inr (inr (inr (inl is))))) same zero' three six ten eleven = eleven (sym is ∙ same)
never status other (inr (inr (inr (inr (inr none))))) same zero' three six ten eleven = absurd none

-- and none of a fault
pub no_fault : (status : ℕ) → IsOfCommand status → ¬ IsFault status
no_fault status is (inl same) = never status 4 is same (omega arith) (omega arith) (omega arith) (omega arith) (omega arith)
no_fault status is (inr (inl same)) = never status 5 is same (omega arith) (omega arith) (omega arith) (omega arith) (omega arith)
no_fault status is (inr (inr (inl same))) = never status 7 is same (omega arith) (omega arith) (omega arith) (omega arith) (omega arith)
no_fault status is (inr (inr (inr (inl same)))) = never status 8 is same (omega arith) (omega arith) (omega arith) (omega arith) (omega arith)
no_fault status is (inr (inr (inr (inr none)))) = none

pub answer_no_fault : (command : Command) (bytes : List ℕ) (answer : Answer) → AnswersTo command bytes answer → ¬ IsFault answer.status
answer_no_fault command bytes answer answers = no_fault answer.status (answer_status command bytes answer answers)

-- ---- which answers are due

-- the words have no form; a read failed; the bytes are too many; memory ran out; or it is an answer of the command
abbrev Kind : Option Command → Option (List ℕ) → Counter → Counter → Answer → Type 0
Kind asked left before now answer =
    ((asked ≡ None) × (answer ≡ usage))
    ⊎ ((Rose before now × (answer ≡ read_fault))
    ⊎ ((IsLonger left 16_777_216 × (answer ≡ too_long))
    ⊎ ((answer ≡ no_memory)
    ⊎ IsOfCommand answer.status)))

text_kind : (command : Command) (left : Option (List ℕ)) (before now : Counter) (answer : Answer) → IsDueToText command left before now answer →
    Kind (Some command) left before now answer
text_kind command left before now answer (inl due) = inr (inl due)
text_kind command left before now answer (inr (stands, inl due)) = inr (inr (inl due))
text_kind command left before now answer (inr (stands, inr (inl due))) = inr (inr (inr (inl due)))
text_kind command left before now answer (inr (stands, inr (inr found))) = inr (inr (inr (inr (answer_status command found.bytes answer found.holds))))

kind_of : (asked : Option Command) (left : Option (List ℕ)) (before now : Counter) (answer : Answer) → IsDue asked left before now answer →
    Kind asked left before now answer
kind_of None left before now answer due = inl (refl, due)
kind_of (Some (Commands.Make n)) left before now answer (inl due) = inr (inr (inr (inl due)))
kind_of (Some (Commands.Make n)) left before now answer (inr due) = inr (inr (inr (inr (answer_status (Commands.Make n) [] answer due))))
kind_of (Some Commands.Step) left before now answer due = text_kind Commands.Step left before now answer due
kind_of (Some Commands.Run) left before now answer due = text_kind Commands.Run left before now answer due
kind_of (Some Commands.Segments) left before now answer due = text_kind Commands.Segments left before now answer due
kind_of (Some Commands.Session) left before now answer due = text_kind Commands.Session left before now answer due
kind_of (Some (Commands.Count nodes turns)) left before now answer due = text_kind (Commands.Count nodes turns) left before now answer due
kind_of (Some (Commands.Check form)) left before now answer due = text_kind (Commands.Check form) left before now answer due

-- an answer that is another one has another status
other_status : (answer known : Answer) (n : ℕ) → answer ≡ known → answer.status ≡ n → known.status ≢ n → ⊥
other_status answer known n same is other = other (sym (status_of answer known same) ∙ is)

-- ---- what the sink took

cut_is : (status : ℕ) → status ≢ 5 → status ≢ 8 → (status ≡ 5) ⊎ (status ≡ 8) → ⊥
cut_is status write memory (inl five) = write five
cut_is status write memory (inr eight) = memory eight

whole_of : (answer : Answer) (status : ℕ) (old new : Option (List ℕ)) → status ≢ 5 → status ≢ 8 → IsOffered answer status old new →
    IsWhole answer status old new
whole_of answer status old new write memory (inl whole) = whole
whole_of answer status old new write memory (inr cut) = absurd (cut_is status write memory cut.status')

pub taken_of : (asked : Option Command) (left : Option (List ℕ)) (before now : Counter) (status : ℕ) (old new : Option (List ℕ)) →
    IsAnswered asked left before now status old new → status ≢ 5 → status ≢ 8 → IsTaken asked left before now status old new
taken_of asked left before now status old new a write memory = record {
  answer = a.answer;
  due = a.due;
  whole = whole_of a.answer status old new write memory a.offered;
}

-- the text of an answer that is known
text_given : (answer known : Answer) (old new : Option (List ℕ)) → answer ≡ known → Appends old new answer.text → Appends old new known.text
text_given answer known old new same given = subst (λ (a : Answer). Appends old new a.text) same given

usage_by : (asked : Option Command) (left : Option (List ℕ)) (before now : Counter) (answer : Answer) (old new : Option (List ℕ)) →
    Kind asked left before now answer → answer.status ≡ 2 → Appends old new answer.text → (asked ≡ None) × Appends old new usage.text
usage_by asked left before now answer old new (inl k) is given = (k.0, text_given answer usage old new k.1 given)
usage_by asked left before now answer old new (inr (inl k)) is given = absurd (other_status answer read_fault 2 k.1 is (omega arith))
usage_by asked left before now answer old new (inr (inr (inl k))) is given = absurd (other_status answer too_long 2 k.1 is (omega arith))
usage_by asked left before now answer old new (inr (inr (inr (inl k)))) is given = absurd (other_status answer no_memory 2 k is (omega arith))
usage_by asked left before now answer old new (inr (inr (inr (inr k)))) is given =
    absurd (never answer.status 2 k is (omega arith) (omega arith) (omega arith) (omega arith) (omega arith))

read_fault_by : (asked : Option Command) (left : Option (List ℕ)) (before now : Counter) (answer : Answer) (old new : Option (List ℕ)) →
    Kind asked left before now answer → answer.status ≡ 4 → Appends old new answer.text → Rose before now × Appends old new (codes "read fault\n")
read_fault_by asked left before now answer old new (inl k) is given = absurd (other_status answer usage 4 k.1 is (omega arith))
read_fault_by asked left before now answer old new (inr (inl k)) is given = (k.0, text_given answer read_fault old new k.1 given)
read_fault_by asked left before now answer old new (inr (inr (inl k))) is given = absurd (other_status answer too_long 4 k.1 is (omega arith))
read_fault_by asked left before now answer old new (inr (inr (inr (inl k)))) is given = absurd (other_status answer no_memory 4 k is (omega arith))
read_fault_by asked left before now answer old new (inr (inr (inr (inr k)))) is given =
    absurd (never answer.status 4 k is (omega arith) (omega arith) (omega arith) (omega arith) (omega arith))

too_long_by : (asked : Option Command) (left : Option (List ℕ)) (before now : Counter) (answer : Answer) (old new : Option (List ℕ)) →
    Kind asked left before now answer → answer.status ≡ 7 → Appends old new answer.text → IsLonger left 16_777_216 × Appends old new (codes "input too long\n")
too_long_by asked left before now answer old new (inl k) is given = absurd (other_status answer usage 7 k.1 is (omega arith))
too_long_by asked left before now answer old new (inr (inl k)) is given = absurd (other_status answer read_fault 7 k.1 is (omega arith))
too_long_by asked left before now answer old new (inr (inr (inl k))) is given = (k.0, text_given answer too_long old new k.1 given)
too_long_by asked left before now answer old new (inr (inr (inr (inl k)))) is given = absurd (other_status answer no_memory 7 k is (omega arith))
too_long_by asked left before now answer old new (inr (inr (inr (inr k)))) is given =
    absurd (never answer.status 7 k is (omega arith) (omega arith) (omega arith) (omega arith) (omega arith))

-- the status is another than these
differs : (status n other : ℕ) → status ≡ n → n ≢ other → status ≢ other
differs status n other is apart = λ (same : status ≡ other). apart (sym is ∙ same)

pub usage_of : (asked : Option Command) (left : Option (List ℕ)) (before now : Counter) (status : ℕ) (old new : Option (List ℕ)) →
    IsAnswered asked left before now status old new → status ≡ 2 → (asked ≡ None) × Appends old new usage.text
usage_of asked left before now status old new a is =
    let whole = whole_of a.answer status old new (differs status 2 5 is (omega arith)) (differs status 2 8 is (omega arith)) a.offered in
    usage_by asked left before now a.answer old new (kind_of asked left before now a.answer a.due) (sym whole.status' ∙ is) whole.given

pub read_fault_of : (asked : Option Command) (left : Option (List ℕ)) (before now : Counter) (status : ℕ) (old new : Option (List ℕ)) →
    IsAnswered asked left before now status old new → status ≡ 4 → Rose before now × Appends old new (codes "read fault\n")
read_fault_of asked left before now status old new a is =
    let whole = whole_of a.answer status old new (differs status 4 5 is (omega arith)) (differs status 4 8 is (omega arith)) a.offered in
    read_fault_by asked left before now a.answer old new (kind_of asked left before now a.answer a.due) (sym whole.status' ∙ is) whole.given

pub too_long_of : (asked : Option Command) (left : Option (List ℕ)) (before now : Counter) (status : ℕ) (old new : Option (List ℕ)) →
    IsAnswered asked left before now status old new → status ≡ 7 → IsLonger left 16_777_216 × Appends old new (codes "input too long\n")
too_long_of asked left before now status old new a is =
    let whole = whole_of a.answer status old new (differs status 7 5 is (omega arith)) (differs status 7 8 is (omega arith)) a.offered in
    too_long_by asked left before now a.answer old new (kind_of asked left before now a.answer a.due) (sym whole.status' ∙ is) whole.given

-- ---- which statuses there are

-- a fault of the sink, or want of memory, is always one
fault_in : (others : List ℕ) (status : ℕ) → (status ≡ 5) ⊎ (status ≡ 8) → IsOneOf (5 ∷ 8 ∷ others) status
fault_in others status (inl five) = inl five
fault_in others status (inr eight) = inr (inl eight)

text_status : (command : Command) (left : Option (List ℕ)) (before now : Counter) (answer : Answer) → IsDueToText command left before now answer →
    IsOneOf (5 ∷ 8 ∷ 4 ∷ 7 ∷ own_statuses command) answer.status
text_status command left before now answer (inl due) = inr (inr (inl (status_of answer read_fault due.1)))
text_status command left before now answer (inr (stands, inl due)) = inr (inr (inr (inl (status_of answer too_long due.1))))
text_status command left before now answer (inr (stands, inr (inl due))) = inr (inl (status_of answer no_memory due))
text_status command left before now answer (inr (stands, inr (inr found))) = inr (inr (inr (inr (own_status command found.bytes answer found.holds))))

due_status : (asked : Option Command) (left : Option (List ℕ)) (before now : Counter) (answer : Answer) → IsDue asked left before now answer →
    IsOneOf (statuses asked) answer.status
due_status None left before now answer due = inr (inr (inl (status_of answer usage due)))
due_status (Some (Commands.Make n)) left before now answer (inl due) = inr (inl (status_of answer no_memory due))
due_status (Some (Commands.Make n)) left before now answer (inr due) = inr (inr (own_status (Commands.Make n) [] answer due))
due_status (Some Commands.Step) left before now answer due = text_status Commands.Step left before now answer due
due_status (Some Commands.Run) left before now answer due = text_status Commands.Run left before now answer due
due_status (Some Commands.Segments) left before now answer due = text_status Commands.Segments left before now answer due
due_status (Some Commands.Session) left before now answer due = text_status Commands.Session left before now answer due
due_status (Some (Commands.Count nodes turns)) left before now answer due = text_status (Commands.Count nodes turns) left before now answer due
due_status (Some (Commands.Check form)) left before now answer due = text_status (Commands.Check form) left before now answer due

cut_status : (asked : Option Command) (status : ℕ) → (status ≡ 5) ⊎ (status ≡ 8) → IsOneOf (statuses asked) status
cut_status None status is = fault_in (2 ∷ []) status is
cut_status (Some (Commands.Make n)) status is = fault_in (own_statuses (Commands.Make n)) status is
cut_status (Some Commands.Step) status is = fault_in (4 ∷ 7 ∷ own_statuses Commands.Step) status is
cut_status (Some Commands.Run) status is = fault_in (4 ∷ 7 ∷ own_statuses Commands.Run) status is
cut_status (Some Commands.Segments) status is = fault_in (4 ∷ 7 ∷ own_statuses Commands.Segments) status is
cut_status (Some Commands.Session) status is = fault_in (4 ∷ 7 ∷ own_statuses Commands.Session) status is
cut_status (Some (Commands.Count nodes turns)) status is = fault_in (4 ∷ 7 ∷ own_statuses (Commands.Count nodes turns)) status is
cut_status (Some (Commands.Check form)) status is = fault_in (4 ∷ 7 ∷ own_statuses (Commands.Check form)) status is

ends_by : (asked : Option Command) (answer : Answer) (status : ℕ) (old new : Option (List ℕ)) → IsOneOf (statuses asked) answer.status →
    IsOffered answer status old new → IsOneOf (statuses asked) status
ends_by asked answer status old new own (inl whole) = subst (λ (n : ℕ). IsOneOf (statuses asked) n) (sym whole.status') own
ends_by asked answer status old new own (inr cut) = cut_status asked status cut.status'

pub ends_of : (asked : Option Command) (left : Option (List ℕ)) (before now : Counter) (status : ℕ) (old new : Option (List ℕ)) →
    IsAnswered asked left before now status old new → IsOneOf (statuses asked) status
ends_of asked left before now status old new a = ends_by asked a.answer status old new (due_status asked left before now a.answer a.due) a.offered
