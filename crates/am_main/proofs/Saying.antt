-- What an answer says, in other words.
use Rattle.std.specs.Prelude.{true, codes, Result, Ok, Err}
use Rattle.std.proofs.Common.{◌≡◌, ◌≢◌, ◌⊎◌, inl, inr, ℕ, ◌<◌, ◌≤◌, List, [], ◌∷◌, length, Option, Some, None, refl, sym, ap, ◌∙◌, arith}
use Rattle.am_io.specs.Causes.{Rose, Counter}
use Rattle.am_main.specs.Answers.{Finds, IsAnswered, IsDue, IsDueToText, IsOfCommand, IsOneOf, IsTaken}
use Rattle.am_main_lines.specs.Offers.{IsOffered, IsWhole, no_memory, read_fault, too_long}
use Rattle.am_main.specs.Answers.{statuses}
use Rattle.am_main.specs.Commands.{reads_text}
use Rattle.am_main.specs.Laws.{AnswersSay, AsksForCount, Takes}
use Rattle.am_main.specs.declared.commands.Command.{Command}
use Rattle.am_main.specs.declared.commands.Command.TheVariants as Commands
use Rattle.am_main.proofs.Statuses.{never}
use Rattle.am_check.specs.declared.faults.CheckStop.{CheckStop}
use Rattle.am_check.specs.declared.faults.CheckStop.TheVariants as Stops
use Rattle.am_main_step.specs.Checks.{TellsVerdict}
use Rattle.am_main_run.specs.Counts.Counts.{CountAnswers, CountsWords}
use Rattle.am_main_lines.specs.Lines.{Answer}
use Rattle.am_main_run.specs.Runs.{MakeAnswers, PrintsRun, RunAnswers, Summarizes}
use Rattle.am_main_run.specs.Segments.Segments.{PrintsSegments, SegmentsAnswers}
use Rattle.am_main_step.specs.Meaning.{PrintsHistory, StepAnswers}
use Rattle.am_scenario.specs.Grammar.{grammar}
use Rattle.am_scenario_types.specs.declared.faults.ScenarioFault.{ScenarioFault}
use Rattle.am_scenario_types.specs.declared.parts.Form.TheVariants as Forms
use Rattle.am_scenario_types.specs.Lists.{ScenarioLists}
use Rattle.am_segment.specs.declared.scenario.SegmentScenario.{SegmentScenario}
use Rattle.am_segment.specs.Spelling.{segment_grammar}
use Rattle.am_session.specs.declared.script.SessionTextFault.{SessionTextFault}
use Rattle.am_session.specs.Grammar as Sessions
use Rattle.am_session.specs.Meaning.{PrintsSession, SessionMeans}
use Rattle.am_session.specs.Scripts.{Script}

text_due : (command : Command) (left : Option (List ℕ)) (before now : Counter) (answer : Answer) → reads_text (Some command) ≡ true →
    IsDue (Some command) left before now answer → IsDueToText command left before now answer
text_due Commands.Step left before now answer reads due = due
text_due Commands.Run left before now answer reads due = due
text_due (Commands.Make n) left before now answer reads due = absurd (cc)
text_due Commands.Segments left before now answer reads due = due
text_due Commands.Session left before now answer reads due = due
text_due (Commands.Count nodes turns) left before now answer reads due = due
text_due (Commands.Check form) left before now answer reads due = due

-- the status of an answer that is known
known_status : (answer known : Answer) (status : ℕ) (old new : Option (List ℕ)) → answer ≡ known → IsWhole answer status old new → status ≡ known.status
known_status answer known status old new same whole = whole.status' ∙ ap (λ (a : Answer). a.status) same

found_by : (command : Command) (left : Option (List ℕ)) (before now : Counter) (answer : Answer) (status : ℕ) (old new : Option (List ℕ)) →
    IsDueToText command left before now answer → IsWhole answer status old new → IsOfCommand status → Finds left (λ bytes. Takes command bytes status old new)
found_by command left before now answer status old new (inl due) whole is =
    absurd (never status 4 is (known_status answer read_fault status old new due.1 whole) (omega arith) (omega arith) (omega arith) (omega arith) (omega arith))
found_by command left before now answer status old new (inr (stands, inl due)) whole is =
    absurd (never status 7 is (known_status answer too_long status old new due.1 whole) (omega arith) (omega arith) (omega arith) (omega arith) (omega arith))
found_by command left before now answer status old new (inr (stands, inr (inl due))) whole is =
    absurd (never status 8 is (known_status answer no_memory status old new due whole) (omega arith) (omega arith) (omega arith) (omega arith) (omega arith))
found_by command left before now answer status old new (inr (stands, inr (inr f))) whole is =
    record { bytes = f.bytes; all = f.all; few = f.few; holds = record { answer = answer; answers = f.holds; whole = whole } }

found : (command : Command) (left : Option (List ℕ)) (before now : Counter) (status : ℕ) (old new : Option (List ℕ)) → reads_text (Some command) ≡ true →
    IsTaken (Some command) left before now status old new → IsOfCommand status → Finds left (λ bytes. Takes command bytes status old new)
found command left before now status old new reads t is = found_by command left before now t.answer status old new
    (text_due command left before now t.answer reads t.due) t.whole is

made_by : (n : ℕ) (answer : Answer) (status : ℕ) (old new : Option (List ℕ)) → (answer ≡ no_memory) ⊎ MakeAnswers n answer → IsWhole answer status old new →
    IsOfCommand status → Takes (Commands.Make n) [] status old new
made_by n answer status old new (inl due) whole is =
    absurd (never status 8 is (known_status answer no_memory status old new due whole) (omega arith) (omega arith) (omega arith) (omega arith) (omega arith))
made_by n answer status old new (inr answers) whole is = record { answer = answer; answers = answers; whole = whole }

made : (n : ℕ) (left : Option (List ℕ)) (before now : Counter) (status : ℕ) (old new : Option (List ℕ)) →
    IsTaken (Some (Commands.Make n)) left before now status old new → IsOfCommand status → Takes (Commands.Make n) [] status old new
made n left before now status old new t is = made_by n t.answer status old new t.due t.whole is

-- ---- where no read and no write fails

memory_alone : (status : ℕ) → status ≢ 5 → (status ≡ 5) ⊎ (status ≡ 8) → status ≡ 8
memory_alone status write (inl five) = absurd (write five)
memory_alone status write (inr eight) = eight

complete_by : (command : Command) (left : Option (List ℕ)) (before now : Counter) (answer : Answer) (status : ℕ) (old new : Option (List ℕ)) →
    ¬ (Rose before now) → status ≢ 5 → IsDueToText command left before now answer → IsOffered answer status old new →
    (status ≡ 7) ⊎ ((status ≡ 8) ⊎ Finds left (λ bytes. Takes command bytes status old new))
complete_by command left before now answer status old new read write due (inr cut) = inr (inl (memory_alone status write cut.status'))
complete_by command left before now answer status old new read write (inl due) (inl whole) = absurd (read due.0)
complete_by command left before now answer status old new read write (inr (stands, inl due)) (inl whole) =
    inl (known_status answer too_long status old new due.1 whole)
complete_by command left before now answer status old new read write (inr (stands, inr (inl due))) (inl whole) =
    inr (inl (known_status answer no_memory status old new due whole))
complete_by command left before now answer status old new read write (inr (stands, inr (inr f))) (inl whole) =
    inr (inr (record { bytes = f.bytes; all = f.all; few = f.few; holds = record { answer = answer; answers = f.holds; whole = whole } }))

complete : (command : Command) (left : Option (List ℕ)) (before now : Counter) (status : ℕ) (old new : Option (List ℕ)) → reads_text (Some command) ≡ true →
    ¬ (Rose before now) → status ≢ 5 → IsAnswered (Some command) left before now status old new →
    (status ≡ 7) ⊎ ((status ≡ 8) ⊎ Finds left (λ bytes. Takes command bytes status old new))
complete command left before now status old new reads read write a =
    complete_by command left before now a.answer status old new read write (text_due command left before now a.answer reads a.due) a.offered

made_complete_by : (n : ℕ) (answer : Answer) (status : ℕ) (old new : Option (List ℕ)) → status ≢ 5 → (answer ≡ no_memory) ⊎ MakeAnswers n answer →
    IsOffered answer status old new → (status ≡ 8) ⊎ Takes (Commands.Make n) [] status old new
made_complete_by n answer status old new write due (inr cut) = inl (memory_alone status write cut.status')
made_complete_by n answer status old new write (inl due) (inl whole) = inl (known_status answer no_memory status old new due whole)
made_complete_by n answer status old new write (inr answers) (inl whole) = inr (record { answer = answer; answers = answers; whole = whole })

made_complete : (n : ℕ) (left : Option (List ℕ)) (before now : Counter) (status : ℕ) (old new : Option (List ℕ)) → status ≢ 5 →
    IsAnswered (Some (Commands.Make n)) left before now status old new → (status ≡ 8) ⊎ Takes (Commands.Make n) [] status old new
made_complete n left before now status old new write a = made_complete_by n a.answer status old new write a.due a.offered

-- ---- status 0

never_zero : (status n : ℕ) → status ≡ n → n ≢ 0 → status ≡ 0 → ⊥
never_zero status n is other zero' = other (sym is ∙ zero')

step_zero : (read : Result ScenarioLists ScenarioFault) (answer : Answer) → StepAnswers read answer → answer.status ≡ 0 →
    (s : ScenarioLists) × (read ≡ Ok s) × PrintsHistory s answer.text
step_zero (Ok s) answer (inl means) zero' = (s, refl, means.1)
step_zero (Ok s) answer (inr (inl means)) zero' = absurd (never_zero answer.status 3 means.0 (omega arith) zero')
step_zero (Ok s) answer (inr (inr means)) zero' = absurd (never_zero answer.status 6 means.0 (omega arith) zero')
step_zero (Err fault) answer same zero' = absurd (never_zero answer.status 3 (ap (λ (a : Answer). a.status) same) (omega arith) zero')

run_zero : (read : Result ScenarioLists ScenarioFault) (answer : Answer) → RunAnswers read answer → answer.status ≡ 0 →
    (s : ScenarioLists) × (read ≡ Ok s) × PrintsRun s answer.text
run_zero (Ok s) answer (inl means) zero' = (s, refl, means.1)
run_zero (Ok s) answer (inr means) zero' = absurd (never_zero answer.status 6 means.0 (omega arith) zero')
run_zero (Err fault) answer same zero' = absurd (never_zero answer.status 3 (ap (λ (a : Answer). a.status) same) (omega arith) zero')

make_zero : (n : ℕ) (bytes : List ℕ) (answer : Answer) → MakeAnswers n answer → answer.status ≡ 0 → Summarizes n answer.text
make_zero n bytes answer (inl means) zero' = means.1
make_zero n bytes answer (inr means) zero' = absurd (never_zero answer.status 6 means.0 (omega arith) zero')

segments_zero : (read : Result SegmentScenario ScenarioFault) (answer : Answer) → SegmentsAnswers read answer → answer.status ≡ 0 →
    (s : SegmentScenario) × (read ≡ Ok s) × PrintsSegments s answer.text
segments_zero (Ok s) answer (inl means) zero' = (s, refl, means.1)
segments_zero (Ok s) answer (inr means) zero' = absurd (never_zero answer.status 6 means.0 (omega arith) zero')
segments_zero (Err fault) answer same zero' = absurd (never_zero answer.status 3 (ap (λ (a : Answer). a.status) same) (omega arith) zero')

session_zero : (read : Result Script SessionTextFault) (answer : Answer) → SessionMeans read answer → answer.status ≡ 0 →
    (s : Script) × (read ≡ Ok s) × PrintsSession s answer.text
session_zero (Ok s) answer (inl means) zero' = (s, refl, means.1)
session_zero (Ok s) answer (inr means) zero' = absurd (never_zero answer.status 3 means.0 (omega arith) zero')
session_zero (Err fault) answer same zero' = absurd (never_zero answer.status 3 (ap (λ (a : Answer). a.status) same) (omega arith) zero')

count_zero : (nodes turns : ℕ) (bytes : List ℕ) (answer : Answer) → CountAnswers nodes turns bytes answer → answer.status ≡ 0 →
    (length bytes ≤ 1_048_576) × CountsWords nodes turns bytes answer.text
count_zero nodes turns bytes answer (inl means) zero' = absurd (never_zero answer.status 11 (ap (λ (a : Answer). a.status) means.1) (omega arith) zero')
count_zero nodes turns bytes answer (inr (few, inl means)) zero' = (few, means.1)
count_zero nodes turns bytes answer (inr (few, inr means)) zero' = absurd (never_zero answer.status 6 means.0 (omega arith) zero')

check_zero : (says : Result (Unit {0}) CheckStop) (answer : Answer) → TellsVerdict says answer → answer.status ≡ 0 → answer.text ≡ codes "check ok\n"
check_zero (Ok x) answer tells zero' = ap (λ (a : Answer). a.text) tells
check_zero (Err (Stops.Fault number what)) answer tells zero' =
    absurd (never_zero answer.status 10 (ap (λ (a : Answer). a.status) tells) (omega arith) zero')
check_zero (Err (Stops.Scenario fault)) answer tells zero' = absurd (never_zero answer.status 3 (ap (λ (a : Answer). a.status) tells) (omega arith) zero')
check_zero (Err (Stops.LogFull part)) answer tells zero' = absurd (never_zero answer.status 6 (ap (λ (a : Answer). a.status) tells) (omega arith) zero')
check_zero (Err Stops.NoMemory) answer tells zero' = absurd tells

-- ---- status 11

-- it stands in no list of smaller ones
abbrev AllBelow : List ℕ → Type 0
AllBelow [] = Unit {0}
AllBelow (one ∷ others) = (one < 11) × AllBelow others

not_in : (others : List ℕ) → AllBelow others → IsOneOf others 11 → ⊥
not_in [] below none = none
not_in (one ∷ others) below (inl is) = let less = below.0 in absurd (omega (arith, less, is))
not_in (one ∷ others) below (inr is) = not_in others below.1 is

eleven : (asked : Option Command) → IsOneOf (statuses asked) 11 → AsksForCount asked
eleven None is = absurd (not_in (statuses None) (omega arith, (omega arith, (omega arith, tt))) is)
eleven (Some (Commands.Make n)) is = absurd (not_in (statuses (Some (Commands.Make n))) (omega arith, (omega arith, (omega arith, (omega arith, tt)))) is)
eleven (Some Commands.Step) is = absurd (not_in (statuses (Some Commands.Step)) (
  omega arith,
  (omega arith, (omega arith, (omega arith, (omega arith, (omega arith, (omega arith, tt)))))),
) is)
eleven (Some Commands.Run) is = absurd (not_in (statuses (Some Commands.Run)) (
  omega arith,
  (omega arith, (omega arith, (omega arith, (omega arith, (omega arith, (omega arith, tt)))))),
) is)
eleven (Some Commands.Segments) is = absurd (not_in (statuses (Some Commands.Segments)) (
  omega arith,
  (omega arith, (omega arith, (omega arith, (omega arith, (omega arith, (omega arith, tt)))))),
) is)
eleven (Some Commands.Session) is = absurd (not_in (statuses (Some Commands.Session)) (
  omega arith,
  (omega arith, (omega arith, (omega arith, (omega arith, (omega arith, tt))))),
) is)
eleven (Some (Commands.Count nodes turns)) is = record { nodes = nodes; turns = turns; is = refl }
eleven (Some (Commands.Check form)) is = absurd (not_in (statuses (Some (Commands.Check form))) (
  omega arith,
  (omega arith, (omega arith, (omega arith, (omega arith, (omega arith, (omega arith, (omega arith, tt))))))),
) is)

pub answers_say : AnswersSay
answers_say = record {
  found = found;
  made = made;
  complete = complete;
  made_complete = made_complete;
  step = λ bytes answer answers. step_zero (grammar Forms.Step bytes) answer answers;
  run = λ bytes answer answers. run_zero (grammar Forms.Run bytes) answer answers;
  make = make_zero;
  segments = λ bytes answer answers. segments_zero (segment_grammar bytes) answer answers;
  session = λ bytes answer answers. session_zero (Sessions.grammar bytes) answer answers;
  count = count_zero;
  check = λ form bytes answer answers zero'. (answers.exactly.0 zero', check_zero answers.says answer answers.tells zero');
  eleven = eleven;
}
