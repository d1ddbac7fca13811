-- What a command tells of its run is what `am2 run` tells of the text of its scenario.
use Rattle.std.specs.Prelude.{slice_get}
use Rattle.std.specs.List.{AllZip}
use Rattle.std.proofs.Common.{◌≡◌, inl, inr, ℕ, zero, suc, List, [], ◌∷◌, Some, Result, Ok, refl, sym, subst, append-nil}
use Rattle.am_cluster.proofs.Obeying.{alone_is_stopped}
use Rattle.am_cluster.specs.declared.RunFault.TheVariants as Runs
use Rattle.am_job.specs.Count.Counting.{IsRound, PrintsCount}
use Rattle.am_main_run.specs.Counts.Cluster.Rounds.{IsRoundRun}
use Rattle.am_job.specs.Rounds.{round_at, rounds_of}
use Rattle.am_lab_scenarios.proofs.Rounds.{round_is}
use Rattle.am_lab_scenarios.specs.Derived.Answers.{PrintsScenario, with_number}
use Rattle.am_scenario_generator.specs.Scenarios.{generated}
use Rattle.am_lab_scenarios.specs.DerivedLaws.Laws.{BeginsWithRun, CountsAreRun, CutCountsAreRun, IsCountedRun, IsCutRun, MakesAreRun, RunMayTell, SegmentsAreRun}
use Rattle.am_lab_scenarios.specs.DerivedLaws.Laws.{TellOneRun, cut_off, reported}
use Rattle.am_main_run.specs.Counts.Counts.{CutsCount}
use Rattle.am_main_lines.specs.Lines.{Answer, full_line, ids_of}
use Rattle.am_main_run.proofs.OneAnswer.{have_one_answer}
use Rattle.am_main_run.proofs.RunMeaning.{is_run_of}
use Rattle.am_main_run.specs.Runs.{IsRunAnswer, IsRunOf, MakeAnswers, PrintsCutRun, RunAnswers, TellsCutRun, make_text}
use Rattle.am_main_run.specs.Segments.Segments.{IsSegmentsAnswer}
use Rattle.am_office_entries.specs.declared.Entry.{Entry}
use Rattle.am_office_entries.specs.declared.Part.{Part}
use Rattle.am_office_report.specs.Report.{report}
use Rattle.am_scenario_types.specs.declared.faults.ScenarioFault.{ScenarioFault}
use Rattle.am_scenario_types.specs.Lists.{ScenarioLists}
use Rattle.am_segment.specs.declared.scenario.SegmentScenario.{SegmentScenario}
use Rattle.am_segment.specs.Printed.{segments_text}
use Rattle.am_job.specs.Words.Codes.{sent_words}

-- ---- what a printed scenario's text is answered

may_tell : (s : ScenarioLists) (printed answer : Answer) → PrintsScenario s printed → IsRunAnswer s answer → RunMayTell printed.text answer
may_tell s printed answer prints is = subst (λ (read : Result ScenarioLists ScenarioFault). RunAnswers read answer) (sym prints.spells) is

told_of : (s : ScenarioLists) (printed answer : Answer) → PrintsScenario s printed → RunMayTell printed.text answer → IsRunAnswer s answer
told_of s printed answer prints tells = subst (λ (read : Result ScenarioLists ScenarioFault). RunAnswers read answer) prints.spells tells

run_reported : (s : ScenarioLists) (journal : List Entry) → IsRunOf s journal → IsRunAnswer s (reported s journal)
run_reported s journal run = inl (refl, record { journal = journal; run = run; text' = refl })

-- ---- make

no_turns : (n : ℕ) → (generated n).turns ≡ 0
unfolding generated
no_turns n = refl

answer_is : (answer : Answer) (status : ℕ) (text : List ℕ) → answer.status ≡ status → answer.text ≡ text → answer ≡ record { status = status; text = text }
answer_is answer status text one other = λ i. record { status = one i; text = other i }

one_of : (n : ℕ) (printed ran answer : Answer) → PrintsScenario (generated n) printed → RunMayTell printed.text ran → IsRunAnswer (generated n) answer →
    ran ≡ answer
one_of n printed ran answer prints tells is =
    have_one_answer.run (Ok (generated n)) ran answer (no_turns n) (told_of (generated n) printed ran prints tells) is

cut_of_number : (n : ℕ) (part : Part) (text : List ℕ) (c : TellsCutRun n part text) → IsRunAnswer (generated n) (cut_off (generated n) part c.journal)
cut_of_number n part text c =
    let stopped = alone_is_stopped (generated n) (Runs.LogFull part c.journal) c.cut in
    inr (refl, (part, record { journal = c.journal; cut = stopped; text' = refl }))

made_is_run : (n : ℕ) (printed made ran : Answer) → PrintsScenario (generated n) printed → MakeAnswers n made → RunMayTell printed.text ran →
    TellOneRun n made ran
made_is_run n printed made ran prints (inl (done, sums)) tells =
    let s = generated n in
    let is = run_reported s sums.journal sums.run in
    record {
      journal = sums.journal;
      alike = inl (answer_is made 0 (make_text n 1744 sums.journal) done sums.text', one_of n printed ran (reported s sums.journal) prints tells is);
    }
made_is_run n printed made ran prints (inr (done, (part, c))) tells =
    let is = cut_of_number n part made.text c in
    record {
      journal = c.journal;
      alike = inr (part, answer_is made 6 (full_line part) done c.text', one_of n printed ran (cut_off (generated n) part c.journal) prints tells is);
    }

-- ---- segments

segments_are_run : (s : SegmentScenario) (printed told : Answer) → PrintsScenario s.scenario printed → IsSegmentsAnswer s told → BeginsWithRun printed told
segments_are_run s printed told prints (inl (done, is)) =
    let front = report (ids_of s.scenario.ends) is.journal in
    let answer : Answer = record { status = told.status; text = front } in
    let runs : IsRunAnswer s.scenario answer = inl (done, record { journal = is.journal; run = is.run; text' = refl }) in
    record {
      front = front;
      more = segments_text s.expanded is.journal;
      text' = is.text';
      runs = may_tell s.scenario printed answer prints runs;
    }
segments_are_run s printed told prints (inr (done, cut)) =
    record {
      front = told.text;
      more = [];
      text' = sym (append-nil told.text);
      runs = may_tell s.scenario printed told prints (inr (done, cut));
    }

-- ---- count

at_place : {A B : Type 0} (R : A → B → Type 0) (xs : List A) (ys : List B) (k : ℕ) (x : A) → AllZip R xs ys → slice_get xs k ≡ Some x →
    (y : B) × (slice_get ys k ≡ Some y) × R x y
at_place R [] ys k x all is = absurd (cc)
at_place R (a ∷ xs) [] k x all is = absurd all
at_place R (a ∷ xs) (b ∷ ys) zero x all is =
    let same : a ≡ x = cc in
    (b, refl, subst (λ z. R z b) same all.0)
at_place R (a ∷ xs) (b ∷ ys) (suc k) x all is = at_place R xs ys k x all.1 is

at_number : {A B : Type 0} (R : A → B → Type 0) (xs : List A) (ys : List B) (number : ℕ) (x : A) → AllZip R xs ys → with_number number xs ≡ Some x →
    (y : B) × (with_number number ys ≡ Some y) × R x y
at_number R xs ys zero x all is = absurd (cc)
at_number R xs ys (suc k) x all is = at_place R xs ys k x all is

round_run : (s : ScenarioLists) (journal : List Entry) → IsRoundRun s journal → IsRunOf s journal
round_run s journal run = is_run_of s journal run.done run.whole run.obeys

counts_are_run : (nodes turns number : ℕ) (bytes text : List ℕ) (counts : PrintsCount IsRoundRun nodes turns bytes text) (round : ScenarioLists)
    (printed : Answer) → with_number number (rounds_of nodes turns (sent_words bytes)) ≡ Some round → PrintsScenario round printed →
    IsCountedRun number round counts.journals printed
counts_are_run nodes turns number bytes text counts round printed is prints =
    let found = at_number (IsRound IsRoundRun) (rounds_of nodes turns (sent_words bytes)) counts.journals number round counts.rounds is in
    record {
      journal = found.0;
      counted = found.1;
      runs = may_tell round printed (reported round found.0) prints (run_reported round found.0 (round_run round found.0 found.2.run));
    }

cut_counts_are_run : (nodes turns : ℕ) (bytes text : List ℕ) → CutsCount nodes turns bytes text → IsCutRun nodes turns bytes text
cut_counts_are_run nodes turns bytes text cut =
    let k = cut.round.number in
    let round = round_at nodes turns (sent_words bytes) k in
    let same : PrintsCutRun round cut.part text = subst (λ (s : ScenarioLists). PrintsCutRun s cut.part text) cut.round.is_round cut.prints in
    let answer : Answer = record { status = 6; text = text } in
    let told : IsRunAnswer round answer = inr (refl, (cut.part, same)) in
    record {
      number = suc k;
      round = round;
      is = round_is nodes turns (sent_words bytes) k cut.round.below;
      runs = λ (printed : Answer) (prints : PrintsScenario round printed). may_tell round printed answer prints told;
    }

pub makes : MakesAreRun
makes = made_is_run

pub segments : SegmentsAreRun
segments = segments_are_run

pub counts : CountsAreRun
counts = counts_are_run

pub cuts : CutCountsAreRun
cuts = cut_counts_are_run
