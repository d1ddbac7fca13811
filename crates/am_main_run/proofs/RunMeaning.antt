-- What a whole drain says of a scenario's run, of a phase of its threads or of the empty journal.
use Rattle.std.proofs.Common.{◌≡◌, ℕ, List, [], ◌++◌, length, inl, inr, refl, ap, subst}
use Rattle.am_office_entries.specs.declared.Entry.{Entry}
use Rattle.am_office_entries.specs.declared.Part.{Part}
use Rattle.am_office_report.specs.Report.{report}
use Rattle.am_scenario_types.specs.Lists.{ScenarioLists}
use Rattle.am_model_drain.specs.Cut.{IsDrainedWithRoom}
use Rattle.am_model_drain.specs.Drain.{IsDrained}
use Rattle.am_model_drain.proofs.Determined.{drain_is_determined}
use Rattle.am_laws_runs.specs.Turns.Runs.{IsWholeRun}
use Rattle.am_cluster.proofs.Obeying.{alone_is_done}
use Rattle.am_cluster.specs.Runs.{IsAloneCutOff, IsRunCutOff, IsRunDone, ObeysRunLaws}
use Rattle.am_main_lines.specs.Lines.{Answer, full_line, ids_of}
use Rattle.am_main_run.specs.Runs.{IsDrainedAlone, IsRunAnswer, IsRunOf, MakeAnswers, make_text}
use Rattle.am_scenario_generator.specs.Scenarios.{generated}

drained_alone : (s : ScenarioLists) (journal : List Entry) → IsDrainedWithRoom s [] journal → IsDrainedAlone s journal
drained_alone s journal drained =
    record { drained = drained; only = λ (other : List Entry) (is : IsDrained s [] other). drain_is_determined s [] other journal is drained.drained }

-- without turns the phase is empty
done_alone : (s : ScenarioLists) (journal : List Entry) → IsRunDone s journal → s.turns ≡ 0 → IsDrainedAlone s journal
done_alone s journal done none = drained_alone s journal (subst (λ (phase : List Entry). IsDrainedWithRoom s phase journal) (done.made.none none) done.drained)

pub is_run_of : (s : ScenarioLists) (journal : List Entry) → IsRunDone s journal → IsWholeRun s journal → ObeysRunLaws s journal → IsRunOf s journal
is_run_of s journal done whole obeys =
    record {
      obeys = obeys;
      follows = whole.follows;
      settled = whole.settled;
      done = done;
      only = λ (other : List Entry) (is : IsDrained s done.phase other). drain_is_determined s done.phase other journal is done.drained.drained;
      alone = done_alone s journal done;
    }

-- the answer where the run came to its end
pub run_reported : (s : ScenarioLists) (journal : List Entry) (text : List ℕ) → IsRunDone s journal → IsWholeRun s journal → ObeysRunLaws s journal →
    text ≡ report (ids_of s.ends) journal → IsRunAnswer s (record { status = 0; text = text })
run_reported s journal text done whole obeys printed =
    inl (refl, record { journal = journal; run = is_run_of s journal done whole obeys; text' = printed })

-- and where it met a full log
pub run_cut : (s : ScenarioLists) (part : Part) (journal : List Entry) (text : List ℕ) → IsRunCutOff s part journal →
    text ≡ full_line part ++ report (ids_of s.ends) journal → IsRunAnswer s (record { status = 6; text = text })
run_cut s part journal text cut printed = inr (refl, (part, record { journal = journal; cut = cut; text' = printed }))

-- so of a generated scenario without threads
pub make_reported : (n calls : ℕ) (s : ScenarioLists) (journal : List Entry) (text : List ℕ) → s ≡ generated n → IsDrainedWithRoom s [] journal →
    IsWholeRun s journal → ObeysRunLaws s journal → calls ≡ length s.script → length s.script ≡ 1744 → text ≡ make_text n calls journal →
    MakeAnswers n (record { status = 0; text = text })
make_reported n calls s journal text is drained whole obeys counted many printed =
    let run = subst (λ (g : ScenarioLists). IsRunOf g journal) is (is_run_of s journal (alone_is_done s journal drained) whole obeys) in
    let alone = subst (λ (g : ScenarioLists). IsDrainedAlone g journal) is (drained_alone s journal drained) in
    let many' = subst (λ (g : ScenarioLists). length g.script ≡ 1744) is many in
    let all : calls ≡ 1744 = cc in
    let printed' = subst (λ (k : ℕ). text ≡ make_text n k journal) all printed in
    inl (refl, record { journal = journal; run = run; alone = alone; calls = many'; text' = printed' })

pub make_cut : (n : ℕ) (s : ScenarioLists) (part : Part) (journal : List Entry) (answer : Answer) → s ≡ generated n → IsAloneCutOff s part journal →
    answer ≡ record { status = 6; text = full_line part } → MakeAnswers n answer
make_cut n s part journal answer is cut printed =
    inr (
      ap (λ (a : Answer). a.status) printed,
      (
        part,
        record {
          journal = journal;
          cut = subst (λ (g : ScenarioLists). IsAloneCutOff g part journal) is cut;
          text' = ap (λ (a : Answer). a.text) printed;
        },
      ),
    )
