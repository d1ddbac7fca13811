-- In the run of a round each word that is sent has its end.
use Rattle.std.specs.Prelude.{◌≡◌, ℕ, ◌<◌, ◌≤◌, List}
use Rattle.std.proofs.lemmas.List.Elements.{All-nil}
use Rattle.am_office_entries.specs.declared.Entry.{Entry}
use Rattle.am_scenario_plan.specs.declared.plan.LinkFault.TheVariants.{Repeat}
use Rattle.am_scenario_plan.specs.declared.plan.PlanLine.{PlanLine}
use Rattle.am_laws_runs.specs.Turns.Endings.{WithholdsNothing}
use Rattle.am_job.specs.declared.words.codes.CodedWord.{CodedWord}
use Rattle.am_job.specs.Rounds.{scenario}
use Rattle.am_job.specs.Count.Left.{AddsUp}
use Rattle.am_job.specs.RunLaws.Laws.{IsSettledRound}
use Rattle.am_job.proofs.Ends as ends
use Rattle.am_main_run.specs.Counts.Cluster.Rounds.{IsRoundRun}

-- the plan of a round is empty
withholds_nothing : (w turns : ℕ) (words : List CodedWord) → WithholdsNothing (scenario w turns words)
unfolding scenario
withholds_nothing w turns words = All-nil (λ (line : PlanLine). line.fault ≡ Repeat)

-- so no message of its run is unknown
settled : (w turns : ℕ) (words : List CodedWord) (journal : List Entry) → IsRoundRun (scenario w turns words) journal → IsSettledRound w turns words journal
settled w turns words journal run = record {
  round = record { history = run.obeys.history; laws = run.obeys.laws; scripts = run.whole.follows.scripts; events = run.whole.follows.events };
  settled = run.whole.settled;
  known = run.obeys.complete (withholds_nothing w turns words);
}

-- so each word that is sent has its end
pub rounds_add_up : (w turns : ℕ) (words : List CodedWord) (journal : List Entry) → 0 < w → w ≤ 8 → IsRoundRun (scenario w turns words) journal → AddsUp (scenario w turns words) journal
rounds_add_up w turns words journal some few run = ends.rounds_add_up w turns words journal some few (settled w turns words journal run)
