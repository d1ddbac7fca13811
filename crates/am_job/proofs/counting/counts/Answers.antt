use Rattle.std.proofs.Common.{List, [], ap, subst, ◌∙◌}
use Rattle.am_scenario_types.specs.Lists.{ScenarioLists}
use Rattle.am_job.specs.Words.Counts.{IsTallyOf}
use Rattle.am_job.specs.Asked.{asked_by, asked_in_all}
use Rattle.am_job.specs.Lists.{JobLists}
use Rattle.am_job.proofs.SentTexts.{counts_are}
use Rattle.am_job.proofs.counting.counts.Goals as goal

pub returns : goal.returns
returns c =
    let asked : IsTallyOf c.in_ok-tally.tally (asked_by c.args.job.now) [] =
    subst (λ (rounds : List ScenarioLists). IsTallyOf c.in_ok-tally.tally (asked_in_all rounds) []) (c.deref.ensures.value
    ∙ ap (λ (job : JobLists). job.rounds) c.job.view_is) c.in_ok-tally.ensures in
    counts_are c.args.job.now c.args.journals.now c.see_journals.new.tally c.in_ok-rows.rows.items c.requires.of_text c.requires.few
    (c.in_ok-see_journals.ensures (asked_by c.args.job.now) asked) c.in_ok-rows.ensures.ascend c.in_ok-rows.ensures.rows
