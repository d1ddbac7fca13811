use Rattle.std.proofs.Common.{◌∙◌}
use Rattle.am_job.proofs.Ready.{ready_at, scenario_is}
use Rattle.am_job.proofs.scenario.scenario.Goals as goal

pub make_script-requires-clause-ready : goal.make_script-requires-clause-ready
make_script-requires-clause-ready c =
    ready_at c.args.w c.args.words.now c.in_ok-draft.draft c.args.turns c.requires.nodes c.requires.size c.in_ok-draft.ensures

pub returns-clause-exact : goal.returns-clause-exact
returns-clause-exact c =
    c.finish.ensures.same
    ∙ scenario_is c.args.w c.args.turns c.args.words.now c.in_ok-draft.draft c.make_script.new.draft c.in_ok-draft.ensures c.in_ok-make_script.ensures
