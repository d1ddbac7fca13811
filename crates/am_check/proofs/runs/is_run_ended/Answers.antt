use Rattle.am_check.proofs.RunEnds.{ended_test}
use Rattle.am_check.proofs.runs.is_run_ended.Goals as goal

pub returns : goal.returns
returns c = ended_test c.args.run.now.scenario c.args.run.now.journal c.is_none.result c.next_turn.result c.laws.ensures.lawful c.laws.ensures.history
    c.requires c.is_none.ensures c.next_turn.ensures.turn
