use Rattle.am_lab_reasons.proofs.Again.{same_if}
use Rattle.am_lab_reasons.proofs.StoppedDue.{end_at, has_end}
use Rattle.am_lab_reasons.proofs.before.whole_journal.Goals as goal

pub reach_end-requires-clause-end : goal.reach_end-requires-clause-end
reach_end-requires-clause-end c =
    has_end c.requires.journal.0 c.args.scenario.now c.requires.lawful c.args.bytes.now c.requires.journal.1 c.requires.journal.2 c.in_ok-cluster.cluster.layout
    c.in_ok-cluster.ensures.layout

pub returns : goal.returns
returns c = λ form journal h.
    let are = end_at form c.args.scenario.now c.requires.lawful c.args.bytes.now journal h c.in_ok-cluster.cluster.layout c.in_ok-cluster.ensures.layout in
    let got = c.in_ok-reach_end.ensures.reached journal h.left are h.count in
    same_if c.journal_in.result c.reach_end.new.cluster.journal journal got c.journal_in.ensures
