use Rattle.am_lab_reasons.proofs.Again.{same_if}
use Rattle.am_lab_reasons.proofs.StoppedDue.{lines_at, place_at}
use Rattle.am_lab_reasons.proofs.before.journal_at.Goals as goal

pub reach-requires-clause-place : goal.reach-requires-clause-place
reach-requires-clause-place c =
    let h = c.requires.place.1 in
    place_at c.requires.place.0 c.args.scenario.now c.requires.lawful c.args.bytes.now c.args.line h.journal h.left h.at c.in_ok-cluster.cluster.layout
    c.in_ok-cluster.ensures.layout

pub returns : goal.returns
returns c = λ form h.
    let are = lines_at form c.args.scenario.now c.requires.lawful c.args.bytes.now c.args.line h.journal h.left h.at c.in_ok-cluster.cluster.layout
    c.in_ok-cluster.ensures.layout in
    let got = c.in_ok-reach.ensures.reached h.journal h.left are h.at.number' in
    same_if c.journal_in.result c.reach.new.cluster.journal h.journal got.0 c.journal_in.ensures
