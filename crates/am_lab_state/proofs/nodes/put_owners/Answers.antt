use Rattle.am_lab_state.specs.Nodes.{owner_line}
use Rattle.am_lab_arrivals.proofs.Listing.{put_on}
use Rattle.am_lab_state.proofs.nodes.put_owners.Goals as goal

pub loop-line-preserved : goal.loop-line-preserved
loop-line-preserved c =
    put_on (owner_line c.args.scenario.now c.args.cluster.now.journal c.args.node c.args.frame) c.args.ends.now c.loop-line.line-index _
    c.args.out.now.items c.loop-line.out.items c.put_owner_of.new.out.items c.loop-line-test.true c.loop-line.invariant c.in_ok-put_owner_of.ensures
