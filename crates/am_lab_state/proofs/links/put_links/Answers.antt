use Rattle.am_lab_reasons.proofs.Following.{put_more}
use Rattle.am_lab_state.specs.Links.{links_from}
use Rattle.am_lab_state.proofs.links.put_links.Goals as goal

pub loop-from-preserved : goal.loop-from-preserved
loop-from-preserved c =
    put_more (links_from c.args.scenario.now c.args.cluster.now.journal) c.loop-from.from c.args.out.now.items c.loop-from.out.items c.put_links_from.new.out.items c.in_ok-put_links_from.ensures
    c.loop-from.invariant
