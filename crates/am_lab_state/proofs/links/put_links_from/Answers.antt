use Rattle.am_lab_reasons.proofs.Following.{put_more}
use Rattle.am_lab_state.specs.Links.{link_line}
use Rattle.am_lab_state.proofs.links.put_links_from.Goals as goal

pub loop-to-preserved : goal.loop-to-preserved
loop-to-preserved c =
    put_more (link_line c.args.scenario.now c.args.cluster.now.journal c.args.from) c.loop-to.to c.args.out.now.items c.loop-to.out.items c.put_link.new.out.items c.in_ok-put_link.ensures
    c.loop-to.invariant
