use Rattle.std.proofs.Common.{arith, lt-ltb}
use Rattle.std.specs.Prelude.{length, filter}
use Rattle.std.proofs.lemmas.Bool.{le-ltb}
use Rattle.am_model_scripts.specs.Layout.{layout_of}
use Rattle.am_model_scripts.specs.Standings.{standings}
use Rattle.am_model_drain.specs.Ready as plan
use Rattle.am_cluster_drainer.proofs.Planned.{spare_some, spare_none}
use Rattle.am_cluster_drainer.proofs.frames.spare.Goals as goal

pub returns-then-kept-found-clause-value : goal.returns-then-kept-found-clause-value
returns-then-kept-found-clause-value g c =
    let m = g.M.Drainable in
    let s = m.scenario c.args.machine.now in
    let past = m.journal c.args.machine.now in
    let layout = layout_of s in
    let ends = standings layout past in
    spare_some s.keep c.args.node c.args.source c.args.dest ends c.first_head.result (lt-ltb s.keep (length (filter (plan.is_open_on_host c.args.node) ends))
    (omega (arith, c.if-kept-found.true, c.count_on_host-found.ensures, c.keep.ensures))) c.first_head.ensures.value

pub returns-else-kept-found-clause-value : goal.returns-else-kept-found-clause-value
returns-else-kept-found-clause-value g c =
    let m = g.M.Drainable in
    let s = m.scenario c.args.machine.now in
    let past = m.journal c.args.machine.now in
    let layout = layout_of s in
    let ends = standings layout past in
    spare_none s.keep c.args.node c.args.source c.args.dest ends (le-ltb s.keep (length (filter (plan.is_open_on_host c.args.node) ends))
    (omega (arith, c.if-kept-found.false, c.count_on_host-found.ensures, c.keep.ensures)))
