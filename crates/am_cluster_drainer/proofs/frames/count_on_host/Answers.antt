use Rattle.std.proofs.Common.{sym, ◌∙◌, arith}
use Rattle.am_model_scripts.specs.Layout.{layout_of}
use Rattle.am_model_scripts.specs.Standings.{standings}
use Rattle.am_cluster_drainer.specs.Reads.{head_of}
use Rattle.am_cluster_drainer.specs.Choices.{is_open_on_host}
use Rattle.am_cluster_drainer.proofs.Finding.{count_here, count_not, count_past}
use Rattle.am_cluster_drainer.proofs.frames.count_on_host.Goals as goal
use Rattle.am_cluster_drainer.proofs.frames.count_on_host.Goals.{then-is_open_on_host, else-is_open_on_host}

pub ends-preserved : goal.ends-preserved
ends-preserved g c =
    let m = g.M.Drainable in
    let ends = standings (layout_of (m.scenario c.args.machine.now)) (m.journal c.args.machine.now) in
    let step = c.ends.invariant in
    elim c.if-is_open_on_host.branch [
      | then-is_open_on_host w ↦
          let here = count_here head_of (is_open_on_host c.args.node) ends c.ends.index c.head.result c.head.ensures.value (sym c.is_open_on_host.ensures
          ∙ w.if-is_open_on_host.true) in
          record { count = step.count; within = omega (arith, step.within); all = omega (arith, step.all, here) }
      | else-is_open_on_host w ↦
          let here = count_not head_of (is_open_on_host c.args.node) ends c.ends.index c.head.result c.head.ensures.value (sym c.is_open_on_host.ensures
          ∙ w.if-is_open_on_host.false) in
          record { count = step.count; within = omega (arith, step.within); all = omega (arith, step.all, here) }
    ]

pub returns : goal.returns
returns g c =
    let m = g.M.Drainable in
    let ends = standings (layout_of (m.scenario c.args.machine.now)) (m.journal c.args.machine.now) in
    omega (arith, c.ends.invariant.all, count_past head_of (is_open_on_host c.args.node) ends c.ends.index (omega (arith, c.ends.invariant.count)))
