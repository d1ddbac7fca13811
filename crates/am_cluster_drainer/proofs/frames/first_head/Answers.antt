use Rattle.std.proofs.Common.{sym, ◌∙◌, arith}
use Rattle.am_model_scripts.specs.Layout.{layout_of}
use Rattle.am_model_scripts.specs.Standings.{standings}
use Rattle.am_cluster_drainer.specs.Reads.{head_of}
use Rattle.am_cluster_drainer.specs.Choices.{passes_head}
use Rattle.am_cluster_drainer.proofs.Finding.{read_here, read_not, read_past}
use Rattle.am_cluster_drainer.proofs.frames.first_head.Goals as goal

pub returns-then-passes-clause-value : goal.returns-then-passes-clause-value
returns-then-passes-clause-value g c =
    let m = g.M.Drainable in
    let ends = standings (layout_of (m.scenario c.args.machine.now)) (m.journal c.args.machine.now) in
    sym (read_here head_of (passes_head c.args.test) ends c.ends.index c.head-head.result c.head-head.ensures.value (sym c.passes.ensures ∙ c.if-passes.true))
    ∙ c.ends.invariant.first

pub ends-preserved : goal.ends-preserved
ends-preserved g c =
    let m = g.M.Drainable in
    let ends = standings (layout_of (m.scenario c.args.machine.now)) (m.journal c.args.machine.now) in
    record {
      count = c.ends.invariant.count;
      first = read_not head_of (passes_head c.args.test) ends c.ends.index c.head-head.result c.head-head.ensures.value (sym c.passes.ensures
          ∙ c.if-passes.false) ∙ c.ends.invariant.first;
    }

pub returns-clause-value : goal.returns-clause-value
returns-clause-value g c =
    let m = g.M.Drainable in
    let ends = standings (layout_of (m.scenario c.args.machine.now)) (m.journal c.args.machine.now) in
    sym (read_past head_of (passes_head c.args.test) ends c.ends.index (omega (arith, c.ends.invariant.count))) ∙ c.ends.invariant.first
