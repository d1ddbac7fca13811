use Rattle.std.proofs.Common.{sym, ◌∙◌, ap}
use Rattle.std.specs.Prelude.{◌&&◌, not}
use Rattle.am_names.specs.Names.{same_end}
use Rattle.am_model_scripts.specs.Layout.{layout_of}
use Rattle.am_model_scripts.specs.Standings.{standings}
use Rattle.am_cluster_drainer.proofs.Acting.{acts_same, acts_not}
use Rattle.am_cluster_drainer.proofs.Planned.{dest_needed, dest_not_needed, dest_nowhere}
use Rattle.am_cluster_drainer.proofs.frames.ready_dest.Goals as goal

pub returns-then-is_needed-clause-acts : goal.returns-then-is_needed-clause-acts
returns-then-is_needed-clause-acts g c =
    let m = g.M.Drainable in
    let s = m.scenario c.args.machine.now in
    let past = m.journal c.args.machine.now in
    let layout = layout_of s in
    let ends = standings layout past in
    let same = ap (λ h. not (same_end c.args.source c.args.dest) && not h.closed) (sym c.head_by.ensures) ∙ (sym c.is_needed.ensures ∙ c.if-is_needed.true) in
    acts_same _ _ _ _ _ _ (dest_needed layout s.keep c.in-Some.node c.args.source c.args.dest past same c.in-Some.ensures.value) c.ready.ensures.acts

pub returns-else-is_needed-clause-acts : goal.returns-else-is_needed-clause-acts
returns-else-is_needed-clause-acts g c =
    let m = g.M.Drainable in
    let s = m.scenario c.args.machine.now in
    let past = m.journal c.args.machine.now in
    let layout = layout_of s in
    let ends = standings layout past in
    let same = ap (λ h. not (same_end c.args.source c.args.dest) && not h.closed) (sym c.head_by.ensures) ∙ (sym c.is_needed.ensures ∙ c.if-is_needed.false) in
    acts_same _ _ _ _ _ _ (dest_not_needed layout s.keep c.args.source c.args.dest past same) (acts_not _ _ _)

pub returns-in-None-clause-acts : goal.returns-in-None-clause-acts
returns-in-None-clause-acts g c =
    let m = g.M.Drainable in
    let s = m.scenario c.args.machine.now in
    let past = m.journal c.args.machine.now in
    let layout = layout_of s in
    let ends = standings layout past in
    acts_same _ _ _ _ _ _ (dest_nowhere layout s.keep c.args.source c.args.dest past c.in-None.ensures.value) (acts_not _ _ _)
