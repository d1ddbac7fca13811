use Rattle.std.proofs.Common.{◌≡◌, subst, arith, ℕ}
use Rattle.am_cluster_scripted.proofs.PairMarked.{ArePairedTo, paired_all, paired_more, paired_none}
use Rattle.am_cluster_scripted.proofs.pair_marks.all_pairs.Goals as goal

pub loop-place-init : goal.loop-place-init
loop-place-init c = paired_none c.args.scenario.now c.args.cluster.now.journal c.no_pairs-marks.result c.no_pairs-marks.ensures.due
    c.no_pairs-marks.ensures.bound

pub loop-place-preserved : goal.loop-place-preserved
loop-place-preserved c =
    paired_more c.args.scenario.now c.args.cluster.now.journal c.loop-place.place c.loop-place.marks c.mark_place.new.marks c.loop-place.invariant
    c.mark_place.ensures.due c.mark_place.ensures.bound

pub returns : goal.returns
returns c =
    let all : c.loop-place.place ≡ 256 = omega arith in
    paired_all c.args.scenario.now c.args.cluster.now.journal c.loop-place.marks c.requires.parts.lawful.settings.nodes.1
    (subst (λ (n : ℕ). ArePairedTo c.args.scenario.now c.args.cluster.now.journal n c.loop-place.marks) all c.loop-place.invariant)
