use Rattle.std.proofs.Common.{◌≡◌, sym, subst}
use Rattle.am_model_scripts.specs.Layout.{layout_of}
use Rattle.am_cluster_drainer.specs.declared.EndTest.{EndTest}
use Rattle.am_cluster_drainer.specs.declared.EndTest.TheVariants.{Reply, Front, Arrival}
use Rattle.am_cluster_scripted.specs.EndMarks.{AreOf, told_by}
use Rattle.am_cluster_scripted.proofs.EndMarked.{next_shown}
use Rattle.am_cluster_scripted.proofs.firsts.next_end.Goals as goal

pub returns-in-Reply : goal.returns-in-Reply
returns-in-Reply c =
    let is : c.args.test ≡ Reply = cc in
    next_shown c.args.test c.args.scenario.now c.args.cluster.now.journal c.args.cluster.now.layout c.args.marks.now.replies c.args.from c.next.result
    c.requires.parts.packet c.requires.parts.layout c.laws.ensures.history c.requires.none_missed
    (subst (λ (t : EndTest). AreOf (told_by t) (layout_of c.args.scenario.now) c.args.cluster.now.journal c.args.marks.now.replies) (sym is)
    c.requires.marked.replies) c.next.ensures

pub returns-in-Front : goal.returns-in-Front
returns-in-Front c =
    let is : c.args.test ≡ Front = cc in
    next_shown c.args.test c.args.scenario.now c.args.cluster.now.journal c.args.cluster.now.layout c.args.marks.now.fronts c.args.from c.next-in-Front.result
    c.requires.parts.packet c.requires.parts.layout c.laws.ensures.history c.requires.none_missed
    (subst (λ (t : EndTest). AreOf (told_by t) (layout_of c.args.scenario.now) c.args.cluster.now.journal c.args.marks.now.fronts) (sym is)
    c.requires.marked.fronts) c.next-in-Front.ensures

pub returns-in-Arrival : goal.returns-in-Arrival
returns-in-Arrival c =
    let is : c.args.test ≡ Arrival = cc in
    next_shown c.args.test c.args.scenario.now c.args.cluster.now.journal c.args.cluster.now.layout c.args.marks.now.arrivals c.args.from
    c.next-in-Arrival.result c.requires.parts.packet c.requires.parts.layout c.laws.ensures.history c.requires.none_missed
    (subst (λ (t : EndTest). AreOf (told_by t) (layout_of c.args.scenario.now) c.args.cluster.now.journal c.args.marks.now.arrivals) (sym is)
    c.requires.marked.arrivals) c.next-in-Arrival.ensures
