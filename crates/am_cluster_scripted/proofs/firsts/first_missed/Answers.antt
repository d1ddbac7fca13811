use Rattle.std.proofs.Common.{refl}
use Rattle.am_model_scripts.specs.Layout.{layout_of}
use Rattle.am_model_scripts.specs.Standings.{is_missed}
use Rattle.am_cluster_scripted.specs.EndMarks.{told_missed}
use Rattle.am_cluster_scripted.proofs.EndMarked.{next_read}
use Rattle.am_cluster_scripted.proofs.firsts.first_missed.Goals as goal

pub returns : goal.returns
returns c =
    next_read told_missed is_missed (layout_of c.args.scenario.now) c.args.cluster.now.journal c.args.marks.now.missed 0 c.next.result c.requires.marked.missed
    (λ k e at. refl) c.next.ensures
