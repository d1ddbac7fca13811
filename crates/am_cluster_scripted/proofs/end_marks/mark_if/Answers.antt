use Rattle.std.proofs.Common.{ℕ, ap, Option}
use Rattle.std.specs.Prelude.{slice_get}
use Rattle.am_names.specs.declared.EndpointId.{EndpointId}
use Rattle.am_model_scripts.specs.Layout.{layout_of}
use Rattle.am_cluster_scripted.specs.EndMarks.{is_end}
use Rattle.am_cluster_scripted.proofs.EndMarked.{none_again}
use Rattle.am_cluster_scripted.proofs.end_marks.mark_if.Goals as goal

pub returns-in-None : goal.returns-in-None
returns-in-None c =
    let s = c.args.scenario.now in
    none_again (layout_of s) c.args.cluster.now.journal c.args.marks.now (λ (k : ℕ). is_end c.args.id (slice_get (layout_of s).ends k))
    (λ k. ap (λ (o : Option EndpointId). is_end o (slice_get (layout_of s).ends k)) c.in-None.is)
