use Rattle.std.proofs.Common.{◌≡◌, suc, ◌+◌, ◌-◌, ◌<◌, ◌∙◌, ap, arith}
use Rattle.am_model.specs.Endpoint.{is_on_disk}
use Rattle.am_cluster_drainer.proofs.Acting.{reaches_then}
use Rattle.am_cluster_drainer.proofs.PageIns.{left_after, left_stopped}
use Rattle.am_cluster_drainer.proofs.pages.off_disk.Goals as goal

pub returns-in-Err-clause-acts : goal.returns-in-Err-clause-acts
returns-in-Err-clause-acts g c =
    let some : 0 < c.faults-most.result + 1 - c.page_ins.counter = omega arith in
    left_stopped _ _ _ _ _ _ _ _ _ _ _ c.page_ins.invariant.scenario (c.is_on_disk-on_disk.ensures
    ∙ ap (λ h. is_on_disk h.place) c.head_by.ensures) some c.page_ins.invariant.left c.page_ins.invariant.reaches c.in-Err.ensures.acts

pub page_ins-preserved : goal.page_ins-preserved
page_ins-preserved g c =
    let number : c.faults-most.result + 1 - c.page_ins.counter ≡ suc (c.faults-most.result + 1 - (c.page_ins.counter + 1)) = omega arith in
    record {
      scenario = c.in-Ok.ensures.scenario ∙ c.page_ins.invariant.scenario;
      most = c.page_ins.invariant.most;
      left = left_after _ _ _ _ _ _ _ _ _ _ c.page_ins.invariant.scenario (c.is_on_disk-on_disk.ensures
          ∙ ap (λ h. is_on_disk h.place) c.head_by.ensures) number c.page_ins.invariant.left c.in-Ok.ensures.acts.does;
      reaches = reaches_then _ _ _ _ _ c.page_ins.invariant.scenario c.page_ins.invariant.reaches c.in-Ok.ensures.acts.reaches;
    }
