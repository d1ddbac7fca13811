use Rattle.std.proofs.Common.{None, Some, ap, ◌∙◌}
use Rattle.am_endpoint_body.proofs.Refused.{unmap_told}
use Rattle.am_endpoint_body.proofs.Body.unmap.Goals as goal

pub returns-clause-refusal : goal.returns-clause-refusal
returns-clause-refusal c = unmap_told c.self.inside c.args.self.now c.args.index None c.self.view_is c.in-Ok.ensures.fault

pub returns-in-Err-clause-refusal : goal.returns-in-Err-clause-refusal
returns-in-Err-clause-refusal c =
    ap (λ r. Some r) c.of_unmap.ensures ∙ unmap_told c.self.inside c.args.self.now c.args.index (Some c.in-Err.fault) c.self.view_is c.in-Err.ensures.fault
