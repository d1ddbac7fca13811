use Rattle.std.proofs.Common.{None, Some, ap, ◌∙◌}
use Rattle.am_endpoint_body.proofs.Refused.{map_told}
use Rattle.am_endpoint_body.proofs.Body.map.Goals as goal

pub returns-clause-refusal : goal.returns-clause-refusal
returns-clause-refusal c = map_told c.self.inside c.args.self.now c.args.index c.args.credits None c.self.view_is c.in-Ok.ensures.fault

pub returns-in-Err-clause-refusal : goal.returns-in-Err-clause-refusal
returns-in-Err-clause-refusal c =
    ap (λ r. Some r) c.of_map.ensures ∙ map_told c.self.inside c.args.self.now c.args.index c.args.credits (Some c.in-Err.fault) c.self.view_is
    c.in-Err.ensures.fault
