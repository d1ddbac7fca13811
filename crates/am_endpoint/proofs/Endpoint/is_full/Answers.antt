use Rattle.std.specs.Bool.{IsTrue}
use Rattle.std.specs.Prelude.{◌↔◌}
use Rattle.std.proofs.Common.{◌≡◌, ◌≤◌, length, subst, arith}
use Rattle.std.proofs.Math.Dec.{leb}
use Rattle.am_endpoint.specs.View.{EndpointView}
use Rattle.am_endpoint.proofs.Full.{full_told}
use Rattle.am_endpoint.proofs.Endpoint.is_full.Goals as goal

pub returns-clause-full : goal.returns-clause-full
returns-clause-full c =
    let e = c.self.inside in
    subst (λ (v : EndpointView). IsTrue (leb e.settings.log c.len.result) ↔ (length v.log ≡ v.settings.log)) c.self.view_is
    (full_told e.settings.log c.len.result (length e.log.items) (omega (arith, c.len.ensures)) c.self.invariant.bounded)

pub returns-clause-bounded : goal.returns-clause-bounded
returns-clause-bounded c = subst (λ (v : EndpointView). length v.log ≤ v.settings.log) c.self.view_is c.self.invariant.bounded
