use Rattle.std.specs.Bool.{IsTrue}
use Rattle.std.specs.Prelude.{◌↔◌}
use Rattle.std.proofs.Common.{◌≡◌, ◌≤◌, length, subst, arith}
use Rattle.std.proofs.Math.Dec.{leb}
use Rattle.am_iface.specs.View.{InterfaceView}
use Rattle.am_iface.proofs.Refusing.{full_told}
use Rattle.am_iface.proofs.Interface.is_full.Goals as goal

pub returns-clause-full : goal.returns-clause-full
returns-clause-full c =
    let i = c.self.inside in
    subst (λ (w : InterfaceView). IsTrue (leb i.limits.log c.len.result) ↔ (length w.log ≡ w.settings.log)) c.self.view_is
    (full_told i.limits.log c.len.result (length i.log.items) (omega (arith, c.len.ensures)) c.self.invariant.bounded)

pub returns-clause-bounded : goal.returns-clause-bounded
returns-clause-bounded c = subst (λ (w : InterfaceView). length w.log ≤ w.settings.log) c.self.view_is c.self.invariant.bounded
