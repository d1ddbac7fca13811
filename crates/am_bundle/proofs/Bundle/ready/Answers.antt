use Rattle.std.proofs.Common.{ap, inr, refl, sym, ◌∙◌}
use Rattle.am_bundle.proofs.Among.{none_among, ready_told}
use Rattle.am_bundle.proofs.Bundle.ready.Goals as goal

pub returns-in-Some-clause-not_yet : goal.returns-in-Some-clause-not_yet
returns-in-Some-clause-not_yet c =
    ready_told c.args.pollable.now c.deref.result.now c.self.inside.members.items c.args.self.now.members c.args.self.now.mask c.first_among.result
    c.in-Some.member c.first_among.ensures c.deref.ensures.value (ap (λ v. v.members) c.self.view_is) c.in-Some.is (ap (λ v. v.mask) (sym c.self.view_is)
    ∙ c.in-NotEmpty.is)

pub returns-in-None-clause-not_yet : goal.returns-in-None-clause-not_yet
returns-in-None-clause-not_yet c = (
  (λ h. inr (none_among c.args.pollable.now c.deref.result.now c.self.inside.members.items c.args.self.now.members c.first_among.result c.first_among.ensures
      c.deref.ensures.value (ap (λ v. v.members) c.self.view_is) c.in-None.is)),
  (λ h. refl),
)
