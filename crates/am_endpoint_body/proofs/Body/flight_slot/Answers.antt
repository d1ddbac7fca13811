use Rattle.std.specs.Prelude.{◌≡◌, ◌↔◌, None, Option}
use Rattle.std.proofs.Common.{sym, ap, ◌∙◌, subst}
use Rattle.am_names.specs.Names.{has_serial}
use Rattle.am_model.specs.declared.Flying.{Flying}
use Rattle.am_model.specs.Changes.{flying_of}
use Rattle.am_endpoint_body.specs.Flights.{slot_of}
use Rattle.am_endpoint_body.specs.Views.{View, descriptor_at, flying_in}
use Rattle.am_endpoint_body.proofs.Filed.{none-slot, slot-seen}
use Rattle.am_endpoint_body.proofs.Seen.{find-seen}
use Rattle.am_endpoint_body.proofs.Body.flight_slot.Goals as goal

pub returns-clause-slot : goal.returns-clause-slot
returns-clause-slot c =
    let p = c.self.inside.block in
    c.find.ensures.found ∙ sym (slot-seen c.args.serial p.descriptors p.in_flight) ∙ ap (λ v. slot_of c.args.serial v.body.in_flight v.flights) c.self.view_is

pub returns-clause-none : goal.returns-clause-none
returns-clause-none c =
    let p = c.self.inside.block in
    let test = λ (f : Flying). has_serial c.args.serial f.message in
    subst (λ (o : Option Flying). (c.find.result ≡ None) ↔ (o ≡ None))
    (sym (find-seen flying_in test p.descriptors p.in_flight) ∙ ap (λ (v : View). flying_of c.args.serial v.body.in_flight) c.self.view_is)
    (none-slot (λ s. flying_in (descriptor_at p.descriptors s)) c.find.result _ c.find.ensures.found)
