use Rattle.std.proofs.Common.{Some, sym, ap, ◌∙◌}
use Rattle.am_names.specs.Names.{has_serial}
use Rattle.am_block.specs.declared.List.TheVariants.{InFlight}
use Rattle.am_model.specs.declared.Flying.{Flying}
use Rattle.am_model.specs.Changes.{flying_of}
use Rattle.am_endpoint_body.specs.Views.{flying_in}
use Rattle.am_endpoint_body.specs.Walks.{is_sought_at}
use Rattle.am_endpoint_body.specs.declared.walks.Sought.TheVariants as Soughts
use Rattle.am_endpoint_body.proofs.Seen.{found-times, seen-found, seen-missed, stands-below}
use Rattle.am_endpoint_body.proofs.Body.flight.Goals as goal

pub get-requires : goal.get-requires
get-requires c =
    let p = c.self.inside.block in
    stands-below p InFlight c.in-Some.slot.0 c.self.invariant.block (found-times (λ s. is_sought_at (Soughts.Of c.args.serial) p s) p.in_flight c.in-Some.slot.0
    (sym c.in-Some.ensures.found))

pub returns-in-Some : goal.returns-in-Some
returns-in-Some c =
    let p = c.self.inside.block in
    ap (λ f. Some f) c.as_flying.ensures
    ∙ seen-found flying_in (λ (f : Flying). has_serial c.args.serial f.message) p.descriptors p.in_flight c.in-Some.slot.0 c.get.result.now
    c.in-Some.ensures.found c.get.ensures
    ∙ ap (λ v. flying_of c.args.serial v.body.in_flight) c.self.view_is

pub returns-in-None : goal.returns-in-None
returns-in-None c =
    let p = c.self.inside.block in
    seen-missed flying_in (λ (f : Flying). has_serial c.args.serial f.message) p.descriptors p.in_flight c.in-None.ensures.found
    ∙ ap (λ v. flying_of c.args.serial v.body.in_flight) c.self.view_is
