use Rattle.std.proofs.Common.{ap, ◌∙◌, subst}
use Rattle.am_model.proofs.PlaceKinds.{on_host_not_on_disk}
use Rattle.am_endpoint.specs.View.{state_after}
use Rattle.am_endpoint_body.specs.Views.{View}
use Rattle.am_swap_image.specs.Range.{IsInRange}
use Rattle.am_driver_moves.proofs.Paged.{body_valid, if_ok, none_flying}
use Rattle.am_driver_moves.proofs.pages.image_of.Goals as goal

pub encode-requires : goal.encode-requires
encode-requires c =
    let v = c.args.end.now in
    ap (λ (w : View). w.body.in_flight) c.in-Some.ensures.body ∙ none_flying v.settings.pool v.settings.id (state_after v) c.in-Some.ensures.order c.requires

pub returns-clause-valid : goal.returns-clause-valid
returns-clause-valid c =
    let v = c.args.end.now in
    if_ok c.encode.result _ _ c.encode.ensures.in_range
    (λ bytes range. body_valid v.settings.pool v.settings.id (state_after v) c.in-Some.ensures.order c.requires
    (subst IsInRange (ap (λ (w : View). w.body) c.in-Some.ensures.body) range))

pub unreachable-requires : goal.unreachable-requires
unreachable-requires c = on_host_not_on_disk (state_after c.args.end.now).head.place c.requires (c.body.ensures.none.0 c.in_default.is)
