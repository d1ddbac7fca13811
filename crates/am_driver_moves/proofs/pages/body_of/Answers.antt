use Rattle.std.proofs.Common.{◌≡◌, ap, ◌∙◌}
use Rattle.am_endpoint.specs.View.{state_after}
use Rattle.am_swap_image.specs.Image.{image}
use Rattle.am_swap.specs.Decoded.{FindsEach}
use Rattle.am_driver_moves.proofs.Paged.{image_told, is_found, never_none}
use Rattle.am_driver_moves.proofs.pages.body_of.Goals as goal

pub returns : goal.returns
returns g c =
    let v = c.args.end.now in
    let bytes : c.in-Some.image.now ≡ image (state_after v).body =
    image_told c.in-Some.image.now (image (state_after v).body)
    (c.in-Some.ensures.bytes ∙ ap (g.S.Swap.device c.args.swap.now).held c.id.ensures ∙ c.requires.held) in
    let each : FindsEach v.settings.id v.settings.pool c.in-Some.image.now c.in_ok-found.found =
    coe 0 1 (k. FindsEach (c.id-2.ensures k) (c.pool.ensures k) c.in-Some.image.now c.in_ok-found.found) c.in_ok-found.ensures.each in
    is_found v.settings.id v.settings.pool c.in-Some.image.now (state_after v).body c.in_ok-found.found c.in-Some-found.body bytes c.requires.valid each
    c.in-Some-found.is

pub unreachable-requires-in_default-found : goal.unreachable-requires-in_default-found
unreachable-requires-in_default-found g c =
    let v = c.args.end.now in
    let bytes : c.in-Some.image.now ≡ image (state_after v).body =
    image_told c.in-Some.image.now (image (state_after v).body)
    (c.in-Some.ensures.bytes ∙ ap (g.S.Swap.device c.args.swap.now).held c.id.ensures ∙ c.requires.held) in
    let each : FindsEach v.settings.id v.settings.pool c.in-Some.image.now c.in_ok-found.found =
    coe 0 1 (k. FindsEach (c.id-2.ensures k) (c.pool.ensures k) c.in-Some.image.now c.in_ok-found.found) c.in_ok-found.ensures.each in
    never_none v.settings.id v.settings.pool c.in-Some.image.now (state_after v).body c.in_ok-found.found bytes c.requires.valid each c.in_default-found.is
