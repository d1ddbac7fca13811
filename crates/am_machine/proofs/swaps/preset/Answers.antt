use Rattle.std.proofs.Common.{ap, ◌∙◌}
use Rattle.am_model.specs.Endpoint.{fresh}
use Rattle.am_endpoint_body.specs.declared.settings.EndSettings.{EndSettings}
use Rattle.am_swap_image.specs.Image.{image}
use Rattle.am_machine.specs.Presets.{opening_body}
use Rattle.am_machine.proofs.Presets.{preset_told}
use Rattle.am_machine.proofs.swaps.preset.Goals as goal

pub returns : goal.returns
returns c =
    preset_told c.preset.result c.preset.new.self c.args.swap.now c.args.line.now.id c.as_slice.result.now (opening_body c.args.line.now) c.preset.ensures.ok
    (c.as_slice.ensures.value ∙ c.in_ok-image.ensures.image ∙ ap image (c.in_ok-body.ensures.body
    ∙ ap (λ (t : EndSettings). (fresh t.tag t.place).body) c.settings_of.ensures))
