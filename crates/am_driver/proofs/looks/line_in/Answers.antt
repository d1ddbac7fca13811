use Rattle.std.proofs.Common.{ap, ◌∙◌}
use Rattle.am_driver_moves.specs.Choice.Views.{line_of}
use Rattle.am_endpoint.specs.View.{EndpointView, state_after}
use Rattle.am_driver.proofs.looks.line_in.Goals as goal

pub returns : goal.returns
returns c = c.line_of.ensures ∙ ap (λ (d : EndpointView). line_of d.settings.id (state_after d)) c.deref.ensures
