use Rattle.std.proofs.Common.{ap, ◌∙◌}
use Rattle.am_model.specs.Changes.{without_waiting}
use Rattle.am_translate.specs.Tables.{Table}
use Rattle.am_endpoint_body.specs.Kept.{view_of}
use Rattle.am_endpoint_body.specs.Views.{View}
use Rattle.am_endpoint_body.proofs.Body.give_up.Goals as goal

pub returns : goal.returns
returns c =
    ap (λ (t : Table). view_of (record c.self.inside { translate = t })) c.drop_waiting.ensures.gone
    ∙ ap (λ (v : View). record v { body = record v.body { awaited = without_waiting c.args.request v.body.awaited } }) c.self.view_is
