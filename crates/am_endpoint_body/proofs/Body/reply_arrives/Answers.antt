use Rattle.std.proofs.Common.{Some, ap, ◌∙◌}
use Rattle.am_model.specs.Changes.{with_arrived}
use Rattle.am_translate.specs.Tables.{Table}
use Rattle.am_endpoint_body.specs.Kept.{view_of}
use Rattle.am_endpoint_body.specs.Views.{View}
use Rattle.am_endpoint_body.proofs.Gone.{record_arrived}
use Rattle.am_endpoint_body.proofs.Body.reply_arrives.Goals as goal

pub returns : goal.returns
returns c =
    ap (λ (t : Table). view_of (record c.self.inside { translate = t })) (record_arrived c.self.inside.translate c.reply_arrives.new.self c.args.request
    c.reply_arrives.result c.reply_arrives.ensures.ok c.reply_arrives.ensures.err c.reply_arrives.ensures.no_request)
    ∙ ap (λ (v : View). record v { body = record v.body { awaited = with_arrived (Some c.args.request) v.body.awaited } }) c.self.view_is
