use Rattle.std.proofs.Common.{sym, ap, ◌∙◌, count_by}
use Rattle.am_names.specs.Names.{is_request}
use Rattle.am_endpoint_body.specs.Views.{message_in}
use Rattle.am_endpoint_body.proofs.Seen.{count-seen}
use Rattle.am_endpoint_body.proofs.Body.received_requests.Goals as goal

pub returns : goal.returns
returns c =
    c.count.ensures.value
    ∙ sym (count-seen message_in is_request c.self.inside.block.descriptors c.self.inside.block.received)
    ∙ ap (λ v. count_by is_request v.body.received) c.self.view_is
