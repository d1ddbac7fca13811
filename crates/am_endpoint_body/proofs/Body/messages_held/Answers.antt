use Rattle.std.proofs.Common.{arith}
use Rattle.am_endpoint_body.proofs.Counted.{four_few, messages_counted}
use Rattle.am_endpoint_body.proofs.Body.messages_held.Goals as goal

pub returns-clause-value : goal.returns-clause-value
returns-clause-value c =
    messages_counted c.self.inside c.args.self.now c.len-requests.result c.len-replies.result c.len-flying.result c.len-back.result c.self.view_is
    c.len-requests.ensures.value c.len-replies.ensures.value c.len-flying.ensures.value c.len-back.ensures.value

pub returns-clause-few : goal.returns-clause-few
returns-clause-few c =
    omega (
      arith,
      four_few c.self.inside c.self.invariant,
      c.len-requests.ensures.value,
      c.len-replies.ensures.value,
      c.len-flying.ensures.value,
      c.len-back.ensures.value,
    )
