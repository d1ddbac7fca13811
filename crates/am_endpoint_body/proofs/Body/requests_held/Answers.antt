use Rattle.am_endpoint_body.proofs.Counted.{requests_counted}
use Rattle.am_endpoint_body.proofs.Body.requests_held.Goals as goal

pub returns : goal.returns
returns c = requests_counted c.self.inside c.args.self.now c.len-queued.result c.count-flying.result c.count-back.result c.self.view_is
    c.len-queued.ensures.value c.count-flying.ensures.value c.count-back.ensures.value
