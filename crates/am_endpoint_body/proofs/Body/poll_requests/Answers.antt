use Rattle.std.proofs.Common.{arith}
use Rattle.am_endpoint_body.proofs.Slots.{spare_reply}
use Rattle.am_endpoint_body.proofs.Body.poll_requests.Goals as goal

pub run_request-requires-clause-held : goal.run_request-requires-clause-held
run_request-requires-clause-held c = spare_reply c.args.self.now.body c.requires.within (omega arith)
