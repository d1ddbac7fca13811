use Rattle.am_swap_codec.proofs.Decoding.{not_passed_over, passed_over}
use Rattle.am_swap_codec.proofs.lists.is_body.Goals as goal

pub returns-in-None : goal.returns-in-None
returns-in-None c = not_passed_over c.args.id c.args.bytes.now c.in-None.ensures

pub returns-in-Some : goal.returns-in-Some
returns-in-Some c = passed_over c.args.id c.args.bytes.now c.in-Some.rest.now c.is_empty.result c.is_empty.ensures c.in-Some.ensures
