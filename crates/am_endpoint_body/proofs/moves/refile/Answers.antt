use Rattle.am_block.proofs.Moves.{IsBlock-with_descriptor}
use Rattle.am_endpoint_body.proofs.moves.refile.Goals as goal

pub returns-clause-block : goal.returns-clause-block
returns-clause-block c = IsBlock-with_descriptor c.move_slot.new.self c.args.slot.0 c.put_change.new.descriptor c.move_slot.ensures.block
