use Rattle.std.proofs.Common.{false}
use Rattle.am_block.proofs.Moves.{IsBlock-with_descriptor}
use Rattle.am_endpoint_body.proofs.moves.file_free.Goals as goal

pub returns-in-Some-clause-block : goal.returns-in-Some-clause-block
returns-in-Some-clause-block c =
    IsBlock-with_descriptor c.move_front.new.self c.in-Some.slot.0 (record {
      message = c.args.message.now;
      used = c.args.used;
      answered = false;
      why = c.args.why;
    }) c.move_front.ensures.block
