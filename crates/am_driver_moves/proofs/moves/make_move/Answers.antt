use Rattle.am_driver_moves.specs.Logs.{kept}
use Rattle.am_driver_moves.proofs.Devices.{moves_so}
use Rattle.am_driver_moves.proofs.moves.make_move.Goals as goal

pub returns : goal.returns
returns c =
    let m = c.make_move_on in
    moves_so c.args.swap.now m.new.swap (kept c.args.end.now) (kept m.new.end) c.args.event c.args.stamp m.result m.ensures.moves m.ensures.tells
