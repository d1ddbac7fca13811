use Rattle.std.proofs.Common.{Option, None, subst}
use Rattle.am_swap_device.specs.declared.swap.SwapFault.{SwapFault}
use Rattle.am_driver_moves.proofs.Devices.{caused_by, fault_is, read_by}
use Rattle.am_driver_moves.proofs.pages.read.Goals as goal

pub returns-clause-called : goal.returns-clause-called
returns-clause-called g c =
    let t = c.read-answer.ensures in
    read_by (g.S.Swap.device c.args.swap.now) (g.S.Swap.device c.read-answer.new.self) c.read-answer.result c.ended.result
    c.ended.ensures t.held t.fails t.calls t.told

pub returns-clause-cause : goal.returns-clause-cause
returns-clause-cause g c =
    caused_by c.read-answer.result c.ended.result (g.S.Swap.count c.args.swap.now) (g.S.Swap.count c.read-answer.new.self) c.ended.ensures
    c.read-answer.ensures.cause

pub returns-clause-tells : goal.returns-clause-tells
returns-clause-tells g c =
    subst (λ (fault : Option SwapFault). g.S.Swap.tells c.args.swap.now c.read-answer.new.self c.args.key None fault)
    (fault_is c.read-answer.result c.ended.result c.ended.ensures) c.read-answer.ensures.tells
