use Rattle.std.proofs.Common.{true, arith}
use Rattle.am_iface.proofs.Entering as entering
use Rattle.am_iface.proofs.Interface.next_number.Goals as goal

pub overflow_add-result : goal.overflow_add-result
overflow_add-result c =
    omega (
      arith,
      entering.count_within c.self.inside c.args.self.now c.args.peer c.index.result.now true c.self.view_is c.self.invariant c.requires
          c.index.ensures,
    )
