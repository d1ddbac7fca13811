use Rattle.std.proofs.Common.{◌≡◌, ◌+◌, ◌*◌, ◌≤◌, drop}
use Rattle.am_model.specs.Calls.{excess, excess_from}
use Rattle.am_translate.specs.Tables.{body_with}
use Rattle.am_translate.proofs.Translate.excess.Given as goal

abbrev pub invariant-loop-index : goal.invariant-loop-index
invariant-loop-index l =
    (l.total + excess_from (body_with l.self) l.index (drop l.index l.self.mapped) ≡ excess (body_with l.self)) × (l.total ≤ 32 * l.index)
