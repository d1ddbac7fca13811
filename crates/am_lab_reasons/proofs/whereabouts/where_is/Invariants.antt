use Rattle.std.proofs.Common.{◌≡◌, drop}
use Rattle.am_lab_reasons.specs.Whereabouts.{where_from, where_is}
use Rattle.am_lab_reasons.proofs.whereabouts.where_is.Given as goal

abbrev pub invariant-loop-entry : goal.invariant-loop-entry
invariant-loop-entry l = where_from l.serial l.place (drop l.entry-index l.entries) ≡ where_is l.entries l.serial
