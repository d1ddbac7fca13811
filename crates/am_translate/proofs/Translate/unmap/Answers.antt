use Rattle.std.proofs.Common.{None, refl}
use Rattle.am_translate.specs.Seen.{table_in}
use Rattle.am_translate.proofs.Kept.{table_mapped}
use Rattle.am_translate.proofs.Translate.unmap.Goals as goal

pub invariant_of-self : goal.invariant_of-self
invariant_of-self c = table_mapped (table_in c.self.inside) c.args.index None refl c.self.invariant

pub returns-clause-table : goal.returns-clause-table
returns-clause-table c = invariant_of-self c
