use Rattle.am_translate.specs.Seen.{table_in}
use Rattle.am_translate.proofs.Kept.{table_taken}
use Rattle.am_translate.proofs.Translate.take.Goals as goal

pub invariant_of-self : goal.invariant_of-self
invariant_of-self c = table_taken (table_in c.self.inside) c.args.self.now c.args.index c.args.serial c.push.new.self c.self.view_is c.push.ensures
    c.requires.free c.requires.known c.self.invariant

pub returns-clause-table : goal.returns-clause-table
returns-clause-table c = invariant_of-self c
