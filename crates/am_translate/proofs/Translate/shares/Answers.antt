use Rattle.std.proofs.Common.{arith}
use Rattle.am_translate.specs.Seen.{table_in}
use Rattle.am_translate.proofs.Kept.{shares_few}
use Rattle.am_translate.proofs.Translate.shares.Goals as goal

pub sum_of_shares-requires : goal.sum_of_shares-requires
sum_of_shares-requires c = shares_few (table_in c.self.inside) c.self.invariant

pub returns-clause-few : goal.returns-clause-few
returns-clause-few c = omega (arith, c.sum_of_shares.ensures, shares_few (table_in c.self.inside) c.self.invariant)
