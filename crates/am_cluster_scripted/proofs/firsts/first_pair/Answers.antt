use Rattle.am_cluster_scripted.proofs.PairMarked.{first_none, first_some}
use Rattle.am_cluster_scripted.proofs.firsts.first_pair.Goals as goal

pub pair_at-requires : goal.pair_at-requires
pair_at-requires c = c.in-Some.ensures.0

pub returns-in-Some : goal.returns-in-Some
returns-in-Some c = λ s passes few are. first_some s passes c.args.marks.now c.in-Some.place c.pair_at.result few are c.pair_at.ensures c.in-Some.ensures

pub returns-in-None : goal.returns-in-None
returns-in-None c = λ s passes few are. first_none s passes c.args.marks.now few are c.in-None.ensures
