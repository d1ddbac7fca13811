use Rattle.am_laws_cluster.proofs.Bound as laws
use Rattle.am_laws_cluster.proofs.in_flight_is_bound.Goals as goal

pub returns : goal.returns
returns c = λ layout past lawful h. laws.in_flight_bound layout lawful past h
