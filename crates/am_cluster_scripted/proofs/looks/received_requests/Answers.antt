use Rattle.am_laws_runs.proofs.Away.{away_is_settled}
use Rattle.am_cluster_scripted.proofs.Looking.{requests_at}
use Rattle.am_cluster_scripted.proofs.looks.received_requests.Goals as goal

pub returns : goal.returns
returns c =
    requests_at c.args.scenario.now c.args.cluster.now c.args.end c.in-Some.one.now c.received_requests_of.result away_is_settled c.requires.parts.packet
    c.laws.ensures.history c.requires.parts.layout c.requires.none_missed c.requires.declared c.in-Some.ensures.state c.received_requests_of.ensures
