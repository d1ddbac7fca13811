use Rattle.am_cluster.proofs.drain.Goals as goal

pub returns-in-Ok-clause-links : goal.returns-in-Ok-clause-links
returns-in-Ok-clause-links c =
    λ order. c.drains_receive_all.ensures c.args.scenario.now c.args.cluster.now.journal c.drain-drained.new.cluster.journal c.in-Ok.ensures.drained.drained
    order
