use Rattle.std.proofs.Common.{sym, ◌∙◌}
use Rattle.am_cluster_drainer.proofs.Acting.{turned, stopped, ended, falls, reaches_then}
use Rattle.am_cluster_drainer.proofs.drain.Goals as goal

pub turns-preserved : goal.turns-preserved
turns-preserved g c =
    record {
      scenario = c.in-Ok.ensures.scenario ∙ c.turns.invariant.scenario;
      made = turned _ _ _ _ _ c.in-Some.turn c.turns.invariant.scenario c.turns.invariant.made (sym c.in-Some.ensures.turn) c.in-Ok.ensures.acts.does;
      reaches = reaches_then _ _ _ _ _ c.turns.invariant.scenario c.turns.invariant.reaches c.in-Ok.ensures.acts.reaches;
    }

pub returns-in-None-clause-drained : goal.returns-in-None-clause-drained
returns-in-None-clause-drained g c = ended _ _ _ _ c.turns.invariant.scenario c.turns.invariant.made c.turns.invariant.reaches (sym c.in-None.ensures.turn)

pub returns-in-Err-clause-stopped : goal.returns-in-Err-clause-stopped
returns-in-Err-clause-stopped g c =
    stopped _ _ _ _ _ c.in-Some.turn _ c.turns.invariant.scenario c.turns.invariant.made c.turns.invariant.reaches (sym c.in-Some.ensures.turn)
    c.in-Err.ensures.acts.reaches c.in-Err.ensures.acts.does

pub turns-smaller : goal.turns-smaller
turns-smaller g c =
    let m = g.M.Drainable in
    falls m.work _ _ _ _ c.in-Some.turn c.turns_fall.ensures (sym c.in-Some.ensures.turn) c.in-Ok.ensures.scenario c.in-Ok.ensures.acts.does
