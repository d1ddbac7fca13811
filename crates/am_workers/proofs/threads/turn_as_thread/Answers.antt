use Rattle.std.proofs.Common.{◌+◌, List, arith, refl, subst, sym}
use Rattle.am_names.specs.declared.EndpointId.{EndpointId}
use Rattle.am_scenario_types.specs.declared.parts.ScriptCall.{ScriptCall}
use Rattle.am_workers.specs.Turns.Callers.{CallTurns, HaveRange, IsScript}
use Rattle.am_workers_laws.specs.Invariants.Works.{ThreadWorks}
use Rattle.am_workers.proofs.Working.{clock_is, have_range, next_is}
use Rattle.am_workers.proofs.threads.turn_as_thread.Goals as goal

pub call_turn-made-requires-clause-numbers : goal.call_turn-made-requires-clause-numbers
call_turn-made-requires-clause-numbers c =
    let w = c.args.worker.now in let a = c.requires.at_work in
    subst (λ (calls : List ScriptCall). HaveRange w.seat.token.me.0 calls) (sym c.deref-2.ensures.value)
    (have_range c.args.scenario.now w.thread w.script.items w.seat.token.me.0 a.works.born a.script)

pub returns-clause-at_work : goal.returns-clause-at_work
returns-clause-at_work c =
    let w = c.args.worker.now in let a = c.requires.at_work in let s = c.args.scenario.now in let t = c.call_turn-made in
    record {
      idle = t.ensures.idle;
      declared = a.declared;
      script = a.script;
      few = a.few;
      so_far = a.so_far + 1;
      within = let n = a.within in omega (arith, n);
      works =
          subst (λ (ids : List EndpointId). ThreadWorks s ids w.thread (a.so_far + 1) t.new.next t.new.clock t.new.seat.token.me.0) c.deref.ensures.value
          (t.ensures.works s a.so_far (subst (λ (calls : List ScriptCall). IsScript s w.thread calls) (sym c.deref-2.ensures.value) a.script)
          (subst (λ (ids : List EndpointId). ThreadWorks s ids w.thread a.so_far w.next w.clock w.seat.token.me.0) (sym c.deref.ensures.value) a.works));
    }

pub returns-clause-turn : goal.returns-clause-turn
returns-clause-turn c goes =
    let v = c.args.worker.now in let t = c.call_turn-made in
    record {
      made = t.result;
      turn =
          subst (λ (ids : List EndpointId). CallTurns ids v.script.items v.thread v.next v.clock v.seat.token.me.0 t.new.seat.token.me.0 t.result)
          c.deref.ensures.value
          (subst (λ (calls : List ScriptCall). CallTurns c.deref.result.now calls v.thread v.next v.clock v.seat.token.me.0 t.new.seat.token.me.0 t.result)
          c.deref-2.ensures.value t.ensures.turn);
      next = next_is t.result v.next t.new.next v.clock t.new.clock t.ensures.next t.ensures.none;
      clock = clock_is t.result v.next t.new.next v.clock t.new.clock t.ensures.clock t.ensures.none;
      stop = c.stop_after_call-worker.ensures;
      script = refl;
    }
