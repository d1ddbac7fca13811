use Rattle.std.proofs.Common.{◌≡◌, None, Some}
use Rattle.am_model.specs.declared.EntryFault.TheVariants as Faults
use Rattle.am_model_parts.specs.Interface.{failing_at}
use Rattle.am_endpoint.specs.View.{state_after}
use Rattle.am_iface.specs.declared.Turned.{Turned}
use Rattle.am_iface.specs.With.{HasRoomWith, IsFullOf}
use Rattle.am_iface.specs.View.{own}
use Rattle.am_iface.proofs.Last as last
use Rattle.am_iface.proofs.Interface.turn_with.Goals as goal

pub returns-in-Ok-clause-disabled : goal.returns-in-Ok-clause-disabled
returns-in-Ok-clause-disabled c k =
    last.ok_alike (Unit {0}) Turned (failing_at (own c.args.self.now) (state_after c.args.endpoint.now) c.args.work.now ≡ Some k) tt c.last_turn.result
    (Faults.NotEnabled k) (c.in-Ok.ensures.disabled k)

pub returns-in-Ok-clause-full : goal.returns-in-Ok-clause-full
returns-in-Ok-clause-full c p =
    last.ok_alike (Unit {0}) Turned ((failing_at (own c.args.self.now) (state_after c.args.endpoint.now) c.args.work.now ≡ None) × IsFullOf c.args.self.now
    c.args.endpoint.now p) tt c.last_turn.result (Faults.LogFull p) (c.in-Ok.ensures.full p)

pub returns-in-Err-clause-disabled : goal.returns-in-Err-clause-disabled
returns-in-Err-clause-disabled c k =
    last.err_alike (Unit {0}) Turned (failing_at (own c.args.self.now) (state_after c.args.endpoint.now) c.args.work.now ≡ Some k) c.in-Err.fault
    (Faults.NotEnabled k) (c.in-Err.ensures.disabled k)

pub returns-in-Err-clause-full : goal.returns-in-Err-clause-full
returns-in-Err-clause-full c p =
    last.err_alike (Unit {0}) Turned ((failing_at (own c.args.self.now) (state_after c.args.endpoint.now) c.args.work.now ≡ None) × IsFullOf c.args.self.now
    c.args.endpoint.now p) c.in-Err.fault (Faults.LogFull p) (c.in-Err.ensures.full p)

pub returns-in-Ok-clause-starved : goal.returns-in-Ok-clause-starved
returns-in-Ok-clause-starved c = last.ok_no_fault Turned (HasRoomWith c.args.self.now c.args.endpoint.now c.args.work.now) c.last_turn.result Faults.NoMemory

pub returns-in-Err-clause-starved : goal.returns-in-Err-clause-starved
returns-in-Err-clause-starved c = last.err_told (Unit {0}) Turned (HasRoomWith c.args.self.now c.args.endpoint.now c.args.work.now) c.in-Err.fault
    Faults.NoMemory c.in-Err.ensures.starved
