use Rattle.std.proofs.Common.{◌≡◌, [], ◌∷◌, ◌++◌, None, Some, ap, sym, ◌∙◌}
use Rattle.am_office_entries.specs.declared.Entry.{Entry}
use Rattle.am_office_entries.specs.Entries.{emitted_of}
use Rattle.am_model.specs.declared.EntryFault.TheVariants as Faults
use Rattle.am_model_parts.specs.Interface.{failing_at}
use Rattle.am_iface.specs.declared.Turned.{Turned}
use Rattle.am_iface.specs.Turns.{HasRoom, IsFull, entry_by, stamp_after}
use Rattle.am_iface.specs.View.{InterfaceView, own}
use Rattle.am_iface.proofs.Last as last
use Rattle.am_iface.proofs.Telling.{some_state}
use Rattle.am_iface.proofs.Interface.turn_alone.Goals as goal

pub last_turn-requires : goal.last_turn-requires
last_turn-requires c =
    let v = c.args.self.now in
    let x = entry_by v some_state (stamp_after c.args.floor v.log c.args.work.now) c.args.work.now in
    last.longer c.make_alone.new.self.log v.log x (ap (λ (w : InterfaceView). w.log) (c.in-Ok.ensures.logged some_state))

pub returns-in-Ok-clause-event : goal.returns-in-Ok-clause-event
returns-in-Ok-clause-event c =
    let v = c.args.self.now in
    let x = entry_by v some_state (stamp_after c.args.floor v.log c.args.work.now) c.args.work.now in
    let turned : c.last_turn.result ≡ record { entry = x; out = emitted_of x } =
    c.last_turn.ensures v.log x (ap (λ (w : InterfaceView). w.log) (c.in-Ok.ensures.logged some_state)) in
    ap (λ (t : Turned). t.entry.event) turned

pub returns-in-Ok-clause-stamp : goal.returns-in-Ok-clause-stamp
returns-in-Ok-clause-stamp c =
    let v = c.args.self.now in
    let x = entry_by v some_state (stamp_after c.args.floor v.log c.args.work.now) c.args.work.now in
    let turned : c.last_turn.result ≡ record { entry = x; out = emitted_of x } =
    c.last_turn.ensures v.log x (ap (λ (w : InterfaceView). w.log) (c.in-Ok.ensures.logged some_state)) in
    ap (λ (t : Turned). t.entry.stamp) turned

pub returns-in-Ok-clause-out : goal.returns-in-Ok-clause-out
returns-in-Ok-clause-out c =
    let v = c.args.self.now in
    let x = entry_by v some_state (stamp_after c.args.floor v.log c.args.work.now) c.args.work.now in
    let turned : c.last_turn.result ≡ record { entry = x; out = emitted_of x } =
    c.last_turn.ensures v.log x (ap (λ (w : InterfaceView). w.log) (c.in-Ok.ensures.logged some_state)) in
    ap (λ (t : Turned). t.out) turned ∙ ap emitted_of (sym (ap (λ (t : Turned). t.entry) turned))

pub returns-in-Ok-clause-logged : goal.returns-in-Ok-clause-logged
returns-in-Ok-clause-logged c =
    let v = c.args.self.now in
    let x = entry_by v some_state (stamp_after c.args.floor v.log c.args.work.now) c.args.work.now in
    let turned : c.last_turn.result ≡ record { entry = x; out = emitted_of x } =
    c.last_turn.ensures v.log x (ap (λ (w : InterfaceView). w.log) (c.in-Ok.ensures.logged some_state)) in
    c.in-Ok.ensures.logged some_state ∙ ap (λ (y : Entry). record v { log = v.log ++ y ∷ [] }) (sym (ap (λ (t : Turned). t.entry) turned))

pub returns-in-Ok-clause-disabled : goal.returns-in-Ok-clause-disabled
returns-in-Ok-clause-disabled c s k =
    last.ok_alike (Unit {0}) Turned (failing_at (own c.args.self.now) s c.args.work.now ≡ Some k) tt c.last_turn.result (Faults.NotEnabled k)
    (c.in-Ok.ensures.disabled s k)

pub returns-in-Ok-clause-full : goal.returns-in-Ok-clause-full
returns-in-Ok-clause-full c s p =
    last.ok_alike (Unit {0}) Turned ((failing_at (own c.args.self.now) s c.args.work.now ≡ None) × IsFull c.args.self.now p) tt c.last_turn.result
    (Faults.LogFull p) (c.in-Ok.ensures.full s p)

pub returns-in-Err-clause-disabled : goal.returns-in-Err-clause-disabled
returns-in-Err-clause-disabled c s k =
    last.err_alike (Unit {0}) Turned (failing_at (own c.args.self.now) s c.args.work.now ≡ Some k) c.in-Err.fault (Faults.NotEnabled k)
    (c.in-Err.ensures.disabled s k)

pub returns-in-Err-clause-full : goal.returns-in-Err-clause-full
returns-in-Err-clause-full c s p =
    last.err_alike (Unit {0}) Turned ((failing_at (own c.args.self.now) s c.args.work.now ≡ None) × IsFull c.args.self.now p) c.in-Err.fault (Faults.LogFull p)
    (c.in-Err.ensures.full s p)

pub returns-in-Ok-clause-starved : goal.returns-in-Ok-clause-starved
returns-in-Ok-clause-starved c s = last.ok_no_fault Turned (HasRoom c.args.self.now s c.args.work.now) c.last_turn.result Faults.NoMemory

pub returns-in-Err-clause-starved : goal.returns-in-Err-clause-starved
returns-in-Err-clause-starved c s = last.err_told (Unit {0}) Turned (HasRoom c.args.self.now s c.args.work.now) c.in-Err.fault Faults.NoMemory
    (c.in-Err.ensures.starved s)
