-- A seat stays the same seat over a turn.
use Rattle.std.specs.Prelude.{position}
use Rattle.std.specs.Option.{option_map}
use Rattle.std.proofs.Common.{◌≡◌, ◌∙◌, ℕ, Option, Some, ap, sym, refl, subst}
use Rattle.am_names.specs.Names.{same_end}
use Rattle.am_scenario_types.specs.declared.parts.ScriptCall.{ScriptCall}
use Rattle.am_workers.specs.Turns.Callers.{due_of}
use Rattle.am_office_entries.specs.declared.Call.{Call}
use Rattle.am_office_entries.specs.declared.Entry.{Entry}
use Rattle.am_model_parts.specs.declared.work.Work.{Work}
use Rattle.am_iface.specs.View.{InterfaceView}
use Rattle.am_workers_laws.specs.Invariants.Seats.{EndPass, Ids, SameSeat}
use Rattle.am_workers_laws.proofs.Same.{busy_same, stays_same}
use Rattle.am_workers.specs.Turns.Turns.{AddsNothing, Alone, IsDone, Same, Shut, Still, ThreadTurns, With, WorkTurns}
use Rattle.am_workers.specs.declared.turns.turns.ThreadTurn.{ThreadTurn}
use Rattle.am_workers.specs.declared.turns.turns.ThreadTurn.TheVariants as Turns
use Rattle.am_workers.specs.declared.turns.turns.InterfaceTurn.{InterfaceTurn}
use Rattle.am_workers.specs.declared.turns.turns.InterfaceTurn.TheVariants as Worked

pub thread_same : (k thread : ℕ) (call : Call) (clock : ℕ) (turn : ThreadTurn) (v w : EndPass) → ThreadTurns k thread call clock v w turn → SameSeat v w
thread_same k thread call clock (Turns.Made x) v w h = stays_same k h.set h.place h.log _ v w h.stays
thread_same k thread call clock (Turns.Wanted x) v w h = stays_same k h.set h.place h.log _ v w h.stays
thread_same k thread call clock (Turns.Busy holder) v w h = busy_same k holder v w h
thread_same k thread call clock Turns.Waits v w h = stays_same k h.set h.place h.log _ v w h.stays
thread_same k thread call clock Turns.Full v w h = stays_same k h.set h.place h.log _ v w h.stays
thread_same k thread call clock Turns.Spent v w h = stays_same k h.set h.place h.log _ v w h.stays
thread_same k thread call clock Turns.NoMemory v w h = stays_same k h.set h.place h.log _ v w h.stays

itself : (v w : EndPass) → w ≡ v → SameSeat v w
itself v w is = subst (λ (z : EndPass). SameSeat v z) (sym is) (record { mark = refl; seats = refl; births = refl })

adds_same : (v w : EndPass) → AddsNothing v w → SameSeat v w
adds_same v w (Same is) = itself v w is
adds_same v w (Shut k holder busy) = busy_same k holder v w busy
adds_same v w (Still k set place log stays) = stays_same k set place log _ v w stays

done_same : (work : Work) (i j : InterfaceView) (v w : EndPass) (x : Entry) → IsDone work i j v w x → SameSeat v w
done_same work i j v w x (Alone is h) = itself v w is
done_same work i j v w x (With k h) = stays_same k h.set h.place h.log _ v w h.stays

pub work_same : (work : Work) (i j : InterfaceView) (turn : InterfaceTurn) (v w : EndPass) → WorkTurns work i j v w turn → SameSeat v w
work_same work i j (Worked.Made t) v w h = done_same work i j v w t.entry h.0
work_same work i j (Worked.Busy holder) v w h = adds_same v w h.0
work_same work i j Worked.NotYet v w h = adds_same v w h.0
work_same work i j Worked.Full v w h = adds_same v w h.0
work_same work i j Worked.NoMemory v w h = adds_same v w h.0

-- ---- the next call of a thread

-- a call that is next is due at the place of its endpoint
pub due_here : (ids : Ids) (o : Option ScriptCall) (c : ScriptCall) (k : ℕ) → o ≡ Some c → position (same_end c.endpoint) ids ≡ Some k →
    due_of ids o ≡ Some (k, c.call)
due_here ids o c k is at = ap (due_of ids) is ∙ ap (λ (p : Option ℕ). option_map (λ (n : ℕ). (n, c.call)) p) at
