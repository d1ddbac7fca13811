-- A worker with work, alone at its endpoint, makes an entry in its turn.
use Rattle.std.specs.Prelude.{position, slice_get, max, ◌^◌}
use Rattle.std.proofs.Common.{◌≡◌, ⊎_elim, ℕ, zero, suc, ◌+◌, true, false, Option, Some, None, List, [], ◌∷◌, ◌++◌, length, length-append, sym, ap, ◌∙◌, subst, arith, ◌<◌, ◌≤◌, true≢false}
use mathlib.Core.Option.{some}
use lib.ListN.{get_elem?}
use Rattle.atomic_table.specs.declared.shared.Seat.{Seat}
use Rattle.am_names.specs.declared.EndpointId.{EndpointId}
use Rattle.am_names.specs.Names.{same_end}
use Rattle.am_office_entries.specs.declared.Call.{Call}
use Rattle.am_office_entries.specs.declared.Entry.{Entry}
use Rattle.am_endpoint_body.specs.declared.settings.EndSettings.{EndSettings}
use Rattle.am_model.specs.Parts.{last_stamp}
use Rattle.am_iface.specs.View.{InterfaceView, own}
use Rattle.am_model_parts.specs.Interface.{needs}
use Rattle.am_model_parts.specs.declared.work.Work.{Work}
use Rattle.am_places.specs.Rule.{joined}
use Rattle.am_workers_laws.specs.declared.books.EndBook.{EndBook}
use Rattle.am_workers_laws.specs.Invariants.Seats.{EndPass, Ids, Stayed, seen_log}
use Rattle.am_workers.specs.Turns.Callers.{CallTurns, due_of}
use Rattle.am_workers.specs.Turns.Chosen.{chosen_work}
use Rattle.am_workers.specs.Turns.Tests.{can_do, is_fit, may_alone}
use Rattle.am_workers.specs.Turns.Turns.{Alone, FoundAlone, FoundAt, FoundThere, IsCall, IsDone, IsCallDue, IsWant, ThreadFound, ThreadTurns, WhyTurned, With, WorkTurns, clock_after}
use Rattle.am_workers.specs.Stops.{stop_after_call, stop_after_work}
use Rattle.am_workers.specs.WorkerTurns.{clock_by, Does, DoesWork, Starved, Turned}
use Rattle.am_workers.specs.declared.turns.turns.InterfaceTurn.{InterfaceTurn}
use Rattle.am_workers.specs.declared.turns.turns.InterfaceTurn.TheVariants as Worked
use Rattle.am_workers.specs.declared.turns.turns.ThreadTurn.{ThreadTurn}
use Rattle.am_workers.specs.declared.turns.turns.ThreadTurn.TheVariants as Turns
use Rattle.am_workers.specs.declared.workers.InterfaceWorker.{InterfaceWorker}
use Rattle.am_workers.specs.declared.workers.Stop.{Stop}
use Rattle.am_workers.specs.declared.workers.Stop.TheVariants as Stopped
use Rattle.am_workers.specs.declared.workers.ThreadWorker.{ThreadWorker}
use Rattle.am_cluster_schedule.specs.Lone.{AddsOne, ComesTo, HasCall, HasOneMore, HasWork, Inside, InterfacesKeepMaking, InterfacesMake, IsOpen, Makes, Meets}
use Rattle.am_cluster_schedule.specs.Lone.{MeetsAnother, Since, Stops, ThreadsKeepMaking, ThreadsMake}

-- ---- what the seat found

-- where a seat was found to have stayed with a fact that isn't so of what it had seen, others were there since
others_since : (k : ℕ) (set : EndSettings) (Why : EndSettings → List Entry → Type 0) (v w : EndPass) → get_elem? v.births k ≡ some set →
    (Why set (seen_log k v) → ⊥) → Stayed k [] Why v w → MeetsAnother v w
others_since k set Why v w born not s =
    Since k
    (record {
      set = s.set;
      place = s.place;
      log = s.log;
      stays = s.stays;
      why = λ same. not (subst (λ (xs : List Entry). Why set xs) same (subst (λ (z : EndSettings). Why z (joined s.log)) is s.why));
    })
  where
    is : s.set ≡ set
    is = let a : get_elem? v.births k ≡ some s.set = s.stays.born in let b : get_elem? v.births k ≡ some set = born in cc

-- ---- an interface

same_place : (o : Option ℕ) (j k : ℕ) → o ≡ Some j → o ≡ Some k → j ≡ k
same_place o j k a b = cc

module _ (ids : Ids) (work : Work) (i j : InterfaceView) (v w : EndPass) (stop : Option Stop) (Made : Type 0)
    (does : (x : Entry) → IsDone work i j v w x → Made) where
  -- a work with an endpoint
  there : (end : EndpointId) (made : InterfaceTurn) → IsOpen ids work i v (Some end) → stop ≡ stop_after_work made → WorkTurns work i j v w made →
      FoundThere ids end work i v w made → ComesTo Made stop v w
  there end (Worked.Made t) can stops turn why = Makes (does t.entry turn.0)
  there end (Worked.Busy holder) can stops turn why = Meets (Inside why.0 holder why.2)
  there end Worked.Full can stops turn why = Stops Stopped.LogFull stops
  there end Worked.NoMemory can stops turn why = Stops Stopped.NoMemory stops
  there end Worked.NotYet can stops turn why =
      ⊎_elim
      (λ (away : (position (same_end end) ids ≡ None) × (w ≡ v)). absurd (let here : position (same_end end) ids ≡ Some can.0 = can.2 in
      let none : position (same_end end) ids ≡ None = away.0 in cc))
      (λ (stay : (k : ℕ) × (position (same_end end) ids ≡ Some k) × Stayed k [] (λ (set : EndSettings) (log : List Entry). can_do work i set log ≡ false) v w).
      let same : can.0 ≡ stay.0 = same_place (position (same_end end) ids) can.0 stay.0 can.2 stay.1 in
      Meets (others_since stay.0 can.1 (λ (set : EndSettings) (log : List Entry). can_do work i set log ≡ false) v w
      (subst (λ (k : ℕ). get_elem? v.births k ≡ some can.1) same can.3)
      (λ not. let yes : can_do work i can.1 (seen_log stay.0 v) ≡ true = subst (λ (k : ℕ). can_do work i can.1 (seen_log k v) ≡ true) same can.4 in
      let no : can_do work i can.1 (seen_log stay.0 v) ≡ false = not in cc) stay.2))
      why

  -- and one without
  alone : (made : InterfaceTurn) → may_alone i work ≡ true → stop ≡ stop_after_work made → WorkTurns work i j v w made → FoundAlone work i made →
      ComesTo Made stop v w
  alone (Worked.Made t) may stops turn why = Makes (does t.entry turn.0)
  alone (Worked.Busy holder) may stops turn why = absurd why
  alone Worked.Full may stops turn why = Stops Stopped.LogFull stops
  alone Worked.NoMemory may stops turn why = Stops Stopped.NoMemory stops
  alone Worked.NotYet may stops turn why = absurd (let not : may_alone i work ≡ false = why in cc)

  found : (need : Option EndpointId) (made : InterfaceTurn) → IsOpen ids work i v need → stop ≡ stop_after_work made → WorkTurns work i j v w made →
      FoundAt ids work i v w made need → ComesTo Made stop v w
  found None made can stops turn why = alone made can stops turn why.1
  found (Some end) made can stops turn why = there end made can stops turn why

  works : (made : InterfaceTurn) → is_fit i.settings work ≡ true → IsOpen ids work i v (needs (own i) work) → stop ≡ stop_after_work made →
      WorkTurns work i j v w made → WhyTurned ids work i v w made → ComesTo Made stop v w
  works made fits can stops turn why =
      ⊎_elim
      (λ (bad : (is_fit i.settings work ≡ false) × (w ≡ v) × (made ≡ Worked.NotYet)). absurd (let no : is_fit i.settings work ≡ false = bad.0 in cc))
      (λ (good : (is_fit i.settings work ≡ true) × FoundAt ids work i v w made (needs (own i) work)).
      found (needs (own i) work) made can stops turn good.1) why

-- what was done is one entry more
one_more : (work : Work) (i j : InterfaceView) (v w : EndPass) (x : Entry) → IsDone work i j v w x → j.log ≡ i.log ++ x ∷ []
one_more work i j v w x (Alone same a) = ap (λ (z : InterfaceView). z.log) a.logged
one_more work i j v w x (With k s) = ap (λ (z : InterfaceView). z.log) s.why.logged

-- a turn from the worker as it was when it chose
chose : (ids : Ids) (u w : InterfaceWorker) → HasWork ids u → Does ids u w (chosen_work u.waits u.interface u.hand ids u.end) →
    ComesTo (HasOneMore u w) w.stop u.seat.token.me.0 w.seat.token.me.0
chose ids u w h does =
    let d : DoesWork ids h.work u w = subst (Does ids u w) h.chosen does in
    works ids h.work u.interface w.interface u.seat.token.me.0 w.seat.token.me.0 w.stop (HasOneMore u w)
    (λ x done. (x, one_more h.work u.interface w.interface u.seat.token.me.0 w.seat.token.me.0 x done)) d.made h.fits h.can d.stop d.turn d.why

pub interfaces_make : InterfacesMake
interfaces_make ids v w (Starved prepares hand ins stop) had = Stops Stopped.NoMemory stop
interfaces_make ids v w (Turned u looks finds) had =
    let seat : finds.w.seat.token.me.0 ≡ v.seat.token.me.0 = ap (λ (z : InterfaceWorker). z.seat.token.me.0) finds.same
    ∙ ap (λ (t : Seat (Option EndBook) EndPass). t.me.0) looks.prepares.token in
    let interface : finds.w.interface ≡ v.interface = ap (λ (z : InterfaceWorker). z.interface) finds.same ∙ looks.prepares.interface in
    coe 0 1 (k. ComesTo ((x : Entry) × (w.interface.log ≡ (interface k).log ++ x ∷ [])) w.stop (seat k) w.seat.token.me.0)
    (chose ids finds.w w had finds.does)

-- so many turns
pub interfaces_keep_making : InterfacesKeepMaking
interfaces_keep_making ids zero v w turns going = let same : length w.interface.log ≡ length v.interface.log = ap (λ (z : InterfaceWorker). length z.interface.log) turns in
    omega (arith, same)
interfaces_keep_making ids (suc n) v w turns going =
    let u = turns.0 in
    let last = turns.2 in
    let before : length u.interface.log ≡ length v.interface.log + n = interfaces_keep_making ids n v u turns.1 last.going in
    by_end u before (interfaces_make ids u w last.turn last.work) last.alone
  where
    by_end : (u : InterfaceWorker) → length u.interface.log ≡ length v.interface.log + n → ComesTo (HasOneMore u w) w.stop u.seat.token.me.0 w.seat.token.me.0 →
        (MeetsAnother u.seat.token.me.0 w.seat.token.me.0 → ⊥) → length w.interface.log ≡ length v.interface.log + suc n
    by_end u before (Makes more) alone =
        let long : length w.interface.log ≡ length u.interface.log + 1 = ap (λ (xs : List Entry). length xs) more.1
        ∙ length-append u.interface.log (more.0 ∷ []) in omega (arith, long, before)
    by_end u before (Stops why stop) alone = absurd (let none : w.stop ≡ None = going in cc)
    by_end u before (Meets m) alone = absurd (alone m)

-- ---- a thread

same_call : (o : Option (ℕ × Call)) (p q : ℕ × Call) → o ≡ Some p → o ≡ Some q → p ≡ q
same_call o p q a b = cc

-- what was added, with what is said of it here
stayed_so : (k : ℕ) (x : Entry) (Why : EndSettings → List Entry → Type 0) (So : Type 0) (v w : EndPass) →
    ((set : EndSettings) (log : List Entry) → Why set log → So) → Stayed k (x ∷ []) Why v w → Stayed k (x ∷ []) (λ (set : EndSettings) (log : List Entry). So) v w
stayed_so k x Why So v w so s = record { set = s.set; place = s.place; log = s.log; stays = s.stays; why = so s.set (joined s.log) s.why }

call_above : (thread : ℕ) (call : Call) (clock : ℕ) (x : Entry) (set : EndSettings) (log : List Entry) → IsCall thread call clock set log x → clock < x.stamp
call_above thread call clock x set log h = let s : x.stamp ≡ 1 + max clock (last_stamp log) = h.stamped in omega (arith, s)

want_above : (thread clock : ℕ) (x : Entry) (set : EndSettings) (log : List Entry) → IsWant thread clock set log x → clock < x.stamp
want_above thread clock x set log h = let s : x.stamp ≡ 1 + max clock (last_stamp log) = h.stamped in omega (arith, s)

module _ (ids : Ids) (v w : ThreadWorker) (h : HasCall ids v) where
  abbrev Comes : Type 0
  Comes = ComesTo (AddsOne v w) w.stop v.seat.token.me.0 w.seat.token.me.0

  by_turn : (t : ThreadTurn) (k : ℕ) (call : Call) → get_elem? v.seat.token.me.0.births k ≡ some h.set → IsCallDue v.clock h.set (seen_log k v.seat.token.me.0) →
      ThreadTurns k v.thread call v.clock v.seat.token.me.0 w.seat.token.me.0 t → w.clock ≡ clock_after v.clock t → w.stop ≡ stop_after_call (Some t) → Comes
  by_turn (Turns.Made x) k call born due s clock stop =
      Makes (
        k,
        x,
        stayed_so k x (ThreadFound v.thread call v.clock (Turns.Made x)) (v.clock < x.stamp) v.seat.token.me.0 w.seat.token.me.0
            (call_above v.thread call v.clock x) s,
        clock,
      )
  by_turn (Turns.Wanted x) k call born due s clock stop =
      Makes (
        k,
        x,
        stayed_so k x (ThreadFound v.thread call v.clock (Turns.Wanted x)) (v.clock < x.stamp) v.seat.token.me.0 w.seat.token.me.0
            (want_above v.thread v.clock x) s,
        clock,
      )
  by_turn (Turns.Busy holder) k call born due s clock stop = Meets (Inside k holder s)
  by_turn Turns.Waits k call born due s clock stop =
      Meets (others_since k h.set (ThreadFound v.thread call v.clock Turns.Waits) v.seat.token.me.0 w.seat.token.me.0 born
      (λ bad. true≢false (sym bad.1 ∙ due.unwanted bad.0)) s)
  by_turn Turns.Full k call born due s clock stop = Stops Stopped.LogFull stop
  by_turn Turns.Spent k call born due s clock stop =
      Meets (others_since k h.set (ThreadFound v.thread call v.clock Turns.Spent) v.seat.token.me.0 w.seat.token.me.0 born
      (λ bad. let low = due.low in let high : 2 ^ 63 ≤ max v.clock (last_stamp (seen_log k v.seat.token.me.0)) = bad in omega (arith, low, high)) s)
  by_turn Turns.NoMemory k call born due s clock stop = Stops Stopped.NoMemory stop

  called : (made : Option ThreadTurn) → CallTurns ids v.script.items v.thread v.next v.clock v.seat.token.me.0 w.seat.token.me.0 made →
      w.clock ≡ clock_by v.clock made → w.stop ≡ stop_after_call made → Comes
  called None turn clock stop = absurd (let due : due_of ids (slice_get v.script.items v.next) ≡ Some (h.k, h.call) = h.next in
      let none : due_of ids (slice_get v.script.items v.next) ≡ None = turn.0 in cc)
  called (Some t) turn clock stop =
      let same : h.k ≡ turn.0 =
      ap (λ (p : ℕ × Call). p.0) (same_call (due_of ids (slice_get v.script.items v.next)) (h.k, h.call) (turn.0, turn.1) h.next turn.2) in
      by_turn t turn.0 turn.1 (subst (λ (k : ℕ). get_elem? v.seat.token.me.0.births k ≡ some h.set) same h.born)
      (subst (λ (k : ℕ). IsCallDue v.clock h.set (seen_log k v.seat.token.me.0)) same h.due) turn.3 clock stop

pub threads_make : ThreadsMake
threads_make ids v w h t = called ids v w h t.made t.turn t.clock t.stop

-- so many turns
pub threads_keep_making : ThreadsKeepMaking
threads_keep_making ids zero v w turns going = let same : w.clock ≡ v.clock = ap (λ (z : ThreadWorker). z.clock) turns in omega (arith, same)
threads_keep_making ids (suc n) v w turns going =
    by_end turns.0 (threads_keep_making ids n v turns.0 turns.1 turns.2.going) (threads_make ids turns.0 w turns.2.call turns.2.turn) turns.2.alone
  where
    by_end : (u : ThreadWorker) → v.clock + n ≤ u.clock → ComesTo (AddsOne u w) w.stop u.seat.token.me.0 w.seat.token.me.0 →
        (MeetsAnother u.seat.token.me.0 w.seat.token.me.0 → ⊥) → v.clock + suc n ≤ w.clock
    by_end u before (Makes more) alone =
        let above : u.clock < more.1.stamp = more.2.why in let set : w.clock ≡ more.1.stamp = more.3 in omega (arith, before, above, set)
    by_end u before (Stops why stop) alone = absurd (let none : w.stop ≡ None = going in cc)
    by_end u before (Meets m) alone = absurd (alone m)
