-- A driver with a move, alone behind its looks, makes it in its turn.
use Rattle.std.specs.Prelude.{slice_get, slice_set, max, ◌^◌}
use Rattle.std.proofs.Common.{◌≡◌, ℕ, zero, suc, ◌+◌, ◌<◌, ◌≤◌, Some, None, List, [], ◌∷◌, length, Ok, Err, refl, ap, ◌∙◌, subst, arith, append-nil}
use mathlib.Core.Option.{some}
use lib.ListN.{get_elem?}
use Rattle.am_names.specs.declared.EndpointId.{EndpointId}
use Rattle.am_office_entries.specs.declared.Entry.{Entry}
use Rattle.am_endpoint_body.specs.declared.settings.EndSettings.{EndSettings}
use Rattle.am_model.specs.Parts.{last_stamp}
use Rattle.am_swap_device.specs.Memory.{device_of}
use Rattle.am_driver_moves.specs.Choice.Lists.{ViewLists}
use Rattle.am_driver_moves.specs.Choice.Moves.{next_move}
use Rattle.am_driver_moves.specs.declared.choice.EndView.{EndView}
use Rattle.am_driver.specs.Turns.{Answer, DriverTurns, IsHeld, IsLate, IsSpent}
use Rattle.am_driver.specs.declared.turns.DriverFault.TheVariants as Faults
use Rattle.am_driver.specs.declared.turns.DriverTurn.TheVariants as Turns
use Rattle.am_driver.proofs.Turning.{looks_can}
use Rattle.am_places.specs.Rule.{joined}
use Rattle.am_workers_laws.specs.Invariants.Drives.{CanDrive, LooksTo, line_by, with_line}
use Rattle.am_workers_laws.specs.Invariants.Seats.{EndPass, seen_log}
use Rattle.am_workers_laws.proofs.Driving.{born_low, line_at}
use Rattle.am_workers_laws.proofs.Keeping.{seen_here}
use Rattle.am_workers.specs.Stops.{stop_after_move}
use Rattle.am_workers.specs.declared.workers.DriverWorker.{DriverWorker}
use Rattle.am_workers.specs.declared.workers.Stop.TheVariants as Stopped
use Rattle.am_cluster_schedule.specs.Lone.{ComesTo, DriversKeepMaking, DriversMake, DrivesTo, HasStamps, Inside, IsDriving, Makes, MakesMove, Meets, MeetsAnother, MovesAlone, Rests, Since, Stops}

-- ---- the line of an endpoint to which nothing came

set_same : (xs : List EndView) (k : ℕ) (x : EndView) → slice_get xs k ≡ Some x → slice_set xs k x ≡ xs
set_same [] k x h = refl
set_same (y ∷ ys) zero x h = ap (λ (z : EndView). z ∷ ys) (let same : Some y ≡ Some x = h in cc)
set_same (y ∷ ys) (suc k) x h = ap (λ (zs : List EndView). y ∷ zs) (set_same ys k x h)

-- where the seat finds what it had seen, the view shows it already
shown_same : (frames : ℕ) (v : DriverWorker) (shown : ViewLists) (u : EndPass) (k : ℕ) (set : EndSettings) →
    CanDrive frames v.node shown (device_of v.swap) u → get_elem? u.births k ≡ some set → with_line k (line_by set (seen_log k u)) shown ≡ shown
shown_same frames v shown u k set c born =
    let low : k < length u.births = born_low u.births k set born in
    let here = line_at shown.ends k (omega (arith, low, c.all)) in
    let is : here.0 ≡ line_by set (seen_log k u) = (c.each k set here.0 born here.1).shows in
    ap (λ (xs : List EndView). record shown { ends = xs }) (set_same shown.ends k (line_by set (seen_log k u)) (here.1 ∙ ap (λ (l : EndView). Some l) is))

-- ---- a turn

module _ (v w : DriverWorker) (d : IsDriving v) (rests : Rests v w → ⊥) (stamps : HasStamps v w) where
  abbrev seat : EndPass
  seat = v.seat.token.me.0

  can : (n : ℕ) (shown : ViewLists) (u : EndPass) → LooksTo n v.view shown seat u → CanDrive d.0 v.node shown (device_of v.swap) u
  can n shown u looks = looks_can n d.0 v.node v.view shown (device_of v.swap) seat u d.1 looks

  -- the rules give another move only where something came behind the looks
  late : (n k : ℕ) (e : EndpointId) (shown : ViewLists) (u : EndPass) → LooksTo n v.view shown seat u →
      IsHeld k e (IsLate w.view) shown w.view u w.seat.token.me.0 → MeetsAnother u w.seat.token.me.0
  late n k e shown u looks h =
      Since k
      (record {
        set = h.look.set;
        place = h.look.place;
        log = h.look.log;
        stays = h.look.stays;
        why = λ same. h.why (ap next_move (h.look.shown ∙ ap (λ (xs : List Entry). with_line k (line_by h.look.set xs) shown) same
            ∙ shown_same d.0 v shown u k h.look.set (can n shown u looks) h.look.stays.born));
      })

  -- and a stamp can follow
  spent : (n k : ℕ) (e : EndpointId) (shown : ViewLists) (u : EndPass) → LooksTo n v.view shown seat u →
      IsHeld k e (IsSpent v.clock w.view) shown w.view u w.seat.token.me.0 → ⊥
  spent n k e shown u looks h =
      let c = can n shown u looks in
      let low : k < length u.births = born_low u.births k h.look.set h.look.stays.born in
      let seen : seen_log k w.seat.token.me.0 ≡ joined h.look.log =
      seen_here k h.look.set h.look.place h.look.log [] u w.seat.token.me.0 (omega (arith, low, c.wide)) h.look.stays ∙ append-nil (joined h.look.log) in
      let under : max v.clock (last_stamp (joined h.look.log)) < 2 ^ 63 =
      subst (λ (xs : List Entry). max v.clock (last_stamp xs) < 2 ^ 63) seen (stamps k) in
      let over : 2 ^ 63 ≤ max v.clock (last_stamp (joined h.look.log)) = h.why.2 in
      omega (arith, under, over)

  drove : (r : Answer) → DriverTurns (length v.view.ends) v.node v.clock w.clock v.view w.view (device_of v.swap) (device_of w.swap) seat w.seat.token.me.0 r →
      w.stop ≡ stop_after_move r → DrivesTo v w
  drove (Ok (Turns.Did x)) t stop =
      record {
        looked = length v.view.ends;
        shown = t.shown;
        between = t.between;
        looks = t.looks;
        comes = Makes (record { all = refl; k = t.k; x = x; moved = t.turn.0; clock = t.turn.1 });
      }
  drove (Ok (Turns.Busy holder)) t stop =
      record { looked = t.0.looked; shown = w.view; between = t.0.between; looks = t.0.looks; comes = Meets (Inside t.0.k holder t.0.busy) }
  drove (Ok (Turns.Stale e)) t stop =
      record {
        looked = length v.view.ends;
        shown = t.shown;
        between = t.between;
        looks = t.looks;
        comes = Meets (late (length v.view.ends) t.k e t.shown t.between t.looks t.turn.0);
      }
  drove (Ok (Turns.Spent e)) t stop = absurd (spent (length v.view.ends) t.k e t.shown t.between t.looks t.turn.0)
  drove (Ok Turns.Nothing) t stop = absurd (rests (t.0, t.1))
  drove (Err (Faults.LogFull e)) t stop =
      record { looked = length v.view.ends; shown = t.shown; between = t.between; looks = t.looks; comes = Stops Stopped.LogFull stop }
  drove (Err Faults.NoMemory) t stop =
      record { looked = length v.view.ends; shown = t.shown; between = t.between; looks = t.looks; comes = Stops Stopped.NoMemory stop }

pub drivers_make : DriversMake
drivers_make v w d t rests stamps = drove v w d rests stamps t.moved t.turn t.stop

-- so many turns
pub drivers_keep_making : DriversKeepMaking
drivers_keep_making zero v w turns going = let same : w.clock ≡ v.clock = ap (λ (z : DriverWorker). z.clock) turns in omega (arith, same)
drivers_keep_making (suc n) v w turns going =
    by_end turns.0 (drivers_keep_making n v turns.0 turns.1 turns.2.going) turns.2
    (drivers_make turns.0 w turns.2.driving turns.2.turn turns.2.move turns.2.stamps)
  where
    by_end : (u : DriverWorker) → v.clock + n ≤ u.clock → MovesAlone u w → DrivesTo u w → v.clock + suc n ≤ w.clock
    by_end u before alone d = by_way d.comes
      where
        by_way : ComesTo (MakesMove d.looked d.shown d.between u w) w.stop d.between w.seat.token.me.0 → v.clock + suc n ≤ w.clock
        by_way (Makes m) =
            let stamp : m.x.stamp ≡ 1 + max u.clock (last_stamp (joined m.moved.log)) = m.moved.stamped in
            let set : w.clock ≡ m.x.stamp = m.clock in omega (arith, before, stamp, set)
        by_way (Stops why stop) = absurd (let none : w.stop ≡ None = going in cc)
        by_way (Meets m) = absurd (alone.alone d.looked d.shown d.between d.looks m)
