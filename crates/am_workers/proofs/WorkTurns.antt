-- What an interface's turn answers, by what it found.
use Rattle.std.proofs.Common.{◌≡◌, ◌≢◌, inl, inr, ⊎_elim, ℕ, ◌+◌, ◌^◌, ◌<◌, ◌≤◌, max, false, List, [], ◌∷◌, ◌++◌, length, Option, Some, None, Result, Ok, Err}
use Rattle.std.specs.Prelude.{is_none, nat_lt, position}
use Rattle.std.proofs.Common.{Bool, true, ◌&&◌, refl, sym, ap, ◌∙◌, subst, arith, true≢false}
use Rattle.am_names.specs.declared.EndpointId.{EndpointId}
use Rattle.am_names.specs.Names.{same_end}
use Rattle.am_office_entries.specs.declared.Entry.{Entry}
use Rattle.am_office_entries.specs.declared.Part.{Part}
use Rattle.am_office_entries.specs.declared.Part.TheVariants as Parts
use Rattle.am_office_entries.specs.declared.Condition.{Condition}
use Rattle.am_office_entries.specs.Entries.{emitted_of}
use Rattle.am_names.specs.declared.NodeId.{NodeId}
use Rattle.am_names.specs.declared.Packet.TheVariants as Packets
use Rattle.am_endpoint_body.specs.declared.settings.EndSettings.{EndSettings}
use Rattle.am_workers_laws.specs.Phases.Lying.{moves_by}
use Rattle.am_endpoint.specs.View.{EndpointView, state_after}
use Rattle.am_model.specs.Parts.{last_stamp}
use Rattle.am_lemmas.proofs.Bools.{and_first}
use Rattle.am_model.specs.Channels.{attempt}
use Rattle.am_model.specs.Choice.{first_holding}
use Rattle.am_model.specs.Endpoint.{State, fresh}
use Rattle.am_model.specs.History.{is_bound}
use Rattle.am_model.specs.Tables.{expire_table}
use Rattle.am_office_entries.specs.declared.Place.TheVariants.{Host}
use Rattle.am_model_parts.specs.declared.work.Work.{Work}
use Rattle.am_model_parts.specs.declared.work.Work.TheVariants as Works
use Rattle.am_model_parts.specs.Interface.{channel_in, event_of, failing_at, needs, outcome_at, stamp_in}
use Rattle.am_iface.specs.Turns.{HasRoom, IsFull, stamp_after}
use Rattle.am_iface.specs.View.{InterfaceView, own}
use Rattle.am_iface.specs.With.{IsFullOf}
use Rattle.am_iface.specs.declared.Turned.{Turned}
use Rattle.am_model.specs.declared.EntryFault.{EntryFault}
use Rattle.am_model.specs.declared.EntryFault.TheVariants as EntryFaults
use Rattle.am_places.specs.Rule.{joined}
use Rattle.am_places.specs.declared.board.Tenure.{Tenure}
use Rattle.am_workers_laws.specs.Invariants.Seats.{EndPass, Ids, Stays}
use Rattle.am_workers.specs.Turns.Chosen.{may_retry}
use Rattle.am_iface.specs.Settings.{SettingsView}
use Rattle.am_workers.specs.Turns.Servers.{IfMade}
use Rattle.am_workers.specs.Turns.Tests.{can_do, is_fit, is_low, is_of, is_ready, may_alone, passes}
use Rattle.am_workers.specs.Turns.Turns.{Alone, AloneTurns, HasTries, InterfaceFound, InterfaceTurns, IsSomeFull, MayBounce, Same, Shut, Still, With, WorkTurns}
use Rattle.am_workers.specs.Turns.Turns.{FoundAlone, FoundAt, FoundThere, WhyTurned, worked_in}
use Rattle.am_workers.specs.declared.turns.turns.InterfaceTurn.{InterfaceTurn}
use Rattle.am_workers.specs.declared.turns.turns.InterfaceTurn.TheVariants as Worked
use Rattle.am_workers.proofs.Answering.{why_stayed}
use Rattle.am_workers.proofs.TurnBooks.{TellsDisabled, TellsFull, enabled_done, enabled_starved}
use Rattle.am_workers_laws.proofs.Staying.{AreStill}

-- an interface's event moves no endpoint
work_still : (node : NodeId) (w : Work) → moves_by (event_of node w) ≡ false
work_still node (Works.Receive (Packets.Parcel p)) = refl
work_still node (Works.Receive (Packets.Answer p)) = refl
work_still node (Works.Bind end) = refl
work_still node (Works.Expire peer channel) = refl

pub still_worked : (w : Work) (i j : InterfaceView) (turn : InterfaceTurn) (set : EndSettings) (log : List Entry) → InterfaceFound w i j turn set log →
    AreStill (worked_in turn)
still_worked w i j (Worked.Made t) set log h = (ap moves_by h.0.event ∙ work_still i.settings.node w, tt)
still_worked w i j (Worked.Busy holder) set log h = tt
still_worked w i j Worked.NotYet set log h = tt
still_worked w i j Worked.Full set log h = tt
still_worked w i j Worked.NoMemory set log h = tt

pub interface_turned : (k : ℕ) (w : Work) (i j : InterfaceView) (turn : InterfaceTurn) (v u : EndPass) (set : EndSettings) (place : ℕ)
    (log : List (Tenure Entry)) (past : List Entry) → Stays k set place log (worked_in turn) v u → joined log ≡ past
    → InterfaceFound w i j turn set past → InterfaceTurns k w i j v u turn
interface_turned k w i j (Worked.Made t) v u set place log past stays is found =
    why_stayed k (t.entry ∷ []) (InterfaceFound w i j (Worked.Made t)) v u set place log past stays is found
interface_turned k w i j (Worked.Busy holder) v u set place log past stays is found = absurd found
interface_turned k w i j Worked.NotYet v u set place log past stays is found =
    why_stayed k [] (InterfaceFound w i j Worked.NotYet) v u set place log past stays is found
interface_turned k w i j Worked.Full v u set place log past stays is found =
    why_stayed k [] (InterfaceFound w i j Worked.Full) v u set place log past stays is found
interface_turned k w i j Worked.NoMemory v u set place log past stays is found =
    why_stayed k [] (InterfaceFound w i j Worked.NoMemory) v u set place log past stays is found

-- ---- whether the work can be done

pub can_true : (b : Bool) (o : Option Condition) → b ≡ true → o ≡ None → (b && is_none o) ≡ true
can_true true None passed enabled = refl
can_true true (Some c) passed enabled = absurd (cc)
can_true false o passed enabled = absurd (true≢false (sym passed))

pub can_false : (b : Bool) (o : Option Condition) (c : Condition) → o ≡ Some c → (b && is_none o) ≡ false
can_false true None c failing = absurd (cc)
can_false true (Some d) c failing = refl
can_false false o c failing = refl

pub not_passed : (b : Bool) (o : Option Condition) → b ≡ false → (b && is_none o) ≡ false
not_passed true o failed = absurd (true≢false failed)
not_passed false o failed = refl

floor_none : (n l s stamp : ℕ) → stamp ≡ 1 + max (max (max 0 n) l) s → stamp ≡ 1 + max (max n l) s
floor_none n l s stamp is = omega arith

low_with : (n l s stamp top : ℕ) → stamp ≡ 1 + max (max (max 0 n) l) s → n < top → l < top → s < top → stamp ≤ top
low_with n l s stamp top is a b c = omega arith

low_alone : (l s stamp top : ℕ) → stamp ≡ 1 + max (max 0 l) s → l < top → s < top → stamp ≤ top
low_alone l s stamp top is b c = omega arith

-- the work is done
pub worked_found : (e : EndpointView) (i j : InterfaceView) (w : Work) (t : Turned) → needs (own i) w ≡ Some e.settings.id →
    TellsDisabled (Ok t) (failing_at (own i) (state_after e) w) → t.entry.event ≡ event_of i.settings.node w
    → t.entry.outcome ≡ outcome_at (own i) (state_after e) w → t.entry.stamp ≡ stamp_after (max 0 (last_stamp e.log)) i.log w → t.out ≡ emitted_of t.entry →
    j ≡ record i { log = i.log ++ t.entry ∷ [] }
    → MayBounce i.settings.bounces (state_after e) w → last_stamp i.log < 2 ^ 63 → last_stamp e.log < 2 ^ 63 → stamp_in w < 2 ^ 63 →
    passes w i e.settings e.log ≡ true → InterfaceFound w i j (Worked.Made t) e.settings e.log
worked_found e i j w t needed disabled event outcome stamped out logged bounces last there packet passed = (
  record {
    needed = needed;
    enabled = enabled_done t (failing_at (own i) (state_after e) w) disabled;
    event = event;
    outcome = outcome;
    stamped = floor_none (last_stamp e.log) (last_stamp i.log) (stamp_in w) t.entry.stamp stamped;
    low = low_with (last_stamp e.log) (last_stamp i.log) (stamp_in w) t.entry.stamp (2 ^ 63) stamped there last packet;
    bounces = bounces;
    can = can_true (passes w i e.settings e.log) (failing_at (own i) (state_after e) w) passed
        (enabled_done t (failing_at (own i) (state_after e) w) disabled);
    logged = logged;
  },
  out,
)

-- a log is full
pub full_found : (e : EndpointView) (i j : InterfaceView) (p : Part) (failing : Option Condition) →
    TellsFull (Err (EntryFaults.LogFull p)) failing (IsFullOf i e) → j ≡ i → (passed : Bool) → passed ≡ true →
    (failing ≡ None) × IsSomeFull i e.settings e.log × (j ≡ i) × ((passed && is_none failing) ≡ true)
full_found e i j p failing full same passed is =
    (((full p).0 refl).0, ⊎_elim at_end at_interface ((full p).0 refl).1, same, can_true passed failing is ((full p).0 refl).0)
  where
    at_end : (p ≡ Parts.Endpoint e.settings.id) × (length e.log ≡ e.settings.log) → IsSomeFull i e.settings e.log
    at_end h = inl h.1

    at_interface : (length e.log ≢ e.settings.log) × IsFull i p → IsSomeFull i e.settings e.log
    at_interface h = inr h.1.1

-- there is no memory for its entry, and no log is full
pub starved_found : (e : EndpointView) (i j : InterfaceView) (failing : Option Condition) → TellsDisabled (Err EntryFaults.NoMemory) failing →
    TellsFull (Err EntryFaults.NoMemory) failing (IsFullOf i e) → j ≡ i → (passed : Bool) → passed ≡ true
    → (failing ≡ None) × (length e.log ≢ e.settings.log) × (length i.log ≢ i.settings.log) × (j ≡ i) × ((passed && is_none failing) ≡ true)
starved_found e i j failing disabled full same passed is = (enabled, end_has_room, interface_has_room, same, can_true passed failing is enabled)
  where
    enabled : failing ≡ None
    enabled = enabled_starved failing disabled

    not_starved : (p : Part) → ◌≡◌ {A = Result Turned EntryFault} (Err EntryFaults.NoMemory) (Err (EntryFaults.LogFull p)) → ⊥
    not_starved p bad = cc

    end_has_room : length e.log ≢ e.settings.log
    end_has_room h = not_starved (Parts.Endpoint e.settings.id) ((full (Parts.Endpoint e.settings.id)).1 (enabled, inl (refl, h)))

    interface_has_room : length i.log ≢ i.settings.log
    interface_has_room h = not_starved (Parts.Interface i.settings.node) ((full (Parts.Interface i.settings.node)).1 (enabled, inr (end_has_room, (refl, h))))

-- ---- a turn whatever its work touches

pub with_done : (k : ℕ) (w : Work) (i j : InterfaceView) (turn : InterfaceTurn) (v u : EndPass) → InterfaceTurns k w i j v u turn → WorkTurns w i j v u turn
with_done k w i j (Worked.Made t) v u h = (With k (record { set = h.set; place = h.place; log = h.log; stays = h.stays; why = h.why.0 }), h.why.1)
with_done k w i j (Worked.Busy holder) v u h = (Shut k holder h.0, h.1)
with_done k w i j Worked.NotYet v u h = (Still k h.set h.place h.log h.stays, h.why.0)
with_done k w i j Worked.Full v u h = (Still k h.set h.place h.log h.stays, h.why.2)
with_done k w i j Worked.NoMemory v u h = (Still k h.set h.place h.log h.stays, h.why.3)

pub alone_done : (w : Work) (i j : InterfaceView) (turn : InterfaceTurn) (v : EndPass) → AloneTurns w i j turn → WorkTurns w i j v v turn
alone_done w i j (Worked.Made t) v h = (Alone refl h.0, h.1)
alone_done w i j (Worked.Busy holder) v h = absurd h
alone_done w i j Worked.NotYet v h = (Same refl, h.0)
alone_done w i j Worked.Full v h = (Same refl, h.0)
alone_done w i j Worked.NoMemory v h = (Same refl, h.0)

pub alone_found : (i j : InterfaceView) (w : Work) (t : Turned) → needs (own i) w ≡ None → ((s : State) → TellsDisabled (Ok t) (failing_at (own i) s w)) →
    t.entry.event ≡ event_of i.settings.node w
    → ((s : State) → t.entry.outcome ≡ outcome_at (own i) s w) → t.entry.stamp ≡ stamp_after 0 i.log w → t.out ≡ emitted_of t.entry →
    j ≡ record i { log = i.log ++ t.entry ∷ [] } → HasTries i w → last_stamp i.log < 2 ^ 63 → stamp_in w < 2 ^ 63 → may_alone i w ≡ true →
    AloneTurns w i j (Worked.Made t)
alone_found i j w t needed disabled event outcome stamped out logged tries last packet can = (
  record {
    needed = needed;
    enabled = λ s. enabled_done t (failing_at (own i) s w) (disabled s);
    event = event;
    outcome = outcome;
    stamped = stamped;
    low = low_alone (last_stamp i.log) (stamp_in w) t.entry.stamp (2 ^ 63) stamped last packet;
    tries = tries;
    can = can;
    logged = logged;
  },
  out,
)

-- ---- a work that touches no endpoint, and of which each test holds

alone_enabled : (i : InterfaceView) (s : State) (w : Work) → needs (own i) w ≡ None → may_alone i w ≡ true → failing_at (own i) s w ≡ None
alone_enabled i s (Works.Receive p) none can = refl
alone_enabled i s (Works.Bind end) none can = absurd (cc)
alone_enabled i s (Works.Expire peer channel) none can =
    let tried = and_first (may_retry i peer channel && nat_lt (last_stamp i.log) (2 ^ 63)) (nat_lt 0 (2 ^ 63)) can in
    let may = and_first (may_retry i peer channel) (nat_lt (last_stamp i.log) (2 ^ 63)) tried in
    let bound = and_first (is_bound (channel_in (own i) peer channel) i.log)
    (nat_lt (attempt (channel_in (own i) peer channel) i.log + 2) i.settings.tries) may in
    ap (λ (b : Bool). first_holding (expire_table b)) bound

-- any state: what is said of each is said of this one
some_state : State
some_state = fresh (record { 0 = 0 }) Host

pub alone_not_disabled : (i : InterfaceView) (w : Work) (c : Condition) → needs (own i) w ≡ None → may_alone i w ≡ true →
    ((s : State) → TellsDisabled (Err (EntryFaults.NotEnabled c)) (failing_at (own i) s w)) → ⊥
alone_not_disabled i w c none can disabled =
    let failing = (disabled some_state c).0 refl in
    let enabled = alone_enabled i some_state w none can in
    cc

pub alone_full : (i j : InterfaceView) (w : Work) (p : Part) → j ≡ i → may_alone i w ≡ true →
    ((s : State) → TellsFull (Err (EntryFaults.LogFull p)) (failing_at (own i) s w) (IsFull i)) → AloneTurns w i j Worked.Full
alone_full i j w p same can full = (same, can, ((full some_state p).0 refl).1.1)

pub alone_starved : (i j : InterfaceView) (w : Work) → j ≡ i → may_alone i w ≡ true → ((s : State) → HasRoom i s w) → AloneTurns w i j Worked.NoMemory
alone_starved i j w same can room = (same, can, (room some_state).here)

-- ---- why it did not do it

pub found_there : (ids : Ids) (end : EndpointId) (k : ℕ) (w : Work) (i j : InterfaceView) (turn : InterfaceTurn) (v u : EndPass) →
    position (same_end end) ids ≡ Some k → InterfaceTurns k w i j v u turn → FoundThere ids end w i v u turn
found_there ids end k w i j (Worked.Made t) v u at h = tt
found_there ids end k w i j (Worked.Busy holder) v u at h = (k, at, h.0)
found_there ids end k w i j Worked.NotYet v u at h = inr (k, at, record { set = h.set; place = h.place; log = h.log; stays = h.stays; why = h.why.1 })
found_there ids end k w i j Worked.Full v u at h =
    (k, at, record { set = h.set; place = h.place; log = h.log; stays = h.stays; why = (h.why.3, h.why.1) })
found_there ids end k w i j Worked.NoMemory v u at h =
    (k, at, record { set = h.set; place = h.place; log = h.log; stays = h.stays; why = (h.why.4, h.why.1, h.why.2) })

pub found_alone : (w : Work) (i j : InterfaceView) (turn : InterfaceTurn) → AloneTurns w i j turn → FoundAlone w i turn
found_alone w i j (Worked.Made t) h = tt
found_alone w i j (Worked.Busy holder) h = absurd h
found_alone w i j Worked.NotYet h = h.1
found_alone w i j Worked.Full h = (h.1, h.2)
found_alone w i j Worked.NoMemory h = (h.1, h.2)

-- a work that fits and touches no endpoint, or this one
pub why_alone : (ids : Ids) (w : Work) (i j : InterfaceView) (turn : InterfaceTurn) (v : EndPass) → is_fit i.settings w ≡ true → needs (own i) w ≡ None →
    AloneTurns w i j turn → WhyTurned ids w i v v turn
why_alone ids w i j turn v fit none h =
    inr (fit, subst (λ (o : Option EndpointId). FoundAt ids w i v v turn o) (sym none) (refl, found_alone w i j turn h))

pub why_there : (ids : Ids) (end : EndpointId) (w : Work) (i : InterfaceView) (turn : InterfaceTurn) (v u : EndPass) → is_fit i.settings w ≡ true →
    needs (own i) w ≡ Some end → FoundThere ids end w i v u turn → WhyTurned ids w i v u turn
why_there ids end w i turn v u fit needed h = inr (fit, subst (λ (o : Option EndpointId). FoundAt ids w i v u turn o) (sym needed) h)

pub why_unfit : (ids : Ids) (w : Work) (i : InterfaceView) (v : EndPass) → is_fit i.settings w ≡ false → WhyTurned ids w i v v Worked.NotYet
why_unfit ids w i v unfit = inl (unfit, refl, refl)

pub if_made : (turn : InterfaceTurn) (P : Type 0) → P → IfMade turn P
if_made (Worked.Made t) P h = h
if_made (Worked.Busy holder) P h = tt
if_made Worked.NotYet P h = tt
if_made Worked.Full P h = tt
if_made Worked.NoMemory P h = tt

-- ---- what is tested of the endpoint

first_failed : (of ready low : Bool) (o : Option Condition) → of ≡ false → ((of && ready && low) && is_none o) ≡ false
first_failed true ready low o failed = absurd (true≢false failed)
first_failed false ready low o failed = refl

second_failed : (of ready low : Bool) (o : Option Condition) → ready ≡ false → ((of && ready && low) && is_none o) ≡ false
second_failed true true low o failed = absurd (true≢false failed)
second_failed true false low o failed = refl
second_failed false ready low o failed = refl

third_failed : (of ready low : Bool) (o : Option Condition) → low ≡ false → ((of && ready && low) && is_none o) ≡ false
third_failed true true true o failed = absurd (true≢false failed)
third_failed true true false o failed = refl
third_failed true false low o failed = refl
third_failed false ready low o failed = refl

all_passed : (of ready low : Bool) → of ≡ true → ready ≡ true → low ≡ true → (of && ready && low) ≡ true
all_passed true true true a b c = refl
all_passed true true false a b c = absurd (true≢false (sym c))
all_passed true false low a b c = absurd (true≢false (sym b))
all_passed false ready low a b c = absurd (true≢false (sym a))

-- the endpoint e is the book's, and d the one that was looked at; the settings are the interface's
of_book : (set : SettingsView) (d e : EndpointView) (i : InterfaceView) (b c : Bool) → set ≡ i.settings → d ≡ e → b ≡ is_of set d.settings (state_after d) →
    b ≡ c → is_of i.settings e.settings (state_after e) ≡ c
of_book set d e i b c own_set same value is =
    subst (λ (s : SettingsView). is_of s e.settings (state_after e) ≡ c) own_set
    (subst (λ (x : EndpointView). is_of set x.settings (state_after x) ≡ c) same (sym value ∙ is))

ready_book : (d e : EndpointView) (i : InterfaceView) (w : Work) (b c : Bool) → d ≡ e → b ≡ is_ready i (state_after d) w → b ≡ c →
    is_ready i (state_after e) w ≡ c
ready_book d e i w b c same value is = subst (λ (x : EndpointView). is_ready i (state_after x) w ≡ c) same (sym value ∙ is)

low_book : (d e : EndpointView) (i : InterfaceView) (w : Work) (b c : Bool) → d ≡ e → b ≡ is_low i w d.log → b ≡ c → is_low i w e.log ≡ c
low_book d e i w b c same value is = subst (λ (x : EndpointView). is_low i w x.log ≡ c) same (sym value ∙ is)

pub not_of : (set : SettingsView) (d e : EndpointView) (i : InterfaceView) (w : Work) (b : Bool) → set ≡ i.settings → d ≡ e →
    b ≡ is_of set d.settings (state_after d) → b ≡ false → can_do w i e.settings e.log ≡ false
not_of set d e i w b own_set same value is =
    first_failed (is_of i.settings e.settings (state_after e)) (is_ready i (state_after e) w) (is_low i w e.log) (failing_at (own i) (state_after e) w)
    (of_book set d e i b false own_set same value is)

pub not_ready : (d e : EndpointView) (i : InterfaceView) (w : Work) (b : Bool) → d ≡ e → b ≡ is_ready i (state_after d) w → b ≡ false →
    can_do w i e.settings e.log ≡ false
not_ready d e i w b same value is =
    second_failed (is_of i.settings e.settings (state_after e)) (is_ready i (state_after e) w) (is_low i w e.log) (failing_at (own i) (state_after e) w)
    (ready_book d e i w b false same value is)

pub not_low : (d e : EndpointView) (i : InterfaceView) (w : Work) (b : Bool) → d ≡ e → b ≡ is_low i w d.log → b ≡ false → can_do w i e.settings e.log ≡ false
not_low d e i w b same value is =
    third_failed (is_of i.settings e.settings (state_after e)) (is_ready i (state_after e) w) (is_low i w e.log) (failing_at (own i) (state_after e) w)
    (low_book d e i w b false same value is)

pub passed_all : (set : SettingsView) (d f g e : EndpointView) (i : InterfaceView) (w : Work) (x y z : Bool) → set ≡ i.settings → d ≡ e → f ≡ e → g ≡ e →
    x ≡ is_of set d.settings (state_after d) → x ≡ true → y ≡ is_ready i (state_after f) w → y ≡ true → z ≡ is_low i w g.log → z ≡ true →
    passes w i e.settings e.log ≡ true
passed_all set d f g e i w x y z own_set same_d same_f same_g value_x is_x value_y is_y value_z is_z =
    all_passed (is_of i.settings e.settings (state_after e)) (is_ready i (state_after e) w) (is_low i w e.log)
    (of_book set d e i x true own_set same_d value_x is_x) (ready_book f e i w y true same_f value_y is_y) (low_book g e i w z true same_g value_z is_z)
