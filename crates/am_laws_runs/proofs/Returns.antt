-- What a drain returns it returns for good, where the plan withholds nothing.
use Rattle.std.specs.Prelude.{◌&&◌, filter_map, find, fold, is_some}
use Rattle.std.specs.List.{cons_option}
use Rattle.std.proofs.Common.{◌≡◌, ℕ, Bool, true, false, List, [], ◌∷◌, ◌++◌, Option, Some, None, refl, sym, ap, ◌∙◌, subst, append_assoc, append-nil}
use Rattle.std.proofs.Common.{true≢false}
use Rattle.std.proofs.lemmas.List.Elements.{filter_map-append}
use Rattle.am_names.specs.Rules.{is_transient}
use Rattle.am_names.specs.declared.Cause.{Cause}
use Rattle.am_names.specs.declared.NodeId.{NodeId}
use Rattle.am_names.specs.declared.Packet.{Packet}
use Rattle.am_names.specs.declared.Packet.TheVariants as Packets
use Rattle.am_names.specs.declared.Parcel.{Parcel}
use Rattle.am_names.specs.declared.Serial.{Serial}
use Rattle.am_office_entries.specs.declared.Entry.{Entry}
use Rattle.am_office_entries.specs.declared.Event.{Event}
use Rattle.am_office_entries.specs.declared.Event.TheVariants as Events
use Rattle.am_office_entries.specs.declared.Outcome.{Outcome}
use Rattle.am_office_entries.specs.declared.endings.Fate.TheVariants as Fates
use Rattle.am_office_entries.specs.Entries.{emitted_in, emitted_of}
use Rattle.am_office_entries.specs.Fates.{cause_of, causes_of, fate, fate_by, fate_of_accepted, is_accepted, is_run, is_unknown}
use Rattle.am_model.specs.History.{MayFollow, EachAfter, IsHistory, outcome_of}
use Rattle.am_model.specs.Layout.{Layout, AllAre}
use Rattle.am_model.proofs.Each.{each_at, each_front, over_each, each_push}
use Rattle.am_model.proofs.Alls.{all_push}
use Rattle.am_laws.proofs.OrderedPackets.{not_carry}
use Rattle.am_scenario_types.specs.Lists.{ScenarioLists}
use Rattle.am_model_scripts.specs.Layout.{layout_of}
use Rattle.am_model_scripts.specs.Follows.{is_last}
use Rattle.am_model.specs.Parts.{driver_of}
use Rattle.am_model_scripts.specs.Links.{IsReceiptInOrder, ReceivesInOrder, next_receipt}
use Rattle.am_model_scripts.specs.Standings.{standings, is_missed}
use Rattle.am_model_scripts.proofs.Lists.{some_mapped}
use Rattle.am_model_drain.specs.declared.Turn.{Turn}
use Rattle.am_model_drain.specs.Drain.{after_turn, after_turns}
use Rattle.am_model_drain.specs.Made.{after_event, next_entry}
use Rattle.am_model_drain.specs.Rules.{page_in_of, poll_of, is_pollable, make_of, left_to, fewer}
use Rattle.am_model_drain.proofs.Quiet.{Quiet}
use Rattle.am_model_drain.proofs.TurnKinds.{IsDueReceipt, is_so, next_receipt_so}
use Rattle.am_model_drain.proofs.Turns.{Grows, IsTurnBy, Receives, TimesOut, PagesIn, Sends, Makes, Polls, Extends, event_of, extends_on, over_turns}
use Rattle.am_model_drain.proofs.Turns.{ready_keeps, turn_extends, turn_grows}
use Rattle.am_laws_runs.proofs.Soundness.{drains_follow}
use Rattle.am_laws_runs.specs.Turns.Enabled.{IsOfRun}
use Rattle.am_laws_runs.specs.Turns.Endings.{WithholdsNothing, ReturnsAreForGood}
use Rattle.am_laws_runs.proofs.Enabled.{of_packets}
use Rattle.am_laws_runs.proofs.Nothing.{accepted_fate}
use Rattle.am_laws_runs.specs.Returns.{NoneTimesOut, DrainedReturnsAreForGood}
use Rattle.am_laws_runs.proofs.Drained.{empty_is_good_phase}
use Rattle.am_laws_runs.proofs.Low.{MayBounce, low_more, bound_low}
use Rattle.am_laws_runs.proofs.Queues.{AreFine, opening_fine}
use Rattle.am_laws_runs.proofs.Received.{return_is, receipt_stays, returns_for_good}
use Rattle.am_laws_runs.proofs.Room.{SendsWithRoom, sends_with_room}
use Rattle.am_laws_runs.proofs.Still.{IsStill, none_times_out, zone_begins}
use Rattle.am_laws_runs.proofs.Zone.{FitsOf, Zone, receives_nothing, zone_more}
use Rattle.am_laws_runs.proofs.Zone as zone

pub none_times_out_law : NoneTimesOut
none_times_out_law s past run order nothing none = none_times_out s past (record { run = run; order = order; nothing = nothing; none = none })

-- ---- the causes of returns

-- each message that came back came back for good
abbrev pub ReturnsForGood : List Entry → Type 0
ReturnsForGood past = (s : Serial) → AllAre (λ (cause : Cause). is_transient cause ≡ false) (causes_of past s)

-- what an entry returns, if anything, is returned for good
abbrev pub ReturnsWell : Entry → Type 0
ReturnsWell x = (s : Serial) (cause : Cause) → cause_of s x.event x.outcome ≡ Some cause → is_transient cause ≡ false

returns_more : (past : List Entry) (x : Entry) → ReturnsForGood past → ReturnsWell x → ReturnsForGood (past ++ x ∷ [])
returns_more past x k well s =
    subst (λ (cs : List Cause). AllAre (λ (cause : Cause). is_transient cause ≡ false) cs)
    (sym (filter_map-append (λ (y : Entry). cause_of s y.event y.outcome) past (x ∷ [])))
    (by_cause (cause_of s x.event x.outcome) refl)
  where
    by_cause : (o : Option Cause) → cause_of s x.event x.outcome ≡ o →
        AllAre (λ (cause : Cause). is_transient cause ≡ false) (causes_of past s ++ cons_option o [])
    by_cause None is = subst (λ (cs : List Cause). AllAre (λ (cause : Cause). is_transient cause ≡ false) cs) (sym (append-nil (causes_of past s))) (k s)
    by_cause (Some cause) is = all_push (λ (c : Cause). is_transient c ≡ false) (causes_of past s) cause (k s) (well s cause is)

nothing_returned : (x : Entry) → ((s : Serial) → cause_of s x.event x.outcome ≡ None) → ReturnsWell x
nothing_returned x none s cause is =
    let both : None ≡ Some cause = sym (none s) ∙ is in
    absurd (cc)

-- ---- before a message is bound for its last time

receives_well : (s : ScenarioLists) (past : List Entry) (x : Entry) (node peer : NodeId) (number : ℕ) → IsOfRun s past →
    AreFine (MayBounce s) (layout_of s) past → zone.Receives (layout_of s) past x node peer number → ReturnsWell x
receives_well s past x node peer number run low r serial cause is =
    let k = return_is (layout_of s) past x node peer number serial cause r is in
    not_both (is_transient cause) _ (bound_low s past _ k.message run low k.bound) k.last
  where
    not_both : (a b : Bool) → b ≡ true → (a && b) ≡ false → a ≡ false
    not_both true true is h = h
    not_both true false is h = absurd (true≢false (sym is))
    not_both false b is h = refl

before_well : (s : ScenarioLists) (past : List Entry) (x : Entry) → IsOfRun s past → MayFollow (layout_of s) past x → AreFine (MayBounce s) (layout_of s) past →
    ReturnsWell x
before_well s past x run may low = by_event x.event refl
  where
    none_for : (v : Event) → x.event ≡ v → ((serial : Serial) → cause_of serial v x.outcome ≡ None) → ReturnsWell x
    none_for v is none = nothing_returned x (λ serial. ap (λ (w : Event). cause_of serial w x.outcome) is ∙ none serial)

    by_event : (v : Event) → x.event ≡ v → ReturnsWell x
    by_event (Events.Receive node peer number) is =
        receives_well s past x node peer number run low (record { may = may; event' = is; outcome' = may.outcome ∙ ap (outcome_of (layout_of s) past) is })
    by_event (Events.Carry end) is = absurd (not_carry (layout_of s) (of_packets s run.packet) past x.event may.enabled end is)
    by_event v is = none_for v is (λ serial. refl)

-- ---- entries that receive and send nothing

-- whether an event neither receives nor sends
abbrev pub is_plain : Event → Bool
is_plain (Events.Carry end) = false
is_plain (Events.Bind node end) = false
is_plain (Events.Expire node peer channel) = false
is_plain (Events.Receive node peer number) = false
is_plain event = true

plain_receives : (event : Event) → is_plain event ≡ true → receives_nothing event ≡ true
plain_receives (Events.Carry end) h = absurd (true≢false (sym h))
plain_receives (Events.Receive node peer number) h = absurd (true≢false (sym h))
plain_receives event h = refl

plain_sends : (stamp : ℕ) (event : Event) (o : Outcome) → is_plain event ≡ true → emitted_in stamp event o ≡ None
plain_sends stamp (Events.Carry end) o h = absurd (true≢false (sym h))
plain_sends stamp (Events.Bind node end) o h = absurd (true≢false (sym h))
plain_sends stamp (Events.Expire node peer channel) o h = absurd (true≢false (sym h))
plain_sends stamp (Events.Receive node peer number) o h = absurd (true≢false (sym h))
plain_sends stamp event o h = refl

receives_returns : (s : Serial) (event : Event) (o : Outcome) → receives_nothing event ≡ true → cause_of s event o ≡ None
receives_returns s (Events.Carry end) o h = absurd (true≢false (sym h))
receives_returns s (Events.Receive node peer number) o h = absurd (true≢false (sym h))
receives_returns s event o h = refl

driven_plain : (event : Event) → is_some (driver_of event) ≡ true → is_plain event ≡ true
driven_plain (Events.Drain node end) h = refl
driven_plain (Events.Unload node end) h = refl
driven_plain (Events.Load node end frame) h = refl
driven_plain (Events.PageOut node end) h = refl
driven_plain (Events.PageIn node end) h = refl
driven_plain event h = absurd (true≢false (sym h))

-- ---- a journal of a drain

-- before a message is bound for its last time, or since nothing was on its way
pub data Stage (s : ScenarioLists) (past : List Entry) : Type 0 where
  Before : AreFine (MayBounce s) (layout_of s) past → Stage s past
  Since : (from : List Entry) (o : Option Parcel) → Zone (layout_of s) from past o → Stage s past

pub record Goes (s : ScenarioLists) (past : List Entry) : Type 0 where
  pub returns : ReturnsForGood past
  pub stage : Stage s past

-- the whole journal, which is a history with receipts in order, where the plan withholds nothing
pub record IsWhole (s : ScenarioLists) (journal : List Entry) : Type 0 where
  pub run : IsOfRun s journal
  pub order : ReceivesInOrder s journal
  pub nothing : WithholdsNothing s

run_of : (s : ScenarioLists) (past journal : List Entry) → IsWhole s journal → Extends past journal → IsOfRun s past
run_of s past journal w (added, is) =
    record {
      lawful = w.run.lawful;
      packet = w.run.packet;
      history =
          each_front (MayFollow (layout_of s)) [] past added (subst (λ (xs : List Entry). IsHistory (layout_of s) xs) is w.run.history);
    }

order_of : (s : ScenarioLists) (past journal : List Entry) → IsWhole s journal → Extends past journal → ReceivesInOrder s past
order_of s past journal w (added, is) =
    each_front (λ (before : List Entry) (x : Entry). IsReceiptInOrder s before x.event) [] past added
    (subst (λ (xs : List Entry). ReceivesInOrder s xs) is w.order)

may_of : (s : ScenarioLists) (past journal : List Entry) (x : Entry) → IsWhole s journal → Extends (past ++ x ∷ []) journal → MayFollow (layout_of s) past x
may_of s past journal x w (added, is) =
    each_at (MayFollow (layout_of s)) [] past x added (subst (λ (xs : List Entry). IsHistory (layout_of s) xs) (is
    ∙ append_assoc past (x ∷ []) added) w.run.history)

shorter : (past journal : List Entry) (x : Entry) → Extends (past ++ x ∷ []) journal → Extends past journal
shorter past journal x (added, is) = (x ∷ added, is ∙ append_assoc past (x ∷ []) added)

-- ---- turns that receive nothing

-- since a journal, nothing is on its way
record Steady (s : ScenarioLists) (from past : List Entry) : Type 0 where
  returns : ReturnsForGood past
  zone : Zone (layout_of s) from past None

steady_more : (s : ScenarioLists) (from past : List Entry) (x : Entry) → MayFollow (layout_of s) past x → is_plain x.event ≡ true → Steady s from past →
    Steady s from (past ++ x ∷ [])
steady_more s from past x may plain k =
    let nothing : receives_nothing x.event ≡ true = plain_receives x.event plain in
    record {
      returns = returns_more past x k.returns (nothing_returned x (λ (serial : Serial). receives_returns serial x.event x.outcome nothing));
      zone =
          zone_more (layout_of s) from past x None may nothing
          (λ q emits. (let both : None ≡ Some (Packets.Parcel q) = sym (plain_sends x.stamp x.event x.outcome plain) ∙ emits in absurd (cc))) tt k.zone;
    }

-- the entries of drivers
steady_ready : (s : ScenarioLists) (from past next journal : List Entry) → IsWhole s journal → Quiet past next → Steady s from past → Extends next journal →
    Steady s from next
steady_ready s from past next journal w q k =
    ready_keeps (λ (xs : List Entry). Extends xs journal → Steady s from xs)
    (λ (xs : List Entry) (x : Entry) driven before ex. steady_more s from xs x (may_of s xs journal x w ex) (driven_plain x.event driven)
    (before (shorter xs journal x ex)))
    past next q (λ ex. k)

plain_goes : (s : ScenarioLists) (past journal : List Entry) (t : Turn) → IsWhole s journal → is_plain (event_of t) ≡ true → Steady s past past →
    Extends (after_turn s past t) journal → Goes s (after_turn s past t)
plain_goes s past journal t w plain k ex =
    let g : Grows (layout_of s) past (event_of t) (after_turn s past t) = turn_grows s past t in
    let x : Entry = next_entry (layout_of s) g.ready (event_of t) in
    let there : Extends (g.ready ++ x ∷ []) journal = subst (λ (xs : List Entry). Extends xs journal) g.grows ex in
    let ready : Steady s past g.ready = steady_ready s past past g.ready journal w g.is_ready k (shorter g.ready journal x there) in
    let after : Steady s past (g.ready ++ x ∷ []) = steady_more s past g.ready x (may_of s g.ready journal x w there) plain ready in
    subst (λ (xs : List Entry). Goes s xs) (sym g.grows) (record { returns = after.returns; stage = Since past None after.zone })

-- ---- sends

parcel_in : Option Packet → Option Parcel
parcel_in None = None
parcel_in (Some (Packets.Parcel p)) = Some p
parcel_in (Some (Packets.Answer a)) = None

room_of : (layout : Layout) (past : List Entry) (o : Option Packet) → ((p : Parcel) → o ≡ Some (Packets.Parcel p) → FitsOf layout past (Some p)) →
    FitsOf layout past (parcel_in o)
unfolding parcel_in
room_of layout past None room = tt
room_of layout past (Some (Packets.Parcel p)) room = room p refl
room_of layout past (Some (Packets.Answer a)) room = tt

sends_go : (s : ScenarioLists) (past journal : List Entry) (t : Turn) → IsWhole s journal → SendsWithRoom s past t → Steady s past past →
    Extends (after_turn s past t) journal → Goes s (after_turn s past t)
unfolding parcel_in
sends_go s past journal t w k steady ex =
    let layout : Layout = layout_of s in
    let x : Entry = next_entry layout k.ready' (Events.Bind k.node k.end) in
    let there : Extends (k.ready' ++ x ∷ []) journal = subst (λ (xs : List Entry). Extends xs journal) k.made ex in
    let ready : Steady s past k.ready' = steady_ready s past past k.ready' journal w k.quiet steady (shorter k.ready' journal x there) in
    let after : Zone layout past (k.ready' ++ x ∷ []) (parcel_in (emitted_of x)) =
    zone_more layout past k.ready' x (parcel_in (emitted_of x)) (may_of s k.ready' journal x w there) refl
    (λ q emits. ap parcel_in emits) (room_of layout (k.ready' ++ x ∷ []) (emitted_of x) k.room) ready.zone in
    subst (λ (xs : List Entry). Goes s xs) (sym k.made)
    (record {
      returns = returns_more k.ready' x ready.returns (nothing_returned x (λ (serial : Serial). refl));
      stage = Since past (parcel_in (emitted_of x)) after;
    })

-- ---- receipts

receipt_goes : (s : ScenarioLists) (past journal : List Entry) (node peer : NodeId) (number : ℕ) → IsWhole s journal →
    Extends (past ++ next_entry (layout_of s) past (Events.Receive node peer number) ∷ []) journal → Goes s past →
    Goes s (past ++ next_entry (layout_of s) past (Events.Receive node peer number) ∷ [])
receipt_goes s past journal node peer number w ex k = by_stage k.stage
  where
    x : Entry
    x = next_entry (layout_of s) past (Events.Receive node peer number)

    run : IsOfRun s past
    run = run_of s past journal w (shorter past journal x ex)

    receives : zone.Receives (layout_of s) past (next_entry (layout_of s) past (Events.Receive node peer number)) node peer number
    receives = record { may = may_of s past journal x w ex; event' = refl; outcome' = refl }

    by_stage : Stage s past → Goes s (past ++ next_entry (layout_of s) past (Events.Receive node peer number) ∷ [])
    by_stage (Before low) =
        record {
          returns = returns_more past x k.returns (receives_well s past x node peer number run low receives);
          stage = Before (low_more s past x run (may_of s past journal x w ex) refl low);
        }
    by_stage (Since from o z) =
        let st = receipt_stays (layout_of s) from past x node peer number o receives z in
        record {
          returns = returns_more past x k.returns (λ serial cause is. returns_for_good (layout_of s) from past x node peer number o serial cause receives z is);
          stage = Since from st.parcel st.zone;
        }

due_goes : (s : ScenarioLists) (past journal : List Entry) (event : Event) → IsWhole s journal → IsDueReceipt s past event →
    Extends (after_event (layout_of s) event past) journal → Goes s past → Goes s (after_event (layout_of s) event past)
due_goes s past journal (Events.Receive node peer number) w due ex k = receipt_goes s past journal node peer number w ex k
due_goes s past journal event w due ex k = absurd due

-- ---- each turn

turn_goes : (s : ScenarioLists) (past journal : List Entry) (t : Turn) → IsWhole s journal → IsTurnBy s past t → Goes s past →
    Extends (after_turn s past t) journal → Goes s (after_turn s past t)
turn_goes s past journal t w rule k ex = by_rule rule
  where
    still : next_receipt s past ≡ None → IsStill s past
    still none =
        let ex' : Extends past journal = extends_on past (after_turn s past t) journal (turn_extends s past t) ex in
        record { run = run_of s past journal w ex'; order = order_of s past journal w ex'; nothing = w.nothing; none = none }

    steady : next_receipt s past ≡ None → Steady s past past
    steady none = record { returns = k.returns; zone = zone_begins s past (still none) }

    plain : next_receipt s past ≡ None → (u : Turn) → u ≡ t → is_plain (event_of u) ≡ true → Goes s (after_turn s past t)
    plain none u same is =
        plain_goes s past journal t w (ap (λ (v : Turn). is_plain (event_of v)) (sym same) ∙ is) (steady none) ex

    by_rule : IsTurnBy s past t → Goes s (after_turn s past t)
    by_rule (Receives event r same) =
        let due : IsDueReceipt s past event = is_so (IsDueReceipt s past) (next_receipt s past) event (next_receipt_so s past) r in
        subst (λ (u : Turn). Goes s (after_turn s past u)) same
        (due_goes s past journal event w due (subst (λ (u : Turn). Extends (after_turn s past u) journal) (sym same) ex) k)
    by_rule (TimesOut r o) =
        let both : None ≡ Some t = sym (none_times_out s past (still r)) ∙ o in
        absurd (cc)
    by_rule (PagesIn r o p) =
        let found = some_mapped page_in_of (find is_missed (standings (layout_of s) past)) t p in
        plain r (page_in_of found.0) found.2 refl
    by_rule (Sends r o p q) = sends_go s past journal t w (sends_with_room s past t (still r).run o q) (steady r) ex
    by_rule (Makes r o p q c) =
        let found = some_mapped make_of (fold fewer None (filter_map (left_to s past) s.threads)) t c in
        plain r (make_of found.0) found.2 refl
    by_rule (Polls r o p q c l) =
        let found = some_mapped poll_of (find is_pollable (standings (layout_of s) past)) t l in
        plain r (poll_of found.0) found.2 refl

-- ---- the phase

each_both : (A B : List Entry → Entry → Type 0) (past xs : List Entry) → EachAfter A past xs → EachAfter B past xs →
    EachAfter (λ (before : List Entry) (x : Entry). A before x × B before x) past xs
each_both A B past [] a b = tt
each_both A B past (x ∷ xs) a b = ((a.0, b.0), each_both A B (past ++ x ∷ []) xs a.1 b.1)

record Begins (s : ScenarioLists) (past : List Entry) : Type 0 where
  run : IsOfRun s past
  returns : ReturnsForGood past
  low : AreFine (MayBounce s) (layout_of s) past

phase_goes : (s : ScenarioLists) (phase : List Entry) → IsOfRun s phase → EachAfter (λ (past : List Entry) (x : Entry). is_last s past x ≡ false) [] phase →
    Goes s phase
phase_goes s phase run no_last = record { returns = all.returns; stage = Before all.low }
  where
    all : Begins s phase
    all =
        over_each (λ (past : List Entry) (x : Entry). MayFollow (layout_of s) past x × (is_last s past x ≡ false)) (λ (xs : List Entry). Begins s xs)
        (λ xs x k may.
        record {
          run = record { lawful = k.run.lawful; packet = k.run.packet; history = each_push (MayFollow (layout_of s)) [] xs x k.run.history may.0 };
          returns = returns_more xs x k.returns (before_well s xs x k.run may.0 k.low);
          low = low_more s xs x k.run may.0 may.1 k.low;
        })
        [] phase
        (record {
          run = record { lawful = run.lawful; packet = run.packet; history = tt };
          returns = λ serial. tt;
          low = opening_fine (MayBounce s) (layout_of s);
        })
        (each_both (MayFollow (layout_of s)) (λ (past : List Entry) (x : Entry). is_last s past x ≡ false) [] phase run.history no_last)

-- ---- fates

returned_first : (causes : List Cause) (unknown ran : Bool) (cause : Cause) → fate_by causes unknown ran ≡ Fates.Returned cause →
    AllAre (λ (c : Cause). is_transient c ≡ false) causes → is_transient cause ≡ false
returned_first (c ∷ causes) unknown ran cause e all =
    let same : c ≡ cause = cc in
    subst (λ (d : Cause). is_transient d ≡ false) same all.0
returned_first [] true true cause e all = absurd (cc)
returned_first [] true false cause e all = absurd (cc)
returned_first [] false true cause e all = absurd (cc)
returned_first [] false false cause e all = absurd (cc)

pub turns_return_for_good : (n : ℕ) (s : ScenarioLists) (phase journal : List Entry) → IsWhole s journal →
    EachAfter (λ (past : List Entry) (x : Entry). is_last s past x ≡ false) [] phase → after_turns n s phase ≡ Some journal → ReturnsForGood journal
turns_return_for_good n s phase journal w no_last made =
    let ends : Extends journal journal = ([], sym (append-nil journal)) in
    let goes : Extends journal journal → Goes s journal =
    over_turns n s (λ (xs : List Entry). Extends xs journal → Goes s xs)
    (λ (xs : List Entry) (t : Turn) k rule ex. turn_goes s xs journal t w rule (k (extends_on xs (after_turn s xs t) journal (turn_extends s xs t) ex)) ex)
    phase journal (λ ex. phase_goes s phase (run_of s phase journal w ex) no_last) made in
    (goes ends).returns

pub fate_for_good : (journal : List Entry) (serial : Serial) (cause : Cause) → fate journal serial ≡ Some (Fates.Returned cause) → ReturnsForGood journal →
    is_transient cause ≡ false
fate_for_good journal serial cause e all =
    returned_first (causes_of journal serial) (is_unknown journal serial) (is_run journal serial) cause
    (accepted_fate (is_accepted journal serial) (fate_of_accepted journal serial) (Fates.Returned cause) e) (all serial)

pub returns_are_for_good : ReturnsAreForGood
returns_are_for_good s journal run follows nothing serial cause e =
    let p = follows.phases in
    fate_for_good journal serial cause e
    (turns_return_for_good p.drained.0 s p.phase journal (record {
      run = run;
      order = follows.links.in_order;
      nothing = nothing;
    }) p.is_phase.no_last p.drained.1.made)

pub drained_returns_are_for_good : DrainedReturnsAreForGood
drained_returns_are_for_good s journal run drained nothing serial cause e =
    returns_are_for_good s journal run (drains_follow s [] journal run.lawful (empty_is_good_phase s) drained run.history) nothing serial cause e
