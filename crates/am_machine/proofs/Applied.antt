-- What a cluster is after an event was applied or refused.
use Rattle.std.specs.Prelude.{fold, slice_get, slice_index_or, slice_set, max, nat_le, not}
use Rattle.std.specs.List.{list_any, filter, position}
use Rattle.std.proofs.Common.{◌≡◌, ℕ, zero, suc, ◌+◌, ◌-◌, ◌<◌, ◌≤◌, Bool, true, false, cond, List, [], ◌∷◌, ◌++◌, map, length, Option, Some, None, refl, sym}
use Rattle.std.proofs.Common.{ap, ◌∙◌, subst, arith, leb-false, if◌then◌else◌}
use Rattle.std.proofs.lemmas.Bool.{and_parts}
use Rattle.std.proofs.lemmas.List.{length_push}
use Rattle.std.proofs.lemmas.Option.{slice_get-get_or}
use mathlib.Core.Bool.{or-false}
use Rattle.am_names.specs.declared.EndpointId.{EndpointId}
use Rattle.am_names.specs.Names.{same_end}
use Rattle.am_office_entries.specs.declared.Actor.{Actor}
use Rattle.am_office_entries.specs.declared.Call.{Call}
use Rattle.am_office_entries.specs.declared.Call.TheVariants as Calls
use Rattle.am_office_entries.specs.declared.Condition.{Condition}
use Rattle.am_office_entries.specs.declared.Event.{Event}
use Rattle.am_office_entries.specs.declared.Event.TheVariants as Events
use Rattle.am_office_entries.specs.declared.Outcome.TheVariants as Out
use Rattle.am_office_entries.specs.declared.Entry.{Entry}
use Rattle.am_office_entries.specs.Entries.{ends_touched, node_touched, touches}
use Rattle.am_model.specs.Allowed.{are_numbers_in_range}
use Rattle.am_model.specs.Endpoint.{State, is_on_disk}
use Rattle.am_model.specs.Calls.{outcome_of_call}
use Rattle.am_model_parts.specs.Readings.{with_entry}
use Rattle.am_model.specs.Layout.{AllAre, Layout}
use Rattle.am_model.specs.History.{MayFollow, is_in_range, is_call_in_range, is_byte, is_kind_in_range, are_credits_in_range, failing, outcome_of, state_of}
use Rattle.am_model.specs.Layout.{declared}
use Rattle.am_model.specs.Steps.{LogFull, NotEnabled, stop, stop_by, full_by, full_log, least_such, lesser, is_end_full}
use Rattle.am_model_drain.specs.Made.{later_stamp, next_entry, next_stamp}
use Rattle.am_model.specs.Choice.{first_holding}
use Rattle.am_office_entries.specs.declared.Condition.TheVariants as Needs
use Rattle.am_office_entries.specs.declared.Part.TheVariants as Parts
use Rattle.am_model.proofs.Names.{same_end-is, same_end-refl}
use Rattle.am_model.proofs.Chosen.{least_such-None}
use Rattle.am_scenario_types.specs.declared.parts.FaultLine.{FaultLine}
use Rattle.am_endpoint.specs.View.{EndpointView, state_after}
use Rattle.am_model.specs.Parts.{last_stamp, stamp_by, AreBelow}
use Rattle.am_machine.specs.declared.settings.Settings.{Settings}
use Rattle.am_machine.specs.Carries.{is_place}
use Rattle.am_driver_moves.specs.Logs.{EndLog, kept}
use Rattle.am_machine.specs.Ends.{is_of, grown, logged_at}
use Rattle.am_iface.specs.View.{InterfaceView}
use Rattle.am_swap_device.specs.Memory.{Store}
use Rattle.am_machine.specs.Interfaces.{AreInterfaces}
use Rattle.am_driver_moves.specs.Pages.{is_page}
use Rattle.am_machine.specs.Swaps.{AreSwaps}
use Rattle.am_machine.proofs.InterfaceLogs.{interfaces_moved, interfaces_same}
use Rattle.am_machine.specs.Kept.{IsKept, IsOwn, IsShort, IsTied, layout_in}
use Rattle.am_machine.specs.View.{ClusterView}
use Rattle.am_machine.proofs.Direct.{off_disk}
use Rattle.am_machine.proofs.Events.{call_enabled}
use Rattle.am_model_drain.proofs.Entries.{entry_may_follow}
use Rattle.am_machine_journal.specs.Index.View.{greatest_stamp}
use Rattle.am_machine.proofs.Holding.{swaps_same}
use Rattle.am_machine.proofs.Places.{found, place_is, place_same}
use Rattle.am_machine.proofs.Tied.{kept_at, kept_set, layout_kept, one_grown, own_at, own_state, tied_push}

-- ---- the whole cluster

-- no condition fails where nothing stops
pub enabled_of : (layout : Layout) (past : List Entry) (event : Event) → stop layout past event ≡ None → failing layout past event ≡ None
enabled_of layout past event h = by_condition (failing layout past event) h
  where
    by_condition : (f : Option Condition) → stop_by f (full_log layout past event) ≡ None → f ≡ None
    by_condition None k = refl
    by_condition (Some c) k = absurd (cc)

-- a cluster with these parts, as its callers see it
abbrev pub seen : Settings → List FaultLine → List EndLog → List Entry → ClusterView
seen s faults es journal = record { layout = layout_in s faults es; journal = journal }

pub record IsNext (s : Settings) (faults : List FaultLine) (es : List EndLog) (journal : List Entry) (event : Event) (x : Entry) (new : List EndLog)
    (grown_journal : List Entry) : Type 0 where
  pub tied : IsTied (layout_in s faults es) es journal
  pub in_range : is_in_range (layout_in s faults es) event ≡ true
  pub runs : stop (layout_in s faults es) journal event ≡ None
  pub entry : x ≡ next_entry (layout_in s faults es) journal event
  pub ends : new ≡ map (grown x) es
  pub journal' : grown_journal ≡ journal ++ x ∷ []

pub no_end_full : (layout : Layout) (past : List Entry) (event : Event) → stop layout past event ≡ None →
    least_such (is_end_full layout past) (ends_touched event (outcome_of layout past event)) ≡ None
no_end_full layout past event h = by_parts (failing layout past event) (least_such (is_end_full layout past)
    (ends_touched event (outcome_of layout past event))) h
  where
    by_parts : (f : Option Condition) (o : Option EndpointId) → stop_by f (full_by layout past o (node_touched event)) ≡ None → o ≡ None
    by_parts (Some c) o k = absurd (cc)
    by_parts None None k = refl
    by_parts None (Some e) k = absurd (cc)

-- so each is as short as it may be with the entry
grown_short : (layout : Layout) (journal : List Entry) (x : Entry) (es : List EndLog) → AllAre (IsOwn layout journal) es → AllAre IsShort es →
    ((e : EndpointId) → touches e x ≡ true → is_end_full layout journal e ≡ false) → AllAre IsShort (map (grown x) es)
grown_short layout journal x [] own short room = tt
grown_short layout journal x (e ∷ es) own short room = (by_test (touches e.settings.id x) refl, grown_short layout journal x es own.1 short.1 room)
  where
    by_test : (t : Bool) → touches e.settings.id x ≡ t → length (with_entry t x e.log) ≤ e.settings.log
    by_test true is =
        let less = leb-false layout.log (length (filter (touches e.settings.id) journal)) (room e.settings.id is) in
        let same = ap (λ (l : List Entry). length l) own.0.log in
        let longer = length_push e.log x in
        let limit = own.0.limit in
        omega (arith, less, same, longer, limit)
    by_test false is = short.0

short_next : (layout : Layout) (es : List EndLog) (journal : List Entry) (event : Event) → IsTied layout es journal → stop layout journal event ≡ None →
    AllAre IsShort (map (grown (next_entry layout journal event)) es)
short_next layout es journal event tied runs =
    grown_short layout journal (next_entry layout journal event) es tied.own tied.short
    (λ e is. least_such-None (is_end_full layout journal) (ends_touched event (outcome_of layout journal event)) e (no_end_full layout journal event runs) is)

pub tied_next : (s : Settings) (faults : List FaultLine) (es : List EndLog) (journal : List Entry) (event : Event) (x : Entry) (new : List EndLog)
    (longer : List Entry) → IsNext s faults es journal event x new longer → IsTied (layout_in s faults new) new longer
tied_next s faults es journal event x new longer n =
    let layout = layout_in s faults es in
    let y = next_entry layout journal event in
    let at_y : IsTied layout (map (grown y) es) (journal ++ y ∷ []) =
    tied_push layout es journal event n.tied n.in_range (enabled_of layout journal event n.runs) (short_next layout es journal event n.tied n.runs) in
    let at_x : IsTied layout (map (grown x) es) (journal ++ x ∷ []) =
    subst (λ (z : Entry). IsTied layout (map (grown z) es) (journal ++ z ∷ [])) (sym n.entry) at_y in
    let same : layout ≡ layout_in s faults (map (grown x) es) = sym (layout_kept s faults es x) in
    let whole : IsTied (layout_in s faults (map (grown x) es)) (map (grown x) es) (journal ++ x ∷ []) =
    subst (λ (l : Layout). IsTied l (map (grown x) es) (journal ++ x ∷ [])) same at_x in
    let ends : IsTied (layout_in s faults new) new (journal ++ x ∷ []) =
    subst (λ (ns : List EndLog). IsTied (layout_in s faults ns) ns (journal ++ x ∷ [])) (sym n.ends) whole in
    subst (λ (j : List Entry). IsTied (layout_in s faults new) new j) (sym n.journal') ends

-- where neither settings nor logs changed
pub tied_same : (s : Settings) (faults : List FaultLine) (es new : List EndLog) (journal other : List Entry) → new ≡ es → other ≡ journal →
    IsTied (layout_in s faults es) es journal → IsTied (layout_in s faults new) new other
tied_same s faults es new journal other ends same tied =
    subst (λ (ns : List EndLog). IsTied (layout_in s faults ns) ns other) (sym ends)
    (subst (λ (j : List Entry). IsTied (layout_in s faults es) es j) (sym same) tied)

-- the entry may follow
pub next_follows : (s : Settings) (faults : List FaultLine) (es : List EndLog) (journal : List Entry) (event : Event) (x : Entry) (new : List EndLog)
    (longer : List Entry) → IsNext s faults es journal event x new longer → MayFollow (layout_in s faults es) journal x
next_follows s faults es journal event x new longer n =
    let layout = layout_in s faults es in
    subst (MayFollow layout journal) (sym n.entry) (entry_may_follow layout journal event n.in_range (enabled_of layout journal event n.runs))

-- the layout that the endpoints tell after it
pub layout_next : (s : Settings) (faults : List FaultLine) (es : List EndLog) (journal : List Entry) (event : Event) (x : Entry) (new : List EndLog)
    (longer : List Entry) → IsNext s faults es journal event x new longer → layout_in s faults es ≡ layout_in s faults new
layout_next s faults es journal event x new longer n = sym (layout_kept s faults es x) ∙ ap (λ (ns : List EndLog). layout_in s faults ns) (sym n.ends)

-- the swaps, where they are those of one entry more
pub swaps_next : (s : Settings) (faults : List FaultLine) (es : List EndLog) (journal : List Entry) (event : Event) (x : Entry) (new : List EndLog)
    (longer : List Entry) (ss : List Store) → IsNext s faults es journal event x new longer → AreSwaps (layout_in s faults es) (journal ++ x ∷ []) ss →
    AreSwaps (layout_in s faults new) longer ss
swaps_next s faults es journal event x new longer ss n are =
    let same = layout_next s faults es journal event x new longer n in
    coe 0 1 (k. AreSwaps (same k) (sym n.journal' k) ss) are

-- and where the event is no page call
pub swaps_kept : (s : Settings) (faults : List FaultLine) (es : List EndLog) (journal : List Entry) (event : Event) (x : Entry) (new : List EndLog)
    (longer : List Entry) (ss : List Store) → IsNext s faults es journal event x new longer → is_page event ≡ false →
    AreSwaps (layout_in s faults es) journal ss → AreSwaps (layout_in s faults new) longer ss
swaps_kept s faults es journal event x new longer ss n unpaged are =
    let layout = layout_in s faults es in
    swaps_next s faults es journal event x new longer ss n
    (swaps_same layout journal x ss n.tied.lawful n.tied.history (next_follows s faults es journal event x new longer n)
    (ap (λ (y : Entry). is_page y.event) n.entry ∙ unpaged) are)

-- what it keeps, where the event touches no interface
pub kept_next : (s : Settings) (faults : List FaultLine) (es : List EndLog) (journal : List Entry) (event : Event) (x : Entry) (new : List EndLog)
    (longer : List Entry) (is : List InterfaceView) (ss : List Store) → IsNext s faults es journal event x new longer → node_touched event ≡ None →
    AreInterfaces (layout_in s faults es) journal is → AreSwaps (layout_in s faults es) (journal ++ x ∷ []) ss →
    IsKept (layout_in s faults new) new longer is ss
kept_next s faults es journal event x new longer is ss n alone are swaps =
    record {
      tied = tied_next s faults es journal event x new longer n;
      interfaces' =
          interfaces_moved (layout_in s faults es) (layout_in s faults new) (journal ++ x ∷ []) longer is
          (sym (layout_kept s faults es x) ∙ ap (λ (ns : List EndLog). layout_in s faults ns) (sym n.ends)) (sym n.journal')
          (interfaces_same (layout_in s faults es) journal x is (ap (λ (y : Entry). node_touched y.event) n.entry ∙ alone) are);
      swaps' = swaps_next s faults es journal event x new longer ss n swaps;
    }

-- and where it is no page call either
pub kept_unpaged : (s : Settings) (faults : List FaultLine) (es : List EndLog) (journal : List Entry) (event : Event) (x : Entry) (new : List EndLog)
    (longer : List Entry) (is : List InterfaceView) (ss : List Store) → IsNext s faults es journal event x new longer → node_touched event ≡ None →
    is_page event ≡ false → IsKept (layout_in s faults es) es journal is ss → IsKept (layout_in s faults new) new longer is ss
kept_unpaged s faults es journal event x new longer is ss n alone unpaged kept' =
    let layout = layout_in s faults es in
    kept_next s faults es journal event x new longer is ss n alone kept'.interfaces'
    (swaps_same layout journal x ss n.tied.lawful n.tied.history (next_follows s faults es journal event x new longer n)
    (ap (λ (y : Entry). is_page y.event) n.entry ∙ unpaged) kept'.swaps')

-- and where neither settings nor logs changed
pub kept_still : (s : Settings) (faults : List FaultLine) (es new : List EndLog) (journal other : List Entry) (is : List InterfaceView) (ss : List Store) →
    new ≡ es → other ≡ journal → IsKept (layout_in s faults es) es journal is ss → IsKept (layout_in s faults new) new other is ss
kept_still s faults es new journal other is ss ends same kept' =
    record {
      tied = tied_same s faults es new journal other ends same kept'.tied;
      interfaces' = interfaces_moved (layout_in s faults es) (layout_in s faults new) journal other is
          (ap (λ (ns : List EndLog). layout_in s faults ns) (sym ends)) (sym same) kept'.interfaces';
      swaps' = coe 0 1 (k. AreSwaps (ap (λ (ns : List EndLog). layout_in s faults ns) (sym ends) k) (sym same k) ss) kept'.swaps';
    }

pub seen_next : (s : Settings) (faults : List FaultLine) (es : List EndLog) (journal : List Entry) (event : Event) (x : Entry) (new : List EndLog)
    (longer : List Entry) (v : ClusterView) → seen s faults es journal ≡ v → IsNext s faults es journal event x new longer →
    (stop v.layout v.journal event ≡ None) × (x ≡ next_entry v.layout v.journal event) × (seen s faults new longer ≡ record v { journal = v.journal ++ x ∷ [] })
seen_next s faults es journal event x new longer v is n = (
  ap (λ (w : ClusterView). stop w.layout w.journal event) (sym is) ∙ n.runs,
  n.entry ∙ ap (λ (w : ClusterView). next_entry w.layout w.journal event) is,
  (λ i. record { layout = (ap (λ (ns : List EndLog). layout_in s faults ns) n.ends ∙ layout_kept s faults es x) i; journal = n.journal' i })
      ∙ ap (λ (w : ClusterView). record w { journal = w.journal ++ x ∷ [] }) is,
)

pub seen_same : (s : Settings) (faults : List FaultLine) (es new : List EndLog) (journal other : List Entry) (v : ClusterView) → new ≡ es → other ≡ journal →
    seen s faults es journal ≡ v → seen s faults new other ≡ v
seen_same s faults es new journal other v ends same is = (λ i. seen s faults (ends i) (same i)) ∙ is

-- ---- one endpoint of it

pub record IsHere (vs : List EndpointView) (e : EndpointId) (k : ℕ) (one : EndpointView) : Type 0 where
  pub at : slice_get vs k ≡ Some one
  pub id : one.settings.id ≡ e
  pub within : k < length vs

pub found_here : (vs : List EndpointView) (e : EndpointId) (k : ℕ) (one : EndpointView) → position (is_of e) vs ≡ Some k → one ≡ slice_index_or vs k one →
    IsHere vs e k one
found_here vs e k one h value =
    let f = found vs e k h in
    let got : slice_get vs k ≡ Some one = slice_get-get_or vs k one f.within ∙ ap Some (sym value) in
    let same : f.view ≡ one = (let both : Some f.view ≡ Some one = sym f.at ∙ got in cc) in
    record { at = got; id = ap (λ (v : EndpointView). v.settings.id) (sym same) ∙ f.id; within = f.within }

pub own_here : (layout : Layout) (vs : List EndpointView) (journal : List Entry) (e : EndpointId) (k : ℕ) (one : EndpointView) →
    IsTied layout (map kept vs) journal → IsHere vs e k one → IsOwn layout journal (kept one)
own_here layout vs journal e k one tied here = own_at layout (map kept vs) journal k (kept one) tied.own (kept_at vs k one here.at)

-- its state is the one that the journal gives
pub state_here : (layout : Layout) (vs : List EndpointView) (journal : List Entry) (e : EndpointId) (k : ℕ) (one : EndpointView) →
    IsTied layout (map kept vs) journal → IsHere vs e k one → state_after one ≡ state_of layout journal e
state_here layout vs journal e k one tied here =
    own_state layout journal (kept one) (own_here layout vs journal e k one tied here) ∙ ap (state_of layout journal) here.id

pub off_disk_at : (layout : Layout) (journal : List Entry) (e : EndpointId) {es : List EndLog} → layout.direct ≡ true → IsTied layout es journal →
    is_on_disk (state_of layout journal e).head.place ≡ false
off_disk_at layout journal e direct tied = off_disk layout direct journal tied.history e

pub off_disk_here : (layout : Layout) (vs : List EndpointView) (journal : List Entry) (e : EndpointId) (k : ℕ) (one : EndpointView) → layout.direct ≡ true →
    IsTied layout (map kept vs) journal → IsHere vs e k one → is_on_disk (state_after one).head.place ≡ false
off_disk_here layout vs journal e k one direct tied here =
    ap (λ (s : State). is_on_disk s.head.place) (state_here layout vs journal e k one tied here)
    ∙ off_disk layout direct journal tied.history e

-- whether its log is full is told by the log
pub full_here : (layout : Layout) (vs : List EndpointView) (journal : List Entry) (e : EndpointId) (k : ℕ) (one : EndpointView) (t : Bool) →
    IsTied layout (map kept vs) journal → IsHere vs e k one → nat_le layout.log (length one.log) ≡ t → is_end_full layout journal e ≡ t
full_here layout vs journal e k one t tied here is =
    ap (λ (d : EndpointId). nat_le layout.log (length (filter (touches d) journal))) (sym here.id)
    ∙ ap (λ (xs : List Entry). nat_le layout.log (length xs)) (sym (own_here layout vs journal e k one tied here).log)
    ∙ is

-- the place of an endpoint tells it from others
pub only_here : (layout : Layout) (vs : List EndpointView) (journal : List Entry) (e : EndpointId) (k : ℕ) (one : EndpointView) →
    IsTied layout (map kept vs) journal → IsHere vs e k one → (j : ℕ) (d : EndLog) → slice_get (map kept vs) j ≡ Some d →
    same_end d.settings.id e ≡ is_place k j
only_here layout vs journal e k one tied here j d at = by_place (is_place k j) refl
  where
    there : slice_get (map kept vs) k ≡ Some (kept one)
    there = kept_at vs k one here.at

    by_end : (b : Bool) → same_end d.settings.id e ≡ b → is_place k j ≡ false → b ≡ false
    by_end false is apart = refl
    by_end true is apart =
        let same : d.settings.id ≡ one.settings.id = same_end-is d.settings.id e is ∙ sym here.id in
        let at_k : j ≡ k = tied.apart j k d (kept one) at there same in
        let yes' : is_place k j ≡ true = subst (λ (i : ℕ). is_place i j ≡ true) at_k (place_same j) in
        absurd (cc)

    by_place : (b : Bool) → is_place k j ≡ b → same_end d.settings.id e ≡ b
    by_place true is =
        let at_k : k ≡ j = place_is k j is in
        let both : Some (kept one) ≡ Some d = sym there ∙ ap (slice_get (map kept vs)) at_k ∙ at in
        let same : kept one ≡ d = cc in
        ap (λ (f : EndLog). same_end f.settings.id e) (sym same) ∙ ap (λ (w : EndpointId). same_end w e) here.id ∙ same_end-refl e
    by_place false is = by_end (same_end d.settings.id e) refl is

-- ---- stamps

-- no entry is stamped above the greatest
below_from : (a : ℕ) (xs : List Entry) → (a ≤ fold later_stamp a xs) × AreBelow (fold later_stamp a xs + 1) xs
below_from a [] = (omega arith, tt)
below_from a (x ∷ xs) =
    let more = below_from (max a x.stamp) xs in
    let least = more.0 in
    (omega (arith, least), (omega (arith, least), more.1))

pub all_below : (journal : List Entry) → AreBelow (greatest_stamp journal + 1) journal
all_below journal = (below_from 0 journal).1

got_below : (n : ℕ) (xs : List Entry) (k : ℕ) (x : Entry) → AreBelow n xs → slice_get xs k ≡ Some x → x.stamp < n
got_below n [] k x h at = absurd (cc)
got_below n (y ∷ xs) zero x h at = let same : y ≡ x = cc in subst (λ (z : Entry). z.stamp < n) same h.0
got_below n (y ∷ xs) (suc k) x h at = got_below n xs k x h.1 at

pub last_below : (n : ℕ) (xs : List Entry) → AreBelow (n + 1) xs → last_stamp xs ≤ n
last_below n xs h = by_entry (slice_get xs (length xs - 1)) refl
  where
    by_entry : (o : Option Entry) → slice_get xs (length xs - 1) ≡ o → stamp_by o ≤ n
    by_entry None at = omega arith
    by_entry (Some x) at = let below = got_below (n + 1) xs (length xs - 1) x h at in omega (arith, below)

pub below_filter : (n : ℕ) (p : Entry → Bool) (xs : List Entry) → AreBelow n xs → AreBelow n (filter p xs)
below_filter n p [] h = tt
below_filter n p (x ∷ xs) h = by_test (p x) (below_filter n p xs h.1)
  where
    by_test : (b : Bool) → AreBelow n (filter p xs) → AreBelow n (cond b (x ∷ filter p xs) (filter p xs))
    by_test true more = (h.0, more)
    by_test false more = more

pub last_here : (layout : Layout) (vs : List EndpointView) (journal : List Entry) (e : EndpointId) (k : ℕ) (one : EndpointView) →
    IsTied layout (map kept vs) journal → IsHere vs e k one → last_stamp one.log ≤ greatest_stamp journal
last_here layout vs journal e k one tied here =
    subst (λ (xs : List Entry). last_stamp xs ≤ greatest_stamp journal) (sym (own_here layout vs journal e k one tied here).log)
    (last_below (greatest_stamp journal) (filter (touches one.settings.id) journal) (below_filter (greatest_stamp journal + 1) (touches one.settings.id) journal
    (all_below journal)))

-- ---- calls

pub numbers_in_range : (layout : Layout) (actor : Actor) (end : EndpointId) (c : Call) → is_in_range layout (Events.Call actor end c) ≡ true →
    are_numbers_in_range layout.pool c ≡ true
numbers_in_range layout actor end c h = by_call c (and_parts _ (is_call_in_range layout c) h).1
  where
    by_call : (d : Call) → is_call_in_range layout d ≡ true → are_numbers_in_range layout.pool d ≡ true
    by_call (Calls.Map index name tag credits) k = (and_parts _ (are_credits_in_range layout.pool credits) k).1
    by_call (Calls.SetHandler index kind) k = (and_parts (is_byte index) (is_kind_in_range kind) k).1
    by_call d k = refl

pub end_declared : (layout : Layout) (actor : Actor) (end : EndpointId) (c : Call) → is_in_range layout (Events.Call actor end c) ≡ true →
    declared layout end ≡ true
end_declared layout actor end c h = (and_parts _ (declared layout end) (and_parts _ (is_call_in_range layout c) h).0).1

pub call_entry : (layout : Layout) (vs : List EndpointView) (journal : List Entry) (actor : Actor) (end : EndpointId) (c : Call) (k : ℕ) (one : EndpointView)
    (x : Entry) → IsTied layout (map kept vs) journal → IsHere vs end k one → x.event ≡ Events.Call actor one.settings.id c →
    x.outcome ≡ outcome_of_call one.settings.pool one.settings.id (state_after one) c → x.stamp ≡ next_stamp journal →
    x ≡ next_entry layout journal (Events.Call actor end c)
call_entry layout vs journal actor end c k one x tied here event outcome stamp =
    let own = own_here layout vs journal end k one tied here in
    let state = state_here layout vs journal end k one tied here in
    let at : x.event ≡ Events.Call actor end c = event ∙ ap (λ (e : EndpointId). Events.Call actor e c) here.id in
    let came : x.outcome ≡ outcome_of_call layout.pool end (state_of layout journal end) c = outcome
    ∙ (λ i. outcome_of_call (own.pool i) (here.id i) (state i) c) in
    λ i. record { stamp = stamp i; event = at i; outcome = came i }

-- an entry that touches one endpoint alone stands in its log
pub single_grows : (layout : Layout) (vs : List EndpointView) (journal : List Entry) (end : EndpointId) (k : ℕ) (one : EndpointView) (x : Entry) →
    IsTied layout (map kept vs) journal → IsHere vs end k one → ends_touched x.event x.outcome ≡ end ∷ [] →
    logged_at k x (map kept vs) ≡ map (grown x) (map kept vs)
single_grows layout vs journal end k one x tied here touched =
    sym (one_grown x (map kept vs) k (λ j d at.
    ap (λ (es : List EndpointId). list_any (same_end d.settings.id) es) touched
    ∙ or-false (same_end d.settings.id end)
    ∙ only_here layout vs journal end k one tied here j d at))

-- a step that touches one endpoint alone, and no interface
pub record IsSingle (layout : Layout) (journal : List Entry) (event : Event) (end : EndpointId) : Type 0 where
  pub in_range : is_in_range layout event ≡ true
  pub enabled : failing layout journal event ≡ None
  pub touched : ends_touched event (outcome_of layout journal event) ≡ end ∷ []
  pub alone : node_touched event ≡ None

-- what stops it is its endpoint's log, where it is full
pub single_stop : (layout : Layout) (journal : List Entry) (event : Event) (end : EndpointId) (t : Bool) → IsSingle layout journal event end →
    is_end_full layout journal end ≡ t → stop layout journal event ≡ cond t (Some (LogFull (Parts.Endpoint end))) None
single_stop layout journal event end t one full =
    ap (λ (f : Option Condition). stop_by f (full_log layout journal event)) one.enabled
    ∙ (λ i. stop_by None (full_by layout journal (least_such (is_end_full layout journal) (one.touched i)) (one.alone i)))
    ∙ ap (λ (b : Bool). stop_by None (full_by layout journal (if b then Some (lesser end None) else None) None)) full
    ∙ by_test t
  where
    by_test : (b : Bool) → stop_by None (full_by layout journal (if b then Some (lesser end None) else None) None) ≡ cond b
        (Some (LogFull (Parts.Endpoint end))) None
    by_test true = refl
    by_test false = refl

-- what it makes of a cluster
pub single_next : (s : Settings) (faults : List FaultLine) (vs : List EndpointView) (journal : List Entry) (event : Event) (end : EndpointId) (k : ℕ)
    (one w : EndpointView) (x : Entry) (longer : List Entry) → IsTied (layout_in s faults (map kept vs)) (map kept vs) journal →
    IsSingle (layout_in s faults (map kept vs)) journal event end → IsHere vs end k one → nat_le s.log (length one.log) ≡ false →
    x ≡ next_entry (layout_in s faults (map kept vs)) journal event → w.settings ≡ one.settings → w.log ≡ one.log ++ x ∷ [] → longer ≡ journal ++ x ∷ [] →
    IsNext s faults (map kept vs) journal event x (map kept (slice_set vs k w)) longer
single_next s faults vs journal event end k one w x longer tied single here room is settings log more =
    let layout = layout_in s faults (map kept vs) in
    record {
      tied = tied;
      in_range = single.in_range;
      runs = single_stop layout journal event end false single (full_here layout vs journal end k one false tied here room);
      entry = is;
      ends =
          kept_set vs k one w x here.at settings log
          ∙ single_grows layout vs journal end k one x tied here (ap (λ (y : Entry). ends_touched y.event y.outcome) is ∙ single.touched);
      journal' = more;
    }

max_left : (a b : ℕ) → b ≤ a → 1 + max a b ≡ a + 1
max_left a b h = omega arith

-- the stamp that an endpoint gives, from the greatest so far
pub stamp_here : (layout : Layout) (vs : List EndpointView) (journal : List Entry) (end : EndpointId) (k : ℕ) (one : EndpointView) (floor stamp : ℕ) →
    IsTied layout (map kept vs) journal → IsHere vs end k one → floor ≡ greatest_stamp journal → stamp ≡ 1 + max floor (last_stamp one.log) →
    stamp ≡ next_stamp journal
stamp_here layout vs journal end k one floor stamp tied here at is =
    is ∙ ap (λ (n : ℕ). 1 + max n (last_stamp one.log)) at ∙ max_left (greatest_stamp journal) (last_stamp one.log)
    (last_here layout vs journal end k one tied here)

-- ---- calls and wants

pub call_single : (layout : Layout) (journal : List Entry) (actor : Actor) (end : EndpointId) (c : Call) → is_in_range layout (Events.Call actor end c) ≡ true →
    is_on_disk (state_of layout journal end).head.place ≡ false → IsSingle layout journal (Events.Call actor end c) end
call_single layout journal actor end c range off = record {
  in_range = range;
  enabled = call_enabled layout journal actor end c off;
  touched = refl;
  alone = refl;
}

pub want_single : (layout : Layout) (journal : List Entry) (actor : Actor) (end : EndpointId) → is_in_range layout (Events.Want actor end) ≡ true →
    is_on_disk (state_of layout journal end).head.place ≡ true → IsSingle layout journal (Events.Want actor end) end
want_single layout journal actor end range on =
    record { in_range = range; enabled = ap (λ (b : Bool). first_holding ((not b, Needs.NotOnDisk) ∷ [])) on; touched = refl; alone = refl }

pub call_next : (s : Settings) (faults : List FaultLine) (vs : List EndpointView) (journal : List Entry) (actor : Actor) (end : EndpointId) (c : Call) (k : ℕ)
    (one w : EndpointView) (x : Entry) (longer : List Entry) (floor : ℕ) → IsTied (layout_in s faults (map kept vs)) (map kept vs) journal →
    is_in_range (layout_in s faults (map kept vs)) (Events.Call actor end c) ≡ true → IsHere vs end k one →
    is_on_disk (state_of (layout_in s faults (map kept vs)) journal end).head.place ≡ false → nat_le s.log (length one.log) ≡ false →
    x.event ≡ Events.Call actor one.settings.id c → x.outcome ≡ outcome_of_call one.settings.pool one.settings.id (state_after one) c →
    x.stamp ≡ 1 + max floor (last_stamp one.log) → floor ≡ greatest_stamp journal → w.settings ≡ one.settings → w.log ≡ one.log ++ x ∷ [] →
    longer ≡ journal ++ x ∷ [] → IsNext s faults (map kept vs) journal (Events.Call actor end c) x (map kept (slice_set vs k w)) longer
call_next s faults vs journal actor end c k one w x longer floor tied range here off room event outcome stamp at settings log more =
    let layout = layout_in s faults (map kept vs) in
    single_next s faults vs journal (Events.Call actor end c) end k one w x longer tied (call_single layout journal actor end c range off) here room
    (call_entry layout vs journal actor end c k one x tied here event outcome (stamp_here layout vs journal end k one floor x.stamp tied here at stamp))
    settings log more

want_entry : (layout : Layout) (vs : List EndpointView) (journal : List Entry) (actor : Actor) (end : EndpointId) (k : ℕ) (one : EndpointView) (x : Entry) →
    IsHere vs end k one → x.event ≡ Events.Want actor one.settings.id → x.outcome ≡ Out.Silent → x.stamp ≡ next_stamp journal →
    x ≡ next_entry layout journal (Events.Want actor end)
want_entry layout vs journal actor end k one x here event outcome stamp =
    let at : x.event ≡ Events.Want actor end = event ∙ ap (λ (e : EndpointId). Events.Want actor e) here.id in
    λ i. record { stamp = stamp i; event = at i; outcome = outcome i }

pub want_next : (s : Settings) (faults : List FaultLine) (vs : List EndpointView) (journal : List Entry) (actor : Actor) (end : EndpointId) (k : ℕ)
    (one w : EndpointView) (x : Entry) (longer : List Entry) (floor : ℕ) → IsTied (layout_in s faults (map kept vs)) (map kept vs) journal →
    is_in_range (layout_in s faults (map kept vs)) (Events.Want actor end) ≡ true → IsHere vs end k one →
    is_on_disk (state_of (layout_in s faults (map kept vs)) journal end).head.place ≡ true → nat_le s.log (length one.log) ≡ false →
    x.event ≡ Events.Want actor one.settings.id → x.outcome ≡ Out.Silent → x.stamp ≡ 1 + max floor (last_stamp one.log) → floor ≡ greatest_stamp journal →
    w.settings ≡ one.settings → w.log ≡ one.log ++ x ∷ [] → longer ≡ journal ++ x ∷ [] →
    IsNext s faults (map kept vs) journal (Events.Want actor end) x (map kept (slice_set vs k w)) longer
want_next s faults vs journal actor end k one w x longer floor tied range here on room event outcome stamp at settings log more =
    let layout = layout_in s faults (map kept vs) in
    single_next s faults vs journal (Events.Want actor end) end k one w x longer tied (want_single layout journal actor end range on) here room
    (want_entry layout vs journal actor end k one x here event outcome (stamp_here layout vs journal end k one floor x.stamp tied here at stamp))
    settings log more

-- what keeps a call or a want from being made
pub call_refused : (layout : Layout) (journal : List Entry) (actor : Actor) (end : EndpointId) (c : Call) →
    is_on_disk (state_of layout journal end).head.place ≡ true → stop layout journal (Events.Call actor end c) ≡ Some (NotEnabled Needs.OnDisk)
call_refused layout journal actor end c on = ap (λ (b : Bool). stop_by (first_holding ((b, Needs.OnDisk) ∷ []))
    (full_log layout journal (Events.Call actor end c))) on

-- an endpoint on disk, told by the one that stands at its place
pub disk_here : (layout : Layout) (vs : List EndpointView) (journal : List Entry) (e : EndpointId) (k : ℕ) (one : EndpointView) (t : Bool) →
    IsTied layout (map kept vs) journal → IsHere vs e k one → is_on_disk (state_after one).head.place ≡ t →
    is_on_disk (state_of layout journal e).head.place ≡ t
disk_here layout vs journal e k one t tied here is = ap (λ (s : State). is_on_disk s.head.place) (sym (state_here layout vs journal e k one tied here)) ∙ is

-- the same, the other way round
pub disk_there : (layout : Layout) (vs : List EndpointView) (journal : List Entry) (e : EndpointId) (k : ℕ) (one : EndpointView) (t : Bool) →
    IsTied layout (map kept vs) journal → IsHere vs e k one → is_on_disk (state_of layout journal e).head.place ≡ t →
    is_on_disk (state_after one).head.place ≡ t
disk_there layout vs journal e k one t tied here is = ap (λ (s : State). is_on_disk s.head.place) (state_here layout vs journal e k one tied here) ∙ is

-- what is read twice is the same
pub same_here : (vs : List EndpointView) (e : EndpointId) (k : ℕ) (one two : EndpointView) → IsHere vs e k one → IsHere vs e k two → two ≡ one
same_here vs e k one two a b = let both : Some two ≡ Some one = sym b.at ∙ a.at in cc

pub carry_declared : (layout : Layout) (end : EndpointId) → is_in_range layout (Events.Carry end) ≡ true → declared layout end ≡ true
carry_declared layout end h = h

pub want_declared : (layout : Layout) (actor : Actor) (end : EndpointId) → is_in_range layout (Events.Want actor end) ≡ true → declared layout end ≡ true
want_declared layout actor end h = (and_parts _ (declared layout end) h).1
