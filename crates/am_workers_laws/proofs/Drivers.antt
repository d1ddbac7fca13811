-- A look and a move keep what a driver's worker keeps.
use Rattle.std.specs.Prelude.{nat_lt, not, slice_get}
use Rattle.std.specs.List.{filter, list_any}
use Rattle.std.proofs.Common.{◌≡◌, ◌≢◌, ◌⊎◌, ⊎_elim, ℕ, suc, ◌+◌, ◌<◌, ◌≤◌, ◌^◌, ◌==◌, max, Bool, true, false, cond, ◌||◌, ◌&&◌, List, [], ◌∷◌, ◌++◌, map}
use Rattle.std.proofs.Common.{length, Option, Some, None, refl, sym, ap, ◌∙◌, subst, arith, append_assoc, append-nil, lt-ltb, true≢false, if◌then◌else◌}
use Rattle.std.proofs.lemmas.List.{length_push}
use Rattle.std.proofs.lemmas.List.Sums.{count_by-le-length}
use mathlib.Core.Bool.{or-false}
use Rattle.std.proofs.lemmas.Bool.{and_from, not-true, or_right, cases_eq}
use Rattle.am_lemmas.proofs.Bools.{and_first, and_second}
use Rattle.am_lemmas.proofs.Options.{some_is, cond-None}
use Rattle.am_names.specs.declared.EndpointId.{EndpointId}
use Rattle.am_names.specs.declared.NodeId.{NodeId}
use Rattle.am_names.specs.Names.{same_end, same_node}
use Rattle.am_office_entries.specs.declared.Event.{Event}
use Rattle.am_office_entries.specs.declared.Event.TheVariants as Events
use Rattle.am_office_entries.specs.declared.Outcome.{Outcome}
use Rattle.am_office_entries.specs.declared.Outcome.TheVariants as Out
use Rattle.am_office_entries.specs.declared.Entry.{Entry}
use Rattle.am_office_entries.specs.Entries.{ends_touched, is_node}
use Rattle.am_endpoint_body.specs.declared.settings.EndSettings.{EndSettings}
use Rattle.am_swap_device.specs.Causes.{Device, IsAsTold, one_more}
use Rattle.am_endpoint.specs.View.{state_by}
use Rattle.am_model.specs.Parts.{last_stamp, driver_of, is_by_driver}
use Rattle.am_model.specs.Tables.{page_ended}
use Rattle.am_model.specs.Changes.{after, replay}
use Rattle.am_model.specs.Endpoint.{State, fresh, is_on_disk, is_on_host}
use Rattle.am_model.specs.History.{is_in_frame, is_in_range, is_page_call, page_calls}
use Rattle.am_model.specs.Layout.{AllAre, EndSetting, Layout, declared, has_id, opening}
use Rattle.am_model.proofs.Names.{same_end-is, same_node-refl}
use Rattle.am_model_parts.specs.Driver.{DriverLog, changes_frame, end_moved, failing_move, is_frame_held_by, lies_in, outcome_move, page_number}
use Rattle.am_model_parts.specs.Together.{faults_of}
use Rattle.am_model.proofs.PlaceKinds.{on_host_in_no_frame, framed_is_resident}
use Rattle.am_model.proofs.Alls.{all_push}
use Rattle.am_model_parts.proofs.Growing.{calls_push}
use Rattle.am_driver_moves.specs.Choice.Chosen.{Suits}
use Rattle.am_driver_moves.specs.Choice.Lists.{ViewLists}
use Rattle.am_driver_moves.specs.Choice.Moves.{has_frame, is_free, is_leaving, is_open_on_host, next_move}
use Rattle.am_driver_moves.specs.Choice.Shown.{event_of}
use Rattle.am_driver_moves.specs.declared.choice.EndView.{EndView}
use Rattle.am_driver_moves.specs.declared.choice.Move.{Move}
use Rattle.am_driver_moves.specs.declared.choice.Move.TheVariants as Moves
use Rattle.am_driver_moves.proofs.Found.{not_true}
use Rattle.am_driver_moves.specs.Logs.{EndLog}
use Rattle.am_workers_laws.specs.Phases.Frames.{LiesAsMoved}
use Rattle.am_workers_laws.specs.Phases.Then.{IsFound}
use Rattle.am_workers_laws.proofs.Frames.{frames_are_known}
use Rattle.am_places.specs.Rule.{Begins, holder_word, joined, known_at, read}
use Rattle.am_places.specs.declared.board.Known.{Known}
use Rattle.am_places.specs.declared.board.Tenure.{Tenure}
use Rattle.am_scenario_types.specs.Lists.{ScenarioLists}
use Rattle.am_driver_moves.proofs.Stores.{one_more_is}
use Rattle.am_model_scripts.specs.Layout.{layout_of}
use Rattle.am_workers_laws.specs.Invariants.Drivers.{DriversGoOn, DriversLook, DriversRest, DriversWait}
use Rattle.am_driver_moves.specs.Devices.{device_by, is_failed, outcome_by}
use Rattle.am_driver_moves.specs.Pages.{is_page}
use Rattle.am_workers_laws.specs.Invariants.Drives.{CanDrive, CanWait, frames_after, line_by, log_of, with_frames, with_line}
use Rattle.am_workers_laws.specs.Invariants.Seats.{AreBorn, EndPass, Ids, KnowsNode, Stays, seen_log}
use Rattle.am_workers_laws.specs.Invariants.Stands.{TouchOnly}
use Rattle.am_workers_laws.specs.Invariants.Works.{DriverWorks, IsMoveThenHere, ToldAs}
use Rattle.am_workers_laws.proofs.Driving.{IsFoundAt, born_at, found_of, free_at, line_at, line_there, looks_keep, moves_keep, others_still, same_event}
use Rattle.am_workers_laws.proofs.Driving.{suits_here, unframed}
use Rattle.am_workers_laws.proofs.Keeping.{joined_append, known_else, only_of, seen_here, seen_more}
use Rattle.am_workers_laws.proofs.Keeps.{all_within, begins_then, rising_push}
use Rattle.am_workers_laws.proofs.Staying.{replay_append}
use Rattle.am_workers_laws.proofs.Stands.{got_any, got_low, stands_on, stays_keep}

-- ---- what a stay at an endpoint tells

module _ (s : ScenarioLists) (ids : Ids) (made new : List Entry) (k : ℕ) (set : EndSettings) (place : ℕ) (log : List (Tenure Entry)) (v w : EndPass) where
  near : KnowsNode ids made v → Stays k set place log new v w → k < length v.known
  near h st = subst (λ (n : ℕ). k < n) (sym h.wide) (got_low ids k set.id (h.births k set st.born))

  grown : KnowsNode ids made v → Stays k set place log new v w → (j : ℕ) → Begins (seen_log j w) (seen_log j v)
  grown h st = seen_more k set place log new v w (near h st) st

  log_here : KnowsNode ids made v → Stays k set place log new v w → seen_log k w ≡ joined log ++ new
  log_here h st = seen_here k set place log new v w (near h st) st

  log_else : KnowsNode ids made v → Stays k set place log new v w → (j : ℕ) → j ≢ k → seen_log j w ≡ seen_log j v
  log_else h st j other = ap (λ (x : Known Entry). joined x.seen) (known_else k set place log new v w j other st)

-- where others added to it, it lies where it lay
lies_as : (s : ScenarioLists) (frames : ℕ) (node : NodeId) (view : ViewLists) (device : Device) (ids : Ids) (made : List Entry) (k : ℕ) (set : EndSettings)
    (log : List (Tenure Entry)) (v : EndPass) → CanDrive frames node view device v → IsFoundAt k set log v
    → LiesAsMoved made set.id (replay set.id (opening (layout_of s) set.id) (seen_log k v)) →
    LiesAsMoved made set.id (replay set.id (opening (layout_of s) set.id) (joined log))
lies_as s frames node view device ids made k set log v c f lies =
    subst (LiesAsMoved made set.id) (sym (ap (replay set.id (opening (layout_of s) set.id)) whole
    ∙ replay_append set.id (opening (layout_of s) set.id) (seen_log k v) (joined f.begins.0)))
    (frames_are_known.others made set.id (replay set.id (opening (layout_of s) set.id) (seen_log k v)) (joined f.begins.0) lies
    (others_still frames node view device v k set log c f))
  where
    whole : joined log ≡ seen_log k v ++ joined f.begins.0
    whole = ap joined f.begins.1 ∙ joined_append (known_at k v).seen f.begins.0

-- an entry that was right is right with more made
right_more : (s : ScenarioLists) (logs : EndpointId → List Entry) (made new : List Entry) (y : Entry) → IsMoveThenHere s logs made y →
    IsMoveThenHere s logs (made ++ new) y
right_more s logs made new y h =
    record {
      d = h.d;
      state = h.state;
      settings = h.settings;
      past = stands_on made new h.d.log y h.past;
      found = h.found;
      driver = h.driver;
      enabled = h.enabled;
      outcome = h.outcome;
    }

all_more : (s : ScenarioLists) (logs : EndpointId → List Entry) (made new : List Entry) (ys : List Entry) → AllAre (IsMoveThenHere s logs made) ys →
    AllAre (IsMoveThenHere s logs (made ++ new)) ys
all_more s logs made new [] h = tt
all_more s logs made new (y ∷ ys) h = (right_more s logs made new y h.0, all_more s logs made new ys h.1)

-- ---- a look

pub drivers_look : DriversLook
drivers_look s ids node turns k clock view view' device v w h l =
    record {
      made = h.made;
      born = subst (AreBorn (layout_of s)) (sym l.stays.left.1) h.born;
      knows = subst (λ (xs : List Entry). KnowsNode ids xs w) (append-nil h.made) (stays_keep ids h.made [] k l.set l.place l.log v w h.knows
          (record { all = refl; none = λ d ne. refl }) l.stays);
      clocked = h.clocked;
      few = h.few;
      own = h.own;
      ranged = h.ranged;
      right = λ logs seen. h.right logs (λ j e at. begins_then (logs e) (seen_log j w) (seen_log j v) (seen j e at)
          (grown s ids h.made [] k l.set l.place l.log v w h.knows l.stays j));
      frames = frames;
      fails = h.fails;
      calls = h.calls;
      can = looks_keep s.frames node k view view' device v w h.can l;
    }
  where
    f : IsFoundAt k l.set l.log v
    f = found_of k l.set l.place l.log [] v w l.stays

    at_place : slice_get ids k ≡ Some l.set.id
    at_place = h.knows.births k l.set l.stays.born

    here : LiesAsMoved h.made l.set.id (replay l.set.id (opening (layout_of s) l.set.id) (seen_log k w))
    here =
        subst (λ (xs : List Entry). LiesAsMoved h.made l.set.id (replay l.set.id (opening (layout_of s) l.set.id) xs))
        (sym (log_here s ids h.made [] k l.set l.place l.log v w h.knows l.stays ∙ append-nil (joined l.log)))
        (lies_as s s.frames node view device ids h.made k l.set l.log v h.can f (h.frames k l.set.id at_place))

    frames : (j : ℕ) (e : EndpointId) → slice_get ids j ≡ Some e → LiesAsMoved h.made e (replay e (opening (layout_of s) e) (seen_log j w))
    frames j e at =
        ⊎_elim
        (λ (same : j ≡ k).
        (let id : l.set.id ≡ e = some_end (sym at_place ∙ ap (slice_get ids) (sym same) ∙ at) in
        coe 0 1 (i. LiesAsMoved h.made (id i) (replay (id i) (opening (layout_of s) (id i)) (seen_log (sym same i) w))) here))
        (λ (other : j ≢ k). subst (λ (xs : List Entry). LiesAsMoved h.made e (replay e (opening (layout_of s) e) xs))
        (sym (log_else s ids h.made [] k l.set l.place l.log v w h.knows l.stays j other)) (h.frames j e at))
        (cases_eq j k)
      where
        some_end : Some l.set.id ≡ Some e → l.set.id ≡ e
        some_end g = cc

pub drivers_rest : DriversRest
drivers_rest s ids node turns clock view device v h =
    record {
      made = h.made;
      born = h.born;
      knows = h.knows;
      clocked = h.clocked;
      few = (let few = h.few in omega (arith, few));
      own = h.own;
      ranged = h.ranged;
      right = h.right;
      frames = h.frames;
      fails = h.fails;
      calls = h.calls;
      can = h.can;
    }

read_can : (frames : ℕ) (node : NodeId) (view : ViewLists) (device : Device) (word value : ℕ) (v : EndPass) → CanDrive frames node view device v →
    CanDrive frames node view device (read word value v)
read_can frames node view device word value v c =
    record {
      last = c.last;
      marked = c.marked;
      drives = c.drives;
      all = c.all;
      wide = c.wide;
      framed = c.framed;
      sized = c.sized;
      owned = c.owned;
      homes = c.homes;
      apart = c.apart;
      each = c.each;
    }

pub can_wait : CanWait
can_wait frames node k holder view device v w c busy = subst (CanDrive frames node view device) (sym busy.1)
    (read_can frames node view device (holder_word k) (holder + 1) v c)

pub drivers_wait : DriversWait
drivers_wait s ids node turns k holder clock view device v w h busy =
    subst (DriverWorks s ids node turns clock view device) (sym busy.1)
    (record {
      made = h.made;
      born = h.born;
      knows = record {
        apart = h.knows.apart;
        births = h.knows.births;
        all = h.knows.all;
        wide = h.knows.wide;
        keeps = h.knows.keeps;
        own = h.knows.own;
        here = h.knows.here;
      };
      clocked = h.clocked;
      few = h.few;
      own = h.own;
      ranged = h.ranged;
      right = h.right;
      frames = h.frames;
      fails = h.fails;
      calls = h.calls;
      can = read_can s.frames node view device (holder_word k) (holder + 1) v h.can;
    })

-- ---- an entry of a move

is_driver : (node : NodeId) (m : Move) (event : Event) → event_of node m ≡ Some event → driver_of event ≡ Some node
is_driver node (Moves.Unload e) event h = ap driver_of (sym (same_event (Events.Unload node e) event h))
is_driver node (Moves.PageIn e) event h = ap driver_of (sym (same_event (Events.PageIn node e) event h))
is_driver node (Moves.Load e frame) event h = ap driver_of (sym (same_event (Events.Load node e frame) event h))
is_driver node (Moves.Drain e) event h = ap driver_of (sym (same_event (Events.Drain node e) event h))
is_driver node (Moves.PageOut e) event h = ap driver_of (sym (same_event (Events.PageOut node e) event h))
is_driver node Moves.Nothing event h = absurd (cc)

touched_by : (d e : EndpointId) (event : Event) (o : Outcome) → end_moved event ≡ Some e → list_any (same_end d) (ends_touched event o) ≡ same_end d e
touched_by d e (Events.Drain node end) o h = or-false (same_end d end) ∙ ap (same_end d) (some_is end e h)
touched_by d e (Events.Unload node end) o h = or-false (same_end d end) ∙ ap (same_end d) (some_is end e h)
touched_by d e (Events.Load node end frame) o h = or-false (same_end d end) ∙ ap (same_end d) (some_is end e h)
touched_by d e (Events.PageOut node end) o h = or-false (same_end d end) ∙ ap (same_end d) (some_is end e h)
touched_by d e (Events.PageIn node end) o h = or-false (same_end d end) ∙ ap (same_end d) (some_is end e h)
touched_by d e event o h = absurd (cc)

-- it changes the frame of no other endpoint
frame_kept : (d e : EndpointId) (event : Event) → end_moved event ≡ Some e → same_end d e ≡ false → changes_frame d event ≡ false
frame_kept d e (Events.Load node end frame) h other = ap (same_end d) (some_is end e h) ∙ other
frame_kept d e (Events.Unload node end) h other = ap (same_end d) (some_is end e h) ∙ other
frame_kept d e event h other = refl

-- ---- the disk

device_fails : (failed : Bool) (d : Device) (e : EndLog) (event : Event) → (device_by failed d e event).fails ≡ d.fails
device_fails failed d e (Events.PageOut node end) = refl
device_fails failed d e (Events.PageIn node end) = refl
device_fails failed d e event = refl

told_still : (d t : Device) (numbers : List ℕ) → t.fails ≡ d.fails → ToldAs d.fails numbers → ToldAs t.fails numbers
told_still d t numbers same told = subst (λ (fails : Option (List ℕ)). ToldAs fails numbers) (sym same) told

no_more : (n : ℕ) → n + 0 ≡ n
no_more n = omega arith

device_calls : (node : NodeId) (made : List Entry) (x : Entry) (failed : Bool) (d : Device) (e : EndLog) (m : Move) (event : Event) → x.event ≡ event →
    event_of node m ≡ Some event → d.calls ≡ page_calls node made → page_calls node made + 1 < 2 ^ 64 →
    (device_by failed d e event).calls ≡ page_calls node (made ++ x ∷ [])
device_calls node made x failed d e m event is of calls few = by_event event is (is_driver node m event of)
  where
    more : one_more d.calls ≡ page_calls node made + 1
    more = one_more_is d.calls (omega (arith, calls, few)) ∙ ap (λ (n : ℕ). n + 1) calls

    same : (event : Event) → x.event ≡ event → is_page_call node event ≡ false → d.calls ≡ page_calls node (made ++ x ∷ [])
    same event is none = calls ∙ sym (calls_push node made x false (ap (is_page_call node) is ∙ none) ∙ no_more (page_calls node made))

    some_node : (a : NodeId) → Some a ≡ Some node → a ≡ node
    some_node a h = cc

    by_event : (event : Event) → x.event ≡ event → driver_of event ≡ Some node → (device_by failed d e event).calls ≡ page_calls node (made ++ x ∷ [])
    by_event (Events.PageOut at end) is by =
        more ∙ sym (calls_push node made x true (ap (is_page_call node) is ∙ ap (same_node node) (some_node at by) ∙ same_node-refl node))
    by_event (Events.PageIn at end) is by =
        more ∙ sym (calls_push node made x true (ap (is_page_call node) is ∙ ap (same_node node) (some_node at by) ∙ same_node-refl node))
    by_event (Events.Drain at end) is by = same (Events.Drain at end) is refl
    by_event (Events.Unload at end) is by = same (Events.Unload at end) is refl
    by_event (Events.Load at end frame) is by = same (Events.Load at end frame) is refl
    by_event event is by = absurd (cc)

-- a call fails just where its number is among those of the layout
failed_as : (fails : Option (List ℕ)) (numbers : List ℕ) (calls number : ℕ) (failed : Bool) → ToldAs fails numbers → one_more calls ≡ number →
    IsAsTold failed fails calls → failed ≡ list_any (λ (n : ℕ). n == number) numbers
failed_as None numbers calls number failed told is fits = absurd told
failed_as (Some fails) numbers calls number failed told is fits = fits ∙ λ i. list_any (λ (n : ℕ). n == is i) (told i)

-- what comes of it
outcome_is : (d : DriverLog) (failed : Bool) (event : Event) →
    (is_page event ≡ true → failed ≡ list_any (λ (n : ℕ). n == page_number d) d.settings.faults) → outcome_by failed event ≡ outcome_move d event
outcome_is d failed (Events.PageOut node end) fits = ap page_ended (fits refl)
outcome_is d failed (Events.PageIn node end) fits = ap page_ended (fits refl)
outcome_is d failed event fits = refl

-- ---- it is enabled

enabled : (view : ViewLists) (node : NodeId) (d : DriverLog) (set : EndSettings) (log : List Entry) (m : Move) (event : Event) →
    Suits view m (line_by set log) → event_of node m ≡ Some event → list_any (same_end set.id) d.settings.ends ≡ true
    → ((e : EndpointId) (frame : ℕ) → m ≡ Moves.Load e frame → is_frame_held_by d frame ≡ false) → failing_move d (state_by set log) event ≡ None
enabled view node d set log (Moves.Unload e) event suits is ours free =
    let l = line_by set log in
    let leaving = and_first (is_leaving l) (l.in_flight == 0) suits.1 in
    let mine : list_any (same_end e) d.settings.ends ≡ true = subst (λ (i : EndpointId). list_any (same_end i) d.settings.ends ≡ true) suits.0 ours in
    subst (λ (v : Event). failing_move d (state_by set log) v ≡ None) (same_event (Events.Unload node e) event is)
    (cond-None _ _ _ (not_true _ mine)
    (cond-None _ _ _ (not_true _ (framed_is_resident l.place (and_first (has_frame l) l.draining leaving)))
    (cond-None _ _ _ (not_true _ (and_second (has_frame l) l.draining leaving))
    (cond-None _ _ _ (not_true _ (and_second (is_leaving l) (l.in_flight == 0) suits.1)) refl))))
enabled view node d set log (Moves.PageIn e) event suits is ours free =
    let l = line_by set log in
    let mine : list_any (same_end e) d.settings.ends ≡ true = subst (λ (i : EndpointId). list_any (same_end i) d.settings.ends ≡ true) suits.0 ours in
    subst (λ (v : Event). failing_move d (state_by set log) v ≡ None) (same_event (Events.PageIn node e) event is)
    (cond-None _ _ _ (not_true _ mine) (cond-None _ _ _ (not_true _ (and_first (is_on_disk l.place) l.wanted suits.1)) refl))
enabled view node d set log (Moves.Load e frame) event suits is ours free =
    let l = line_by set log in
    let on_host = and_first (is_open_on_host l) l.wanted suits.1 in
    let mine : list_any (same_end e) d.settings.ends ≡ true = subst (λ (i : EndpointId). list_any (same_end i) d.settings.ends ≡ true) suits.0 ours in
    subst (λ (v : Event). failing_move d (state_by set log) v ≡ None) (same_event (Events.Load node e frame) event is)
    (cond-None _ _ _ (not_true _ mine)
    (cond-None _ _ _ (not_true _ (and_first (is_on_host l.place) (not l.closed) on_host))
    (cond-None _ _ _ (not-true l.closed (and_second (is_on_host l.place) (not l.closed) on_host))
    (cond-None _ _ _ (free e frame refl) refl))))
enabled view node d set log (Moves.Drain e) event suits is ours free =
    let l = line_by set log in
    let mine : list_any (same_end e) d.settings.ends ≡ true = subst (λ (i : EndpointId). list_any (same_end i) d.settings.ends ≡ true) suits.0 ours in
    subst (λ (v : Event). failing_move d (state_by set log) v ≡ None) (same_event (Events.Drain node e) event is)
    (cond-None _ _ _ (not_true _ mine)
    (cond-None _ _ _ (not_true _ (framed_is_resident l.place suits.1))
    (cond-None _ _ _ suits.2 refl)))
enabled view node d set log (Moves.PageOut e) event suits is ours free =
    let l = line_by set log in
    let on_host = and_first (is_open_on_host l) (not l.wanted) suits.1 in
    let mine : list_any (same_end e) d.settings.ends ≡ true = subst (λ (i : EndpointId). list_any (same_end i) d.settings.ends ≡ true) suits.0 ours in
    subst (λ (v : Event). failing_move d (state_by set log) v ≡ None) (same_event (Events.PageOut node e) event is)
    (cond-None _ _ _ (not_true _ mine)
    (cond-None _ _ _ (not_true _ (and_first (is_on_host l.place) (not l.closed) on_host))
    (cond-None _ _ _ (not-true l.closed (and_second (is_on_host l.place) (not l.closed) on_host)) refl)))
enabled view node d set log Moves.Nothing event suits is ours free = absurd suits

none_of : (p : EndpointId → Bool) (ids : Ids) → ((j : ℕ) (e : EndpointId) → slice_get ids j ≡ Some e → p e ≡ false) → list_any p ids ≡ false
none_of p [] h = refl
none_of p (e ∷ es) h = ap (λ (b : Bool). b || list_any p es) (h 0 e refl) ∙ none_of p es (λ j d at. h (suc j) d at)

-- the endpoints of a node are declared
declared_there : (node : NodeId) (ss : List EndSetting) (e : EndpointId) →
    list_any (same_end e) (map (λ (t : EndSetting). t.id) (filter (λ (t : EndSetting). same_node node t.node) ss)) ≡ true → list_any (has_id e) ss ≡ true
declared_there node [] e h = absurd (true≢false (sym h))
declared_there node (t ∷ ts) e h = by_test (same_node node t.node) h (declared_there node ts e)
  where
    ids_of : List EndSetting → List EndpointId
    ids_of xs = map (λ (u : EndSetting). u.id) xs

    or_cases : (a b c : Bool) → (a || b) ≡ true → (b ≡ true → c ≡ true) → (a || c) ≡ true
    or_cases true b c g more = refl
    or_cases false b c g more = more g

    by_test : (b : Bool) → list_any (same_end e) (map (λ (u : EndSetting). u.id) (cond b (t ∷ filter (λ (u : EndSetting). same_node node u.node) ts)
        (filter (λ (u : EndSetting). same_node node u.node) ts))) ≡ true
        → (list_any (same_end e) (map (λ (u : EndSetting). u.id) (filter (λ (u : EndSetting). same_node node u.node) ts)) ≡ true →
        list_any (has_id e) ts ≡ true) → (same_end e t.id || list_any (has_id e) ts) ≡ true
    by_test true g more = or_cases (same_end e t.id) (list_any (same_end e) (map (λ (u : EndSetting). u.id)
        (filter (λ (u : EndSetting). same_node node u.node) ts))) (list_any (has_id e) ts) g more
    by_test false g more = or_right (same_end e t.id) (list_any (has_id e) ts) (more g)

in_range : (layout : Layout) (node : NodeId) (view : ViewLists) (m : Move) (event : Event) (line : EndView) → Suits view m line → event_of node m ≡ Some event →
    declared layout line.id ≡ true → node.0 < layout.nodes → view.frames ≡ layout.frames → is_in_range layout event ≡ true
in_range layout node view (Moves.Unload e) event line suits is there low frames =
    subst (λ (v : Event). is_in_range layout v ≡ true) (same_event (Events.Unload node e) event is)
    (and_from (declared layout e) (nat_lt node.0 layout.nodes) (ap (declared layout) (sym suits.0) ∙ there) (lt-ltb _ _ low))
in_range layout node view (Moves.PageIn e) event line suits is there low frames =
    subst (λ (v : Event). is_in_range layout v ≡ true) (same_event (Events.PageIn node e) event is)
    (and_from (declared layout e) (nat_lt node.0 layout.nodes) (ap (declared layout) (sym suits.0) ∙ there) (lt-ltb _ _ low))
in_range layout node view (Moves.Load e frame) event line suits is there low frames =
    let less : frame < layout.frames = (let below = suits.3 in omega (arith, below, frames)) in
    subst (λ (v : Event). is_in_range layout v ≡ true) (same_event (Events.Load node e frame) event is)
    (and_from (declared layout e && nat_lt node.0 layout.nodes) (nat_lt frame layout.frames)
    (and_from (declared layout e) (nat_lt node.0 layout.nodes) (ap (declared layout) (sym suits.0) ∙ there) (lt-ltb _ _ low)) (lt-ltb _ _ less))
in_range layout node view (Moves.Drain e) event line suits is there low frames =
    subst (λ (v : Event). is_in_range layout v ≡ true) (same_event (Events.Drain node e) event is)
    (and_from (declared layout e) (nat_lt node.0 layout.nodes) (ap (declared layout) (sym suits.0) ∙ there) (lt-ltb _ _ low))
in_range layout node view (Moves.PageOut e) event line suits is there low frames =
    subst (λ (v : Event). is_in_range layout v ≡ true) (same_event (Events.PageOut node e) event is)
    (and_from (declared layout e) (nat_lt node.0 layout.nodes) (ap (declared layout) (sym suits.0) ∙ there) (lt-ltb _ _ low))
in_range layout node view Moves.Nothing event line suits is there low frames = absurd suits

-- ---- a move

-- the endpoint that is loaded is on the host
loads_from_host : (view : ViewLists) (m : Move) (line : EndView) (e : EndpointId) (frame : ℕ) → m ≡ Moves.Load e frame → Suits view m line →
    (is_on_host line.place ≡ true) × (is_free view.ends frame ≡ true)
loads_from_host view m line e frame is suits =
    let at : Suits view (Moves.Load e frame) line = subst (λ (n : Move). Suits view n line) is suits in
    (and_first (is_on_host line.place) (not line.closed) (and_first (is_open_on_host line) line.wanted at.1), at.2)

clocks : (a b top stamp : ℕ) → stamp ≡ 1 + max a b → max a b < top → (a < stamp) × (stamp ≤ top)
clocks a b top stamp is low = (omega arith, omega arith)

pub drivers_go_on : DriversGoOn
drivers_go_on s ids node turns k clock view view' device device' v w x d h m =
    record {
      made = h.made ++ x ∷ [];
      born = subst (AreBorn (layout_of s)) (sym m.stays.left.1) h.born;
      knows = stays_keep ids h.made (x ∷ []) k m.set m.place m.log framed w knows_framed only m.stays;
      clocked =
          record {
            rising = rising_push clock h.made x h.clocked.rising h.clocked.below times.0;
            below = all_push (λ (y : Entry). y.stamp ≤ x.stamp) h.made x (all_within clock x.stamp h.made (let less = times.0 in
                omega (arith, less)) h.clocked.below) (omega arith);
            low = all_push (λ (y : Entry). y.stamp ≤ 2 ^ 63) h.made x h.clocked.low times.1;
          };
      few = (let few = h.few in let longer = length_push h.made x in omega (arith, few, longer));
      own = all_push (λ (y : Entry). is_by_driver node y ≡ true) h.made x h.own (ap (λ (o : Option NodeId). is_node node o) by ∙ same_node-refl node);
      ranged = all_push (λ (y : Entry). is_in_range (layout_of s) y.event ≡ true) h.made x h.ranged ranged;
      right =
          λ logs seen.
          all_push (IsMoveThenHere s logs (h.made ++ x ∷ [])) h.made x
          (all_more s logs h.made (x ∷ []) h.made (h.right logs (λ j e at. begins_then (logs e) (seen_log j w) (seen_log j v) (seen j e at)
          (grown s ids h.made (x ∷ []) k m.set m.place m.log framed w knows_framed m.stays j))))
          (right_now logs (seen k m.set.id at_place));
      frames = frames;
      fails =
          told_still device device' (faults_of (layout_of s) node)
          (ap (λ (t : Device). t.fails) m.answered.device ∙ device_fails (is_failed x.outcome) device (log_of m.set m.log) x.event) h.fails;
      calls = ap (λ (t : Device). t.calls) m.answered.device
          ∙ device_calls node h.made x (is_failed x.outcome) device (log_of m.set m.log) (next_move view) x.event refl m.event h.calls few_calls;
      can = moves_keep s.frames node k clock view view' device device' v w x h.can m;
    }
  where
    layout : Layout
    layout = layout_of s

    state : State
    state = state_by m.set (joined m.log)

    shown : ViewLists
    shown = with_line k (line_by m.set (joined m.log)) view

    framed : EndPass
    framed = with_frames (frames_after k x.event (state_by m.set (joined m.log)).head.place v.frames) v

    knows_framed : KnowsNode ids h.made framed
    knows_framed = record {
      apart = h.knows.apart;
      births = h.knows.births;
      all = h.knows.all;
      wide = h.knows.wide;
      keeps = h.knows.keeps;
      own = h.knows.own;
      here = h.knows.here;
    }

    f : IsFoundAt k m.set m.log v
    f = unframed (frames_after k x.event (state_by m.set (joined m.log)).head.place v.frames) k m.set m.log v
        (found_of k m.set m.place m.log (x ∷ []) framed w m.stays)

    at_place : slice_get ids k ≡ Some m.set.id
    at_place = h.knows.births k m.set m.stays.born

    times : (clock < x.stamp) × (x.stamp ≤ 2 ^ 63)
    times = clocks clock (last_stamp (joined m.log)) (2 ^ 63) x.stamp m.stamped m.low

    by : driver_of x.event ≡ Some node
    by = is_driver node (next_move view) x.event m.event

    only : TouchOnly m.set.id (x ∷ [])
    only = only_of m.set.id (x ∷ []) ((λ e. touched_by e m.set.id x.event x.outcome m.end), tt)

    event : event_of node (next_move shown) ≡ Some x.event
    event = ap (event_of node) m.still ∙ m.event

    suits : Suits shown (next_move shown) (line_by m.set (joined m.log))
    suits = suits_here s.frames node view device v k m.set (joined m.log) x.event h.can m.stays.born event m.end

    few_calls : page_calls node h.made + 1 < 2 ^ 64
    few_calls = let few = h.few in let some_turns = d.few in let fewer = count_by-le-length (λ (y : Entry). is_page_call node y.event) h.made in
        omega (arith, few, some_turns, fewer)

    in_ends : list_any (same_end m.set.id) ids ≡ true
    in_ends = got_any ids k m.set.id at_place

    ranged : is_in_range (layout_of s) x.event ≡ true
    ranged =
        in_range (layout_of s) node shown (next_move shown) x.event (line_by m.set (joined m.log)) suits event
        (declared_there node (layout_of s).ends m.set.id (subst (λ (es : Ids). list_any (same_end m.set.id) es ≡ true) d.ends in_ends)) d.declared h.can.framed

    -- the state, as the layout opens the endpoint
    opens : fresh m.set.tag m.set.place ≡ opening (layout_of s) m.set.id
    opens = (h.born k m.set m.stays.born).opens

    log : DriverLog
    log = record { settings = record { node = node; ends = ids; faults = faults_of (layout_of s) node }; log = h.made }

    lies : LiesAsMoved h.made m.set.id (replay m.set.id (opening (layout_of s) m.set.id) (joined m.log))
    lies = lies_as s s.frames node view device ids h.made k m.set m.log v h.can f (h.frames k m.set.id at_place)

    none_held : (e : EndpointId) (frame : ℕ) → next_move shown ≡ Moves.Load e frame → is_frame_held_by log frame ≡ false
    none_held e frame is = none_of (lies_in h.made frame) ids each
      where
        from : (is_on_host (line_by m.set (joined m.log)).place ≡ true) × (is_free shown.ends frame ≡ true)
        from = loads_from_host shown (next_move shown) (line_by m.set (joined m.log)) e frame is suits

        here : lies_in h.made frame m.set.id ≡ false
        here = sym (lies frame) ∙ ap (λ (o : State). is_in_frame frame (replay m.set.id o (joined m.log)).head.place) (sym opens)
            ∙ on_host_in_no_frame frame (state_by m.set (joined m.log)).head.place from.0

        each : (j : ℕ) (g : EndpointId) → slice_get ids j ≡ Some g → lies_in h.made frame g ≡ false
        each j g at =
            ⊎_elim
            (λ (same : j ≡ k). subst (λ (i : EndpointId). lies_in h.made frame i ≡ false) (some_is m.set.id g (sym at_place ∙ ap (slice_get ids) (sym same)
            ∙ at)) here)
            (λ (other : j ≢ k).
            (let low : j < length v.births = (let less = got_low ids j g at in omega (arith, less, h.knows.all)) in
            let b = born_at v.births j low in
            let had = line_at view.ends j (omega (arith, low, h.can.all)) in
            let p = h.can.each j b.set had.0 b.at had.1 in
            let id : b.set.id ≡ g = some_is b.set.id g (sym (h.knows.births j b.set b.at) ∙ at) in
            let free : is_in_frame frame had.0.place ≡ false =
            free_at shown.ends j frame had.0 from.1 (line_there view.ends k j (line_by m.set (joined m.log)) other ∙ had.1) in
            let seen : is_in_frame frame (replay b.set.id (opening (layout_of s) b.set.id) (seen_log j v)).head.place ≡ false =
            ap (λ (o : State). is_in_frame frame (replay b.set.id o (seen_log j v)).head.place) (sym (h.born j b.set b.at).opens)
            ∙ ap (λ (l : EndView). is_in_frame frame l.place) (sym p.shows) ∙ free in
            sym (h.frames j g at frame) ∙ ap (λ (i : EndpointId). is_in_frame frame (replay i (opening (layout_of s) i) (seen_log j v)).head.place) (sym id)
            ∙ seen))
            (cases_eq j k)

    may_now : failing_move log state x.event ≡ None
    may_now = enabled shown node log m.set (joined m.log) (next_move shown) x.event suits event in_ends none_held

    outcome : x.outcome ≡ outcome_move log x.event
    outcome =
        m.answered.outcome
        ∙ outcome_is log (is_failed x.outcome) x.event
        (λ paged. failed_as device.fails (faults_of (layout_of s) node) device.calls (page_number log) (is_failed x.outcome) h.fails
        (one_more_is device.calls (omega (arith, h.calls, few_calls)) ∙ ap (λ (n : ℕ). n + 1) h.calls) (m.answered.told paged))

    log_now : seen_log k w ≡ joined m.log ++ x ∷ []
    log_now = log_here s ids h.made (x ∷ []) k m.set m.place m.log framed w knows_framed m.stays

    right_now : (logs : EndpointId → List Entry) → Begins (logs m.set.id) (seen_log k w) → IsMoveThenHere s logs (h.made ++ x ∷ []) x
    right_now logs b =
        record {
          d = log;
          state = state;
          settings = record { packet = d.packet; once = d.once; ends = d.ends; faults = refl };
          past = ([], refl);
          found =
              subst (λ (o : Option EndpointId). IsFound (layout_of s) logs x state o) (sym m.end) (
                joined m.log,
                (b.0, b.1 ∙ ap (λ (xs : List Entry). xs ++ b.0) log_now ∙ append_assoc (joined m.log) (x ∷ []) b.0),
                ap (λ (o : State). replay m.set.id o (joined m.log)) opens,
              );
          driver = by;
          enabled = may_now;
          outcome = outcome;
        }

    state_now : LiesAsMoved (h.made ++ x ∷ []) m.set.id (after m.set.id state x)
    state_now = frames_are_known.own log m.set.id state x (subst (λ (o : State). LiesAsMoved h.made m.set.id (replay m.set.id o (joined m.log))) (sym opens)
        lies) m.end may_now

    frames : (j : ℕ) (e : EndpointId) → slice_get ids j ≡ Some e → LiesAsMoved (h.made ++ x ∷ []) e (replay e (opening (layout_of s) e) (seen_log j w))
    frames j e at =
        ⊎_elim
        (λ (same : j ≡ k).
        (let id : m.set.id ≡ e = some_is m.set.id e (sym at_place ∙ ap (slice_get ids) (sym same) ∙ at) in
        let here : LiesAsMoved (h.made ++ x ∷ []) m.set.id (replay m.set.id (opening (layout_of s) m.set.id) (seen_log k w)) =
        subst (λ (t : State). LiesAsMoved (h.made ++ x ∷ []) m.set.id t)
        (sym (ap (replay m.set.id (opening (layout_of s) m.set.id)) log_now ∙ replay_append m.set.id (opening (layout_of s) m.set.id) (joined m.log) (x ∷ [])
        ∙ ap (λ (o : State). after m.set.id (replay m.set.id o (joined m.log)) x) (sym opens))) state_now in
        coe 0 1 (i. LiesAsMoved (h.made ++ x ∷ []) (id i) (replay (id i) (opening (layout_of s) (id i)) (seen_log (sym same i) w))) here))
        (λ (other : j ≢ k).
        subst (λ (xs : List Entry). LiesAsMoved (h.made ++ x ∷ []) e (replay e (opening (layout_of s) e) xs))
        (sym (log_else s ids h.made (x ∷ []) k m.set m.place m.log framed w knows_framed m.stays j other))
        (frames_are_known.elsewhere h.made e (replay e (opening (layout_of s) e) (seen_log j v)) x (h.frames j e at)
        (frame_kept e m.set.id x.event m.end (other_end other (same_end e m.set.id) refl))))
        (cases_eq j k)
      where
        other_end : j ≢ k → (b : Bool) → same_end e m.set.id ≡ b → b ≡ false
        other_end apart false is = refl
        other_end apart true is = absurd (apart (h.knows.apart j k e at (at_place ∙ ap (λ (i : EndpointId). Some i) (sym (same_end-is e m.set.id is)))))
