-- A work of an interface, in the whole cluster.
use Rattle.std.specs.Prelude.{slice_index_or, Result, Ok, Err, option_to_list, slice_get, slice_set, nat_le}
use Rattle.std.specs.List.{filter, list_any}
use Rattle.std.proofs.Common.{◌≡◌, ◌≢◌, ℕ, zero, suc, ◌<◌, Bool, true, false, cond, List, [], ◌∷◌, ◌++◌, map, length, Option, Some, None, refl, sym, ap, ◌∙◌}
use Rattle.std.proofs.Common.{subst, arith, if◌then◌else◌}
use Rattle.std.proofs.lemmas.Bool.{le-leb, leb-true, leb-false}
use Rattle.std.proofs.lemmas.Option.{slice_get-get_or}
use Rattle.am_names.specs.declared.EndpointId.{EndpointId}
use Rattle.am_names.specs.declared.NodeId.{NodeId}
use Rattle.am_names.specs.Names.{same_end}
use Rattle.am_office_entries.specs.declared.Condition.{Condition}
use Rattle.am_office_entries.specs.declared.Event.{Event}
use Rattle.am_office_entries.specs.declared.Entry.{Entry}
use Rattle.am_office_entries.specs.declared.Part.{Part}
use Rattle.am_office_entries.specs.declared.Part.TheVariants as Parts
use Rattle.am_office_entries.specs.Entries.{ends_touched, node_touched, touches_node}
use Rattle.am_names.specs.declared.Packet.TheVariants as Packets
use Rattle.am_model.specs.Endpoint.{State}
use Rattle.am_model.specs.Layout.{Layout}
use Rattle.am_model.specs.History.{failing, is_in_range, outcome_of}
use Rattle.am_model.specs.Steps.{LogFull, NotEnabled, full_by, full_log, is_end_full, is_node_full, least_such, stop, stop_by}
use Rattle.am_model_drain.specs.Made.{next_entry, next_stamp}
use Rattle.am_model_parts.specs.declared.work.Work.{Work}
use Rattle.am_model_parts.specs.declared.work.Work.TheVariants as Works
use Rattle.am_model_parts.specs.Interface.{event_of, failing_at, needs, outcome_at}
use Rattle.am_model_parts.specs.Together.{IsPacketOf, IsPart, IsState, SaysTheSame}
use Rattle.am_model_parts.proofs.Outcomes.{work_local}
use Rattle.am_model_parts.proofs.Touched.{needs_touched}
use Rattle.am_model.specs.declared.EntryFault.{EntryFault}
use Rattle.am_model.specs.declared.EntryFault.TheVariants as Faults
use Rattle.am_scenario_types.specs.declared.parts.FaultLine.{FaultLine}
use Rattle.am_endpoint.specs.View.{EndpointView}
use Rattle.am_iface.specs.View.{InterfaceView, own}
use Rattle.am_iface.specs.Turns.{HasRoom, IsFull}
use Rattle.am_machine.specs.declared.settings.Settings.{Settings}
use Rattle.am_driver_moves.specs.Logs.{EndLog, kept}
use Rattle.am_machine.specs.Interfaces.{AreInterfaces, IsInterface}
use Rattle.am_machine.specs.Kept.{IsKept, layout_in}
use Rattle.am_machine.specs.Turned.{IsTaken, IsTurned, TurnsAlone, entries_after, entry_of_work}
use Rattle.am_machine.specs.View.{Applies, ClusterView}
use Rattle.am_machine.proofs.Applied.{IsNext, kept_still, seen, seen_next, tied_next, swaps_kept}
use Rattle.am_machine.proofs.InterfaceLogs.{interfaces_more, interfaces_moved}
use Rattle.am_swap_device.specs.Memory.{Store}
use Rattle.am_driver_moves.specs.Pages.{is_page}
use Rattle.am_machine.proofs.Tied.{layout_kept, none_grown}

-- a work of the node's interface, where what it reads beside its log is the journal's
pub record Joint : Type 0 where
  pub settings : Settings
  pub faults : List FaultLine
  pub ends : List EndpointView
  pub journal : List Entry
  pub interfaces : List InterfaceView
  pub swaps : List Store
  pub node : NodeId
  pub one : InterfaceView
  pub state : State
  pub work : Work
  pub kept' : IsKept (layout_in settings faults (map kept ends)) (map kept ends) journal interfaces swaps
  pub packet : (layout_in settings faults (map kept ends)).direct ≡ false
  pub in_range : is_in_range (layout_in settings faults (map kept ends)) (event_of node work) ≡ true
  pub at : slice_get interfaces node.0 ≡ Some one
  pub taken : IsTaken journal node work
  pub reads : IsState (layout_in settings faults (map kept ends)) journal state (needs (own one) work)

-- what stands at a place, read twice
pub read_twice : {X : Type 0} (xs : List X) (k : ℕ) (x y : X) → k < length xs → x ≡ slice_index_or xs k x → y ≡ slice_index_or xs k y → y ≡ x
read_twice xs k x y lt a b = let both : Some (slice_index_or xs k y) ≡ Some (slice_index_or xs k x) = sym (slice_get-get_or xs k y lt)
    ∙ slice_get-get_or xs k x lt in let same : slice_index_or xs k y ≡ slice_index_or xs k x = cc in b ∙ same ∙ sym a

-- there is an interface for each node
pub interface_there : (layout : Layout) (journal : List Entry) (is : List InterfaceView) (node : NodeId) → AreInterfaces layout journal is →
    layout.direct ≡ false → node.0 < layout.nodes → node.0 < length is
interface_there layout journal is node are packet lt =
    let all : length is ≡ layout.nodes = are.all ∙ ap (λ (b : Bool). if b then 0 else layout.nodes) packet in
    omega (arith, all, lt)

-- a work in a cluster that is seen so
abbrev pub joint_in : (s : Settings) (faults : List FaultLine) (ends : List EndpointView) (journal : List Entry) (interfaces : List InterfaceView)
    (swaps : List Store) (v : ClusterView) (node : NodeId) (one : InterfaceView) (state : State) (work : Work) →
    IsKept (layout_in s faults (map kept ends)) (map kept ends) journal interfaces swaps → seen s faults (map kept ends) journal ≡ v → v.layout.direct ≡ false →
    is_in_range v.layout (event_of node work) ≡ true → slice_get interfaces node.0 ≡ Some one → IsTaken v.journal node work →
    IsState (layout_in s faults (map kept ends)) journal state (needs (own one) work) → Joint
joint_in s faults ends journal interfaces swaps v node one state work kept' is packet range at taken reads =
    record {
      settings = s;
      faults = faults;
      ends = ends;
      journal = journal;
      interfaces = interfaces;
      swaps = swaps;
      node = node;
      one = one;
      state = state;
      work = work;
      kept' = kept';
      packet = ap (λ (w : ClusterView). w.layout.direct) is ∙ packet;
      in_range = ap (λ (w : ClusterView). is_in_range w.layout (event_of node work)) is ∙ range;
      at = at;
      taken = subst (λ (past : List Entry). IsTaken past node work) (sym (ap (λ (w : ClusterView). w.journal) is)) taken;
      reads = reads;
    }

abbrev pub layout_of : Joint → Layout
layout_of j = layout_in j.settings j.faults (map kept j.ends)

abbrev pub event_in : Joint → Event
event_in j = event_of j.node j.work

pub interface_in : (j : Joint) → IsInterface (layout_of j) j.journal j.node j.one
interface_in j = j.kept'.interfaces'.each j.node.0 j.one j.at

-- the packet in hand was emitted
was_taken : (past : List Entry) (node : NodeId) (w : Work) → IsTaken past node w → IsPacketOf past node w
was_taken past node (Works.Receive (Packets.Parcel p)) at = record { stamp = p.stamp; emitted = at; earlier = omega arith }
was_taken past node (Works.Receive (Packets.Answer p)) at = record { stamp = p.stamp; emitted = at; earlier = omega arith }
was_taken past node (Works.Bind end) at = tt
was_taken past node (Works.Expire peer channel) at = tt

pub joint_part : (j : Joint) → IsPart (layout_of j) j.journal (own j.one)
joint_part j =
    let is = interface_in j in
    record {
      settings = record { packet = j.packet; once = j.kept'.tied.lawful.ids; channels = is.channels; tries = is.tries; bounces = is.bounces; homes = is.homes };
      log = is.part ∙ ap (λ (n : NodeId). filter (touches_node n) j.journal) (sym is.is_node);
    }

pub joint_says : (j : Joint) → SaysTheSame (layout_of j) j.journal (own j.one) j.state j.work
joint_says j =
    let is = interface_in j in
    work_local (layout_of j) j.journal (own j.one) j.state j.work (joint_part j)
    (record { state = j.reads; packet = subst (λ (n : NodeId). IsPacketOf j.journal n j.work) (sym is.is_node) (was_taken j.journal j.node j.work j.taken) })

pub joint_event : (j : Joint) → event_of j.one.settings.node j.work ≡ event_in j
joint_event j = let is = interface_in j in ap (λ (n : NodeId). event_of n j.work) is.is_node

pub joint_failing : (j : Joint) → failing (layout_of j) j.journal (event_in j) ≡ failing_at (own j.one) j.state j.work
joint_failing j = ap (failing (layout_of j) j.journal) (sym (joint_event j)) ∙ (joint_says j).failing

pub joint_outcome : (j : Joint) → outcome_of (layout_of j) j.journal (event_in j) ≡ outcome_at (own j.one) j.state j.work
joint_outcome j = ap (outcome_of (layout_of j) j.journal) (sym (joint_event j)) ∙ (joint_says j).outcome

pub work_touches : (node : NodeId) (w : Work) → node_touched (event_of node w) ≡ Some node
work_touches node (Works.Receive (Packets.Parcel p)) = refl
work_touches node (Works.Receive (Packets.Answer p)) = refl
work_touches node (Works.Bind end) = refl
work_touches node (Works.Expire peer channel) = refl

pub joint_entry : (j : Joint) (x : Entry) → x ≡ entry_of_work j.one j.journal j.state j.work → x ≡ next_entry (layout_of j) j.journal (event_in j)
joint_entry j x is = is ∙ λ i. record { stamp = next_stamp j.journal; event = joint_event j i; outcome = sym (joint_outcome j) i }

-- the interface's log, as the journal tells whether it is full
pub node_full : (j : Joint) (t : Bool) → nat_le j.settings.log (length j.one.log) ≡ t → is_node_full (layout_of j) j.journal j.node ≡ t
node_full j t is = ap (λ (xs : List Entry). nat_le j.settings.log (length xs)) (sym (interface_in j).part) ∙ is

pub not_full : (j : Joint) → length j.one.log ≢ j.one.settings.log → nat_le j.settings.log (length j.one.log) ≡ false
not_full j room = by_test (nat_le j.settings.log (length j.one.log)) refl
  where
    by_test : (t : Bool) → nat_le j.settings.log (length j.one.log) ≡ t → t ≡ false
    by_test false is = refl
    by_test true is =
        let le = leb-true j.settings.log (length j.one.log) is in
        let most = (interface_in j).bounded in
        let limit = (interface_in j).limit in
        absurd (room (omega (arith, le, most, limit)))

is_full : (j : Joint) → length j.one.log ≡ j.one.settings.log → nat_le j.settings.log (length j.one.log) ≡ true
is_full j full = let limit = (interface_in j).limit in le-leb j.settings.log (length j.one.log) (omega (arith, full, limit))

-- ---- a work that touches no endpoint

-- its entry touches none
pub record IsAlone (j : Joint) : Type 0 where
  pub none : ends_touched (event_of j.one.settings.node j.work) (outcome_at (own j.one) j.state j.work) ≡ []

alone_touches : (j : Joint) → IsAlone j → ends_touched (event_in j) (outcome_of (layout_of j) j.journal (event_in j)) ≡ []
alone_touches j alone = (λ i. ends_touched (sym (joint_event j) i) (joint_outcome j i)) ∙ alone.none

pub alone_stop : (j : Joint) (t : Bool) → IsAlone j → failing_at (own j.one) j.state j.work ≡ None → nat_le j.settings.log (length j.one.log) ≡ t →
    stop (layout_of j) j.journal (event_in j) ≡ cond t (Some (LogFull (Parts.Interface j.node))) None
alone_stop j t alone enabled full =
    ap (λ (f : Option Condition). stop_by f (full_log (layout_of j) j.journal (event_in j))) (joint_failing j ∙ enabled)
    ∙ (λ i. stop_by None (full_by (layout_of j) j.journal (least_such (is_end_full (layout_of j) j.journal) (alone_touches j alone i))
    (work_touches j.node j.work i)))
    ∙ ap (λ (b : Bool). stop_by None (if b then Some (Parts.Interface j.node) else None)) (node_full j t full)
    ∙ by_test t
  where
    by_test : (b : Bool) → stop_by None (if b then Some (Parts.Interface j.node) else None) ≡ cond b (Some (LogFull (Parts.Interface j.node))) None
    by_test true = refl
    by_test false = refl

pub alone_disabled : (j : Joint) (c : Condition) → failing_at (own j.one) j.state j.work ≡ Some c →
    stop (layout_of j) j.journal (event_in j) ≡ Some (NotEnabled c)
alone_disabled j c is = ap (λ (f : Option Condition). stop_by f (full_log (layout_of j) j.journal (event_in j))) (joint_failing j ∙ is)

pub alone_full : (j : Joint) (p : Part) → IsAlone j → failing_at (own j.one) j.state j.work ≡ None → IsFull j.one p →
    stop (layout_of j) j.journal (event_in j) ≡ Some (LogFull p)
alone_full j p alone enabled full =
    alone_stop j true alone enabled (is_full j full.1)
    ∙ ap (λ (q : Part). Some (LogFull q)) (sym (full.0 ∙ ap (λ (n : NodeId). Parts.Interface n) (interface_in j).is_node))

-- nothing stops it where no condition fails and the log isn't full
pub alone_runs : (j : Joint) → IsAlone j → HasRoom j.one j.state j.work → stop (layout_of j) j.journal (event_in j) ≡ None
alone_runs j alone room = alone_stop j false alone room.enabled (not_full j room.here)

-- what it makes of a cluster
pub alone_next : (j : Joint) (x : Entry) (new : InterfaceView) → IsAlone j → IsTurned j.one new j.journal j.state j.work x →
    IsNext j.settings j.faults (map kept j.ends) j.journal (event_in j) x (map kept j.ends) (j.journal ++ x ∷ [])
alone_next j x new alone t =
    record {
      tied = j.kept'.tied;
      in_range = j.in_range;
      runs = alone_stop j false alone t.enabled (not_full j t.room);
      entry = joint_entry j x t.entry;
      ends = sym (none_grown x (map kept j.ends) (λ k d got. ap (λ (es : List EndpointId). list_any (same_end d.settings.id) es)
          (ap (λ (y : Entry). ends_touched y.event y.outcome) t.entry ∙ alone.none)));
      journal' = refl;
    }

-- the interface's log grows
pub joint_interfaces : (j : Joint) (x : Entry) (new : InterfaceView) → IsTurned j.one new j.journal j.state j.work x →
    AreInterfaces (layout_of j) (j.journal ++ x ∷ []) (slice_set j.interfaces j.node.0 new)
joint_interfaces j x new t =
    let is = interface_in j in
    let touched : node_touched x.event ≡ Some j.node = ap (λ (y : Entry). node_touched y.event) t.entry ∙ work_touches j.one.settings.node j.work
    ∙ ap (λ (n : NodeId). Some n) is.is_node in
    let less = not_full j t.room in
    let room : length j.one.log < j.settings.log = leb-false j.settings.log (length j.one.log) less in
    interfaces_more (layout_of j) j.journal x j.interfaces j.node j.one new touched j.at room t.interface j.kept'.interfaces'

-- ---- what is seen of the cluster, and what it keeps

-- a write of what stands there
pub set_got : {X : Type 0} (xs : List X) (k : ℕ) (v w : X) → slice_get xs k ≡ Some v → w ≡ v → slice_set xs k w ≡ xs
set_got [] k v w at is = refl
set_got (x ∷ xs) zero v w at is = let same : w ≡ x = cc in ap (λ y. y ∷ xs) same
set_got (x ∷ xs) (suc k) v w at is = ap (λ ys. x ∷ ys) (set_got xs k v w at is)

-- where the interface and the endpoints' settings and logs are as they were
pub joint_still : (j : Joint) (new : InterfaceView) (es : List EndLog) → new ≡ j.one → es ≡ map kept j.ends →
    IsKept (layout_in j.settings j.faults es) es j.journal (slice_set j.interfaces j.node.0 new) j.swaps
joint_still j new es same ends =
    subst (λ (is : List InterfaceView). IsKept (layout_in j.settings j.faults es) es j.journal is j.swaps)
    (sym (set_got j.interfaces j.node.0 j.one new j.at same))
    (kept_still j.settings j.faults (map kept j.ends) es j.journal j.journal j.interfaces j.swaps ends refl j.kept')

work_unpaged : (node : NodeId) (w : Work) → is_page (event_of node w) ≡ false
work_unpaged node (Works.Receive (Packets.Parcel p)) = refl
work_unpaged node (Works.Receive (Packets.Answer p)) = refl
work_unpaged node (Works.Bind end) = refl
work_unpaged node (Works.Expire peer channel) = refl

pub joint_kept : (j : Joint) (x : Entry) (new : InterfaceView) (es : List EndLog) →
    IsNext j.settings j.faults (map kept j.ends) j.journal (event_in j) x es (j.journal ++ x ∷ []) → IsTurned j.one new j.journal j.state j.work x →
    IsKept (layout_in j.settings j.faults es) es (j.journal ++ x ∷ []) (slice_set j.interfaces j.node.0 new) j.swaps
joint_kept j x new es next turned =
    let longer = j.journal ++ x ∷ [] in
    record {
      tied = tied_next j.settings j.faults (map kept j.ends) j.journal (event_in j) x es longer next;
      interfaces' =
          interfaces_moved (layout_of j) (layout_in j.settings j.faults es) longer longer (slice_set j.interfaces j.node.0 new)
          (sym (layout_kept j.settings j.faults (map kept j.ends) x) ∙ ap (λ (ns : List EndLog). layout_in j.settings j.faults ns) (sym next.ends)) refl
          (joint_interfaces j x new turned);
      swaps' = swaps_kept j.settings j.faults (map kept j.ends) j.journal (event_in j) x es longer j.swaps next (work_unpaged j.node j.work) j.kept'.swaps';
    }

-- ---- a work that touches no endpoint, whole

pub alone_of : (j : Joint) → needs (own j.one) j.work ≡ None → IsAlone j
alone_of j none = record { none = needs_touched (own j.one) j.state j.work ∙ ap option_to_list none }

pub alone_keeps : (j : Joint) (new : InterfaceView) (result : Result Entry EntryFault) → needs (own j.one) j.work ≡ None →
    TurnsAlone j.one new j.journal j.state j.work result → IsKept (layout_of j) (map kept j.ends) (entries_after j.journal result)
    (slice_set j.interfaces j.node.0 new) j.swaps
alone_keeps j new (Ok x) none turns = joint_kept j x new (map kept j.ends) (alone_next j x new (alone_of j none) turns) turns
alone_keeps j new (Err (Faults.NotEnabled c)) none turns = joint_still j new (map kept j.ends) turns.1 refl
alone_keeps j new (Err (Faults.LogFull p)) none turns = joint_still j new (map kept j.ends) turns.2 refl
alone_keeps j new (Err Faults.NoMemory) none turns = joint_still j new (map kept j.ends) turns.1 refl

pub alone_applies : (j : Joint) (v : ClusterView) (new : InterfaceView) (result : Result Entry EntryFault) →
    seen j.settings j.faults (map kept j.ends) j.journal ≡ v → needs (own j.one) j.work ≡ None → TurnsAlone j.one new j.journal j.state j.work result →
    Applies v (seen j.settings j.faults (map kept j.ends) (entries_after j.journal result)) (event_in j) result
alone_applies j v new (Ok x) is none turns =
    seen_next j.settings j.faults (map kept j.ends) j.journal (event_in j) x (map kept j.ends) (j.journal ++ x ∷ []) v is
    (alone_next j x new (alone_of j none) turns)
alone_applies j v new (Err (Faults.NotEnabled c)) is none turns = (
  ap (λ (w : ClusterView). stop w.layout w.journal (event_in j)) (sym is)
      ∙ alone_disabled j c turns.0,
  is,
)
alone_applies j v new (Err (Faults.LogFull p)) is none turns = (
  ap (λ (w : ClusterView). stop w.layout w.journal (event_in j)) (sym is)
      ∙ alone_full j p (alone_of j none) turns.0 turns.1,
  is,
)
alone_applies j v new (Err Faults.NoMemory) is none turns = (
  ap (λ (w : ClusterView). stop w.layout w.journal (event_in j)) (sym is) ∙ alone_runs j (alone_of j none) turns.0,
  is,
)
