-- What is seen of a cluster's parts.
use Rattle.std.specs.Prelude.{◌↔◌, is_some, slice_get, slice_index_or}
use Rattle.std.specs.Option.{option_map}
use Rattle.std.specs.List.{filter, find, list_any, position}
use Rattle.std.proofs.Common.{◌≡◌, ℕ, zero, suc, ◌+◌, ◌<◌, ◌≤◌, Bool, true, false, cond, ◌||◌, List, [], ◌∷◌, map, length, Option, Some, None, refl, sym, ap}
use Rattle.std.proofs.Common.{◌∙◌, arith, true≢false}
use Rattle.std.proofs.lemmas.Bool.{and_parts}
use Rattle.std.proofs.lemmas.List.Sums.{sum_by-cons}
use Rattle.am_lemmas.proofs.Lists.{slice_get-None}
use Rattle.std.proofs.lemmas.Option.{slice_get-get_or}
use Rattle.am_names.specs.declared.EndpointId.{EndpointId}
use Rattle.am_names.specs.declared.NodeId.{NodeId}
use Rattle.am_names.specs.Names.{same_end}
use Rattle.am_office_entries.specs.declared.Event.{Event}
use Rattle.am_office_entries.specs.declared.Event.TheVariants as Events
use Rattle.am_office_entries.specs.declared.Entry.{Entry}
use Rattle.am_office_entries.specs.Entries.{is_node, node_touched, touches, touches_node}
use Rattle.am_model.specs.History.{state_of}
use Rattle.am_model.specs.Endpoint.{State, is_on_disk}
use Rattle.am_model.specs.Layout.{EndSetting, Layout, declared, has_id, home, home_by, opening, opening_by, opening_place}
use Rattle.am_model.proofs.Names.{same_end-refl}
use Rattle.am_endpoint.specs.View.{EndpointView, state_after}
use Rattle.am_iface.specs.View.{InterfaceView}
use Rattle.am_machine_journal.specs.Index.View.{is_receipt, receipts}
use Rattle.am_driver_moves.specs.Logs.{EndLog, kept}
use Rattle.am_machine.specs.Ends.{is_of, setting_in, settings_by}
use Rattle.am_endpoint_body.specs.declared.settings.EndSettings.{EndSettings}
use Rattle.am_machine.specs.Interfaces.{AreInterfaces, IsInterface}
use Rattle.am_machine.specs.Kept.{IsTied}
use Rattle.am_machine.proofs.Applied.{found_here, own_here, state_here}
use Rattle.am_machine.proofs.Joint.{interface_there}
use Rattle.am_machine.proofs.Moving.{setting_found}
use Rattle.am_machine.proofs.Places.{not_found, position_at}

-- ---- endpoints

-- an endpoint that stands somewhere is declared
stands_declared : (vs : List EndpointView) (k : ℕ) (one : EndpointView) (e : EndpointId) → slice_get vs k ≡ Some one → one.settings.id ≡ e →
    list_any (has_id e) (map setting_in (map kept vs)) ≡ true
stands_declared [] k one e at id = absurd (cc)
stands_declared (v ∷ vs) zero one e at id =
    let same : v ≡ one = cc in
    let here : same_end e v.settings.id ≡ true = ap (same_end e) (ap (λ (w : EndpointView). w.settings.id) same ∙ id) ∙ same_end-refl e in
    ap (λ (b : Bool). b || list_any (has_id e) (map setting_in (map kept vs))) here
stands_declared (v ∷ vs) (suc k) one e at id = either (has_id e (setting_in (kept v))) (list_any (has_id e) (map setting_in (map kept vs)))
    (stands_declared vs k one e at id)
  where
    either : (a b : Bool) → b ≡ true → (a || b) ≡ true
    either true b h = refl
    either false b h = h

-- what the layout says an endpoint begins with is what it began with
settings_here : (layout : Layout) (e : EndLog) → opening_place layout.direct (is_on_disk e.settings.place) ≡ e.settings.place → e.settings.log ≡ layout.log →
    e.settings.bounces ≡ layout.bounces → e.settings.pool ≡ layout.pool → settings_by layout (setting_in e) ≡ e.settings
settings_here layout e place limit bounces pool =
    λ j. record {
      id = e.settings.id;
      node = e.settings.node;
      tag = e.settings.tag;
      place = place j;
      log = sym limit j;
      bounces = sym bounces j;
      pool = sym pool j;
    }

-- an endpoint is not found where it isn't known
pub unknown_is : {X : Type 0} (r : Option X) (b : Bool) → is_some r ≡ b → (r ≡ None) ↔ (b ≡ false)
unknown_is None b is = ((λ h. sym is), (λ h. refl))
unknown_is (Some x) b is = ((λ h. absurd (let both : Some x ≡ None = h in cc)), (λ h. absurd (true≢false (is ∙ h))))

-- an endpoint that was looked for and found at this place
pub record IsFoundAt (layout : Layout) (journal : List Entry) (e : EndpointId) (one : EndpointView) : Type 0 where
  pub known : true ≡ declared layout e
  pub id : one.settings.id ≡ e
  pub settings : option_map (settings_by layout) (find (has_id e) layout.ends) ≡ Some one.settings
  pub node : home layout e ≡ Some one.settings.node
  pub log : one.log ≡ filter (touches e) journal
  pub state : state_after one ≡ state_of layout journal e

pub end_found : (layout : Layout) (vs : List EndpointView) (journal : List Entry) (e : EndpointId) (k : ℕ) (one : EndpointView) →
    layout.ends ≡ map setting_in (map kept vs) → IsTied layout (map kept vs) journal → position (is_of e) vs ≡ Some k → one ≡ slice_index_or vs k one →
    IsFoundAt layout journal e one
end_found layout vs journal e k one ends tied found value =
    let here = found_here vs e k one found value in
    record {
      known = sym (ap (list_any (has_id e)) ends ∙ stands_declared vs k one e here.at here.id);
      id = here.id;
      settings =
          (let own = own_here layout vs journal e k one tied here in
          let setting = ap (find (has_id e)) ends ∙ setting_found vs e one (ap (slice_get vs) (position_at vs e k found) ∙ here.at) in
          let place = sym (ap (λ (o : Option EndSetting). (opening_by layout o).head.place) setting)
          ∙ ap (λ (d : EndpointId). (opening layout d).head.place) (sym here.id) ∙ ap (λ (s : State). s.head.place) own.opening in
          ap (option_map (settings_by layout)) setting ∙ ap (λ (s : EndSettings). Some s)
          (settings_here layout (kept one) place own.limit own.bounces own.pool));
      node = ap (λ (ss : List EndSetting). home_by (find (has_id e) ss)) ends
          ∙ ap home_by (setting_found vs e one (ap (slice_get vs) (position_at vs e k found) ∙ here.at));
      log = (own_here layout vs journal e k one tied here).log ∙ ap (λ (d : EndpointId). filter (touches d) journal) here.id;
      state = state_here layout vs journal e k one tied here;
    }

pub end_unknown : (layout : Layout) (vs : List EndpointView) (e : EndpointId) → layout.ends ≡ map setting_in (map kept vs) → position (is_of e) vs ≡ None →
    false ≡ declared layout e
end_unknown layout vs e ends none = sym (ap (list_any (has_id e)) ends ∙ by_test (list_any (has_id e) (map setting_in (map kept vs))) refl)
  where
    by_test : (b : Bool) → list_any (has_id e) (map setting_in (map kept vs)) ≡ b → b ≡ false
    by_test true is = absurd (not_found vs e none is)
    by_test false is = refl

-- ---- interfaces

pub interface_found : (layout : Layout) (journal : List Entry) (is : List InterfaceView) (node : NodeId) (one : InterfaceView) →
    AreInterfaces layout journal is → layout.direct ≡ false → node.0 < layout.nodes → one ≡ slice_index_or is node.0 one → IsInterface layout journal node one
interface_found layout journal is node one are packet lt value =
    are.each node.0 one (slice_get-get_or is node.0 one (interface_there layout journal is node are packet lt) ∙ ap (λ (i : InterfaceView). Some i) (sym value))

-- ---- receipts

-- a receipt touches the interface of its node
pub receipt_touches : (from to : NodeId) (event : Event) → is_receipt from to event ≡ true → is_node to (node_touched event) ≡ true
receipt_touches from to (Events.Receive node peer number) h = (and_parts _ _ h).0
receipt_touches from to event h = absurd (cc)

receipts_few : (from to : NodeId) (xs : List Entry) → receipts from to xs ≤ length (filter (touches_node to) xs)
receipts_few from to [] = omega arith
receipts_few from to (x ∷ xs) = by_tests (is_receipt from to x.event) (touches_node to x) refl refl (receipts_few from to xs)
    (sum_by-cons (λ (y : Entry). cond (is_receipt from to y.event) 1 0) x xs)
  where
    by_tests : (r t : Bool) → is_receipt from to x.event ≡ r → touches_node to x ≡ t → receipts from to xs ≤ length (filter (touches_node to) xs) →
        receipts from to (x ∷ xs) ≡ cond r 1 0 + receipts from to xs →
        receipts from to (x ∷ xs) ≤ length (cond t (x ∷ filter (touches_node to) xs) (filter (touches_node to) xs))
    by_tests true true on at few more = omega (arith, few, more)
    by_tests true false on at few more = absurd (let both : true ≡ false = sym (receipt_touches from to x.event on) ∙ at in cc)
    by_tests false true on at few more = omega (arith, few, more)
    by_tests false false on at few more = omega (arith, few, more)

-- there are no more than the interface's log may have entries
pub receipts_bounded : (layout : Layout) (journal : List Entry) (is : List InterfaceView) (from to : NodeId) → AreInterfaces layout journal is →
    layout.direct ≡ false → to.0 < layout.nodes → receipts from to journal ≤ layout.log
receipts_bounded layout journal is from to are packet lt =
    let there = interface_there layout journal is to are packet lt in
    by_interface (slice_get is to.0) refl there
  where
    by_interface : (o : Option InterfaceView) → slice_get is to.0 ≡ o → to.0 < length is → receipts from to journal ≤ layout.log
    by_interface None at there = absurd (omega (arith, slice_get-None is to.0 at, there))
    by_interface (Some i) at there =
        let one = are.each to.0 i at in
        let few = receipts_few from to journal in
        let most = one.bounded in
        let same = ap (λ (xs : List Entry). length xs) one.part in
        omega (arith, few, most, same)
