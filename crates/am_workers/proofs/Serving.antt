-- A turn of an interface keeps what it works by.
use Rattle.std.proofs.Common.{◌≡◌, ℕ, ◌+◌, ◌^◌, ◌≤◌, Bool, true, false, cond, List, [], ◌∷◌, ◌++◌, length, sym, refl, ap, ◌∙◌, subst, arith, append-nil}
use Rattle.std.specs.List.{filter}
use lib.ListN.{get_elem?}
use Rattle.am_names.specs.declared.EndpointId.{EndpointId}
use Rattle.am_names.specs.declared.NodeId.{NodeId}
use Rattle.am_names.specs.declared.Packet.{Packet}
use Rattle.am_office_entries.specs.declared.Entry.{Entry}
use Rattle.am_office_entries.specs.Entries.{touches}
use Rattle.am_endpoint_body.specs.declared.settings.EndSettings.{EndSettings}
use Rattle.am_model.specs.Channels.{emitted}
use Rattle.am_model.specs.History.{is_in_range}
use Rattle.am_model_merge.specs.Logs.{IsRising}
use Rattle.am_workers_laws.specs.Phases.Crew.{AreReceipts, is_receipt}
use Rattle.am_places.specs.Rule.{Begins, read}
use Rattle.am_places.specs.declared.board.Tenure.{Tenure}
use Rattle.am_scenario_types.specs.Lists.{ScenarioLists}
use Rattle.am_model_scripts.specs.Layout.{layout_of}
use Rattle.am_workers_laws.proofs.Receipts.{interfaces_go_on}
use Rattle.am_workers_laws.proofs.Stands.{none_keep}
use Rattle.am_workers_laws.specs.Invariants.Seats.{EndPass, Ids, KnowsNode, Stays, seen_log}
use Rattle.am_workers.specs.Turns.Turns.{AddsNothing, Same, Shut, Still}
use Rattle.am_workers_laws.specs.Invariants.Works.{AreSeen, Hand, InterfaceWorks, IsWorkThenHere, held_from}
use Rattle.am_workers_laws.proofs.Keeping.{AreOf, knows_after, same_births, same_mark, same_seats, seen_more}
use Rattle.am_workers.proofs.TurnsTaken.{begins_more, near_of}

-- what an interface works by, where all that its log emits was sent
abbrev pub Serves : ScenarioLists → Ids → NodeId → ℕ → List Entry → (NodeId → List Packet) → Hand → EndPass → Type 0
Serves s ids node turns log taken hand v = InterfaceWorks s ids node turns log (λ (to : NodeId). emitted node to log) taken hand v

pub sent_all : (s : ScenarioLists) (ids : Ids) (node : NodeId) (turns : ℕ) (log : List Entry) (sent taken : NodeId → List Packet) (hand : Hand) (v : EndPass) →
    InterfaceWorks s ids node turns log sent taken hand v → Serves s ids node turns log taken hand v
sent_all s ids node turns log sent taken hand v t =
    record {
      born = t.born;
      knows = t.knows;
      guest = t.guest;
      rising = t.rising;
      low = t.low;
      few = t.few;
      ranged = t.ranged;
      emits = λ to. refl;
      got = t.got;
      receipts = t.receipts;
      in_hand = t.in_hand;
      right = t.right;
    }

pub sent_as : (s : ScenarioLists) (ids : Ids) (node : NodeId) (turns : ℕ) (log : List Entry) (sent taken : NodeId → List Packet) (hand : Hand) (v : EndPass) →
    ((to : NodeId) → sent to ≡ emitted node to log) → Serves s ids node turns log taken hand v → InterfaceWorks s ids node turns log sent taken hand v
sent_as s ids node turns log sent taken hand v sends t =
    record {
      born = t.born;
      knows = t.knows;
      guest = t.guest;
      rising = t.rising;
      low = t.low;
      few = t.few;
      ranged = t.ranged;
      emits = sends;
      got = t.got;
      receipts = t.receipts;
      in_hand = t.in_hand;
      right = t.right;
    }

-- ---- nothing was added

more_turns : (s : ScenarioLists) (ids : Ids) (node : NodeId) (turns : ℕ) (log : List Entry) (taken : NodeId → List Packet) (hand : Hand) (v : EndPass) →
    Serves s ids node turns log taken hand v → Serves s ids node (turns + 1) log taken hand v
more_turns s ids node turns log taken hand v t =
    record {
      born = t.born;
      knows = t.knows;
      guest = t.guest;
      rising = t.rising;
      low = t.low;
      few = let f : length log ≤ turns = t.few in omega arith;
      ranged = t.ranged;
      emits = t.emits;
      got = t.got;
      receipts = t.receipts;
      in_hand = t.in_hand;
      right = t.right;
    }

shut_keeps : (s : ScenarioLists) (ids : Ids) (node : NodeId) (turns : ℕ) (log : List Entry) (taken : NodeId →
    List Packet) (hand : Hand) (word n : ℕ) (v w : EndPass) → w ≡ read word n v → Serves s ids node turns log taken hand v →
    Serves s ids node turns log taken hand w
shut_keeps s ids node turns log taken hand word n v w is t =
    subst (λ (z : EndPass). Serves s ids node turns log taken hand z) (sym is)
    (record {
      born = t.born;
      knows = record {
        apart = t.knows.apart;
        births = t.knows.births;
        all = t.knows.all;
        wide = t.knows.wide;
        keeps = t.knows.keeps;
        own = t.knows.own;
        here = t.knows.here;
      };
      guest = t.guest;
      rising = t.rising;
      low = t.low;
      few = t.few;
      ranged = t.ranged;
      emits = t.emits;
      got = t.got;
      receipts = t.receipts;
      in_hand = t.in_hand;
      right = t.right;
    })

still_keeps : (s : ScenarioLists) (ids : Ids) (node : NodeId) (turns : ℕ) (log : List Entry) (taken : NodeId →
    List Packet) (hand : Hand) (k : ℕ) (set : EndSettings) (place : ℕ) (found : List (Tenure Entry)) (v w : EndPass) → Stays k set place found [] v w
    → Serves s ids node turns log taken hand v → Serves s ids node turns log taken hand w
still_keeps s ids node turns log taken hand k set place found v w h t =
    record {
      born = λ j b is. t.born j b (ap (λ (bs : List EndSettings). get_elem? bs j) (sym (same_births k set place found [] v w h)) ∙ is);
      knows = subst (λ (xs : List Entry). KnowsNode ids xs w) (append-nil log) (knows_after k set place found [] v w ids log t.knows tt h);
      guest = λ e. t.guest (sym (same_mark k set place found [] v w h) ∙ e ∙ same_seats k set place found [] v w h);
      rising = t.rising;
      low = t.low;
      few = t.few;
      ranged = t.ranged;
      emits = t.emits;
      got = t.got;
      receipts = t.receipts;
      in_hand = t.in_hand;
      right = λ logs seen. t.right logs (λ j e at. begins_more (logs e) (seen_log j w) (seen_log j v) (seen j e at)
          (seen_more k set place found [] v w (near_of ids log v k set t.knows h.born) h j));
    }

-- where a turn added nothing, it keeps all
pub nothing_keeps : (s : ScenarioLists) (ids : Ids) (node : NodeId) (turns : ℕ) (log : List Entry) (taken : NodeId →
    List Packet) (hand : Hand) (v w : EndPass) → AddsNothing v w
    → Serves s ids node turns log taken hand v → Serves s ids node (turns + 1) log taken hand w
nothing_keeps s ids node turns log taken hand v w (Same is) t =
    more_turns s ids node turns log taken hand w (subst (λ (z : EndPass). Serves s ids node turns log taken hand z) (sym is) t)
nothing_keeps s ids node turns log taken hand v w (Shut k holder busy) t =
    more_turns s ids node turns log taken hand w (shut_keeps s ids node turns log taken hand _ _ v w busy.1 t)
nothing_keeps s ids node turns log taken hand v w (Still k set place found h) t =
    more_turns s ids node turns log taken hand w (still_keeps s ids node turns log taken hand k set place found v w h t)

-- ---- an entry more

-- what the new entry of the interface is, and what was got before it
pub record IsNext (s : ScenarioLists) (ids : Ids) (node : NodeId) (log : List Entry) (got got' : NodeId → List Packet) (taken : NodeId →
    List Packet) (hand' : Hand) (x : Entry) (w : EndPass) : Type 0 where
  pub rising : IsRising (log ++ x ∷ [])
  pub low : x.stamp ≤ 2 ^ 63
  pub ranged : is_in_range (layout_of s) x.event ≡ true
  pub more : (from : NodeId) → Begins (got' from) (got from)
  pub receipts : (from : NodeId) → AreReceipts from node (got' from) (filter (is_receipt from node) (log ++ x ∷ []))
  pub in_hand : (from : NodeId) → taken from ≡ got' from ++ held_from from hand'
  pub right : (logs : EndpointId → List Entry) → AreSeen ids w logs → IsWorkThenHere s node logs got' (log ++ x ∷ []) x

-- where the new entry touches no endpoint
pub alone_keeps : (s : ScenarioLists) (ids : Ids) (node : NodeId) (turns : ℕ) (log : List Entry) (taken : NodeId →
    List Packet) (hand hand' : Hand) (x : Entry) (v : EndPass) (got' : NodeId → List Packet) → ((d : EndpointId) → touches d x ≡ false)
    → (t : Serves s ids node turns log taken hand v) → IsNext s ids node log t.got got' taken hand' x v →
    Serves s ids node (turns + 1) (log ++ x ∷ []) taken hand' v
alone_keeps s ids node turns log taken hand hand' x v got' none t n =
    interfaces_go_on s ids node turns log (λ (to : NodeId). emitted node to log) taken (λ (to : NodeId). emitted node to (log ++ x ∷ [])) taken got' hand hand'
    v v x t
    (record {
      births = refl;
      knows = none_keep ids log (x ∷ []) v t.knows (λ d. ap (λ (b : Bool). cond b (x ∷ []) []) (none d));
      guest = t.guest;
      grown = λ j. ([], sym (append-nil (seen_log j v)));
      rising = n.rising;
      low = n.low;
      ranged = n.ranged;
      more = n.more;
      receipts = n.receipts;
      right = n.right;
    })
    (record { sends = λ to. refl; takes = n.in_hand })

-- where the seat stayed at an endpoint for it
pub with_keeps : (s : ScenarioLists) (ids : Ids) (node : NodeId) (turns : ℕ) (log : List Entry) (taken : NodeId →
    List Packet) (hand hand' : Hand) (x : Entry) (k : ℕ) (set : EndSettings) (place : ℕ) (found : List (Tenure Entry)) (v w : EndPass) (got' : NodeId →
    List Packet)
    → AreOf set.id (x ∷ []) → (h : Stays k set place found (x ∷ []) v w) → (t : Serves s ids node turns log taken hand v) →
    IsNext s ids node log t.got got' taken hand' x w → Serves s ids node (turns + 1) (log ++ x ∷ []) taken hand' w
with_keeps s ids node turns log taken hand hand' x k set place found v w got' of h t n =
    interfaces_go_on s ids node turns log (λ (to : NodeId). emitted node to log) taken (λ (to : NodeId). emitted node to (log ++ x ∷ [])) taken got' hand hand'
    v w x t
    (record {
      births = same_births k set place found (x ∷ []) v w h;
      knows = knows_after k set place found (x ∷ []) v w ids log t.knows of h;
      guest = λ e. t.guest (sym (same_mark k set place found (x ∷ []) v w h) ∙ e ∙ same_seats k set place found (x ∷ []) v w h);
      grown = seen_more k set place found (x ∷ []) v w (near_of ids log v k set t.knows h.born) h;
      rising = n.rising;
      low = n.low;
      ranged = n.ranged;
      more = n.more;
      receipts = n.receipts;
      right = n.right;
    })
    (record { sends = λ to. refl; takes = n.in_hand })
