-- An interface's entry keeps what its worker keeps.
use Rattle.std.proofs.Common.{◌≡◌, ℕ, true, List, [], ◌∷◌, ◌++◌, sym, subst, arith, Contains}
use Rattle.std.proofs.lemmas.List.{length_push}
use Rattle.std.proofs.lemmas.List.Elements.{Contains-append_left}
use lib.ListN.{get_elem?}
use mathlib.Core.Option.{some}
use Rattle.am_names.specs.declared.EndpointId.{EndpointId}
use Rattle.am_names.specs.declared.NodeId.{NodeId}
use Rattle.am_names.specs.declared.Packet.{Packet}
use Rattle.am_office_entries.specs.declared.Entry.{Entry}
use Rattle.am_endpoint_body.specs.declared.settings.EndSettings.{EndSettings}
use Rattle.am_model.specs.History.{is_in_range}
use Rattle.am_model.specs.Layout.{AllAre}
use Rattle.am_model.proofs.Alls.{all_push}
use Rattle.am_model_parts.specs.declared.work.Work.{Work}
use Rattle.am_model_parts.specs.declared.work.Work.TheVariants as Works
use Rattle.am_scenario_types.specs.Lists.{ScenarioLists}
use Rattle.am_model_scripts.specs.Layout.{layout_of}
use Rattle.am_places.specs.Rule.{Begins}
use Rattle.am_workers_laws.specs.Invariants.Receipts.{InterfacesGoOn}
use Rattle.am_workers_laws.specs.Invariants.Seats.{seen_log}
use Rattle.am_workers_laws.specs.Invariants.Works.{IsGot, IsWorkThenHere}
use Rattle.am_workers_laws.proofs.Keeps.{begins_then}
use Rattle.am_workers_laws.proofs.Stands.{stands_on}

got_more : (got now : NodeId → List Packet) (w : Work) (below : ℕ) → ((from : NodeId) → Begins (now from) (got from)) → IsGot got w below → IsGot now w below
got_more got now (Works.Receive p) below more g = (
  g.0,
  subst (λ (ps : List Packet). Contains ps p) (sym (more g.0).1)
      (Contains-append_left (got g.0) (more g.0).0 p g.1),
  g.2,
)
got_more got now (Works.Bind e) below more g = tt
got_more got now (Works.Expire peer channel) below more g = tt

-- an entry that was right is right with more in the log, and more received
right_with : (s : ScenarioLists) (node : NodeId) (ends : EndpointId → List Entry) (got now : NodeId → List Packet) (log extra : List Entry) (y : Entry) →
    ((from : NodeId) → Begins (now from) (got from)) → IsWorkThenHere s node ends got log y → IsWorkThenHere s node ends now (log ++ extra) y
right_with s node ends got now log extra y more h =
    record {
      i = h.i;
      state = h.state;
      w = h.w;
      here = h.here;
      settings = h.settings;
      past = stands_on log extra h.i.log y h.past;
      found = h.found;
      packet = got_more got now h.w y.stamp more h.packet;
      event = h.event;
      enabled = h.enabled;
      outcome = h.outcome;
      not_last = h.not_last;
    }

all_with : (s : ScenarioLists) (node : NodeId) (ends : EndpointId → List Entry) (got now : NodeId → List Packet) (log extra : List Entry) (ys : List Entry) →
    ((from : NodeId) → Begins (now from) (got from)) → AllAre (IsWorkThenHere s node ends got log) ys →
    AllAre (IsWorkThenHere s node ends now (log ++ extra)) ys
all_with s node ends got now log extra [] more h = tt
all_with s node ends got now log extra (y ∷ ys) more h = (
  right_with s node ends got now log extra y more h.0,
  all_with s node ends got now log extra ys more h.1,
)

pub interfaces_go_on : InterfacesGoOn
interfaces_go_on s ids node turns log sent taken sent_now taken_now now hand hand_now v w x h step settled =
    record {
      born = λ k set is. h.born k set (subst (λ (bs : List EndSettings). get_elem? bs k ≡ some set) step.births is);
      knows = step.knows;
      guest = step.guest;
      rising = step.rising;
      low = all_push _ log x h.low step.low;
      few = (let few = h.few in let longer = length_push log x in omega (arith, few, longer));
      ranged = all_push (λ (y : Entry). is_in_range (layout_of s) y.event ≡ true) log x h.ranged step.ranged;
      emits = settled.sends;
      got = now;
      receipts = step.receipts;
      in_hand = settled.takes;
      right =
          λ ends seen.
          all_push (IsWorkThenHere s node ends now (log ++ x ∷ [])) log x
          (all_with s node ends h.got now log (x ∷ []) log step.more
          (h.right ends (λ k e at. begins_then (ends e) (seen_log k w) (seen_log k v) (seen k e at) (step.grown k)))) (step.right ends seen);
    }
