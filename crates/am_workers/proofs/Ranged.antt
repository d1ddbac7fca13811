-- The event of a work that a turn lets through is one that the interface's scenario may have.
use Rattle.std.specs.Prelude.{IsSome}
use Rattle.std.proofs.Common.{◌≡◌, ℕ, ◌<◌, ◌≤◌, ◌^◌, Bool, true, false, ◌&&◌, ◌||◌, cond, List, [], ◌∷◌, Some, refl, sym, subst, lt-ltb, true≢false}
use Rattle.std.specs.Prelude.{find, nat_le, nat_lt}
use Rattle.std.specs.List.{list_any}
use Rattle.std.proofs.lemmas.Bool.{le-leb, and_from}
use Rattle.am_names.specs.declared.EndpointId.{EndpointId}
use Rattle.am_names.specs.declared.NodeId.{NodeId}
use Rattle.am_names.specs.declared.Packet.TheVariants as Packets
use Rattle.am_office_entries.specs.declared.Event.TheVariants as Events
use Rattle.am_model.specs.History.{is_four_bytes, is_in_range}
use Rattle.am_model.specs.Layout.{EndSetting, declared, has_id, home_by}
use Rattle.am_model_parts.specs.Interface.{event_of}
use Rattle.am_model_parts.specs.Together.{IsSet}
use Rattle.am_model_parts.specs.declared.work.Work.{Work}
use Rattle.am_model_parts.specs.declared.work.Work.TheVariants as Works
use Rattle.am_iface.specs.Settings.{AreLawful}
use Rattle.am_iface.specs.View.{InterfaceView, own}
use Rattle.am_scenario_types.specs.Lists.{ScenarioLists}
use Rattle.am_model_scripts.specs.Layout.{layout_of}
use Rattle.am_workers.specs.Turns.Servers.{IfMade, IsInterfaceOf, IsNumbered, IsRanged}
use Rattle.am_workers.specs.declared.turns.turns.InterfaceTurn.{InterfaceTurn}
use Rattle.am_workers.specs.declared.turns.turns.InterfaceTurn.TheVariants as Worked

-- the interface is one of the scenario, and its work one that a scenario may have
pub record IsServer (s : ScenarioLists) (i : InterfaceView) (w : Work) : Type 0 where
  pub set : IsSet (layout_of s) (own i)
  pub tries : 2 ≤ s.tries
  pub ranged : is_in_range (layout_of s) (event_of i.settings.node w) ≡ true

-- an endpoint that has a home is declared
declared_among : (e : EndpointId) (ss : List EndSetting) → IsSome (home_by (find (has_id e) ss)) → list_any (has_id e) ss ≡ true
declared_among e [] h = absurd (true≢false (sym h))
declared_among e (x ∷ ss) h = by_test (has_id e x) h (declared_among e ss)
  where
    by_test : (b : Bool) → IsSome (home_by (cond b (Some x) (find (has_id e) ss))) → (IsSome (home_by (find (has_id e) ss)) → list_any (has_id e) ss ≡ true) →
        (b || list_any (has_id e) ss) ≡ true
    by_test true h more = refl
    by_test false h more = more h

node_in : (s : ScenarioLists) (i : InterfaceView) (n : ℕ) → IsInterfaceOf s i → n < i.settings.nodes → nat_lt n s.nodes ≡ true
node_in s i n of lt = lt-ltb n s.nodes (subst (λ (m : ℕ). n < m) of.nodes lt)

numbered : (s : ScenarioLists) (i : InterfaceView) (from : NodeId) (number : ℕ) → IsInterfaceOf s i → AreLawful i.settings → IsNumbered i.settings from number →
    is_in_range (layout_of s) (Events.Receive i.settings.node from number) ≡ true
numbered s i from number of lawful h =
    and_from (nat_lt i.settings.node.0 s.nodes && nat_lt from.0 s.nodes && nat_le 1 number) (is_four_bytes number)
    (and_from (nat_lt i.settings.node.0 s.nodes && nat_lt from.0 s.nodes) (nat_le 1 number)
    (and_from (nat_lt i.settings.node.0 s.nodes) (nat_lt from.0 s.nodes) (node_in s i i.settings.node.0 of lawful.node) (node_in s i from.0 of h.from_node))
    (le-leb 1 number h.first))
    (lt-ltb number (2 ^ 32) h.last)

pub ranged_by : (s : ScenarioLists) (i : InterfaceView) (w : Work) → IsInterfaceOf s i → AreLawful i.settings → IsRanged i.settings w →
    is_in_range (layout_of s) (event_of i.settings.node w) ≡ true
ranged_by s i (Works.Receive (Packets.Parcel p)) of lawful h = numbered s i p.from p.number of lawful h
ranged_by s i (Works.Receive (Packets.Answer p)) of lawful h = numbered s i p.from p.number of lawful h
ranged_by s i (Works.Bind end) of lawful h =
    and_from (declared (layout_of s) end) (nat_lt i.settings.node.0 s.nodes)
    (declared_among end (layout_of s).ends (subst IsSome (of.set.homes end) h))
    (node_in s i i.settings.node.0 of lawful.node)
ranged_by s i (Works.Expire peer channel) of lawful h =
    and_from (nat_lt i.settings.node.0 s.nodes && nat_lt peer.0 s.nodes) (nat_lt channel s.channels)
    (and_from (nat_lt i.settings.node.0 s.nodes) (nat_lt peer.0 s.nodes) (node_in s i i.settings.node.0 of lawful.node) (node_in s i peer.0 of h.peer))
    (lt-ltb channel s.channels (subst (λ (m : ℕ). channel < m) of.set.channels h.channel))

pub serves : (s : ScenarioLists) (i : InterfaceView) (w : Work) (turn : InterfaceTurn) → IsInterfaceOf s i → AreLawful i.settings →
    IfMade turn (IsRanged i.settings w) → IfMade turn (IsServer s i w)
serves s i w (Worked.Made t) of lawful h = record { set = of.set; tries = of.tries; ranged = ranged_by s i w of lawful h }
serves s i w (Worked.Busy holder) of lawful h = tt
serves s i w Worked.NotYet of lawful h = tt
serves s i w Worked.Full of lawful h = tt
serves s i w Worked.NoMemory of lawful h = tt

pub if_made : (turn : InterfaceTurn) (P : Type 0) → P → IfMade turn P
if_made (Worked.Made t) P h = h
if_made (Worked.Busy holder) P h = tt
if_made Worked.NotYet P h = tt
if_made Worked.Full P h = tt
if_made Worked.NoMemory P h = tt
