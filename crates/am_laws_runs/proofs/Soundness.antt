-- In each history the front messages go to endpoints that there are, and what is in flight is bound to a channel.
use Rattle.std.specs.Prelude.{◌==◌, not, is_some}
use Rattle.std.proofs.Common.{◌≡◌, ℕ, zero, suc, ◌+◌, ◌≤◌, ◌<◌, Bool, true, false, cond, ◌||◌, List, [], ◌∷◌, map, length, Option, Some, None, refl, sym, ap}
use Rattle.std.proofs.Common.{◌∙◌, subst, arith, true≢false, eqb-true, ltb, ltb-true, ltb-false}
use Rattle.std.proofs.lemmas.Bool.{and_parts, and_from, eqb-false}
use Rattle.std.specs.List.{list_any, list_all, find, range_with_len, AllByRecursion}
use Rattle.am_names.specs.declared.EndpointId.{EndpointId}
use Rattle.am_names.specs.declared.NodeId.{NodeId}
use Rattle.am_names.specs.declared.Message.{Message}
use Rattle.am_names.specs.Names.{same_end}
use Rattle.am_office_entries.specs.declared.Entry.{Entry}
use Rattle.am_model.specs.declared.Queued.{Queued}
use Rattle.am_model.specs.declared.Flying.{Flying}
use Rattle.am_model.specs.Endpoint.{front}
use Rattle.am_model.specs.Layout.{Layout, EndSetting, AllAre, has_id, home, node_at}
use Rattle.am_model.specs.Channels.{Channel, bound_message}
use Rattle.am_model.specs.Cluster.{IsHeldOnce}
use Rattle.am_model.specs.History.{IsHistory, state_of, channel_to, is_bound}
use Rattle.am_scenario_types.specs.Lawful as lawful
use Rattle.am_scenario_types.specs.Lists.{ScenarioLists}
use Rattle.am_model_scripts.specs.Layout.{layout_of}
use Rattle.am_model_scripts.proofs.Lawful.{lawful_layout}
use Rattle.am_laws_cluster.proofs.HomesKept.{front_addressed, home_below}
use Rattle.am_laws.proofs.Delivered.{delivers}
use Rattle.am_laws_cluster.proofs.Bound.{in_flight_bound}
use Rattle.am_model_scripts.specs.Links.{nodes_of}
use Rattle.am_model_scripts.specs.Standings.{Standing, standings, standing_in, is_standing_of, is_idle}
use Rattle.am_model_drain.specs.Rules.{next_time_out}
use Rattle.am_model_drain.specs.Laws.{is_known, has_known_front, has_no_flight}
use Rattle.am_model_drain.proofs.Rest.{idle_nodes, rests_at_end}
use Rattle.am_model_drain.proofs.Follows.{drained_follows}
use Rattle.am_laws_runs.specs.Drains.Laws.{HistoriesAreSound, DrainsFollow, DrainsRest}
use Rattle.am_laws_runs.proofs.Channels.{channels_below}

-- ---- the front messages go to endpoints that there are

some_step : (b : Bool) (s : Standing) (rest : Option Standing) (more : Bool) → (b || more) ≡ true → (more ≡ true → is_some rest ≡ true) →
    is_some (cond b (Some s) rest) ≡ true
some_step true s rest more h k = refl
some_step false s rest more h k = k h

stands : (layout : Layout) (past : List Entry) (e : EndpointId) (settings : List EndSetting) → list_any (has_id e) settings ≡ true →
    is_some (find (is_standing_of e) (map (standing_in layout past) settings)) ≡ true
stands layout past e [] h = absurd (true≢false (sym h))
stands layout past e (setting ∷ settings) h =
    some_step (same_end e setting.id) (standing_in layout past setting) (find (is_standing_of e) (map (standing_in layout past) settings))
    (list_any (has_id e) settings) h (stands layout past e settings)

front_known : (layout : Layout) (past : List Entry) → IsHistory layout past → (e : EndpointId) (o : Option Queued) → front (state_of layout past e) ≡ o →
    is_known (standings layout past) o ≡ true
front_known layout past h e None is = refl
front_known layout past h e (Some q) is = stands layout past q.message.dest layout.ends (front_addressed layout past h e q is).dest

all_known : (layout : Layout) (past : List Entry) → IsHistory layout past → (settings : List EndSetting) →
    list_all (has_known_front (standings layout past)) (map (standing_in layout past) settings) ≡ true
all_known layout past h [] = refl
all_known layout past h (setting ∷ settings) =
    and_from (is_known (standings layout past) (front (state_of layout past setting.id)))
    (list_all (has_known_front (standings layout past)) (map (standing_in layout past) settings))
    (front_known layout past h setting.id (front (state_of layout past setting.id)) refl) (all_known layout past h settings)

-- ---- what is in flight is bound to a channel

above : (a k : ℕ) → a ≤ k → (k ≡ a → ⊥) → a + 1 ≤ k
above a k low apart = by_test (ltb a k) refl
  where
    by_test : (b : Bool) → ltb a k ≡ b → a + 1 ≤ k
    by_test true lt = omega (arith, ltb-true a k lt)
    by_test false le = absurd (apart (omega (arith, low, ltb-false a k le)))

node_step : (P : NodeId → Type 0) (a k : ℕ) (b : Bool) → (k == a) ≡ b → P (node_at a) → ((k ≡ a → ⊥) → P (node_at k)) → P (node_at k)
node_step P a k true is here later = subst (λ (i : ℕ). P (node_at i)) (sym (eqb-true k a is)) here
node_step P a k false is here later = later (eqb-false k a is)

pub node_holds : (P : NodeId → Type 0) (a n k : ℕ) → AllByRecursion P (map node_at (range_with_len a n)) → a ≤ k → k < a + n → P (node_at k)
node_holds P a zero k all low high = absurd (omega (arith, low, high))
node_holds P a (suc n) k all low high =
    node_step P a k (k == a) refl all.0 (λ (apart : k ≡ a → ⊥). node_holds P (a + 1) n k all.1 (above a k low apart) (omega (arith, high)))

number_step : (p : ℕ → Bool) (a k : ℕ) (b : Bool) → (k == a) ≡ b → p a ≡ true → ((k ≡ a → ⊥) → p k ≡ true) → p k ≡ true
number_step p a k true is here later = ap p (eqb-true k a is) ∙ here
number_step p a k false is here later = later (eqb-false k a is)

number_holds : (p : ℕ → Bool) (a n k : ℕ) → list_all p (range_with_len a n) ≡ true → a ≤ k → k < a + n → p k ≡ true
number_holds p a zero k all low high = absurd (omega (arith, low, high))
number_holds p a (suc n) k all low high =
    let parts = and_parts (p a) (list_all p (range_with_len (a + 1) n)) all in
    number_step p a k (k == a) refl parts.0 (λ (apart : k ≡ a → ⊥). number_holds p (a + 1) n k parts.1 (above a k low apart) (omega (arith, high)))

unbound : (b : Bool) → b ≡ true → not b ≡ true → ⊥
unbound true bound free = absurd (true≢false (sym free))
unbound false bound free = absurd (true≢false (sym bound))

-- where no time-out is due, no channel of a node in range to a node in range is bound
pub none_bound : (s : ScenarioLists) (past : List Entry) (c : Channel) (m : Message) → next_time_out s past ≡ None → c.node.0 < s.nodes → c.peer.0 < s.nodes →
    c.number < s.channels → bound_message c past ≡ Some m → ⊥
none_bound s past c m none node peer number bound =
    let nodes = idle_nodes s past (nodes_of s) none in
    let peers = node_holds (λ (n : NodeId). AllByRecursion (λ (p : NodeId). is_idle s past n p ≡ true) (nodes_of s)) 0 s.nodes c.node.0 nodes (omega arith)
    (omega (arith, node)) in
    let idle = node_holds (λ (p : NodeId). is_idle s past c.node p ≡ true) 0 s.nodes c.peer.0 peers (omega arith) (omega (arith, peer)) in
    let free = number_holds (λ (k : ℕ). not (is_bound (channel_to c.node c.peer k) past)) 0 s.channels c.number idle (omega arith) (omega (arith, number)) in
    unbound (is_bound c past) (ap (λ (o : Option Message). is_some o) bound) free

no_flight : (s : ScenarioLists) (past : List Entry) → lawful.IsLawful s → IsHistory (layout_of s) past → next_time_out s past ≡ None →
    (e : EndpointId) (fs : List Flying) → AllAre (λ (f : Flying). IsHeldOnce (layout_of s) past e f.message) fs → (length fs == 0) ≡ true
no_flight s past ok h none e [] held = refl
no_flight s past ok h none e (f ∷ fs) held =
    let layout : Layout = layout_of s in
    let once = held.0 in
    let c : Channel = once.channel in
    let routed = (delivers layout past h).bound c f.message once.bound in
    let model = lawful_layout s ok in
    absurd (none_bound s past c f.message none (home_below layout model e c.node once.node) (home_below layout model f.message.dest c.peer routed.home)
    (channels_below layout past h c f.message once.bound) once.bound)

all_grounded : (s : ScenarioLists) (past : List Entry) → lawful.IsLawful s → IsHistory (layout_of s) past → next_time_out s past ≡ None →
    (settings : List EndSetting) → list_all has_no_flight (map (standing_in (layout_of s) past) settings) ≡ true
all_grounded s past ok h none [] = refl
all_grounded s past ok h none (setting ∷ settings) =
    let flying : List Flying = (state_of (layout_of s) past setting.id).body.in_flight in
    and_from (length flying == 0) (list_all has_no_flight (map (standing_in (layout_of s) past) settings))
    (no_flight s past ok h none setting.id flying ((in_flight_bound (layout_of s) (lawful_layout s ok) past h).held setting.id))
    (all_grounded s past ok h none settings)

pub histories_are_sound : HistoriesAreSound
histories_are_sound s journal ok h =
    record { known = all_known (layout_of s) journal h (layout_of s).ends; bound = λ none. all_grounded s journal ok h none (layout_of s).ends }

pub drains_rest : DrainsRest
drains_rest s past journal ok drained h = rests_at_end s journal (histories_are_sound s journal ok h) drained.1.ended

pub drains_follow : DrainsFollow
drains_follow s phase journal ok good drained h = drained_follows s phase journal good drained (histories_are_sound s journal ok h)
