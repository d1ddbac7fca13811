-- The numbers of an event in range are of their types.
use Rattle.std.proofs.Common.{◌≡◌, ℕ, ◌^◌, ◌&&◌, true, List, [], ◌∷◌, Option, Some, None, eqb-true, arith, ⊎_elim}
use Rattle.std.specs.Prelude.{nat_lt, nat_le}
use Rattle.std.specs.List.{list_any}
use Rattle.std.proofs.lemmas.Bool.{and_parts, or_cases, ltb-true, leb-true}
use Rattle.am_names.specs.declared.EndpointId.{EndpointId}
use Rattle.am_names.specs.declared.NodeId.{NodeId}
use Rattle.am_names.specs.declared.Words.{Words}
use Rattle.am_office_entries.specs.declared.Actor.{Actor}
use Rattle.am_office_entries.specs.declared.Actor.TheVariants.{Thread, Outside}
use Rattle.am_office_entries.specs.declared.HandlerKind.{HandlerKind}
use Rattle.am_office_entries.specs.declared.HandlerKind.TheVariants as Kinds
use Rattle.am_office_entries.specs.declared.Call.{Call}
use Rattle.am_office_entries.specs.declared.Call.TheVariants as Calls
use Rattle.am_office_entries.specs.declared.Event.{Event}
use Rattle.am_office_entries.specs.declared.Event.TheVariants as Events
use Rattle.am_model.specs.Layout.{Layout, EndSetting, AllAre, IsSettingLawful, has_id, declared}
use Rattle.am_model.specs.History.{is_in_range, is_actor_in_range, is_call_in_range, is_kind_in_range, are_words_in_range, are_credits_in_range, is_byte}
use Rattle.am_model.specs.History.{is_four_bytes, is_eight_bytes}
use Rattle.am_scenario_types.specs.Lists.{ScenarioLists}
use Rattle.am_scenario_types.specs.Lawful.{IsLawful}
use Rattle.am_model_scripts.specs.Layout.{layout_of}
use Rattle.am_model_scripts.proofs.Lawful.{lawful_layout}
use Rattle.am_check_lines.specs.Grammar.{IsByte, AreWords, AreNumbersOf, AreNumbersOfCall, AreNumbersOfKind, IsNumberOfActor}

known_byte : (layout : Layout) (e : EndpointId) (settings : List EndSetting) → AllAre (IsSettingLawful layout) settings → list_any (has_id e) settings ≡ true →
    IsByte e.0
known_byte layout e [] all h = absurd (cc)
known_byte layout e (setting ∷ settings) all h =
    ⊎_elim
    (λ (here : has_id e setting ≡ true). let same : e.0 ≡ setting.id.0 = eqb-true e.0 setting.id.0 here in let low = all.0.id in omega (arith, same, low))
    (λ (there : list_any (has_id e) settings ≡ true). known_byte layout e settings all.1 there)
    (or_cases (has_id e setting) (list_any (has_id e) settings) h)

end_byte : (s : ScenarioLists) → IsLawful s → (e : EndpointId) → declared (layout_of s) e ≡ true → IsByte e.0
end_byte s lawful e h = known_byte (layout_of s) e (layout_of s).ends (lawful_layout s lawful).ends h

node_byte : (s : ScenarioLists) → IsLawful s → (node : NodeId) → nat_lt node.0 s.nodes ≡ true → IsByte node.0
node_byte s lawful node h = let low = ltb-true node.0 s.nodes h in let most = lawful.settings.nodes.1 in omega (arith, low, most)

actor_byte : (a : Actor) → is_actor_in_range a ≡ true → IsNumberOfActor a
actor_byte (Thread number) h = let low = ltb-true number 64 h in omega (arith, low)
actor_byte Outside h = tt

kind_bytes : (k : HandlerKind) → is_kind_in_range k ≡ true → AreNumbersOfKind k
kind_bytes Kinds.Note h = tt
kind_bytes (Kinds.Echo to) h = let low = ltb-true to 16 (and_parts (nat_le 1 to) (nat_lt to 16) h).1 in omega (arith, low)
kind_bytes (Kinds.Add to) h = let low = ltb-true to 16 (and_parts (nat_le 1 to) (nat_lt to 16) h).1 in omega (arith, low)

credits_byte : (pool : Option ℕ) (credits : ℕ) → are_credits_in_range pool credits ≡ true → IsByte credits
credits_byte None credits h = let low = leb-true credits 8 (and_parts (nat_le 1 credits) (nat_le credits 8) h).1 in omega (arith, low)
credits_byte (Some pool) credits h = let low = leb-true credits 8 h in omega (arith, low)

words_fit : (w : Words) → are_words_in_range w ≡ true → AreWords w
words_fit w h =
    let p = and_parts (is_eight_bytes w.a && is_eight_bytes w.b && is_eight_bytes w.c) (is_eight_bytes w.d) h in
    let q = and_parts (is_eight_bytes w.a && is_eight_bytes w.b) (is_eight_bytes w.c) p.0 in
    let r = and_parts (is_eight_bytes w.a) (is_eight_bytes w.b) q.0 in
    (ltb-true w.a (2 ^ 64) r.0, ltb-true w.b (2 ^ 64) r.1, ltb-true w.c (2 ^ 64) q.1, ltb-true w.d (2 ^ 64) p.1)

call_numbers : (s : ScenarioLists) → IsLawful s → (c : Call) → is_call_in_range (layout_of s) c ≡ true → AreNumbersOfCall c
call_numbers s lawful (Calls.Request index handler words) h =
    let p = and_parts (is_byte index && is_byte handler) (are_words_in_range words) h in
    let q = and_parts (is_byte index) (is_byte handler) p.0 in
    (ltb-true index 256 q.0, ltb-true handler 256 q.1, words_fit words p.1)
call_numbers s lawful Calls.Poll h = tt
call_numbers s lawful (Calls.SetTag tag) h = ltb-true tag.0 (2 ^ 64) h
call_numbers s lawful (Calls.Map index name tag credits) h =
    let p = and_parts (is_byte index && declared (layout_of s) name && is_eight_bytes tag.0) (are_credits_in_range s.pool credits) h in
    let q = and_parts (is_byte index && declared (layout_of s) name) (is_eight_bytes tag.0) p.0 in
    let r = and_parts (is_byte index) (declared (layout_of s) name) q.0 in
    (ltb-true index 256 r.0, end_byte s lawful name r.1, ltb-true tag.0 (2 ^ 64) q.1, credits_byte s.pool credits p.1)
call_numbers s lawful (Calls.Unmap index) h = ltb-true index 256 h
call_numbers s lawful (Calls.SetHandler index kind) h =
    let p = and_parts (is_byte index) (is_kind_in_range kind) h in
    (ltb-true index 256 p.0, kind_bytes kind p.1)
call_numbers s lawful (Calls.GiveUp serial) h =
    let p = and_parts (is_byte serial.source.0) (is_four_bytes serial.count) h in
    (ltb-true serial.source.0 256 p.0, ltb-true serial.count (2 ^ 32) p.1)
call_numbers s lawful Calls.Close h = tt
call_numbers s lawful (Calls.Test mask) h = tt

-- an endpoint and a node
both : (s : ScenarioLists) → IsLawful s → (node : NodeId) (e : EndpointId) → (declared (layout_of s) e && nat_lt node.0 s.nodes) ≡ true →
    IsByte node.0 × IsByte e.0
both s lawful node e h =
    let p = and_parts (declared (layout_of s) e) (nat_lt node.0 s.nodes) h in
    (node_byte s lawful node p.1, end_byte s lawful e p.0)

pub numbers_of : (s : ScenarioLists) → IsLawful s → (event : Event) → is_in_range (layout_of s) event ≡ true → AreNumbersOf event
numbers_of s lawful (Events.Call actor end call) h =
    let p = and_parts (is_actor_in_range actor && declared (layout_of s) end) (is_call_in_range (layout_of s) call) h in
    let q = and_parts (is_actor_in_range actor) (declared (layout_of s) end) p.0 in
    (actor_byte actor q.0, end_byte s lawful end q.1, call_numbers s lawful call p.1)
numbers_of s lawful (Events.Want actor end) h =
    let q = and_parts (is_actor_in_range actor) (declared (layout_of s) end) h in
    (actor_byte actor q.0, end_byte s lawful end q.1)
numbers_of s lawful (Events.Carry end) h = end_byte s lawful end h
numbers_of s lawful (Events.Bind node end) h = both s lawful node end h
numbers_of s lawful (Events.Expire node peer channel) h =
    let p = and_parts (nat_lt node.0 s.nodes && nat_lt peer.0 s.nodes) (nat_lt channel s.channels) h in
    let q = and_parts (nat_lt node.0 s.nodes) (nat_lt peer.0 s.nodes) p.0 in
    let low = ltb-true channel s.channels p.1 in
    let most = lawful.settings.channels.1 in
    (node_byte s lawful node q.0, node_byte s lawful peer q.1, omega (arith, low, most))
numbers_of s lawful (Events.Receive node peer number) h =
    let p = and_parts (nat_lt node.0 s.nodes && nat_lt peer.0 s.nodes && nat_le 1 number) (is_four_bytes number) h in
    let q = and_parts (nat_lt node.0 s.nodes && nat_lt peer.0 s.nodes) (nat_le 1 number) p.0 in
    let r = and_parts (nat_lt node.0 s.nodes) (nat_lt peer.0 s.nodes) q.0 in
    (node_byte s lawful node r.0, node_byte s lawful peer r.1, ltb-true number (2 ^ 32) p.1)
numbers_of s lawful (Events.Drain node end) h = both s lawful node end h
numbers_of s lawful (Events.Unload node end) h = both s lawful node end h
numbers_of s lawful (Events.Load node end frame) h =
    let p = and_parts (declared (layout_of s) end && nat_lt node.0 s.nodes) (nat_lt frame s.frames) h in
    let q = both s lawful node end p.0 in
    let low = ltb-true frame s.frames p.1 in
    let most = lawful.settings.frames.1 in
    (q.0, q.1, omega (arith, low, most))
numbers_of s lawful (Events.PageOut node end) h = both s lawful node end h
numbers_of s lawful (Events.PageIn node end) h = both s lawful node end h
