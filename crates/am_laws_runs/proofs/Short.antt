-- A history with no log longer than it may be is short.
use Rattle.std.specs.Prelude.{nat_lt, nat_le, filter, count_by}
use Rattle.std.proofs.Common.{◌≡◌, ◌⊎◌, inl, inr, ⊎_elim, ℕ, ◌+◌, ◌*◌, ◌≤◌, ◌<◌, ◌^◌, Bool, true, false, cond, ◌&&◌, List, [], ◌∷◌, ◌++◌, length, refl, sym, ap}
use Rattle.std.proofs.Common.{◌∙◌, arith, ltb-true, eq-eqb, true≢false, Some}
use Rattle.std.proofs.lemmas.Bool.{and_parts, and_from, or_cases, or_left}
use Rattle.std.proofs.lemmas.List.Sums.{length-filter, sum_by-cons}
use Rattle.std.proofs.lemmas.Nat.{mul-le}
use Rattle.std.specs.List.{list_any}
use Rattle.am_names.specs.declared.EndpointId.{EndpointId}
use Rattle.am_names.specs.declared.NodeId.{NodeId}
use Rattle.am_names.specs.Names.{same_end}
use Rattle.am_office_entries.specs.declared.Event.{Event}
use Rattle.am_office_entries.specs.declared.Event.TheVariants as Events
use Rattle.am_office_entries.specs.declared.Outcome.{Outcome}
use Rattle.am_office_entries.specs.declared.Entry.{Entry}
use Rattle.am_office_entries.specs.Entries.{ends_touched, node_touched, is_node, reached_by, touches, touches_node}
use Rattle.am_model.specs.Layout.{Layout, EndSetting, AllAre, IsLawful, IsSettingLawful, has_id, declared, node_at, end_at}
use Rattle.am_model.specs.History.{MayFollow, EachAfter, is_in_range, is_actor_in_range, is_call_in_range, is_four_bytes}
use Rattle.am_model.proofs.Names.{same_end-is, same_end-refl}
use Rattle.am_laws_runs.specs.Short.{IsWithinLogs, JournalsAreShort, JournalsAreNumbered}
use Rattle.am_laws_runs.proofs.Counts.{IsPassed, passed, passed-le, length-le-passed}

-- ---- the tests: a declared endpoint of this number, an interface of the node of this number

abbrev pub is_in_end : Layout → ℕ → Entry → Bool
is_in_end layout number x = declared layout (end_at number) && touches (end_at number) x

abbrev pub is_in_interface : ℕ → Entry → Bool
is_in_interface number x = touches_node (node_at number) x

abbrev pub Stands : Layout → Entry → Type 0
Stands layout x = IsPassed (is_in_end layout) is_in_interface 256 layout.nodes x

end_below : (layout : Layout) (e : EndpointId) (settings : List EndSetting) → AllAre (IsSettingLawful layout) settings → list_any (has_id e) settings ≡ true →
    e.0 < 256
end_below layout e [] all is = absurd (true≢false (sym is))
end_below layout e (setting ∷ settings) all is =
    ⊎_elim
    (λ (here : same_end e setting.id ≡ true).
    let same : e.0 ≡ setting.id.0 = ap (λ (f : EndpointId). f.0) (same_end-is e setting.id here) in
    let below : e.0 < 256 = omega (arith, same, all.0.id) in
    below)
    (λ (later : list_any (has_id e) settings ≡ true). end_below layout e settings all.1 later)
    (or_cases (same_end e setting.id) (list_any (has_id e) settings) is)

-- ---- each event that is in range touches a declared endpoint, or an interface

abbrev pub TouchesOne : Layout → Event → Outcome → Type 0
TouchesOne layout event outcome =
    ((e : EndpointId) × (declared layout e ≡ true) × (list_any (same_end e) (ends_touched event outcome) ≡ true)) ⊎
    ((node : NodeId) × (node.0 < layout.nodes) × (is_node node (node_touched event) ≡ true))

at_end : (layout : Layout) (event : Event) (outcome : Outcome) (e : EndpointId) (rest : List EndpointId) → ends_touched event outcome ≡ e ∷ rest →
    declared layout e ≡ true → TouchesOne layout event outcome
at_end layout event outcome e rest same is =
    inl (e, is, ap (list_any (same_end e)) same ∙ or_left (same_end e e) (list_any (same_end e) rest) (same_end-refl e))

at_node : (layout : Layout) (event : Event) (outcome : Outcome) (node : NodeId) → node_touched event ≡ Some node → nat_lt node.0 layout.nodes ≡ true →
    TouchesOne layout event outcome
at_node layout event outcome node same is =
    inr (node, ltb-true node.0 layout.nodes is, ap (is_node node) same ∙ eq-eqb node.0 node.0 refl)

touches_one : (layout : Layout) (event : Event) (outcome : Outcome) → is_in_range layout event ≡ true → TouchesOne layout event outcome
touches_one layout (Events.Call actor end call) outcome h =
    let parts = and_parts (is_actor_in_range actor && declared layout end) (is_call_in_range layout call) h in
    at_end layout (Events.Call actor end call) outcome end [] refl (and_parts (is_actor_in_range actor) (declared layout end) parts.0).1
touches_one layout (Events.Want actor end) outcome h =
    at_end layout (Events.Want actor end) outcome end [] refl (and_parts (is_actor_in_range actor) (declared layout end) h).1
touches_one layout (Events.Carry end) outcome h = at_end layout (Events.Carry end) outcome end (reached_by outcome) refl h
touches_one layout (Events.Bind node end) outcome h =
    at_end layout (Events.Bind node end) outcome end [] refl (and_parts (declared layout end) (nat_lt node.0 layout.nodes) h).0
touches_one layout (Events.Expire node peer channel) outcome h =
    let parts = and_parts (nat_lt node.0 layout.nodes && nat_lt peer.0 layout.nodes) (nat_lt channel layout.channels) h in
    at_node layout (Events.Expire node peer channel) outcome node refl (and_parts (nat_lt node.0 layout.nodes) (nat_lt peer.0 layout.nodes) parts.0).0
touches_one layout (Events.Receive node peer number) outcome h =
    let parts = and_parts (nat_lt node.0 layout.nodes && nat_lt peer.0 layout.nodes && nat_le 1 number) (is_four_bytes number) h in
    let nodes = and_parts (nat_lt node.0 layout.nodes && nat_lt peer.0 layout.nodes) (nat_le 1 number) parts.0 in
    at_node layout (Events.Receive node peer number) outcome node refl (and_parts (nat_lt node.0 layout.nodes) (nat_lt peer.0 layout.nodes) nodes.0).0
touches_one layout (Events.Drain node end) outcome h =
    at_end layout (Events.Drain node end) outcome end [] refl (and_parts (declared layout end) (nat_lt node.0 layout.nodes) h).0
touches_one layout (Events.Unload node end) outcome h =
    at_end layout (Events.Unload node end) outcome end [] refl (and_parts (declared layout end) (nat_lt node.0 layout.nodes) h).0
touches_one layout (Events.Load node end frame) outcome h =
    let parts = and_parts (declared layout end && nat_lt node.0 layout.nodes) (nat_lt frame layout.frames) h in
    at_end layout (Events.Load node end frame) outcome end [] refl (and_parts (declared layout end) (nat_lt node.0 layout.nodes) parts.0).0
touches_one layout (Events.PageOut node end) outcome h =
    at_end layout (Events.PageOut node end) outcome end [] refl (and_parts (declared layout end) (nat_lt node.0 layout.nodes) h).0
touches_one layout (Events.PageIn node end) outcome h =
    at_end layout (Events.PageIn node end) outcome end [] refl (and_parts (declared layout end) (nat_lt node.0 layout.nodes) h).0

stands : (layout : Layout) (x : Entry) → AllAre (IsSettingLawful layout) layout.ends → TouchesOne layout x.event x.outcome → Stands layout x
stands layout x ok one =
    ⊎_elim
    (λ (a : (e : EndpointId) × (declared layout e ≡ true) × (list_any (same_end e) (ends_touched x.event x.outcome) ≡ true)).
    inl (a.0.0, end_below layout a.0 layout.ends ok a.1, and_from (declared layout (end_at a.0.0)) (touches (end_at a.0.0) x) a.1 a.2))
    (λ (b : (node : NodeId) × (node.0 < layout.nodes) × (is_node node (node_touched x.event) ≡ true)). inr (b.0.0, b.1, b.2))
    one

-- ---- the whole

within_passed : (layout : Layout) (past xs : List Entry) → IsLawful layout → EachAfter (MayFollow layout) past xs →
    length xs ≤ passed (is_in_end layout) 256 xs + passed is_in_interface layout.nodes xs
within_passed layout past [] ok h = omega arith
within_passed layout past (x ∷ xs) ok h =
    length-le-passed (is_in_end layout) is_in_interface 256 layout.nodes x xs (stands layout x ok.ends (touches_one layout x.event x.outcome h.0.in_range))
    (within_passed layout (past ++ x ∷ []) xs ok h.1)

count_none : {X : Type 0} (p : X → Bool) (xs : List X) → count_by (λ (x : X). false && p x) xs ≡ 0
count_none p [] = refl
count_none {X} p (x ∷ xs) =
    let rest : count_by (λ (y : X). false && p y) xs ≡ 0 = count_none p xs in
    let step : count_by (λ (y : X). false && p y) (x ∷ xs) ≡ 0 + count_by (λ (y : X). false && p y) xs =
    sum_by-cons (λ (y : X). let n : ℕ = cond (false && p y) 1 0 in n) x xs in
    omega (arith, rest, step)

few_where : (b : Bool) (p : Entry → Bool) (xs : List Entry) (most : ℕ) → (b ≡ true → length (filter p xs) ≤ most) → count_by (λ (x : Entry). b && p x) xs ≤ most
few_where true p xs most few =
    let low : length (filter p xs) ≤ most = few refl in
    omega (arith, low, length-filter p xs)
few_where false p xs most few = omega (arith, count_none p xs)

few_in_end : (layout : Layout) (journal : List Entry) → IsWithinLogs layout journal → (k : ℕ) → count_by (is_in_end layout k) journal ≤ layout.log
few_in_end layout journal within k = few_where (declared layout (end_at k)) (touches (end_at k)) journal layout.log (within.ends (end_at k))

few_in_interface : (layout : Layout) (journal : List Entry) → IsWithinLogs layout journal → (k : ℕ) → k < layout.nodes →
    count_by (is_in_interface k) journal ≤ layout.log
few_in_interface layout journal within k low =
    let most : length (filter (touches_node (node_at k)) journal) ≤ layout.log = within.nodes (node_at k) low in
    omega (arith, most, length-filter (touches_node (node_at k)) journal)

nodes_times : (nodes log : ℕ) → nodes ≤ 16 → nodes * log ≤ 16 * log
nodes_times nodes log low = mul-le nodes log 16 log low (omega arith)

added_up : (len ends interfaces nodes log : ℕ) → len ≤ ends + interfaces → ends ≤ 256 * log → interfaces ≤ nodes * log → nodes * log ≤ 16 * log →
    len ≤ 272 * log
added_up len ends interfaces nodes log all low high most = omega (arith, all, low, high, most)

low_log : (len log : ℕ) → len ≤ 272 * log → log ≤ 65536 → len < 2 ^ 32
low_log len log short low = omega (arith, short, low)

pub journals_are_short : JournalsAreShort
journals_are_short layout journal ok h within =
    added_up (length journal) (passed (is_in_end layout) 256 journal) (passed is_in_interface layout.nodes journal) layout.nodes layout.log
    (within_passed layout [] journal ok h)
    (passed-le (is_in_end layout) 256 layout.log journal (λ k low. few_in_end layout journal within k))
    (passed-le is_in_interface layout.nodes layout.log journal (few_in_interface layout journal within))
    (nodes_times layout.nodes layout.log ok.nodes.1)

pub journals_are_numbered : JournalsAreNumbered
journals_are_numbered layout journal ok h within =
    low_log (length journal) layout.log (journals_are_short layout journal ok h within) ok.log.1
