-- Entries that meet no full log leave each log as short as it is to be.
use Rattle.std.specs.Prelude.{nat_le, filter, count_by, if◌then◌else◌}
use Rattle.std.proofs.Common.{◌≡◌, ℕ, ◌+◌, ◌≤◌, ◌<◌, Bool, true, false, cond, List, [], ◌∷◌, ◌++◌, length, Option, Some, None, refl, sym, subst, arith}
use Rattle.std.proofs.Common.{append_assoc, append-nil, true≢false}
use Rattle.std.proofs.lemmas.Bool.{leb-false}
use Rattle.std.proofs.lemmas.List.Sums.{length-filter, sum_by_push}
use Rattle.am_names.specs.declared.EndpointId.{EndpointId}
use Rattle.am_names.specs.declared.NodeId.{NodeId}
use Rattle.am_office_entries.specs.declared.Entry.{Entry}
use Rattle.am_office_entries.specs.declared.Part.{Part}
use Rattle.am_office_entries.specs.declared.Part.TheVariants as Parts
use Rattle.am_office_entries.specs.Entries.{ends_touched, node_touched, is_node, touches, touches_node}
use Rattle.am_model.specs.Steps.{is_end_full, is_node_full, least_such, full_by}
use Rattle.am_model.proofs.Names.{same_node-is}
use Rattle.am_model.proofs.Chosen.{least_such-None}
use Rattle.am_scenario_types.specs.Lists.{ScenarioLists}
use Rattle.am_model_scripts.specs.Layout.{layout_of}
use Rattle.am_model.specs.Parts.{touches_part}
use Rattle.am_model_drain.specs.Cut.{full_for}
use Rattle.am_laws_runs.specs.Drained.{HasShortLogs, RoomKeepsLogs}

-- ---- where an entry meets no full log the log of each part that it touches has room

count_low : (p : Entry → Bool) (log : ℕ) (past : List Entry) → nat_le log (length (filter p past)) ≡ false → count_by p past < log
count_low p log past h =
    let few : length (filter p past) < log = leb-false log (length (filter p past)) h in
    omega (arith, few, length-filter p past)

end_has_room : (s : ScenarioLists) (past : List Entry) (x : Entry) (e : EndpointId) (o : Option EndpointId) →
    least_such (is_end_full (layout_of s) past) (ends_touched x.event x.outcome) ≡ o → full_by (layout_of s) past o (node_touched x.event) ≡ None →
    touches e x ≡ true → count_by (touches e) past < s.log
end_has_room s past x e None is none at =
    count_low (touches e) s.log past (least_such-None (is_end_full (layout_of s) past) (ends_touched x.event x.outcome) e is at)
end_has_room s past x e (Some f) is none at = absurd (cc)

node_has_room : (s : ScenarioLists) (past : List Entry) (node : NodeId) (o : Option EndpointId) (n : Option NodeId) → full_by (layout_of s) past o n ≡ None →
    is_node node n ≡ true → count_by (touches_node node) past < s.log
node_has_room s past node (Some e) n none at = absurd (cc)
node_has_room s past node None None none at = absurd (true≢false (sym at))
node_has_room s past node None (Some other) none at = by_test (is_node_full (layout_of s) past other) refl none
  where
    by_test : (b : Bool) → is_node_full (layout_of s) past other ≡ b → (if b then Some (Parts.Interface other) else None) ≡ None →
        count_by (touches_node node) past < s.log
    by_test true is h = absurd (cc)
    by_test false is h =
        subst (λ (i : NodeId). count_by (touches_node i) past < s.log) (sym (same_node-is node other at))
        (count_low (touches_node other) s.log past is)

has_room : (s : ScenarioLists) (past : List Entry) (x : Entry) (part : Part) → full_for s past x ≡ None → touches_part part x ≡ true →
    count_by (touches_part part) past < s.log
has_room s past x (Parts.Endpoint e) none at = end_has_room s past x e (least_such (is_end_full (layout_of s) past) (ends_touched x.event x.outcome)) refl none
    at
has_room s past x (Parts.Interface node) none at = node_has_room s past node (least_such (is_end_full (layout_of s) past) (ends_touched x.event x.outcome))
    (node_touched x.event) none at

-- ---- one entry more

logs_more : (s : ScenarioLists) (past : List Entry) (x : Entry) → HasShortLogs s past → full_for s past x ≡ None → HasShortLogs s (past ++ x ∷ [])
logs_more s past x short none part = by_test (touches_part part x) refl (sum_by_push (λ (y : Entry). let n : ℕ = cond (touches_part part y) 1 0 in n) past x)
  where
    by_test : (b : Bool) → touches_part part x ≡ b → count_by (touches_part part) (past ++ x ∷ []) ≡ count_by (touches_part part) past + cond b 1 0 →
        count_by (touches_part part) (past ++ x ∷ []) ≤ s.log
    by_test true is more = omega (arith, more, has_room s past x part none is)
    by_test false is more = omega (arith, more, short part)

pub room_keeps_logs : RoomKeepsLogs
room_keeps_logs s past [] short room = subst (λ (xs : List Entry). HasShortLogs s xs) (sym (append-nil past)) short
room_keeps_logs s past (x ∷ xs) short room =
    subst (λ (ys : List Entry). HasShortLogs s ys) (append_assoc past (x ∷ []) xs) (room_keeps_logs s (past ++ x ∷ []) xs (logs_more s past x short room.0)
    room.1)
