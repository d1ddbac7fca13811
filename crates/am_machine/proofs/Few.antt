-- How many entries the journal of a cluster can have, and so what its index can count and stamp.
use Rattle.std.specs.Prelude.{count_by}
use Rattle.std.proofs.Common.{◌≡◌, ℕ, zero, suc, ◌+◌, ◌*◌, ◌<◌, ◌≤◌, ◌^◌, ◌==◌, Bool, true, false, List, [], ◌∷◌, length, map, refl, sym, ap, ◌∙◌, arith}
use Rattle.std.proofs.Common.{length-append, eq-eqb, true≢false, if◌then◌else◌}
use Rattle.std.proofs.lemmas.List.{length-map}
use Rattle.std.proofs.lemmas.List.Sums.{sum_by-cons}
use Rattle.am_names.specs.declared.NodeId.{NodeId}
use Rattle.am_names.specs.Names.{same_node}
use Rattle.am_office_entries.specs.declared.Entry.{Entry}
use Rattle.am_model.specs.Layout.{AllAre, EndSetting, IsLawful, IsSettingLawful, Layout, node_at}
use Rattle.am_model.specs.Merge.{is_before}
use Rattle.am_model.proofs.Received.{bit}
use Rattle.am_model.proofs.Alls.{all_by_place, all_append}
use Rattle.am_model_merge.specs.Merged.{entries_of, inserted, is_same, sorted}
use Rattle.am_iface.specs.View.{InterfaceView}
use Rattle.am_swap_device.specs.Memory.{Store}
use Rattle.am_machine_journal.specs.Index.View.{CanCount, IsIndexOf, Readings}
use Rattle.am_machine_journal.proofs.Growing.{can_count}
use Rattle.am_driver_moves.specs.Logs.{EndLog}
use Rattle.am_machine.specs.Ends.{setting_in}
use Rattle.am_machine.specs.Kept.{IsKept, IsOwn, IsShort, end_logs, interface_logs, logs_in}
use Rattle.am_machine.proofs.Merging.{kept_merges}

-- ---- how many endpoints there are

abbrev at_node : ℕ → List EndSetting → ℕ
at_node n ss = count_by (λ (s : EndSetting). same_node (node_at n) s.node) ss

abbrev at_nodes : ℕ → List EndSetting → ℕ
at_nodes zero ss = 0
at_nodes (suc n) ss = at_node n ss + at_nodes n ss

node_more : (n : ℕ) (s : EndSetting) (ss : List EndSetting) → at_node n (s ∷ ss) ≡ bit (same_node (node_at n) s.node) + at_node n ss
node_more n s ss = sum_by-cons (λ (t : EndSetting). bit (same_node (node_at n) t.node)) s ss

no_fewer : (n : ℕ) (s : EndSetting) (ss : List EndSetting) → at_nodes n ss ≤ at_nodes n (s ∷ ss)
no_fewer zero s ss = omega arith
no_fewer (suc n) s ss = let one = node_more n s ss in let more = no_fewer n s ss in omega (arith, one, more)

below : (n k : ℕ) → k < suc n → (k ≡ n → ⊥) → k < n
below n k lt apart = omega arith

one_more : (n : ℕ) (s : EndSetting) (ss : List EndSetting) → s.node.0 < n → at_nodes n ss + 1 ≤ at_nodes n (s ∷ ss)
one_more zero s ss lt = absurd (omega (arith, lt))
one_more (suc n) s ss lt = by_test (n == s.node.0) refl (one_more n s ss)
  where
    by_test : (t : Bool) → (n == s.node.0) ≡ t → (s.node.0 < n → at_nodes n ss + 1 ≤ at_nodes n (s ∷ ss)) → at_nodes (suc n) ss + 1 ≤ at_nodes (suc n) (s ∷ ss)
    by_test true is less =
        let here = node_more n s ss in
        let one : bit (same_node (node_at n) s.node) ≡ 1 = ap bit is in
        let more = no_fewer n s ss in
        omega (arith, here, one, more)
    by_test false is less =
        let here = node_more n s ss in
        let more = less (below n s.node.0 lt (λ same. true≢false (sym (eq-eqb n s.node.0 (sym same)) ∙ is))) in
        omega (arith, here, more)

all_there : (layout : Layout) (ss : List EndSetting) → AllAre (IsSettingLawful layout) ss → length ss ≤ at_nodes layout.nodes ss
all_there layout [] all = omega arith
all_there layout (s ∷ ss) all = let more = all_there layout ss all.1 in let here = one_more layout.nodes s ss all.0.node in omega (arith, more, here)

at_most : (n : ℕ) (ss : List EndSetting) → ((node : NodeId) → count_by (λ (s : EndSetting). same_node node s.node) ss ≤ 64) → at_nodes n ss ≤ n * 64
at_most zero ss room = omega arith
at_most (suc n) ss room = let here : at_node n ss ≤ 64 = room (node_at n) in let more = at_most n ss room in omega (arith, here, more)

ends_few : (layout : Layout) → IsLawful layout → length layout.ends ≤ 1024
ends_few layout lawful =
    let all = all_there layout layout.ends lawful.ends in
    let most = at_most layout.nodes layout.ends lawful.room in
    let nodes = lawful.nodes.1 in
    omega (arith, all, most, nodes)

-- ---- how many entries their logs have

inserted_length : (x : Entry) (ys : List Entry) → length (inserted x ys) ≤ length ys + 1
inserted_length x [] = omega arith
inserted_length x (y ∷ ys) = by_tests (is_same x y) (is_before x y) (inserted_length x ys)
  where
    by_tests : (s b : Bool) → length (inserted x ys) ≤ length ys + 1 →
        length (if s then y ∷ ys else (if b then x ∷ y ∷ ys else y ∷ inserted x ys)) ≤ length (y ∷ ys) + 1
    by_tests true b more = omega arith
    by_tests false true more = omega arith
    by_tests false false more = omega (arith, more)

sorted_length : (xs : List Entry) → length (sorted xs) ≤ length xs
sorted_length [] = omega arith
sorted_length (x ∷ xs) = let more = sorted_length xs in let here = inserted_length x (sorted xs) in omega (arith, more, here)

abbrev IsBounded : List Entry → Type 0
IsBounded log = length log ≤ 65536

entries_few : (logs : List (List Entry)) → AllAre IsBounded logs → length (entries_of logs) ≤ length logs * 65536
entries_few [] all = omega arith
entries_few (log ∷ logs) all =
    let more = entries_few logs all.1 in
    let here = all.0 in
    let longer = length-append log (entries_of logs) in
    omega (arith, more, here, longer)

end_bounded : (layout : Layout) (journal : List Entry) (es : List EndLog) → layout.log ≤ 65536 → AllAre (IsOwn layout journal) es → AllAre IsShort es →
    AllAre IsBounded (end_logs es)
end_bounded layout journal [] most own short = tt
end_bounded layout journal (e ∷ es) most own short =
    (let limit = own.0.limit in let few = short.0 in omega (arith, limit, few, most), end_bounded layout journal es most own.1 short.1)

interface_bounded : (layout : Layout) (journal : List Entry) (is : List InterfaceView) → layout.log ≤ 65536 →
    AllAre (λ (i : InterfaceView). length i.log ≤ layout.log) is → AllAre IsBounded (interface_logs is)
interface_bounded layout journal [] most all = tt
interface_bounded layout journal (i ∷ is) most all = (let here = all.0 in omega (arith, here, most), interface_bounded layout journal is most all.1)

pub journal_few : (layout : Layout) (es : List EndLog) (journal : List Entry) (is : List InterfaceView) (ss : List Store) → layout.ends ≡ map setting_in es →
    IsKept layout es journal is ss → length journal + 1 < 2 ^ 63
journal_few layout es journal is ss ends k =
    let merges = ap (λ (l : List Entry). length l) (kept_merges layout es journal is ss ends k) in
    let most = k.tied.lawful.log.1 in
    let bounded = all_append IsBounded (end_logs es) (interface_logs is) (end_bounded layout journal es most k.tied.own k.tied.short)
    (interface_bounded layout journal is most (all_by_place (λ (i : InterfaceView). length i.log ≤ layout.log) is
    (λ n i at. (k.interfaces'.each n i at).bounded))) in
    let sorted' = sorted_length (entries_of (logs_in es is)) in
    let entries = entries_few (logs_in es is) bounded in
    let both = length-append (end_logs es) (interface_logs is) in
    let as_many_ends = length-map es (λ (e : EndLog). e.log) in
    let as_many = length-map is (λ (i : InterfaceView). i.log) in
    let settings = ap (λ (l : List EndSetting). length l) ends ∙ length-map es setting_in in
    let few = ends_few layout k.tied.lawful in
    let interfaces = interfaces_few layout.direct in
    omega (arith, merges, sorted', entries, both, as_many_ends, as_many, settings, few, k.interfaces'.all, interfaces)
  where
    interfaces_few : (b : Bool) → (if b then 0 else layout.nodes) ≤ 16
    interfaces_few true = omega arith
    interfaces_few false = k.tied.lawful.nodes.1

-- ---- what its index can count and stamp

pub stamp_fits : (layout : Layout) (es : List EndLog) (journal : List Entry) (is : List InterfaceView) (ss : List Store) (r : Readings) →
    layout.ends ≡ map setting_in es → IsKept layout es journal is ss → IsIndexOf journal r → r.greatest + 1 < 2 ^ 64
stamp_fits layout es journal is ss r ends k index =
    let few = journal_few layout es journal is ss ends k in
    omega (arith, few, index.greatest, k.tied.early)

pub counts_fit : (layout : Layout) (es : List EndLog) (journal : List Entry) (is : List InterfaceView) (ss : List Store) (r : Readings) →
    layout.ends ≡ map setting_in es → IsKept layout es journal is ss → IsIndexOf journal r → CanCount r
counts_fit layout es journal is ss r ends k index =
    let few = journal_few layout es journal is ss ends k in
    can_count journal r index (omega (arith, few))
