-- An endpoint and a thread on each node.
use Rattle.std.proofs.Common.{◌≡◌, ℕ, ◌+◌, ◌<◌, Err, subst, List, [], ◌∷◌, ◌++◌, sym, ap, ◌∙◌, false, length, map, append_assoc, length-append, arith}
use Rattle.std.specs.List.{range_with_len}
use Rattle.std.proofs.lemmas.List.{append-nil}
use Rattle.std.proofs.lemmas.List.FromFn.{length-map-range_with_len}
use Rattle.am_lemmas.proofs.Numbered.{lines_more}
use Rattle.am_names.specs.declared.EndpointId.{EndpointId}
use Rattle.am_names.specs.declared.Tag.{Tag}
use Rattle.am_scenario_types.specs.Lists.{ScenarioLists}
use Rattle.am_library_drafts.specs.declared.draft.DraftFault.{DraftFault}
use Rattle.am_library_drafts.specs.Drafts.{IsNodeRefused, IsRefusedFor, NoEnd, NoThread, end_fault, end_on, node_numbered, thread_fault, thread_on, with_end, with_nodes}
use Rattle.am_library_drafts.specs.Drafts.{with_thread}

longer : {X : Type 0} (line : ℕ → X) (xs : List X) (n : ℕ) → length (xs ++ map line (range_with_len 0 n)) ≡ length xs + n
longer line xs n = omega (arith, length-append xs (map line (range_with_len 0 n)), length-map-range_with_len line 0 n)

one_more : {X : Type 0} (line : ℕ → X) (xs : List X) (n : ℕ) →
    (xs ++ map line (range_with_len 0 n)) ++ line n ∷ [] ≡ xs ++ map line (range_with_len 0 (n + 1))
one_more {X} line xs n =
    append_assoc xs (map line (range_with_len 0 n)) (line n ∷ [])
    ∙ ap (λ (l : List X). xs ++ l) (sym (lines_more line n))

pub nodes_none : (s : ScenarioLists) (tag : Tag) → s ≡ with_nodes s tag 0
nodes_none s tag = λ i. record s { ends = sym (append-nil s.ends) i; threads = sym (append-nil s.threads) i }

-- a node more
next_node : (s : ScenarioLists) (tag : Tag) (n : ℕ) →
    with_thread (with_end (with_nodes s tag n) (node_numbered n) tag) (node_numbered n) ≡ with_nodes s tag (n + 1)
next_node s tag n =
    let before = with_nodes s tag n in
    (λ i. record before {
      ends = before.ends ++ (record { id = record { 0 = longer (end_on s tag) s.ends n i }; node = node_numbered n; tag = tag; disk = false }) ∷ [];
      threads = before.threads ++ (record { id = longer (thread_on s) s.threads n i; node = node_numbered n }) ∷ [];
    })
    ∙ (λ i. record s { ends = one_more (end_on s tag) s.ends n i; threads = one_more (thread_on s) s.threads n i })

pub nodes_more : (s a b c : ScenarioLists) (tag : Tag) (n : ℕ) → a ≡ with_nodes s tag n → b ≡ with_end a (node_numbered n) tag →
    c ≡ with_thread b (node_numbered n) → c ≡ with_nodes s tag (n + 1)
nodes_more s a b c tag n so_far end thread =
    thread
    ∙ ap (λ (t : ScenarioLists). with_thread t (node_numbered n))
    (end ∙ ap (λ (t : ScenarioLists). with_end t (node_numbered n) tag) so_far)
    ∙ next_node s tag n

-- a node of which one is refused
pub no_end : (s a b : ScenarioLists) (tag : Tag) (n : ℕ) (fault : DraftFault) → n < s.nodes → a ≡ with_nodes s tag n → b ≡ a →
    IsRefusedFor {A = EndpointId} (Err fault) (end_fault a (node_numbered n)) → IsNodeRefused s tag b fault
no_end s a b tag n fault within so_far same refused =
    NoEnd n within (same ∙ so_far)
    (subst (λ (t : ScenarioLists). IsRefusedFor {A = EndpointId} (Err fault) (end_fault t (node_numbered n))) (sym same) refused)

pub no_thread : (s a b c : ScenarioLists) (tag : Tag) (n : ℕ) (fault : DraftFault) → n < s.nodes → a ≡ with_nodes s tag n →
    b ≡ with_end a (node_numbered n) tag → c ≡ b → IsRefusedFor {A = ℕ} (Err fault) (thread_fault b (node_numbered n)) → IsNodeRefused s tag c fault
no_thread s a b c tag n fault within so_far end same refused =
    NoThread n within (same ∙ end ∙ ap (λ (t : ScenarioLists). with_end t (node_numbered n) tag) so_far)
    (subst (λ (t : ScenarioLists). IsRefusedFor {A = ℕ} (Err fault) (thread_fault t (node_numbered n))) (sym same) refused)
