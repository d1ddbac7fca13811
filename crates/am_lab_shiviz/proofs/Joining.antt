-- The greater counts, node by node.
use Rattle.std.proofs.Common.{◌≡◌, ℕ, ◌+◌, ◌<◌, ◌≤◌, List, [], ◌∷◌, ◌++◌, max, sym, ap, ◌∙◌, append_assoc, arith, drop, get_or, length, set, take}
use Rattle.std.proofs.lemmas.List.{append-nil, drop-set-lt, drop_all, drop_more, take_all, take_more_set}
use Rattle.am_lab_shiviz.specs.Clocks.{greater_counts}

-- one node more
pub one_greater : (counts others : List ℕ) (node : ℕ) (count : ℕ) (all : List ℕ) → node < length counts → node < length others →
    count ≡ max (get_or counts node 0) (get_or others node 0) → take node counts ++ greater_counts (drop node counts) (drop node others) ≡ all →
    take (node + 1) (set counts node count) ++ greater_counts (drop (node + 1) (set counts node count)) (drop (node + 1) others) ≡ all
one_greater counts others node count all here there is stands =
    let rest : List ℕ = greater_counts (drop (node + 1) counts) (drop (node + 1) others) in
    let less : node < node + 1 = omega arith in
    ap (λ (l : List ℕ). l ++ greater_counts (drop (node + 1) (set counts node count)) (drop (node + 1) others)) (take_more_set counts node count here)
    ∙ ap (λ (l : List ℕ). take node counts ++ count ∷ [] ++ greater_counts l (drop (node + 1) others)) (drop-set-lt (node + 1) counts node count less)
    ∙ append_assoc (take node counts) (count ∷ []) rest
    ∙ ap (λ (n : ℕ). take node counts ++ n ∷ rest) is
    ∙ ap (λ (l : List ℕ). take node counts ++ greater_counts l (get_or others node 0 ∷ drop (node + 1) others)) (sym (drop_more counts node 0 here))
    ∙ ap (λ (l : List ℕ). take node counts ++ greater_counts (drop node counts) l) (sym (drop_more others node 0 there))
    ∙ stands

-- no node more
pub all_greater : (counts others : List ℕ) (node : ℕ) (all : List ℕ) → length counts ≤ node →
    take node counts ++ greater_counts (drop node counts) (drop node others) ≡ all → counts ≡ all
all_greater counts others node all far stands =
    sym (append-nil counts)
    ∙ ap (λ (l : List ℕ). l ++ []) (sym (take_all node counts far))
    ∙ ap (λ (l : List ℕ). take node counts ++ greater_counts l (drop node others)) (sym (drop_all node counts far))
    ∙ stands
