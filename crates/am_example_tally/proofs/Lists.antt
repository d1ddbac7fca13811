-- What two threads wrote, with what they didn't.
use Rattle.std.proofs.Common.{◌≡◌, ℕ, ◌-◌, List, ◌++◌, length, take, take_all, drop, length-drop, sym, subst, arith}
use Rattle.std.proofs.lemmas.List.{take-append-drop}
use Rattle.am_places_stays.specs.Stays.{IsMerge}
use Rattle.am_places_stays.proofs.Merges.{left_behind, right_behind}

-- the rest of a list, as a slice has it
pub rest_is : (xs : List ℕ) (a : ℕ) → take (length xs - a) (drop a xs) ≡ drop a xs
rest_is xs a = take_all (length xs - a) (drop a xs) (omega (arith, length-drop a xs))

pub all_lines : (ours theirs first second zs lines : List ℕ) (a b : ℕ) → first ≡ take a ours → second ≡ take b theirs → IsMerge first second zs →
    lines ≡ (zs ++ drop a ours) ++ drop b theirs → IsMerge ours theirs lines
all_lines ours theirs first second zs lines a b one two merge is =
    subst (IsMerge ours theirs) (sym is)
    (subst (λ (ys : List ℕ). IsMerge ours ys ((zs ++ drop a ours) ++ drop b theirs)) (take-append-drop b theirs)
    (right_behind ours (take b theirs) (zs ++ drop a ours) (drop b theirs)
    (subst (λ (xs : List ℕ). IsMerge xs (take b theirs) (zs ++ drop a ours)) (take-append-drop a ours)
    (left_behind (take a ours) (take b theirs) zs (drop a ours) (coe 0 1 (i. IsMerge (one i) (two i) zs) merge)))))
