-- Parts of a list.
use Rattle.std.proofs.Common.{◌≡◌, ℕ, ◌-◌, ◌≤◌, List, ◌++◌, length, take, drop, sym, ◌∙◌, ap, append_assoc, arith, length-append, length-take}
use Rattle.std.proofs.lemmas.List.{take-append-drop}
use Rattle.std.proofs.Math.Seq.{take-append_seam}

-- the first part of a beginning of a list
pub first_part : {X : Type 0} (xs ys zs : List X) (n k : ℕ) → xs ++ ys ≡ take n zs → n ≤ length zs → k ≡ length ys → take (n - k) zs ≡ xs
first_part xs ys zs n k e lt size = (λ i. take (count i) (whole i)) ∙ take-append_seam xs (ys ++ drop n zs)
  where
    count : n - k ≡ length xs
    count = omega (arith, ap length e, length-append xs ys, length-take n zs, lt, size)

    whole : zs ≡ xs ++ (ys ++ drop n zs)
    whole = sym (take-append-drop n zs) ∙ ap (λ l. l ++ drop n zs) (sym e) ∙ append_assoc xs ys (drop n zs)
