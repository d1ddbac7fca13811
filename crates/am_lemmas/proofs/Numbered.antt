-- Lines that numbers make, for the numbers below another: each line's key is its number, so the keys rise, and a key finds its line.
use Rattle.std.proofs.Common.{◌≡◌, ℕ, zero, suc, ◌+◌, ◌<◌, ◌≤◌, ◌==◌, Bool, cond, List, [], ◌∷◌, ◌++◌, map, Option, Some, None, refl, sym, ap, ◌∙◌, subst}
use Rattle.std.proofs.Common.{arith, ⊎_elim, find, All, AllPairs}
use Rattle.std.specs.List.{range_with_len}
use Rattle.std.specs.Option.{option_or}
use Rattle.std.proofs.lemmas.Bool.{cases_lt, eq-eqb}
use Rattle.std.proofs.lemmas.List.Elements.{All-nil, All-push, All-weaker}
use Rattle.std.proofs.lemmas.List.Folds.{find-append}
use Rattle.std.proofs.lemmas.List.FromFn.{map-range_with_len_more}
use Rattle.am_lemmas.proofs.Lists.{all_pairs_none, all_pairs_grow}
use Rattle.am_lemmas.proofs.Numbers.{eqb_less}

module _ {X : Type 0} (line : ℕ → X) where
  pub lines_more : (n : ℕ) → map line (range_with_len 0 (n + 1)) ≡ map line (range_with_len 0 n) ++ line n ∷ []
  lines_more n = map-range_with_len_more line 0 n n (omega arith)

  lines_suc : (n : ℕ) → map line (range_with_len 0 (suc n)) ≡ map line (range_with_len 0 n) ++ line n ∷ []
  lines_suc n = let next : suc n ≡ n + 1 = omega arith in ap (λ (k : ℕ). map line (range_with_len 0 k)) next ∙ lines_more n

  pub lines_all : (P : X → Type 0) (n : ℕ) → ((k : ℕ) → k < n → P (line k)) → All P (map line (range_with_len 0 n))
  lines_all P zero each = All-nil P
  lines_all P (suc n) each =
      subst (λ (xs : List X). All P xs) (sym (lines_suc n))
      (All-push P (map line (range_with_len 0 n)) (line n) (lines_all P n (λ k less. each k (omega (arith, less)))) (each n (omega arith)))

  module _ (key : X → ℕ) (numbered : (n : ℕ) → key (line n) ≡ n) where
    keys_below : (n : ℕ) → All (λ x. key x < n) (map line (range_with_len 0 n))
    keys_below n = lines_all (λ x. key x < n) n (λ k less. omega (arith, less, numbered k))

    pub keys_rise : (n : ℕ) → AllPairs (λ a b. key a < key b) (map line (range_with_len 0 n))
    keys_rise zero = all_pairs_none (λ a b. key a < key b)
    keys_rise (suc n) =
        subst (λ (xs : List X). AllPairs (λ a b. key a < key b) xs) (sym (lines_suc n))
        (all_pairs_grow (λ a b. key a < key b) (map line (range_with_len 0 n)) (line n) (keys_rise n)
        (All-weaker (λ x. key x < n) (λ x. key x < key (line n)) (λ x less. omega (arith, less, numbered n)) (map line (range_with_len 0 n)) (keys_below n)))

    found_more : (n k : ℕ) → find (λ x. key x == k) (map line (range_with_len 0 (suc n))) ≡ option_or (find (λ x. key x == k) (map line (range_with_len 0 n)))
        (cond (n == k) (Some (line n)) None)
    found_more n k =
        ap (λ (xs : List X). find (λ x. key x == k) xs) (lines_suc n)
        ∙ find-append (λ x. key x == k) (map line (range_with_len 0 n)) (line n ∷ [])
        ∙ ap (λ (i : ℕ). option_or (find (λ x. key x == k) (map line (range_with_len 0 n))) (cond (i == k) (Some (line n)) None)) (numbered n)

    not_found : (n k : ℕ) → n ≤ k → find (λ x. key x == k) (map line (range_with_len 0 n)) ≡ None
    not_found zero k above = refl
    not_found (suc n) k above =
        found_more n k
        ∙ ap (λ (o : Option X). option_or o (cond (n == k) (Some (line n)) None)) (not_found n k (omega (arith, above)))
        ∙ ap (λ (b : Bool). cond b (Some (line n)) None) (eqb_less n k (omega (arith, above)))

    -- the key of a line finds that line
    pub key_finds : (n k : ℕ) → k < n → find (λ x. key x == k) (map line (range_with_len 0 n)) ≡ Some (line k)
    key_finds zero k below = absurd (omega (arith, below))
    key_finds (suc n) k below =
        ⊎_elim
        (λ (less : k < n). found_more n k ∙ ap (λ (o : Option X). option_or o (cond (n == k) (Some (line n)) None)) (key_finds n k less))
        (λ (least : n ≤ k).
        let same : n ≡ k = omega (arith, least, below) in
        found_more n k
        ∙ ap (λ (o : Option X). option_or o (cond (n == k) (Some (line n)) None)) (not_found n k least)
        ∙ ap (λ (b : Bool). cond b (Some (line n)) None) (eq-eqb n k same)
        ∙ ap (λ (i : ℕ). Some (line i)) same)
        (cases_lt k n)
