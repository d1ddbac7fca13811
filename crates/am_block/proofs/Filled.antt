-- Rows of places that all have an item, and rows that are being emptied.
use Rattle.std.proofs.Common.{◌≡◌, ◌≢◌, ℕ, zero, suc, ◌+◌, ◌<◌, ◌≤◌, List, [], ◌∷◌, length, map, replicate, Option, Some, None, get_or, slice_get, refl, sym}
use Rattle.std.proofs.Common.{ap, ◌∙◌, subst, arith, inl, inr, get_or-set_other, get_or-set_same}
use Rattle.std.proofs.Math.ListN.{set}
use Rattle.std.proofs.lemmas.Bool.{cases_order}
use Rattle.am_block_row.specs.Places.{IsFilled}
use Rattle.am_block.specs.Places.{somes}

module _ {X : Type 0} where
  -- each place has an item
  abbrev pub IsFull : List (Option X) → Type 0
  IsFull cs = cs ≡ map Some (somes cs)

  pub somes-map : (xs : List X) → somes (map Some xs) ≡ xs
  somes-map [] = refl
  somes-map (x ∷ xs) = ap (λ ys. x ∷ ys) (somes-map xs)

  -- what is so of a row of items is so of a full row
  of_full : (P : List (Option X) → List X → Type 0) → ((xs : List X) → P (map Some xs) xs) → (cs : List (Option X)) → IsFull cs → P cs (somes cs)
  of_full P h cs full = subst (λ (ds : List (Option X)). P ds (somes cs)) (sym full) (h (somes cs))

  length-items : (xs : List X) → length xs ≡ length (map Some xs)
  length-items [] = refl
  length-items (x ∷ xs) = ap (λ n. suc n) (length-items xs)

  pub length-somes : (cs : List (Option X)) → IsFull cs → length (somes cs) ≡ length cs
  length-somes = of_full (λ cs xs. length xs ≡ length cs) length-items

  held-items : (i : ℕ) (xs : List X) → get_or (map Some xs) i None ≡ slice_get xs i
  held-items i [] = refl
  held-items zero (x ∷ xs) = refl
  held-items (suc i) (x ∷ xs) = held-items i xs

  pub held : (cs : List (Option X)) (i : ℕ) → IsFull cs → get_or cs i None ≡ slice_get (somes cs) i
  held cs i = of_full (λ ds xs. get_or ds i None ≡ slice_get xs i) (held-items i) cs

  filled-items : (i : ℕ) (xs : List X) → i < length (map Some xs) → IsFilled (map Some xs) i
  filled-items i [] lt = absurd (omega arith)
  filled-items zero (x ∷ xs) lt = (x, refl)
  filled-items (suc i) (x ∷ xs) lt = filled-items i xs (omega arith)

  pub filled : (cs : List (Option X)) (i : ℕ) → IsFull cs → i < length cs → IsFilled cs i
  filled cs i = of_full (λ ds xs. i < length ds → IsFilled ds i) (filled-items i) cs

  set-items : (i : ℕ) (x : X) (xs : List X) → set (map Some xs) i (Some x) ≡ map Some (set xs i x)
  set-items i x [] = refl
  set-items zero x (y ∷ ys) = refl
  set-items (suc i) x (y ∷ ys) = ap (λ zs. Some y ∷ zs) (set-items i x ys)

  written : (cs : List (Option X)) (i : ℕ) (x : X) → IsFull cs → set cs i (Some x) ≡ map Some (set (somes cs) i x)
  written cs i x = of_full (λ ds xs. set ds i (Some x) ≡ map Some (set xs i x)) (set-items i x) cs

  pub somes-set : (cs : List (Option X)) (i : ℕ) (x : X) → IsFull cs → somes (set cs i (Some x)) ≡ set (somes cs) i x
  somes-set cs i x full = ap somes (written cs i x full) ∙ somes-map (set (somes cs) i x)

  pub full-set : (cs : List (Option X)) (i : ℕ) (x : X) → IsFull cs → IsFull (set cs i (Some x))
  full-set cs i x full = written cs i x full ∙ ap (map Some) (sym (somes-set cs i x full))

  pub full-copies : (n : ℕ) (cs : List (Option X)) (x : X) → cs ≡ map Some (replicate n x) → IsFull cs
  full-copies n cs x e = e ∙ ap (map Some) (sym (ap somes e ∙ somes-map (replicate n x)))

  pub copies : (n : ℕ) (cs : List (Option X)) (x : X) → length cs ≡ n → ((k : ℕ) → k < n → get_or cs k None ≡ Some x) → cs ≡ map Some (replicate n x)
  copies zero [] x e h = refl
  copies zero (c ∷ cs) x e h = absurd (omega arith)
  copies (suc n) [] x e h = absurd (omega arith)
  copies (suc n) (c ∷ cs) x e h =
      ap (λ d. d ∷ cs) (h 0 (omega arith)) ∙ ap (λ ds. Some x ∷ ds) (copies n cs x (omega arith) (λ k lt. h (suc k) (omega arith)))

  -- place after place the same
  pub all_same : (n : ℕ) (cs : List (Option X)) (c : Option X) → length cs ≡ n → ((k : ℕ) → k < n → get_or cs k None ≡ c) → cs ≡ replicate n c
  all_same zero [] c e h = refl
  all_same zero (d ∷ ds) c e h = absurd (omega arith)
  all_same (suc n) [] c e h = absurd (omega arith)
  all_same (suc n) (d ∷ ds) c e h =
      ap (λ b. b ∷ ds) (h 0 (omega arith)) ∙ ap (λ bs. c ∷ bs) (all_same n ds c (omega arith) (λ k lt. h (suc k) (omega arith)))

  -- once place i is empty too, the first i + 1 are
  pub emptied-done : (cs ds : List (Option X)) (i : ℕ) → ds ≡ set cs i None → i < length cs → ((k : ℕ) → k < i → get_or cs k None ≡ None) → (k : ℕ) →
      k < i + 1 → get_or ds k None ≡ None
  emptied-done cs ds i e lt h k b =
      let P : List (Option X) → Type 0 = λ bs. get_or bs k None ≡ None in
      subst P (sym e) (elim (cases_order k i) as (λ _. P (set cs i None)) [
        | inl same ↦ ap (λ m. get_or (set cs i None) m None) same ∙ get_or-set_same cs i None None lt
        | inr o ↦ let ne : k ≢ i = omega arith in get_or-set_other cs i k None None ne ∙ h k (omega arith)
      ])

  -- and those behind keep their items
  pub emptied-rest : (cs ds : List (Option X)) (i n : ℕ) → ds ≡ set cs i None → ((k : ℕ) → i ≤ k → k < n → IsFilled cs k) → (k : ℕ) → i + 1 ≤ k → k < n →
      IsFilled ds k
  emptied-rest cs ds i n e h k ge lt =
      let it = h k (omega arith) lt in
      let ne : k ≢ i = omega arith in
      (it.0, ap (λ bs. get_or bs k None) e ∙ get_or-set_other cs i k None None ne ∙ it.1)
