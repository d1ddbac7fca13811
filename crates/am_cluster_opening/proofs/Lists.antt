-- Elements of lists by their places, and lists that are taken from the front.
use Rattle.std.specs.Prelude.{slice_get, filter}
use Rattle.std.proofs.Common.{◌≡◌, ◌⊎◌, inl, inr, ⊎_elim, ℕ, zero, suc, ◌+◌, ◌<◌, Bool, true, false, cond, Some, List, [], ◌∷◌, ◌++◌, length, map, reverse}
use Rattle.std.proofs.Common.{refl, sym, ap, ◌∙◌, subst, arith, append_assoc}
use Rattle.std.proofs.lemmas.List.{length_push, reverse-append, reverse-reverse}
use lib.ListN.{get_elem?}
use mathlib.Core.Option.{some}
use Rattle.am_model.specs.Layout.{AllAre}

module _ {X : Type 0} where
  pub got_elem : (xs : List X) (k : ℕ) (x : X) → slice_get xs k ≡ Some x → get_elem? xs k ≡ some x
  got_elem [] k x h = absurd (cc)
  got_elem (y ∷ xs) zero x h = let same : y ≡ x = cc in ap (λ (z : X). some z) same
  got_elem (y ∷ xs) (suc k) x h = got_elem xs k x h

  pub elem_got : (xs : List X) (k : ℕ) (x : X) → get_elem? xs k ≡ some x → slice_get xs k ≡ Some x
  elem_got [] k x h = absurd (cc)
  elem_got (y ∷ xs) zero x h = let same : y ≡ x = cc in ap (λ (z : X). Some z) same
  elem_got (y ∷ xs) (suc k) x h = elem_got xs k x h

  pub got_low : (xs : List X) (k : ℕ) (x : X) → slice_get xs k ≡ Some x → k < length xs
  got_low [] k x h = absurd (cc)
  got_low (y ∷ xs) zero x h = omega arith
  got_low (y ∷ xs) (suc k) x h = let less = got_low xs k x h in omega (arith, less)

  pub got_all : (P : X → Type 0) (xs : List X) (k : ℕ) (x : X) → AllAre P xs → slice_get xs k ≡ Some x → P x
  got_all P [] k x all h = absurd (cc)
  got_all P (y ∷ xs) zero x all h = let same : y ≡ x = cc in subst P same all.0
  got_all P (y ∷ xs) (suc k) x all h = got_all P xs k x all.1 h

  pub all_got : (P : X → Type 0) (xs : List X) → ((k : ℕ) (x : X) → slice_get xs k ≡ Some x → P x) → AllAre P xs
  all_got P [] h = tt
  all_got P (x ∷ xs) h = (h zero x refl, all_got P xs (λ k y e. h (suc k) y e))

  pub all_front : (P : X → Type 0) (xs : List X) (x : X) → AllAre P (xs ++ x ∷ []) → AllAre P xs
  all_front P [] x h = tt
  all_front P (y ∷ xs) x h = (h.0, all_front P xs x h.1)

  pub all_last : (P : X → Type 0) (xs : List X) (x : X) → AllAre P (xs ++ x ∷ []) → P x
  all_last P [] x h = h.0
  all_last P (y ∷ xs) x h = all_last P xs x h.1

  all_more : (P : X → Type 0) (xs : List X) (x : X) → AllAre P xs → P x → AllAre P (xs ++ x ∷ [])
  all_more P [] x h p = (p, tt)
  all_more P (y ∷ xs) x h p = (h.0, all_more P xs x h.1 p)

  pub all_reversed : (P : X → Type 0) (xs : List X) → AllAre P xs → AllAre P (reverse xs)
  all_reversed P [] h = tt
  all_reversed P (x ∷ xs) h = subst (AllAre P) (sym (reverse-append (x ∷ []) xs)) (all_more P (reverse xs) x (all_reversed P xs h.1) h.0)

  pub got_kept : (q : X → Bool) (xs : List X) (k : ℕ) (x : X) → slice_get (filter q xs) k ≡ Some x → (j : ℕ) × (slice_get xs j ≡ Some x)
  got_kept q [] k x h = absurd (cc)
  got_kept q (y ∷ ys) k x h = by_test (q y) k h (got_kept q ys)
    where
      by_test : (b : Bool) (i : ℕ) → slice_get (cond b (y ∷ filter q ys) (filter q ys)) i ≡ Some x →
          ((i : ℕ) (z : X) → slice_get (filter q ys) i ≡ Some z → (j : ℕ) × (slice_get ys j ≡ Some z)) → (j : ℕ) × (slice_get (y ∷ ys) j ≡ Some x)
      by_test true zero e later = (zero, e)
      by_test true (suc i) e later = let more = later i x e in (suc more.0, more.1)
      by_test false i e later = let more = later i x e in (suc more.0, more.1)

  got_push : (xs : List X) (y : X) (k : ℕ) (x : X) → slice_get (xs ++ y ∷ []) k ≡ Some x → (slice_get xs k ≡ Some x) ⊎ ((k ≡ length xs) × (x ≡ y))
  got_push [] y zero x h = inr (refl, cc)
  got_push [] y (suc k) x h = absurd (cc)
  got_push (z ∷ xs) y zero x h = inl h
  got_push (z ∷ xs) y (suc k) x h = ⊎_elim (λ here. inl here) (λ (last : (k ≡ length xs) × (x ≡ y)). inr (ap suc last.0, last.1)) (got_push xs y k x h)

  -- what holds of each by its place, and of the next
  pub each_more : (P : ℕ → X → Type 0) (xs : List X) (y : X) (n : ℕ) → length xs ≡ n → ((k : ℕ) (x : X) → slice_get xs k ≡ Some x → P k x) → P n y →
      (k : ℕ) (x : X) → slice_get (xs ++ y ∷ []) k ≡ Some x → P k x
  each_more P xs y n len old new k x h =
      ⊎_elim
      (λ (here : slice_get xs k ≡ Some x). old k x here)
      (λ (last : (k ≡ length xs) × (x ≡ y)). subst (λ (w : X). P k w) (sym last.1) (subst (λ (m : ℕ). P m y) (sym (last.0 ∙ len)) new))
      (got_push xs y k x h)

  -- of these, so many were taken from the front, and the rest is to be taken from the end of this list
  pub record AreTaking (whole rest : List X) (count : ℕ) : Type 0 where
    pub taken : List X
    pub all : length taken ≡ count
    pub left : taken ++ reverse rest ≡ whole

  pub taking_begins : (whole : List X) → AreTaking whole (reverse whole) 0
  taking_begins whole = record { taken = []; all = refl; left = reverse-reverse whole }

  pub taking_more : (whole rest : List X) (x : X) (count : ℕ) → AreTaking whole (rest ++ x ∷ []) count → AreTaking whole rest (count + 1)
  taking_more whole rest x count t =
      record {
        taken = t.taken ++ x ∷ [];
        all = (let e = length_push t.taken x in let n = t.all in omega (arith, e, n));
        left = append_assoc t.taken (x ∷ []) (reverse rest) ∙ ap (λ (l : List X). t.taken ++ l) (sym (reverse-append rest (x ∷ []))) ∙ t.left;
      }

  got_first : (xs ys : List X) (y : X) → slice_get (xs ++ y ∷ ys) (length xs) ≡ Some y
  got_first [] ys y = refl
  got_first (x ∷ xs) ys y = got_first xs ys y

  -- the next is the element with that place
  pub taking_next : (whole rest : List X) (x : X) (count : ℕ) → AreTaking whole (rest ++ x ∷ []) count → slice_get whole count ≡ Some x
  taking_next whole rest x count t =
      subst (λ (n : ℕ). slice_get whole n ≡ Some x) t.all
      (subst (λ (l : List X). slice_get l (length t.taken) ≡ Some x) (ap (λ (l : List X). t.taken ++ l) (sym (reverse-append rest (x ∷ [])))
      ∙ t.left) (got_first t.taken (reverse rest) x))

  pub taking_ends : (whole : List X) (count : ℕ) → AreTaking whole [] count → length whole ≡ count
  taking_ends whole count t = ap length (sym t.left) ∙ nothing_more t.taken ∙ t.all
    where
      nothing_more : (xs : List X) → length (xs ++ []) ≡ length xs
      nothing_more [] = refl
      nothing_more (x ∷ xs) = ap suc (nothing_more xs)

  pub none_left : (xs : List X) → length xs ≡ 0 → xs ≡ []
  none_left [] e = refl
  none_left (x ∷ xs) e = absurd (omega (arith, e))

module _ {X Y : Type 0} (f : X → Y) where
  pub got_map : (xs : List X) (k : ℕ) (x : X) → slice_get xs k ≡ Some x → slice_get (map f xs) k ≡ Some (f x)
  got_map [] k x h = absurd (cc)
  got_map (y ∷ xs) zero x h = let same : y ≡ x = cc in ap (λ (z : X). Some (f z)) same
  got_map (y ∷ xs) (suc k) x h = got_map xs k x h

  pub all_mapped : (P : Y → Type 0) (xs : List X) → AllAre P (map f xs) → AllAre (λ (x : X). P (f x)) xs
  all_mapped P [] h = tt
  all_mapped P (x ∷ xs) h = (h.0, all_mapped P xs h.1)

  pub map_all : (P : Y → Type 0) (xs : List X) → AllAre (λ (x : X). P (f x)) xs → AllAre P (map f xs)
  map_all P [] h = tt
  map_all P (x ∷ xs) h = (h.0, map_all P xs h.1)

  pub length_map : (xs : List X) → length (map f xs) ≡ length xs
  length_map [] = refl
  length_map (x ∷ xs) = ap suc (length_map xs)

  pub map_push : (xs : List X) (x : X) → map f (xs ++ x ∷ []) ≡ map f xs ++ f x ∷ []
  map_push [] x = refl
  map_push (y ∷ xs) x = ap (λ (l : List Y). f y ∷ l) (map_push xs x)
