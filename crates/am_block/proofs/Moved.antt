-- What a move leaves of the rings.
use Rattle.std.proofs.Common.{append_assoc, append-nil, ◌≡◌, ◌≢◌, ℕ, ◌+◌, ◌<◌, ◌≤◌, ◌⊎◌, List, [], ◌∷◌, ◌++◌, length, get_or, refl, sym, ap, ◌∙◌, subst, inl}
use Rattle.std.proofs.Common.{inr, arith, cond, ◌==◌, take, drop, add-one}
use Rattle.std.proofs.Math.ListN.{set}
use Rattle.std.proofs.lemmas.List.Sums.{sum_by-append, split_at_first, passes_at_first}
use borrow.Author.Tests.{eqb-true}
use Rattle.am_block.specs.Ring.{Ring, Path, Off, Apart}
use Rattle.am_block.specs.Lengths.{head}
use Rattle.am_block.specs.Pools.{Pools, slots, with_slots, times, standings, without, place, appended}
use Rattle.am_block.specs.declared.List.{List as Which}
use Rattle.am_block.specs.declared.List.TheVariants.{Free, Requests, Replies, InFlight, Notices, Received}
use Rattle.am_block.proofs.Rings.{last_of, first_of, path-last, path-next, ring-take, ring-frame, ring-put}
use Rattle.am_block.proofs.Fresh.{times-cons, one_if}
use Rattle.am_block.proofs.Moves.{times-le-standings, standings-with_slots, times-without}
use Rattle.am_block.proofs.Others.{Other, compare, slots-same, head-ge}

-- each number below n stands at most once, and no other does
pub record Fine (n : ℕ) (p : Pools) : Type 0 where
  pub once : (x : ℕ) → standings p x ≤ 1
  pub below : (x : ℕ) → n ≤ x → standings p x ≡ 0

-- x is the head of a list or stands in it
abbrev pub InRing : ℕ → Pools → Which → ℕ → Type 0
InRing n p a x = (x ≡ head n a) ⊎ (1 ≤ times x (slots p a))

off-absent : (x : ℕ) (xs : List ℕ) → times x xs ≡ 0 → Off x xs
off-absent x [] h = tt
off-absent x (y ∷ ys) h =
    let step = times-cons x y ys in
    ((λ e. let one = one_if y x e in absurd (omega arith)), off-absent x ys (omega arith))

apart-once : (xs : List ℕ) → ((x : ℕ) → times x xs ≤ 1) → Apart xs
apart-once [] h = tt
apart-once (y ∷ ys) h =
    let one = one_if y y refl in
    let here = h y in
    let step = times-cons y y ys in
    (off-absent y ys (omega arith), apart-once ys (λ x. let more = times-cons x y ys in let le = h x in omega arith))

module _ (n : ℕ) (p : Pools) (f : Fine n p) where
  pub off-absent-in : (x : ℕ) (w : Which) → times x (slots p w) ≡ 0 → head n w ≢ x → Off x (head n w ∷ slots p w)
  off-absent-in x w h ne = (ne, off-absent x (slots p w) h)

  pub fine-apart : (w : Which) → Apart (head n w ∷ slots p w)
  fine-apart w =
      let zero_head : times (head n w) (slots p w) ≡ 0 = (let le = times-le-standings p w (head n w) in let z = f.below (head n w) (head-ge n w) in
      omega arith) in
      (off-absent (head n w) (slots p w) zero_head, apart-once (slots p w) (λ x. let le = times-le-standings p w x in let o = f.once x in omega arith))

  pub fine-off : (a w : Which) (x : ℕ) → Other a w → InRing n p a x → Off x (head n w ∷ slots p w)
  fine-off a w x o (inl e) =
      let z = f.below x (let ge = head-ge n a in omega arith) in
      let le = times-le-standings p w x in
      off-absent-in x w (omega arith) (λ k. o.heads n (sym e ∙ sym k))
  fine-off a w x o (inr m) =
      let both = o.shared p x in
      let once = f.once x in
      off-absent-in x w (omega arith) (λ k. let z = f.below x (let ge = head-ge n w in omega arith) in absurd (omega arith))

  -- s stands nowhere
  pub fine-absent : (s : ℕ) (w : Which) → standings p s ≡ 0 → s < n → Off s (head n w ∷ slots p w)
  fine-absent s w z lt =
      let le = times-le-standings p w s in
      off-absent-in s w (omega arith) (λ k. let ge = head-ge n w in absurd (omega arith))

-- the last of us, or else h
last-in : (h : ℕ) (us ws : List ℕ) → (last_of h us ≡ h) ⊎ (1 ≤ times (last_of h us) (us ++ ws))
last-in h [] ws = inl refl
last-in h (u ∷ us) ws =
    let step = times-cons (last_of u us) u (us ++ ws) in
    elim (last-in u us ws) as (λ _. (last_of u us ≡ h) ⊎ (1 ≤ times (last_of u us) (u ∷ (us ++ ws))))
    [ inl e ↦ let one = one_if u (last_of u us) (sym e) in inr (omega arith) | inr m ↦ inr (omega arith) ]

-- the first of vs, or else h
first-in : (h s : ℕ) (us vs : List ℕ) → (first_of vs h ≡ h) ⊎ (1 ≤ times (first_of vs h) (us ++ s ∷ vs))
first-in h s us [] = inl refl
first-in h s us (v ∷ vs) =
    let a = sum_by-append (λ y. cond (y == v) 1 0) us (s ∷ v ∷ vs) in
    let b = times-cons v s (v ∷ vs) in
    let c = times-cons v v vs in
    let one = one_if v v refl in
    inr (omega arith)

head-lt : (n : ℕ) (a : Which) → head n a < n + 6
head-lt n Free = omega arith
head-lt n Requests = omega arith
head-lt n Replies = omega arith
head-lt n InFlight = omega arith
head-lt n Notices = omega arith
head-lt n Received = omega arith

in-bound : (n : ℕ) (p : Pools) (f : Fine n p) (a : Which) (x : ℕ) → InRing n p a x → x < n + 6
in-bound n p f a x (inl e) = let h = head-lt n a in omega arith
in-bound n p f a x (inr m) =
    let le = times-le-standings p a x in
    grind (arith, f.below x, m, le)

-- a list with a slot in it, cut there
pub cut : (s : ℕ) (xs : List ℕ) → place s xs < length xs → xs ≡ take (place s xs) xs ++ s ∷ drop (place s xs + 1) xs
cut s xs h =
    let at : get_or xs (place s xs) 0 ≡ s = eqb-true (get_or xs (place s xs) 0) s (passes_at_first (λ x. x == s) xs 0 h) in
    split_at_first (λ x. x == s) xs 0 h ∙ ap (λ g. take (place s xs) xs ++ g ∷ drop (place s xs + 1) xs) at

module _ (nx pv : List ℕ) (n : ℕ) (p : Pools) (f : Fine n p) (rings : (w : Which) →
    Ring nx pv (head n w) (slots p w)) (ln : length nx ≡ n + 6) (lp : length pv ≡ n + 6) where
  module _ (s : ℕ) (from : Which) (there : place s (slots p from) < length (slots p from)) where
    abbrev us : List ℕ
    us = take (place s (slots p from)) (slots p from)

    abbrev vs : List ℕ
    vs = drop (place s (slots p from) + 1) (slots p from)

    here : Ring nx pv (head n from) (us ++ s ∷ vs)
    here = subst (λ (zs : List ℕ). Ring nx pv (head n from) zs) (cut s (slots p from) there) (rings from)

    path : Path nx pv (head n from) (us ++ s ∷ (vs ++ head n from ∷ []))
    path = subst (λ (zs : List ℕ). Path nx pv (head n from) zs) (append_assoc us (s ∷ vs) (head n from ∷ [])) here

    pub before-in : InRing n p from (get_or pv s 0)
    before-in =
        let e = path-last nx pv (head n from) s us (vs ++ head n from ∷ []) path in
        subst (InRing n p from) (sym e) (let P : List ℕ → Type 0 = λ zs. (last_of (head n from) us ≡ head n from) ⊎ (1 ≤ times (last_of (head n from) us) zs) in
        subst P (sym (cut s (slots p from) there)) (last-in (head n from) us (s ∷ vs)))

    pub behind-in : InRing n p from (get_or nx s 0)
    behind-in =
        let e = path-next nx pv (head n from) s (head n from) us vs path in
        subst (InRing n p from) (sym e) (let P : List ℕ → Type 0 =
        λ zs. (first_of vs (head n from) ≡ head n from) ⊎ (1 ≤ times (first_of vs (head n from)) zs) in
        subst P (sym (cut s (slots p from) there)) (first-in (head n from) s us vs))

    -- the rings without s
    pub take-rings : (w : Which) → Ring (set nx (get_or pv s 0) (get_or nx s 0)) (set pv (get_or nx s 0) (get_or pv s 0)) (head n w)
        (slots (with_slots p from (without s (slots p from))) w)
    take-rings w =
        let nx1 = set nx (get_or pv s 0) (get_or nx s 0) in
        let pv1 = set pv (get_or nx s 0) (get_or pv s 0) in
        let out = without s (slots p from) in
        elim (compare from w) as (λ _. Ring nx1 pv1 (head n w) (slots (with_slots p from out) w)) [
          | inl e ↦
              let b1 = in-bound n p f from (get_or pv s 0) before-in in
              let b2 = in-bound n p f from (get_or nx s 0) behind-in in
              let joined : us ++ vs ≡ out = ap (λ m. us ++ drop m (slots p from)) (add-one (place s (slots p from))) in
              let a : Apart (head n from ∷ (us ++ s ∷ vs)) = subst (λ (zs : List ℕ). Apart (head n from ∷ zs)) (cut s (slots p from) there)
              (fine-apart n p f from) in
              let r : Ring nx1 pv1 (head n from) (us ++ vs) = ring-take nx pv (head n from) s us vs a here (omega arith) (omega arith) in
              subst (λ (u : Which). Ring nx1 pv1 (head n u) (slots (with_slots p from out) u)) e
              (subst (λ (zs : List ℕ). Ring nx1 pv1 (head n from) zs) (joined ∙ sym (slots-same p from out)) r)
          | inr o ↦
              subst (λ (zs : List ℕ). Ring nx1 pv1 (head n w) zs) (sym (o.kept p out))
              (ring-frame nx pv (get_or pv s 0) (get_or nx s 0) (get_or nx s 0) (get_or pv s 0) (head n w) (slots p w)
              (fine-off n p f from w (get_or pv s 0) o before-in) (fine-off n p f from w (get_or nx s 0) o behind-in) (rings w))
        ]

  module _ (s : ℕ) (absent : standings p s ≡ 0) (lt : s < n) (to : Which) where
    abbrev h : ℕ
    h = head n to

    abbrev t : ℕ
    t = get_or pv h 0

    tail-in : InRing n p to t
    tail-in =
        let e = path-last nx pv h h (slots p to) [] (rings to) in
        subst (InRing n p to) (sym e) (let P : List ℕ → Type 0 = λ zs. (last_of h (slots p to) ≡ h) ⊎ (1 ≤ times (last_of h (slots p to)) zs) in
        subst P (append-nil (slots p to)) (last-in h (slots p to) []))

    -- the rings with s at the tail of one
    pub put-rings : (w : Which) → Ring (set (set nx t s) s h) (set (set pv s t) h s) (head n w) (slots (appended p to s) w)
    put-rings w =
        let nx2 = set (set nx t s) s h in
        let pv2 = set (set pv s t) h s in
        let more = slots p to ++ s ∷ [] in
        elim (compare to w) as (λ _. Ring nx2 pv2 (head n w) (slots (with_slots p to more) w)) [
          | inl e ↦
              let b = in-bound n p f to t tail-in in
              let b2 = head-lt n to in
              let r = ring-put nx pv h s (slots p to) (fine-apart n p f to) (fine-absent n p f s to absent lt) (rings to) (omega arith) (omega arith)
              (omega arith) (omega arith) in
              subst (λ (u : Which). Ring nx2 pv2 (head n u) (slots (with_slots p to more) u)) e
              (subst (λ (zs : List ℕ). Ring nx2 pv2 h zs) (sym (slots-same p to more)) r)
          | inr o ↦
              let os = fine-absent n p f s w absent lt in
              let r1 = ring-frame nx pv t s s t (head n w) (slots p w) (fine-off n p f to w t o tail-in) os (rings w) in
              subst (λ (zs : List ℕ). Ring nx2 pv2 (head n w) zs) (sym (o.kept p more))
              (ring-frame (set nx t s) (set pv s t) s h h s (head n w) (slots p w) os (fine-off n p f to w h o (inl refl)) r1)
        ]

-- the slots without s are fine, and s is absent
pub fine-without : (n : ℕ) (p : Pools) (f : Fine n p) (s : ℕ) (from : Which) → place s (slots p from) < length (slots p from)
    → Fine n (with_slots p from (without s (slots p from))) × (standings (with_slots p from (without s (slots p from))) s ≡ 0)
fine-without n p f s from there =
    let q = with_slots p from (without s (slots p from)) in
    let each : (x : ℕ) → standings q x + cond (s == x) 1 0 ≡ standings p x = λ x.
    let a = standings-with_slots p from (without s (slots p from)) x in
    let b = times-without s x (slots p from) there in
    omega arith in (
      record {
        once = λ x. let e = each x in let o = f.once x in omega arith;
        below = λ x le. let e = each x in let z = f.below x le in omega arith;
      },
      let e = each s in let o = f.once s in let one = one_if s s refl in omega arith,
    )
