-- The descriptors of some slots, where one of them is written.
use Rattle.std.specs.Prelude.{slice_get, slice_set, not}
use Rattle.std.proofs.lemmas.Option.{get_or_from_slice_get}
use Rattle.std.proofs.Common.{suc, Some, None, sym, true≢false, ◌≡◌, ℕ, ◌+◌, ◌<◌, ◌≤◌, ◌==◌, Bool, true, false, cond, List, [], ◌∷◌, ◌++◌, length, refl, ap}
use Rattle.std.proofs.Common.{◌∙◌, arith}
use Rattle.std.specs.List.{count_by, find, remove}
use Rattle.std.specs.Option.{option_map}
use Rattle.std.proofs.lemmas.List.Sums.{sum_by-cons}
use Rattle.am_model.specs.Choice.{without_first}
use Rattle.std.proofs.lemmas.Bool.{eqb-false, eqb-true}
use Rattle.std.proofs.lemmas.List.{get_or-set_same, get_or-set_other, map-append}
use Rattle.am_lemmas.proofs.Lists.{find_passes}
use Rattle.am_block.specs.declared.Descriptor.{Descriptor}
use Rattle.am_block.specs.Pools.{Pools, IsBlock, place, size, slots, times, without}
use Rattle.am_block.specs.declared.List.{List as Which}
use Rattle.am_block.proofs.Moves.{times-le-standings}
use Rattle.am_block.specs.declared.List.TheVariants.{Free}
use Rattle.am_block.proofs.Fresh.{front-below, one_if, place-head, times-cons}
use Rattle.am_endpoint_body.specs.Views.{blank, descriptor_at, seen}

-- what no slot of the list has is not seen
pub kept : {X : Type 0} (f : Descriptor → X) (ds : List Descriptor) (s : ℕ) (d : Descriptor) (xs : List ℕ) → times s xs ≡ 0 →
    seen f (slice_set ds s d) xs ≡ seen f ds xs
kept f ds s d [] none = refl
kept f ds s d (x ∷ xs) none = by_test f ds s d x xs (x == s) refl (omega (arith, none, times-cons s x xs)) (kept f ds s d xs)
  where
    by_test : {X : Type 0} (f : Descriptor → X) (ds : List Descriptor) (s : ℕ) (d : Descriptor) (x : ℕ) (xs : List ℕ) (b : Bool) → (x == s) ≡ b →
        cond b 1 0 + times s xs ≡ 0 → (times s xs ≡ 0 → seen f (slice_set ds s d) xs ≡ seen f ds xs) → seen f (slice_set ds s d) (x ∷ xs) ≡ seen f ds (x ∷ xs)
    by_test f ds s d x xs true is none more = absurd (omega (arith, none))
    by_test f ds s d x xs false is none more =
        ap (λ y. f y ∷ seen f (slice_set ds s d) xs) (get_or-set_other ds s x d blank (eqb-false x s is))
        ∙ ap (λ ys. f (descriptor_at ds x) ∷ ys) (more (omega (arith, none)))

-- the slot at the tail is written
pub grown : {X : Type 0} (f : Descriptor → X) (ds : List Descriptor) (s : ℕ) (d : Descriptor) (xs : List ℕ) → times s xs ≡ 0 → s < length ds →
    seen f (slice_set ds s d) (xs ++ s ∷ []) ≡ seen f ds xs ++ f d ∷ []
grown f ds s d xs none lt =
    map-append (λ t. f (descriptor_at (slice_set ds s d) t)) xs (s ∷ [])
    ∙ ap (λ ys. ys ++ f (descriptor_at (slice_set ds s d) s) ∷ []) (kept f ds s d xs none)
    ∙ ap (λ y. seen f ds xs ++ f y ∷ []) (get_or-set_same ds s d blank lt)

-- the first free slot stands in no other list
pub record IsFree (p : Pools) (s : ℕ) : Type 0 where
  pub within : s < length p.descriptors
  pub requests : times s p.requests ≡ 0
  pub replies : times s p.replies ≡ 0
  pub in_flight : times s p.in_flight ≡ 0
  pub notices : times s p.notices ≡ 0
  pub received : times s p.received ≡ 0

pub first_free : (p : Pools) (s : ℕ) (free : List ℕ) → IsBlock p → p.free ≡ s ∷ free → IsFree p s
first_free p s free b front =
    let within = front-below p Free s free b front in
    let once = b.once s within in
    let here : times s p.free ≡ 1 + times s free = ap (times s) front ∙ times-cons s s free ∙ ap (λ n. n + times s free) (one_if s s refl) in
    record {
      within = within;
      requests = omega (arith, once, here);
      replies = omega (arith, once, here);
      in_flight = omega (arith, once, here);
      notices = omega (arith, once, here);
      received = omega (arith, once, here);
    }

-- without its front slot a list is the rest
pub without-front : (s : ℕ) (xs : List ℕ) → without s (s ∷ xs) ≡ xs
without-front s xs = ap (remove (s ∷ xs)) (place-head s xs)

-- behind another slot it goes from the rest
without-later : (s x : ℕ) (xs : List ℕ) → (x ≡ s → ⊥) → without s (x ∷ xs) ≡ x ∷ without s xs
without-later s x xs apart = ap (remove (x ∷ xs)) later
  where
    by_test : (b : Bool) → (x == s) ≡ b → cond (not b) (1 + place s xs) 0 ≡ suc (place s xs)
    by_test true is = absurd (apart (eqb-true x s is))
    by_test false is = omega arith

    later : place s (x ∷ xs) ≡ suc (place s xs)
    later = by_test (x == s) refl

-- what is found among the slots, and among what is seen of them

module _ {X : Type 0} (f : Descriptor → X) (test : X → Bool) (ds : List Descriptor) where
  pub find-seen : (xs : List ℕ) → find test (seen f ds xs) ≡ option_map (λ s. f (descriptor_at ds s)) (find (λ s. test (f (descriptor_at ds s))) xs)
  find-seen [] = refl
  find-seen (x ∷ xs) = by_test (test (f (descriptor_at ds x))) (find-seen xs)
    where
      by_test : (b : Bool) → find test (seen f ds xs) ≡ option_map (λ s. f (descriptor_at ds s)) (find (λ s. test (f (descriptor_at ds s))) xs) →
          cond b (Some (f (descriptor_at ds x))) (find test (seen f ds xs)) ≡ option_map (λ s. f (descriptor_at ds s))
          (cond b (Some x) (find (λ s. test (f (descriptor_at ds s))) xs))
      by_test true more = refl
      by_test false more = more

  pub count-seen : (xs : List ℕ) → count_by test (seen f ds xs) ≡ count_by (λ s. test (f (descriptor_at ds s))) xs
  count-seen [] = refl
  count-seen (x ∷ xs) =
      omega (
        arith,
        count-seen xs,
        sum_by-cons (λ y. cond (test y) 1 0) (f (descriptor_at ds x)) (seen f ds xs),
        sum_by-cons (λ s. cond (test (f (descriptor_at ds s))) 1 0) x xs,
      )

  pub none-seen : (xs : List ℕ) → find (λ s. test (f (descriptor_at ds s))) xs ≡ None → without_first test (seen f ds xs) ≡ seen f ds xs
  none-seen [] none = refl
  none-seen (x ∷ xs) none = by_test (test (f (descriptor_at ds x))) none (none-seen xs)
    where
      by_test : (b : Bool) → cond b (Some x) (find (λ s. test (f (descriptor_at ds s))) xs) ≡ None →
          (find (λ s. test (f (descriptor_at ds s))) xs ≡ None → without_first test (seen f ds xs) ≡ seen f ds xs) →
          cond b (seen f ds xs) (f (descriptor_at ds x) ∷ without_first test (seen f ds xs)) ≡ f (descriptor_at ds x) ∷ seen f ds xs
      by_test true none more = absurd (cc)
      by_test false none more = ap (λ ys. f (descriptor_at ds x) ∷ ys) (more none)

  pub without-seen : (xs : List ℕ) (s : ℕ) → find (λ s. test (f (descriptor_at ds s))) xs ≡ Some s →
      seen f ds (without s xs) ≡ without_first test (seen f ds xs)
  without-seen [] s found = absurd (cc)
  without-seen (x ∷ xs) s found = by_test (test (f (descriptor_at ds x))) refl found (without-seen xs s)
    where
      by_test : (b : Bool) → test (f (descriptor_at ds x)) ≡ b → cond b (Some x) (find (λ s. test (f (descriptor_at ds s))) xs) ≡ Some s →
          (find (λ s. test (f (descriptor_at ds s))) xs ≡ Some s → seen f ds (without s xs) ≡ without_first test (seen f ds xs)) →
          seen f ds (without s (x ∷ xs)) ≡ cond b (seen f ds xs) (f (descriptor_at ds x) ∷ without_first test (seen f ds xs))
      by_test true is found more =
          let same : s ≡ x = cc in ap (λ t. seen f ds (without t (x ∷ xs))) same ∙ ap (seen f ds) (without-front x xs)
      by_test false is found more =
          let apart : x ≡ s → ⊥ = λ e. true≢false (sym (find_passes (λ s. test (f (descriptor_at ds s))) xs s found)
          ∙ ap (λ t. test (f (descriptor_at ds t))) (sym e) ∙ is) in
          ap (seen f ds) (without-later s x xs apart) ∙ ap (λ ys. f (descriptor_at ds x) ∷ ys) (more found)

-- what is found stands in the list
pub found-times : (g : ℕ → Bool) (xs : List ℕ) (s : ℕ) → find g xs ≡ Some s → 1 ≤ times s xs
found-times g [] s found = absurd (cc)
found-times g (x ∷ xs) s found = by_test (g x) found (found-times g xs s)
  where
    by_test : (b : Bool) → cond b (Some x) (find g xs) ≡ Some s → (find g xs ≡ Some s → 1 ≤ times s xs) → 1 ≤ times s (x ∷ xs)
    by_test true found more = let same : x ≡ s = cc in omega (arith, times-cons s x xs, one_if x s same)
    by_test false found more = omega (arith, times-cons s x xs, more found)

pub stands-below : (p : Pools) (l : Which) (s : ℕ) → IsBlock p → 1 ≤ times s (slots p l) → s < size p
stands-below p l s b some = grind (arith, some, times-le-standings p l s, b.no_other s)

-- the message that is found, where the slots are looked through

module _ {X : Type 0} (f : Descriptor → X) (test : X → Bool) (ds : List Descriptor) (xs : List ℕ) where
  pub seen-found : (s : ℕ) (d : Descriptor) → Some s ≡ find (λ s. test (f (descriptor_at ds s))) xs → slice_get ds s ≡ Some d →
      Some (f d) ≡ find test (seen f ds xs)
  seen-found s d found at =
      sym (find-seen f test ds xs ∙ ap (option_map (λ s. f (descriptor_at ds s))) (sym found) ∙ ap (λ e. Some (f e)) (get_or_from_slice_get ds s d blank at))

  pub seen-missed : None ≡ find (λ s. test (f (descriptor_at ds s))) xs → None ≡ find test (seen f ds xs)
  seen-missed found = sym (find-seen f test ds xs ∙ ap (option_map (λ s. f (descriptor_at ds s))) (sym found))
