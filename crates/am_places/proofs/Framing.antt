-- What the rule says of frames, and of what two seats have seen.
use Rattle.std.proofs.Common.{◌≡◌, ◌⊎◌, inl, inr, refl, [], ◌∷◌, ◌++◌, ℕ, ◌+◌, ◌<◌, Bool, List, length, get_or, sym, ◌∙◌, subst, ⊎_elim, arith}
use mathlib.Core.Option.{some, some-injective}
use Rattle.std.specs.Prelude.{Option, Some}
use Rattle.atomic_table.specs.Table.{State}
use Rattle.atomic_table.proofs.Lists.{at_map}
use Rattle.am_names.specs.declared.EndpointId.{EndpointId}
use Rattle.am_places.specs.Laws.{ClaimsFitPlaces, FrameWordsAreClaims, FramesHoldOne, LiesAt, SeatsSeeOneHistory}
use Rattle.am_places.specs.Rule.{Begins, FrameFits, IsOwner, Kept, frame_word, known_at, line}
use Rattle.am_places.specs.declared.board.Pass.{Pass}

begins_either : {A : Type 0} (l a b : List A) → Begins l a → Begins l b → Begins a b ⊎ Begins b a
begins_either l [] b p q = inr (b, refl)
begins_either l (x ∷ a) [] p q = inl (x ∷ a, refl)
begins_either [] (x ∷ a) (y ∷ b) p q = let e : [] ≡ x ∷ (a ++ p.0) = p.1 in absurd cc
begins_either (z ∷ l) (x ∷ a) (y ∷ b) p q =
    let e : z ∷ l ≡ x ∷ (a ++ p.0) = p.1 in let f : z ∷ l ≡ y ∷ (b ++ q.0) = q.1 in let head : z ≡ x = cc in let tail : l ≡ a ++ p.0 = cc in
    let head' : z ≡ y = cc in let tail' : l ≡ b ++ q.0 = cc in ⊎_elim
    (λ t. inl (t.0, (λ i. (sym head ∙ head') i ∷ t.1 i)))
    (λ t. inr (t.0, (λ i. (sym head' ∙ head) i ∷ t.1 i)))
    (begins_either l a b (p.0, tail) (q.0, tail'))

module _ {B I T : Type 0} (items : B → List I) (birth : B → T) (stands : B → ℕ) (moves : I → Bool) where
  fits_there : (ids : List EndpointId) (s : State (Option B) (Pass I T)) (r : Kept items birth stands moves ids s) (k : ℕ) (b : B) →
      LiesAt items birth stands moves s k b → FrameFits r.facts.claims k (stands b)
  fits_there ids s r k b l = ⊎_elim
      (λ free. let both : some (some (Some free.1)) ≡ some (some (Some b)) = sym free.2 ∙ l.home in
      let is : Some free.1 ≡ Some b = some-injective (Some free.1) (Some b) (some-injective (some (Some free.1)) (some (Some b)) both) in
      let same : free.1 ≡ b = cc in subst (λ (z : B). FrameFits r.facts.claims k (stands z)) same free.3.4)
      (λ held. absurd (let pos = held.5 in let none_in = l.free in omega arith))
      (r.each k l.near).lies

  pub frames_hold_one : FramesHoldOne items birth stands moves
  frames_hold_one ids s r j k frame b c lies lies' at at' =
      let p = fits_there ids s r j b lies in let q = fits_there ids s r k c lies' in
      let near : frame < length r.facts.claims = omega (arith, p.0, at) in
      let one : get_or r.facts.claims frame 0 ≡ j + 1 = (p.1 frame near).1 at in let two : get_or r.facts.claims frame 0 ≡ k + 1 = (q.1 frame near).1 at' in
      omega arith

  pub seats_see_one_history : SeatsSeeOneHistory items birth stands moves
  seats_see_one_history ids s r p q k v w at at' near = let h = r.each k near in
      begins_either h.log (known_at k v).seen (known_at k w).seen (h.seen p (line k v) (at_map (line k) s.views p v at))
      (h.seen q (line k w) (at_map (line k) s.views q w at'))

  pub frame_words_are_claims : FrameWordsAreClaims items birth stands moves
  frame_words_are_claims ids s r p frame v at drives near = let is = r.drives p v at drives in
      subst (λ (l : List ℕ). IsOwner ids (get_or l frame 0) (get_or s.words (frame_word (length s.homes) frame) 0)) (sym is)
      (r.framed frame (subst (λ (l : List ℕ). frame < length l) is near))

  pub claims_fit_places : ClaimsFitPlaces items birth stands moves
  claims_fit_places ids s r p k v at live drives near other = let is = r.drives p v at drives in let told = r.told p v at live in ⊎_elim
      (λ free. (stands free.1, length (items free.1), free.3.2, subst (λ (l : List ℕ). FrameFits l k (stands free.1)) (sym is) free.3.4))
      (λ held. (held.1.known.place, _, held.8, subst (λ (l : List ℕ). FrameFits l k held.1.known.place) (sym is) (held.11 (λ e. other (e ∙ sym told.1)))))
      (r.each k near).lies
