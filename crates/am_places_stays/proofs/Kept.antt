-- A seat has seen its own tenures after each call.
use Rattle.std.proofs.Common.{◌≡◌, ◌≢◌, ◌+◌, refl, [], ◌∷◌, ◌++◌, ℕ, zero, suc, Bool, List, get_or, sym, ◌∙◌, ap, subst, append-nil, arith, get_or-set_same}
use Rattle.am_places.proofs.Ends.{of-append, of_other}
use Rattle.am_places.specs.Rule.{added, both_known, inside_with, known_at, nothing, of, opened, outside, published_with}
use Rattle.am_places.specs.declared.board.Known.{Known}
use Rattle.am_places.specs.declared.board.Tenure.{Tenure}
use Rattle.am_places_stays.specs.Moments.Own.{EntersSeeTheirOwn, GathersSeeTheirOwn, LeavesSeeTheirOwn, NewSeatsSeeTheirOwn}

-- of what one pass knows of an endpoint
abbrev Own : {I : Type 0} → ℕ → Known I → Type 0
Own m x = of m x.seen ≡ of m x.made

both_own : {I : Type 0} (m k : ℕ) (xs ys : List (Known I)) → Own m (get_or xs k nothing) →
    of m (get_or ys k nothing).made ≡ [] → Own m (get_or (both_known xs ys) k nothing)
both_own {I} m k [] ys h none = refl
both_own {I} m k (x ∷ xs) [] h none = h
both_own {I} m zero (x ∷ xs) (y ∷ ys) h none = h ∙ sym (of-append m x.made y.made ∙ ap (λ (l : List (List I)). of m x.made ++ l) none
    ∙ append-nil (of m x.made))
both_own {I} m (suc k) (x ∷ xs) (y ∷ ys) h none = both_own m k xs ys h none

module _ {B I T : Type 0} (items : B → List I) (birth : B → T) (stands : B → ℕ) (moves : I → Bool) where
  opened_own : (m k : ℕ) (books : List B) → m ≢ 0 → Own m (get_or (opened items birth stands moves books) k nothing)
  opened_own m k [] pos = refl
  opened_own m zero (b ∷ bs) pos = of_other m 0 (items b) (λ e. pos (sym e))
  opened_own m (suc k) (b ∷ bs) pos = opened_own m k bs pos

  pub new_seats_see_their_own : NewSeatsSeeTheirOwn items birth stands moves
  new_seats_see_their_own books ids seats frames n k = opened_own (n + 1) k books (λ e. omega (arith, e))

  pub enters_see_their_own : EntersSeeTheirOwn items birth stands moves
  enters_see_their_own k me log b near own comes =
      subst (Own me.0.mark) (sym (get_or-set_same me.0.known k (inside_with (stands b) log (known_at k me.0)) nothing near)) (comes.own_tenures me.0.mark own)

  pub leaves_see_their_own : LeavesSeeTheirOwn items birth stands moves
  leaves_see_their_own k v b near own =
      let x = known_at k v in let more : List (Tenure I) = added items stands v.mark b x ∷ [] in
      subst (Own v.mark) (sym (get_or-set_same v.known k (outside (published_with items stands v.mark b x)) nothing near))
      (of-append v.mark x.seen more ∙ ap (λ (l : List (List I)). l ++ of v.mark more) own ∙ sym (of-append v.mark x.made more))

  pub gathers_see_their_own : GathersSeeTheirOwn items birth stands moves
  gathers_see_their_own k v w own none = both_own v.mark k v.known w.known own none
