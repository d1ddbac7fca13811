-- The rule says what the seats are.
use Rattle.std.proofs.Common.{◌≡◌, refl, [], ◌∷◌, ◌++◌, ℕ, ◌≤◌, Bool, true, false, List, sym, ◌∙◌, ap, subst, ⊎_elim, arith}
use mathlib.Core.Option.{some, some-injective}
use lib.ListN.{get_elem?}
use Rattle.atomic_table.proofs.Lists.{at_map}
use Rattle.am_places.proofs.Ends.{of-append, which}
use Rattle.am_places.proofs.Steps.{at_map_back}
use Rattle.am_places.specs.Rule.{Line, has, known_at, line, of}
use Rattle.am_places.specs.declared.board.Pass.{Pass}
use Rattle.am_places_stays.specs.Moments.Moments.{Moment}
use Rattle.am_places_stays.specs.Moments.Seats.{GatheredSeatsAreGone, KeepersHaveTheTenures, MarksAreFew, NoneBeforeItIsMade, OthersHaveNone, SeatsDiffer}

begins_nothing : {A : Type 0} (xs ys : List A) → xs ++ ys ≡ [] → xs ≡ []
begins_nothing [] ys e = refl
begins_nothing (x ∷ xs) ys e = absurd cc

module _ {B I T : Type 0} (items : B → List I) (birth : B → T) (stands : B → ℕ) (moves : I → Bool) (t : Moment items birth stands moves) where
  pub seats_differ : SeatsDiffer items birth stands moves t
  seats_differ p q v w at there a b same = t.kept.apart p q v.mark v w at there a.own (ap (λ (m : ℕ). has m w.keeps) same ∙ b.own)

  pub marks_are_few : MarksAreFew items birth stands moves t
  marks_are_few p q m v w live there keeps = subst (λ (n : ℕ). m ≤ n) (sym (t.kept.told p v live.0 live.1).1) (t.kept.few q m w there keeps)

  pub gathered_seats_are_gone : GatheredSeatsAreGone items birth stands moves t
  gathered_seats_are_gone p q m v w at there seat keeps other same =
      let place : p ≡ q = t.kept.apart p q m v w at there keeps (ap (λ (n : ℕ). has n w.keeps) (sym same) ∙ seat.own) in
      let one : v ≡ w = some-injective v w (sym at ∙ ap (get_elem? t.state.views) place ∙ there) in
      other (sym same ∙ ap (λ (u : Pass I T). u.mark) (sym one))

  pub none_before_it_is_made : NoneBeforeItIsMade items birth stands moves t
  none_before_it_is_made p q k m v w at makes there near later =
      let r = t.kept.each k near in
      let nobody : (x : ℕ) (u : Pass I T) → get_elem? t.state.views x ≡ some u → has m u.keeps ≡ false = λ x u here. ⊎_elim
      (λ (yes : has m u.keeps ≡ true). absurd (let most = t.kept.fresh p x m v u at makes here yes in omega (arith, most, later)))
      (λ no. no)
      (which (has m u.keeps)) in
      let none : of m r.log ≡ [] = r.unmade m (omega (arith, later)) (λ x c here. let u = at_map_back (line k) t.state.views x c here in
      ap (λ (l : Line I). has m l.keeps) (sym u.2) ∙ nobody x u.0 u.1) in
      let b = r.seen q (line k w) (at_map (line k) t.state.views q w there) in
      (nobody q w there, begins_nothing (of m (known_at k w).seen) (of m b.0) (sym (of-append m (known_at k w).seen b.0) ∙ ap (of m) (sym b.1) ∙ none))

  pub keepers_have_the_tenures : KeepersHaveTheTenures items birth stands moves t
  keepers_have_the_tenures p q k m v w at there near keeps =
      let r = t.kept.each k near in let b = r.seen q (line k w) (at_map (line k) t.state.views q w there) in
      (of m b.0, sym (r.made p (line k v) m (at_map (line k) t.state.views p v at) keeps) ∙ ap (of m) b.1 ∙ of-append m (known_at k w).seen b.0)

  pub others_have_none : OthersHaveNone items birth stands moves t
  others_have_none p k m v at near not_kept = (t.kept.each k near).own p (line k v) m (at_map (line k) t.state.views p v at) not_kept
