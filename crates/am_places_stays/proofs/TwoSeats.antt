-- What two seats added, once both are done: the last of two, which gathers one other.
use Rattle.std.proofs.Common.{◌≡◌, ℕ, zero, suc, ◌+◌, ◌<◌, Bool, List, [], ◌∷◌, subst}
use Rattle.std.specs.Prelude.{Option}
use mathlib.Core.Option.{some, some-injective}
use lib.ListN.{get_elem?}
use Rattle.atomic_table.specs.Seated.{TableId}
use Rattle.am_places.specs.Rule.{Comes, HasGathered, IsOutside, gathered}
use Rattle.am_places.specs.Seats.{pass_of}
use Rattle.am_places.specs.declared.board.Pass.{Pass}
use Rattle.am_places.specs.declared.board.Tenure.{Tenure}
use Rattle.am_places.specs.declared.places.Seat.{Seat}
use Rattle.am_places_stays.specs.Stays.{HasAll, HasBoth, IsMerge, IsMergeOf, IsWaiting}
use Rattle.am_places_stays.proofs.ManySeats.{outside_all, seats_come, seats_gathered}
use Rattle.am_places_stays.proofs.Merges.{merge_alone, merge_swaps}

two_of : {X : Type 0} (xs ys zs : List X) → IsMergeOf (xs ∷ ys ∷ []) zs → IsMerge ys xs zs
two_of {X} xs ys zs h =
    let last : IsMergeOf (ys ∷ []) h.0 = h.1 in
    let one : h.0 ≡ ys = merge_alone ys h.0 (subst (λ (l : List X). IsMerge ys l h.0) last.1 last.2) in
    merge_swaps xs ys zs (subst (λ (l : List X). IsMerge xs l zs) one h.2)

has_both : {I T : Type 0} (k : ℕ) (v w : Pass I T) (list : List I) → HasAll k v (w ∷ []) list → HasBoth k v w list
has_both k v w list all xs began = let a = all xs began in (a.0, a.1, two_of _ _ a.0 a.2)

module _ {B I T : Type 0} {g : _} (id : TableId) (keeper other : Seat B I T g) (k : IsWaiting id keeper.token) (o : IsWaiting id other.token)
    (marks : ((pass_of keeper).mark ≡ 2) × ((pass_of keeper).seats ≡ 2) × ((pass_of other).mark ≡ 1)) where
  each : (j : ℕ) (s : Seat B I T g) → get_elem? (other ∷ []) j ≡ some s → IsWaiting id s.token × ((pass_of s).mark ≡ j + 1)
  each zero s at = subst (λ (x : Seat B I T g). IsWaiting id x.token × ((pass_of x).mark ≡ 1)) (some-injective other s at) (o, marks.2)
  each (suc j) s at = absurd cc

  pub both_gathered : HasGathered (gathered (pass_of keeper) (pass_of other))
  both_gathered = seats_gathered id keeper (other ∷ []) k each (marks.0, marks.1)

  pub both_outside : IsOutside (gathered (pass_of keeper) (pass_of other))
  both_outside = outside_all (pass_of keeper) (pass_of other ∷ []) k.outside

  pub both_come : (items : B → List I) (birth : B → T) (stands : B → ℕ) (moves : I → Bool) (at : ℕ) (z : Pass I T) (hand : List (ℕ × Option B))
      (log : List (Tenure I)) (b : B) → at < id.slots → z ≡ gathered (pass_of keeper) (pass_of other) → Comes items birth stands moves at (z, hand) log b →
      HasBoth at (pass_of keeper) (pass_of other) (items b)
  both_come items birth stands moves at z hand log b near is comes =
      has_both at (pass_of keeper) (pass_of other) (items b) (seats_come id keeper (other ∷ []) k each (marks.0, marks.1) items birth stands moves at hand log b near
      (subst (λ (q : Pass I T). Comes items birth stands moves at (q, hand) log b) is comes))
