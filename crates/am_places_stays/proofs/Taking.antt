-- What stays of a pass while books are taken out.
use Rattle.std.proofs.Common.{◌≡◌, ℕ, Bool, List, ◌≤◌, sym, ap, ◌∙◌, subst}
use Rattle.std.specs.Prelude.{Option}
use Rattle.am_places.specs.Rule.{AllBegin, Begins, Comes, HasGathered, has, known_at, of, with_known}
use Rattle.am_places.specs.declared.board.Known.{Known}
use Rattle.am_places.specs.declared.board.Pass.{Pass}
use Rattle.am_places.specs.declared.board.Tenure.{Tenure}

-- u differs from z in nothing but what it knows of the books
abbrev pub IsStill : {I T : Type 0} → Pass I T → Pass I T → Type 0
IsStill z u = u ≡ record z { known = u.known }

pub gathered_still : {I T : Type 0} (z u : Pass I T) → IsStill z u → HasGathered z → HasGathered u
gathered_still {I} {T} z u is all m pos few = ap (λ (q : Pass I T). has m q.keeps) is ∙ all m pos (subst (λ (q : Pass I T). m ≤ q.seats) is few)

pub still_next : {I T : Type 0} (z u y : Pass I T) (at : ℕ) (x : Known I) → IsStill z u → y ≡ with_known at x u → IsStill z y
still_next {I} {T} z u y at x is next =
    subst (λ (q : Pass I T). IsStill z q) (sym next) (ap (λ (q : Pass I T). record q { known = (with_known at x u).known }) is)

module _ {B I T : Type 0} (items : B → List I) (birth : B → T) (stands : B → ℕ) (moves : I → Bool) where
  same_comes : (k : ℕ) (z : Pass I T) (l : List (Known I)) (hand now : List (ℕ × Option B)) (log : List (Tenure I)) (b : B) →
      known_at k (record z { known = l }) ≡ known_at k z → Comes items birth stands moves k (record z { known = l }, hand) log b →
      Comes items birth stands moves k (z, now) log b
  same_comes k z l hand now log b same c = record {
    was_outside = ap (λ (x : Known I). x.inside) (sym same) ∙ c.was_outside;
    begins = subst (λ (x : Known I). Begins log x.seen) same c.begins;
    stands_for = c.stands_for;
    born = c.born;
    calm_log = c.calm_log;
    in_frame = c.in_frame;
    own_tenures = λ m keeps. c.own_tenures m keeps ∙ ap (λ (x : Known I). of m x.made) same;
    passed = subst (λ (x : Known I). AllBegin log x.others) same c.passed;
    opening = c.opening;
    far = c.far;
    small = c.small;
  }

  -- who comes to a book of which u knows what z does, comes as z
  pub comes_still : (k : ℕ) (z u : Pass I T) (hand now : List (ℕ × Option B)) (log : List (Tenure I)) (b : B) → IsStill z u → known_at k u ≡ known_at k z →
      Comes items birth stands moves k (u, hand) log b → Comes items birth stands moves k (z, now) log b
  comes_still k z u hand now log b is same c =
      same_comes k z u.known hand now log b same (subst (λ (q : Pass I T). Comes items birth stands moves k (q, hand) log b) is c)
