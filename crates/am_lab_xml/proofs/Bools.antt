-- Tests joined.
use Rattle.std.proofs.Common.{◌≡◌, ℕ, Bool, true, false, ◌&&◌, not, eqb, List, [], ◌∷◌, ◌++◌, refl, ap, sym, ◌∙◌}
use Rattle.std.specs.List.{list_all}
use borrow.Author.Tests.{eqb-true}

pub first : (a b : Bool) → (a && b) ≡ true → a ≡ true
first true b h = refl
first false b h = h

pub second : (a b : Bool) → (a && b) ≡ true → b ≡ true
second true b h = h
second false b h = cc

pub joined : (a b : Bool) → a ≡ true → b ≡ true → (a && b) ≡ true
joined a b p q = rw (p, q) refl

pub not_so : (a : Bool) → not a ≡ true → a ≡ false
not_so true h = sym h
not_so false h = refl

pub and_true : (a : Bool) → (a && true) ≡ a
and_true true = refl
and_true false = refl

pub and_false : (a : Bool) → (a && false) ≡ false
and_false true = refl
and_false false = refl

pub and_assoc : (a b c : Bool) → (a && (b && c)) ≡ ((a && b) && c)
and_assoc true b c = refl
and_assoc false b c = refl

-- a test tells a byte that passes from one that doesn't
pub apart : (p : ℕ → Bool) (a b : ℕ) → p a ≡ true → p b ≡ false → eqb a b ≡ false
apart p a b h k = by_answer (eqb a b) refl
  where
    by_answer : (answer : Bool) → eqb a b ≡ answer → eqb a b ≡ false
    by_answer false e = e
    by_answer true e = let same : a ≡ b = eqb-true a b e in let wrong : true ≡ false = sym h ∙ ap p same ∙ k in cc

-- a test of all of two lists
pub all_of_both : {X : Type 0} (p : X → Bool) (a b : List X) → list_all p a ≡ true → list_all p b ≡ true → list_all p (a ++ b) ≡ true
all_of_both p [] b h k = k
all_of_both p (x ∷ a) b h k = joined (p x) (list_all p (a ++ b)) (first (p x) (list_all p a) h) (all_of_both p a b (second (p x) (list_all p a) h) k)

-- a test that follows from another
pub all_weaker : {X : Type 0} (p q : X → Bool) → ((x : X) → p x ≡ true → q x ≡ true) → (a : List X) → list_all p a ≡ true → list_all q a ≡ true
all_weaker p q f [] h = refl
all_weaker p q f (x ∷ a) h = joined (q x) (list_all q a) (f x (first (p x) (list_all p a) h)) (all_weaker p q f a (second (p x) (list_all p a) h))
