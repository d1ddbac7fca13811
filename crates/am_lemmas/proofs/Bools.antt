-- What a test over two or three others tells of each of them.
use Rattle.std.proofs.Common.{◌≡◌, Bool, true, false, ◌&&◌, ◌||◌, not, refl, sym, true≢false}

-- a conjunction that holds: its first part, its second part
pub and_first : (a b : Bool) → (a && b) ≡ true → a ≡ true
and_first true b h = refl
and_first false b h = h

pub and_second : (a b : Bool) → (a && b) ≡ true → b ≡ true
and_second true b h = h
and_second false b h = absurd (true≢false (sym h))

pub and_from_three : (a b c : Bool) → a ≡ true → b ≡ true → c ≡ true → (a && b && c) ≡ true
and_from_three true b c e f g = and_all b c f g
  where
    and_all : (b c : Bool) → b ≡ true → c ≡ true → (b && c) ≡ true
    and_all true c f g = g
    and_all false c f g = f
and_from_three false b c e f g = e

-- a disjunction that fails: its first part
pub or_first_fails : (a b : Bool) → (a || b) ≡ false → a ≡ false
or_first_fails true b h = h
or_first_fails false b h = refl

-- an implication whose premise holds
pub implied : (a b : Bool) → a ≡ true → (not a || b) ≡ true → b ≡ true
implied true b is h = h
implied false b is h = absurd (true≢false (sym is))

-- an implication whose premise fails, and one whose conclusion holds
pub not_implied : (a b : Bool) → a ≡ false → (not a || b) ≡ true
not_implied true b is = absurd (true≢false is)
not_implied false b is = refl

pub implied_anyway : (a b : Bool) → b ≡ true → (not a || b) ≡ true
implied_anyway true b h = h
implied_anyway false b h = refl

-- a conjunction whose second part fails
pub and_second_fails : (a b : Bool) → b ≡ false → (a && b) ≡ false
and_second_fails true b h = h
and_second_fails false b h = refl
