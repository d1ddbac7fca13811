-- What seats keep that gathered others, and the last of a list.
use Rattle.std.proofs.Common.{◌≡◌, ℕ, ◌<◌, true, List, [], ◌∷◌, ◌++◌, zero, suc, ◌≤◌, arith, length, refl, ap, ◌∙◌, subst}
use mathlib.Core.Option.{some}
use lib.ListN.{get_elem?}
use Rattle.am_places.specs.Rule.{HasGathered, gathered, has}
use Rattle.am_places.specs.declared.board.Pass.{Pass}

abbrev V : Type 0
V = Pass ℕ (Unit {0})

pub at_last : {A : Type 0} (l : List A) (a : A) → get_elem? (l ++ a ∷ []) (length l) ≡ some a
at_last [] a = refl
at_last (x ∷ xs) a = at_last xs a

one_or_two : (m : ℕ) → 0 < m → m ≤ 2 → has m (2 ∷ 1 ∷ []) ≡ true
one_or_two zero pos few = absurd (omega arith)
one_or_two (suc zero) pos few = refl
one_or_two (suc (suc zero)) pos few = refl
one_or_two (suc (suc (suc m))) pos few = absurd (omega arith)

-- the seat 1 has gathered the seat 0, and there are no others
pub both_gathered : (v w z : V) → v.keeps ≡ 2 ∷ [] → w.keeps ≡ 1 ∷ [] → v.seats ≡ 2 → z ≡ gathered v w → HasGathered z
both_gathered v w z two one seats is m pos few = ap (λ (q : V). has m q.keeps) is ∙ (λ i. has m (two i ++ one i))
    ∙ one_or_two m pos (subst (λ (n : ℕ). m ≤ n) (ap (λ (q : V). q.seats) is ∙ seats) few)

up_to_five : (m : ℕ) → 0 < m → m ≤ 5 → has m (5 ∷ 4 ∷ 3 ∷ 2 ∷ 1 ∷ []) ≡ true
up_to_five zero pos few = absurd (omega arith)
up_to_five (suc zero) pos few = refl
up_to_five (suc (suc zero)) pos few = refl
up_to_five (suc (suc (suc zero))) pos few = refl
up_to_five (suc (suc (suc (suc zero)))) pos few = refl
up_to_five (suc (suc (suc (suc (suc zero))))) pos few = refl
up_to_five (suc (suc (suc (suc (suc (suc m)))))) pos few = absurd (omega arith)

-- the seat 4 has gathered the seats 3 to 0
pub all_gathered : (v a b c d z : V) → v.keeps ≡ 5 ∷ [] → a.keeps ≡ 4 ∷ [] → b.keeps ≡ 3 ∷ [] → c.keeps ≡ 2 ∷ [] → d.keeps ≡ 1 ∷ [] → v.seats ≡ 5 →
    z ≡ gathered (gathered (gathered (gathered v a) b) c) d → HasGathered z
all_gathered v a b c d z five four three two one seats is m pos few = ap (λ (q : V). has m q.keeps) is
    ∙ (λ i. has m ((((five i ++ four i) ++ three i) ++ two i) ++ one i)) ∙ up_to_five m pos (subst (λ (n : ℕ). m ≤ n) (ap (λ (q : V). q.seats) is ∙ seats) few)
