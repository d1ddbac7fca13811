-- Where nothing has arrived.
use Rattle.std.specs.Prelude.{◌↔◌, ◌==◌, ◌||◌, not}
use Rattle.std.proofs.Common.{◌≡◌, Bool, true, false, List, [], ◌∷◌, length, refl, sym, ◌∙◌, true≢false, arith}
use Rattle.std.proofs.lemmas.Bool.{eqb-true}
use Rattle.am_model.specs.Changes.{has_arrivals}
use Rattle.am_model.specs.Endpoint.{Body}

-- a list of no element is empty
empty : {X : Type 0} (xs : List X) → (length xs == 0) ≡ true → xs ≡ []
empty [] h = refl
empty (x ∷ xs) h = let none : length (x ∷ xs) ≡ 0 = eqb-true (length (x ∷ xs)) 0 h in absurd (omega (arith, none))

both_none : {X Y : Type 0} (xs : List X) (ys : List Y) (a b : Bool) → (length xs == 0) ≡ a → (length ys == 0) ≡ b → (not a || not b) ≡ false →
    (xs ≡ []) × (ys ≡ [])
both_none xs ys true true p q h = (empty xs p, empty ys q)
both_none xs ys false b p q h = absurd (true≢false h)
both_none xs ys true false p q h = absurd (true≢false h)

none_there : {X Y : Type 0} (xs : List X) (ys : List Y) → xs ≡ [] → ys ≡ [] → (not (length xs == 0) || not (length ys == 0)) ≡ false
none_there {X} {Y} xs ys e f = λ j. not (length (e j) == 0) || not (length (f j) == 0)

pub nothing_arrived : (b : Body) (r : Bool) → r ≡ has_arrivals b → (r ≡ false) ↔ ((b.notices ≡ []) × (b.received ≡ []))
nothing_arrived b r is = (
  (λ h. both_none b.notices b.received (length b.notices == 0) (length b.received == 0) refl refl (sym is ∙ h)),
  (λ h. is ∙ none_there b.notices b.received h.0 h.1),
)
