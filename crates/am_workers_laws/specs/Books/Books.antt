-- An endpoint as a book: its items are its log, its birth its settings.
use Rattle.std.specs.Prelude.{◌≡◌, ℕ, ◌<◌, ◌≤◌, Bool, true, List, [], ◌∷◌, length}
use Rattle.std.proofs.Math.Bool.{Bool-set}
use native.Mathlib.Bridge.{le_prop}
use mathlib.Core.Path.{refl}
use Rattle.am_office_entries.specs.declared.Entry.{Entry}
use Rattle.am_endpoint.specs.View.{EndpointView, state_after}
use Rattle.am_model_merge.specs.Logs.{IsRising}
use Rattle.am_model.specs.Endpoint.{fresh}
use Rattle.am_model.specs.Layout.{AllAre}
use Rattle.am_workers_laws.specs.Phases.Lying.{moves_by, rests}
use Rattle.am_places.specs.Codes.{place_code}

abbrev pub stands_at : EndpointView → ℕ
stands_at e = place_code (state_after e).head.place

-- whether an entry changes the place of its endpoint, if it does not fail
abbrev pub moves : Entry → Bool
moves x = moves_by x.event

-- the log is within its limit, its stamps rise, and while the endpoint lies on disk its entries keep its body
pub record IsBook (e : EndpointView) : Type 0 where
  pub few : length e.log ≤ e.settings.log
  pub limit : e.settings.log ≤ 65536
  pub rising : IsRising e.log
  pub rests : rests e.settings.id (fresh e.settings.tag e.settings.place) e.log ≡ true

-- each of these is so in one way alone
above_prop : (n : ℕ) (ys : List Entry) → IsProp (AllAre (λ (y : Entry). n < y.stamp) ys)
above_prop n [] = λ p q. refl
above_prop n (y ∷ ys) = λ p q i. (le_prop p.0 q.0 i, above_prop n ys p.1 q.1 i)

rising_prop : (xs : List Entry) → IsProp (IsRising xs)
rising_prop [] = λ p q. refl
rising_prop (x ∷ xs) = λ p q i. (above_prop x.stamp xs p.0 q.0 i, rising_prop xs p.1 q.1 i)

pub book_prop : (e : EndpointView) → IsProp (IsBook e)
book_prop e = λ p q i. record { few = le_prop p.few q.few i; limit = le_prop p.limit q.limit i; rising = rising_prop e.log p.rising q.rising i; rests = Bool-set (rests e.settings.id (fresh e.settings.tag e.settings.place) e.log) true p.rests q.rests i }
