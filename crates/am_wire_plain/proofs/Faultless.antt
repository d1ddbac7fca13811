-- What a relay without faults releases.
use Rattle.std.proofs.Common.{◌≡◌, refl, ℕ, ◌+◌, List, [], ◌∷◌, ◌++◌, length, map, ap, ◌∙◌}
use Rattle.std.specs.Prelude.{Option, None}
use Rattle.std.specs.List.{filter}
use Rattle.am_scenario_plan.specs.declared.plan.LinkFault.{LinkFault}
use Rattle.am_wire_release.specs.Stages.{all_held, freed, held_back, is_later}
use Rattle.am_wire_relay.specs.Shapes.{released_by, shape, shape_after}

module _ {X : Type 0} (stamp_of : X → ℕ) (restamped : ℕ → X → X) (same : (x : X) → restamped (stamp_of x) x ≡ x) (faults : ℕ → Option LinkFault)
    (none : (place : ℕ) → faults place ≡ None) where
  none_held : (place : ℕ) (xs : List X) → all_held faults place xs ≡ []
  none_held place [] = refl
  none_held place (x ∷ xs) = λ i. held_back (none place i) place x ++ none_held (place + 1) xs i

  itself : (before : List X) (x : X) → released_by stamp_of restamped faults before x ≡ x ∷ []
  itself before x =
      (λ i. map (restamped (stamp_of x)) (freed (length before + 1) (none (length before + 1) i) x (filter (is_later (length before)) (none_held 1 before i))))
      ∙ ap (λ (y : X). y ∷ []) (same x)

  after_itself : (before xs : List X) → shape_after stamp_of restamped faults before xs ≡ xs
  after_itself before [] = refl
  after_itself before (x ∷ xs) = λ i. itself before x i ++ after_itself (before ++ x ∷ []) xs i

  -- the shape of what is emitted is what is emitted
  pub shape_is_emitted : (xs : List X) → shape stamp_of restamped faults xs ≡ xs
  shape_is_emitted xs = after_itself [] xs
