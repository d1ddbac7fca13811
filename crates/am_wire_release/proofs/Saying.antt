-- One line more of a plan.
use Rattle.std.specs.Prelude.{find}
use Rattle.std.specs.Ordering.{is_eq, nat_cmp}
use Rattle.std.specs.declared.cmp.Ordering.{Ordering}
use Rattle.std.specs.declared.cmp.Ordering.TheVariants.{Less, Equal, Greater}
use Rattle.std.proofs.lemmas.Cmp.{ranked}
use Rattle.std.proofs.lemmas.List.{drop_more}
use Rattle.std.proofs.Common.{◌≡◌, ℕ, ◌+◌, ◌-◌, ◌<◌, ◌==◌, ◌&&◌, Bool, true, false, cond, List, ◌∷◌, length, drop, slice_index_or, Option, Some, refl, sym, ap}
use Rattle.std.proofs.Common.{◌∙◌, subst, arith, eq-eqb, eqb-true}
use Rattle.am_names.specs.declared.NodeId.{NodeId}
use Rattle.am_scenario_plan.specs.declared.plan.LinkFault.{LinkFault}
use Rattle.am_scenario_plan.specs.declared.plan.PlanLine.{PlanLine}
use Rattle.am_scenario_plan.specs.Shape.{fault_at, fault_in, is_line_of}
use Rattle.am_wire_release.specs.Faults.{SaysOf, said}

said_first : (b : Bool) (line : PlanLine) (rest : Option PlanLine) → fault_in (cond b (Some line) rest) ≡ cond b (Some line.fault) (fault_in rest)
said_first true line rest = refl
said_first false line rest = refl

module _ (plan : List PlanLine) (line : PlanLine) (from to : NodeId) (old : List (ℕ × LinkFault)) (says : SaysOf plan from to old) where
  first : (place : ℕ) → fault_at (line ∷ plan) from to place ≡ cond (is_line_of from to place line) (Some line.fault) (fault_at plan from to place)
  first place = said_first (is_line_of from to place line) line (find (is_line_of from to place) plan)

  -- a line of the link
  pub line_of_it : (new : List (ℕ × LinkFault)) → from.0 ≡ line.from.0 → to.0 ≡ line.to.0 →
      ((other : ℕ) → said new other ≡ cond (other == line.number) (Some line.fault) (said old other)) → SaysOf (line ∷ plan) from to new
  line_of_it new low high more place =
      more place
      ∙ ap (cond (place == line.number) (Some line.fault)) (says place)
      ∙ (λ i. cond ((sym (eq-eqb from.0 line.from.0 low) i && sym (eq-eqb to.0 line.to.0 high) i) && (place == line.number)) (Some line.fault)
      (fault_at plan from to place))
      ∙ sym (first place)

  -- a line of another link
  pub line_of_another : (from.0 ≡ line.from.0 → to.0 ≡ line.to.0 → ⊥) → SaysOf (line ∷ plan) from to old
  line_of_another apart place =
      says place
      ∙ ap (λ (b : Bool). cond b (Some line.fault) (fault_at plan from to place)) (sym (by_tests (from.0 == line.from.0) (to.0 == line.to.0) refl refl))
      ∙ sym (first place)
    where
      by_tests : (a b : Bool) → (from.0 == line.from.0) ≡ a → (to.0 == line.to.0) ≡ b → ((a && b) && (place == line.number)) ≡ false
      by_tests true true low high = absurd (apart (eqb-true from.0 line.from.0 low) (eqb-true to.0 line.to.0 high))
      by_tests true false low high = refl
      by_tests false b low high = refl

-- the lines from the last to the first
pub one_before : (plan : List PlanLine) (from to : NodeId) (faults : List (ℕ × LinkFault)) (n : ℕ) (d : PlanLine) → n < length plan →
    SaysOf (slice_index_or plan (length plan - 1 - n) d ∷ drop (length plan - n) plan) from to faults →
    SaysOf (drop (length plan - (n + 1)) plan) from to faults
one_before plan from to faults n d lt says = subst (λ (xs : List PlanLine). SaysOf xs from to faults) more says
  where
    here : length plan - 1 - n ≡ length plan - (n + 1)
    here = omega arith

    later : length plan - n ≡ length plan - (n + 1) + 1
    later = omega (arith, lt)

    more : slice_index_or plan (length plan - 1 - n) d ∷ drop (length plan - n) plan ≡ drop (length plan - (n + 1)) plan
    more = (λ i. slice_index_or plan (here i) d ∷ drop (later i) plan) ∙ sym (drop_more plan (length plan - (n + 1)) d (omega (arith, lt)))
