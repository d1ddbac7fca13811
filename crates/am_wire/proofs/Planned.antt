-- What the plan says of a link it says by the lines that name the link.
use Rattle.std.specs.Prelude.{◌==◌, ◌&&◌, find}
use Rattle.std.proofs.Common.{◌≡◌, ℕ, Bool, true, false, cond, List, [], ◌∷◌, ◌++◌, Option, Some, refl, ap, ◌∙◌, append-nil}
use Rattle.std.proofs.lemmas.List.Elements.{filter-append}
use Rattle.am_names.specs.declared.NodeId.{NodeId}
use Rattle.am_names.specs.declared.Packet.{Packet}
use Rattle.am_scenario_plan.specs.Shape.{fault_at, fault_in, is_line_of, shape, shape_after}
use Rattle.am_scenario_plan.specs.declared.plan.PlanLine.{PlanLine}
use Rattle.am_scenario_plan.specs.declared.plan.LinkFault.{LinkFault}
use Rattle.am_wire.specs.AllLinks.Links.{is_of_link, plan_of}

pub plan_in : (from to : NodeId) (xs : List PlanLine) (x : PlanLine) → is_of_link from to x ≡ true →
    plan_of (xs ++ x ∷ []) from to ≡ plan_of xs from to ++ x ∷ []
plan_in from to xs x is = filter-append (is_of_link from to) xs (x ∷ []) ∙ ap (λ (b : Bool). plan_of xs from to ++ cond b (x ∷ []) []) is

pub plan_out : (from to : NodeId) (xs : List PlanLine) (x : PlanLine) → is_of_link from to x ≡ false → plan_of (xs ++ x ∷ []) from to ≡ plan_of xs from to
plan_out from to xs x is = filter-append (is_of_link from to) xs (x ∷ []) ∙ ap (λ (b : Bool). plan_of xs from to ++ cond b (x ∷ []) []) is
    ∙ append-nil (plan_of xs from to)

-- a line that is found passes the test by which lines are kept, whatever the three tests are
found_next : (p q r : Bool) (line : PlanLine) (kept lines : List PlanLine) (test : PlanLine → Bool) → (test line ≡ (p && q && r)) →
    find test kept ≡ find test lines → find test (cond (p && q) (line ∷ kept) kept) ≡ cond (p && q && r) (Some line) (find test lines)
found_next true true r line kept lines test is later = (λ i. cond (is i) (Some line) (later i))
found_next true false r line kept lines test is later = later
found_next false q r line kept lines test is later = later

found_among : (from to : NodeId) (place : ℕ) (plan : List PlanLine) →
    find (is_line_of from to place) (plan_of plan from to) ≡ find (is_line_of from to place) plan
found_among from to place [] = refl
found_among from to place (line ∷ lines) =
    found_next (from.0 == line.from.0) (to.0 == line.to.0) (place == line.number) line (plan_of lines from to) lines (is_line_of from to place) refl
    (found_among from to place lines)

same_faults : (from to : NodeId) (plan : List PlanLine) → fault_at (plan_of plan from to) from to ≡ fault_at plan from to
same_faults from to plan = λ i place. fault_in (found_among from to place plan i)

pub same_shape : (from to : NodeId) (plan : List PlanLine) (packets : List Packet) → shape (plan_of plan from to) from to packets ≡ shape plan from to packets
same_shape from to plan packets = ap (λ (fault : ℕ → Option LinkFault). shape_after fault [] packets) (same_faults from to plan)
