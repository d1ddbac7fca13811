-- The plan of the generated links.
use Rattle.std.specs.Prelude.{ℕ, zero, suc, ◌+◌, ◌/◌, ◌%◌, Bool, ◌==◌, ◌&&◌, List, [], ◌∷◌, ◌++◌, if◌then◌else◌}
use Rattle.std.specs.List.{list_any}
use Rattle.rand_pcg.specs.Lcg.{Lcg}
use Rattle.am_scenario_plan.specs.declared.plan.LinkFault.{LinkFault}
use Rattle.am_scenario_plan.specs.declared.plan.LinkFault.TheVariants.{Lose, Repeat, Late}
use Rattle.am_scenario_plan.specs.declared.plan.PlanLine.{PlanLine}
use Rattle.am_scenario_generator.specs.Words.{word, steps}

abbrev pub fault_of : ℕ → LinkFault
fault_of w =
    if w / 8192 % 3 == 0 then Lose else
    if w / 8192 % 3 == 1 then Repeat else Late (1 + w / 32_768 % 16)

-- the line that a word gives
abbrev pub line_of : ℕ → PlanLine
line_of w = record { from = record { 0 = w % 4 }; to = record { 0 = w / 4 % 4 }; number = 1 + w / 16 % 400; fault = fault_of w }

-- whether a line of the same link and number stands
abbrev pub stands : List PlanLine → PlanLine → Bool
stands plan line = list_any (λ other. (other.from.0 == line.from.0) && (other.to.0 == line.to.0) && (other.number == line.number)) plan

abbrev pub with_line : List PlanLine → PlanLine → List PlanLine
with_line plan line = if stands plan line then plan else plan ++ line ∷ []

-- the lines of so many words
unfoldable pub plan_after : Lcg → ℕ → List PlanLine
plan_after g zero = []
plan_after g (suc n) = with_line (plan_after g n) (line_of (word (steps g n)))
