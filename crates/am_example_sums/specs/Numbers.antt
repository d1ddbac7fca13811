-- The numbers that are sent, and what comes of them.
use Rattle.std.specs.Prelude.{ℕ, zero, suc, ◌==◌, Option, Some, None, List, [], ◌∷◌, ◌++◌, if◌then◌else◌}
use Rattle.am_scenario_plan.specs.declared.plan.LinkFault.{LinkFault}
use Rattle.am_scenario_plan.specs.declared.plan.LinkFault.TheVariants.{Lose, Repeat}
use Rattle.am_example_sums.specs.declared.number.Number.{Number}

abbrev pub value_of : Number → ℕ
value_of n = n.value

abbrev pub stamp_of : Number → ℕ
stamp_of n = n.stamp

abbrev pub restamped : ℕ → Number → Number
restamped stamp n = record n { stamp = stamp }

-- the number that is sent at the place of its value
abbrev pub number_of : ℕ → Number
number_of value = record { value = value; stamp = value }

-- the numbers from 1 on
abbrev pub numbers_to : ℕ → List Number
numbers_to zero = []
numbers_to (suc n) = numbers_to n ++ number_of (suc n) ∷ []

-- the third is lost, and the fifth is sent twice
abbrev pub fault_of : ℕ → Option LinkFault
fault_of place = if place == 5 then Some Repeat else (if place == 3 then Some Lose else None)

-- what comes of the first ten
abbrev pub arrived : List ℕ
arrived = 1 ∷ 2 ∷ 4 ∷ 5 ∷ 5 ∷ 6 ∷ 7 ∷ 8 ∷ 9 ∷ 10 ∷ []
