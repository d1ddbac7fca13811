-- Plan lines by the packets that they are of.
use Rattle.std.specs.Prelude.{◌≡◌, List}
use Rattle.std.specs.List.{list_any}
use Rattle.std.specs.Ordering.{is_eq, nat_cmp, ordering_then}
use Rattle.std.specs.declared.cmp.Ordering.{Ordering}
use Rattle.am_scenario_plan.specs.declared.PlanLine.{PlanLine}
use Rattle.am_scenario.specs.declared.drafts.plan.Place.{Place}
use Rattle.am_scenario.specs.Drafts.Said.{is_planned}

abbrev pub place_of : PlanLine → Place
place_of line = record { number = line.number; from = line.from; to = line.to }

abbrev pub place_cmp : Place → Place → Ordering
place_cmp x y = ordering_then (nat_cmp x.number y.number) (ordering_then (nat_cmp x.from.0 y.from.0) (nat_cmp x.to.0 y.to.0))

-- the places are those of the lines
abbrev pub IsIndex : List PlanLine → List Place → Type 0
IsIndex lines places = (place : Place) → list_any (λ other. is_eq (place_cmp place other)) places ≡ is_planned lines place.from place.to place.number
