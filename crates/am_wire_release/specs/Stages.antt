-- What an emission releases on its link, and what is held back then, over items of any kind.
use Rattle.std.specs.Prelude.{ℕ, ◌+◌, Bool, nat_lt, ◌==◌, Option, Some, None, List, [], ◌∷◌, ◌++◌, length, if◌then◌else◌}
use Rattle.std.specs.List.{filter, flat_map}
use Rattle.am_scenario_plan.specs.declared.plan.LinkFault.{LinkFault}
use Rattle.am_scenario_plan.specs.declared.plan.LinkFault.TheVariants.{Lose, Repeat, Late}
use Rattle.am_wire_release.specs.declared.stage.LateItem.{LateItem}

module _ {X : Type 0} where
  -- what an item's own emission releases of it
  abbrev pub copies : Option LinkFault → X → List X
  copies None x = x ∷ []
  copies (Some Repeat) x = x ∷ x ∷ []
  copies (Some Lose) x = []
  copies (Some (Late by)) x = []

  -- what the emission at a place releases of an item that was held back
  abbrev pub falls_due : ℕ → LateItem X → List X
  falls_due place h = if h.due == place then h.item ∷ [] else []

  -- what the emission at a place releases: its own item, and then what was held back until then
  abbrev pub freed : ℕ → Option LinkFault → X → List (LateItem X) → List X
  freed place fault x held = copies fault x ++ flat_map (falls_due place) held

  -- what is held back of the item at a place
  abbrev pub held_back : Option LinkFault → ℕ → X → List (LateItem X)
  held_back (Some (Late by)) place x = record { due = place + by; item = x } ∷ []
  held_back (Some Lose) place x = []
  held_back (Some Repeat) place x = []
  held_back None place x = []

  -- whether the emission at a place was too early to release it
  abbrev pub is_later : ℕ → LateItem X → Bool
  is_later place h = nat_lt place h.due

  -- what is held back after the emission at a place
  abbrev pub held_then : ℕ → Option LinkFault → X → List (LateItem X) → List (LateItem X)
  held_then place fault x held = filter (is_later place) (held ++ held_back fault place x)

  -- what is held back at first of the items, where the first of them has this place
  abbrev pub all_held : (ℕ → Option LinkFault) → ℕ → List X → List (LateItem X)
  all_held faults place [] = []
  all_held faults place (x ∷ xs) = held_back (faults place) place x ++ all_held faults (place + 1) xs

  -- what the emissions of these items held back and did not release
  abbrev pub held_after : (ℕ → Option LinkFault) → List X → List (LateItem X)
  held_after faults xs = filter (is_later (length xs)) (all_held faults 1 xs)
