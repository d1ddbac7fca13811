-- The shape of a relay: what its emissions release, one after the other.
use Rattle.std.specs.Prelude.{ℕ, ◌+◌, Option, List, [], ◌∷◌, ◌++◌, map, length}
use Rattle.am_scenario_plan.specs.declared.plan.LinkFault.{LinkFault}
use Rattle.am_wire_release.specs.Stages.{freed, held_after}

module _ {X : Type 0} (stamp_of : X → ℕ) (restamped : ℕ → X → X) (faults : ℕ → Option LinkFault) where
  -- what the emission of x releases, after the emissions of `before`: its copies, and what was held back until then, with its stamp
  abbrev pub released_by : List X → X → List X
  released_by before x = map (restamped (stamp_of x)) (freed (length before + 1) (faults (length before + 1)) x (held_after faults before))

  -- what the emissions release that come after those of `before`
  abbrev pub shape_after : List X → List X → List X
  shape_after before [] = []
  shape_after before (x ∷ xs) = released_by before x ++ shape_after (before ++ x ∷ []) xs

  -- what the emissions on a relay release
  abbrev pub shape : List X → List X
  shape emitted = shape_after [] emitted
