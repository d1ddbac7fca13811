-- What a stage releases and holds back, told by the shape of its link.
use Rattle.std.specs.Prelude.{◌≡◌, ℕ, ◌+◌, Option, List, [], ◌∷◌, ◌++◌, map, length}
use Rattle.am_names.specs.declared.Packet.{Packet}
use Rattle.am_scenario_plan.specs.declared.plan.LinkFault.{LinkFault}
use Rattle.am_scenario_plan.specs.Shape.{number_of, released_by, stamp_of, stamped}
use Rattle.am_wire_release.specs.Stages.{freed, held_after, held_then}

-- what an emission frees is, with the emission's stamp, what it releases
abbrev pub PacketsLeave : Type 0
PacketsLeave =
    (faults : ℕ → Option LinkFault) (sent : List Packet) (p : Packet)
    → map (stamped (stamp_of p)) (freed (length sent + 1) (faults (length sent + 1)) p (held_after faults sent)) ≡ released_by faults sent p

-- so by the packets' numbers
abbrev pub NumbersLeave : Type 0
NumbersLeave =
    (faults : ℕ → Option LinkFault) (sent : List Packet) (p : Packet)
    → freed (length sent + 1) (faults (length sent + 1)) (number_of p) (held_after faults (map number_of sent)) ≡ map number_of (released_by faults sent p)

-- what is held back after one emission more is what all emissions hold back
abbrev pub HoldsOn : Type 0 → Type 0
HoldsOn X =
    (faults : ℕ → Option LinkFault) (sent : List X) (x : X)
    → held_then (length sent + 1) (faults (length sent + 1)) x (held_after faults sent) ≡ held_after faults (sent ++ x ∷ [])
