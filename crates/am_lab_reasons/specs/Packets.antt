-- What became of a packet: the lines at which it was received, or why it never was.
use Rattle.std.specs.Prelude.{ℕ, Bool, true, false, ◌==◌, ◌&&◌, Option, Some, None, List, [], ◌∷◌, ◌++◌, codes, if◌then◌else◌}
use Rattle.std.specs.Fmt.{decimal}
use Rattle.std.specs.List.{list_any}
use Rattle.am_names.specs.declared.NodeId.{NodeId}
use Rattle.am_names.specs.declared.Packet.{Packet}
use Rattle.am_names.specs.Names.{same_node}
use Rattle.am_office_entries.specs.declared.Entry.{Entry}
use Rattle.am_office_entries.specs.declared.Event.{Event}
use Rattle.am_office_entries.specs.declared.Event.TheVariants as Events
use Rattle.am_model.specs.Packets.{from_of, receiver_of}
use Rattle.am_scenario_plan.specs.Shape.{fault_at, number_of}
use Rattle.am_scenario_plan.specs.declared.plan.LinkFault.{LinkFault}
use Rattle.am_scenario_plan.specs.declared.plan.LinkFault.TheVariants.{Lose, Repeat, Late}
use Rattle.am_scenario_plan.specs.declared.plan.PlanLine.{PlanLine}
use Rattle.am_office_text.specs.Words.{spaced}
use Rattle.am_lemmas.specs.Numbered.{numbered}

-- an event receives the packet with this number of the link from one node to another
abbrev pub receives : NodeId → NodeId → ℕ → Event → Bool
receives from to number (Events.Receive node peer other) = same_node from peer && same_node to node && (number == other)
receives from to number event = false

abbrev pub is_received : NodeId → NodeId → ℕ → List Entry → Bool
is_received from to number journal = list_any (λ (x : Entry). receives from to number x.event) journal

-- the number of a line, if it receives it
abbrev pub receipt : NodeId → NodeId → ℕ → ℕ → Entry → List ℕ
receipt from to number line x = if receives from to number x.event then spaced (decimal line ∷ []) else []

-- why it never was: the plan withholds it, or holds it back until so many emissions later; else nobody received it in this journal
abbrev pub never : Option LinkFault → List ℕ
never None = codes " not received"
never (Some Repeat) = codes " not received"
never (Some Lose) = codes " lost by the plan"
never (Some (Late by)) = codes " held back by the plan for" ++ spaced (decimal by ∷ [])

-- the lines that receive it, of which the journal's first is the third of the report
unfoldable pub received_lines : List Entry → NodeId → NodeId → ℕ → List ℕ
received_lines journal from to number = codes " received line" ++ numbered (receipt from to number) 3 journal

abbrev pub received_or : Bool → List PlanLine → List Entry → NodeId → NodeId → ℕ → List ℕ
received_or true plan journal from to number = received_lines journal from to number
received_or false plan journal from to number = never (fault_at plan from to number)

abbrev pub way_line : List PlanLine → List Entry → NodeId → NodeId → ℕ → List ℕ
way_line plan journal from to number =
    codes "packet" ++ spaced (decimal number ∷ codes "from" ∷ decimal from.0 ∷ codes "to" ∷ decimal to.0 ∷ [])
    ++ received_or (is_received from to number journal) plan journal from to number ++ codes "\n"

-- the line of a packet, if there is one
abbrev pub packet_line : List PlanLine → List Entry → Option Packet → List ℕ
packet_line plan journal None = []
packet_line plan journal (Some p) = way_line plan journal (from_of p) (receiver_of p) (number_of p)
