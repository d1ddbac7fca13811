-- A scenario as a text, without comments: every setting with its number, then what is declared, then the calls or the steps.
use Rattle.std.specs.Prelude.{ℕ, ◌+◌, ◌-◌, ◌^◌, min, Bool, true, false, List, [], ◌∷◌, ◌++◌, length, map, codes, Option, Some, None}
use Rattle.std.specs.Fmt.{decimal}
use Rattle.std.specs.List.{flat_map}
use Rattle.am_names.specs.declared.EndpointId.{EndpointId}
use Rattle.am_office_entries.specs.declared.Actor.TheVariants as Actors
use Rattle.am_office_entries.specs.declared.Event.{Event}
use Rattle.am_office_entries.specs.declared.Event.TheVariants as Events
use Rattle.am_bundle.specs.Lists.{BundleLists}
use Rattle.am_scenario_plan.specs.declared.plan.LinkFault.{LinkFault}
use Rattle.am_scenario_plan.specs.declared.plan.LinkFault.TheVariants.{Lose, Repeat, Late}
use Rattle.am_scenario_plan.specs.declared.plan.PlanLine.{PlanLine}
use Rattle.am_scenario_types.specs.declared.parts.Network.{Network}
use Rattle.am_scenario_types.specs.declared.parts.Network.TheVariants.{Direct, Packet}
use Rattle.am_scenario_types.specs.declared.parts.EndLine.{EndLine}
use Rattle.am_scenario_types.specs.declared.parts.ThreadLine.{ThreadLine}
use Rattle.am_scenario_types.specs.declared.parts.FaultLine.{FaultLine}
use Rattle.am_scenario_types.specs.declared.parts.ScriptCall.{ScriptCall}
use Rattle.am_scenario_types.specs.declared.parts.StepLine.{StepLine}
use Rattle.am_scenario_types.specs.Lists.{ScenarioLists}
use Rattle.am_office_text.specs.Words.{Word, line, tag}
use Rattle.am_office_text.specs.EntryLines.Lines.{who, what, mask}

-- ---- the version and the settings

-- version 2 has pools
abbrev pub version_number : Option ℕ → ℕ
version_number None = 1
version_number (Some pool) = 2

unfoldable pub network_word : Network → Word
network_word Direct = codes "direct"
network_word Packet = codes "packet"

-- a setting and its number
unfoldable pub setting_line : Word → ℕ → List ℕ
setting_line name number = line name (decimal number ∷ [])

abbrev pub pool_line : Option ℕ → List ℕ
pool_line None = []
pool_line (Some pool) = setting_line (codes "pool") pool

-- the settings that stand in each version
unfoldable pub number_lines : ScenarioLists → List ℕ
number_lines s =
    setting_line (codes "nodes") s.nodes
    ++ setting_line (codes "frames") s.frames
    ++ setting_line (codes "channels") s.channels
    ++ setting_line (codes "tries") s.tries
    ++ setting_line (codes "bounces") s.bounces
    ++ setting_line (codes "keep") s.keep
    ++ setting_line (codes "log") s.log
    ++ setting_line (codes "turns") s.turns

unfoldable pub setting_lines : ScenarioLists → List ℕ
setting_lines s =
    setting_line (codes "am2") (version_number s.pool)
    ++ line (codes "network") (network_word s.network ∷ [])
    ++ number_lines s
    ++ pool_line s.pool

-- ---- what is declared

unfoldable pub disk_words : Bool → List Word
disk_words true = codes "disk" ∷ []
disk_words false = []

-- endpoint E N TAG, endpoint E N TAG disk
unfoldable pub end_line : EndLine → List ℕ
end_line end = line (codes "endpoint") (decimal end.id.0 ∷ decimal end.node.0 ∷ tag end.tag ∷ disk_words end.disk)

abbrev pub member_words : List EndpointId → List Word
member_words members = map (λ (member : EndpointId). decimal member.0) members

-- bundle B MASK and its members
unfoldable pub bundle_line : BundleLists → List ℕ
bundle_line bundle = line (codes "bundle") (decimal bundle.id ∷ mask bundle.mask ∷ member_words bundle.members)

-- thread T N
unfoldable pub thread_line : ThreadLine → List ℕ
thread_line thread = line (codes "thread") (decimal thread.id ∷ decimal thread.node.0 ∷ [])

unfoldable pub fault_words : LinkFault → List Word
fault_words Lose = codes "lose" ∷ []
fault_words Repeat = codes "repeat" ∷ []
fault_words (Late by) = codes "late" ∷ decimal by ∷ []

-- plan P N K and what becomes of the packet
unfoldable pub plan_line : PlanLine → List ℕ
plan_line planned = line (codes "plan") (decimal planned.from.0 ∷ decimal planned.to.0 ∷ decimal planned.number ∷ fault_words planned.fault)

-- swapfault N K
unfoldable pub swap_fault_line : FaultLine → List ℕ
swap_fault_line fault = line (codes "swapfault") (decimal fault.node.0 ∷ decimal fault.number ∷ [])

unfoldable pub declared_lines : ScenarioLists → List ℕ
declared_lines s =
    flat_map end_line s.ends
    ++ flat_map bundle_line s.bundles
    ++ flat_map thread_line s.threads
    ++ flat_map plan_line s.plan
    ++ flat_map swap_fault_line s.faults

-- ---- calls and steps, as a journal has them

-- who acts, and what happens
unfoldable pub event_line : Event → List ℕ
event_line event = line (who event) (what event)

abbrev pub call_line : ScriptCall → List ℕ
call_line made = event_line (Events.Call (Actors.Thread made.thread) made.endpoint made.call)

abbrev pub step_line : StepLine → List ℕ
step_line step = event_line step.event

-- ---- the whole

unfoldable pub scenario_text : ScenarioLists → List ℕ
scenario_text s = setting_lines s ++ declared_lines s ++ flat_map call_line s.script ++ flat_map step_line s.steps

-- how many lines stand before the calls and the steps
abbrev pub lines_before : ScenarioLists → ℕ
lines_before s = version_number s.pool + 9 + length s.ends + length s.bundles + length s.threads + length s.plan + length s.faults + length s.script

-- the number of the line before which so many stand; a number of 32 bits stands still at its end
abbrev pub line_behind : ℕ → ℕ
line_behind before = min (before + 1) (2 ^ 32 - 1)

-- steps, each in its line of the text
unfoldable pub in_lines : ℕ → List StepLine → List StepLine
in_lines before [] = []
in_lines before (step ∷ steps) = record { line = line_behind before; event = step.event } ∷ in_lines (before + 1) steps

-- the scenario with each step in the line that it has in the printed text
abbrev pub as_printed : ScenarioLists → ScenarioLists
as_printed s = record s { steps = in_lines (lines_before s) s.steps }
