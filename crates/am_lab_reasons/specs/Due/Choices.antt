-- Which events might come next, as a scenario lets them.
use Rattle.std.specs.Prelude.{Option, Some, None, List, [], ◌++◌, ℕ, codes, length, slice_get}
use Rattle.std.specs.List.{flat_map}
use Rattle.am_names.specs.declared.NodeId.{NodeId}
use Rattle.am_office_entries.specs.declared.Entry.{Entry}
use Rattle.am_office_entries.specs.declared.Event.{Event}
use Rattle.am_cluster_drainer.specs.Reads.{call_event}
use Rattle.am_scenario_types.specs.declared.parts.Form.{Form}
use Rattle.am_scenario_types.specs.declared.parts.Form.TheVariants.{Step, Run}
use Rattle.am_scenario_types.specs.declared.parts.ScriptCall.{ScriptCall}
use Rattle.am_scenario_types.specs.declared.parts.ThreadLine.{ThreadLine}
use Rattle.am_scenario_types.specs.Lists.{ScenarioLists}
use Rattle.am_model_scripts.specs.Layout.{events_of}
use Rattle.am_model_scripts.specs.Links.{due, nodes_of, receipt}
use Rattle.am_model_scripts.specs.Scripts.{call_left}
use Rattle.am_lab_reasons.specs.Due.Texts.{next_line}

abbrev pub next_if : Option Event → List ℕ
next_if None = []
next_if (Some event) = next_line event

-- the step that is next, or that no step is left
abbrev pub step_line : Option Event → List ℕ
step_line None = codes "next nothing\n"
step_line (Some event) = next_line event

abbrev pub call_line : Option ScriptCall → List ℕ
call_line None = []
call_line (Some call) = next_line (call_event call)

-- the next call of a thread, if one is left
abbrev pub next_call : ScenarioLists → List Entry → ThreadLine → List ℕ
next_call s past thread = call_line (call_left s past thread.id)

-- the receipt of the next packet of a link, if one was released and not received
abbrev pub next_packet : ScenarioLists → List Entry → NodeId → NodeId → List ℕ
next_packet s past node peer = next_if (receipt node peer (due s peer node past))

abbrev pub next_packets : ScenarioLists → List Entry → NodeId → List ℕ
next_packets s past node = flat_map (next_packet s past node) (nodes_of s)

-- the events that might come: the next step; or the next call of each thread, and then at each node the next packet from each peer
abbrev pub choices : Form → ScenarioLists → List Entry → List ℕ
choices Step s past = step_line (slice_get (events_of s.steps) (length past))
choices Run s past = flat_map (next_call s past) s.threads ++ flat_map (next_packets s past) (nodes_of s)
