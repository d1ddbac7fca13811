-- The lines of a node's frames and of its disk in the text of a state.
use Rattle.std.specs.Prelude.{ℕ, Bool, true, false, ◌&&◌, ◌||◌, List, [], ◌∷◌, ◌++◌, codes}
use Rattle.std.specs.Fmt.{decimal}
use Rattle.std.specs.List.{flat_map, list_any, range_with_len}
use Rattle.am_names.specs.Names.{same_end, same_node}
use Rattle.am_names.specs.declared.EndpointId.{EndpointId}
use Rattle.am_names.specs.declared.NodeId.{NodeId}
use Rattle.am_model.specs.Endpoint.{State, is_on_disk}
use Rattle.am_model.specs.History.{is_in_frame, state_of}
use Rattle.am_model_scripts.specs.Layout.{layout_of}
use Rattle.am_model_scripts.specs.Links.{nodes_of}
use Rattle.am_office_entries.specs.declared.Entry.{Entry}
use Rattle.am_office_entries.specs.declared.Event.{Event}
use Rattle.am_office_entries.specs.declared.Event.TheVariants as Events
use Rattle.am_office_entries.specs.declared.Outcome.{Outcome}
use Rattle.am_office_entries.specs.declared.Outcome.TheVariants as Out
use Rattle.am_office_text.specs.Words.{Word, line}
use Rattle.am_scenario_types.specs.Lists.{ScenarioLists}
use Rattle.am_scenario_types.specs.declared.parts.EndLine.{EndLine}

-- a line, if it is to be told
abbrev pub line_if : Bool → List ℕ → List ℕ
line_if true text = text
line_if false text = []

-- ---- its frames

-- the endpoint that lies in a frame
abbrev pub frame_line : NodeId → ℕ → EndpointId → List ℕ
frame_line node frame e = line (codes "node") (decimal node.0 ∷ codes "frame" ∷ decimal frame ∷ codes "holds" ∷ decimal e.0 ∷ [])

abbrev pub owner_by : NodeId → ℕ → EndLine → State → List ℕ
owner_by node frame end s = line_if (same_node node end.node && is_in_frame frame s.head.place) (frame_line node frame end.id)

-- an endpoint, if it is of the node and lies in this frame
abbrev pub owner_line : ScenarioLists → List Entry → NodeId → ℕ → EndLine → List ℕ
owner_line s past node frame end = owner_by node frame end (state_of (layout_of s) past end.id)

abbrev pub frame_lines : ScenarioLists → List Entry → NodeId → ℕ → List ℕ
frame_lines s past node frame = flat_map (owner_line s past node frame) s.ends

-- ---- its disk

-- an image on disk is old where its endpoint lies elsewhere again
abbrev pub image_words : Bool → List Word
image_words true = []
image_words false = codes "old" ∷ []

-- the endpoint of an image on disk
abbrev pub image_line : NodeId → EndpointId → Bool → List ℕ
image_line node e lies_there = line (codes "node") (decimal node.0 ∷ codes "disk" ∷ codes "holds" ∷ decimal e.0 ∷ image_words lies_there)

-- whether an image of the endpoint is written here
abbrev pub writes : EndpointId → Event → Outcome → Bool
writes e (Events.PageOut node end) Out.Done = same_end e end
writes e event outcome = false

-- whether one is written by one of these entries
abbrev pub is_written : EndpointId → List Entry → Bool
is_written e past = list_any (λ (x : Entry). writes e x.event x.outcome) past

-- an endpoint, if it is of the node and began on disk, or an image of it was written there
abbrev pub key_by : NodeId → EndLine → Bool → State → List ℕ
key_by node end written s = line_if (same_node node end.node && (end.disk || written)) (image_line node end.id (is_on_disk s.head.place))

-- an endpoint, if the disk of the node has an image of it
abbrev pub key_line : ScenarioLists → List Entry → NodeId → EndLine → List ℕ
key_line s past node end = key_by node end (is_written end.id past) (state_of (layout_of s) past end.id)

abbrev pub disk_lines : ScenarioLists → List Entry → NodeId → List ℕ
disk_lines s past node = flat_map (key_line s past node) s.ends

-- ---- both

-- the frames of a node that are held, by number, and the endpoints of which its disk has an image
abbrev pub store_lines : ScenarioLists → List Entry → NodeId → List ℕ
store_lines s past node = flat_map (frame_lines s past node) (range_with_len 0 s.frames) ++ disk_lines s past node

-- the frames and the disk of each node, by node
abbrev pub all_stores : ScenarioLists → List Entry → List ℕ
all_stores s past = flat_map (store_lines s past) (nodes_of s)
