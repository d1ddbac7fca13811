-- How each endpoint stands behind each line, by the machine's definitions.
use Rattle.std.specs.Prelude.{◌≡◌, ℕ, ◌+◌, ◌-◌, true, List, [], ◌∷◌, ◌++◌, length, map, take}
use Rattle.am_names.specs.declared.EndpointId.{EndpointId}
use Rattle.am_office_entries.specs.declared.Entry.{Entry}
use Rattle.am_model.specs.Endpoint.{State, is_on_disk}
use Rattle.am_model.specs.History.{state_of}
use Rattle.am_model.specs.Layout.{EndSetting, Layout}
use Rattle.am_scenario_types.specs.Lists.{ScenarioLists}
use Rattle.am_scenario_types.specs.declared.parts.EndLine.{EndLine}
use Rattle.am_model_scripts.specs.Layout.{layout_of}
use Rattle.am_lab_picture.specs.Data.{LaneLists}
use Rattle.am_lab_picture.specs.Lanes.{LaneTracked, lane_begun, lane_ended, lane_followed, lane_followed_by, lane_of, lane_value}
use Rattle.am_lab_picture.specs.Residencies.{residency_of}
use Rattle.am_lab_picture.specs.Rows.{entries_in}
use Rattle.am_lab_picture.specs.declared.data.Lines.{Lines}
use Rattle.am_lab_picture.specs.declared.data.Standing.{Standing}

-- how an endpoint in this state stands: where it lies, how many records of requests are out, how many messages are received and not polled
abbrev pub standing_in : State → Standing
standing_in s =
    record { residency = residency_of s.head.place s.head.draining; records = length s.body.awaited; received = length s.body.received }

-- how an endpoint stands after these entries
abbrev pub standing : Layout → List Entry → EndpointId → Standing
standing layout past e = standing_in (state_of layout past e)

-- how it stands behind each of these entries, which come after the others
abbrev pub standings_behind : Layout → EndpointId → List Entry → List Entry → List Standing
standings_behind layout e past [] = []
standings_behind layout e past (x ∷ xs) = standing layout (past ++ x ∷ []) e ∷ standings_behind layout e (past ++ x ∷ []) xs

-- and before them too
abbrev pub standings : Layout → EndpointId → List Entry → List Entry → List Standing
standings layout e past xs = standing layout past e ∷ standings_behind layout e past xs

-- the lane of an endpoint: how it stands before these lines and behind each of them
abbrev pub lane : Layout → List Entry → Lines → EndLine → LaneLists
lane layout journal lines end =
    lane_of end (lines.first - 1) (standings layout end.id (take (lines.first - 3) journal) (entries_in lines journal))

-- the lanes of the endpoints, as they are declared
abbrev pub lanes : ScenarioLists → List Entry → Lines → List LaneLists
lanes s journal lines = map (lane (layout_of s) journal lines) s.ends

-- ---- as they are followed

-- what is known of how much an endpoint on disk holds is right
abbrev pub Keeps : Standing → State → Type 0
Keeps kept s = is_on_disk s.head.place ≡ true → (kept.records ≡ length s.body.awaited) × (kept.received ≡ length s.body.received)

-- the endpoint that is declared so is followed from a line on over these entries
abbrev pub tracked : Layout → ℕ → List Entry → List Entry → EndSetting → LaneTracked
tracked layout line past xs s = lane_followed (lane_begun (standing layout past s.id) line) (line + 1) (standings_behind layout s.id past xs)

-- each endpoint followed by one line more
abbrev pub all_followed : Layout → List Entry → ℕ → List LaneTracked → List EndSetting → List LaneTracked
all_followed layout now line [] ends = []
all_followed layout now line (t ∷ ts) [] = []
all_followed layout now line (t ∷ ts) (s ∷ ss) = lane_followed_by t (standing layout now s.id) line ∷ all_followed layout now line ts ss

-- each track knows what its endpoint holds, where that is on disk
abbrev pub AllKeep : Layout → List Entry → List LaneTracked → List EndSetting → Type 0
AllKeep layout now [] ends = Unit {0}
AllKeep layout now (t ∷ ts) [] = Unit {0}
AllKeep layout now (t ∷ ts) (s ∷ ss) = Keeps (lane_value t) (state_of layout now s.id) × AllKeep layout now ts ss

-- the lanes of these endpoints, where what stands now ends at a line
abbrev pub all_ended : ℕ → List LaneTracked → List EndLine → List LaneLists
all_ended line [] ends = []
all_ended line (t ∷ ts) [] = []
all_ended line (t ∷ ts) (e ∷ es) = lane_ended e t line ∷ all_ended line ts es
