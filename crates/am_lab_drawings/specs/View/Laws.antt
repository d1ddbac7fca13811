-- What is shown of a report, in other words.
use Rattle.std.specs.Prelude.{◌≡◌, ℕ, ◌+◌, ◌-◌, ◌≤◌, is_some, List, [], ◌∷◌, length, filter, map, take, if◌then◌else◌}
use Rattle.std.specs.List.{AllByRecursion, range_with_len}
use Rattle.am_lab_reasons.specs.Packets as reasons
use Rattle.am_lab_reasons.specs.Touches.{touches}
use Rattle.am_model.specs.Endpoint.{State}
use Rattle.am_model.specs.History.{IsHistory, state_of}
use Rattle.am_model.specs.Layout.{Layout}
use Rattle.am_names.specs.Packets.{from_of, number_of, receiver_of, way_of}
use Rattle.am_names.specs.declared.EndpointId.{EndpointId}
use Rattle.am_names.specs.declared.Packet.{Packet}
use Rattle.am_names.specs.declared.Serial.{Serial}
use Rattle.am_office_entries.specs.declared.Entry.{Entry}
use Rattle.am_scenario_types.specs.Lists.{ScenarioLists}
use Rattle.am_model_scripts.specs.Layout.{layout_of}
use Rattle.am_lab_picture.specs.Arrows.{arrows}
use Rattle.am_lab_picture.specs.Data.{LaneLists}
use Rattle.am_lemmas.specs.Numbered.{numbered}
use Rattle.am_lab_picture.specs.Laws.{IsArrow, IsCross, IsPlaced}
use Rattle.am_lab_picture.specs.Residencies.{residency_of}
use Rattle.am_lab_picture.specs.Spans.{AreJoined, spread}
use Rattle.am_lab_picture.specs.Ways.{is_received, received_way}
use Rattle.am_lab_picture.specs.declared.data.Arrow.{Arrow}
use Rattle.am_lab_picture.specs.declared.data.Lines.{Lines}
use Rattle.am_lab_picture.specs.declared.data.PlacedRow.{PlacedRow}
use Rattle.am_lab_drawings.specs.View.Messages.{message_picture_of}
use Rattle.am_lab_drawings.specs.View.Parts.{all_lines}
use Rattle.am_lab_drawings.specs.View.Standings.{lanes}

-- ---- lanes

-- an endpoint's states: after the entries before these lines, and after one entry more for each line
abbrev pub states : Layout → List Entry → Lines → EndpointId → List State
states layout journal lines e = map (λ (n : ℕ). state_of layout (take n journal) e) (range_with_len (lines.first - 3) (lines.count + 1))

-- The spans of a lane, spread out line by line, say where the endpoint lies in each state, how many records are out and how many
-- messages are received and not polled; and they go on without a gap from the line before the first to the one behind the last.
pub record IsLane (layout : Layout) (journal : List Entry) (lines : Lines) (lane : LaneLists) : Type 0 where
  pub residency : spread lane.residency ≡ map (λ (s : State). residency_of s.head.place s.head.draining) (states layout journal lines lane.id)
  pub records : spread lane.records ≡ map (λ (s : State). length s.body.awaited) (states layout journal lines lane.id)
  pub received : spread lane.received ≡ map (λ (s : State). length s.body.received) (states layout journal lines lane.id)
  pub residency_joined : AreJoined (lines.first - 1) lane.residency (lines.first + lines.count)
  pub records_joined : AreJoined (lines.first - 1) lane.records (lines.first + lines.count)
  pub received_joined : AreJoined (lines.first - 1) lane.received (lines.first + lines.count)

abbrev pub LanesAreTheStates : Type 0
LanesAreTheStates =
    (s : ScenarioLists) (journal : List Entry) (lines : Lines) → 3 ≤ lines.first → lines.first + lines.count ≤ length journal + 3
    → AllByRecursion (IsLane (layout_of s) journal lines) (lanes s journal lines)

-- ---- packets

-- That a packet is received means the same as where it is told what became of a message.
abbrev pub ReceiptsAreThoseOfReasons : Type 0
ReceiptsAreThoseOfReasons = (journal : List Entry) (p : Packet) → is_received journal (way_of p) ≡ reasons.is_received (from_of p) (receiver_of p) (number_of p) journal

-- the line of an entry, if the entry receives a packet
abbrev pub receipt_line : ℕ → Entry → List ℕ
receipt_line line x = if is_some (received_way x.event) then line ∷ [] else []

-- In a history there is just one arrow for each entry that receives a packet, in their order.
abbrev pub EachReceiptHasItsArrow : Type 0
EachReceiptHasItsArrow =
    (layout : Layout) (journal : List Entry) → IsHistory layout journal
    → map (λ (a : Arrow). a.to) (arrows (all_lines journal) journal) ≡ numbered receipt_line 3 journal

-- ---- one message

-- The rows of a message's picture are of just the entries that touch the message, as `why` tells them, in order, each in its line; and its
-- arrows and crosses are those of the journal.
pub record IsOfMessage (s : ScenarioLists) (journal : List Entry) (serial : Serial) : Type 0 where
  pub entries : map (λ (placed : PlacedRow). placed.row.entry) (message_picture_of s journal serial).rows ≡ filter (touches serial) journal
  pub rows' : AllByRecursion (IsPlaced journal) (message_picture_of s journal serial).rows
  pub arrows' : AllByRecursion (IsArrow journal) (message_picture_of s journal serial).arrows
  pub crosses' : AllByRecursion (IsCross journal) (message_picture_of s journal serial).crosses

abbrev pub MessagePicturesAreOfMessages : Type 0
MessagePicturesAreOfMessages = (s : ScenarioLists) (journal : List Entry) (serial : Serial) → IsOfMessage s journal serial
