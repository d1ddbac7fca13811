-- What a driver says of its move is what the whole journal says.
use Rattle.std.specs.Prelude.{not, length}
use Rattle.std.proofs.Common.{◌≡◌, ℕ, ◌+◌, ◌==◌, Bool, true, List, [], ◌∷◌, Some, refl, sym, ap, ◌∙◌, if◌then◌else◌}
use Rattle.std.specs.List.{list_any}
use Rattle.am_names.specs.declared.EndpointId.{EndpointId}
use Rattle.am_names.specs.declared.NodeId.{NodeId}
use Rattle.am_names.specs.Names.{same_end, same_node}
use Rattle.am_office_entries.specs.declared.Condition.TheVariants as Needs
use Rattle.am_office_entries.specs.declared.Event.{Event}
use Rattle.am_office_entries.specs.declared.Event.TheVariants as Events
use Rattle.am_office_entries.specs.declared.Outcome.{Outcome}
use Rattle.am_office_entries.specs.declared.Outcome.TheVariants as Out
use Rattle.am_office_entries.specs.declared.Entry.{Entry}
use Rattle.am_office_entries.specs.Entries.{is_node}
use Rattle.am_model.specs.Tables.{page_ended}
use Rattle.am_model.specs.Choice.{first_holding}
use Rattle.am_model.specs.Endpoint.{State, is_resident, is_on_host, is_on_disk}
use Rattle.am_model.specs.Layout.{Layout, Fault}
use Rattle.am_model.specs.History.{IsHistory, is_home, is_frame_held, is_page_call, page, page_calls}
use Rattle.am_model_parts.specs.Driver.{DriverLog, end_moved, lies_in, is_frame_held_by, is_end_of, page_at}
use Rattle.am_model.specs.Parts.{driver_of, is_by_driver}
use Rattle.am_model_parts.specs.Readings.{of_driver}
use Rattle.am_model_parts.specs.Together.{IsDriverPart, IsState, SaysTheSameOfMove}
use Rattle.am_model_parts.proofs.Within.{count_within}
use Rattle.am_model_parts.proofs.Homes.{any_mapped, ends_home}
use Rattle.am_model_parts.proofs.Frames.{held_same}
use Rattle.am_model.specs.Tables.{page_ended}

page_by_driver : (node : NodeId) (event : Event) → is_page_call node event ≡ true → is_node node (driver_of event) ≡ true
page_by_driver node (Events.PageOut at end) h = h
page_by_driver node (Events.PageIn at end) h = h
page_by_driver node event h = absurd (cc)

-- the page calls of a node are its driver's
pub pages_own : (node : NodeId) (past : List Entry) → page_calls node (of_driver node past) ≡ page_calls node past
pages_own node past = count_within (λ (x : Entry). is_page_call node x.event) (is_by_driver node) (λ x. page_by_driver node x.event) past

page_same : (layout : Layout) (past : List Entry) (d : DriverLog) → IsDriverPart layout past d → page layout d.settings.node past ≡ page_at d
page_same layout past d part =
    ap page_ended
    (sym (any_mapped (λ (f : Fault). f.number) (λ (f : Fault). same_node d.settings.node f.node) (λ (n : ℕ). n ==
    page_calls d.settings.node past + 1) layout.faults)
    ∙ λ i. list_any (λ (n : ℕ). n == number i + 1) (sym part.settings.faults i))
  where
    number : page_calls d.settings.node past ≡ page_calls d.settings.node d.log
    number = sym (ap (page_calls d.settings.node) part.log ∙ pages_own d.settings.node past)

home_same : (layout : Layout) (past : List Entry) (d : DriverLog) → IsDriverPart layout past d → (e : EndpointId) →
    is_home layout e d.settings.node ≡ is_end_of d e
home_same layout past d part e = sym (ap (list_any (same_end e)) part.settings.ends ∙ ends_home layout d.settings.node e)

frame_same : (layout : Layout) (past : List Entry) (d : DriverLog) → IsDriverPart layout past d → IsHistory layout past → (frame : ℕ) →
    is_frame_held layout past d.settings.node frame ≡ is_frame_held_by d frame
frame_same layout past d part history frame =
    held_same layout part.settings.once past history d.settings.node frame
    ∙ λ i. list_any (lies_in (sym part.log i) frame) (sym part.settings.ends i)

-- a driver's move is local
pub move_local : (layout : Layout) (past : List Entry) (d : DriverLog) (s : State) (event : Event) → IsHistory layout past → IsDriverPart layout past d →
    driver_of event ≡ Some d.settings.node → IsState layout past s (end_moved event) → SaysTheSameOfMove layout past d s event
move_local layout past d s event history part by state = by_event event by state
  where
    node : NodeId
    node = d.settings.node

    home : (at : NodeId) → Some at ≡ Some node → (e : EndpointId) → is_home layout e at ≡ is_end_of d e
    home at is e = let same : at ≡ node = cc in ap (is_home layout e) same ∙ home_same layout past d part e

    paging : (at : NodeId) → Some at ≡ Some node → page layout at past ≡ page_at d
    paging at is = let same : at ≡ node = cc in ap (λ (n : NodeId). page layout n past) same ∙ page_same layout past d part

    held : (at : NodeId) → Some at ≡ Some node → (frame : ℕ) → is_frame_held layout past at frame ≡ is_frame_held_by d frame
    held at is frame = let same : at ≡ node = cc in ap (λ (n : NodeId). is_frame_held layout past n frame) same ∙ frame_same layout past d part history frame

    by_event : (v : Event) → driver_of v ≡ Some node → IsState layout past s (end_moved v) → SaysTheSameOfMove layout past d s v
    by_event (Events.Drain at end) is st =
        record {
          outcome = refl;
          failing =
              λ k.
              first_holding (
              (part.settings.packet k, Needs.NotPacket)
              ∷ (not (home at is end k), Needs.OtherNode)
              ∷ (not (is_resident (sym st k).head.place), Needs.NotResident)
              ∷ ((sym st k).head.draining, Needs.Draining)
              ∷ []);
        }
    by_event (Events.Unload at end) is st =
        record {
          outcome = refl;
          failing =
              λ k.
              first_holding (
              (part.settings.packet k, Needs.NotPacket)
              ∷ (not (home at is end k), Needs.OtherNode)
              ∷ (not (is_resident (sym st k).head.place), Needs.NotResident)
              ∷ (not (sym st k).head.draining, Needs.NotDraining)
              ∷ (not (length (sym st k).body.in_flight == 0), Needs.InFlight)
              ∷ []);
        }
    by_event (Events.Load at end frame) is st =
        record {
          outcome = refl;
          failing =
              λ k.
              first_holding (
              (part.settings.packet k, Needs.NotPacket)
              ∷ (not (home at is end k), Needs.OtherNode)
              ∷ (not (is_on_host (sym st k).head.place), Needs.NotOnHost)
              ∷ ((sym st k).head.closed, Needs.Closed)
              ∷ (held at is frame k, Needs.FrameHeld)
              ∷ []);
        }
    by_event (Events.PageOut at end) is st =
        record {
          outcome = paging at is;
          failing =
              λ k.
              first_holding (
              (part.settings.packet k, Needs.NotPacket)
              ∷ (not (home at is end k), Needs.OtherNode)
              ∷ (not (is_on_host (sym st k).head.place), Needs.NotOnHost)
              ∷ ((sym st k).head.closed, Needs.Closed)
              ∷ []);
        }
    by_event (Events.PageIn at end) is st =
        record {
          outcome = paging at is;
          failing =
              λ k.
              first_holding (
              (part.settings.packet k, Needs.NotPacket)
              ∷ (not (home at is end k), Needs.OtherNode)
              ∷ (not (is_on_disk (sym st k).head.place), Needs.NotOnDisk)
              ∷ []);
        }
    by_event v is st = absurd (cc)
