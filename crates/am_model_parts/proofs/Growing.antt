-- Which entries each reading reads, and what one entry more makes of it.
use Rattle.std.proofs.Common.{◌≡◌, ◌+◌, ℕ, Bool, true, false, List, [], ◌∷◌, ◌++◌, Option, Some, refl, ap, ◌∙◌, if◌then◌else◌, ◌||◌}
use Rattle.std.specs.List.{filter, filter_map, cons_option}
use Rattle.std.proofs.lemmas.List.Elements.{filter-append, filter_map-append}
use Rattle.std.proofs.lemmas.List.Sums.{sum_by_push}
use Rattle.am_names.specs.declared.EndpointId.{EndpointId}
use Rattle.am_names.specs.declared.NodeId.{NodeId}
use Rattle.am_names.specs.declared.Packet.{Packet}
use Rattle.am_office_entries.specs.declared.Entry.{Entry}
use Rattle.am_office_entries.specs.Entries.{emitted_of, touches}
use Rattle.am_model.specs.Channels.{binds, frees, sends, decides, emitted, is_on_link, last_such}
use Rattle.am_model.specs.History.{channel_to, is_page_call, page_calls}
use Rattle.am_model.proofs.Each.{state_of_push}
use Rattle.am_model.proofs.Ends.{last_such_push, sequence_push, attempt_push, bound_push, mark_push}
use Rattle.am_model.proofs.Received.{bit}
use Rattle.am_model_parts.specs.Driver.{changes_frame, is_load_into, is_loaded_by, lies_in}
use Rattle.am_model_parts.specs.Readings.{ReadsItsOwn, ReadingsGrow}
use Rattle.am_model_parts.proofs.Parts.{sequence_own, bound_own, attempt_own, mark_own, emitted_own, free_own}
use Rattle.am_model_parts.proofs.Moves.{pages_own}

pub reads_own : (node : NodeId) (past : List Entry) → ReadsItsOwn node past
reads_own node past =
    record {
      sequences = λ peer k. sequence_own (channel_to node peer k) past;
      messages = λ peer k. bound_own (channel_to node peer k) past;
      attempts = λ peer k. attempt_own (channel_to node peer k) past;
      marks = λ peer k. mark_own (channel_to node peer k) past;
      packets = λ peer. emitted_own node peer past;
      channels = λ peer k more. free_own node peer past k more;
      pages = pages_own node past;
    }

-- the packets that an entry emits on a link: the one that it emits, if it goes from the node to the peer
abbrev pub on_link : NodeId → NodeId → Option Packet → List Packet
on_link node peer p = filter (is_on_link node peer) (cons_option p [])

-- what more entries emit
pub emitted_append : (node peer : NodeId) (xs ys : List Entry) → emitted node peer (xs ++ ys) ≡ emitted node peer xs ++ emitted node peer ys
emitted_append node peer xs ys =
    ap (filter (is_on_link node peer)) (filter_map-append emitted_of xs ys)
    ∙ filter-append (is_on_link node peer) (filter_map emitted_of xs) (filter_map emitted_of ys)

frames_push : (log : List Entry) (x : Entry) (frame : ℕ) (e : EndpointId) →
    lies_in (log ++ x ∷ []) frame e ≡ (if changes_frame e x.event then is_load_into frame x.event else lies_in log frame e)
frames_push log x frame e =
    ap (is_loaded_by frame) (last_such_push (λ (y : Entry). changes_frame e y.event) log x) ∙ by_test (changes_frame e x.event)
  where
    by_test : (t : Bool) → is_loaded_by frame (if t then Some x else last_such (λ (y : Entry). changes_frame e y.event) log) ≡
        (if t then is_load_into frame x.event else lies_in log frame e)
    by_test true = refl
    by_test false = refl

pub readings_push : (log : List Entry) (x : Entry) → ReadingsGrow log x
readings_push log x =
    record {
      sequences = λ c. sequence_push c log x;
      messages = λ c. bound_push c log x (binds c x.event x.outcome || frees c x.event x.outcome) refl;
      attempts = λ c. attempt_push c log x (sends c x.event x.outcome) refl;
      marks = λ c. mark_push c log x (decides c x.event x.outcome) refl;
      packets = λ node peer. emitted_append node peer log (x ∷ []);
      frames = λ frame e. frames_push log x frame e;
      pages = λ node. sum_by_push (λ (y : Entry). bit (is_page_call node y.event)) log x;
      states = λ layout e. state_of_push layout log x e (touches e x) refl;
    }

-- one more page call of a node's driver, or none
pub calls_push : (node : NodeId) (log : List Entry) (x : Entry) (t : Bool) → is_page_call node x.event ≡ t →
    page_calls node (log ++ x ∷ []) ≡ page_calls node log + (if t then 1 else 0)
calls_push node log x t is = (readings_push log x).pages node ∙ ap (λ (b : Bool). page_calls node log + (if b then 1 else 0)) is
