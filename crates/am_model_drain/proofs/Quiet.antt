-- Making endpoints ready adds entries of drivers alone.
use Rattle.std.proofs.Common.{◌≡◌, ℕ, zero, suc, List, [], ◌∷◌, ◌++◌, Option, Some, None, Bool, true, false, refl, sym, ◌∙◌, ap, append_assoc, append-nil}
use Rattle.std.specs.Prelude.{◌+◌, ◌&&◌, is_none, is_some, not, length, find}
use Rattle.std.specs.List.{list_all}
use Rattle.std.proofs.lemmas.Bool.{and_from}
use Rattle.std.proofs.lemmas.List.Folds.{list_all-append}
use Rattle.am_names.specs.declared.EndpointId.{EndpointId}
use Rattle.am_names.specs.declared.NodeId.{NodeId}
use Rattle.am_office_entries.specs.declared.Event.{Event}
use Rattle.am_office_entries.specs.declared.Event.TheVariants as Events
use Rattle.am_office_entries.specs.declared.Entry.{Entry}
use Rattle.am_names.specs.Names.{same_end}
use Rattle.am_model.specs.Endpoint.{is_on_disk, is_on_host}
use Rattle.am_model.specs.Layout.{Layout, home}
use Rattle.am_model.specs.History.{state_of}
use Rattle.am_model_scripts.specs.Standings.{Standing, standings}
use Rattle.am_model.specs.Parts.{driver_of}
use Rattle.am_model_drain.specs.Made.{next_entry, after_event, after_event_if}
use Rattle.am_model_drain.specs.Ready.{paged_in, off_disk, off_disk_at, is_draining_in_frame, not_draining, may_leave, unloaded, spare, paged_out, kept}
use Rattle.am_model_drain.specs.Ready.{emptied, emptied_if, free_frame, with_frame, loaded_into, loaded, ready, ready_at, ready_dest_if, ready_dest}

abbrev pub is_driven : Entry → Bool
is_driven x = is_some (driver_of x.event)

-- a journal with entries of drivers more
pub record Quiet (past next : List Entry) : Type 0 where
  pub added : List Entry
  pub adds : next ≡ past ++ added
  pub driven : list_all is_driven added ≡ true

pub same : (past : List Entry) → Quiet past past
same past = record { added = []; adds = sym (append-nil past); driven = refl }

pub then : (past next last : List Entry) → Quiet past next → Quiet next last → Quiet past last
then past next last p q =
    record {
      added = p.added ++ q.added;
      adds = q.adds ∙ (ap (λ (xs : List Entry). xs ++ q.added) p.adds ∙ append_assoc past p.added q.added);
      driven = list_all-append is_driven p.added q.added ∙ and_from (list_all is_driven p.added) (list_all is_driven q.added) p.driven q.driven;
    }

pub after_event-quiet : (layout : Layout) (event : Event) (past : List Entry) → is_some (driver_of event) ≡ true → Quiet past (after_event layout event past)
after_event-quiet layout event past driven =
    record { added = next_entry layout past event ∷ []; adds = refl; driven = and_from (is_some (driver_of event)) true driven refl }

pub after_event_if-quiet : (b : Bool) (layout : Layout) (event : Event) (past : List Entry) → is_some (driver_of event) ≡ true →
    Quiet past (after_event_if b layout event past)
after_event_if-quiet true layout event past driven = after_event-quiet layout event past driven
after_event_if-quiet false layout event past driven = same past

pub paged_in-quiet : (n : ℕ) (layout : Layout) (node : NodeId) (e : EndpointId) (past : List Entry) → Quiet past (paged_in n layout node e past)
paged_in-quiet zero layout node e past = same past
paged_in-quiet (suc n) layout node e past =
    let on_disk : Bool = is_on_disk (state_of layout past e).head.place in
    let next : List Entry = after_event_if on_disk layout (Events.PageIn node e) past in
    then past next (paged_in n layout node e next) (after_event_if-quiet on_disk layout (Events.PageIn node e) past refl) (paged_in-quiet n layout node e next)

pub unloaded-quiet : (layout : Layout) (s : Option Standing) (past : List Entry) → Quiet past (unloaded layout s past)
unloaded-quiet layout None past = same past
unloaded-quiet layout (Some s) past =
    let next : List Entry = after_event_if (not s.state.head.draining) layout (Events.Drain s.setting.node s.setting.id) past in
    then past next (unloaded layout (Some s) past) (after_event_if-quiet (not s.state.head.draining) layout (Events.Drain s.setting.node s.setting.id) past
    refl) (after_event-quiet layout (Events.Unload s.setting.node s.setting.id) next refl)

pub paged_out-quiet : (layout : Layout) (s : Option Standing) (past : List Entry) → Quiet past (paged_out layout s past)
paged_out-quiet layout None past = same past
paged_out-quiet layout (Some s) past = after_event-quiet layout (Events.PageOut s.setting.node s.setting.id) past refl

pub kept-quiet : (layout : Layout) (keep : ℕ) (node : NodeId) (source dest : EndpointId) (past : List Entry) →
    Quiet past (kept layout keep node source dest past)
kept-quiet layout keep node source dest past = paged_out-quiet layout (spare keep node source dest (standings layout past)) past

pub emptied-quiet : (layout : Layout) (keep : ℕ) (node : NodeId) (source dest : EndpointId) (past : List Entry) →
    Quiet past (emptied layout keep node source dest past)
emptied-quiet layout keep node source dest past =
    let leaver : Option Standing = find (may_leave node source dest) (standings layout past) in
    let next : List Entry = unloaded layout leaver past in
    then past next (kept layout keep node source dest next) (unloaded-quiet layout leaver past) (kept-quiet layout keep node source dest next)

pub emptied_if-quiet : (b : Bool) (layout : Layout) (keep : ℕ) (node : NodeId) (source dest : EndpointId) (past : List Entry) →
    Quiet past (emptied_if b layout keep node source dest past)
emptied_if-quiet true layout keep node source dest past = emptied-quiet layout keep node source dest past
emptied_if-quiet false layout keep node source dest past = same past

pub loaded_into-quiet : (frame : Option ℕ) (layout : Layout) (node : NodeId) (e : EndpointId) (past : List Entry) →
    Quiet past (loaded_into frame layout node e past)
loaded_into-quiet None layout node e past = same past
loaded_into-quiet (Some frame) layout node e past = after_event_if-quiet (is_on_host (state_of layout past e).head.place) layout (Events.Load node e frame) past
    refl

pub off_disk-quiet : (layout : Layout) (node : NodeId) (e : EndpointId) (past : List Entry) → Quiet past (off_disk layout node e past)
off_disk-quiet layout node e past = paged_in-quiet (length layout.faults + 1) layout node e past

pub not_draining-quiet : (layout : Layout) (node : NodeId) (e : EndpointId) (past : List Entry) → Quiet past (not_draining layout node e past)
not_draining-quiet layout node e past = after_event_if-quiet (is_draining_in_frame (state_of layout past e)) layout (Events.Unload node e) past refl

pub with_frame-quiet : (layout : Layout) (keep : ℕ) (node : NodeId) (e source dest : EndpointId) (past : List Entry) →
    Quiet past (with_frame layout keep node e source dest past)
with_frame-quiet layout keep node e source dest past =
    emptied_if-quiet (is_on_host (state_of layout past e).head.place && is_none (free_frame layout node (standings layout past))) layout keep node source dest
    past

pub loaded-quiet : (layout : Layout) (node : NodeId) (e : EndpointId) (past : List Entry) → Quiet past (loaded layout node e past)
loaded-quiet layout node e past = loaded_into-quiet (free_frame layout node (standings layout past)) layout node e past

pub ready-quiet : (layout : Layout) (keep : ℕ) (node : NodeId) (e source dest : EndpointId) (past : List Entry) →
    Quiet past (ready layout keep node e source dest past)
ready-quiet layout keep node e source dest past =
    let one : List Entry = off_disk layout node e past in
    let two : List Entry = not_draining layout node e one in
    let three : List Entry = with_frame layout keep node e source dest two in
    then past one (loaded layout node e three) (off_disk-quiet layout node e past) (then one two (loaded layout node e three)
    (not_draining-quiet layout node e one) (then two three (loaded layout node e three) (with_frame-quiet layout keep node e source dest two)
    (loaded-quiet layout node e three)))

pub ready_at-quiet : (home : Option NodeId) (layout : Layout) (keep : ℕ) (source dest : EndpointId) (past : List Entry) →
    Quiet past (ready_at home layout keep source dest past)
ready_at-quiet None layout keep source dest past = same past
ready_at-quiet (Some node) layout keep source dest past = ready-quiet layout keep node dest source dest past

pub ready_dest_if-quiet : (b : Bool) (layout : Layout) (keep : ℕ) (source dest : EndpointId) (past : List Entry) →
    Quiet past (ready_dest_if b layout keep source dest past)
ready_dest_if-quiet true layout keep source dest past = ready_at-quiet (home layout dest) layout keep source dest past
ready_dest_if-quiet false layout keep source dest past = same past

pub ready_dest-quiet : (layout : Layout) (keep : ℕ) (source dest : EndpointId) (past : List Entry) → Quiet past (ready_dest layout keep source dest past)
ready_dest-quiet layout keep source dest past =
    ready_dest_if-quiet (not (same_end source dest) && not (state_of layout past dest).head.closed) layout keep source dest past

pub off_disk_at-quiet : (home : Option NodeId) (layout : Layout) (e : EndpointId) (past : List Entry) → Quiet past (off_disk_at home layout e past)
off_disk_at-quiet None layout e past = same past
off_disk_at-quiet (Some node) layout e past = off_disk-quiet layout node e past
