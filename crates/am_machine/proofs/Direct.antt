-- In the direct network no endpoint is ever on disk.
use Rattle.std.proofs.Common.{◌≡◌, Bool, true, false, List, [], ◌∷◌, ◌++◌, Option, Some, None, refl, ap, ◌∙◌, if◌then◌else◌}
use Rattle.std.specs.List.{find}
use Rattle.am_names.specs.declared.EndpointId.{EndpointId}
use Rattle.am_names.specs.Names.{same_end}
use Rattle.am_office_entries.specs.declared.Call.{Call}
use Rattle.am_office_entries.specs.declared.Call.TheVariants as Calls
use Rattle.am_office_entries.specs.declared.Event.{Event}
use Rattle.am_office_entries.specs.declared.Event.TheVariants as Events
use Rattle.am_office_entries.specs.declared.Outcome.{Outcome}
use Rattle.am_office_entries.specs.declared.Outcome.TheVariants as Out
use Rattle.am_office_entries.specs.declared.Entry.{Entry}
use Rattle.am_office_entries.specs.Entries.{touches}
use Rattle.am_model.specs.Endpoint.{State, is_on_disk}
use Rattle.am_model.specs.Changes.{called, left, reached, put, changed}
use Rattle.am_model.specs.Layout.{Layout, EndSetting, has_id, opening_by, opening_place}
use Rattle.am_model.specs.History.{MayFollow, IsHistory, state_of, failing}
use Rattle.am_model.proofs.Each.{over_each, state_of_push}
use Rattle.am_laws_cluster.proofs.HomePlaces.{condition_holds}

abbrev pub on_disk : State → Bool
on_disk s = is_on_disk s.head.place

called_stays : (s : State) (c : Call) (o : Outcome) → on_disk s ≡ false → on_disk (called s c o) ≡ false
called_stays s (Calls.Request index handler words) (Out.Requested m) h = h
called_stays s Calls.Poll (Out.Zero serial why) h = h
called_stays s Calls.Poll (Out.Ran handler m None) h = h
called_stays s Calls.Poll (Out.Ran handler m (Some reply)) h = h
called_stays s (Calls.SetTag tag) Out.Done h = h
called_stays s (Calls.Map index name tag credits) Out.Done h = h
called_stays s (Calls.Unmap index) Out.Done h = h
called_stays s (Calls.SetHandler index kind) Out.Done h = h
called_stays s (Calls.GiveUp serial) Out.Done h = h
called_stays s Calls.Close Out.Done h = h
called_stays s c o h = h

if_stays : (b : Bool) (s t : State) → on_disk s ≡ false → on_disk t ≡ false → on_disk (if b then t else s) ≡ false
if_stays true s t h k = k
if_stays false s t h k = h

left_stays : (s : State) (o : Outcome) → on_disk s ≡ false → on_disk (left s o) ≡ false
left_stays s (Out.Accepted m) h = h
left_stays s (Out.Requeued m cause bounces) h = h
left_stays s (Out.Returned m cause) h = h
left_stays s o h = h

reached_stays : (e : EndpointId) (s : State) (o : Outcome) → on_disk s ≡ false → on_disk (reached e s o) ≡ false
reached_stays e s (Out.Accepted m) h = if_stays (same_end e m.dest) s (put m s) h h
reached_stays e s o h = h

changed_stays : (layout : Layout) (past : List Entry) (e : EndpointId) (s : State) (event : Event) (o : Outcome) → layout.direct ≡ true →
    failing layout past event ≡ None → on_disk s ≡ false → on_disk (changed e s event o) ≡ false
changed_stays layout past e s (Events.Call actor end call) o direct may h = called_stays s call o h
changed_stays layout past e s (Events.Want actor end) o direct may h = h
changed_stays layout past e s (Events.Carry end) o direct may h =
    reached_stays e (if same_end e end then left s o else s) o (if_stays (same_end e end) s (left s o) h (left_stays s o h))
changed_stays layout past e s (Events.Bind node end) o direct may h = absurd (condition_holds _ _ layout.direct direct may)
changed_stays layout past e s (Events.Expire node peer channel) o direct may h = absurd (condition_holds _ _ layout.direct direct may)
changed_stays layout past e s (Events.Receive node peer number) o direct may h = absurd (condition_holds _ _ layout.direct direct may)
changed_stays layout past e s (Events.Drain node end) o direct may h = absurd (condition_holds _ _ layout.direct direct may)
changed_stays layout past e s (Events.Unload node end) o direct may h = absurd (condition_holds _ _ layout.direct direct may)
changed_stays layout past e s (Events.Load node end frame) o direct may h = absurd (condition_holds _ _ layout.direct direct may)
changed_stays layout past e s (Events.PageOut node end) o direct may h = absurd (condition_holds _ _ layout.direct direct may)
changed_stays layout past e s (Events.PageIn node end) o direct may h = absurd (condition_holds _ _ layout.direct direct may)

-- no endpoint is on disk
abbrev pub NoneOnDisk : Layout → List Entry → Type 0
NoneOnDisk layout past = (e : EndpointId) → on_disk (state_of layout past e) ≡ false

off_disk_more : (layout : Layout) → layout.direct ≡ true → (past : List Entry) (x : Entry) → NoneOnDisk layout past → MayFollow layout past x →
    NoneOnDisk layout (past ++ x ∷ [])
off_disk_more layout direct past x off may e = by_test (touches e x) refl
  where
    by_test : (t : Bool) → touches e x ≡ t → on_disk (state_of layout (past ++ x ∷ []) e) ≡ false
    by_test true at = ap on_disk (state_of_push layout past x e true at)
        ∙ changed_stays layout past e (state_of layout past e) x.event x.outcome direct may.enabled (off e)
    by_test false at = ap on_disk (state_of_push layout past x e false at) ∙ off e

opening_off_disk : (layout : Layout) → layout.direct ≡ true → NoneOnDisk layout []
opening_off_disk layout direct e = by_setting (find (has_id e) layout.ends)
  where
    by_place : (b : Bool) (disk : Bool) → b ≡ true → is_on_disk (opening_place b disk) ≡ false
    by_place true disk is = refl
    by_place false disk is = absurd (cc)

    by_setting : (setting : Option EndSetting) → on_disk (opening_by layout setting) ≡ false
    by_setting None = refl
    by_setting (Some setting) = by_place layout.direct setting.disk direct

pub off_disk : (layout : Layout) → layout.direct ≡ true → (past : List Entry) → IsHistory layout past → NoneOnDisk layout past
off_disk layout direct past h = over_each (MayFollow layout) (NoneOnDisk layout) (λ xs x off may. off_disk_more layout direct xs x off may) [] past
    (opening_off_disk layout direct) h
