-- The own tag and the mapped indexes of an endpoint are what its calls made them.
use Rattle.std.proofs.Common.{◌≡◌, ℕ, Bool, true, false, List, [], ◌∷◌, ◌++◌, Option, Some, None, refl, sym, ap, ◌∙◌, true≢false, if◌then◌else◌}
use Rattle.std.specs.List.{list_any}
use Rattle.am_names.specs.declared.EndpointId.{EndpointId}
use Rattle.am_names.specs.declared.Cause.TheVariants.{NotResident}
use Rattle.am_office_entries.specs.declared.HandlerKind.{HandlerKind}
use Rattle.am_office_entries.specs.declared.Actor.{Actor}
use Rattle.am_office_entries.specs.declared.Call.{Call}
use Rattle.am_office_entries.specs.declared.Call.TheVariants as Calls
use Rattle.am_office_entries.specs.declared.Event.{Event}
use Rattle.am_office_entries.specs.declared.Event.TheVariants as Events
use Rattle.am_office_entries.specs.declared.Received.{Received}
use Rattle.am_office_entries.specs.declared.Received.TheVariants as Got
use Rattle.am_office_entries.specs.declared.Outcome.{Outcome}
use Rattle.am_office_entries.specs.declared.Outcome.TheVariants as Out
use Rattle.am_office_entries.specs.declared.Entry.{Entry}
use Rattle.am_names.specs.Names.{same_end}
use Rattle.am_model.specs.declared.Mapping.{Mapping}
use Rattle.am_model.specs.Endpoint.{State}
use Rattle.am_model.specs.Calls.{answer}
use Rattle.am_model.specs.Changes.{called, left, carried, received, expired, bound, paged_out, paged_in, changed, put}
use Rattle.am_office_entries.specs.Entries.{touches, ends_touched}
use Rattle.am_model.specs.Layout.{Layout, opening}
use Rattle.am_model.specs.History.{state_of}
use Rattle.am_model.proofs.Each.{state_of_push}
use Rattle.am_model.proofs.Received.{one_touched}
use Rattle.am_model.proofs.Books.{not_touched}
use Rattle.std.specs.Prelude.{unwrap_or}
use Rattle.am_names.specs.declared.Tag.{Tag}
use Rattle.am_model.specs.PostOffice.{last_given, tag_set, own_tag}

pub last_given_push : {A : Type 0} (a : A) (given : Entry → Option A) (xs : List Entry) (x : Entry) →
    last_given a given (xs ++ x ∷ []) ≡ unwrap_or (given x) (last_given a given xs)
last_given_push a given [] x = refl
last_given_push a given (y ∷ xs) x = last_given_push (unwrap_or (given y) a) given xs x

-- what only a call changes
pub record Own : Type 0 where
  pub tag : Tag
  pub sum : ℕ
  pub accepted : ℕ
  pub mapped : List (Option Mapping)
  pub handlers : List (Option HandlerKind)

abbrev pub own : State → Own
own s = record { tag = s.body.tag; sum = s.body.sum; accepted = s.body.accepted; mapped = s.body.mapped; handlers = s.body.handlers }

left_own : (s : State) (o : Outcome) → own (left s o) ≡ own s
left_own s (Out.Accepted n) = refl
left_own s (Out.Requeued n cause used) = refl
left_own s (Out.Returned n cause) = refl
left_own s o = refl

if_own : (b : Bool) (s t u : State) → own t ≡ own s → own u ≡ own s → own (if b then t else u) ≡ own s
if_own true s t u h k = h
if_own false s t u h k = k

carried_own : (e from : EndpointId) (s : State) (o : Outcome) → own (carried e from s o) ≡ own s
carried_own e from s (Out.Accepted n) =
    let l : own (if same_end e from then left s (Out.Accepted n) else s) ≡ own s =
    if_own (same_end e from) s (left s (Out.Accepted n)) s (left_own s (Out.Accepted n)) refl in
    if_own (same_end e n.dest) s (put n (if same_end e from then left s (Out.Accepted n) else s)) (if same_end e from then left s (Out.Accepted n) else s) l l
carried_own e from s o = if_own (same_end e from) s (left s o) s (left_own s o) refl

received_own : (e : EndpointId) (s : State) (r : Received) → own (received e s r) ≡ own s
received_own e s (Got.Accepted m answer) = refl
received_own e s (Got.Refused m NotResident answer) = refl
received_own e s (Got.Delivered serial) = refl
received_own e s (Got.Requeued serial cause used) = refl
received_own e s (Got.Returned serial cause) = refl
received_own e s r = refl

expired_own : (s : State) (o : Outcome) → own (expired s o) ≡ own s
expired_own s (Out.Delivered serial) = refl
expired_own s (Out.Unknown serial) = refl
expired_own s o = refl

bound_own : (s : State) (o : Outcome) → own (bound s o) ≡ own s
bound_own s (Out.Sent m peer channel seq attempt number) = refl
bound_own s o = refl

paged_out_own : (s : State) (o : Outcome) → own (paged_out s o) ≡ own s
paged_out_own s Out.Done = refl
paged_out_own s o = refl

paged_in_own : (s : State) (o : Outcome) → own (paged_in s o) ≡ own s
paged_in_own s Out.Done = refl
paged_in_own s o = refl

abbrev pub is_call : Event → Bool
is_call (Events.Call actor end call) = true
is_call event = false

-- an entry that is no call keeps it
pub own_kept : (e : EndpointId) (s : State) (event : Event) (o : Outcome) → is_call event ≡ false → own (changed e s event o) ≡ own s
own_kept e s (Events.Call actor end call) o h = absurd (true≢false h)
own_kept e s (Events.Want actor end) o h = refl
own_kept e s (Events.Carry end) o h = carried_own e end s o
own_kept e s (Events.Bind node end) o h = bound_own s o
own_kept e s (Events.Expire node peer channel) o h = expired_own s o
own_kept e s (Events.Receive node peer number) (Out.Received channel seq attempt result) h = received_own e s result
own_kept e s (Events.Receive node peer number) o h = refl
own_kept e s (Events.Drain node end) o h = refl
own_kept e s (Events.Unload node end) o h = refl
own_kept e s (Events.Load node end frame) o h = refl
own_kept e s (Events.PageOut node end) o h = paged_out_own s o
own_kept e s (Events.PageIn node end) o h = paged_in_own s o

called_tag : (e : EndpointId) (s : State) (c : Call) (o : Outcome) (actor : Actor) (end : EndpointId) → same_end e end ≡ true →
    (called s c o).body.tag ≡ unwrap_or (tag_set e (Events.Call actor end c) o) s.body.tag
called_tag e s (Calls.Request index handler words) (Out.Requested m) actor end at = refl
called_tag e s Calls.Poll (Out.Zero serial why) actor end at = refl
called_tag e s Calls.Poll (Out.Ran handler m None) actor end at = refl
called_tag e s Calls.Poll (Out.Ran handler m (Some reply)) actor end at = refl
called_tag e s (Calls.SetTag tag) Out.Done actor end at = rw at refl
called_tag e s (Calls.Map index name tag credits) Out.Done actor end at = refl
called_tag e s (Calls.Unmap index) Out.Done actor end at = refl
called_tag e s (Calls.SetHandler index kind) Out.Done actor end at = refl
called_tag e s (Calls.GiveUp serial) Out.Done actor end at = refl
called_tag e s Calls.Close Out.Done actor end at = refl
called_tag e s c o actor end at = refl

tag_only_call : (e : EndpointId) (event : Event) (o : Outcome) → is_call event ≡ false → tag_set e event o ≡ None
tag_only_call e (Events.Call actor end call) o h = absurd (true≢false h)
tag_only_call e event o h = refl

tag_untouched : (e : EndpointId) (event : Event) (o : Outcome) → list_any (same_end e) (ends_touched event o) ≡ false → tag_set e event o ≡ None
tag_untouched e (Events.Call actor end (Calls.SetTag tag)) Out.Done t = let off : same_end e end ≡ false = not_touched (same_end e end) t in rw off refl
tag_untouched e event o t = refl

touched_tag : (e : EndpointId) (s : State) (event : Event) (o : Outcome) → list_any (same_end e) (ends_touched event o) ≡ true →
    (changed e s event o).body.tag ≡ unwrap_or (tag_set e event o) s.body.tag
touched_tag e s (Events.Call actor end call) o t = called_tag e s call o actor end (one_touched (same_end e end) t)
touched_tag e s event o t = ap (λ (w : Own). w.tag) (own_kept e s event o refl)
    ∙ ap (λ (w : Option Tag). unwrap_or w s.body.tag) (sym (tag_only_call e event o refl))

-- the own tag is the last that was set
abbrev pub TagKept : Layout → List Entry → Type 0
TagKept layout past = (e : EndpointId) → (state_of layout past e).body.tag ≡ own_tag layout past e

pub tag_more : (layout : Layout) (past : List Entry) (x : Entry) → TagKept layout past → TagKept layout (past ++ x ∷ [])
tag_more layout past x kept = λ e. by_test e (touches e x) refl
  where
    by_test : (e : EndpointId) (t : Bool) → touches e x ≡ t → (state_of layout (past ++ x ∷ []) e).body.tag ≡ own_tag layout (past ++ x ∷ []) e
    by_test e true at =
        rw (state_of_push layout past x e true at)
        (touched_tag e (state_of layout past e) x.event x.outcome at
        ∙ ap (unwrap_or (tag_set e x.event x.outcome)) (kept e)
        ∙ sym (last_given_push (opening layout e).body.tag (λ y. tag_set e y.event y.outcome) past x))
    by_test e false at =
        rw (state_of_push layout past x e false at)
        (kept e
        ∙ ap (λ (w : Option Tag). unwrap_or w (own_tag layout past e)) (sym (tag_untouched e x.event x.outcome at))
        ∙ sym (last_given_push (opening layout e).body.tag (λ y. tag_set e y.event y.outcome) past x))
