-- The replies of an endpoint are answers, and what is in flight is as low in bounces as what is bound.
use Rattle.std.proofs.Common.{◌≡◌, ◌≢◌, ℕ, Bool, true, false, List, [], ◌∷◌, ◌++◌, map, Option, Some, None, refl, sym, subst}
use Rattle.std.specs.List.{find}
use Rattle.am_names.specs.Names.{has_serial, is_reply}
use Rattle.am_names.specs.declared.Cause.TheVariants.{NotResident}
use Rattle.am_names.specs.declared.EndpointId.{EndpointId}
use Rattle.am_names.specs.declared.Message.{Message}
use Rattle.am_names.specs.declared.NodeId.{NodeId}
use Rattle.am_names.specs.declared.Serial.{Serial}
use Rattle.am_office_entries.specs.declared.Call.{Call}
use Rattle.am_office_entries.specs.declared.Call.TheVariants as Calls
use Rattle.am_office_entries.specs.declared.Entry.{Entry}
use Rattle.am_office_entries.specs.declared.Event.{Event}
use Rattle.am_office_entries.specs.declared.Event.TheVariants as Events
use Rattle.am_office_entries.specs.declared.Outcome.{Outcome}
use Rattle.am_office_entries.specs.declared.Outcome.TheVariants as Out
use Rattle.am_office_entries.specs.declared.Received.{Received}
use Rattle.am_office_entries.specs.declared.Received.TheVariants as Got
use Rattle.am_office_entries.specs.Entries.{touches}
use Rattle.am_model.specs.declared.Flying.{Flying}
use Rattle.am_model.specs.declared.Queued.{Queued}
use Rattle.am_model.specs.Choice.{without_first}
use Rattle.am_model.specs.Changes.{appended, bounces_of, bound, called, changed, expired, flight_appended, flying_of, marked, paged_in, paged_out, received}
use Rattle.am_model.specs.Changes.{with_marked}
use Rattle.am_model.specs.Endpoint.{Body, State}
use Rattle.am_model.specs.History.{MayFollow, IsHistory, state_of}
use Rattle.am_model.specs.Layout.{Layout, EndSetting, AllAre, has_id, opening_by}
use Rattle.am_model.proofs.Each.{over_each, state_of_push}
use Rattle.am_model.proofs.Alls.{all_push}
use Rattle.am_laws.proofs.Alls.{all_tail, all_without}
use Rattle.am_laws.proofs.OrderedPackets.{not_carry}

abbrev pub Answers : Queued → Type 0
Answers q = is_reply q.message ≡ true

abbrev pub IsLow : (ℕ → Type 0) → Flying → Type 0
IsLow Low f = Low f.bounces

-- the replies are answers, and the bounces of what is in flight are low
pub record Fine (Low : ℕ → Type 0) (b : Body) : Type 0 where
  pub replies' : AllAre Answers b.replies
  pub flights : AllAre (IsLow Low) b.in_flight

-- ---- lists

appended_answers : (b : Bool) (m : Message) (bounces : ℕ) (queue : List Queued) → is_reply m ≡ b → AllAre Answers queue →
    AllAre Answers (appended b m bounces queue)
appended_answers true m bounces queue is all = all_push Answers queue (record { message = m; bounces = bounces }) all is
appended_answers false m bounces queue is all = all

flight_answers : (f : Option Flying) (bounces : ℕ) (queue : List Queued) → AllAre Answers queue → AllAre Answers (flight_appended is_reply f bounces queue)
flight_answers None bounces queue all = all
flight_answers (Some f) bounces queue all = appended_answers (is_reply f.message) f.message bounces queue refl all

marked_low : (Low : ℕ → Type 0) (request : Serial) (fs : List Flying) → AllAre (IsLow Low) fs → AllAre (IsLow Low) (map (marked request) fs)
marked_low Low request [] all = tt
marked_low Low request (f ∷ fs) all = (all.0, marked_low Low request fs all.1)

with_marked_low : (Low : ℕ → Type 0) (about : Option Serial) (fs : List Flying) → AllAre (IsLow Low) fs → AllAre (IsLow Low) (with_marked about fs)
with_marked_low Low None fs all = all
with_marked_low Low (Some request) fs all = marked_low Low request fs all

without_low : (Low : ℕ → Type 0) (serial : Serial) (fs : List Flying) → AllAre (IsLow Low) fs →
    AllAre (IsLow Low) (without_first (λ (f : Flying). has_serial serial f.message) fs)
without_low Low serial fs all = all_without (IsLow Low) (λ (f : Flying). has_serial serial f.message) fs all

-- ---- events

called_fine : (Low : ℕ → Type 0) (s : State) (call : Call) (o : Outcome) → Fine Low s.body → Fine Low (called s call o).body
called_fine Low s (Calls.Request index handler words) (Out.Requested m) f = record {
  replies' =
      appended_answers (is_reply m) m 0 s.body.replies refl f.replies';
  flights = f.flights;
}
called_fine Low s Calls.Poll (Out.Zero serial why) f = record { replies' = f.replies'; flights = f.flights }
called_fine Low s Calls.Poll (Out.Ran handler m None) f = record { replies' = f.replies'; flights = f.flights }
called_fine Low s Calls.Poll (Out.Ran handler m (Some reply)) f = record {
  replies' = appended_answers (is_reply reply) reply 0 s.body.replies refl f.replies';
  flights = f.flights;
}
called_fine Low s (Calls.SetTag tag) Out.Done f = record { replies' = f.replies'; flights = f.flights }
called_fine Low s (Calls.Map index name tag credits) Out.Done f = record { replies' = f.replies'; flights = f.flights }
called_fine Low s (Calls.Unmap index) Out.Done f = record { replies' = f.replies'; flights = f.flights }
called_fine Low s (Calls.SetHandler index kind) Out.Done f = record { replies' = f.replies'; flights = f.flights }
called_fine Low s (Calls.GiveUp serial) Out.Done f = record { replies' = f.replies'; flights = f.flights }
called_fine Low s Calls.Close Out.Done f = record { replies' = f.replies'; flights = f.flights }
called_fine Low s call o f = f

received_fine : (Low : ℕ → Type 0) (e : EndpointId) (s : State) (r : Received) → Fine Low s.body → Fine Low (received e s r).body
received_fine Low e s (Got.Accepted m answer) f = record { replies' = f.replies'; flights = with_marked_low Low m.about s.body.in_flight f.flights }
received_fine Low e s (Got.Refused m NotResident answer) f = record { replies' = f.replies'; flights = f.flights }
received_fine Low e s (Got.Delivered serial) f = record { replies' = f.replies'; flights = without_low Low serial s.body.in_flight f.flights }
received_fine Low e s (Got.Requeued serial cause bounces) f =
    record {
      replies' = flight_answers (flying_of serial s.body.in_flight) bounces s.body.replies f.replies';
      flights = without_low Low serial s.body.in_flight f.flights;
    }
received_fine Low e s (Got.Returned serial cause) f = record { replies' = f.replies'; flights = without_low Low serial s.body.in_flight f.flights }
received_fine Low e s r f = f

expired_fine : (Low : ℕ → Type 0) (s : State) (o : Outcome) → Fine Low s.body → Fine Low (expired s o).body
expired_fine Low s (Out.Delivered serial) f = record { replies' = f.replies'; flights = without_low Low serial s.body.in_flight f.flights }
expired_fine Low s (Out.Unknown serial) f = record { replies' = f.replies'; flights = without_low Low serial s.body.in_flight f.flights }
expired_fine Low s o f = f

out_fine : (Low : ℕ → Type 0) (s : State) (o : Outcome) → Fine Low s.body → Fine Low (paged_out s o).body
out_fine Low s Out.Done f = f
out_fine Low s o f = f

in_fine : (Low : ℕ → Type 0) (s : State) (o : Outcome) → Fine Low s.body → Fine Low (paged_in s o).body
in_fine Low s Out.Done f = f
in_fine Low s o f = f

-- what is bound here is low in bounces
abbrev pub BindsLow : (ℕ → Type 0) → State → Event → Outcome → Type 0
BindsLow Low s (Events.Bind node end) (Out.Sent m peer channel seq attempt number) = Low (bounces_of s.body.replies s.body.requests)
BindsLow Low s event o = Unit {0}

bound_fine : (Low : ℕ → Type 0) (s : State) (event : Event) (o : Outcome) (node : NodeId) (end : EndpointId) → BindsLow Low s (Events.Bind node end) o →
    Fine Low s.body → Fine Low (bound s o).body
bound_fine Low s event (Out.Sent m peer channel seq attempt number) node end low f =
    record {
      replies' = all_tail Answers s.body.replies f.replies';
      flights = all_push (IsLow Low) s.body.in_flight (record {
        message = m;
        bounces = bounces_of s.body.replies s.body.requests;
        answered = false;
      }) f.flights low;
    }
bound_fine Low s event o node end low f = f

changed_fine : (Low : ℕ → Type 0) (e : EndpointId) (s : State) (event : Event) (o : Outcome) → ((end : EndpointId) → event ≢ Events.Carry end) →
    BindsLow Low s event o → Fine Low s.body → Fine Low (changed e s event o).body
changed_fine Low e s (Events.Call actor end call) o apart low f = called_fine Low s call o f
changed_fine Low e s (Events.Want actor end) o apart low f = f
changed_fine Low e s (Events.Carry end) o apart low f = absurd (apart end refl)
changed_fine Low e s (Events.Bind node end) o apart low f = bound_fine Low s (Events.Bind node end) o node end low f
changed_fine Low e s (Events.Expire node peer channel) o apart low f = expired_fine Low s o f
changed_fine Low e s (Events.Receive node peer number) (Out.Received channel seq attempt r) apart low f = received_fine Low e s r f
changed_fine Low e s (Events.Receive node peer number) o apart low f = f
changed_fine Low e s (Events.Drain node end) o apart low f = f
changed_fine Low e s (Events.Unload node end) o apart low f = f
changed_fine Low e s (Events.Load node end frame) o apart low f = f
changed_fine Low e s (Events.PageOut node end) o apart low f = out_fine Low s o f
changed_fine Low e s (Events.PageIn node end) o apart low f = in_fine Low s o f

-- ---- each endpoint, one entry more

abbrev pub AreFine : (ℕ → Type 0) → Layout → List Entry → Type 0
AreFine Low layout past = (e : EndpointId) → Fine Low (state_of layout past e).body

pub fine_more : (Low : ℕ → Type 0) (layout : Layout) (past : List Entry) (x : Entry) → layout.direct ≡ false → MayFollow layout past x →
    ((e : EndpointId) → touches e x ≡ true → BindsLow Low (state_of layout past e) x.event x.outcome) → AreFine Low layout past →
    AreFine Low layout (past ++ x ∷ [])
fine_more Low layout past x packet may low k e = by_test (touches e x) refl
  where
    by_test : (b : Bool) → touches e x ≡ b → Fine Low (state_of layout (past ++ x ∷ []) e).body
    by_test true is =
        subst (λ (s : State). Fine Low s.body) (sym (state_of_push layout past x e true is))
        (changed_fine Low e (state_of layout past e) x.event x.outcome (not_carry layout packet past x.event may.enabled) (low e is) (k e))
    by_test false is = subst (λ (s : State). Fine Low s.body) (sym (state_of_push layout past x e false is)) (k e)

opened_fine : (Low : ℕ → Type 0) (layout : Layout) (o : Option EndSetting) → Fine Low (opening_by layout o).body
opened_fine Low layout None = record { replies' = tt; flights = tt }
opened_fine Low layout (Some setting) = record { replies' = tt; flights = tt }

pub opening_fine : (Low : ℕ → Type 0) (layout : Layout) → AreFine Low layout []
opening_fine Low layout e = opened_fine Low layout (find (has_id e) layout.ends)

-- in each history the replies of an endpoint are answers
abbrev pub Any : ℕ → Type 0
Any n = Unit {0}

any_bound : (s : State) (event : Event) (o : Outcome) → BindsLow Any s event o
any_bound s (Events.Bind node end) (Out.Sent m peer channel seq attempt number) = tt
any_bound s event o = tt

pub replies_answer : (layout : Layout) (past : List Entry) → layout.direct ≡ false → IsHistory layout past → (e : EndpointId) →
    AllAre Answers (state_of layout past e).body.replies
replies_answer layout past packet h e = (all e).replies'
  where
    all : AreFine Any layout past
    all =
        over_each (MayFollow layout) (λ xs. AreFine Any layout xs)
        (λ xs x k may. fine_more Any layout xs x packet may (λ f at. any_bound (state_of layout xs f) x.event x.outcome) k)
        [] past (opening_fine Any layout) h
