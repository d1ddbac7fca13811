-- What an entry does to the records of an endpoint, counted by any test of index and serial.
use Rattle.std.specs.Prelude.{not, count_by}
use Rattle.std.proofs.Common.{◌≡◌, ℕ, ◌+◌, ◌≤◌, Bool, true, false, cond, ◌&&◌, ◌||◌, List, [], ◌∷◌, Option, Some, None, refl, sym, ap, ◌∙◌, subst, arith}
use Rattle.std.proofs.Common.{true≢false, if◌then◌else◌}
use Rattle.std.proofs.lemmas.Bool.{and_parts}
use Rattle.std.proofs.lemmas.List.Sums.{sum_by_push, sum_by-cons}
use mathlib.Core.Bool.{or-false}
use Rattle.am_names.specs.declared.EndpointId.{EndpointId}
use Rattle.am_names.specs.declared.NodeId.{NodeId}
use Rattle.am_names.specs.declared.Serial.{Serial}
use Rattle.am_names.specs.declared.Cause.{Cause}
use Rattle.am_names.specs.declared.Cause.TheVariants.{NotResident}
use Rattle.am_names.specs.declared.Message.{Message}
use Rattle.am_office_entries.specs.declared.Actor.{Actor}
use Rattle.am_office_entries.specs.declared.Call.{Call}
use Rattle.am_office_entries.specs.declared.Call.TheVariants as Calls
use Rattle.am_office_entries.specs.declared.Event.{Event}
use Rattle.am_office_entries.specs.declared.Event.TheVariants as Events
use Rattle.am_office_entries.specs.declared.Received.{Received}
use Rattle.am_office_entries.specs.declared.Received.TheVariants as Got
use Rattle.am_office_entries.specs.declared.Outcome.{Outcome}
use Rattle.am_office_entries.specs.declared.Outcome.TheVariants as Out
use Rattle.am_names.specs.Names.{same_end, same_serial}
use Rattle.am_model.specs.Choice.{without_first}
use Rattle.am_model.specs.declared.Awaited.{Awaited}
use Rattle.am_model.specs.Endpoint.{State, waits_for}
use Rattle.am_model.specs.Calls.{answer}
use Rattle.am_model.specs.Changes.{called, left, reached, paged_out, paged_in, changed, put, received, expired, bound, without_waiting, without_record, is_of}
use Rattle.am_model.specs.Changes.{arrived, with_arrived}
use Rattle.am_office_entries.specs.Entries.{run_in, returned_by, returned_in, unknown_in, given_up_in, passes, is_serial}
use Rattle.am_model.specs.Layout.{AllAre}
use Rattle.am_model.specs.Channels.{attempt}
use Rattle.am_model.specs.PostOffice.{is_about}
use Rattle.am_model.proofs.Names.{same_serial-is, same_serial-refl, same_end-refl}
use Rattle.am_model.proofs.Received.{bit}
use Rattle.am_laws.proofs.Alls.{all_map}

-- how many records have an index and a serial that pass
abbrev pub records_where : (ℕ → Serial → Bool) → List Awaited → ℕ
records_where p xs = count_by (λ (a : Awaited). p a.index a.serial) xs

-- the same test, but for one serial, if any
abbrev pub but : (ℕ → Serial → Bool) → Option Serial → ℕ → Serial → Bool
but p w index s = p index s && not (is_serial s w)

-- how many records are of this request
abbrev pub records_of : Serial → List Awaited → ℕ
records_of t xs = count_by (λ (a : Awaited). same_serial t a.serial) xs

pub same_serial_sym : (s t : Serial) → same_serial s t ≡ same_serial t s
same_serial_sym s t = by_tests (same_serial s t) (same_serial t s) refl refl
  where
    by_tests : (a b : Bool) → same_serial s t ≡ a → same_serial t s ≡ b → a ≡ b
    by_tests true true h k = refl
    by_tests false false h k = refl
    by_tests true false h k = let same : s ≡ t = same_serial-is s t h in absurd (true≢false (sym (same_serial-refl t)
        ∙ subst (λ (w : Serial). same_serial t w ≡ false) same k))
    by_tests false true h k = let same : t ≡ s = same_serial-is t s k in absurd (true≢false (sym (same_serial-refl s)
        ∙ subst (λ (w : Serial). same_serial s w ≡ false) same h))

and_true : (b : Bool) → (b && true) ≡ b
and_true true = refl
and_true false = refl

and_false : (b : Bool) → (b && false) ≡ false
and_false true = refl
and_false false = refl

pub but_none : (p : ℕ → Serial → Bool) (xs : List Awaited) → records_where p xs ≡ records_where (but p None) xs
but_none p xs = sym (λ i. count_by (λ (a : Awaited). and_true (p a.index a.serial) i) xs)

-- where the serial has no record
pub but_absent : (p : ℕ → Serial → Bool) (t : Serial) (xs : List Awaited) → records_of t xs ≡ 0 → records_where p xs ≡ records_where (but p (Some t)) xs
but_absent p t [] none = refl
but_absent p t (a ∷ xs) none = by_test (same_serial t a.serial) refl (λ z. but_absent p t xs z)
  where
    head : records_of t (a ∷ xs) ≡ bit (same_serial t a.serial) + records_of t xs
    head = sum_by-cons (λ (y : Awaited). bit (same_serial t y.serial)) a xs

    by_test : (b : Bool) → same_serial t a.serial ≡ b → (records_of t xs ≡ 0 → records_where p xs ≡ records_where (but p (Some t)) xs) →
        records_where p (a ∷ xs) ≡ records_where (but p (Some t)) (a ∷ xs)
    by_test true is more = absurd (omega (arith, none, head, ap bit is))
    by_test false is more =
        let off : bit (but p (Some t) a.index a.serial) ≡ bit (p a.index a.serial) =
        ap (λ (b : Bool). bit (p a.index a.serial && not b)) (same_serial_sym a.serial t ∙ is) ∙ ap bit (and_true (p a.index a.serial)) in
        omega (
          arith,
          off,
          more (omega (arith, none, head)),
          sum_by-cons (λ (y : Awaited). bit (p y.index y.serial)) a xs,
          sum_by-cons (λ (y : Awaited). bit (but p (Some t) y.index y.serial)) a xs,
        )

-- where the one record of the serial goes
pub but_removed : (p : ℕ → Serial → Bool) (q : Awaited → Bool) (t : Serial) (xs : List Awaited) → ((a : Awaited) → q a ≡ true → same_serial t a.serial ≡ true) →
    AllAre (λ (a : Awaited). same_serial t a.serial ≡ true → q a ≡ true) xs → records_of t xs ≤ 1 →
    records_where p (without_first q xs) ≡ records_where (but p (Some t)) xs
but_removed p q t [] of has few = refl
but_removed p q t (a ∷ xs) of has few = by_test (q a) refl (λ z. but_removed p q t xs of has.1 z)
  where
    head : records_of t (a ∷ xs) ≡ bit (same_serial t a.serial) + records_of t xs
    head = sum_by-cons (λ (y : Awaited). bit (same_serial t y.serial)) a xs

    by_same : (b : Bool) → same_serial t a.serial ≡ b → q a ≡ false → b ≡ false
    by_same true is off = absurd (true≢false (sym (has.0 is) ∙ off))
    by_same false is off = refl

    by_test : (b : Bool) → q a ≡ b → (records_of t xs ≤ 1 → records_where p (without_first q xs) ≡ records_where (but p (Some t)) xs) →
        records_where p (cond b xs (a ∷ without_first q xs)) ≡ records_where (but p (Some t)) (a ∷ xs)
    by_test true is more =
        let mine : same_serial t a.serial ≡ true = of a is in
        let off : bit (but p (Some t) a.index a.serial) ≡ 0 = ap (λ (b : Bool). bit (p a.index a.serial && not b)) (same_serial_sym a.serial t ∙ mine)
        ∙ ap bit (and_false (p a.index a.serial)) in
        omega (arith, off, but_absent p t xs (omega (arith, few, head, ap bit mine)), sum_by-cons (λ (y : Awaited). bit (but p (Some t) y.index y.serial)) a xs)
    by_test false is more =
        let apart : same_serial t a.serial ≡ false = by_same (same_serial t a.serial) refl is in
        let off : bit (but p (Some t) a.index a.serial) ≡ bit (p a.index a.serial) =
        ap (λ (b : Bool). bit (p a.index a.serial && not b)) (same_serial_sym a.serial t ∙ apart) ∙ ap bit (and_true (p a.index a.serial)) in
        omega (
          arith,
          off,
          more (omega (arith, few, head)),
          sum_by-cons (λ (y : Awaited). bit (p y.index y.serial)) a (without_first q xs),
          sum_by-cons (λ (y : Awaited). bit (but p (Some t) y.index y.serial)) a xs,
        )

-- marking keeps indexes and serials
pub arrived_where : (p : ℕ → Serial → Bool) (about : Option Serial) (xs : List Awaited) → records_where p (with_arrived about xs) ≡ records_where p xs
arrived_where p None xs = refl
arrived_where p (Some t) [] = refl
arrived_where p (Some t) (a ∷ xs) = omega (
  arith,
  arrived_where p (Some t) xs,
  sum_by-cons (λ (y : Awaited). bit (p y.index y.serial)) a xs,
  sum_by-cons (λ (y : Awaited). bit (p y.index y.serial)) (arrived t a) (with_arrived (Some t) xs),
)

-- a serial of another source has no record
pub none_of : (e : EndpointId) (t : Serial) (xs : List Awaited) → AllAre (λ (a : Awaited). a.serial.source ≡ e) xs → same_end e t.source ≡ false →
    records_of t xs ≡ 0
none_of e t [] own apart = refl
none_of e t (a ∷ xs) own apart = by_test (none_of e t xs own.1 apart) (same_serial t a.serial) refl
  where
    by_test : records_of t xs ≡ 0 → (b : Bool) → same_serial t a.serial ≡ b → records_of t (a ∷ xs) ≡ 0
    by_test rest true is =
        let same : t ≡ a.serial = same_serial-is t a.serial is in
        let here : t.source ≡ e = ap (λ (w : Serial). w.source) same ∙ own.0 in
        absurd (true≢false (sym (same_end-refl e) ∙ subst (λ (w : EndpointId). same_end e w ≡ false) here apart))
    by_test rest false is = omega (arith, rest, ap bit is, sum_by-cons (λ (y : Awaited). bit (same_serial t y.serial)) a xs)

-- the serial whose wait is given up, or that comes back
abbrev pub stops_by : Call → Outcome → Option Serial
stops_by (Calls.GiveUp serial) Out.Done = Some serial
stops_by call o = None

abbrev pub stops : Event → Outcome → Option Serial
stops (Events.Call actor end call) o = stops_by call o
stops (Events.Carry end) (Out.Returned m cause) = Some m.serial
stops (Events.Receive node peer number) (Out.Received channel seq attempt r) = returned_by r
stops (Events.Expire node peer channel) (Out.Unknown serial) = Some serial
stops event o = None

-- the request whose hold ends here
abbrev pub ended_by : Call → Outcome → Option Serial
ended_by Calls.Poll (Out.Ran handler m sends) = m.about
ended_by (Calls.GiveUp serial) Out.Done = Some serial
ended_by call o = None

abbrev pub ended : Event → Outcome → Option Serial
ended (Events.Call actor end call) o = ended_by call o
ended (Events.Carry end) (Out.Returned m cause) = Some m.serial
ended (Events.Receive node peer number) (Out.Received channel seq attempt r) = returned_by r
ended (Events.Expire node peer channel) (Out.Unknown serial) = Some serial
ended event o = None

pub ends_is : (s : Serial) (event : Event) (o : Outcome) → (passes (is_about s) (run_in event o) || is_serial s (returned_in event o) || is_serial s
    (unknown_in event o) || is_serial s (given_up_in event o)) ≡ is_serial s (ended event o)
ends_is s (Events.Call actor end Calls.Poll) (Out.Ran handler m sends) = or-false _ ∙ or-false _ ∙ or-false (is_about s m)
ends_is s (Events.Call actor end call) o = refl
ends_is s (Events.Carry end) (Out.Returned m cause) = or-false _ ∙ or-false (same_serial s m.serial)
ends_is s (Events.Carry end) o = refl
ends_is s (Events.Receive node peer number) (Out.Received channel seq attempt (Got.Returned t cause)) = or-false _ ∙ or-false (same_serial s t)
ends_is s (Events.Receive node peer number) o = refl
ends_is s (Events.Expire node peer channel) (Out.Unknown t) = or-false (same_serial s t)
ends_is s (Events.Expire node peer channel) o = refl
ends_is s event o = refl

-- one more record for a request that is accepted
abbrev pub news : (ℕ → Serial → Bool) → Event → Outcome → ℕ
news p (Events.Call actor end (Calls.Request index handler words)) (Out.Requested m) = bit (p index m.serial)
news p event o = 0

-- what must be known of the records where an entry ends a hold
pub record CanEnd (e : EndpointId) (event : Event) (o : Outcome) (xs : List Awaited) : Type 0 where
  pub few : (t : Serial) → records_of t xs ≤ 1
  pub waits : (t : Serial) → stops event o ≡ Some t → AllAre (λ (a : Awaited). same_serial t a.serial ≡ true → a.arrived ≡ false) xs
  pub request : (actor : Actor) (end : EndpointId) (m reply : Message) (handler : Option ℕ) → event ≡ Events.Call actor end Calls.Poll →
      o ≡ Out.Ran handler m (Some reply) → m.about ≡ None
  pub away : (end : EndpointId) (m : Message) (cause : Cause) → event ≡ Events.Carry end → o ≡ Out.Returned m cause → same_end e end ≡ false →
      records_of m.serial xs ≡ 0

not_awaited_where : (p : ℕ → Serial → Bool) (t : Serial) (xs : List Awaited) → AllAre (λ (a : Awaited). same_serial t a.serial ≡ true → a.arrived ≡ false) xs →
    records_of t xs ≤ 1 → records_where p (without_waiting t xs) ≡ records_where (but p (Some t)) xs
not_awaited_where p t xs waits few =
    but_removed p (waits_for t) t xs (λ a h. (and_parts (same_serial t a.serial) (not a.arrived) h).0)
    (all_map (λ (a : Awaited). same_serial t a.serial ≡ true → a.arrived ≡ false) (λ (a : Awaited). same_serial t a.serial ≡ true →
    waits_for t a ≡ true) xs (λ a f same. λ i. both (same i) (f same i)) waits) few
  where
    both : Bool → Bool → Bool
    both x y = x && not y

settled_where : (p : ℕ → Serial → Bool) (about : Option Serial) (xs : List Awaited) → ((t : Serial) → records_of t xs ≤ 1) →
    records_where p (without_record about xs) ≡ records_where (but p about) xs
settled_where p None xs few = but_none p xs
settled_where p (Some t) xs few = but_removed p (is_of t) t xs (λ a h. h) (itself xs) (few t)
  where
    itself : (ys : List Awaited) → AllAre (λ (a : Awaited). same_serial t a.serial ≡ true → is_of t a ≡ true) ys
    itself [] = tt
    itself (a ∷ ys) = (λ h. h, itself ys)

called_where : (p : ℕ → Serial → Bool) (e : EndpointId) (st : State) (actor : Actor) (end : EndpointId) (c : Call) (o : Outcome) →
    CanEnd e (Events.Call actor end c) o st.body.awaited → records_where p (called st c o).body.awaited ≡ records_where (but p (ended_by c o)) st.body.awaited +
    news p (Events.Call actor end c) o
called_where p e st actor end (Calls.Request index handler words) (Out.Requested m) k =
    omega (
      arith,
      sum_by_push (λ (y : Awaited). bit (p y.index y.serial)) st.body.awaited (record { index = index; serial = m.serial; arrived = false }),
      but_none p st.body.awaited,
    )
called_where p e st actor end Calls.Poll (Out.Zero serial why) k = omega (arith, but_none p st.body.awaited)
called_where p e st actor end Calls.Poll (Out.Ran handler m None) k = omega (arith, settled_where p m.about st.body.awaited k.few)
called_where p e st actor end Calls.Poll (Out.Ran handler m (Some reply)) k = omega (
  arith,
  but_none p st.body.awaited,
  ap (λ (w : Option Serial). records_where (but p w) st.body.awaited) (k.request actor end m reply handler refl refl),
)
called_where p e st actor end (Calls.SetTag tag) Out.Done k = omega (arith, but_none p st.body.awaited)
called_where p e st actor end (Calls.Map index name tag credits) Out.Done k = omega (arith, but_none p st.body.awaited)
called_where p e st actor end (Calls.Unmap index) Out.Done k = omega (arith, but_none p st.body.awaited)
called_where p e st actor end (Calls.SetHandler index kind) Out.Done k = omega (arith, but_none p st.body.awaited)
called_where p e st actor end (Calls.GiveUp serial) Out.Done k = omega (arith, not_awaited_where p serial st.body.awaited (k.waits serial refl) (k.few serial))
called_where p e st actor end Calls.Close Out.Done k = omega (arith, but_none p st.body.awaited)
called_where p e st actor end c o k = omega (arith, but_none p st.body.awaited)

reached_where : (p : ℕ → Serial → Bool) (e : EndpointId) (st : State) (o : Outcome) →
    records_where p (reached e st o).body.awaited ≡ records_where p st.body.awaited
reached_where p e st (Out.Accepted m) = by_test (same_end e m.dest)
  where
    by_test : (b : Bool) → records_where p (if b then put m st else st).body.awaited ≡ records_where p st.body.awaited
    by_test true = arrived_where p m.about st.body.awaited
    by_test false = refl
reached_where p e st o = refl

left_where : (p : ℕ → Serial → Bool) (e end : EndpointId) (st : State) (o : Outcome) (b : Bool) → same_end e end ≡ b →
    CanEnd e (Events.Carry end) o st.body.awaited → records_where p (if b then left st o else st).body.awaited ≡ records_where
    (but p (ended (Events.Carry end) o)) st.body.awaited
left_where p e end st (Out.Accepted m) true at k = but_none p st.body.awaited
left_where p e end st (Out.Requeued m cause bounces) true at k = but_none p st.body.awaited
left_where p e end st (Out.Returned m cause) true at k = not_awaited_where p m.serial st.body.awaited (k.waits m.serial refl) (k.few m.serial)
left_where p e end st o true at k = but_none p st.body.awaited
left_where p e end st (Out.Returned m cause) false at k = but_absent p m.serial st.body.awaited (k.away end m cause refl refl at)
left_where p e end st o false at k = but_none p st.body.awaited

result_where : (p : ℕ → Serial → Bool) (e : EndpointId) (st : State) (node peer : NodeId) (number channel seq attempt : ℕ) (r : Received) →
    CanEnd e (Events.Receive node peer number) (Out.Received channel seq attempt r) st.body.awaited →
    records_where p (received e st r).body.awaited ≡ records_where (but p (returned_by r)) st.body.awaited
result_where p e st node peer number channel seq attempt (Got.Accepted m answer) k = arrived_where p m.about st.body.awaited ∙ but_none p st.body.awaited
result_where p e st node peer number channel seq attempt (Got.Refused m NotResident answer) k = but_none p st.body.awaited
result_where p e st node peer number channel seq attempt (Got.Delivered t) k = but_none p st.body.awaited
result_where p e st node peer number channel seq attempt (Got.Requeued t cause bounces) k = but_none p st.body.awaited
result_where p e st node peer number channel seq attempt (Got.Returned t cause) k = not_awaited_where p t st.body.awaited (k.waits t refl) (k.few t)
result_where p e st node peer number channel seq attempt r k = but_none p st.body.awaited

expired_where : (p : ℕ → Serial → Bool) (e : EndpointId) (st : State) (node peer : NodeId) (channel : ℕ) (o : Outcome) →
    CanEnd e (Events.Expire node peer channel) o st.body.awaited →
    records_where p (expired st o).body.awaited ≡ records_where (but p (ended (Events.Expire node peer channel) o)) st.body.awaited
expired_where p e st node peer channel (Out.Delivered t) k = but_none p st.body.awaited
expired_where p e st node peer channel (Out.Unknown t) k = not_awaited_where p t st.body.awaited (k.waits t refl) (k.few t)
expired_where p e st node peer channel o k = but_none p st.body.awaited

bound_where : (p : ℕ → Serial → Bool) (st : State) (o : Outcome) → records_where p (bound st o).body.awaited ≡ records_where (but p None) st.body.awaited
bound_where p st (Out.Sent m peer channel seq attempt number) = but_none p st.body.awaited
bound_where p st o = but_none p st.body.awaited

out_where : (p : ℕ → Serial → Bool) (st : State) (o : Outcome) → records_where p (paged_out st o).body.awaited ≡ records_where (but p None) st.body.awaited
out_where p st Out.Done = but_none p st.body.awaited
out_where p st o = but_none p st.body.awaited

in_where : (p : ℕ → Serial → Bool) (st : State) (o : Outcome) → records_where p (paged_in st o).body.awaited ≡ records_where (but p None) st.body.awaited
in_where p st Out.Done = but_none p st.body.awaited
in_where p st o = but_none p st.body.awaited

-- an entry that touches an endpoint: the record of the request whose hold it ends goes, and no other
pub changed_where : (p : ℕ → Serial → Bool) (e : EndpointId) (st : State) (event : Event) (o : Outcome) → CanEnd e event o st.body.awaited →
    records_where p (changed e st event o).body.awaited ≡ records_where (but p (ended event o)) st.body.awaited + news p event o
changed_where p e st (Events.Call actor end call) o k = called_where p e st actor end call o k
changed_where p e st (Events.Want actor end) o k = omega (arith, but_none p st.body.awaited)
changed_where p e st (Events.Carry end) o k = omega (
  arith,
  reached_where p e (if same_end e end then left st o else st) o,
  left_where p e end st o (same_end e end) refl k,
)
changed_where p e st (Events.Bind node end) o k = omega (arith, bound_where p st o)
changed_where p e st (Events.Expire node peer channel) o k = omega (arith, expired_where p e st node peer channel o k)
changed_where p e st (Events.Receive node peer number) (Out.Received channel seq attempt r) k =
    omega (arith, result_where p e st node peer number channel seq attempt r k)
changed_where p e st (Events.Receive node peer number) o k = omega (arith, but_none p st.body.awaited)
changed_where p e st (Events.Drain node end) o k = omega (arith, but_none p st.body.awaited)
changed_where p e st (Events.Unload node end) o k = omega (arith, but_none p st.body.awaited)
changed_where p e st (Events.Load node end frame) o k = omega (arith, but_none p st.body.awaited)
changed_where p e st (Events.PageOut node end) o k = omega (arith, out_where p st o)
changed_where p e st (Events.PageIn node end) o k = omega (arith, in_where p st o)
