-- Arrived records and received replies correspond one to one.
use Rattle.std.specs.Prelude.{not, count_by}
use Rattle.std.proofs.Common.{◌≡◌, ℕ, ◌+◌, ◌≤◌, Bool, true, false, cond, ◌&&◌, ◌||◌, List, [], ◌∷◌, ◌++◌, Option, Some, None, refl, sym, ap, ◌∙◌, subst, arith}
use Rattle.std.proofs.Common.{true≢false, if◌then◌else◌}
use Rattle.std.proofs.lemmas.List.Sums.{sum_by_push, sum_by-cons}
use Rattle.std.specs.List.{list_any, find}
use Rattle.am_names.specs.Rules.{matches}
use Rattle.am_names.specs.declared.EndpointId.{EndpointId}
use Rattle.am_names.specs.declared.NodeId.{NodeId}
use Rattle.am_names.specs.declared.Serial.{Serial}
use Rattle.am_names.specs.declared.Cause.TheVariants.{NotResident}
use Rattle.am_names.specs.declared.Message.{Message}
use Rattle.am_office_entries.specs.declared.Actor.{Actor}
use Rattle.am_office_entries.specs.declared.Call.{Call}
use Rattle.am_office_entries.specs.declared.Call.TheVariants as Calls
use Rattle.am_office_entries.specs.declared.Event.{Event}
use Rattle.am_office_entries.specs.declared.Event.TheVariants as Events
use Rattle.am_office_entries.specs.declared.Received.{Received}
use Rattle.am_office_entries.specs.declared.Received.TheVariants as Got
use Rattle.am_office_entries.specs.declared.Outcome.{Outcome}
use Rattle.am_office_entries.specs.declared.Outcome.TheVariants as Out
use Rattle.am_office_entries.specs.declared.Entry.{Entry}
use Rattle.am_names.specs.Names.{same_end, same_serial, is_request}
use Rattle.am_model.specs.Choice.{without_first}
use Rattle.am_model.specs.declared.Awaited.{Awaited}
use Rattle.am_model.specs.declared.Flying.{Flying}
use Rattle.am_model.specs.Endpoint.{State, waits_for, is_waited_for}
use Rattle.am_model.specs.Calls.{answer}
use Rattle.am_model.specs.Changes.{called, left, reached, paged_out, paged_in, changed, put, received, expired, bound, without_waiting, without_record, is_of}
use Rattle.am_model.specs.Changes.{arrived, with_arrived}
use Rattle.am_office_entries.specs.Entries.{put_of, run_by, ends_touched, touched_by_result, touches, passes, is_serial}
use Rattle.am_model.specs.Layout.{Layout, EndSetting, has_id, opening_by}
use Rattle.am_model.specs.Channels.{attempt}
use Rattle.am_model.specs.History.{state_of, MayFollow, IsHistory}
use Rattle.am_model.specs.PostOffice.{is_about}
use Rattle.am_model.proofs.Each.{over_each, each_push, state_of_push}
use Rattle.am_model.proofs.Names.{same_serial-is, same_serial-refl, same_end-is}
use Rattle.am_model.specs.Valid.{has_arrived}
use Rattle.am_model.proofs.Received.{bit, one_touched}
use Rattle.am_model.proofs.Books.{fits_call}
use Rattle.am_laws.proofs.Alls.{all_map}
use Rattle.am_laws.proofs.Delivered.{delivers, put_facts}
use Rattle.am_model.specs.Cluster.{ArrivedMatchesReceived, ReceivedTagMatches}
use Rattle.am_model.proofs.Received.{weight, run_at, put_at, changed_received}
use Rattle.am_laws.proofs.Delivered.{IsIn}
use Rattle.am_laws.proofs.Credited.{credits}
use Rattle.am_laws.proofs.Marked.{replied, replied_push, flags}
use Rattle.am_laws.proofs.CreditRecords.{records_of, CanEnd}
use Rattle.am_laws.proofs.CreditPuts.{accepted_reply, about_is, about_itself}
use Rattle.am_laws.proofs.CreditsHeld.{holds, records_once, can_end, waiting_found}
use Rattle.am_laws.proofs.Delivered.{IsPutAt}
use Rattle.am_laws.proofs.Credited.{IsReplyOf}

-- how many arrived records, and how many waiting ones, are of a request
abbrev pub arrived_of : Serial → List Awaited → ℕ
arrived_of s xs = count_by (λ (a : Awaited). a.arrived && same_serial s a.serial) xs

abbrev waiting_of : Serial → List Awaited → ℕ
waiting_of s xs = count_by (waits_for s) xs

both_of : (s : Serial) (xs : List Awaited) → arrived_of s xs + waiting_of s xs ≡ records_of s xs
both_of s [] = refl
both_of s (a ∷ xs) = omega (
  arith,
  both_of s xs,
  sum_by-cons (λ (y : Awaited). bit (y.arrived && same_serial s y.serial)) a xs,
  sum_by-cons (λ (y : Awaited). bit (waits_for s y)) a xs,
  sum_by-cons (λ (y : Awaited). bit (same_serial s y.serial)) a xs,
  one' a.arrived (same_serial s a.serial),
)
  where
    one' : (x y : Bool) → bit (x && y) + bit (y && not x) ≡ bit y
    one' true true = refl
    one' true false = refl
    one' false true = refl
    one' false false = refl

some_waits : (s : Serial) (xs : List Awaited) → list_any (waits_for s) xs ≡ true → 1 ≤ waiting_of s xs
some_waits s [] h = absurd (true≢false (sym h))
some_waits s (a ∷ xs) h = by_test (waits_for s a) refl h (λ e. some_waits s xs e)
  where
    by_test : (b : Bool) → waits_for s a ≡ b → (b || list_any (waits_for s) xs) ≡ true → (list_any (waits_for s) xs ≡ true → 1 ≤ waiting_of s xs) →
        1 ≤ waiting_of s (a ∷ xs)
    by_test true is e more = omega (arith, sum_by-cons (λ (y : Awaited). bit (waits_for s y)) a xs, ap bit is)
    by_test false is e more = omega (arith, sum_by-cons (λ (y : Awaited). bit (waits_for s y)) a xs, more e)

-- a new record has not arrived
new_arrived : (s : Serial) (xs : List Awaited) (index : ℕ) (t : Serial) →
    arrived_of s (xs ++ record { index = index; serial = t; arrived = false } ∷ []) ≡ arrived_of s xs
new_arrived s xs index t = omega (
  arith,
  sum_by_push (λ (y : Awaited). bit (y.arrived && same_serial s y.serial)) xs (record {
    index = index;
    serial = t;
    arrived = false;
  }),
)

-- what goes by waiting has not arrived
waiting_goes : (s t : Serial) (xs : List Awaited) → arrived_of s (without_waiting t xs) ≡ arrived_of s xs
waiting_goes s t [] = refl
waiting_goes s t (a ∷ xs) = by_tests (same_serial t a.serial) a.arrived refl (waiting_goes s t xs)
  where
    by_tests : (b c : Bool) → a.arrived ≡ c → arrived_of s (without_waiting t xs) ≡ arrived_of s xs →
        arrived_of s (cond (b && not c) xs (a ∷ without_waiting t xs)) ≡ arrived_of s (a ∷ xs)
    by_tests true false is more = omega (
      arith,
      sum_by-cons (λ (y : Awaited). bit (y.arrived && same_serial s y.serial)) a xs,
      ap (λ (d : Bool). bit (d && same_serial s a.serial)) is,
    )
    by_tests true true is more = omega (
      arith,
      more,
      sum_by-cons (λ (y : Awaited). bit (y.arrived && same_serial s y.serial)) a xs,
      sum_by-cons (λ (y : Awaited). bit (y.arrived && same_serial s y.serial)) a (without_waiting t xs),
    )
    by_tests false c is more = omega (
      arith,
      more,
      sum_by-cons (λ (y : Awaited). bit (y.arrived && same_serial s y.serial)) a xs,
      sum_by-cons (λ (y : Awaited). bit (y.arrived && same_serial s y.serial)) a (without_waiting t xs),
    )

-- a reply that is put: the records of its request arrive, and no others
all_arrive : (t : Serial) (xs : List Awaited) → arrived_of t (with_arrived (Some t) xs) ≡ records_of t xs
all_arrive t [] = refl
all_arrive t (a ∷ xs) = omega (
  arith,
  all_arrive t xs,
  sum_by-cons (λ (y : Awaited). bit (y.arrived && same_serial t y.serial)) (arrived t a)
      (with_arrived (Some t) xs),
  sum_by-cons (λ (y : Awaited). bit (same_serial t y.serial)) a xs,
  one' a.arrived (same_serial t a.serial),
)
  where
    one' : (x y : Bool) → bit ((x || y) && y) ≡ bit y
    one' true true = refl
    one' true false = refl
    one' false true = refl
    one' false false = refl

others_stay : (s t : Serial) (xs : List Awaited) → same_serial s t ≡ false → arrived_of s (with_arrived (Some t) xs) ≡ arrived_of s xs
others_stay s t [] apart = refl
others_stay s t (a ∷ xs) apart = omega (
  arith,
  others_stay s t xs apart,
  sum_by-cons (λ (y : Awaited). bit (y.arrived && same_serial s y.serial)) (arrived t a) (with_arrived (Some t) xs),
  sum_by-cons (λ (y : Awaited). bit (y.arrived && same_serial s y.serial)) a xs,
  by_tests a.arrived (same_serial t a.serial) (same_serial s a.serial) refl refl,
)
  where
    by_tests : (x y z : Bool) → same_serial t a.serial ≡ y → same_serial s a.serial ≡ z → bit ((x || y) && z) ≡ bit (x && z)
    by_tests true y z hy hz = refl
    by_tests false false z hy hz = refl
    by_tests false true false hy hz = refl
    by_tests false true true hy hz =
        let st : s ≡ t = same_serial-is s a.serial hz ∙ sym (same_serial-is t a.serial hy) in
        absurd (true≢false (sym (same_serial-refl s) ∙ subst (λ (w : Serial). same_serial s w ≡ false) (sym st) apart))

abbrev about_bit : Serial → Option Serial → ℕ
about_bit s about = bit (is_serial s about)

reply_arrives : (s : Serial) (about : Option Serial) (xs : List Awaited) → ((t : Serial) → records_of t xs ≤ 1) →
    ((t : Serial) → about ≡ Some t → list_any (waits_for t) xs ≡ true) → arrived_of s (with_arrived about xs) ≡ arrived_of s xs + about_bit s about
reply_arrives s None xs few waits = omega arith
reply_arrives s (Some t) xs few waits = by_test (same_serial s t) refl
  where
    by_test : (b : Bool) → same_serial s t ≡ b → arrived_of s (with_arrived (Some t) xs) ≡ arrived_of s xs + bit b
    by_test true is =
        subst (λ (w : Serial). arrived_of w (with_arrived (Some t) xs) ≡ arrived_of w xs + 1) (sym (same_serial-is s t is))
        (omega (arith, all_arrive t xs, both_of t xs, few t, some_waits t xs (waits t refl)))
    by_test false is = omega (arith, others_stay s t xs is)

-- a reply that runs: the record of its request goes
first_goes : (f q : Awaited → Bool) (xs : List Awaited) (a : Awaited) → find q xs ≡ Some a → count_by f (without_first q xs) + bit (f a) ≡ count_by f xs
first_goes f q [] a e = absurd (cc)
first_goes f q (b ∷ xs) a e = by_test (q b) e (λ g. first_goes f q xs a g)
  where
    by_test : (t : Bool) → cond t (Some b) (find q xs) ≡ Some a → (find q xs ≡ Some a → count_by f (without_first q xs) + bit (f a) ≡ count_by f xs) →
        count_by f (cond t xs (b ∷ without_first q xs)) + bit (f a) ≡ count_by f (b ∷ xs)
    by_test true g more = let same : b ≡ a = cc in omega (arith, sum_by-cons (λ (y : Awaited). bit (f y)) b xs, ap (λ (w : Awaited). bit (f w)) same)
    by_test false g more = omega (arith, more g, sum_by-cons (λ (y : Awaited). bit (f y)) b xs, sum_by-cons (λ (y : Awaited). bit (f y)) b (without_first q xs))

first_found : (t : Serial) (xs : List Awaited) → 1 ≤ records_of t xs → (a : Awaited) × (find (is_of t) xs ≡ Some a) × (same_serial t a.serial ≡ true)
first_found t [] h = absurd (omega (arith, h))
first_found t (b ∷ xs) h = by_test (same_serial t b.serial) refl (λ low. first_found t xs low)
  where
    by_test : (c : Bool) → same_serial t b.serial ≡ c → (1 ≤ records_of t xs → (a : Awaited) × (find (is_of t) xs ≡ Some a) × (same_serial t a.serial ≡ true)) →
        (a : Awaited) × (cond c (Some b) (find (is_of t) xs) ≡ Some a) × (same_serial t a.serial ≡ true)
    by_test true is more = (b, refl, is)
    by_test false is more = more (omega (arith, h, sum_by-cons (λ (y : Awaited). bit (same_serial t y.serial)) b xs, ap bit is))

reply_settles : (s : Serial) (about : Option Serial) (xs : List Awaited) → ((t : Serial) → records_of t xs ≤ 1) →
    ((t : Serial) → about ≡ Some t → 1 ≤ arrived_of t xs) → arrived_of s (without_record about xs) + about_bit s about ≡ arrived_of s xs
reply_settles s None xs few there = omega arith
reply_settles s (Some t) xs few there = by_found (first_found t xs (omega (arith, there t refl, both_of t xs)))
  where
    by_found : (a : Awaited) × (find (is_of t) xs ≡ Some a) × (same_serial t a.serial ≡ true) →
        arrived_of s (without_record (Some t) xs) + bit (same_serial s t) ≡ arrived_of s xs
    by_found (a, at, mine) = omega (
      arith,
      first_goes (λ (y : Awaited). y.arrived && same_serial s y.serial) (is_of t) xs a at,
      by_tests a.arrived refl (same_serial s t) refl,
    )
      where
        is : t ≡ a.serial
        is = same_serial-is t a.serial mine

        waiting_one : a.arrived ≡ false → waiting_of t (without_first (is_of t) xs) + 1 ≡ waiting_of t xs
        waiting_one off =
            let both : bit (waits_for t a) ≡ 1 = (λ i. bit (mine i && not (off i))) in
            omega (arith, first_goes (waits_for t) (is_of t) xs a at, both)

        by_tests : (c : Bool) → a.arrived ≡ c → (b : Bool) → same_serial s t ≡ b → bit (c && same_serial s a.serial) ≡ bit b
        by_tests true hc b hb = ap (λ (w : Serial). bit (same_serial s w)) (sym is) ∙ ap bit hb
        by_tests false hc b hb = absurd (omega (arith, waiting_one hc, there t refl, both_of t xs, few t))

-- what is known where an entry touches an endpoint
record CanArrive (e : EndpointId) (event : Event) (o : Outcome) (xs : List Awaited) : Type 0 where
  pub ends : CanEnd e event o xs
  pub puts : (m : Message) (t : Serial) → put_at e event o ≡ Some m → m.about ≡ Some t → list_any (waits_for t) xs ≡ true
  pub runs : (m : Message) (t : Serial) → run_at e event o ≡ Some m → m.about ≡ Some t → 1 ≤ arrived_of t xs

called_arrived : (s : Serial) (e : EndpointId) (st : State) (actor : Actor) (end : EndpointId) (c : Call) (o : Outcome) → same_end e end ≡ true →
    CanArrive e (Events.Call actor end c) o st.body.awaited →
    arrived_of s (called st c o).body.awaited + bit (passes (is_about s) (run_by c o)) ≡ arrived_of s st.body.awaited
called_arrived s e st actor end (Calls.Request index handler words) (Out.Requested m) on k = omega (arith, new_arrived s st.body.awaited index m.serial)
called_arrived s e st actor end Calls.Poll (Out.Zero serial why) on k = omega arith
called_arrived s e st actor end Calls.Poll (Out.Ran handler m None) on k =
    reply_settles s m.about st.body.awaited k.ends.few (λ t is. k.runs m t (ap (λ (b : Bool). if b then Some m else None) on) is)
called_arrived s e st actor end Calls.Poll (Out.Ran handler m (Some reply)) on k = omega (
  arith,
  ap (λ (w : Option Serial). bit (is_serial s w)) (k.ends.request actor end m reply handler refl refl),
)
called_arrived s e st actor end (Calls.SetTag tag) Out.Done on k = omega arith
called_arrived s e st actor end (Calls.Map index name tag credits) Out.Done on k = omega arith
called_arrived s e st actor end (Calls.Unmap index) Out.Done on k = omega arith
called_arrived s e st actor end (Calls.SetHandler index kind) Out.Done on k = omega arith
called_arrived s e st actor end (Calls.GiveUp serial) Out.Done on k = omega (arith, waiting_goes s serial st.body.awaited)
called_arrived s e st actor end Calls.Close Out.Done on k = omega arith
called_arrived s e st actor end c o on k = omega arith

left_arrived : (s : Serial) (st : State) (o : Outcome) (b : Bool) → arrived_of s (if b then left st o else st).body.awaited ≡ arrived_of s st.body.awaited
left_arrived s st (Out.Accepted m) true = refl
left_arrived s st (Out.Requeued m cause bounces) true = refl
left_arrived s st (Out.Returned m cause) true = waiting_goes s m.serial st.body.awaited
left_arrived s st o true = refl
left_arrived s st o false = refl

carried_arrived : (s : Serial) (e end : EndpointId) (st : State) (o : Outcome) → CanArrive e (Events.Carry end) o st.body.awaited →
    arrived_of s (reached e (if same_end e end then left st o else st) o).body.awaited ≡ arrived_of s st.body.awaited + weight (is_about s)
    (put_at e (Events.Carry end) o)
carried_arrived s e end st (Out.Accepted m) k = by_test (same_end e m.dest) refl (same_end e end)
  where
    same : (b : Bool) → (if b then left st (Out.Accepted m) else st).body.awaited ≡ st.body.awaited
    same true = refl
    same false = refl

    by_test : (t : Bool) → same_end e m.dest ≡ t → (b : Bool) →
        arrived_of s (if t then put m (if b then left st (Out.Accepted m) else st) else (if b then left st (Out.Accepted m) else st)).body.awaited ≡ arrived_of
        s st.body.awaited + weight (is_about s) (if t then Some m else None)
    by_test true at b =
        ap (λ (xs : List Awaited). arrived_of s (with_arrived m.about xs)) (same b)
        ∙ reply_arrives s m.about st.body.awaited k.ends.few (λ u is. k.puts m u (ap (λ (t : Bool). if t then Some m else None) at) is)
    by_test false at b = omega (arith, ap (arrived_of s) (same b))
carried_arrived s e end st o k = omega (arith, left_arrived s st o (same_end e end))

result_arrived : (s : Serial) (e : EndpointId) (st : State) (node peer : NodeId) (number channel seq attempt : ℕ) (r : Received) →
    list_any (same_end e) (touched_by_result r) ≡ true → CanArrive e (Events.Receive node peer number) (Out.Received channel seq attempt r) st.body.awaited →
    arrived_of s (received e st r).body.awaited ≡ arrived_of s st.body.awaited + weight (is_about s)
    (put_at e (Events.Receive node peer number) (Out.Received channel seq attempt r))
result_arrived s e st node peer number channel seq attempt (Got.Accepted m answer) t k = by_test (same_end e m.dest) refl (one_touched (same_end e m.dest) t)
  where
    by_test : (b : Bool) → same_end e m.dest ≡ b → b ≡ true →
        arrived_of s (with_arrived m.about st.body.awaited) ≡ arrived_of s st.body.awaited + weight (is_about s) (if b then Some m else None)
    by_test true at h = reply_arrives s m.about st.body.awaited k.ends.few (λ u is. k.puts m u (ap (λ (b : Bool). if b then Some m else None) at) is)
    by_test false at h = absurd (true≢false (sym h))
result_arrived s e st node peer number channel seq attempt (Got.Refused m NotResident answer) t k = omega arith
result_arrived s e st node peer number channel seq attempt (Got.Delivered u) t k = omega arith
result_arrived s e st node peer number channel seq attempt (Got.Requeued u cause bounces) t k = omega arith
result_arrived s e st node peer number channel seq attempt (Got.Returned u cause) t k = omega (arith, waiting_goes s u st.body.awaited)
result_arrived s e st node peer number channel seq attempt r t k = omega arith

expired_arrived : (s : Serial) (st : State) (o : Outcome) → arrived_of s (expired st o).body.awaited ≡ arrived_of s st.body.awaited
expired_arrived s st (Out.Delivered t) = refl
expired_arrived s st (Out.Unknown t) = waiting_goes s t st.body.awaited
expired_arrived s st o = refl

bound_arrived : (s : Serial) (st : State) (o : Outcome) → arrived_of s (bound st o).body.awaited ≡ arrived_of s st.body.awaited
bound_arrived s st (Out.Sent m peer channel seq attempt number) = refl
bound_arrived s st o = refl

out_arrived : (s : Serial) (st : State) (o : Outcome) → arrived_of s (paged_out st o).body.awaited ≡ arrived_of s st.body.awaited
out_arrived s st Out.Done = refl
out_arrived s st o = refl

in_arrived : (s : Serial) (st : State) (o : Outcome) → arrived_of s (paged_in st o).body.awaited ≡ arrived_of s st.body.awaited
in_arrived s st Out.Done = refl
in_arrived s st o = refl

changed_arrived : (s : Serial) (e : EndpointId) (st : State) (event : Event) (o : Outcome) → list_any (same_end e) (ends_touched event o) ≡ true →
    CanArrive e event o st.body.awaited → arrived_of s (changed e st event o).body.awaited + weight (is_about s) (run_at e event o) ≡ arrived_of s
    st.body.awaited + weight (is_about s) (put_at e event o)
changed_arrived s e st (Events.Call actor end call) o t k =
    let on : same_end e end ≡ true = one_touched (same_end e end) t in
    rw on (omega (arith, called_arrived s e st actor end call o on k))
changed_arrived s e st (Events.Want actor end) o t k = omega arith
changed_arrived s e st (Events.Carry end) o t k = omega (arith, carried_arrived s e end st o k)
changed_arrived s e st (Events.Bind node end) o t k = omega (arith, bound_arrived s st o)
changed_arrived s e st (Events.Expire node peer channel) o t k = omega (arith, expired_arrived s st o)
changed_arrived s e st (Events.Receive node peer number) (Out.Received channel seq attempt r) t k =
    omega (arith, result_arrived s e st node peer number channel seq attempt r t k)
changed_arrived s e st (Events.Receive node peer number) o t k = omega arith
changed_arrived s e st (Events.Drain node end) o t k = omega arith
changed_arrived s e st (Events.Unload node end) o t k = omega arith
changed_arrived s e st (Events.Load node end frame) o t k = omega arith
changed_arrived s e st (Events.PageOut node end) o t k = omega (arith, out_arrived s st o)
changed_arrived s e st (Events.PageIn node end) o t k = omega (arith, in_arrived s st o)

-- a reply is put only while its request's record waits
pub put_waits : (layout : Layout) (past : List Entry) (x : Entry) → IsHistory layout past → MayFollow layout past x → (m : Message) (t : Serial) →
    put_of x ≡ Some m → m.about ≡ Some t → (m.dest ≡ t.source) × (list_any (waits_for t) (state_of layout past m.dest).body.awaited ≡ true)
put_waits layout past x h may m t is about = (reply.dest, by_kind (is_request m) reply.kind p.welcome.awaited)
  where
    p : IsPutAt layout past x.event m
    p = put_facts layout past x (delivers layout past h) may m is

    reply : IsReplyOf past m t
    reply = (accepted_reply layout past h m t (put_facts layout past x (delivers layout past h) may m is).accepted about).reply

    not_false : (b : Bool) → not b ≡ false → b ≡ true
    not_false true e = refl
    not_false false e = absurd (true≢false e)

    by_kind : (b : Bool) → b ≡ false → ((if b then false else true) && not (is_waited_for (state_of layout past m.dest).body.awaited m.about)) ≡ false →
        list_any (waits_for t) (state_of layout past m.dest).body.awaited ≡ true
    by_kind true e f = absurd (true≢false e)
    by_kind false e f = ap (is_waited_for (state_of layout past m.dest).body.awaited) (sym about)
        ∙ not_false (is_waited_for (state_of layout past m.dest).body.awaited m.about) f

-- at most one reply to a request is put
pub record Arrivals (layout : Layout) (past : List Entry) : Type 0 where
  pub history : IsHistory layout past
  pub one : (e : EndpointId) (s : Serial) → arrived_of s (state_of layout past e).body.awaited ≡ count_by (is_about s) (state_of layout past e).body.received
  pub most : (s : Serial) → replied s past ≤ 1

arrivals_more : (layout : Layout) (past : List Entry) (x : Entry) → Arrivals layout past → MayFollow layout past x → Arrivals layout (past ++ x ∷ [])
arrivals_more layout past x k may =
    record { history = each_push (MayFollow layout) [] past x k.history may; one = λ e s. one e s (touches e x) refl; most = λ s. most s (put_of x) refl }
  where
    put_here : (e : EndpointId) (m : Message) → put_at e x.event x.outcome ≡ Some m → (put_of x ≡ Some m) × (e ≡ m.dest)
    put_here e m is = by_put (put_of x) refl is
      where
        by_test : (n : Message) (b : Bool) → same_end e n.dest ≡ b → put_of x ≡ Some n → (if b then Some n else None) ≡ Some m →
            (put_of x ≡ Some m) × (e ≡ m.dest)
        by_test n true at here f = let same : n ≡ m = cc in (
          here ∙ ap (λ (w : Message). Some w) same,
          same_end-is e n.dest at
              ∙ ap (λ (w : Message). w.dest) same,
        )
        by_test n false at here f = absurd (cc)

        by_put : (w : Option Message) → put_of x ≡ w → Rattle.am_model.specs.PostOffice.only_if (λ (n : Message). same_end e n.dest) w ≡ Some m →
            (put_of x ≡ Some m) × (e ≡ m.dest)
        by_put None here f = absurd (cc)
        by_put (Some n) here f = by_test n (same_end e n.dest) refl here f

    can : (e : EndpointId) → touches e x ≡ true → CanArrive e x.event x.outcome (state_of layout past e).body.awaited
    can e at =
        record {
          ends = can_end layout past x (holds layout past k.history) may e;
          puts = λ m t is about.
              let p = put_here e m is in
              subst (λ (w : EndpointId). list_any (waits_for t) (state_of layout past w).body.awaited ≡ true) (sym p.1)
              (put_waits layout past x k.history may m t p.0 about).1;
          runs = λ m t is about.
              let one' : weight (is_about t) (run_at e x.event x.outcome) ≡ 1 = ap (λ (o : Option Message). weight (is_about t) o) is
              ∙ ap bit (about_itself t m about) in
              let none : weight (is_about t) (put_at e x.event x.outcome) ≡ 0 = no_put e x.event x.outcome m is t in
              omega (
                arith,
                one',
                none,
                k.one e t,
                changed_received layout.pool (is_about t) e (state_of layout past e) x.event x.outcome at
                    (fits_call layout past e x may at),
              );
        }
      where
        no_put : (e' : EndpointId) (event : Event) (o : Outcome) (m : Message) → run_at e' event o ≡ Some m → (t : Serial) →
            weight (is_about t) (put_at e' event o) ≡ 0
        no_put e' (Events.Call actor end call) o m is t = refl
        no_put e' event o m is t = absurd (cc)

    one : (e : EndpointId) (s : Serial) (t : Bool) → touches e x ≡ t →
        arrived_of s (state_of layout (past ++ x ∷ []) e).body.awaited ≡ count_by (is_about s) (state_of layout (past ++ x ∷ []) e).body.received
    one e s true at =
        rw (state_of_push layout past x e true at)
        (omega (
          arith,
          k.one e s,
          changed_arrived s e (state_of layout past e) x.event x.outcome at (can e at),
          changed_received layout.pool (is_about s) e (state_of layout past e) x.event x.outcome at (fits_call layout past e x may at),
        ))
    one e s false at = rw (state_of_push layout past x e false at) (k.one e s)

    most : (s : Serial) (w : Option Message) → put_of x ≡ w → replied s (past ++ x ∷ []) ≤ 1
    most s None is = omega (arith, k.most s, replied_push s past x, ap (λ (o : Option Message). bit (passes (is_about s) o)) is)
    most s (Some m) is = by_about (is_about s m) refl
      where
        by_about : (b : Bool) → is_about s m ≡ b → replied s (past ++ x ∷ []) ≤ 1
        by_about false at = omega (arith, k.most s, replied_push s past x, ap (λ (o : Option Message). bit (passes (is_about s) o)) is, ap bit at)
        by_about true at =
            let w = put_waits layout past x k.history may m s is (about_is s m at) in
            let f = waiting_found (λ (a : Awaited). a.arrived ≡ false →
            replied a.serial past ≡ 0) s (state_of layout past m.dest).body.awaited w.1 (flags layout past k.history m.dest).waiting in
            let none : replied s past ≡ 0 = subst (λ (t : Serial). replied t past ≡ 0) f.1 (f.3 f.2) in
            omega (arith, none, replied_push s past x, ap (λ (o : Option Message). bit (passes (is_about s) o)) is, ap bit at)

pub arrivals : (layout : Layout) (past : List Entry) → IsHistory layout past → Arrivals layout past
arrivals layout past h =
    over_each (MayFollow layout) (λ xs. Arrivals layout xs) (λ xs x k may. arrivals_more layout xs x k may) []
    past (record { history = tt; one = λ e s. none s (find (has_id e) layout.ends); most = λ s. omega arith }) h
  where
    none : (s : Serial) (setting : Option EndSetting) → arrived_of s (opening_by layout setting).body.awaited ≡ count_by (is_about s)
        (opening_by layout setting).body.received
    none s None = refl
    none s (Some setting) = refl

both_ways : (b d : Bool) → (b && d) ≡ (d && b)
both_ways true true = refl
both_ways true false = refl
both_ways false true = refl
both_ways false false = refl

arrived_either : (s : Serial) (xs : List Awaited) → count_by (has_arrived s) xs ≡ arrived_of s xs
arrived_either s xs = ap (λ (p : Awaited → Bool). count_by p xs) (λ i (a : Awaited). both_ways (same_serial s a.serial) a.arrived i)

-- the eighth part: arrived records and received replies correspond
pub arrived_matches : (layout : Layout) (past : List Entry) → IsHistory layout past → ArrivedMatchesReceived layout past
arrived_matches layout past h =
    record {
      one = λ e s. arrived_either s (state_of layout past e).body.awaited ∙ k.one e s;
      once = λ e s. records_once layout past (holds layout past h) e s;
      answered = λ e.
          all_map (λ (f : Flying). f.answered ≡ true → 1 ≤ replied f.message.serial past) (λ (f : Flying). f.answered ≡ true →
          replied f.message.serial past ≡ 1) (state_of layout past e).body.in_flight
          (λ f m is. omega (arith, m is, k.most f.message.serial))
          (flags layout past h e).marked;
    }
  where
    k : Arrivals layout past
    k = arrivals layout past h

-- the ninth part: received tags match
pub received_tags : (layout : Layout) (past : List Entry) → IsHistory layout past → ReceivedTagMatches layout past
received_tags layout past h e =
    all_map (IsIn past e (state_of layout past e).body.tag) (λ (m : Message). matches (state_of layout past e).body.tag m.tag ≡ true)
    (state_of layout past e).body.received (λ m i. i.tag) ((delivers layout past h).received e)
