-- What a body is after a free slot took a message.
use Rattle.std.proofs.Common.{◌≡◌, ℕ, ◌<◌, Bool, true, false, List, [], ◌∷◌, ◌++◌, length, drop, refl, sym, ap, ◌∙◌, subst, arith}
use Rattle.std.proofs.lemmas.List.{length-map}
use Rattle.am_names.specs.Names.{has_serial, is_reply, is_request}
use Rattle.am_names.specs.declared.Serial.{Serial}
use Rattle.am_names.specs.declared.Message.{Message}
use Rattle.am_names.specs.declared.Tag.{Tag}
use Rattle.am_office_entries.specs.declared.HandlerKind.{HandlerKind}
use Rattle.std.specs.Option.{option_map}
use Rattle.am_block.specs.Pools.{Pools, IsBlock, home, moved, size, without}
use Rattle.am_block.specs.declared.Slot.{Slot}
use Rattle.am_block.specs.declared.Descriptor.{Descriptor}
use Rattle.am_block.specs.declared.List.{List as Which}
use Rattle.am_block.proofs.Callers.{home_is}
use Rattle.am_block.specs.declared.List.TheVariants.{Free, Requests, Replies, InFlight, Notices, Received}
use Rattle.am_model.specs.declared.Flying.{Flying}
use Rattle.am_model.specs.declared.Notice.{Notice}
use Rattle.am_model.specs.declared.Queued.{Queued}
use Rattle.am_model.specs.Endpoint.{Body}
use Rattle.am_model.specs.Changes.{appended, without_flight, queued}
use Rattle.am_model.specs.Choice.{without_first}
use Rattle.am_translate.specs.Tables.{Table}
use Rattle.std.specs.Prelude.{◌↔◌, Option, None, Some, cond, find, if◌then◌else◌}
use Rattle.am_endpoint_body.specs.Flights.{slot_of}
use Rattle.am_endpoint_body.specs.Moves.{filed, freed}
use Rattle.am_endpoint_body.specs.Walks.{is_sought_at}
use Rattle.am_endpoint_body.specs.declared.walks.Sought.TheVariants as Soughts
use Rattle.am_endpoint_body.specs.Kept.{IsSound, view_of}
use Rattle.am_endpoint_body.specs.declared.Body.TheInside.{Inside}
use Rattle.am_endpoint_body.specs.Views.{View, body_over, descriptor_at, flying_in, message_in, notice_in, queued_in, seen, slots_held}
use Rattle.am_endpoint_body.proofs.Seen.{first_free, found-times, grown, kept, none-seen, stands-below, without-front, without-seen}

-- a body with other lists
abbrev pub with_lists : Body → List Queued → List Queued → List Flying → List Notice → List Message → Body
with_lists b requests replies in_flight notices received =
    record b { requests = requests; replies = replies; in_flight = in_flight; notices = notices; received = received }

pub same_lists : (b : Body) (q q' r r' : List Queued) (f f' : List Flying) (n n' : List Notice) (m m' : List Message) → q ≡ q' → r ≡ r' → f ≡ f' → n ≡ n' →
    m ≡ m' → with_lists b q r f n m ≡ with_lists b q' r' f' n' m'
same_lists b q q' r r' f f' n n' m m' a c d e g = λ i. with_lists b (a i) (c i) (d i) (e i) (g i)

-- while fewer than 80 slots are held one is free
pub some_free : (tag : Tag) (sum accepted : ℕ) (t : Table) (hs : List (Option HandlerKind)) (p : Pools) → IsBlock p → size p ≡ 80 →
    slots_held (body_over tag sum accepted t hs p) < 80 → p.free ≡ [] → ⊥
some_free tag sum accepted t hs p b is held none =
    omega (
      arith,
      b.all_stand,
      is,
      held,
      ap length none,
      length-map p.requests (λ s. queued_in (slot s)),
      length-map p.replies (λ s. queued_in (slot s)),
      length-map p.in_flight (λ s. flying_in (slot s)),
      length-map p.notices (λ s. notice_in (slot s)),
      length-map p.received (λ s. message_in (slot s)),
    )
  where
    slot : ℕ → Descriptor
    slot s = descriptor_at p.descriptors s

module _ (tag : Tag) (sum accepted : ℕ) (t : Table) (hs : List (Option HandlerKind)) (p : Pools) (d : Descriptor) (b : IsBlock p) where
  request_filed : (s : ℕ) (free : List ℕ) → is_request d.message ≡ true → p.free ≡ s ∷ free →
      body_over tag sum accepted t hs (filed p (s ∷ free) Requests d) ≡ queued d.message d.used (body_over tag sum accepted t hs p)
  request_filed s free is front =
      let ok = first_free p s free b front in
      same_lists (body_over tag sum accepted t hs p) _ _ _ _ _ _ _ _ _ _
      (grown queued_in p.descriptors s d p.requests ok.requests ok.within
      ∙ ap (λ c. appended c d.message d.used (seen queued_in p.descriptors p.requests)) (sym is))
      (kept queued_in p.descriptors s d p.replies ok.replies ∙ ap (λ c. appended (if c then false else true) d.message d.used
      (seen queued_in p.descriptors p.replies)) (sym is))
      (kept flying_in p.descriptors s d p.in_flight ok.in_flight)
      (kept notice_in p.descriptors s d p.notices ok.notices)
      (kept message_in p.descriptors s d p.received ok.received)

  answer_filed : (s : ℕ) (free : List ℕ) → is_request d.message ≡ false → p.free ≡ s ∷ free →
      body_over tag sum accepted t hs (filed p (s ∷ free) Replies d) ≡ queued d.message d.used (body_over tag sum accepted t hs p)
  answer_filed s free is front =
      let ok = first_free p s free b front in
      same_lists (body_over tag sum accepted t hs p) _ _ _ _ _ _ _ _ _ _
      (kept queued_in p.descriptors s d p.requests ok.requests ∙ ap (λ c. appended c d.message d.used (seen queued_in p.descriptors p.requests)) (sym is))
      (grown queued_in p.descriptors s d p.replies ok.replies ok.within
      ∙ ap (λ c. appended (if c then false else true) d.message d.used (seen queued_in p.descriptors p.replies)) (sym is))
      (kept flying_in p.descriptors s d p.in_flight ok.in_flight)
      (kept notice_in p.descriptors s d p.notices ok.notices)
      (kept message_in p.descriptors s d p.received ok.received)

  received_filed : (s : ℕ) (free : List ℕ) → p.free ≡ s ∷ free →
      body_over tag sum accepted t hs (filed p (s ∷ free) Received d) ≡ record (body_over tag sum accepted t hs p) {
        received =
            (body_over tag sum accepted t hs p).received ++ message_in d ∷ [];
      }
  received_filed s free front =
      let ok = first_free p s free b front in
      same_lists (body_over tag sum accepted t hs p) _ _ _ _ _ _ _ _ _ _
      (kept queued_in p.descriptors s d p.requests ok.requests)
      (kept queued_in p.descriptors s d p.replies ok.replies)
      (kept flying_in p.descriptors s d p.in_flight ok.in_flight)
      (kept notice_in p.descriptors s d p.notices ok.notices)
      (grown message_in p.descriptors s d p.received ok.received ok.within)

  pub received_added : size p ≡ 80 → slots_held (body_over tag sum accepted t hs p) < 80 →
      body_over tag sum accepted t hs (filed p p.free Received d) ≡ record (body_over tag sum accepted t hs p) {
        received =
            (body_over tag sum accepted t hs p).received ++ message_in d ∷ [];
      }
  received_added all held = by_free p.free refl
    where
      by_free : (xs : List ℕ) → p.free ≡ xs → body_over tag sum accepted t hs (filed p xs Received d) ≡ record (body_over tag sum accepted t hs p) {
        received =
            (body_over tag sum accepted t hs p).received ++ message_in d ∷ [];
      }
      by_free [] none = absurd (some_free tag sum accepted t hs p b all held none)
      by_free (s ∷ free) front = received_filed s free front

  notice_filed : (s : ℕ) (free : List ℕ) → p.free ≡ s ∷ free →
      body_over tag sum accepted t hs (filed p (s ∷ free) Notices d) ≡ record (body_over tag sum accepted t hs p) {
        notices =
            (body_over tag sum accepted t hs p).notices ++ notice_in d ∷ [];
      }
  notice_filed s free front =
      let ok = first_free p s free b front in
      same_lists (body_over tag sum accepted t hs p) _ _ _ _ _ _ _ _ _ _
      (kept queued_in p.descriptors s d p.requests ok.requests)
      (kept queued_in p.descriptors s d p.replies ok.replies)
      (kept flying_in p.descriptors s d p.in_flight ok.in_flight)
      (grown notice_in p.descriptors s d p.notices ok.notices ok.within)
      (kept message_in p.descriptors s d p.received ok.received)

  pub notice_added : size p ≡ 80 → slots_held (body_over tag sum accepted t hs p) < 80 →
      body_over tag sum accepted t hs (filed p p.free Notices d) ≡ record (body_over tag sum accepted t hs p) {
        notices =
            (body_over tag sum accepted t hs p).notices ++ notice_in d ∷ [];
      }
  notice_added all held = by_free p.free refl
    where
      by_free : (xs : List ℕ) → p.free ≡ xs → body_over tag sum accepted t hs (filed p xs Notices d) ≡ record (body_over tag sum accepted t hs p) {
        notices =
            (body_over tag sum accepted t hs p).notices ++ notice_in d ∷ [];
      }
      by_free [] none = absurd (some_free tag sum accepted t hs p b all held none)
      by_free (s ∷ free) front = notice_filed s free front

  pub request_queued : size p ≡ 80 → slots_held (body_over tag sum accepted t hs p) < 80 → is_request d.message ≡ true →
      body_over tag sum accepted t hs (filed p p.free Requests d) ≡ queued d.message d.used (body_over tag sum accepted t hs p)
  request_queued all held is = by_free p.free refl
    where
      by_free : (xs : List ℕ) → p.free ≡ xs → body_over tag sum accepted t hs (filed p xs Requests d) ≡ queued d.message d.used
          (body_over tag sum accepted t hs p)
      by_free [] none = absurd (some_free tag sum accepted t hs p b all held none)
      by_free (s ∷ free) front = request_filed s free is front

  pub answer_queued : size p ≡ 80 → slots_held (body_over tag sum accepted t hs p) < 80 → is_request d.message ≡ false →
      body_over tag sum accepted t hs (filed p p.free Replies d) ≡ queued d.message d.used (body_over tag sum accepted t hs p)
  answer_queued all held is = by_free p.free refl
    where
      by_free : (xs : List ℕ) → p.free ≡ xs → body_over tag sum accepted t hs (filed p xs Replies d) ≡ queued d.message d.used
          (body_over tag sum accepted t hs p)
      by_free [] none = absurd (some_free tag sum accepted t hs p b all held none)
      by_free (s ∷ free) front = answer_filed s free is front

held_before : (i : Inside) (v : View) → view_of i ≡ v → slots_held v.body < 80 → slots_held (view_of i).body < 80
held_before i v e h = subst (λ (w : View). slots_held w.body < 80) (sym e) h

-- a view with another body and other slots in flight
with_both : (v : View) (b c : Body) (xs ys : List ℕ) → b ≡ c → xs ≡ ys → record v { body = b; flights = xs } ≡ record v { body = c; flights = ys }
with_both v b c xs ys to there = λ k. record v { body = to k; flights = there k }

-- a body with another block, where its new body and its new slots in flight are known
pub viewed_both : (i : Inside) (v : View) (q r : Pools) (change : Body → Body) (flights : View → List ℕ) → view_of i ≡ v → q ≡ r →
    (view_of (record i { block = r })).body ≡ change (view_of i).body → r.in_flight ≡ flights (view_of i) →
    view_of (record i { block = q }) ≡ record v { body = change v.body; flights = flights v }
viewed_both i v q r change flights e is to there =
    ap (λ (p : Pools). view_of (record i { block = p })) is
    ∙ with_both (view_of i) _ _ _ _ to there
    ∙ ap (λ (w : View). record w { body = change w.body; flights = flights w }) e

-- where the slots in flight stay
pub viewed : (i : Inside) (v : View) (q r : Pools) (change : Body → Body) → view_of i ≡ v → q ≡ r →
    (view_of (record i { block = r })).body ≡ change (view_of i).body → r.in_flight ≡ i.block.in_flight →
    view_of (record i { block = q }) ≡ record v { body = change v.body }
viewed i v q r change e is to there = viewed_both i v q r change (λ w. w.flights) e is to there

-- what is filed in another list, and what goes from another, leaves the slots in flight as they are

-- p with this slot of a list free, if there is one
abbrev taken_out : Pools → Which → Option ℕ → Pools
taken_out p from None = p
taken_out p from (Some s) = moved p from s Free

requests_aside : (p : Pools) (d : Descriptor) (xs : List ℕ) → (filed p xs Requests d).in_flight ≡ p.in_flight
requests_aside p d [] = refl
requests_aside p d (s ∷ xs) = refl

replies_aside : (p : Pools) (d : Descriptor) (xs : List ℕ) → (filed p xs Replies d).in_flight ≡ p.in_flight
replies_aside p d [] = refl
replies_aside p d (s ∷ xs) = refl

notices_aside : (p : Pools) (d : Descriptor) (xs : List ℕ) → (filed p xs Notices d).in_flight ≡ p.in_flight
notices_aside p d [] = refl
notices_aside p d (s ∷ xs) = refl

received_aside : (p : Pools) (d : Descriptor) (xs : List ℕ) → (filed p xs Received d).in_flight ≡ p.in_flight
received_aside p d [] = refl
received_aside p d (s ∷ xs) = refl

notices_freed_aside : (p : Pools) (xs : List ℕ) → (freed p xs Notices).in_flight ≡ p.in_flight
notices_freed_aside p [] = refl
notices_freed_aside p (s ∷ xs) = refl

received_freed_aside : (p : Pools) (xs : List ℕ) → (freed p xs Received).in_flight ≡ p.in_flight
received_freed_aside p [] = refl
received_freed_aside p (s ∷ xs) = refl

queue_aside : (p : Pools) (d : Descriptor) (is : Bool) → (filed p p.free (cond is Requests Replies) d).in_flight ≡ p.in_flight
queue_aside p d true = requests_aside p d p.free
queue_aside p d false = replies_aside p d p.free

pub queue_view : (i : Inside) (v : View) (q : Pools) (d : Descriptor) → view_of i ≡ v → IsSound i →
    q ≡ filed i.block i.block.free (cond (is_request d.message) Requests Replies) d → slots_held v.body < 80 →
    view_of (record i { block = q }) ≡ record v { body = queued d.message d.used v.body }
queue_view i v q d e ok is held =
    viewed i v q (filed i.block i.block.free (cond (is_request d.message) Requests Replies) d) (queued d.message d.used) e is
    (by_kind (is_request d.message) refl) (queue_aside i.block d (is_request d.message))
  where
    by_kind : (b : Bool) → is_request d.message ≡ b → (view_of (record i { block = filed i.block i.block.free (cond b Requests Replies) d })).body ≡ queued
        d.message d.used (view_of i).body
    by_kind true kind = request_queued i.tag i.sum i.accepted i.translate i.handlers i.block d ok.block ok.slots (held_before i v e held) kind
    by_kind false kind = answer_queued i.tag i.sum i.accepted i.translate i.handlers i.block d ok.block ok.slots (held_before i v e held) kind

pub notice_view : (i : Inside) (v : View) (q : Pools) (d : Descriptor) → view_of i ≡ v → IsSound i → q ≡ filed i.block i.block.free Notices d →
    slots_held v.body < 80 → view_of (record i { block = q }) ≡ record v { body = record v.body { notices = v.body.notices ++ notice_in d ∷ [] } }
notice_view i v q d e ok is held =
    viewed i v q (filed i.block i.block.free Notices d) (λ b. record b { notices = b.notices ++ notice_in d ∷ [] }) e is
    (notice_added i.tag i.sum i.accepted i.translate i.handlers i.block d ok.block ok.slots (held_before i v e held))
    (notices_aside i.block d i.block.free)

-- a body whose list loses its front

notices_freed : (i : Inside) (xs : List ℕ) → i.block.notices ≡ xs →
    (view_of (record i { block = freed i.block xs Notices })).body ≡ record (view_of i).body { notices = drop 1 (view_of i).body.notices }
notices_freed i [] e = ap (λ (ns : List Notice). record (view_of i).body { notices = ns }) (ap (seen notice_in i.block.descriptors) e
    ∙ sym (ap (λ ys. drop 1 (seen notice_in i.block.descriptors ys)) e))
notices_freed i (s ∷ xs) e =
    ap (λ (ys : List ℕ). record (view_of i).body { notices = seen notice_in i.block.descriptors ys }) (ap (without s) e ∙ without-front s xs)
    ∙ sym (ap (λ (ys : List ℕ). record (view_of i).body { notices = drop 1 (seen notice_in i.block.descriptors ys) }) e)

pub notices_view : (i : Inside) (v : View) (q : Pools) → view_of i ≡ v → q ≡ freed i.block i.block.notices Notices →
    view_of (record i { block = q }) ≡ record v { body = record v.body { notices = drop 1 v.body.notices } }
notices_view i v q e is = viewed i v q (freed i.block i.block.notices Notices) (λ b. record b { notices = drop 1 b.notices }) e is
    (notices_freed i i.block.notices refl) (notices_freed_aside i.block i.block.notices)

pub received_view : (i : Inside) (v : View) (q : Pools) (d : Descriptor) → view_of i ≡ v → IsSound i → q ≡ filed i.block i.block.free Received d →
    slots_held v.body < 80 → view_of (record i { block = q }) ≡ record v { body = record v.body { received = v.body.received ++ message_in d ∷ [] } }
received_view i v q d e ok is held =
    viewed i v q (filed i.block i.block.free Received d) (λ b. record b { received = b.received ++ message_in d ∷ [] }) e is
    (received_added i.tag i.sum i.accepted i.translate i.handlers i.block d ok.block ok.slots (held_before i v e held))
    (received_aside i.block d i.block.free)

received_freed : (i : Inside) (xs : List ℕ) → i.block.received ≡ xs →
    (view_of (record i { block = freed i.block xs Received })).body ≡ record (view_of i).body { received = drop 1 (view_of i).body.received }
received_freed i [] e = ap (λ (ms : List Message). record (view_of i).body { received = ms }) (ap (seen message_in i.block.descriptors) e
    ∙ sym (ap (λ ys. drop 1 (seen message_in i.block.descriptors ys)) e))
received_freed i (s ∷ xs) e =
    ap (λ (ys : List ℕ). record (view_of i).body { received = seen message_in i.block.descriptors ys }) (ap (without s) e ∙ without-front s xs)
    ∙ sym (ap (λ (ys : List ℕ). record (view_of i).body { received = drop 1 (seen message_in i.block.descriptors ys) }) e)

pub received_gone : (i : Inside) (v : View) (q : Pools) → view_of i ≡ v → q ≡ freed i.block i.block.received Received →
    view_of (record i { block = q }) ≡ record v { body = record v.body { received = drop 1 v.body.received } }
received_gone i v q e is = viewed i v q (freed i.block i.block.received Received) (λ b. record b { received = drop 1 b.received }) e is
    (received_freed i i.block.received refl) (received_freed_aside i.block i.block.received)

-- a body whose list loses what was found

reply_out : (i : Inside) (s : ℕ) → find (λ s. is_sought_at Soughts.Reply i.block s) i.block.received ≡ Some s →
    (view_of (record i { block = moved i.block Received s Free })).body ≡ record (view_of i).body {
      received =
          without_first is_reply (view_of i).body.received;
    }
reply_out i s found = ap (λ (ms : List Message). record (view_of i).body { received = ms })
    (without-seen message_in is_reply i.block.descriptors i.block.received s found)

pub reply_gone : (i : Inside) (v : View) (q : Pools) (s : ℕ) → view_of i ≡ v → IsSound i → q ≡ moved i.block (home i.block s) s Free →
    find (λ s. is_sought_at Soughts.Reply i.block s) i.block.received ≡ Some s →
    view_of (record i { block = q }) ≡ record v { body = record v.body { received = without_first is_reply v.body.received } }
reply_gone i v q s e ok is found =
    let some = found-times (λ s. is_sought_at Soughts.Reply i.block s) i.block.received s found in
    let at : home i.block s ≡ Received = home_is i.block Received s ok.block (stands-below i.block Received s ok.block some) some in
    viewed i v q (moved i.block Received s Free) (λ b. record b { received = without_first is_reply b.received }) e (is
    ∙ ap (λ h. moved i.block h s Free) at) (reply_out i s found) refl

flight_out : (serial : Serial) (i : Inside) (r : Option ℕ) → find (λ s. is_sought_at (Soughts.Of serial) i.block s) i.block.in_flight ≡ r →
    (view_of (record i { block = taken_out i.block InFlight r })).body ≡ without_flight serial (view_of i).body
flight_out serial i None found = ap (λ (fs : List Flying). record (view_of i).body { in_flight = fs })
    (sym (none-seen flying_in (λ (f : Flying). has_serial serial f.message) i.block.descriptors i.block.in_flight found))
flight_out serial i (Some s) found = ap (λ (fs : List Flying). record (view_of i).body { in_flight = fs })
    (without-seen flying_in (λ (f : Flying). has_serial serial f.message) i.block.descriptors i.block.in_flight s found)

-- the slot that is told for a serial is the one that is found
pub slot-seen : (serial : Serial) (ds : List Descriptor) (xs : List ℕ) →
    slot_of serial (seen flying_in ds xs) xs ≡ find (λ s. has_serial serial (descriptor_at ds s).message) xs
slot-seen serial ds [] = refl
slot-seen serial ds (x ∷ xs) = ap (λ r. cond (has_serial serial (descriptor_at ds x).message) (Some x) r) (slot-seen serial ds xs)

-- the slot of a message in flight is the one that is found by its serial
pub slot-found : (serial : Serial) (i : Inside) (v : View) (s : ℕ) → view_of i ≡ v → slot_of serial v.body.in_flight v.flights ≡ Some s →
    find (λ s. is_sought_at (Soughts.Of serial) i.block s) i.block.in_flight ≡ Some s
slot-found serial i v s e at =
    sym (slot-seen serial i.block.descriptors i.block.in_flight) ∙ ap (λ w. slot_of serial w.body.in_flight w.flights) e ∙ at

pub flight_gone : (serial : Serial) (i : Inside) (v : View) (q : Pools) (s : ℕ) → view_of i ≡ v → q ≡ moved i.block InFlight s Free →
    slot_of serial v.body.in_flight v.flights ≡ Some s → view_of (record i { block = q }) ≡ record v {
      body = without_flight serial v.body;
      flights = without s v.flights;
    }
flight_gone serial i v q s e is at =
    viewed_both i v q (taken_out i.block InFlight (Some s)) (without_flight serial) (λ w. without s w.flights) e is
    (flight_out serial i (Some s) (slot-found serial i v s e at)) refl

-- no slot is found where no message is
pub none-slot : {X : Type 0} (g : ℕ → X) (r : Option Slot) (o : Option ℕ) → option_map (λ (s : Slot). s.0) r ≡ o → (r ≡ None) ↔ (option_map g o ≡ None)
none-slot g None None e = ((λ n. refl), (λ n. refl))
none-slot g None (Some s) e = absurd (cc)
none-slot g (Some s) None e = absurd (cc)
none-slot g (Some s) (Some k) e = ((λ n. absurd (cc)), (λ n. absurd (cc)))
