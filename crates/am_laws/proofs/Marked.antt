-- Records and flights are flagged just where a reply to them was put.
use Rattle.std.proofs.Common.{◌≡◌, ℕ, zero, suc, ◌+◌, ◌≤◌, Bool, true, false, ◌||◌, List, [], ◌∷◌, ◌++◌, Option, Some, None, refl, sym, ap, ◌∙◌, subst, arith}
use Rattle.std.proofs.Common.{true≢false}
use Rattle.std.specs.List.{list_any, find}
use Rattle.am_lemmas.proofs.Bools.{or_first_fails}
use Rattle.am_names.specs.declared.EndpointId.{EndpointId}
use Rattle.am_names.specs.declared.Serial.{Serial}
use Rattle.am_names.specs.declared.Message.{Message}
use Rattle.am_office_entries.specs.declared.Event.{Event}
use Rattle.am_office_entries.specs.declared.Event.TheVariants as Events
use Rattle.am_office_entries.specs.declared.Outcome.{Outcome}
use Rattle.am_office_entries.specs.declared.Entry.{Entry}
use Rattle.am_names.specs.Names.{same_end, same_serial, has_serial}
use Rattle.am_model.specs.declared.Awaited.{Awaited}
use Rattle.am_model.specs.declared.Queued.{Queued}
use Rattle.am_model.specs.declared.Flying.{Flying}
use Rattle.am_model.specs.Endpoint.{State, Body, front}
use Rattle.am_model.specs.Calls.{new_serial}
use Rattle.am_model.specs.Changes.{changed, with_arrived, with_marked}
use Rattle.am_office_entries.specs.Entries.{accepted_by, accepted_in, accepted_of, put_in, put_of, ends_touched, touches, passes, is_serial}
use Rattle.am_model.specs.Layout.{Layout, AllAre, EndSetting, has_id, opening_by}
use Rattle.am_model.specs.History.{state_of, MayFollow, IsHistory}
use Rattle.am_model.specs.PostOffice.{times, is_about}
use Rattle.am_model.proofs.Each.{over_each, each_push, state_of_push}
use Rattle.am_model.proofs.Names.{same_serial-is, same_serial-refl, same_end-refl, same_end-is}
use Rattle.am_model.proofs.Received.{bit, one_touched}
use Rattle.am_model.proofs.Books.{role_push, fits_direct}
use Rattle.am_model.proofs.Counts.{Accepts, accepts_next, HasSerial}
use Rattle.am_model.proofs.Queues.{FitsDirect}
use Rattle.am_laws.proofs.Waiting.{bound_at}
use Rattle.am_laws.proofs.Everywhere.{each_once}
use Rattle.am_laws.proofs.OrderedPackets.{kept_packets, waiting}
use Rattle.am_laws.proofs.Situations.{Situation, Waits, Flies, Ended}
use Rattle.am_laws.proofs.Alls.{all_map}
use Rattle.am_laws.proofs.Delivered.{delivers, put_facts, touches_dest}
use Rattle.am_laws.proofs.Sent.{FitsSend, fits_send}
use Rattle.am_laws.proofs.Numbers.{own_are}
use Rattle.am_laws.proofs.Sent.{front_are}
use Rattle.am_model.proofs.Queues.{to_send, front_leaves}
use Rattle.am_laws.proofs.CreditPuts.{put_reply, accepted_reply, none_about, about_itself}
use Rattle.am_laws.proofs.Tables.{awaited_kept, flights_kept, put_awaited}

-- how many replies to a request were put
abbrev pub replied : Serial → List Entry → ℕ
replied s past = times put_of (is_about s) past

pub replied_push : (s : Serial) (past : List Entry) (x : Entry) → replied s (past ++ x ∷ []) ≡ replied s past + bit (passes (is_about s) (put_of x))
replied_push s past x = role_push put_in (is_about s) past x

pub all_both : {X : Type 0} (P Q R : X → Type 0) (xs : List X) → ((a : X) → P a → Q a → R a) → AllAre P xs → AllAre Q xs → AllAre R xs
all_both P Q R [] f h k = tt
all_both P Q R (a ∷ xs) f h k = (f a h.0 k.0, all_both P Q R xs f h.1 k.1)

pub every : {X : Type 0} (P : X → Type 0) (xs : List X) → ((a : X) → P a) → AllAre P xs
every P [] f = tt
every P (a ∷ xs) f = (f a, every P xs f)

-- the reply that an entry puts comes to the source of its request
pub reply_comes : (layout : Layout) (past : List Entry) (x : Entry) → IsHistory layout past → MayFollow layout past x → (m : Message) (t : Serial) →
    put_of x ≡ Some m → m.about ≡ Some t → m.dest ≡ t.source
reply_comes layout past x h may m t is about = (accepted_reply layout past h m t (put_facts layout past x (delivers layout past h) may m is).accepted
    about).reply.dest

-- where an entry puts no reply to what is not flagged, what is not flagged has none
pub unflagged : {X : Type 0} (serial : X → Serial) (flag : X → Bool) (layout : Layout) (past : List Entry) (x : Entry) → IsHistory layout past →
    MayFollow layout past x → (e : EndpointId) (xs : List X) → AllAre (λ a. (serial a).source ≡ e) xs →
    AllAre (λ a. flag a ≡ false → replied (serial a) past ≡ 0) xs → ((m : Message) (t : Serial) → put_of x ≡ Some m → m.about ≡ Some t →
    same_end e m.dest ≡ true → AllAre (λ a. same_serial t (serial a) ≡ true → flag a ≡ true) xs) →
    AllAre (λ a. flag a ≡ false → replied (serial a) (past ++ x ∷ []) ≡ 0) xs
unflagged serial flag layout past x h may e xs own none marks = by_put (put_of x) refl
  where
    none_more : (s : Serial) → bit (passes (is_about s) (put_of x)) ≡ 0 → replied s past ≡ 0 → replied s (past ++ x ∷ []) ≡ 0
    none_more s off before = omega (arith, replied_push s past x, off, before)

    by_about : (m : Message) → put_of x ≡ Some m → (w : Option Serial) → m.about ≡ w → AllAre (λ a. flag a ≡ false → replied (serial a) (past ++ x ∷ []) ≡ 0) xs
    by_about m is None about =
        all_map (λ a. flag a ≡ false → replied (serial a) past ≡ 0) (λ a. flag a ≡ false → replied (serial a) (past ++ x ∷ []) ≡ 0) xs
        (λ a k f. none_more (serial a) (ap (λ (o : Option Message). bit (passes (is_about (serial a)) o)) is
        ∙ ap (λ (o : Option Serial). bit (is_serial (serial a) o)) about) (k f)) none
    by_about m is (Some t) about = by_end (same_end e m.dest) refl
      where
        apart : (s : Serial) → same_serial s t ≡ false → replied s past ≡ 0 → replied s (past ++ x ∷ []) ≡ 0
        apart s off before = none_more s (ap (λ (o : Option Message). bit (passes (is_about s) o)) is ∙ ap (λ (o : Option Serial). bit (is_serial s o)) about
            ∙ ap bit off) before

        by_end : (b : Bool) → same_end e m.dest ≡ b → AllAre (λ a. flag a ≡ false → replied (serial a) (past ++ x ∷ []) ≡ 0) xs
        by_end true at =
            all_both (λ a. flag a ≡ false → replied (serial a) past ≡ 0) (λ a. same_serial t (serial a) ≡ true → flag a ≡ true) (λ a. flag a ≡ false →
            replied (serial a) (past ++ x ∷ []) ≡ 0) xs
            (λ a k m' f. by_same a k m' f (same_serial (serial a) t) refl) none (marks m t is about at)
          where
            by_same : (a : _) → (flag a ≡ false → replied (serial a) past ≡ 0) → (same_serial t (serial a) ≡ true → flag a ≡ true) → flag a ≡ false →
                (b : Bool) → same_serial (serial a) t ≡ b → replied (serial a) (past ++ x ∷ []) ≡ 0
            by_same a k m' f true same =
                let is' : serial a ≡ t = same_serial-is (serial a) t same in
                absurd (true≢false (sym (m' (ap (same_serial t) is' ∙ same_serial-refl t)) ∙ f))
            by_same a k m' f false same = apart (serial a) same (k f)
        by_end false at =
            all_both (λ a. flag a ≡ false → replied (serial a) past ≡ 0) (λ a. (serial a).source ≡ e) (λ a. flag a ≡ false →
            replied (serial a) (past ++ x ∷ []) ≡ 0) xs
            (λ a k mine f. by_same a k mine f (same_serial (serial a) t) refl) none own
          where
            by_same : (a : _) → (flag a ≡ false → replied (serial a) past ≡ 0) → (serial a).source ≡ e → flag a ≡ false → (b : Bool) →
                same_serial (serial a) t ≡ b → replied (serial a) (past ++ x ∷ []) ≡ 0
            by_same a k mine f true same =
                let is' : serial a ≡ t = same_serial-is (serial a) t same in
                let there : m.dest ≡ e = reply_comes layout past x h may m t is about ∙ ap (λ (w : Serial). w.source) (sym is') ∙ mine in
                absurd (true≢false (sym (same_end-refl e) ∙ subst (λ (w : EndpointId). same_end e w ≡ false) there at))
            by_same a k mine f false same = apart (serial a) same (k f)

    by_put : (p : Option Message) → put_of x ≡ p → AllAre (λ a. flag a ≡ false → replied (serial a) (past ++ x ∷ []) ≡ 0) xs
    by_put None is =
        all_map (λ a. flag a ≡ false → replied (serial a) past ≡ 0) (λ a. flag a ≡ false → replied (serial a) (past ++ x ∷ []) ≡ 0) xs
        (λ a k f. none_more (serial a) (ap (λ (o : Option Message). bit (passes (is_about (serial a)) o)) is) (k f)) none
    by_put (Some m) is = by_about m is m.about refl

-- what is flagged by a put had its reply put
flagged : (past : List Entry) (x : Entry) (m : Message) (t s : Serial) (b : Bool) → put_of x ≡ Some m → m.about ≡ Some t →
    (b ≡ true → 1 ≤ replied s (past ++ x ∷ [])) → (b || same_serial t s) ≡ true → 1 ≤ replied s (past ++ x ∷ [])
flagged past x m t s true is about k h = k refl
flagged past x m t s false is about k h =
    let same : t ≡ s = same_serial-is t s h in
    let one' : bit (passes (is_about s) (put_of x)) ≡ 1 = ap (λ (o : Option Message). bit (passes (is_about s) o)) is
    ∙ ap bit (about_itself s m (about ∙ ap (λ (w : Serial). Some w) same)) in
    omega (arith, replied_push s past x, one')

arrived_there : (t : Serial) (xs : List Awaited) → AllAre (λ (a : Awaited). same_serial t a.serial ≡ true → a.arrived ≡ true) (with_arrived (Some t) xs)
arrived_there t [] = tt
arrived_there t (a ∷ xs) = (λ h. rw h (or_true a.arrived), arrived_there t xs)
  where
    or_true : (b : Bool) → (b || true) ≡ true
    or_true true = refl
    or_true false = refl

marked_there : (t : Serial) (xs : List Flying) → AllAre (λ (f : Flying). same_serial t f.message.serial ≡ true → f.answered ≡ true) (with_marked (Some t) xs)
marked_there t [] = tt
marked_there t (f ∷ xs) = (λ h. rw h (or_true f.answered), marked_there t xs)
  where
    or_true : (b : Bool) → (b || true) ≡ true
    or_true true = refl
    or_true false = refl

-- of each record and each flight: it is the endpoint's own, and flagged just where a reply to it was put
pub record AreFlagged (layout : Layout) (past : List Entry) (e : EndpointId) (b : Body) : Type 0 where
  pub own : AllAre (λ (a : Awaited). a.serial.source ≡ e) b.awaited
  pub waiting : AllAre (λ (a : Awaited). a.arrived ≡ false → replied a.serial past ≡ 0) b.awaited
  pub came : AllAre (λ (a : Awaited). a.arrived ≡ true → 1 ≤ replied a.serial past) b.awaited
  pub unmarked : AllAre (λ (f : Flying). f.answered ≡ false → replied f.message.serial past ≡ 0) b.in_flight
  pub marked : AllAre (λ (f : Flying). f.answered ≡ true → 1 ≤ replied f.message.serial past) b.in_flight

pub record Flags (layout : Layout) (past : List Entry) : Type 0 where
  pub history : IsHistory layout past
  pub flags : (e : EndpointId) → AreFlagged layout past e (state_of layout past e).body

-- the flights of an endpoint are its own
pub flights_own : (layout : Layout) (past : List Entry) → IsHistory layout past → (e : EndpointId) →
    AllAre (λ (f : Flying). f.message.serial.source ≡ e) (state_of layout past e).body.in_flight
flights_own layout past h e = (own_are layout past h e).flights

-- what is accepted here was not before
pub was_new : (layout : Layout) (past : List Entry) (x : Entry) → IsHistory layout past → MayFollow layout past x → (m : Message) → accepted_of x ≡ Some m →
    times accepted_of (has_serial m.serial) past ≡ 0
was_new layout past x h may m is =
    let now : times accepted_of (has_serial m.serial) (past ++ x ∷ []) ≤ 1 =
    (each_once layout (past ++ x ∷ []) (each_push (MayFollow layout) [] past x h may)).accepted m.serial in
    let one' : bit (passes (has_serial m.serial) (accepted_of x)) ≡ 1 = ap (λ (o : Option Message). bit (passes (has_serial m.serial) o)) is
    ∙ ap bit (same_serial-refl m.serial) in
    omega (arith, now, one', role_push accepted_in (has_serial m.serial) past x)

-- what is accepted here is of its endpoint
pub accepted_here : (layout : Layout) (past : List Entry) (e : EndpointId) (x : Entry) → MayFollow layout past x → touches e x ≡ true → (m : Message) →
    accepted_of x ≡ Some m → m.serial.source ≡ e
accepted_here layout past e x may at m is = by_event x.event x.outcome at (accepts_next layout past x.event x.outcome may.outcome) is
  where
    by_message : (end : EndpointId) (n : Option Message) → e ≡ end → HasSerial (new_serial end (state_of layout past end)) n → n ≡ Some m → m.serial.source ≡ e
    by_message end None there next e' = absurd (cc)
    by_message end (Some n) there next e' = let same : n ≡ m = cc in ap (λ (w : Message). w.serial.source) (sym same) ∙ ap (λ (w : Serial). w.source) next
        ∙ sym there

    by_event : (event : Event) (o : Outcome) → list_any (same_end e) (ends_touched event o) ≡ true → Accepts layout past event o →
        accepted_in event o ≡ Some m → m.serial.source ≡ e
    by_event (Events.Call actor end call) o t next e' = by_message end (accepted_by call o) (same_end-is e end (one_touched (same_end e end) t)) next e'
    by_event event o t next e' = absurd (cc)

-- what takes off was not put
pub not_yet_put : (layout : Layout) (past : List Entry) (e : EndpointId) (x : Entry) → IsHistory layout past → MayFollow layout past x → touches e x ≡ true →
    (m : Message) → bound_at x.event x.outcome ≡ Some m → times put_of (has_serial m.serial) past ≡ 0
not_yet_put layout past e x h may at m is = by_network layout.direct refl
  where
    on_direct : (event : Event) (o : Outcome) → FitsDirect e (state_of layout past e) event o → bound_at event o ≡ Some m → ⊥
    on_direct (Events.Bind node end) o fits b = fits
    on_direct event o fits b = cc

    of_front : (event : Event) (o : Outcome) → FitsSend e (state_of layout past e) event o → bound_at event o ≡ Some m →
        (q : Queued) × (front (state_of layout past e) ≡ Some q) × (q.message ≡ m)
    of_front (Events.Bind node end) o fits b = let both : Some fits.queued.message ≡ Some m = sym fits.is_sent
        ∙ b in let same : fits.queued.message ≡ m = cc in (fits.queued, fits.is_front, same)
    of_front event o fits b = absurd (cc)

    by_situation : (w n : ℕ) → 1 ≤ w → Situation m.serial past w n → times put_of (has_serial m.serial) past ≡ 0
    by_situation w n low (Waits none fresh unbound few) = none
    by_situation w n low (Flies c f bound' of only on put' none one') = absurd (omega (arith, low, none))
    by_situation w n low (Ended c k unbound on put' none one') = absurd (omega (arith, low, none))

    by_network : (direct : Bool) → layout.direct ≡ direct → times put_of (has_serial m.serial) past ≡ 0
    by_network true d = absurd (on_direct x.event x.outcome (fits_direct layout d past e x may) is)
    by_network false d =
        let f = of_front x.event x.outcome (fits_send layout past e x may at) is in
        let own : m.serial.source ≡ e = ap (λ (w : Message). w.serial.source) (sym f.2)
        ∙ front_are (λ (w : Message). w.serial.source ≡ e) (state_of layout past e) f.0 f.1 (own_are layout past h e) in
        let mine : bit (has_serial m.serial f.0.message) ≡ 1 = ap (λ (w : Message). bit (same_serial m.serial w.serial)) f.2
        ∙ ap bit (same_serial-refl m.serial) in
        let here : 1 ≤ to_send (has_serial m.serial) (state_of layout past e).body = omega (
          arith,
          front_leaves (has_serial m.serial) (state_of layout past e) f.0 f.1,
          mine,
        ) in
        by_situation (waiting layout past m.serial) _ (subst (λ (w : EndpointId). 1 ≤ to_send (has_serial m.serial) (state_of layout past w).body) (sym own)
        here) ((kept_packets layout d past h).stands m.serial)

-- nothing was put about what was not put
pub not_replied : (layout : Layout) (past : List Entry) → IsHistory layout past → (s : Serial) → times put_of (has_serial s) past ≡ 0 → replied s past ≡ 0
not_replied layout past h s none = by_count (replied s past) refl
  where
    by_count : (n : ℕ) → replied s past ≡ n → n ≡ 0
    by_count zero is = refl
    by_count (suc n) is = absurd (omega (arith, (put_reply layout past h s (omega (arith, is))).3.put, none))

touched_flags : (layout : Layout) (past : List Entry) (x : Entry) → IsHistory layout past → MayFollow layout past x → (e : EndpointId) →
    AreFlagged layout past e (state_of layout past e).body → touches e x ≡ true →
    AreFlagged layout (past ++ x ∷ []) e (changed e (state_of layout past e) x.event x.outcome).body
touched_flags layout past x h may e k at =
    record {
      own = own;
      waiting = unflagged (λ (a : Awaited). a.serial) (λ (a : Awaited). a.arrived) layout past x h may e
          (changed e (state_of layout past e) x.event x.outcome).body.awaited own
          (awaited_kept (λ (a : Awaited). a.arrived ≡ false →
          replied a.serial past ≡ 0) e (state_of layout past e) x.event x.outcome (λ m t is about a r f. r
          (or_first_fails a.arrived (same_serial t a.serial) f)) k.waiting (λ index m is f. none_about layout past h m.serial
          (was_new layout past x h may m is)))
          (λ m t is about here. subst (AllAre (λ (a : Awaited). same_serial t a.serial ≡ true →
          a.arrived ≡ true)) (sym ((put_awaited e (state_of layout past e) x.event x.outcome m is here).0
          ∙ ap (λ (w : Option Serial). with_arrived w (state_of layout past e).body.awaited) about))
          (arrived_there t (state_of layout past e).body.awaited));
      came = awaited_kept (λ (a : Awaited). a.arrived ≡ true →
          1 ≤ replied a.serial (past ++ x ∷ [])) e (state_of layout past e) x.event x.outcome
          (λ m t is about a r f. flagged past x m t a.serial a.arrived is about r f)
          (all_map (λ (a : Awaited). a.arrived ≡ true → 1 ≤ replied a.serial past) (λ (a : Awaited). a.arrived ≡ true →
          1 ≤ replied a.serial (past ++ x ∷ [])) (state_of layout past e).body.awaited (λ a r f. omega (arith, r f, replied_push a.serial past x)) k.came)
          (λ index m is f. absurd (true≢false (sym f)));
      unmarked = unflagged (λ (f : Flying). f.message.serial) (λ (f : Flying). f.answered) layout past x h may e
          (changed e (state_of layout past e) x.event x.outcome).body.in_flight flying
          (flights_kept (λ (f : Flying). f.answered ≡ false →
          replied f.message.serial past ≡ 0) e (state_of layout past e) x.event x.outcome
          (λ m t is about a r f. r (or_first_fails a.answered (same_serial t a.message.serial) f)) k.unmarked
          (λ m is f. not_replied layout past h m.serial (not_yet_put layout past e x h may at m is)))
          (λ m t is about here. subst (AllAre (λ (f : Flying). same_serial t f.message.serial ≡ true →
          f.answered ≡ true)) (sym ((put_awaited e (state_of layout past e) x.event x.outcome m is here).1
          ∙ ap (λ (w : Option Serial). with_marked w (state_of layout past e).body.in_flight) about))
          (marked_there t (state_of layout past e).body.in_flight));
      marked = flights_kept (λ (f : Flying). f.answered ≡ true →
          1 ≤ replied f.message.serial (past ++ x ∷ [])) e (state_of layout past e) x.event x.outcome
          (λ m t is about a r f. flagged past x m t a.message.serial a.answered is about r f)
          (all_map (λ (f : Flying). f.answered ≡ true → 1 ≤ replied f.message.serial past) (λ (f : Flying). f.answered ≡ true →
          1 ≤ replied f.message.serial (past ++ x ∷ [])) (state_of layout past e).body.in_flight
          (λ a r f. omega (arith, r f, replied_push a.message.serial past x)) k.marked)
          (λ m is f. absurd (true≢false (sym f)));
    }
  where
    own : AllAre (λ (a : Awaited). a.serial.source ≡ e) (changed e (state_of layout past e) x.event x.outcome).body.awaited
    own = awaited_kept (λ (a : Awaited). a.serial.source ≡ e) e (state_of layout past e) x.event x.outcome (λ m t is about a r. r) k.own
        (λ index m is. accepted_here layout past e x may at m is)

    flying : AllAre (λ (f : Flying). f.message.serial.source ≡ e) (changed e (state_of layout past e) x.event x.outcome).body.in_flight
    flying = subst (λ (s : State). AllAre (λ (f : Flying). f.message.serial.source ≡ e) s.body.in_flight) (state_of_push layout past x e true at)
        (flights_own layout (past ++ x ∷ []) (each_push (MayFollow layout) [] past x h may) e)

untouched_flags : (layout : Layout) (past : List Entry) (x : Entry) → IsHistory layout past → MayFollow layout past x → (e : EndpointId) →
    AreFlagged layout past e (state_of layout past e).body → touches e x ≡ false → AreFlagged layout (past ++ x ∷ []) e (state_of layout past e).body
untouched_flags layout past x h may e k off =
    record {
      own = k.own;
      waiting = unflagged (λ (a : Awaited). a.serial) (λ (a : Awaited). a.arrived) layout past x h may e (state_of layout past e).body.awaited k.own k.waiting
          (λ m t is about here. absurd (away m is here));
      came = all_map (λ (a : Awaited). a.arrived ≡ true → 1 ≤ replied a.serial past) (λ (a : Awaited). a.arrived ≡ true →
          1 ≤ replied a.serial (past ++ x ∷ [])) (state_of layout past e).body.awaited (λ a r f. omega (arith, r f, replied_push a.serial past x)) k.came;
      unmarked = unflagged (λ (f : Flying). f.message.serial) (λ (f : Flying). f.answered) layout past x h may e (state_of layout past e).body.in_flight
          (flights_own layout past h e) k.unmarked (λ m t is about here. absurd (away m is here));
      marked = all_map (λ (f : Flying). f.answered ≡ true → 1 ≤ replied f.message.serial past) (λ (f : Flying). f.answered ≡ true →
          1 ≤ replied f.message.serial (past ++ x ∷ [])) (state_of layout past e).body.in_flight
          (λ a r f. omega (arith, r f, replied_push a.message.serial past x)) k.marked;
    }
  where
    away : (m : Message) → put_of x ≡ Some m → same_end e m.dest ≡ true → ⊥
    away m is here =
        let there : e ≡ m.dest = same_end-is e m.dest here in
        true≢false (sym (touches_dest x.event x.outcome m is) ∙ subst (λ (w : EndpointId). touches w x ≡ false) there off)

pub flags : (layout : Layout) (past : List Entry) → IsHistory layout past → (e : EndpointId) → AreFlagged layout past e (state_of layout past e).body
flags layout past h =
    (over_each (MayFollow layout) (λ xs. Flags layout xs)
    (λ xs x k may. record { history = each_push (MayFollow layout) [] xs x k.history may; flags = λ e. more xs x k may e (touches e x) refl })
    [] past (record { history = tt; flags = λ e. none e (find (has_id e) layout.ends) }) h).flags
  where
    more : (xs : List Entry) (x : Entry) → Flags layout xs → MayFollow layout xs x → (e : EndpointId) (t : Bool) → touches e x ≡ t →
        AreFlagged layout (xs ++ x ∷ []) e (state_of layout (xs ++ x ∷ []) e).body
    more xs x k may e true at = rw (state_of_push layout xs x e true at) (touched_flags layout xs x k.history may e (k.flags e) at)
    more xs x k may e false at = rw (state_of_push layout xs x e false at) (untouched_flags layout xs x k.history may e (k.flags e) at)

    none : (e : EndpointId) (setting : Option EndSetting) → AreFlagged layout [] e (opening_by layout setting).body
    none e None = record { own = tt; waiting = tt; came = tt; unmarked = tt; marked = tt }
    none e (Some setting) = record { own = tt; waiting = tt; came = tt; unmarked = tt; marked = tt }
