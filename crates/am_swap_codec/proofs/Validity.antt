-- The tests tell whether a body that was read is valid.
use Rattle.std.proofs.Common.{◌≡◌, ℕ, ◌+◌, ◌≤◌, Bool, true, false, ◌&&◌, ◌||◌, cond, List, [], ◌∷◌, length, Option, Some, None, refl, sym, ap, ◌∙◌, arith}
use Rattle.std.proofs.Common.{leb-true, eqb-true, eq-eqb}
use Rattle.std.specs.Prelude.{nat_le, is_none, is_some, not, ◌==◌, count_by}
use Rattle.std.specs.List.{list_all, list_any}
use Rattle.std.proofs.lemmas.Bool.{and_parts, and_from, ltb-true, or_right, or_left, le-leb}
use Rattle.am_lemmas.proofs.Bools.{implied}
use Rattle.am_lemmas.proofs.Options.{is_none-None}
use Rattle.am_lemmas.proofs.Lists.{count_by-none, list_any-counts}
use Rattle.am_names.specs.declared.EndpointId.{EndpointId}
use Rattle.am_names.specs.declared.Serial.{Serial}
use Rattle.am_names.specs.declared.MsgKind.{MsgKind}
use Rattle.am_names.specs.declared.MsgKind.TheVariants as Kind
use Rattle.am_names.specs.declared.Message.{Message}
use Rattle.am_names.specs.Names.{is_request, is_request_kind, is_reply, same_end, same_serial, is_formed_as, is_well_formed}
use Rattle.am_model.specs.declared.Awaited.{Awaited}
use Rattle.am_model.specs.Calls.{excess, shares}
use Rattle.am_model.specs.Endpoint.{Body, entry_at, is_arrived, requests_held, replies_held}
use Rattle.am_office_entries.specs.Entries.{is_serial}
use Rattle.am_model.specs.Valid.{answers, has_arrived, is_handler_in_range, is_mapping_in_range, is_own_answer, is_own_flight, is_own_notice, is_own_request}
use Rattle.am_model.specs.Valid.{is_received_here, is_record, rise, FitsPool}
use Rattle.am_model.proofs.Names.{same_serial-is, same_serial-refl}
use Rattle.am_model.proofs.Records.{arrives_or_waits, one_record}
use Rattle.am_swap_image.specs.Range.{fits_record}
use Rattle.am_swap_image.specs.Valid.{IsValid}
use Rattle.am_swap_image.proofs.Bodies.{IsWritten}
use Rattle.am_swap_image.proofs.Parts.{fits_own}
use Rattle.am_swap_codec.specs.Tests.{tables_pass, is_within_pool, records_pass, queues_pass, is_expected, answers_expected, is_answered_once, arrivals_pass}
use Rattle.am_swap_codec.specs.Tests.{passes}

-- ---- lists and tests

-- an element that passes, and so passes each test that all pass
pub record Passes {X : Type 0} (p : X → Bool) (xs : List X) : Type 0 where
  pub value : X
  pub holds : p value ≡ true
  pub each : (q : X → Bool) → list_all q xs ≡ true → q value ≡ true

some_passes : {X : Type 0} (p : X → Bool) (xs : List X) → list_any p xs ≡ true → Passes p xs
some_passes p [] h = absurd (none_of h)
  where
    none_of : false ≡ true → ⊥
    none_of e = cc
some_passes p (x ∷ xs) h = by_test p x xs (p x) refl h (λ more. some_passes p xs more)
  where
    by_test : {X : Type 0} (p : X → Bool) (x : X) (xs : List X) (b : Bool) → p x ≡ b → (b || list_any p xs) ≡ true → (list_any p xs ≡ true → Passes p xs) →
        Passes p (x ∷ xs)
    by_test p x xs true is h more = record { value = x; holds = is; each = λ q all. (and_parts (q x) (list_all q xs) all).0 }
    by_test p x xs false is h more =
        let rest : Passes p xs = more h in
        record { value = rest.value; holds = rest.holds; each = λ q all. rest.each q (and_parts (q x) (list_all q xs) all).1 }

counts_any : {X : Type 0} (p : X → Bool) (xs : List X) → 1 ≤ count_by p xs → list_any p xs ≡ true
counts_any p xs h = by_test (list_any p xs) refl
  where
    by_test : (b : Bool) → list_any p xs ≡ b → list_any p xs ≡ true
    by_test true is = is
    by_test false is = absurd (omega (arith, h, count_by-none p xs is))

-- all pass where each does that is among them and passes another test that all pass
all_pass : {X : Type 0} (q p : X → Bool) (xs : List X) → list_all q xs ≡ true → ((x : X) → q x ≡ true → ((t : X → Bool) → t x ≡ true → list_any t xs ≡ true) →
    p x ≡ true) → list_all p xs ≡ true
all_pass q p [] h each = refl
all_pass {X} q p (x ∷ xs) h each =
    let parts = and_parts (q x) (list_all q xs) h in
    and_from (p x) (list_all p xs)
    (each x parts.0 (λ t is. or_left (t x) (list_any t xs) is))
    (all_pass q p xs parts.1 (λ y qy among. each y qy (λ t is. or_right (t x) (list_any t xs) (among t is))))

-- ---- answers and records

-- at most one record is of a request
one_arrived : (last : ℕ) (r : Serial) (xs : List Awaited) → rise 0 last xs ≡ true → count_by (has_arrived r) xs ≤ 1
one_arrived last r xs h = omega (arith, arrives_or_waits r xs, one_record 0 last r xs h)

-- an answer to a request that is expected has the record of it
expected_is : (r : Serial) (awaited : List Awaited) (about : Option Serial) → is_serial r about ≡ true → is_expected awaited about ≡ true →
    list_any (has_arrived r) awaited ≡ true
expected_is r awaited None is h = absurd (no_way h)
  where
    no_way : false ≡ true → ⊥
    no_way e = cc
expected_is r awaited (Some s) is h = ap (λ (t : Serial). list_any (has_arrived t) awaited) (same_serial-is r s is) ∙ h

-- where the answers are those that the records say, each request has as many answers as arrived records
each_matches : (last : ℕ) (received : List Message) (awaited : List Awaited) → rise 0 last awaited ≡ true →
    list_all (answers_expected awaited) received ≡ true → list_all (is_answered_once received) awaited ≡ true → (r : Serial) →
    count_by (answers r) received ≡ count_by (has_arrived r) awaited
each_matches last received awaited rises expected once r = by_test (list_any (has_arrived r) awaited) refl
  where
    answered : Passes (has_arrived r) awaited → count_by (answers r) received ≡ 1
    answered found =
        let a : Awaited = found.value in
        let parts = and_parts (same_serial r a.serial) a.arrived found.holds in
        let one : (count_by (answers a.serial) received == 1) ≡ true = implied a.arrived (count_by (answers a.serial) received ==
        1) parts.1 (found.each (is_answered_once received) once) in
        ap (λ (s : Serial). count_by (answers s) received) (same_serial-is r a.serial parts.0) ∙ eqb-true (count_by (answers a.serial) received) 1 one

    unasked : list_any (has_arrived r) awaited ≡ false → Passes (answers r) received → true ≡ false
    unasked none found =
        let m : Message = found.value in
        let parts = and_parts (is_reply m) (is_serial r m.about) found.holds in
        let known : is_expected awaited m.about ≡ true = implied (is_reply m) (is_expected awaited m.about) parts.0
        (found.each (answers_expected awaited) expected) in
        sym (expected_is r awaited m.about parts.1 known) ∙ none

    unanswered : list_any (has_arrived r) awaited ≡ false → (b : Bool) → list_any (answers r) received ≡ b → count_by (answers r) received ≡ 0
    unanswered none true is = let no_way : true ≡ false = unasked none (some_passes (answers r) received is) in cc
    unanswered none false is = count_by-none (answers r) received is

    by_test : (b : Bool) → list_any (has_arrived r) awaited ≡ b → count_by (answers r) received ≡ count_by (has_arrived r) awaited
    by_test true is = omega (
      arith,
      answered (some_passes (has_arrived r) awaited is),
      list_any-counts (has_arrived r) awaited is,
      one_arrived last r awaited rises,
    )
    by_test false is = omega (arith, unanswered is (list_any (answers r) received) refl, count_by-none (has_arrived r) awaited is)

-- a well-formed answer names its request
names_request : (m : Message) → is_well_formed m ≡ true → is_reply m ≡ true → is_some m.about ≡ true
names_request m formed answer = by_kind m.kind formed answer
  where
    by_kind : (kind : MsgKind) → is_formed_as kind m ≡ true → cond (is_request_kind kind) false true ≡ true → is_some m.about ≡ true
    by_kind Kind.Request h a = absurd (no_way a)
      where
        no_way : false ≡ true → ⊥
        no_way e = cc
    by_kind Kind.Reply h a = (and_parts (is_some m.about) (m.reply_tag.0 == 0) h).0
    by_kind Kind.Empty h a = (and_parts (is_some m.about) (m.reply_tag.0 == 0) (and_parts (is_some m.about && (m.reply_tag.0 == 0)) (m.handler ==
        0) (and_parts (is_some m.about && (m.reply_tag.0 == 0) && (m.handler == 0)) _ h).0).0).0

Matches : List Message → List Awaited → Type 0
Matches received awaited = (r : Serial) → count_by (answers r) received ≡ count_by (has_arrived r) awaited

-- and the other way round
all_expected : (e : EndpointId) (received : List Message) (awaited : List Awaited) → list_all (is_received_here e) received ≡ true →
    ((r : Serial) → count_by (answers r) received ≡ count_by (has_arrived r) awaited) → list_all (answers_expected awaited) received ≡ true
all_expected e received awaited here matches =
    all_pass (is_received_here e) (answers_expected awaited) received here
    (λ m is among. by_answer m (and_parts (same_end e m.dest) (is_well_formed m) is).1 among (is_reply m) refl)
  where
    of_request : (m : Message) → ((t : Message → Bool) → t m ≡ true → list_any t received ≡ true) → is_reply m ≡ true → (o : Option Serial) → m.about ≡ o →
        is_some o ≡ true → is_expected awaited m.about ≡ true
    of_request m among is None at h = absurd (no_way h)
      where
        no_way : false ≡ true → ⊥
        no_way e = cc
    of_request m among is (Some r) at h =
        let about : is_serial r m.about ≡ true = ap (is_serial r) at ∙ same_serial-refl r in
        let counted : 1 ≤ count_by (answers r) received = list_any-counts (answers r) received
        (among (answers r) (and_from (is_reply m) (is_serial r m.about) is about)) in
        let some : list_any (has_arrived r) awaited ≡ true = counts_any (has_arrived r) awaited (omega (arith, counted, matches r)) in
        ap (is_expected awaited) at ∙ some

    by_answer : (m : Message) → is_well_formed m ≡ true → ((t : Message → Bool) → t m ≡ true → list_any t received ≡ true) → (b : Bool) → is_reply m ≡ b →
        answers_expected awaited m ≡ true
    by_answer m formed among true is = or_right (not (is_reply m)) (is_expected awaited m.about)
        (of_request m among is m.about refl (names_request m formed is))
    by_answer m formed among false is = or_left (not (is_reply m)) (is_expected awaited m.about) (ap not is)

all_once : (last : ℕ) (received : List Message) (awaited : List Awaited) → rise 0 last awaited ≡ true →
    ((r : Serial) → count_by (answers r) received ≡ count_by (has_arrived r) awaited) → list_all (is_answered_once received) awaited ≡ true
all_once last received awaited rises matches =
    all_pass (λ (a : Awaited). true) (is_answered_once received) awaited (anything awaited) (λ a is among. by_arrived a among a.arrived refl)
  where
    anything : (xs : List Awaited) → list_all (λ (a : Awaited). true) xs ≡ true
    anything [] = refl
    anything (x ∷ xs) = anything xs

    by_arrived : (a : Awaited) → ((t : Awaited → Bool) → t a ≡ true → list_any t awaited ≡ true) → (b : Bool) → a.arrived ≡ b →
        is_answered_once received a ≡ true
    by_arrived a among true is =
        let here : has_arrived a.serial a ≡ true = and_from (same_serial a.serial a.serial) a.arrived (same_serial-refl a.serial) is in
        let least : 1 ≤ count_by (has_arrived a.serial) awaited = list_any-counts (has_arrived a.serial) awaited (among (has_arrived a.serial) here) in
        let one : count_by (answers a.serial) received ≡ 1 = omega (arith, least, one_arrived last a.serial awaited rises, matches a.serial) in
        or_right (not a.arrived) (count_by (answers a.serial) received == 1) (eq-eqb _ _ one)
    by_arrived a among false is = or_left (not a.arrived) (count_by (answers a.serial) received == 1) (ap not is)

-- ---- bodies

fits_pool : (pool : Option ℕ) (b : Body) → is_within_pool pool b ≡ true → FitsPool pool b
fits_pool None b h = eqb-true (excess b) 0 h
fits_pool (Some p) b h =
    let parts = and_parts (nat_le (excess b) p) (nat_le (shares b + p) 32) h in
    (leb-true (excess b) p parts.0, leb-true (shares b + p) 32 parts.1)

pool_passes : (pool : Option ℕ) (b : Body) → FitsPool pool b → is_within_pool pool b ≡ true
pool_passes None b h = eq-eqb (excess b) 0 h
pool_passes (Some p) b h = and_from (nat_le (excess b) p) (nat_le (shares b + p) 32) (le-leb (excess b) p h.0) (le-leb (shares b + p) 32 h.1)

own_part : (e : EndpointId) (xs : List Awaited) → list_all (fits_own e) xs ≡ true → list_all fits_record xs ≡ true
own_part e [] h = refl
own_part e (a ∷ xs) h =
    let parts = and_parts (fits_own e a) (list_all (fits_own e) xs) h in
    and_from (fits_record a) (list_all fits_record xs) (and_parts (same_end e a.serial.source) (fits_record a) parts.0).1 (own_part e xs parts.1)

-- a body that was read is valid where it passes the tests
pub passes_valid : (e : EndpointId) (pool : Option ℕ) (b : Body) → IsWritten e b → passes e pool b ≡ true → IsValid e pool b
passes_valid e pool b written h =
    let p = and_parts (tables_pass pool b) _ h in
    let q = and_parts (records_pass e pool b) _ p.1 in
    let r = and_parts (queues_pass e b) (arrivals_pass e b) q.1 in
    let t1 = and_parts (length b.mapped == 16) _ p.0 in
    let t2 = and_parts (list_all (is_mapping_in_range pool) b.mapped) _ t1.1 in
    let t3 = and_parts (length b.handlers == 16) _ t2.1 in
    let t4 = and_parts (is_none (entry_at b.handlers 0)) (list_all is_handler_in_range b.handlers) t3.1 in
    let r1 = and_parts (nat_le (length b.awaited) 32) _ q.0 in
    let r2 = and_parts (rise 0 b.accepted b.awaited) _ r1.1 in
    let r3 = and_parts (list_all (is_record e b.mapped) b.awaited) (is_within_pool pool b) r2.1 in
    let u1 = and_parts (list_all (is_own_request e b.accepted) b.requests) _ r.0 in
    let u2 = and_parts (list_all (is_own_answer e b.accepted) b.replies) _ u1.1 in
    let u3 = and_parts (list_all (is_own_notice e b.accepted) b.notices) _ u2.1 in
    let u4 = and_parts (nat_le (requests_held b) 16) (nat_le (replies_held b) 16) u3.1 in
    let a1 = and_parts (list_all (is_received_here e) b.received) _ r.1 in
    let a2 = and_parts (nat_le (count_by is_request b.received) 16) _ a1.1 in
    let a3 = and_parts (list_all (answers_expected b.awaited) b.received) _ a2.1 in
    let a4 = and_parts (list_all (is_answered_once b.received) b.awaited) (count_by is_reply b.received == count_by is_arrived b.awaited) a3.1 in
    let equal : count_by is_reply b.received ≡ count_by is_arrived b.awaited = eqb-true _ _ a4.1 in
    record {
      valid =
          record {
            indexes = eqb-true (length b.mapped) 16 t1.0;
            mappings = t2.0;
            handlers = eqb-true (length b.handlers) 16 t3.0;
            handler_zero = is_none-None (entry_at b.handlers 0) t4.0;
            kinds = t4.1;
            counts = r2.0;
            records = r3.0;
            credits = fits_pool pool b r3.1;
            requests = u1.0;
            replies = u2.0;
            in_flight = ap (list_all (is_own_flight e b.accepted)) written.none_in_flight;
            notices = u3.0;
            received = a1.0;
            each_answer = each_matches b.accepted b.received b.awaited r2.0 a3.0 a4.0;
            all_answers = equal;
          };
      within =
          record {
            requests = leb-true (requests_held b) 16 u4.0;
            replies = leb-true (replies_held b) 16 u4.1;
            awaited = leb-true (length b.awaited) 32 r1.0;
            received = leb-true (count_by is_request b.received) 16 a2.0;
            answers = omega (arith, equal);
          };
      none_in_flight = written.none_in_flight;
      in_range =
          record {
            tag = ltb-true _ _ written.tag;
            sum = ltb-true _ _ written.sum;
            accepted = ltb-true _ _ written.accepted;
            mapped = written.mapped;
            awaited = own_part e b.awaited (and_parts _ (list_all (fits_own e) b.awaited) written.awaited).1;
            handlers = written.handlers;
            requests = (and_parts _ _ written.requests).1;
            replies = (and_parts _ _ written.replies).1;
            notices = (and_parts _ _ written.notices).1;
            received = (and_parts _ _ written.received).1;
          };
    }

-- a valid body passes the tests
pub valid_passes : (e : EndpointId) (pool : Option ℕ) (b : Body) → IsValid e pool b → passes e pool b ≡ true
valid_passes e pool b is =
    let v = is.valid in
    let w = is.within in
    and_from (tables_pass pool b) _
    (and_from (length b.mapped == 16) _ (eq-eqb _ _ v.indexes)
    (and_from (list_all (is_mapping_in_range pool) b.mapped) _ v.mappings
    (and_from (length b.handlers == 16) _ (eq-eqb _ _ v.handlers)
    (and_from (is_none (entry_at b.handlers 0)) (list_all is_handler_in_range b.handlers) (ap is_none v.handler_zero) v.kinds))))
    (and_from (records_pass e pool b) _
    (and_from (nat_le (length b.awaited) 32) _ (le-leb _ _ w.awaited)
    (and_from (rise 0 b.accepted b.awaited) _ v.counts (and_from (list_all (is_record e b.mapped) b.awaited) (is_within_pool pool b) v.records
    (pool_passes pool b v.credits))))
    (and_from (queues_pass e b) (arrivals_pass e b)
    (and_from (list_all (is_own_request e b.accepted) b.requests) _ v.requests
    (and_from (list_all (is_own_answer e b.accepted) b.replies) _ v.replies
    (and_from (list_all (is_own_notice e b.accepted) b.notices) _ v.notices
    (and_from (nat_le (requests_held b) 16) (nat_le (replies_held b) 16) (le-leb _ _ w.requests) (le-leb _ _ w.replies)))))
    (and_from (list_all (is_received_here e) b.received) _ v.received
    (and_from (nat_le (count_by is_request b.received) 16) _ (le-leb _ _ w.received)
    (and_from (list_all (answers_expected b.awaited) b.received) _ (all_expected e b.received b.awaited v.received v.each_answer)
    (and_from (list_all (is_answered_once b.received) b.awaited) (count_by is_reply b.received ==
    count_by is_arrived b.awaited) (all_once b.accepted b.received b.awaited v.counts v.each_answer) (eq-eqb _ _ v.all_answers)))))))
