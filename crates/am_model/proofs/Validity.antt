-- A body stays one that its endpoint may have: parts.
use Rattle.std.specs.Prelude.{nat_le, nat_lt, is_some, sum_by}
use Rattle.std.proofs.Common.{◌≡◌, ℕ, ◌+◌, ◌≤◌, ◌<◌, Bool, true, false, cond, ◌&&◌, ◌==◌, List, [], ◌∷◌, ◌++◌, length, map, Option, Some, None, ◌⊎◌, inl, inr}
use Rattle.std.proofs.Common.{refl, sym, ap, ◌∙◌, subst, arith, leb-false, true≢false}
use Rattle.std.specs.List.{count_by, list_all}
use Rattle.std.specs.Prelude.{slice_set}
use Rattle.std.proofs.lemmas.Bool.{and_parts, and_from, le-leb, leb-true, lt-ltb, ltb-false, eqb-true, eqb-false}
use Rattle.std.proofs.lemmas.List.{get_or-set_other, get_or-set_same}
use Rattle.std.proofs.lemmas.List.Folds.{list_all-map}
use Rattle.std.proofs.lemmas.List.Sums.{sum_by_push, sum_by-cons, sum_by-set}
use Rattle.am_names.specs.Names.{same_end, is_reply, is_request, is_well_formed}
use Rattle.am_names.specs.declared.EndpointId.{EndpointId}
use Rattle.am_names.specs.declared.Message.{Message}
use Rattle.am_names.specs.declared.Serial.{Serial}
use Rattle.am_model.specs.declared.Awaited.{Awaited}
use Rattle.am_model.specs.declared.Flying.{Flying}
use Rattle.am_model.specs.declared.Mapping.{Mapping}
use Rattle.am_model.specs.declared.Notice.{Notice}
use Rattle.am_model.specs.declared.Queued.{Queued}
use Rattle.am_model.specs.Choice.{without_first}
use Rattle.am_model.specs.Endpoint.{Body, entry_at, front_of}
use Rattle.am_model.specs.Calls.{records_at, excess, excess_from, has_no_credit, is_at, is_over_share, shares, share_of}
use Rattle.am_model.specs.Changes.{arrived, queued, with_arrived, without_front}
use Rattle.am_model.specs.Valid.{FitsPool, is_own, is_own_answer, is_own_flight, is_own_notice, is_own_request, is_record, rise}
use Rattle.am_model.proofs.Excess.{IsFewer, IsOneMore, excess_fewer, excess_one, excess_set, excess_spare}
use Rattle.am_model.proofs.Received.{bit}
use Rattle.am_model.proofs.Records.{rise_arrived, rise_higher, rise_push, rise_without}
use Rattle.am_model.proofs.Sizes.{count_le}
use Rattle.am_model.proofs.Sound.{all_appended, all_push, all_without}

-- own messages

pub all_weaker : {X : Type 0} (p q : X → Bool) (xs : List X) → ((x : X) → p x ≡ true → q x ≡ true) → list_all p xs ≡ true → list_all q xs ≡ true
all_weaker p q [] weaker all = refl
all_weaker p q (x ∷ xs) weaker all =
    let parts = and_parts (p x) (list_all p xs) all in and_from (q x) (list_all q xs) (weaker x parts.0) (all_weaker p q xs weaker parts.1)

pub own_more : (e : EndpointId) (n : ℕ) (m : Message) (k : ℕ) → is_own e n m k ≡ true → is_own e (n + 1) m k ≡ true
own_more e n m k h =
    let one = and_parts (same_end e m.serial.source) (nat_le 1 m.serial.count && (nat_le m.serial.count n && (is_well_formed m && nat_le k 16))) h in
    let two = and_parts (nat_le 1 m.serial.count) (nat_le m.serial.count n && (is_well_formed m && nat_le k 16)) one.1 in
    let three = and_parts (nat_le m.serial.count n) (is_well_formed m && nat_le k 16) two.1 in
    and_from (same_end e m.serial.source) (nat_le 1 m.serial.count && (nat_le m.serial.count (n + 1) && (is_well_formed m && nat_le k 16))) one.0
    (and_from (nat_le 1 m.serial.count) (nat_le m.serial.count (n + 1) && (is_well_formed m && nat_le k 16)) two.0
    (and_from (nat_le m.serial.count (n + 1)) (is_well_formed m && nat_le k 16) (le-leb m.serial.count (n + 1)
    (omega (arith, leb-true m.serial.count n three.0))) three.1))

-- the same message with another number of bounces in range
pub own_bounced : (e : EndpointId) (n : ℕ) (m : Message) (k j : ℕ) → j ≤ 16 → is_own e n m k ≡ true → is_own e n m j ≡ true
own_bounced e n m k j le h =
    let one = and_parts (same_end e m.serial.source) (nat_le 1 m.serial.count && (nat_le m.serial.count n && (is_well_formed m && nat_le k 16))) h in
    let two = and_parts (nat_le 1 m.serial.count) (nat_le m.serial.count n && (is_well_formed m && nat_le k 16)) one.1 in
    let three = and_parts (nat_le m.serial.count n) (is_well_formed m && nat_le k 16) two.1 in
    let four = and_parts (is_well_formed m) (nat_le k 16) three.1 in
    and_from (same_end e m.serial.source) (nat_le 1 m.serial.count && (nat_le m.serial.count n && (is_well_formed m && nat_le j 16))) one.0
    (and_from (nat_le 1 m.serial.count) (nat_le m.serial.count n && (is_well_formed m && nat_le j 16)) two.0
    (and_from (nat_le m.serial.count n) (is_well_formed m && nat_le j 16) three.0 (and_from (is_well_formed m) (nat_le j 16) four.0 (le-leb j 16 le))))

-- a message of its own has the form of its kind
pub own_formed : (e : EndpointId) (n : ℕ) (m : Message) (k : ℕ) → is_own e n m k ≡ true → is_well_formed m ≡ true
own_formed e n m k h =
    let one = and_parts (same_end e m.serial.source) (nat_le 1 m.serial.count && (nat_le m.serial.count n && (is_well_formed m && nat_le k 16))) h in
    let two = and_parts (nat_le 1 m.serial.count) (nat_le m.serial.count n && (is_well_formed m && nat_le k 16)) one.1 in
    let three = and_parts (nat_le m.serial.count n) (is_well_formed m && nat_le k 16) two.1 in
    (and_parts (is_well_formed m) (nat_le k 16) three.1).0

pub own_new : (e : EndpointId) (n : ℕ) (m : Message) → same_end e m.serial.source ≡ true → m.serial.count ≡ n + 1 → is_well_formed m ≡ true →
    is_own e (n + 1) m 0 ≡ true
own_new e n m mine is formed =
    and_from (same_end e m.serial.source) (nat_le 1 m.serial.count && (nat_le m.serial.count (n + 1) && (is_well_formed m && nat_le 0 16))) mine
    (and_from (nat_le 1 m.serial.count) (nat_le m.serial.count (n + 1) && (is_well_formed m && nat_le 0 16)) (le-leb 1 m.serial.count (omega (arith, is)))
    (and_from (nat_le m.serial.count (n + 1)) (is_well_formed m && nat_le 0 16) (le-leb m.serial.count (n + 1) (omega (arith, is)))
    (and_from (is_well_formed m) (nat_le 0 16) formed refl)))

pub record OwnMessages (e : EndpointId) (b : Body) : Type 0 where
  pub requests : list_all (is_own_request e b.accepted) b.requests ≡ true
  pub replies : list_all (is_own_answer e b.accepted) b.replies ≡ true
  pub in_flight : list_all (is_own_flight e b.accepted) b.in_flight ≡ true
  pub notices : list_all (is_own_notice e b.accepted) b.notices ≡ true

-- after one more message was accepted
pub own_accepted : (e : EndpointId) (b : Body) → OwnMessages e b → OwnMessages e (record b { accepted = b.accepted + 1 })
own_accepted e b own =
    record {
      requests =
          all_weaker (is_own_request e b.accepted) (is_own_request e (b.accepted + 1)) b.requests
          (λ (q : Queued) h.
          let parts = and_parts (is_request q.message) (is_own e b.accepted q.message q.bounces) h in
          and_from (is_request q.message) (is_own e (b.accepted + 1) q.message q.bounces) parts.0 (own_more e b.accepted q.message q.bounces parts.1))
          own.requests;
      replies =
          all_weaker (is_own_answer e b.accepted) (is_own_answer e (b.accepted + 1)) b.replies
          (λ (q : Queued) h.
          let parts = and_parts (is_reply q.message) (is_own e b.accepted q.message q.bounces) h in
          and_from (is_reply q.message) (is_own e (b.accepted + 1) q.message q.bounces) parts.0 (own_more e b.accepted q.message q.bounces parts.1))
          own.replies;
      in_flight =
          all_weaker (is_own_flight e b.accepted) (is_own_flight e (b.accepted + 1)) b.in_flight
          (λ (f : Flying) h. own_more e b.accepted f.message f.bounces h)
          own.in_flight;
      notices =
          all_weaker (is_own_notice e b.accepted) (is_own_notice e (b.accepted + 1)) b.notices
          (λ (n : Notice) h. own_more e b.accepted n.message n.bounces h)
          own.notices;
    }

-- a message of its own goes to the tail of its queue
pub own_queued : (e : EndpointId) (m : Message) (n : ℕ) (b : Body) → is_own e b.accepted m n ≡ true → OwnMessages e b → OwnMessages e (queued m n b)
own_queued e m n b mine own =
    record {
      requests = all_appended (is_own_request e b.accepted) (is_request m) m n b.requests (λ is. and_from (is_request m) (is_own e b.accepted m n) is mine)
          own.requests;
      replies = all_appended (is_own_answer e b.accepted) (is_reply m) m n b.replies (λ is. and_from (is_reply m) (is_own e b.accepted m n) is mine)
          own.replies;
      in_flight = own.in_flight;
      notices = own.notices;
    }

-- the front message leaves
pub record OwnFront (e : EndpointId) (b : Body) (q : Queued) : Type 0 where
  pub rest : OwnMessages e (without_front b)
  pub front : is_own e b.accepted q.message q.bounces ≡ true

pub own_front : (e : EndpointId) (b : Body) (q : Queued) → front_of b.replies b.requests ≡ Some q → OwnMessages e b → OwnFront e b q
own_front e b q is own = by_lists b.replies b.requests is own.replies own.requests
  where
    by_lists : (replies requests : List Queued) → front_of replies requests ≡ Some q → list_all (is_own_answer e b.accepted) replies ≡ true →
        list_all (is_own_request e b.accepted) requests ≡ true → OwnFront e (record b { replies = replies; requests = requests }) q
    by_lists (r ∷ replies) requests at answered asked =
        let same : r ≡ q = cc in
        let parts = and_parts (is_own_answer e b.accepted r) (list_all (is_own_answer e b.accepted) replies) answered in
        record {
          rest = record { requests = asked; replies = parts.1; in_flight = own.in_flight; notices = own.notices };
          front = subst (λ (w : Queued). is_own e b.accepted w.message w.bounces ≡ true) same
              (and_parts (is_reply r.message) (is_own e b.accepted r.message r.bounces) parts.0).1;
        }
    by_lists [] (r ∷ requests) at answered asked =
        let same : r ≡ q = cc in
        let parts = and_parts (is_own_request e b.accepted r) (list_all (is_own_request e b.accepted) requests) asked in
        record {
          rest = record { requests = parts.1; replies = refl; in_flight = own.in_flight; notices = own.notices };
          front = subst (λ (w : Queued). is_own e b.accepted w.message w.bounces ≡ true) same
              (and_parts (is_request r.message) (is_own e b.accepted r.message r.bounces) parts.0).1;
        }
    by_lists [] [] at answered asked = absurd (cc)

-- records

pub record OwnRecords (e : EndpointId) (pool : Option ℕ) (b : Body) : Type 0 where
  pub counts : rise 0 b.accepted b.awaited ≡ true
  pub records : list_all (is_record e b.mapped) b.awaited ≡ true
  pub credits : FitsPool pool b

pub fits_fewer : (pool : Option ℕ) (a b : Body) → a.mapped ≡ b.mapped → IsFewer a b → FitsPool pool b → FitsPool pool a
fits_fewer None a b same fewer fits = omega (arith, excess_fewer a b 0 a.mapped fewer, ap (excess_from b 0) same, fits)
fits_fewer (Some pool) a b same fewer fits = (
  omega (arith, excess_fewer a b 0 a.mapped fewer, ap (excess_from b 0) same, fits.0),
  omega (arith, ap (λ (xs : List (Option Mapping)). sum_by share_of xs) same, fits.1),
)

-- where the tables and the records are the same
pub records_same : (e : EndpointId) (pool : Option ℕ) (a b : Body) → a.mapped ≡ b.mapped → a.awaited ≡ b.awaited → a.accepted ≡ b.accepted →
    OwnRecords e pool b → OwnRecords e pool a
records_same e pool a b mapped awaited accepted own =
    record {
      counts = (λ k. rise 0 (accepted k) (awaited k)) ∙ own.counts;
      records = (λ k. list_all (is_record e (mapped k)) (awaited k)) ∙ own.records;
      credits = fits_fewer pool a b mapped (λ j. omega (arith, ap (λ (xs : List Awaited). count_by (is_at j) xs) awaited)) own.credits;
    }

-- one more message was accepted
pub records_counted : (e : EndpointId) (pool : Option ℕ) (b : Body) → OwnRecords e pool b → OwnRecords e pool (record b { accepted = b.accepted + 1 })
records_counted e pool b own =
    record {
      counts = rise_higher 0 b.accepted (b.accepted + 1) b.awaited (omega arith) own.counts;
      records = own.records;
      credits = fits_fewer pool (record b { accepted = b.accepted + 1 }) b refl (λ j. omega arith) own.credits;
    }

-- a record goes
pub records_without : (e : EndpointId) (pool : Option ℕ) (t : Awaited → Bool) (b : Body) → OwnRecords e pool b →
    OwnRecords e pool (record b { awaited = without_first t b.awaited })
records_without e pool t b own =
    record {
      counts = rise_without 0 b.accepted t b.awaited own.counts;
      records = all_without (is_record e b.mapped) t b.awaited own.records;
      credits = fits_fewer pool (record b { awaited = without_first t b.awaited }) b refl (λ j. (count_le (is_at j) t b.awaited).0) own.credits;
    }

at_arrived : (j : ℕ) (r : Serial) (xs : List Awaited) → count_by (is_at j) (map (arrived r) xs) ≡ count_by (is_at j) xs
at_arrived j r [] = refl
at_arrived j r (a ∷ xs) = omega (
  arith,
  at_arrived j r xs,
  sum_by-cons (λ (y : Awaited). cond (is_at j y) 1 0) a xs,
  sum_by-cons (λ (y : Awaited). cond (is_at j y) 1 0) (arrived r a) (map (arrived r) xs),
)

-- a record arrives
pub records_arrived : (e : EndpointId) (pool : Option ℕ) (about : Option Serial) (b : Body) → OwnRecords e pool b →
    OwnRecords e pool (record b { awaited = with_arrived about b.awaited })
records_arrived e pool None b own = records_same e pool (record b { awaited = b.awaited }) b refl refl refl own
records_arrived e pool (Some r) b own =
    record {
      counts = rise_arrived 0 b.accepted r b.awaited ∙ own.counts;
      records = list_all-map (is_record e b.mapped) (arrived r) b.awaited ∙ own.records;
      credits = fits_fewer pool (record b { awaited = map (arrived r) b.awaited }) b refl (λ j. omega (arith, at_arrived j r b.awaited)) own.credits;
    }

-- one more record of an index that has credit left

one_more : (index : ℕ) (a : Awaited) (b : Body) → a.index ≡ index → IsOneMore index (record b { awaited = b.awaited ++ a ∷ [] }) b
one_more index a b is j = omega (arith, sum_by_push (λ (y : Awaited). cond (is_at j y) 1 0) b.awaited a, ap (λ w. bit (w == j)) is)

-- an index with credit left has fewer records than its share, or the pool is not empty
fits_more : (pool : Option ℕ) (index : ℕ) (m : Mapping) (a b : Body) → a.mapped ≡ b.mapped → IsOneMore index a b → entry_at b.mapped index ≡ Some m →
    has_no_credit pool b index (Some m) ≡ false → FitsPool pool b → FitsPool pool a
fits_more None index m a b same more at credit fits =
    omega (
      arith,
      excess_spare index a b m 0 index a.mapped (omega arith) (ap (λ xs. entry_at xs index) same
          ∙ at) more (leb-false m.credits (records_at b index) credit),
      ap (excess_from b 0) same,
      fits,
    )
fits_more (Some pool) index m a b same more at credit fits = by_spare (nat_le m.credits (records_at b index)) (excess b == pool) refl refl credit
  where
    by_spare : (t u : Bool) → nat_le m.credits (records_at b index) ≡ t → (excess b == pool) ≡ u →
        (nat_le m.credits (records_at b index) && (excess b == pool)) ≡ false → (excess a ≤ pool) × (shares a + pool ≤ 32)
    by_spare false u is empty h = (
      omega (
        arith,
        excess_spare index a b m 0 index a.mapped (omega arith) (ap (λ xs. entry_at xs index) same
            ∙ at) more (leb-false m.credits (records_at b index) is),
        ap (excess_from b 0) same,
        fits.0,
      ),
      omega (arith, ap (λ (xs : List (Option Mapping)). sum_by share_of xs) same, fits.1),
    )
    by_spare true false is empty h = (
      omega (arith, excess_one index a b 0 a.mapped more, ap (excess_from b 0) same, fits.0, below (excess b) pool fits.0 empty),
      omega (arith, ap (λ (xs : List (Option Mapping)). sum_by share_of xs) same, fits.1),
    )
      where
        below : (m n : ℕ) → m ≤ n → (m == n) ≡ false → m < n
        below m n le other = grind (arith, le, eqb-false m n other)
    by_spare true true is empty h = absurd (true≢false (sym (and_from (nat_le m.credits (records_at b index)) (excess b == pool) is empty) ∙ h))

pub records_more : (e : EndpointId) (pool : Option ℕ) (index : ℕ) (m : Mapping) (serial : Serial) (b : Body) → same_end e serial.source ≡ true →
    serial.count ≡ b.accepted + 1 → index < 16 → entry_at b.mapped index ≡ Some m → has_no_credit pool b index (Some m) ≡ false → OwnRecords e pool b →
    OwnRecords e pool (record b { accepted = b.accepted + 1; awaited = b.awaited ++ record { index = index; serial = serial; arrived = false } ∷ [] })
records_more e pool index m serial b mine is lt at credit own =
    let a : Awaited = record { index = index; serial = serial; arrived = false } in
    record {
      counts = rise_push 0 b.accepted b.awaited a (omega arith) is own.counts;
      records =
          all_push (is_record e b.mapped) b.awaited a own.records
          (and_from (same_end e serial.source) (nat_lt index 16 && is_some (entry_at b.mapped index)) mine
          (and_from (nat_lt index 16) (is_some (entry_at b.mapped index)) (lt-ltb index 16 lt) (ap is_some at)));
      credits = fits_more pool index m (record b { accepted = b.accepted + 1; awaited = b.awaited ++ a ∷ [] }) b refl (one_more index a b refl) at credit
          own.credits;
    }

-- an index is mapped, or is mapped no more

-- an index that is not mapped has no records
none_unmapped : (e : EndpointId) (mapped : List (Option Mapping)) (index : ℕ) (xs : List Awaited) → entry_at mapped index ≡ None →
    list_all (is_record e mapped) xs ≡ true → count_by (is_at index) xs ≡ 0
none_unmapped e mapped index [] at all = refl
none_unmapped e mapped index (a ∷ xs) at all =
    let parts = and_parts (is_record e mapped a) (list_all (is_record e mapped) xs) all in
    let one = and_parts (same_end e a.serial.source) (nat_lt a.index 16 && is_some (entry_at mapped a.index)) parts.0 in
    let two = and_parts (nat_lt a.index 16) (is_some (entry_at mapped a.index)) one.1 in
    omega (
      arith,
      none_unmapped e mapped index xs at parts.1,
      sum_by-cons (λ (y : Awaited). cond (is_at index y) 1 0) a xs,
      by_test mapped index a at two.1 (a.index == index) refl,
    )
  where
    by_test : (mapped : List (Option Mapping)) (index : ℕ) (a : Awaited) → entry_at mapped index ≡ None → is_some (entry_at mapped a.index) ≡ true →
        (t : Bool) → (a.index == index) ≡ t → bit (a.index == index) ≡ 0
    by_test mapped index a at some true is = absurd (true≢false (sym some ∙ ap (λ w. is_some (entry_at mapped w)) (eqb-true a.index index is) ∙ ap is_some at))
    by_test mapped index a at some false is = ap bit is

-- an entry of the table changes: a record of another index, or one that is mapped still, stays one
record_kept : (e : EndpointId) (mapped : List (Option Mapping)) (index : ℕ) (x : Option Mapping) (a : Awaited) → index < length mapped →
    (a.index == index) ≡ false ⊎ (is_some x ≡ true) → is_record e mapped a ≡ true → is_record e (slice_set mapped index x) a ≡ true
record_kept e mapped index x a lt either h =
    let one = and_parts (same_end e a.serial.source) (nat_lt a.index 16 && is_some (entry_at mapped a.index)) h in
    let two = and_parts (nat_lt a.index 16) (is_some (entry_at mapped a.index)) one.1 in
    and_from (same_end e a.serial.source) (nat_lt a.index 16 && is_some (entry_at (slice_set mapped index x) a.index)) one.0
    (and_from (nat_lt a.index 16) (is_some (entry_at (slice_set mapped index x) a.index)) two.0 (by_test (a.index == index) refl either two.1))
  where
    by_test : (t : Bool) → (a.index == index) ≡ t → ((a.index == index) ≡ false) ⊎ (is_some x ≡ true) → is_some (entry_at mapped a.index) ≡ true →
        is_some (entry_at (slice_set mapped index x) a.index) ≡ true
    by_test false is either some = ap is_some (get_or-set_other mapped index a.index x None (eqb-false a.index index is)) ∙ some
    by_test true is (inl apart) some = absurd (true≢false (sym is ∙ apart))
    by_test true is (inr still) some =
        ap (λ w. is_some (entry_at (slice_set mapped index x) w)) (eqb-true a.index index is) ∙ ap is_some (get_or-set_same mapped index x None lt) ∙ still

records_kept : (e : EndpointId) (mapped : List (Option Mapping)) (index : ℕ) (m : Mapping) (xs : List Awaited) → index < length mapped →
    list_all (is_record e mapped) xs ≡ true → list_all (is_record e (slice_set mapped index (Some m))) xs ≡ true
records_kept e mapped index m xs lt all = all_weaker (is_record e mapped) (is_record e (slice_set mapped index (Some m))) xs
    (λ a h. record_kept e mapped index (Some m) a lt (inr refl) h) all

records_unmapped : (e : EndpointId) (mapped : List (Option Mapping)) (index : ℕ) (xs : List Awaited) → index < length mapped → count_by (is_at index) xs ≡ 0 →
    list_all (is_record e mapped) xs ≡ true → list_all (is_record e (slice_set mapped index None)) xs ≡ true
records_unmapped e mapped index [] lt none all = refl
records_unmapped e mapped index (a ∷ xs) lt none all =
    let parts = and_parts (is_record e mapped a) (list_all (is_record e mapped) xs) all in
    let cons = sum_by-cons (λ (y : Awaited). cond (is_at index y) 1 0) a xs in
    and_from (is_record e (slice_set mapped index None) a) (list_all (is_record e (slice_set mapped index None)) xs)
    (record_kept e mapped index None a lt (inl (zero_bit (a.index == index) (omega (arith, none, cons)))) parts.0)
    (records_unmapped e mapped index xs lt (omega (arith, none, cons)) parts.1)
  where
    zero_bit : (t : Bool) → bit t ≡ 0 → t ≡ false
    zero_bit true h = absurd (cc)
    zero_bit false h = refl

-- the shares after an entry of the table changed
shares_set : (mapped : List (Option Mapping)) (index : ℕ) (x : Option Mapping) → index < length mapped →
    sum_by share_of (slice_set mapped index x) + share_of (entry_at mapped index) ≡ sum_by share_of mapped + share_of x
shares_set mapped index x lt = sum_by-set share_of mapped index x None lt

pub records_mapped : (e : EndpointId) (pool : Option ℕ) (index : ℕ) (m : Mapping) (b : Body) → index < length b.mapped → entry_at b.mapped index ≡ None →
    is_over_share pool b m.credits ≡ false → OwnRecords e pool b → OwnRecords e pool (record b { mapped = slice_set b.mapped index (Some m) })
records_mapped e pool index m b lt at share own =
    let none : records_at b index ≡ 0 = none_unmapped e b.mapped index b.awaited at own.records in
    let more : excess_from b 0 (slice_set b.mapped index (Some m)) ≤ excess b =
    excess_set b 0 index index b.mapped (Some m) (omega arith) (omega (arith, none)) in
    record {
      counts = own.counts;
      records = records_kept e b.mapped index m b.awaited lt own.records;
      credits = by_pool pool share own.credits more;
    }
  where
    by_pool : (pool : Option ℕ) → is_over_share pool b m.credits ≡ false → FitsPool pool b → excess_from b 0 (slice_set b.mapped index (Some m)) ≤ excess b →
        FitsPool pool (record b { mapped = slice_set b.mapped index (Some m) })
    by_pool None share fits more = omega (
      arith,
      excess_fewer (record b { mapped = slice_set b.mapped index (Some m) }) b 0 (slice_set b.mapped index (Some m))
          (λ j. omega arith),
      more,
      fits,
    )
    by_pool (Some pool) share fits more = (
      omega (
        arith,
        excess_fewer (record b { mapped = slice_set b.mapped index (Some m) }) b 0 (slice_set b.mapped index (Some m)) (λ j. omega arith),
        more,
        fits.0,
      ),
      omega (arith, shares_set b.mapped index (Some m) lt, ltb-false 32 (shares b + m.credits + pool) share, ap share_of at),
    )

pub records_off : (e : EndpointId) (pool : Option ℕ) (index : ℕ) (b : Body) → index < length b.mapped → records_at b index ≡ 0 → OwnRecords e pool b →
    OwnRecords e pool (record b { mapped = slice_set b.mapped index None })
records_off e pool index b lt none own =
    let more : excess_from b 0 (slice_set b.mapped index None) ≤ excess b = excess_set b 0 index index b.mapped None (omega arith) refl in
    record {
      counts = own.counts;
      records = records_unmapped e b.mapped index b.awaited lt none own.records;
      credits = by_pool pool own.credits more;
    }
  where
    by_pool : (pool : Option ℕ) → FitsPool pool b → excess_from b 0 (slice_set b.mapped index None) ≤ excess b →
        FitsPool pool (record b { mapped = slice_set b.mapped index None })
    by_pool None fits more = omega (
      arith,
      excess_fewer (record b { mapped = slice_set b.mapped index None }) b 0 (slice_set b.mapped index None)
          (λ j. omega arith),
      more,
      fits,
    )
    by_pool (Some pool) fits more = (
      omega (arith, excess_fewer (record b { mapped = slice_set b.mapped index None }) b 0 (slice_set b.mapped index None) (λ j. omega arith), more, fits.0),
      omega (arith, shares_set b.mapped index None lt, fits.1),
    )
