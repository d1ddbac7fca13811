-- Each record whose reply has arrived has one received reply.
use Rattle.std.specs.Prelude.{not, is_none, is_some}
use Rattle.std.proofs.Common.{◌≡◌, ℕ, ◌+◌, ◌≤◌, Bool, true, false, cond, ◌&&◌, ◌==◌, List, [], ◌∷◌, ◌++◌, drop, map, Option, Some, None, refl, sym, ap, ◌∙◌}
use Rattle.std.proofs.Common.{subst, arith, true≢false, if◌then◌else◌}
use Rattle.std.specs.List.{count_by, find, list_any}
use Rattle.std.proofs.lemmas.Bool.{and_parts, and_from}
use Rattle.std.proofs.lemmas.List.Sums.{sum_by_push, sum_by-cons}
use Rattle.am_lemmas.proofs.Lists.{find_passes, list_any-counts}
use Rattle.am_names.specs.Names.{same_serial, is_reply, is_request, is_request_kind, are_zero, is_formed_as, is_well_formed}
use Rattle.am_names.specs.declared.Message.{Message}
use Rattle.am_names.specs.declared.MsgKind.{MsgKind}
use Rattle.am_names.specs.declared.MsgKind.TheVariants as Kind
use Rattle.am_names.specs.declared.Serial.{Serial}
use Rattle.am_model.specs.declared.Awaited.{Awaited}
use Rattle.am_model.specs.Choice.{without_first}
use Rattle.am_model.specs.Endpoint.{is_arrived, is_waited_for, waits_for}
use Rattle.am_model.specs.Changes.{arrived, is_of, without_waiting, without_record, with_arrived}
use Rattle.am_office_entries.specs.Entries.{is_serial}
use Rattle.am_model.specs.Valid.{answers, has_arrived, rise}
use Rattle.am_model.proofs.Names.{same_serial-is, same_serial-refl}
use Rattle.am_model.proofs.Received.{bit, find_counts}
use Rattle.am_model.proofs.Records.{arrived_counts, arrives_all, arrives_only, arrives_or_waits, none_found, one_record, passing, without_counts}
use Rattle.am_model.proofs.Sizes.{waiting_kept}

pub record AreMatched (received : List Message) (awaited : List Awaited) : Type 0 where
  pub each : (request : Serial) → count_by (answers request) received ≡ count_by (has_arrived request) awaited
  pub all : count_by is_reply received ≡ count_by is_arrived awaited

-- what a message of its form names

formed_request : (k : MsgKind) (m : Message) → is_request_kind k ≡ true → is_formed_as k m ≡ true → is_none m.about ≡ true
formed_request Kind.Request m kind formed = formed
formed_request Kind.Reply m kind formed = absurd (true≢false (sym kind))
formed_request Kind.Empty m kind formed = absurd (true≢false (sym kind))

formed_answer : (k : MsgKind) (m : Message) → is_request_kind k ≡ false → is_formed_as k m ≡ true → is_some m.about ≡ true
formed_answer Kind.Request m kind formed = absurd (true≢false kind)
formed_answer Kind.Reply m kind formed = (and_parts (is_some m.about) (m.reply_tag.0 == 0) formed).0
formed_answer Kind.Empty m kind formed =
    let most = and_parts (is_some m.about && (m.reply_tag.0 == 0) && (m.handler == 0)) (are_zero m.words) formed in
    let some = and_parts (is_some m.about && (m.reply_tag.0 == 0)) (m.handler == 0) most.0 in
    (and_parts (is_some m.about) (m.reply_tag.0 == 0) some.0).0

-- a record that waits goes, or a record that waits comes

has_arrived_waits : (r q : Serial) (a : Awaited) → waits_for q a ≡ true → bit (has_arrived r a) ≡ 0
has_arrived_waits r q a waits = by_test (same_serial r a.serial) a.arrived refl
  where
    by_test : (b c : Bool) → a.arrived ≡ c → bit (b && c) ≡ 0
    by_test true true is = absurd (true≢false (sym (and_parts (same_serial q a.serial) (not a.arrived) waits).1 ∙ ap not is))
    by_test true false is = refl
    by_test false c is = refl

pub each_waiting : (r q : Serial) (xs : List Awaited) → count_by (has_arrived r) (without_waiting q xs) ≡ count_by (has_arrived r) xs
each_waiting r q xs = by_found (find (waits_for q) xs) refl (without_counts (has_arrived r) (waits_for q) xs)
  where
    by_found : (f : Option Awaited) → find (waits_for q) xs ≡ f →
        count_by (has_arrived r) (without_waiting q xs) + passing (has_arrived r) (find (waits_for q) xs) ≡ count_by (has_arrived r) xs →
        count_by (has_arrived r) (without_waiting q xs) ≡ count_by (has_arrived r) xs
    by_found None is counts = omega (arith, counts, ap (passing (has_arrived r)) is)
    by_found (Some a) is counts = omega (arith, counts, ap (passing (has_arrived r)) is, has_arrived_waits r q a (find_passes (waits_for q) xs a is))

pub matched_waiting : (q : Serial) (received : List Message) (xs : List Awaited) → AreMatched received xs → AreMatched received (without_waiting q xs)
matched_waiting q received xs matched = record { each = λ r. matched.each r ∙ sym (each_waiting r q xs); all = matched.all ∙ sym (waiting_kept q xs) }

pub matched_more : (index : ℕ) (q : Serial) (received : List Message) (xs : List Awaited) → AreMatched received xs →
    AreMatched received (xs ++ record { index = index; serial = q; arrived = false } ∷ [])
matched_more index q received xs matched =
    let a : Awaited = record { index = index; serial = q; arrived = false } in
    record {
      each = λ r. omega (arith, matched.each r, sum_by_push (λ (y : Awaited). cond (has_arrived r y) 1 0) xs a, unarrived (same_serial r q));
      all = omega (arith, matched.all, sum_by_push (λ (y : Awaited). cond (is_arrived y) 1 0) xs a);
    }
  where
    unarrived : (b : Bool) → bit (b && false) ≡ 0
    unarrived true = refl
    unarrived false = refl

-- a request arrives
matched_request : (m : Message) (received : List Message) (xs : List Awaited) → is_request m ≡ true → m.about ≡ None → AreMatched received xs →
    AreMatched (received ++ m ∷ []) (with_arrived m.about xs)
matched_request m received xs kind about matched =
    subst (λ (w : Option Serial). AreMatched (received ++ m ∷ []) (with_arrived w xs)) (sym about)
    (record {
      each = λ r. omega (
        arith,
        matched.each r,
        sum_by_push (λ (n : Message). cond (answers r n) 1 0) received m,
        ap (λ b. bit ((if b then false else true) && is_serial r m.about)) kind,
      );
      all = omega (arith, matched.all, sum_by_push (λ (n : Message). cond (is_reply n) 1 0) received m, ap (λ b. bit (if b then false else true)) kind);
    })

-- the reply to a request of which a record waits arrives
matched_answer : (last : ℕ) (q : Serial) (m : Message) (received : List Message) (xs : List Awaited) → is_request m ≡ false → m.about ≡ Some q →
    rise 0 last xs ≡ true → list_any (waits_for q) xs ≡ true → AreMatched received xs → AreMatched (received ++ m ∷ []) (with_arrived m.about xs)
matched_answer last q m received xs kind about rising waits matched =
    subst (λ (w : Option Serial). AreMatched (received ++ m ∷ []) (with_arrived w xs)) (sym about)
    (record {
      each = λ r. by_request r (same_serial r q) refl;
      all = omega (
        arith,
        matched.all,
        sum_by_push (λ (n : Message). cond (is_reply n) 1 0) received m,
        ap (λ b. bit (if b then false else true)) kind,
        arrived_counts q xs,
        one_waits,
      );
    })
  where
    one_waits : count_by (waits_for q) xs ≡ 1
    one_waits = omega (arith, list_any-counts (waits_for q) xs waits, one_record 0 last q xs rising, arrives_or_waits q xs)

    said : (r : Serial) → bit (answers r m) ≡ bit (same_serial r q)
    said r = ap (λ b. bit ((if b then false else true) && is_serial r m.about)) kind ∙ ap (λ w. bit (is_serial r w)) about

    by_request : (r : Serial) (b : Bool) → same_serial r q ≡ b → count_by (answers r) (received ++ m ∷ []) ≡ count_by (has_arrived r) (map (arrived q) xs)
    by_request r true is =
        let same : r ≡ q = same_serial-is r q is in
        let at : count_by (answers q) (received ++ m ∷ []) ≡ count_by (has_arrived q) (map (arrived q) xs) =
        omega (
          arith,
          matched.each q,
          sum_by_push (λ (n : Message). cond (answers q n) 1 0) received m,
          said q,
          ap bit (same_serial-refl q),
          arrives_all q xs,
          arrives_or_waits q xs,
          one_waits,
        ) in
        subst (λ (w : Serial). count_by (answers w) (received ++ m ∷ []) ≡ count_by (has_arrived w) (map (arrived q) xs)) (sym same) at
    by_request r false is =
        omega (arith, matched.each r, sum_by_push (λ (n : Message). cond (answers r n) 1 0) received m, said r, ap bit is, arrives_only q r xs is)

-- a message that is accepted arrives
pub matched_put : (last : ℕ) (m : Message) (received : List Message) (xs : List Awaited) → is_well_formed m ≡ true →
    (is_reply m && not (is_waited_for xs m.about)) ≡ false → rise 0 last xs ≡ true → AreMatched received xs →
    AreMatched (received ++ m ∷ []) (with_arrived m.about xs)
matched_put last m received xs formed accepts rising matched = by_kind (is_request m) refl m.about refl
  where
    awaited_is : (b t : Bool) → is_request m ≡ b → b ≡ false → is_waited_for xs m.about ≡ t → t ≡ true
    awaited_is b true is at about = refl
    awaited_is b false is at about = absurd (true≢false (sym (ap (λ w. (if w then false else true) && not (is_waited_for xs m.about)) (is ∙ at) ∙ ap not about)
        ∙ accepts))

    by_kind : (b : Bool) → is_request m ≡ b → (about : Option Serial) → m.about ≡ about → AreMatched (received ++ m ∷ []) (with_arrived m.about xs)
    by_kind true is None about = matched_request m received xs is about matched
    by_kind true is (Some q) about = absurd (true≢false (sym (formed_request m.kind m is formed) ∙ ap is_none about))
    by_kind false is None about = absurd (true≢false (sym (formed_answer m.kind m is formed) ∙ ap is_some about))
    by_kind false is (Some q) about =
        matched_answer last q m received xs is about rising (sym (ap (is_waited_for xs) about)
        ∙ awaited_is (is_request m) (is_waited_for xs m.about) refl is refl) matched

-- the reply to a request runs
matched_settled : (last : ℕ) (q : Serial) (m : Message) (received : List Message) (xs : List Awaited) → find is_reply received ≡ Some m → is_reply m ≡ true →
    m.about ≡ Some q → rise 0 last xs ≡ true → AreMatched received xs → AreMatched (without_first is_reply received) (without_first (is_of q) xs)
matched_settled last q m received xs found kind about rising matched = by_record (find (is_of q) xs) refl
  where
    said : (r : Serial) → bit (answers r m) ≡ bit (same_serial r q)
    said r = ap (λ b. bit (b && is_serial r m.about)) kind ∙ ap (λ w. bit (is_serial r w)) about

    one_arrived : 1 ≤ count_by (has_arrived q) xs
    one_arrived = omega (arith, matched.each q, find_counts (answers q) is_reply received m found, said q, ap bit (same_serial-refl q))

    has_come : (a : Awaited) → find (is_of q) xs ≡ Some a → (b : Bool) → a.arrived ≡ b → b ≡ true
    has_come a is true come = refl
    has_come a is false come =
        absurd (never (omega (
          arith,
          without_counts (waits_for q) (is_of q) xs,
          ap (passing (waits_for q)) is,
          ap bit (and_from (same_serial q a.serial) (not a.arrived) (find_passes (is_of q) xs a is) (ap not come)),
          one_arrived,
          arrives_or_waits q xs,
          one_record 0 last q xs rising,
        )))
      where
        never : 1 ≤ 0 → ⊥
        never h = omega (arith, h)

    by_record : (f : Option Awaited) → find (is_of q) xs ≡ f → AreMatched (without_first is_reply received) (without_first (is_of q) xs)
    by_record None is = absurd (never (omega (arith, none_found (is_of q) xs is, one_arrived, arrives_or_waits q xs)))
      where
        never : 1 ≤ 0 → ⊥
        never h = omega (arith, h)
    by_record (Some a) is =
        let come = has_come a is a.arrived refl in
        let its : q ≡ a.serial = same_serial-is q a.serial (find_passes (is_of q) xs a is) in
        record {
          each = λ r.
              omega (
                arith,
                matched.each r,
                find_counts (answers r) is_reply received m found,
                said r,
                without_counts (has_arrived r) (is_of q) xs,
                ap (passing (has_arrived r)) is,
                ap (λ b. bit (same_serial r a.serial && b)) come,
                and_true (same_serial r a.serial),
                ap (λ (w : Serial). bit (same_serial r w)) its,
              );
          all = omega (
            arith,
            matched.all,
            find_counts is_reply is_reply received m found,
            ap bit kind,
            without_counts is_arrived (is_of q) xs,
            ap (passing is_arrived) is,
            ap bit come,
          );
        }
      where
        and_true : (b : Bool) → bit (b && true) ≡ bit b
        and_true true = refl
        and_true false = refl

pub matched_ran : (last : ℕ) (m : Message) (received : List Message) (xs : List Awaited) → find is_reply received ≡ Some m → is_well_formed m ≡ true →
    rise 0 last xs ≡ true → AreMatched received xs → AreMatched (without_first is_reply received) (without_record m.about xs)
matched_ran last m received xs found formed rising matched = by_about m.about refl
  where
    kind : is_reply m ≡ true
    kind = find_passes is_reply received m found

    request_is : (b : Bool) → is_request m ≡ b → (if b then false else true) ≡ true → is_request m ≡ false
    request_is true is h = absurd (true≢false (sym h))
    request_is false is h = is

    by_about : (about : Option Serial) → m.about ≡ about → AreMatched (without_first is_reply received) (without_record m.about xs)
    by_about None about = absurd (true≢false (sym (formed_answer m.kind m (request_is (is_request m) refl kind) formed) ∙ ap is_some about))
    by_about (Some q) about = rw about (matched_settled last q m received xs found kind about rising matched)

-- a request at the front runs
pub matched_front : (m : Message) (ms received : List Message) (xs : List Awaited) → received ≡ m ∷ ms → find is_reply received ≡ None →
    AreMatched received xs → AreMatched (drop 1 received) xs
matched_front m ms received xs at none matched =
    rw at
    (record {
      each = λ r.
          omega (
            arith,
            matched.each r,
            ap (count_by (answers r)) at,
            sum_by-cons (λ (n : Message). cond (answers r n) 1 0) m ms,
            no_answer r (is_reply m) refl (ap bit kind),
          );
      all = omega (arith, matched.all, ap (count_by is_reply) at, sum_by-cons (λ (n : Message). cond (is_reply n) 1 0) m ms, ap bit kind);
    })
  where
    by_bit : (b : Bool) → bit b ≤ 0 → b ≡ false
    by_bit true h = absurd (never h)
      where
        never : 1 ≤ 0 → ⊥
        never e = omega (arith, e)
    by_bit false h = refl

    kind : is_reply m ≡ false
    kind = by_bit (is_reply m) (omega (
      arith,
      none_found is_reply received none,
      ap (count_by is_reply) at,
      sum_by-cons (λ (n : Message). cond (is_reply n) 1 0) m ms,
    ))

    no_answer : (r : Serial) (b : Bool) → is_reply m ≡ b → bit b ≡ 0 → bit (answers r m) ≡ 0
    no_answer r true is h = absurd (cc)
    no_answer r false is h = ap (λ b. bit (b && is_serial r m.about)) is
