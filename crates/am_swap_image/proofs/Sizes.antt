-- How many bytes an image takes, and that a valid body's takes few.
use Rattle.std.proofs.Common.{◌≡◌, ℕ, ◌+◌, ◌*◌, ◌≤◌, Bool, true, false, cond, List, [], ◌∷◌, length, Option, Some, None, refl, ap, sym, ◌∙◌, arith}
use Rattle.std.proofs.Common.{length-append}
use Rattle.std.specs.Prelude.{flat_map, sum_by, count_by}
use Rattle.std.proofs.lemmas.List.Sums.{sum_by-cons, count_by-le-length}
use Rattle.am_names.specs.declared.Serial.{Serial}
use Rattle.am_names.specs.declared.Message.{Message}
use Rattle.am_names.specs.Names.{is_request, is_reply}
use Rattle.am_office_entries.specs.declared.HandlerKind.{HandlerKind}
use Rattle.am_office_entries.specs.declared.HandlerKind.TheVariants.{Note, Echo, Add}
use Rattle.am_model.specs.declared.Mapping.{Mapping}
use Rattle.am_model.specs.declared.Awaited.{Awaited}
use Rattle.am_model.specs.declared.Queued.{Queued}
use Rattle.am_model.specs.declared.Notice.{Notice}
use Rattle.am_model.specs.Endpoint.{requests_held, replies_held, is_arrived}
use Rattle.am_swap_image.specs.Image.{in_turn, byte, long, counted, mapping_bytes, record_bytes, handler_bytes, serial_bytes, words_bytes, kind_number}
use Rattle.am_swap_image.specs.Image.{about_bytes, message_bytes, queued_bytes, notice_bytes, received_bytes, why_number, image, mapping_size, handler_size}
use Rattle.am_swap_image.specs.Image.{about_size, message_size, queued_size, notice_size}
use Rattle.am_swap_image.specs.Laws.{SizesAdd, ImagesAreShort}

pub flat_size : {X : Type 0} (bytes : X → List ℕ) (size : X → ℕ) → ((x : X) → length (bytes x) ≡ size x) → (xs : List X) →
    length (flat_map bytes xs) ≡ sum_by size xs
flat_size bytes size each [] = refl
flat_size bytes size each (x ∷ xs) =
    let one : length (bytes x) ≡ size x = each x in
    let rest : length (flat_map bytes xs) ≡ sum_by size xs = flat_size bytes size each xs in
    length-append (bytes x) (flat_map bytes xs) ∙ (ap (λ (n : ℕ). n + length (flat_map bytes xs)) one
    ∙ (ap (λ (n : ℕ). size x + n) rest ∙ sym (sum_by-cons size x xs)))

same_size : {X : Type 0} (bytes : X → List ℕ) (size : ℕ) → ((x : X) → length (bytes x) ≡ size) → (xs : List X) → length (flat_map bytes xs) ≡ size * length xs
same_size bytes size each [] = omega arith
same_size bytes size each (x ∷ xs) =
    let one : length (bytes x) ≡ size = each x in
    let rest : length (flat_map bytes xs) ≡ size * length xs = same_size bytes size each xs in
    let both : length (flat_map bytes (x ∷ xs)) ≡ size + size * length xs = omega (arith, one, rest, length-append (bytes x) (flat_map bytes xs)) in
    grind (arith, both)

turn_size : (part : List ℕ) (parts : List (List ℕ)) → length (in_turn (part ∷ parts)) ≡ length part + length (in_turn parts)
turn_size part parts = length-append part (in_turn parts)

counted_size : {X : Type 0} (bytes : X → List ℕ) (xs : List X) → length (counted bytes xs) ≡ 1 + length (flat_map bytes xs)
counted_size bytes xs = omega (arith, turn_size (byte (length xs)) (flat_map bytes xs ∷ []), turn_size (flat_map bytes xs) [])

mapping_each : (m : Option Mapping) → length (mapping_bytes m) ≡ mapping_size m
mapping_each None = refl
mapping_each (Some m) = refl

handler_each : (h : Option HandlerKind) → length (handler_bytes h) ≡ handler_size h
handler_each None = refl
handler_each (Some Note) = refl
handler_each (Some (Echo to)) = refl
handler_each (Some (Add to)) = refl

record_each : (a : Awaited) → length (record_bytes a) ≡ 6
record_each a = refl

about_each : (o : Option Serial) → length (about_bytes o) ≡ about_size o
about_each None = refl
about_each (Some request) = refl

message_each : (m : Message) (bounces : ℕ) → length (message_bytes m bounces) ≡ message_size m
message_each m bounces =
    let last : List (List ℕ) = byte bounces ∷ [] in
    let head : List (List ℕ) → List ℕ = λ (tail : List (List ℕ)). in_turn (serial_bytes m.serial ∷ byte (kind_number m.kind) ∷ byte m.dest.0 ∷ long
    m.tag.0 ∷ byte m.handler ∷ words_bytes m.words ∷ long m.reply_tag.0 ∷ tail) in
    let front : length (head (about_bytes m.about ∷ last)) ≡ 56 + length (in_turn (about_bytes m.about ∷ last)) = omega arith in
    omega (arith, front, turn_size (about_bytes m.about) last, about_each m.about)

queued_each : (q : Queued) → length (queued_bytes q) ≡ queued_size q
queued_each q = message_each q.message q.bounces

notice_each : (n : Notice) → length (notice_bytes n) ≡ notice_size n
notice_each n = omega (arith, message_each n.message n.bounces, turn_size (message_bytes n.message n.bounces) (byte (why_number n.why) ∷ []))

received_each : (m : Message) → length (received_bytes m) ≡ message_size m
received_each m = message_each m 0

pub sizes_add : SizesAdd
sizes_add b =
    let r : List (List ℕ) = counted received_bytes b.received ∷ [] in
    let n : List (List ℕ) = counted notice_bytes b.notices ∷ r in
    let p : List (List ℕ) = counted queued_bytes b.replies ∷ n in
    let q : List (List ℕ) = counted queued_bytes b.requests ∷ p in
    let h : List (List ℕ) = flat_map handler_bytes b.handlers ∷ q in
    let a : List (List ℕ) = counted record_bytes b.awaited ∷ h in
    let m : List (List ℕ) = flat_map mapping_bytes b.mapped ∷ a in
    let front : length (image b) ≡ 25 + length (in_turn m) = omega arith in
    let sm : length (in_turn m) ≡ sum_by mapping_size b.mapped + length (in_turn a) = omega (
      arith,
      turn_size (flat_map mapping_bytes b.mapped) a,
      flat_size mapping_bytes mapping_size mapping_each b.mapped,
    ) in
    let sa : length (in_turn a) ≡ 1 + 6 * length b.awaited + length (in_turn h) = omega (
      arith,
      turn_size (counted record_bytes b.awaited) h,
      counted_size record_bytes b.awaited,
      same_size record_bytes 6 record_each b.awaited,
    ) in
    let sh : length (in_turn h) ≡ sum_by handler_size b.handlers + length (in_turn q) = omega (
      arith,
      turn_size (flat_map handler_bytes b.handlers) q,
      flat_size handler_bytes handler_size handler_each b.handlers,
    ) in
    let sq : length (in_turn q) ≡ 1 + sum_by queued_size b.requests + length (in_turn p) =
    omega (
      arith,
      turn_size (counted queued_bytes b.requests) p,
      counted_size queued_bytes b.requests,
      flat_size queued_bytes queued_size queued_each b.requests,
    ) in
    let sp : length (in_turn p) ≡ 1 + sum_by queued_size b.replies + length (in_turn n) =
    omega (
      arith,
      turn_size (counted queued_bytes b.replies) n,
      counted_size queued_bytes b.replies,
      flat_size queued_bytes queued_size queued_each b.replies,
    ) in
    let sn : length (in_turn n) ≡ 1 + sum_by notice_size b.notices + length (in_turn r) =
    omega (
      arith,
      turn_size (counted notice_bytes b.notices) r,
      counted_size notice_bytes b.notices,
      flat_size notice_bytes notice_size notice_each b.notices,
    ) in
    let sr : length (in_turn r) ≡ 1 + sum_by message_size b.received = omega (
      arith,
      turn_size (counted received_bytes b.received) [],
      counted_size received_bytes b.received,
      flat_size received_bytes message_size received_each b.received,
    ) in
    omega (arith, front, sm, sa, sh, sq, sp, sn, sr)

-- ---- a valid body's image is short

at_most : {X : Type 0} (size : X → ℕ) (most : ℕ) → ((x : X) → size x ≤ most) → (xs : List X) → sum_by size xs ≤ most * length xs
at_most size most each [] = omega arith
at_most size most each (x ∷ xs) =
    let one : size x ≤ most = each x in
    let rest : sum_by size xs ≤ most * length xs = at_most size most each xs in
    let both : sum_by size (x ∷ xs) ≤ most + most * length xs = omega (arith, one, rest, sum_by-cons size x xs) in
    grind (arith, both)

-- messages are requests or answers
pub split : {X : Type 0} (message : X → Message) (xs : List X) →
    length xs ≡ count_by (λ (x : X). is_request (message x)) xs + count_by (λ (x : X). is_reply (message x)) xs
split message [] = refl
split {X} message (x ∷ xs) =
    let rest : length xs ≡ count_by (λ (y : X). is_request (message y)) xs + count_by (λ (y : X). is_reply (message y)) xs = split message xs in
    omega (
      arith,
      rest,
      sum_by-cons (λ (y : X). cond (is_request (message y)) 1 0) x xs,
      sum_by-cons (λ (y : X). cond (is_reply (message y)) 1 0) x xs,
      one (is_request (message x)),
    )
  where
    one : (b : Bool) → cond b 1 0 + cond (cond b false true) 1 0 ≡ 1
    one true = refl
    one false = refl

mapping_most : (m : Option Mapping) → mapping_size m ≤ 11
mapping_most None = omega arith
mapping_most (Some m) = omega arith

handler_most : (h : Option HandlerKind) → handler_size h ≤ 2
handler_most None = omega arith
handler_most (Some Note) = omega arith
handler_most (Some (Echo to)) = omega arith
handler_most (Some (Add to)) = omega arith

about_most : (o : Option Serial) → about_size o ≤ 6
about_most None = omega arith
about_most (Some request) = omega arith

message_most : (m : Message) → message_size m ≤ 63
message_most m = omega (arith, about_most m.about)

pub images_are_short : ImagesAreShort
images_are_short e pool b valid =
    let mapped : sum_by mapping_size b.mapped ≤ 11 * length b.mapped = at_most mapping_size 11 mapping_most b.mapped in
    let handlers : sum_by handler_size b.handlers ≤ 2 * length b.handlers = at_most handler_size 2 handler_most b.handlers in
    let requests : sum_by queued_size b.requests ≤ 63 * length b.requests = at_most queued_size 63 (λ q. message_most q.message) b.requests in
    let replies : sum_by queued_size b.replies ≤ 63 * length b.replies = at_most queued_size 63 (λ q. message_most q.message) b.replies in
    let notices : sum_by notice_size b.notices ≤ 64 * length b.notices = at_most notice_size 64 (λ n. omega (arith, message_most n.message)) b.notices in
    let received : sum_by message_size b.received ≤ 63 * length b.received = at_most message_size 63 message_most b.received in
    let noticed : length b.notices ≡ count_by (λ (n : Notice). is_request n.message) b.notices + count_by (λ (n : Notice). is_reply n.message) b.notices =
    split (λ (n : Notice). n.message) b.notices in
    let arrived : length b.received ≡ count_by is_request b.received + count_by is_reply b.received = split (λ (m : Message). m) b.received in
    let held : requests_held b ≤ 16 = valid.within.requests in
    let held_replies : replies_held b ≤ 16 = valid.within.replies in
    let few : count_by is_arrived b.awaited ≤ length b.awaited = count_by-le-length is_arrived b.awaited in
    omega (
      arith,
      sizes_add b,
      mapped,
      handlers,
      requests,
      replies,
      notices,
      received,
      noticed,
      arrived,
      held,
      held_replies,
      few,
      valid.valid.indexes,
      valid.valid.handlers,
      valid.within.awaited,
      valid.within.received,
      valid.within.answers,
    )
