-- Bodies are read as they were written, and so each has an image of its own.
use Rattle.std.proofs.Common.{◌≡◌, ℕ, ◌+◌, ◌<◌, ◌≤◌, Bool, true, List, [], ◌∷◌, ◌++◌, length, drop, Option, Some, refl, sym, ap, subst, ◌∙◌, arith}
use Rattle.std.specs.Prelude.{◌==◌, flat_map, nat_eq, count_by}
use Rattle.std.specs.List.{list_all, starts_with}
use Rattle.std.proofs.lemmas.Bool.{eqb-true, lt-ltb, and_from}
use Rattle.std.proofs.lemmas.Bool.Decides.{Decides-eqb}
use Rattle.std.proofs.lemmas.List.{append-nil, nil_from_length}
use Rattle.std.proofs.lemmas.List.Sums.{count_by-le-length}
use Rattle.std.proofs.lemmas.Slice.Eq.{starts_is}
use Rattle.std.proofs.lemmas.Option.{cond_some}
use Rattle.am_lemmas.specs.Bytes.{AreBytes}
use Rattle.am_lemmas.proofs.Bytes.{bytes-drop}
use Rattle.am_lemmas.proofs.Bools.{and_first, and_second}
use Rattle.am_names.specs.declared.EndpointId.{EndpointId}
use Rattle.am_names.specs.declared.Message.{Message}
use Rattle.am_names.specs.Names.{same_end, is_request, is_reply}
use Rattle.am_office_entries.specs.declared.HandlerKind.{HandlerKind}
use Rattle.am_model.specs.declared.Mapping.{Mapping}
use Rattle.am_model.specs.declared.Awaited.{Awaited}
use Rattle.am_model.specs.declared.Flying.{Flying}
use Rattle.am_model.specs.declared.Queued.{Queued}
use Rattle.am_model.specs.declared.Notice.{Notice}
use Rattle.am_model.specs.Endpoint.{Body, requests_held, replies_held, is_arrived}
use Rattle.am_model.specs.Valid.{is_record}
use Rattle.am_model.specs.History.{is_byte, is_four_bytes, is_eight_bytes}
use Rattle.am_swap_image.specs.Image.{in_turn, short, long, magic, counted, mapping_bytes, record_bytes, handler_bytes, queued_bytes, notice_bytes}
use Rattle.am_swap_image.specs.Image.{received_bytes, image}
use Rattle.am_swap_image.specs.Range.{fits_mapping, fits_record, fits_handler, fits_queued, fits_notice, fits_message}
use Rattle.am_swap_image.specs.Valid.{IsValid}
use Rattle.am_swap_image.specs.Laws.{EachBodyHasItsImage, ImagesAreRead, ReadingIsOfImages}
use Rattle.am_swap_image.specs.Reading.{Read, long_at, short_at, mapping_at, record_at, handler_at, message_at, notice_at, received_at, many_at, counted_at}
use Rattle.am_swap_image.specs.Reading.{magic_at, body_of, body_at, whole_body}
use Rattle.am_swap_image.proofs.Fields.{IsReader, then_some, step, some_is, turn_parts, short_reader, long_reader}
use Rattle.am_swap_image.proofs.Messages.{message_reader, notice_reader, received_reader}
use Rattle.am_swap_image.proofs.Sizes.{split}
use Rattle.am_swap_image.proofs.Parts.{fits_own, mapping_reader, record_reader, handler_reader, many_takes, many_again, fits_counted, counted_reader}

-- ---- what a body must meet to be written and read again

pub record IsWritten (e : EndpointId) (b : Body) : Type 0 where
  pub none_in_flight : b.in_flight ≡ []
  pub tag : is_eight_bytes b.tag.0 ≡ true
  pub sum : is_eight_bytes b.sum ≡ true
  pub accepted : is_four_bytes b.accepted ≡ true
  pub indexes : length b.mapped ≡ 16
  pub mapped : list_all fits_mapping b.mapped ≡ true
  pub awaited : fits_counted (fits_own e) b.awaited ≡ true
  pub slots : length b.handlers ≡ 16
  pub handlers : list_all fits_handler b.handlers ≡ true
  pub requests : fits_counted fits_queued b.requests ≡ true
  pub replies : fits_counted fits_queued b.replies ≡ true
  pub notices : fits_counted fits_notice b.notices ≡ true
  pub received : fits_counted fits_message b.received ≡ true

magic_again : (parts : List (List ℕ)) → magic_at (in_turn (magic ∷ parts)) ≡ Some (in_turn parts)
unfolding magic_at
magic_again parts = refl

sixteen_again : {X : Type 0} (fits : X → Bool) (text : X → List ℕ) (at : List ℕ → Read X) → IsReader fits text at → (xs : List X) (parts : List (List ℕ)) →
    length xs ≡ 16 → list_all fits xs ≡ true → many_at at 16 (in_turn (flat_map text xs ∷ parts)) ≡ Some (xs, in_turn parts)
sixteen_again {X} fits text at reader xs parts len h =
    ap (λ (n : ℕ). many_at at n (flat_map text xs ++ in_turn parts)) (sym len) ∙ many_again fits text at reader xs (in_turn parts) h

body_again : (e : EndpointId) (b : Body) → IsWritten e b → body_at e (image b) ≡ Some (b, [])
unfolding body_at
body_again e b is =
    let p10 : List (List ℕ) = counted received_bytes b.received ∷ [] in
    let p9 : List (List ℕ) = counted notice_bytes b.notices ∷ p10 in
    let p8 : List (List ℕ) = counted queued_bytes b.replies ∷ p9 in
    let p7 : List (List ℕ) = counted queued_bytes b.requests ∷ p8 in
    let p6 : List (List ℕ) = flat_map handler_bytes b.handlers ∷ p7 in
    let p5 : List (List ℕ) = counted record_bytes b.awaited ∷ p6 in
    let p4 : List (List ℕ) = flat_map mapping_bytes b.mapped ∷ p5 in
    let p3 : List (List ℕ) = short b.accepted ∷ p4 in
    let p2 : List (List ℕ) = long b.sum ∷ p3 in
    let p1 : List (List ℕ) = long b.tag.0 ∷ p2 in
    step _ _ _ _ (magic_again p1)
    (step _ _ _ _ (long_reader.again b.tag.0 (in_turn p2) is.tag)
    (step _ _ _ _ (long_reader.again b.sum (in_turn p3) is.sum)
    (step _ _ _ _ (short_reader.again b.accepted (in_turn p4) is.accepted)
    (step _ _ _ _ (sixteen_again fits_mapping mapping_bytes mapping_at mapping_reader b.mapped p5 is.indexes is.mapped)
    (step _ _ _ _ ((counted_reader (fits_own e) record_bytes (record_at e) (record_reader e)).again b.awaited (in_turn p6) is.awaited)
    (step _ _ _ _ (sixteen_again fits_handler handler_bytes handler_at handler_reader b.handlers p7 is.slots is.handlers)
    (step _ _ _ _ ((counted_reader fits_queued queued_bytes message_at message_reader).again b.requests (in_turn p8) is.requests)
    (step _ _ _ _ ((counted_reader fits_queued queued_bytes message_at message_reader).again b.replies (in_turn p9) is.replies)
    (step _ _ _ _ ((counted_reader fits_notice notice_bytes notice_at notice_reader).again b.notices (in_turn p10) is.notices)
    (step _ _ _ _ ((counted_reader fits_message received_bytes received_at received_reader).again b.received [] is.received)
    (ap made (sym is.none_in_flight))))))))))))
  where
    made : List Flying → Read Body
    made flying = Some (record b { in_flight = flying }, [])

pub whole_again : (e : EndpointId) (b : Body) → IsWritten e b → whole_body e (image b) ≡ Some b
unfolding whole_body
whole_again e b is = step _ _ _ _ (body_again e b is) refl

-- ---- a valid body is written and read again

both_pass : {X : Type 0} (p q r : X → Bool) → ((x : X) → p x ≡ true → q x ≡ true → r x ≡ true) → (xs : List X) → list_all p xs ≡ true → list_all q xs ≡ true →
    list_all r xs ≡ true
both_pass p q r each [] ps qs = refl
both_pass p q r each (x ∷ xs) ps qs =
    and_from (r x) (list_all r xs) (each x (and_first (p x) (list_all p xs) ps) (and_first (q x) (list_all q xs) qs))
    (both_pass p q r each xs (and_second (p x) (list_all p xs) ps) (and_second (q x) (list_all q xs) qs))

few : {X : Type 0} (fits : X → Bool) (xs : List X) → length xs < 256 → list_all fits xs ≡ true → fits_counted fits xs ≡ true
few fits xs less h = and_from (is_byte (length xs)) (list_all fits xs) (lt-ltb _ _ less) h

own_record : (e : EndpointId) (b : Body) (a : Awaited) → is_record e b.mapped a ≡ true → fits_record a ≡ true → fits_own e a ≡ true
own_record e b a p q = and_from (same_end e a.serial.source) (fits_record a) (and_first (same_end e a.serial.source) _ p) q

pub is_written : (e : EndpointId) (pool : Option ℕ) (b : Body) → IsValid e pool b → IsWritten e b
is_written e pool b is =
    let held : requests_held b ≤ 16 = is.within.requests in
    let held_replies : replies_held b ≤ 16 = is.within.replies in
    let noticed : length b.notices ≡ count_by (λ (n : Notice). is_request n.message) b.notices + count_by (λ (n : Notice). is_reply n.message) b.notices =
    split (λ (n : Notice). n.message) b.notices in
    let arrived : length b.received ≡ count_by is_request b.received + count_by is_reply b.received = split (λ (m : Message). m) b.received in
    let requests : length b.requests < 256 = omega (arith, held) in
    let replies : length b.replies < 256 = omega (arith, held_replies) in
    let notices : length b.notices < 256 = omega (arith, held, held_replies, noticed) in
    let received : length b.received < 256 = omega (
      arith,
      arrived,
      is.within.received,
      is.within.answers,
      is.within.awaited,
      count_by-le-length is_arrived b.awaited,
    ) in
    record {
      none_in_flight = is.none_in_flight;
      tag = lt-ltb _ _ is.in_range.tag;
      sum = lt-ltb _ _ is.in_range.sum;
      accepted = lt-ltb _ _ is.in_range.accepted;
      indexes = is.valid.indexes;
      mapped = is.in_range.mapped;
      awaited = few (fits_own e) b.awaited (omega (arith, is.within.awaited)) (both_pass (is_record e b.mapped) fits_record (fits_own e) (own_record e b)
          b.awaited is.valid.records is.in_range.awaited);
      slots = is.valid.handlers;
      handlers = is.in_range.handlers;
      requests = few fits_queued b.requests requests is.in_range.requests;
      replies = few fits_queued b.replies replies is.in_range.replies;
      notices = few fits_notice b.notices notices is.in_range.notices;
      received = few fits_message b.received received is.in_range.received;
    }

pub each_body_has_its_image : EachBodyHasItsImage
each_body_has_its_image e pool a b is_a is_b h =
    some_is a b (sym (whole_again e a (is_written e pool a is_a)) ∙ (ap (whole_body e) h ∙ whole_again e b (is_written e pool b is_b)))

-- ---- what is read is the image of what was read

pub record TookAll (e : EndpointId) (bytes : List ℕ) (b : Body) (rest : List ℕ) : Type 0 where
  pub parts : bytes ≡ image b ++ rest
  pub written : IsWritten e b

magic_takes : (bytes rest : List ℕ) → magic_at bytes ≡ Some rest → bytes ≡ magic ++ rest
unfolding magic_at
magic_takes bytes rest e =
    let g = cond_some (starts_with nat_eq bytes magic) (drop 5 bytes) rest e in
    let told = starts_is Decides-eqb bytes magic (starts_with nat_eq bytes magic) refl in
    told.0 g.0 ∙ ap (λ (w : List ℕ). magic ++ w) g.1

magic_fits : (bytes rest : List ℕ) → AreBytes bytes → magic_at bytes ≡ Some rest → AreBytes rest
unfolding magic_at
magic_fits bytes rest fits e =
    let g = cond_some (starts_with nat_eq bytes magic) (drop 5 bytes) rest e in
    subst AreBytes g.1 (bytes-drop 5 bytes fits)

-- the parts of a body, each taken behind the one before it
body_parts : (bytes head : List ℕ) (t s a : ℕ × List ℕ) (m : List (Option Mapping) × List ℕ) (w : List Awaited × List ℕ)
    (h : List (Option HandlerKind) × List ℕ) (q p : List Queued × List ℕ) (n : List Notice × List ℕ) (r : List Message × List ℕ) → bytes ≡ magic ++ head →
    head ≡ long t.0 ++ t.1 → t.1 ≡ long s.0 ++ s.1 → s.1 ≡ short a.0 ++ a.1 → a.1 ≡ flat_map mapping_bytes m.0 ++ m.1 → m.1 ≡ counted record_bytes w.0 ++ w.1 →
    w.1 ≡ flat_map handler_bytes h.0 ++ h.1 → h.1 ≡ counted queued_bytes q.0 ++ q.1 → q.1 ≡ counted queued_bytes p.0 ++ p.1 →
    p.1 ≡ counted notice_bytes n.0 ++ n.1 → n.1 ≡ counted received_bytes r.0 ++ r.1 → bytes ≡ image (body_of t.0 s.0 a.0 m.0 w.0 h.0 q.0 p.0 n.0 r.0) ++ r.1
body_parts bytes head t s a m w h q p n r eg et es ea em ew eh eq ep en er =
    let p10 : List (List ℕ) = counted received_bytes r.0 ∷ [] in
    let p9 : List (List ℕ) = counted notice_bytes n.0 ∷ p10 in
    let p8 : List (List ℕ) = counted queued_bytes p.0 ∷ p9 in
    let p7 : List (List ℕ) = counted queued_bytes q.0 ∷ p8 in
    let p6 : List (List ℕ) = flat_map handler_bytes h.0 ∷ p7 in
    let p5 : List (List ℕ) = counted record_bytes w.0 ∷ p6 in
    let p4 : List (List ℕ) = flat_map mapping_bytes m.0 ∷ p5 in
    let p3 : List (List ℕ) = short a.0 ∷ p4 in
    let p2 : List (List ℕ) = long s.0 ∷ p3 in
    let p1 : List (List ℕ) = long t.0 ∷ p2 in
    let e10 : n.1 ≡ in_turn p10 ++ r.1 = turn_parts n.1 (counted received_bytes r.0) r.1 [] r.1 er refl in
    let e9 : p.1 ≡ in_turn p9 ++ r.1 = turn_parts p.1 (counted notice_bytes n.0) n.1 p10 r.1 en e10 in
    let e8 : q.1 ≡ in_turn p8 ++ r.1 = turn_parts q.1 (counted queued_bytes p.0) p.1 p9 r.1 ep e9 in
    let e7 : h.1 ≡ in_turn p7 ++ r.1 = turn_parts h.1 (counted queued_bytes q.0) q.1 p8 r.1 eq e8 in
    let e6 : w.1 ≡ in_turn p6 ++ r.1 = turn_parts w.1 (flat_map handler_bytes h.0) h.1 p7 r.1 eh e7 in
    let e5 : m.1 ≡ in_turn p5 ++ r.1 = turn_parts m.1 (counted record_bytes w.0) w.1 p6 r.1 ew e6 in
    let e4 : a.1 ≡ in_turn p4 ++ r.1 = turn_parts a.1 (flat_map mapping_bytes m.0) m.1 p5 r.1 em e5 in
    let e3 : s.1 ≡ in_turn p3 ++ r.1 = turn_parts s.1 (short a.0) a.1 p4 r.1 ea e4 in
    let e2 : t.1 ≡ in_turn p2 ++ r.1 = turn_parts t.1 (long s.0) s.1 p3 r.1 es e3 in
    let e1 : head ≡ in_turn p1 ++ r.1 = turn_parts head (long t.0) t.1 p2 r.1 et e2 in
    turn_parts bytes magic head p1 r.1 eg e1

body_takes : (e : EndpointId) (bytes : List ℕ) (x : Body) (rest : List ℕ) → AreBytes bytes → body_at e bytes ≡ Some (x, rest) → TookAll e bytes x rest
unfolding body_at
body_takes e bytes x rest fits is =
    then_some (magic_at bytes) _ (x, rest) is (λ g eg g'.
    let gf = magic_fits bytes g fits eg in
    then_some (long_at g) _ (x, rest) g' (λ t et t'.
    let tf = long_reader.takes g t.0 t.1 gf et in
    then_some (long_at t.1) _ (x, rest) t' (λ s es s'.
    let sf = long_reader.takes t.1 s.0 s.1 tf.rest_fits es in
    then_some (short_at s.1) _ (x, rest) s' (λ a ea a'.
    let af = short_reader.takes s.1 a.0 a.1 sf.rest_fits ea in
    then_some (many_at mapping_at 16 a.1) _ (x, rest) a' (λ m em m'.
    let mf = many_takes fits_mapping mapping_bytes mapping_at mapping_reader 16 a.1 m.0 m.1 af.rest_fits em in
    then_some (counted_at (record_at e) m.1) _ (x, rest) m' (λ w ew w'.
    let wf = (counted_reader (fits_own e) record_bytes (record_at e) (record_reader e)).takes m.1 w.0 w.1 mf.took.rest_fits ew in
    then_some (many_at handler_at 16 w.1) _ (x, rest) w' (λ h eh h'.
    let hf = many_takes fits_handler handler_bytes handler_at handler_reader 16 w.1 h.0 h.1 wf.rest_fits eh in
    then_some (counted_at message_at h.1) _ (x, rest) h' (λ q eq q'.
    let qf = (counted_reader fits_queued queued_bytes message_at message_reader).takes h.1 q.0 q.1 hf.took.rest_fits eq in
    then_some (counted_at message_at q.1) _ (x, rest) q' (λ p ep p'.
    let pf = (counted_reader fits_queued queued_bytes message_at message_reader).takes q.1 p.0 p.1 qf.rest_fits ep in
    then_some (counted_at notice_at p.1) _ (x, rest) p' (λ n en n'.
    let nf = (counted_reader fits_notice notice_bytes notice_at notice_reader).takes p.1 n.0 n.1 pf.rest_fits en in
    then_some (counted_at received_at n.1) _ (x, rest) n' (λ r er r'.
    let rf = (counted_reader fits_message received_bytes received_at received_reader).takes n.1 r.0 r.1 nf.rest_fits er in
    let b : Body = body_of t.0 s.0 a.0 m.0 w.0 h.0 q.0 p.0 n.0 r.0 in
    let read : Body × List ℕ = (b, r.1) in
    subst (λ (y : Body × List ℕ). TookAll e bytes y.0 y.1) (some_is read (x, rest) r')
    (record {
      parts = body_parts bytes g t s a m w h q p n r (magic_takes bytes g eg) tf.parts sf.parts af.parts mf.took.parts wf.parts hf.took.parts qf.parts pf.parts
          nf.parts rf.parts;
      written =
          record {
            none_in_flight = refl;
            tag = tf.in_range;
            sum = sf.in_range;
            accepted = af.in_range;
            indexes = mf.len;
            mapped = mf.took.in_range;
            awaited = wf.in_range;
            slots = hf.len;
            handlers = hf.took.in_range;
            requests = qf.in_range;
            replies = pf.in_range;
            notices = nf.in_range;
            received = rf.in_range;
          };
    }))))))))))))

pub record IsImage (e : EndpointId) (bytes : List ℕ) (b : Body) : Type 0 where
  pub image_is : image b ≡ bytes
  pub written : IsWritten e b

pub whole_takes : (e : EndpointId) (bytes : List ℕ) (b : Body) → AreBytes bytes → whole_body e bytes ≡ Some b → IsImage e bytes b
unfolding whole_body
whole_takes e bytes b fits is =
    then_some (body_at e bytes) _ b is (λ x ex x'.
    let took : TookAll e bytes x.0 x.1 = body_takes e bytes x.0 x.1 fits ex in
    let g = cond_some (length x.1 == 0) x.0 b x' in
    let nothing : x.1 ≡ [] = nil_from_length x.1 (eqb-true _ _ g.0) in
    let whole : image x.0 ≡ bytes = sym (took.parts ∙ (ap (λ (w : List ℕ). image x.0 ++ w) nothing ∙ append-nil (image x.0))) in
    let x-is : x.0 ≡ b = g.1 in
    subst (λ (y : Body). IsImage e bytes y) x-is (record { image_is = whole; written = took.written }))

pub images_are_read : ImagesAreRead
images_are_read e pool b is = whole_again e b (is_written e pool b is)

pub reading_is_of_images : ReadingIsOfImages
reading_is_of_images e bytes b fits is = (whole_takes e bytes b fits is).image_is
