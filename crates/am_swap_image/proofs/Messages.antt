-- Messages are read as they were written.
use Rattle.std.proofs.Common.{◌≡◌, ℕ, true, ◌&&◌, List, [], ◌∷◌, ◌++◌, Option, Some, None, refl, sym, ap, subst, ◌∙◌}
use Rattle.std.specs.Prelude.{◌==◌}
use Rattle.std.proofs.lemmas.Bool.{eqb-true, and_from}
use Rattle.std.proofs.lemmas.Option.{cond_some}
use Rattle.am_lemmas.specs.Bytes.{AreBytes}
use Rattle.am_lemmas.proofs.Bools.{and_first, and_second}
use Rattle.am_lemmas.proofs.Binds.{bind_some}
use Rattle.am_names.specs.declared.Serial.{Serial}
use Rattle.am_names.specs.declared.Words.{Words}
use Rattle.am_names.specs.declared.MsgKind.{MsgKind}
use Rattle.am_names.specs.declared.MsgKind.TheVariants as Kind
use Rattle.am_names.specs.declared.Cause.TheVariants as Causes
use Rattle.am_names.specs.declared.Why.{Why}
use Rattle.am_names.specs.declared.Why.TheVariants as Whys
use Rattle.am_names.specs.declared.Message.{Message}
use Rattle.am_model.specs.declared.Queued.{Queued}
use Rattle.am_model.specs.declared.Notice.{Notice}
use Rattle.am_model.specs.History.{is_byte, is_four_bytes, is_eight_bytes, are_words_in_range}
use Rattle.am_swap_image.specs.Image.{in_turn, byte, short, long, serial_bytes, words_bytes, about_bytes, kind_number, why_number, message_bytes, queued_bytes}
use Rattle.am_swap_image.specs.Image.{notice_bytes, received_bytes}
use Rattle.am_swap_image.specs.Range.{fits_serial, fits_about, fits_message, fits_queued, fits_notice}
use Rattle.am_swap_image.specs.Reading.{Read, byte_at, short_at, long_at, serial_at, words_at, some_serial_at, about_at, kind_of, why_of, made, message_at}
use Rattle.am_swap_image.specs.Reading.{notice_at, received_at}
use Rattle.am_swap_image.proofs.Fields.{Took, IsReader, then_some, step, some_is, none_some, by_mark, by_number, turn_again, turn_parts, byte_reader}
use Rattle.am_swap_image.proofs.Fields.{short_reader, long_reader}

-- ---- serials and words

serial_takes : (bytes : List ℕ) (x : Serial) (rest : List ℕ) → AreBytes bytes → serial_at bytes ≡ Some (x, rest) → Took fits_serial serial_bytes bytes x rest
unfolding serial_at
serial_takes bytes x rest fits e =
    let a = bind_some (byte_at bytes) _ (x, rest) e in
    let b = bind_some (short_at a.0.1) _ (x, rest) a.2 in
    let t0 = byte_reader.takes bytes a.0.0 a.0.1 fits a.1 in
    let t1 = short_reader.takes a.0.1 b.0.0 b.0.1 t0.rest_fits b.1 in
    let made : Serial × List ℕ = (record { source = record { 0 = a.0.0 }; count = b.0.0 }, b.0.1) in
    subst (λ (y : Serial × List ℕ). Took fits_serial serial_bytes bytes y.0 y.1) (some_is made (x, rest) b.2)
    (record {
      parts = turn_parts bytes (byte a.0.0) a.0.1 (short b.0.0 ∷ []) b.0.1 t0.parts (turn_parts a.0.1 (short b.0.0) b.0.1 [] b.0.1 t1.parts refl);
      rest_fits = t1.rest_fits;
      in_range = and_from (is_byte a.0.0) (is_four_bytes b.0.0) t0.in_range t1.in_range;
    })

serial_again : (x : Serial) (rest : List ℕ) → fits_serial x ≡ true → serial_at (serial_bytes x ++ rest) ≡ Some (x, rest)
unfolding serial_at
serial_again x rest h =
    let b : is_byte x.source.0 ≡ true = and_first (is_byte x.source.0) (is_four_bytes x.count) h in
    let s : is_four_bytes x.count ≡ true = and_second (is_byte x.source.0) (is_four_bytes x.count) h in
    step _ _ _ _ (turn_again is_byte byte byte_at byte_reader x.source.0 (short x.count ∷ []) rest b)
    (step _ _ _ _ (turn_again is_four_bytes short short_at short_reader x.count [] rest s) refl)

pub serial_reader : IsReader fits_serial serial_bytes serial_at
serial_reader = record { takes = serial_takes; again = serial_again }

words_takes : (bytes : List ℕ) (x : Words) (rest : List ℕ) → AreBytes bytes → words_at bytes ≡ Some (x, rest) → Took are_words_in_range words_bytes bytes x rest
unfolding words_at
words_takes bytes x rest fits e =
    let a = bind_some (long_at bytes) _ (x, rest) e in
    let b = bind_some (long_at a.0.1) _ (x, rest) a.2 in
    let c = bind_some (long_at b.0.1) _ (x, rest) b.2 in
    let d = bind_some (long_at c.0.1) _ (x, rest) c.2 in
    let t0 = long_reader.takes bytes a.0.0 a.0.1 fits a.1 in
    let t1 = long_reader.takes a.0.1 b.0.0 b.0.1 t0.rest_fits b.1 in
    let t2 = long_reader.takes b.0.1 c.0.0 c.0.1 t1.rest_fits c.1 in
    let t3 = long_reader.takes c.0.1 d.0.0 d.0.1 t2.rest_fits d.1 in
    let made : Words × List ℕ = (record { a = a.0.0; b = b.0.0; c = c.0.0; d = d.0.0 }, d.0.1) in
    let p3 : c.0.1 ≡ in_turn (long d.0.0 ∷ []) ++ d.0.1 = turn_parts c.0.1 (long d.0.0) d.0.1 [] d.0.1 t3.parts refl in
    let p2 : b.0.1 ≡ in_turn (long c.0.0 ∷ long d.0.0 ∷ []) ++ d.0.1 = turn_parts b.0.1 (long c.0.0) c.0.1 (long d.0.0 ∷ []) d.0.1 t2.parts p3 in
    let p1 : a.0.1 ≡ in_turn (long b.0.0 ∷ long c.0.0 ∷ long d.0.0 ∷ []) ++ d.0.1 =
    turn_parts a.0.1 (long b.0.0) b.0.1 (long c.0.0 ∷ long d.0.0 ∷ []) d.0.1 t1.parts p2 in
    let first_two : (is_eight_bytes a.0.0 && is_eight_bytes b.0.0) ≡ true = and_from (is_eight_bytes a.0.0) (is_eight_bytes b.0.0) t0.in_range t1.in_range in
    let first_three : (is_eight_bytes a.0.0 && is_eight_bytes b.0.0 && is_eight_bytes c.0.0) ≡ true =
    and_from (is_eight_bytes a.0.0 && is_eight_bytes b.0.0) (is_eight_bytes c.0.0) first_two t2.in_range in
    subst (λ (y : Words × List ℕ). Took are_words_in_range words_bytes bytes y.0 y.1) (some_is made (x, rest) d.2)
    (record {
      parts = turn_parts bytes (long a.0.0) a.0.1 (long b.0.0 ∷ long c.0.0 ∷ long d.0.0 ∷ []) d.0.1 t0.parts p1;
      rest_fits = t3.rest_fits;
      in_range = and_from (is_eight_bytes a.0.0 && is_eight_bytes b.0.0 && is_eight_bytes c.0.0) (is_eight_bytes d.0.0) first_three t3.in_range;
    })

words_again : (x : Words) (rest : List ℕ) → are_words_in_range x ≡ true → words_at (words_bytes x ++ rest) ≡ Some (x, rest)
unfolding words_at
words_again x rest h =
    let abc : (is_eight_bytes x.a && is_eight_bytes x.b && is_eight_bytes x.c) ≡ true =
    and_first (is_eight_bytes x.a && is_eight_bytes x.b && is_eight_bytes x.c) (is_eight_bytes x.d) h in
    let ab : (is_eight_bytes x.a && is_eight_bytes x.b) ≡ true = and_first (is_eight_bytes x.a && is_eight_bytes x.b) (is_eight_bytes x.c) abc in
    step _ _ _ _ (turn_again is_eight_bytes long long_at long_reader x.a (long x.b ∷ long x.c ∷ long x.d ∷ []) rest
    (and_first (is_eight_bytes x.a) (is_eight_bytes x.b) ab))
    (step _ _ _ _ (turn_again is_eight_bytes long long_at long_reader x.b (long x.c ∷ long x.d ∷ []) rest
    (and_second (is_eight_bytes x.a) (is_eight_bytes x.b) ab))
    (step _ _ _ _ (turn_again is_eight_bytes long long_at long_reader x.c (long x.d ∷ []) rest
    (and_second (is_eight_bytes x.a && is_eight_bytes x.b) (is_eight_bytes x.c) abc))
    (step _ _ _ _ (turn_again is_eight_bytes long long_at long_reader x.d [] rest (and_second (is_eight_bytes x.a && is_eight_bytes x.b && is_eight_bytes x.c)
    (is_eight_bytes x.d) h)) refl)))

pub words_reader : IsReader are_words_in_range words_bytes words_at
words_reader = record { takes = words_takes; again = words_again }

-- ---- the request that is named, if one is

abbrev none_read : List ℕ → Read (Option Serial)
none_read rest = Some (None, rest)

some_serial_takes : (bytes : List ℕ) (x : Option Serial) (rest : List ℕ) → AreBytes bytes → some_serial_at bytes ≡ Some (x, rest) →
    Took fits_about about_bytes (1 ∷ bytes) x rest
unfolding some_serial_at
some_serial_takes bytes x rest fits e =
    let a = bind_some (serial_at bytes) _ (x, rest) e in
    let t = serial_reader.takes bytes a.0.0 a.0.1 fits a.1 in
    let made : Option Serial × List ℕ = (Some a.0.0, a.0.1) in
    let p : bytes ≡ in_turn (serial_bytes a.0.0 ∷ []) ++ a.0.1 = turn_parts bytes (serial_bytes a.0.0) a.0.1 [] a.0.1 t.parts refl in
    subst (λ (y : Option Serial × List ℕ). Took fits_about about_bytes (1 ∷ bytes) y.0 y.1) (some_is made (x, rest) a.2)
    (record { parts = ap (λ (w : List ℕ). 1 ∷ w) p; rest_fits = t.rest_fits; in_range = t.in_range })

about_takes : (bytes : List ℕ) (x : Option Serial) (rest : List ℕ) → AreBytes bytes → about_at bytes ≡ Some (x, rest) → Took fits_about about_bytes bytes x rest
unfolding about_at
about_takes bytes x rest fits e =
    let a = bind_some (byte_at bytes) _ (x, rest) e in
    let t = byte_reader.takes bytes a.0.0 a.0.1 fits a.1 in
    by_mark a.0.0 0 _ _ (x, rest) (λ is h. with_mark 0 a.0.0 a.0.1 is t (none a.0.1 t.rest_fits h))
    (by_mark a.0.0 1 _ _ (x, rest) (λ is h. with_mark 1 a.0.0 a.0.1 is t (some_serial_takes a.0.1 x rest t.rest_fits h)) (λ h. absurd (none_some (x, rest) h)))
    a.2
  where
    with_mark : (n mark : ℕ) (after : List ℕ) → mark ≡ n → Took is_byte byte bytes mark after → Took fits_about about_bytes (n ∷ after) x rest →
        Took fits_about about_bytes bytes x rest
    with_mark n mark after is t took = subst (λ (w : List ℕ). Took fits_about about_bytes w x rest) (sym (t.parts ∙ ap (λ (k : ℕ). k ∷ after) is)) took

    none : (after : List ℕ) → AreBytes after → none_read after ≡ Some (x, rest) → Took fits_about about_bytes (0 ∷ after) x rest
    none after after_fits h =
        let read : Option Serial × List ℕ = (None, after) in
        subst (λ (y : Option Serial × List ℕ). Took fits_about about_bytes (0 ∷ after) y.0 y.1) (some_is read (x, rest) h) (record {
          parts = refl;
          rest_fits = after_fits;
          in_range = refl;
        })

about_again : (x : Option Serial) (rest : List ℕ) → fits_about x ≡ true → about_at (about_bytes x ++ rest) ≡ Some (x, rest)
unfolding about_at some_serial_at byte_at
about_again None rest h = refl
about_again (Some s) rest h = step _ _ _ _ (turn_again fits_serial serial_bytes serial_at serial_reader s [] rest h) refl

pub about_reader : IsReader fits_about about_bytes about_at
about_reader = record { takes = about_takes; again = about_again }

-- ---- kinds and causes

pub kind_back : (kind : MsgKind) → kind_of (kind_number kind) ≡ Some kind
unfolding kind_of
kind_back Kind.Request = refl
kind_back Kind.Reply = refl
kind_back Kind.Empty = refl

pub kind_takes : (number : ℕ) (kind : MsgKind) → kind_of number ≡ Some kind → number ≡ kind_number kind
unfolding kind_of
kind_takes number kind e =
    by_number kind_number number 0 Kind.Request _ kind refl
    (by_number kind_number number 1 Kind.Reply _ kind refl (by_number kind_number number 2 Kind.Empty _ kind refl (λ h. absurd (none_some kind h)))) e

pub why_back : (why : Why) → why_of (why_number why) ≡ Some why
unfolding why_of
why_back Whys.Unknown = refl
why_back (Whys.Refused Causes.NoEndpoint) = refl
why_back (Whys.Refused Causes.NotResident) = refl
why_back (Whys.Refused Causes.BadTag) = refl
why_back (Whys.Refused Causes.BadHandler) = refl
why_back (Whys.Refused Causes.QueueFull) = refl
why_back (Whys.Refused Causes.NoRequest) = refl

pub why_takes : (number : ℕ) (why : Why) → why_of number ≡ Some why → number ≡ why_number why
unfolding why_of
why_takes number why e =
    by_number why_number number 0 Whys.Unknown _ why refl
    (by_number why_number number 1 (Whys.Refused Causes.NoEndpoint) _ why refl
    (by_number why_number number 2 (Whys.Refused Causes.NotResident) _ why refl
    (by_number why_number number 3 (Whys.Refused Causes.BadTag) _ why refl
    (by_number why_number number 4 (Whys.Refused Causes.BadHandler) _ why refl
    (by_number why_number number 5 (Whys.Refused Causes.QueueFull) _ why refl
    (by_number why_number number 6 (Whys.Refused Causes.NoRequest) _ why refl (λ h. absurd (none_some why h)))))))) e

-- ---- messages

-- the parts of a message, each taken behind the one before it
message_parts : (bytes : List ℕ) (k : MsgKind) (a : Serial × List ℕ) (b : ℕ × List ℕ) (d : ℕ × List ℕ) (t : ℕ × List ℕ) (h : ℕ × List ℕ) (w : Words × List ℕ)
    (r : ℕ × List ℕ) (o : (Option Serial) × List ℕ) (n : ℕ × List ℕ) → bytes ≡ serial_bytes a.0 ++ a.1 → a.1 ≡ byte (kind_number k) ++ b.1 →
    b.1 ≡ byte d.0 ++ d.1 → d.1 ≡ long t.0 ++ t.1 → t.1 ≡ byte h.0 ++ h.1 → h.1 ≡ words_bytes w.0 ++ w.1 → w.1 ≡ long r.0 ++ r.1 →
    r.1 ≡ about_bytes o.0 ++ o.1 → o.1 ≡ byte n.0 ++ n.1 → bytes ≡ message_bytes (made a.0 k d.0 t.0 h.0 w.0 r.0 o.0) n.0 ++ n.1
message_parts bytes k a b d t h w r o n ea eb ed et eh ew er eo en =
    let pn : o.1 ≡ in_turn (byte n.0 ∷ []) ++ n.1 = turn_parts o.1 (byte n.0) n.1 [] n.1 en refl in
    let po : r.1 ≡ in_turn (about_bytes o.0 ∷ byte n.0 ∷ []) ++ n.1 = turn_parts r.1 (about_bytes o.0) o.1 (byte n.0 ∷ []) n.1 eo pn in
    let pr : w.1 ≡ in_turn (long r.0 ∷ about_bytes o.0 ∷ byte n.0 ∷ []) ++ n.1 = turn_parts w.1 (long r.0) r.1 (about_bytes o.0 ∷ byte n.0 ∷ []) n.1 er po in
    let pw : h.1 ≡ in_turn (words_bytes w.0 ∷ long r.0 ∷ about_bytes o.0 ∷ byte n.0 ∷ []) ++ n.1 =
    turn_parts h.1 (words_bytes w.0) w.1 (long r.0 ∷ about_bytes o.0 ∷ byte n.0 ∷ []) n.1 ew pr in
    let ph : t.1 ≡ in_turn (byte h.0 ∷ words_bytes w.0 ∷ long r.0 ∷ about_bytes o.0 ∷ byte n.0 ∷ []) ++ n.1 =
    turn_parts t.1 (byte h.0) h.1 (words_bytes w.0 ∷ long r.0 ∷ about_bytes o.0 ∷ byte n.0 ∷ []) n.1 eh pw in
    let pt : d.1 ≡ in_turn (long t.0 ∷ byte h.0 ∷ words_bytes w.0 ∷ long r.0 ∷ about_bytes o.0 ∷ byte n.0 ∷ []) ++ n.1 =
    turn_parts d.1 (long t.0) t.1 (byte h.0 ∷ words_bytes w.0 ∷ long r.0 ∷ about_bytes o.0 ∷ byte n.0 ∷ []) n.1 et ph in
    let pd : b.1 ≡ in_turn (byte d.0 ∷ long t.0 ∷ byte h.0 ∷ words_bytes w.0 ∷ long r.0 ∷ about_bytes o.0 ∷ byte n.0 ∷ []) ++ n.1 =
    turn_parts b.1 (byte d.0) d.1 (long t.0 ∷ byte h.0 ∷ words_bytes w.0 ∷ long r.0 ∷ about_bytes o.0 ∷ byte n.0 ∷ []) n.1 ed pt in
    let pb : a.1 ≡ in_turn (byte (kind_number k) ∷ byte d.0 ∷ long t.0 ∷ byte h.0 ∷ words_bytes w.0 ∷ long r.0 ∷ about_bytes o.0 ∷ byte n.0 ∷ []) ++ n.1 =
    turn_parts a.1 (byte (kind_number k)) b.1 (byte d.0 ∷ long t.0 ∷ byte h.0 ∷ words_bytes w.0 ∷ long r.0 ∷ about_bytes o.0 ∷ byte n.0 ∷ []) n.1 eb pd in
    turn_parts bytes (serial_bytes a.0) a.1 (byte (kind_number k) ∷ byte d.0 ∷ long t.0 ∷ byte h.0 ∷ words_bytes w.0 ∷ long r.0 ∷ about_bytes o.0 ∷ byte
    n.0 ∷ []) n.1 ea pb

message_fits : (a : Serial) (k : MsgKind) (d t h : ℕ) (w : Words) (r : ℕ) (o : Option Serial) → fits_serial a ≡ true → is_byte d ≡ true →
    is_eight_bytes t ≡ true → is_byte h ≡ true → are_words_in_range w ≡ true → is_eight_bytes r ≡ true → fits_about o ≡ true →
    fits_message (made a k d t h w r o) ≡ true
message_fits a k d t h w r o fa fd ft fh fw fr fo =
    and_from (fits_serial a) _ fa (and_from (is_byte d) _ fd (and_from (is_eight_bytes t) _ ft
    (and_from (is_byte h) _ fh (and_from (are_words_in_range w) _ fw (and_from (is_eight_bytes r) (fits_about o) fr fo)))))

message_takes : (bytes : List ℕ) (x : Queued) (rest : List ℕ) → AreBytes bytes → message_at bytes ≡ Some (x, rest) → Took fits_queued queued_bytes bytes x rest
unfolding message_at
message_takes bytes x rest fits e =
    then_some (serial_at bytes) _ (x, rest) e (λ a ea a'.
    let at = serial_reader.takes bytes a.0 a.1 fits ea in
    then_some (byte_at a.1) _ (x, rest) a' (λ b eb b'.
    let bt = byte_reader.takes a.1 b.0 b.1 at.rest_fits eb in
    then_some (kind_of b.0) _ (x, rest) b' (λ k ek k'.
    then_some (byte_at b.1) _ (x, rest) k' (λ d ed d'.
    let dt = byte_reader.takes b.1 d.0 d.1 bt.rest_fits ed in
    then_some (long_at d.1) _ (x, rest) d' (λ t et t'.
    let tt' = long_reader.takes d.1 t.0 t.1 dt.rest_fits et in
    then_some (byte_at t.1) _ (x, rest) t' (λ h eh h'.
    let ht = byte_reader.takes t.1 h.0 h.1 tt'.rest_fits eh in
    then_some (words_at h.1) _ (x, rest) h' (λ w ew w'.
    let wt = words_reader.takes h.1 w.0 w.1 ht.rest_fits ew in
    then_some (long_at w.1) _ (x, rest) w' (λ r er r'.
    let rt = long_reader.takes w.1 r.0 r.1 wt.rest_fits er in
    then_some (about_at r.1) _ (x, rest) r' (λ o eo o'.
    let ot = about_reader.takes r.1 o.0 o.1 rt.rest_fits eo in
    then_some (byte_at o.1) _ (x, rest) o' (λ n en n'.
    let nt = byte_reader.takes o.1 n.0 n.1 ot.rest_fits en in
    let read : Queued × List ℕ = (record { message = made a.0 k d.0 t.0 h.0 w.0 r.0 o.0; bounces = n.0 }, n.1) in
    subst (λ (y : Queued × List ℕ). Took fits_queued queued_bytes bytes y.0 y.1) (some_is read (x, rest) n')
    (record {
      parts = message_parts bytes k a b d t h w r o n at.parts (bt.parts
          ∙ ap (λ (i : ℕ). i ∷ b.1) (kind_takes b.0 k ek)) dt.parts tt'.parts ht.parts wt.parts rt.parts ot.parts nt.parts;
      rest_fits = nt.rest_fits;
      in_range = and_from (fits_message (made a.0 k d.0 t.0 h.0 w.0 r.0 o.0)) (is_byte n.0)
          (message_fits a.0 k d.0 t.0 h.0 w.0 r.0 o.0 at.in_range dt.in_range tt'.in_range ht.in_range wt.in_range rt.in_range ot.in_range) nt.in_range;
    })))))))))))

kind_fits : (kind : MsgKind) → is_byte (kind_number kind) ≡ true
kind_fits Kind.Request = refl
kind_fits Kind.Reply = refl
kind_fits Kind.Empty = refl

message_again : (x : Queued) (rest : List ℕ) → fits_queued x ≡ true → message_at (queued_bytes x ++ rest) ≡ Some (x, rest)
unfolding message_at
message_again x rest h =
    let m : Message = x.message in
    let g0 : fits_message m ≡ true = and_first (fits_message m) (is_byte x.bounces) h in
    let g1 : (is_byte m.dest.0 && (is_eight_bytes m.tag.0 && (is_byte m.handler && (are_words_in_range m.words &&
    (is_eight_bytes m.reply_tag.0 && fits_about m.about))))) ≡ true =
    and_second (fits_serial m.serial) (is_byte m.dest.0 && (is_eight_bytes m.tag.0 &&
    (is_byte m.handler && (are_words_in_range m.words && (is_eight_bytes m.reply_tag.0 && fits_about m.about))))) g0 in
    let g2 : (is_eight_bytes m.tag.0 && (is_byte m.handler && (are_words_in_range m.words && (is_eight_bytes m.reply_tag.0 && fits_about m.about)))) ≡ true =
    and_second (is_byte m.dest.0) (is_eight_bytes m.tag.0 && (is_byte m.handler &&
    (are_words_in_range m.words && (is_eight_bytes m.reply_tag.0 && fits_about m.about)))) g1 in
    let g3 : (is_byte m.handler && (are_words_in_range m.words && (is_eight_bytes m.reply_tag.0 && fits_about m.about))) ≡ true =
    and_second (is_eight_bytes m.tag.0) (is_byte m.handler && (are_words_in_range m.words && (is_eight_bytes m.reply_tag.0 && fits_about m.about))) g2 in
    let g4 : (are_words_in_range m.words && (is_eight_bytes m.reply_tag.0 && fits_about m.about)) ≡ true =
    and_second (is_byte m.handler) (are_words_in_range m.words && (is_eight_bytes m.reply_tag.0 && fits_about m.about)) g3 in
    let g5 : (is_eight_bytes m.reply_tag.0 && fits_about m.about) ≡ true =
    and_second (are_words_in_range m.words) (is_eight_bytes m.reply_tag.0 && fits_about m.about) g4 in
    let g6 : (fits_about m.about) ≡ true = and_second (is_eight_bytes m.reply_tag.0) (fits_about m.about) g5 in
    step _ _ _ _ (turn_again fits_serial serial_bytes serial_at serial_reader m.serial (byte (kind_number m.kind) ∷ byte m.dest.0 ∷ long m.tag.0 ∷ byte
    m.handler ∷ words_bytes m.words ∷ long m.reply_tag.0 ∷ about_bytes m.about ∷ byte x.bounces ∷ []) rest
    (and_first (fits_serial m.serial) (is_byte m.dest.0 && (is_eight_bytes m.tag.0 &&
    (is_byte m.handler && (are_words_in_range m.words && (is_eight_bytes m.reply_tag.0 && fits_about m.about))))) g0))
    (step _ _ _ _ (turn_again is_byte byte byte_at byte_reader (kind_number m.kind) (byte m.dest.0 ∷ long m.tag.0 ∷ byte m.handler ∷ words_bytes m.words ∷ long
    m.reply_tag.0 ∷ about_bytes m.about ∷ byte x.bounces ∷ []) rest (kind_fits m.kind))
    (step _ _ _ _ (kind_back m.kind)
    (step _ _ _ _ (turn_again is_byte byte byte_at byte_reader m.dest.0 (long m.tag.0 ∷ byte m.handler ∷ words_bytes m.words ∷ long m.reply_tag.0 ∷ about_bytes
    m.about ∷ byte x.bounces ∷ []) rest (and_first (is_byte m.dest.0) (is_eight_bytes m.tag.0 &&
    (is_byte m.handler && (are_words_in_range m.words && (is_eight_bytes m.reply_tag.0 && fits_about m.about)))) g1))
    (step _ _ _ _ (turn_again is_eight_bytes long long_at long_reader m.tag.0 (byte m.handler ∷ words_bytes m.words ∷ long m.reply_tag.0 ∷ about_bytes
    m.about ∷ byte x.bounces ∷ []) rest (and_first (is_eight_bytes m.tag.0) (is_byte m.handler &&
    (are_words_in_range m.words && (is_eight_bytes m.reply_tag.0 && fits_about m.about))) g2))
    (step _ _ _ _ (turn_again is_byte byte byte_at byte_reader m.handler (words_bytes m.words ∷ long m.reply_tag.0 ∷ about_bytes m.about ∷ byte x.bounces ∷ [])
    rest (and_first (is_byte m.handler) (are_words_in_range m.words && (is_eight_bytes m.reply_tag.0 && fits_about m.about)) g3))
    (step _ _ _ _ (turn_again are_words_in_range words_bytes words_at words_reader m.words (long m.reply_tag.0 ∷ about_bytes m.about ∷ byte x.bounces ∷ []) rest
    (and_first (are_words_in_range m.words) (is_eight_bytes m.reply_tag.0 && fits_about m.about) g4))
    (step _ _ _ _ (turn_again is_eight_bytes long long_at long_reader m.reply_tag.0 (about_bytes m.about ∷ byte x.bounces ∷ []) rest
    (and_first (is_eight_bytes m.reply_tag.0) (fits_about m.about) g5))
    (step _ _ _ _ (turn_again fits_about about_bytes about_at about_reader m.about (byte x.bounces ∷ []) rest g6)
    (step _ _ _ _ (turn_again is_byte byte byte_at byte_reader x.bounces [] rest (and_second (fits_message m) (is_byte x.bounces) h)) refl)))))))))

pub message_reader : IsReader fits_queued queued_bytes message_at
message_reader = record { takes = message_takes; again = message_again }

-- ---- notices and received messages

notice_takes : (bytes : List ℕ) (x : Notice) (rest : List ℕ) → AreBytes bytes → notice_at bytes ≡ Some (x, rest) → Took fits_notice notice_bytes bytes x rest
unfolding notice_at
notice_takes bytes x rest fits e =
    then_some (message_at bytes) _ (x, rest) e (λ a ea a'.
    let at = message_reader.takes bytes a.0 a.1 fits ea in
    then_some (byte_at a.1) _ (x, rest) a' (λ b eb b'.
    let bt = byte_reader.takes a.1 b.0 b.1 at.rest_fits eb in
    then_some (why_of b.0) _ (x, rest) b' (λ w ew w'.
    let read : Notice × List ℕ = (record { message = a.0.message; bounces = a.0.bounces; why = w }, b.1) in
    let last : a.1 ≡ in_turn (byte (why_number w) ∷ []) ++ b.1 = bt.parts ∙ ap (λ (i : ℕ). i ∷ b.1) (why_takes b.0 w ew) in
    subst (λ (y : Notice × List ℕ). Took fits_notice notice_bytes bytes y.0 y.1) (some_is read (x, rest) w')
    (record {
      parts = turn_parts bytes (queued_bytes a.0) a.1 (byte (why_number w) ∷ []) b.1 at.parts last;
      rest_fits = bt.rest_fits;
      in_range = at.in_range;
    }))))

why_fits : (why : Why) → is_byte (why_number why) ≡ true
why_fits Whys.Unknown = refl
why_fits (Whys.Refused Causes.NoEndpoint) = refl
why_fits (Whys.Refused Causes.NotResident) = refl
why_fits (Whys.Refused Causes.BadTag) = refl
why_fits (Whys.Refused Causes.BadHandler) = refl
why_fits (Whys.Refused Causes.QueueFull) = refl
why_fits (Whys.Refused Causes.NoRequest) = refl

notice_again : (x : Notice) (rest : List ℕ) → fits_notice x ≡ true → notice_at (notice_bytes x ++ rest) ≡ Some (x, rest)
unfolding notice_at
notice_again x rest h =
    let q : Queued = record { message = x.message; bounces = x.bounces } in
    step _ _ _ _ (turn_again fits_queued queued_bytes message_at message_reader q (byte (why_number x.why) ∷ []) rest h)
    (step _ _ _ _ (turn_again is_byte byte byte_at byte_reader (why_number x.why) [] rest (why_fits x.why)) (step _ _ _ _ (why_back x.why) refl))

pub notice_reader : IsReader fits_notice notice_bytes notice_at
notice_reader = record { takes = notice_takes; again = notice_again }

received_takes : (bytes : List ℕ) (x : Message) (rest : List ℕ) → AreBytes bytes → received_at bytes ≡ Some (x, rest) →
    Took fits_message received_bytes bytes x rest
unfolding received_at
received_takes bytes x rest fits e =
    then_some (message_at bytes) _ (x, rest) e (λ a ea a'.
    let at = message_reader.takes bytes a.0 a.1 fits ea in
    let g = cond_some (a.0.bounces == 0) (a.0.message, a.1) (x, rest) a' in
    let zero_bounces : a.0.bounces ≡ 0 = eqb-true a.0.bounces 0 g.0 in
    subst (λ (y : Message × List ℕ). Took fits_message received_bytes bytes y.0 y.1) g.1
    (record {
      parts = at.parts ∙ ap (λ (n : ℕ). message_bytes a.0.message n ++ a.1) zero_bounces;
      rest_fits = at.rest_fits;
      in_range = and_first (fits_message a.0.message) (is_byte a.0.bounces) at.in_range;
    }))

received_again : (x : Message) (rest : List ℕ) → fits_message x ≡ true → received_at (received_bytes x ++ rest) ≡ Some (x, rest)
unfolding received_at
received_again x rest h =
    let q : Queued = record { message = x; bounces = 0 } in
    step _ _ _ _ (message_reader.again q rest (and_from (fits_message x) (is_byte 0) h refl)) refl

pub received_reader : IsReader fits_message received_bytes received_at
received_reader = record { takes = received_takes; again = received_again }
