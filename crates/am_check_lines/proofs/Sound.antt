-- What is read is what an event is printed as.
use Rattle.std.proofs.Common.{◌≡◌, ℕ, ◌+◌, ◌^◌, ◌<◌, ◌≤◌, cond, eqb, leb, List, [], ◌∷◌, ◌++◌, get_or, take, drop, Option, Some, None, refl, sym, ap, subst}
use Rattle.std.proofs.Common.{◌∙◌, inl, inr, add-one, drop-cons, arith}
use Rattle.std.specs.Prelude.{codes}
use Rattle.std.specs.Fmt.{decimal}
use Rattle.std.specs.List.{position}
use Rattle.std.specs.Str.{bytes_eq}
use Rattle.std.proofs.lemmas.Bool.{cases_Bool, leb-true, eqb-true}
use Rattle.std.proofs.lemmas.Slice.Eq.{bytes_eq-Decides}
use Rattle.std.proofs.lemmas.List.{take-append-drop}
use Rattle.std.proofs.lemmas.List.Quantifiers.{position-Some}
use Rattle.std.proofs.Common.{append_assoc}
use Rattle.am_lemmas.specs.Options.{◌>>=◌}
use Rattle.am_lemmas.proofs.Binds.{bind_some}
use Rattle.am_names.specs.declared.EndpointId.{EndpointId}
use Rattle.am_names.specs.declared.NodeId.{NodeId}
use Rattle.am_names.specs.declared.Serial.{Serial}
use Rattle.am_names.specs.declared.Tag.{Tag}
use Rattle.am_office_entries.specs.declared.Actor.{Actor}
use Rattle.am_office_entries.specs.declared.Actor.TheVariants as Actors
use Rattle.am_office_entries.specs.declared.HandlerKind.{HandlerKind}
use Rattle.am_office_entries.specs.declared.HandlerKind.TheVariants as Kinds
use Rattle.am_office_entries.specs.declared.Mask.{Mask}
use Rattle.am_office_entries.specs.declared.Mask.TheVariants as Masks
use Rattle.am_office_entries.specs.declared.Call.{Call}
use Rattle.am_office_entries.specs.declared.Event.{Event}
use Rattle.am_office_entries.specs.declared.Event.TheVariants as Events
use Rattle.am_office_text.specs.Words.{Word, tag, serial}
use Rattle.am_office_text.specs.EntryLines.Lines.{who, what, actor, interface, driver, call, handler_kind, mask}
use Rattle.am_check_lines.specs.declared.words.Head.{Head}
use Rattle.am_check_lines.specs.declared.words.Head.TheVariants as Heads
use Rattle.am_check_lines.specs.Grammar.{IsByte, IsFourBytes, IsEightBytes, IsSerial, AreNumbersOf, AreNumbersOfCall, AreNumbersOfKind, IsNumberOfActor}
use Rattle.am_check_lines.specs.Reading.{word_at, printed_number, number_up_to, number_at, byte_at, count_at, long_at, end_at, node_at, tag_of, tag_at}
use Rattle.am_check_lines.specs.Reading.{serial_of, serial_at, lettered, head_of, request_at, poll_at, set_tag_at, map_at, unmap_at, echo_at, add_at, kind_at}
use Rattle.am_check_lines.specs.Reading.{set_handler_at, give_up_at, close_at, mask_at, test_at, call_at, call_event_at, want_at, thread_at, carry_at}
use Rattle.am_check_lines.specs.Reading.{outside_at, bind_at, expire_at, receive_at, interface_at, load_at, move_at, driver_at, happening_at, event_at}
use Rattle.am_check_lines.proofs.Decimals.{read_decimal}

pub got : {X : Type 0} (x r : X) (P : X → Type 0) → Some x ≡ Some r → P x → P r
got x r P e p = let same : x ≡ r = cc in subst P same p

-- words behind words
onto : {words rest tail : List Word} (w : Word) → words ≡ w ∷ rest → rest ≡ tail → words ≡ w ∷ tail
onto w e f = e ∙ ap (λ (l : List Word). w ∷ l) f

behind : {words tail : List Word} (w : Word) → words ≡ tail → w ∷ words ≡ w ∷ tail
behind w e = ap (λ (l : List Word). w ∷ l) e

-- one of two readings, by a test of a word
either : {X : Type 0} (w v : Word) (x y : Option X) (r : X) (P : Type 0) → cond (bytes_eq w v) x y ≡ Some r → (w ≡ v → x ≡ Some r → P) → (y ≡ Some r → P) → P
either w v x y r P e here next = elim (cases_Bool (bytes_eq w v)) [
  | inl t ↦ here ((bytes_eq-Decides w v).0 t) (sym (rw t refl) ∙ e)
  | inr f ↦ next (sym (rw f refl) ∙ e)
]

word_is : (words : List Word) (r : Word × List Word) → word_at words ≡ Some r → words ≡ r.0 ∷ r.1
unfolding word_at
word_is [] r e = absurd cc
word_is (w ∷ ws) r e = got (w, ws) r (λ r. w ∷ ws ≡ r.0 ∷ r.1) e refl

-- a number up to a limit
up_to_is : (limit : ℕ) (word : Word) (n : ℕ) → number_up_to limit word ≡ Some n → (word ≡ decimal n) × (n ≤ limit) × (n < 2 ^ 64)
unfolding number_up_to
up_to_is limit word n e =
    let a = bind_some (printed_number word) _ n e in
    let b = read_decimal word a.0 a.1 in
    elim (cases_Bool (leb a.0 limit)) [
      | inl t ↦
          let same : Some a.0 ≡ Some n = sym (rw t refl) ∙ a.2 in
          got a.0 n (λ n. (word ≡ decimal n) × (n ≤ limit) × (n < 2 ^ 64)) same (b.0, leb-true _ _ t, b.1)
      | inr f ↦ let none : None ≡ Some n = sym (rw f refl) ∙ a.2 in absurd (cc none)
    ]

abbrev IsNumberRead : ℕ → List Word → (ℕ × List Word) → Type 0
IsNumberRead limit words r = (words ≡ decimal r.0 ∷ r.1) × (r.0 ≤ limit) × (r.0 < 2 ^ 64)

number_is : (limit : ℕ) (words : List Word) (r : ℕ × List Word) → number_at limit words ≡ Some r → IsNumberRead limit words r
unfolding number_at
number_is limit words r e =
    let a = bind_some (word_at words) _ r e in
    let b = bind_some (number_up_to limit a.0.0) _ r a.2 in
    let n = up_to_is limit a.0.0 b.0 b.1 in
    got (b.0, a.0.1) r (IsNumberRead limit words) b.2 (word_is words a.0 a.1 ∙ ap (λ (w : Word). w ∷ a.0.1) n.0, n.1, n.2)

byte_is : (words : List Word) (r : ℕ × List Word) → byte_at words ≡ Some r → (words ≡ decimal r.0 ∷ r.1) × IsByte r.0
unfolding byte_at
byte_is words r e = let n = number_is 255 words r e in (n.0, omega (arith, n.1))

count_is : (words : List Word) (r : ℕ × List Word) → count_at words ≡ Some r → (words ≡ decimal r.0 ∷ r.1) × IsFourBytes r.0
unfolding count_at
count_is words r e = let n = number_is 0xffff_ffff words r e in (n.0, omega (arith, n.1))

long_is : (words : List Word) (r : ℕ × List Word) → long_at words ≡ Some r → (words ≡ decimal r.0 ∷ r.1) × IsEightBytes r.0
unfolding long_at
long_is words r e = let n = number_is 0xffff_ffff_ffff_ffff words r e in (n.0, n.2)

end_is : (words : List Word) (r : EndpointId × List Word) → end_at words ≡ Some r → (words ≡ decimal r.0.0 ∷ r.1) × IsByte r.0.0
unfolding end_at
end_is words r e =
    let a = bind_some (byte_at words) _ r e in
    got (record { 0 = a.0.0 }, a.0.1) r (λ (r : EndpointId × List Word). (words ≡ decimal r.0.0 ∷ r.1) × IsByte r.0.0) a.2 (byte_is words a.0 a.1)

node_is : (words : List Word) (r : NodeId × List Word) → node_at words ≡ Some r → (words ≡ decimal r.0.0 ∷ r.1) × IsByte r.0.0
unfolding node_at
node_is words r e =
    let a = bind_some (byte_at words) _ r e in
    got (record { 0 = a.0.0 }, a.0.1) r (λ (r : NodeId × List Word). (words ≡ decimal r.0.0 ∷ r.1) × IsByte r.0.0) a.2 (byte_is words a.0 a.1)

abbrev IsTagOf : Word → Tag → Type 0
IsTagOf word t = (word ≡ tag t) × IsEightBytes t.0

tag_of_is : (word : Word) (t : Tag) → tag_of word ≡ Some t → IsTagOf word t
unfolding tag_of tag
tag_of_is word t e =
    either word (codes "none") _ _ t (IsTagOf word t) e
    (λ w s. got (record { 0 = 0 }) t (IsTagOf word) s (w, omega arith))
    (λ n. either word (codes "all") _ _ t (IsTagOf word t) n
    (λ w s. got (record { 0 = 18446744073709551615 }) t (IsTagOf word) s (w, omega arith))
    (λ o.
    let a = bind_some (printed_number word) _ t o in
    let b = read_decimal word a.0 a.1 in
    elim (cases_Bool (eqb a.0 0)) [
      | inl z ↦ let none : None ≡ Some t = sym (rw z refl) ∙ a.2 in absurd (cc none)
      | inr nz ↦ elim (cases_Bool (eqb a.0 18446744073709551615)) [
        | inl m ↦ let none : None ≡ Some t = sym (rw (nz, m) refl) ∙ a.2 in absurd (cc none)
        | inr nm ↦
            let same : Some (record { 0 = a.0 }) ≡ Some t = sym (rw (nz, nm) refl) ∙ a.2 in
            let printed : tag (record { 0 = a.0 }) ≡ decimal a.0 = rw (nz, nm) refl in
            got (record { 0 = a.0 }) t (IsTagOf word) same (b.0 ∙ sym printed, b.1)
      ]
    ]))

tag_is : (words : List Word) (r : Tag × List Word) → tag_at words ≡ Some r → (words ≡ tag r.0 ∷ r.1) × IsEightBytes r.0.0
unfolding tag_at
tag_is words r e =
    let a = bind_some (word_at words) _ r e in
    let b = bind_some (tag_of a.0.0) _ r a.2 in
    let t = tag_of_is a.0.0 b.0 b.1 in
    got (b.0, a.0.1) r (λ (r : Tag × List Word). (words ≡ tag r.0 ∷ r.1) × IsEightBytes r.0.0) b.2 (
      word_is words a.0 a.1
          ∙ ap (λ (w : Word). w ∷ a.0.1) t.0,
      t.1,
    )

-- a word with a dot at this place
cut_at_dot : (word : Word) (dot : ℕ) → position (λ b. eqb b 46) word ≡ Some dot → word ≡ take dot word ++ 46 ∷ drop (dot + 1) word
cut_at_dot word dot e =
    let p = position-Some (λ b. eqb b 46) word dot 0 e in
    let there : get_or word dot 0 ≡ 46 = eqb-true _ _ p.1 in
    sym (take-append-drop dot word) ∙ ap (λ (l : Word). take dot word ++ l) (drop-cons word dot 0 p.0 ∙ rw (there, add-one) refl)

serial_of_is : (word : Word) (s : Serial) → serial_of word ≡ Some s → (word ≡ serial s) × IsSerial s
unfolding serial_of serial
serial_of_is word s e =
    let a = bind_some (position (λ b. eqb b 46) word) _ s e in
    let b = bind_some (number_up_to 255 (take a.0 word)) _ s a.2 in
    let c = bind_some (number_up_to 0xffff_ffff (drop (a.0 + 1) word)) _ s b.2 in
    let source = up_to_is 255 (take a.0 word) b.0 b.1 in
    let count = up_to_is 0xffff_ffff (drop (a.0 + 1) word) c.0 c.1 in
    let parts : word ≡ decimal b.0 ++ 46 ∷ decimal c.0 = cut_at_dot word a.0 a.1 ∙ ap (λ (l : Word). l ++ 46 ∷ drop (a.0 + 1) word) source.0
    ∙ ap (λ (l : Word). decimal b.0 ++ 46 ∷ l) count.0 in
    got (record { source = record { 0 = b.0 }; count = c.0 }) s (λ (s : Serial). (word ≡ serial s) × IsSerial s) c.2
    (parts ∙ sym (append_assoc (decimal b.0) (codes ".") (decimal c.0)), (omega (arith, source.1), omega (arith, count.1)))

serial_is : (words : List Word) (r : Serial × List Word) → serial_at words ≡ Some r → (words ≡ serial r.0 ∷ r.1) × IsSerial r.0
unfolding serial_at
serial_is words r e =
    let a = bind_some (word_at words) _ r e in
    let b = bind_some (serial_of a.0.0) _ r a.2 in
    let s = serial_of_is a.0.0 b.0 b.1 in
    got (b.0, a.0.1) r (λ (r : Serial × List Word). (words ≡ serial r.0 ∷ r.1) × IsSerial r.0) b.2 (
      word_is words a.0 a.1
          ∙ ap (λ (w : Word). w ∷ a.0.1) s.0,
      s.1,
    )

-- a call with its verb
abbrev IsCallRead : Word → List Word → ((EndpointId × Call) × List Word) → Type 0
IsCallRead verb words r = (verb ∷ words ≡ call r.0.0 r.0.1 ++ r.1) × IsByte r.0.0.0 × AreNumbersOfCall r.0.1

request_is : (words : List Word) (r : (EndpointId × Call) × List Word) → request_at words ≡ Some r → IsCallRead (codes "request") words r
unfolding request_at call
request_is words r e =
    let a = bind_some (end_at words) _ r e in
    let i = bind_some (byte_at a.0.1) _ r a.2 in
    let h = bind_some (byte_at i.0.1) _ r i.2 in
    let j = bind_some (long_at h.0.1) _ r h.2 in
    let k = bind_some (long_at j.0.1) _ r j.2 in
    let l = bind_some (long_at k.0.1) _ r k.2 in
    let m = bind_some (long_at l.0.1) _ r l.2 in
    let pa = end_is words a.0 a.1 in
    let pi = byte_is a.0.1 i.0 i.1 in
    let ph = byte_is i.0.1 h.0 h.1 in
    let pj = long_is h.0.1 j.0 j.1 in
    let pk = long_is j.0.1 k.0 k.1 in
    let pl = long_is k.0.1 l.0 l.1 in
    let pm = long_is l.0.1 m.0 m.1 in
    got _ r (IsCallRead (codes "request") words) m.2
    (behind _ (onto _ pa.0 (onto _ pi.0 (onto _ ph.0 (onto _ pj.0 (onto _ pk.0 (onto _ pl.0 pm.0)))))), pa.1, (pi.1, ph.1, (pj.1, pk.1, pl.1, pm.1)))

poll_is : (words : List Word) (r : (EndpointId × Call) × List Word) → poll_at words ≡ Some r → IsCallRead (codes "poll") words r
unfolding poll_at call
poll_is words r e =
    let a = bind_some (end_at words) _ r e in
    let pa = end_is words a.0 a.1 in
    got _ r (IsCallRead (codes "poll") words) a.2 (behind _ pa.0, pa.1, tt)

set_tag_is : (words : List Word) (r : (EndpointId × Call) × List Word) → set_tag_at words ≡ Some r → IsCallRead (codes "tag") words r
unfolding set_tag_at call
set_tag_is words r e =
    let a = bind_some (end_at words) _ r e in
    let b = bind_some (tag_at a.0.1) _ r a.2 in
    let pa = end_is words a.0 a.1 in
    let pb = tag_is a.0.1 b.0 b.1 in
    got _ r (IsCallRead (codes "tag") words) b.2 (behind _ (onto _ pa.0 pb.0), pa.1, pb.1)

map_is : (words : List Word) (r : (EndpointId × Call) × List Word) → map_at words ≡ Some r → IsCallRead (codes "map") words r
unfolding map_at call
map_is words r e =
    let a = bind_some (end_at words) _ r e in
    let i = bind_some (byte_at a.0.1) _ r a.2 in
    let n = bind_some (end_at i.0.1) _ r i.2 in
    let t = bind_some (tag_at n.0.1) _ r n.2 in
    let c = bind_some (byte_at t.0.1) _ r t.2 in
    let pa = end_is words a.0 a.1 in
    let pi = byte_is a.0.1 i.0 i.1 in
    let pn = end_is i.0.1 n.0 n.1 in
    let pt = tag_is n.0.1 t.0 t.1 in
    let pc = byte_is t.0.1 c.0 c.1 in
    got _ r (IsCallRead (codes "map") words) c.2 (behind _ (onto _ pa.0 (onto _ pi.0 (onto _ pn.0 (onto _ pt.0 pc.0)))), pa.1, (pi.1, pn.1, pt.1, pc.1))

unmap_is : (words : List Word) (r : (EndpointId × Call) × List Word) → unmap_at words ≡ Some r → IsCallRead (codes "unmap") words r
unfolding unmap_at call
unmap_is words r e =
    let a = bind_some (end_at words) _ r e in
    let i = bind_some (byte_at a.0.1) _ r a.2 in
    let pa = end_is words a.0 a.1 in
    let pi = byte_is a.0.1 i.0 i.1 in
    got _ r (IsCallRead (codes "unmap") words) i.2 (behind _ (onto _ pa.0 pi.0), pa.1, pi.1)

abbrev IsKindRead : List Word → (HandlerKind × List Word) → Type 0
IsKindRead words r = (words ≡ handler_kind r.0 ++ r.1) × AreNumbersOfKind r.0

echo_is : (words : List Word) (r : HandlerKind × List Word) → echo_at words ≡ Some r → IsKindRead (codes "echo" ∷ words) r
unfolding echo_at handler_kind
echo_is words r e =
    let a = bind_some (byte_at words) _ r e in
    let pa = byte_is words a.0 a.1 in
    got _ r (IsKindRead (codes "echo" ∷ words)) a.2 (behind _ pa.0, pa.1)

add_is : (words : List Word) (r : HandlerKind × List Word) → add_at words ≡ Some r → IsKindRead (codes "add" ∷ words) r
unfolding add_at handler_kind
add_is words r e =
    let a = bind_some (byte_at words) _ r e in
    let pa = byte_is words a.0 a.1 in
    got _ r (IsKindRead (codes "add" ∷ words)) a.2 (behind _ pa.0, pa.1)

kind_is : (words : List Word) (r : HandlerKind × List Word) → kind_at words ≡ Some r → IsKindRead words r
unfolding kind_at handler_kind
kind_is words r e =
    let a = bind_some (word_at words) _ r e in
    let front = word_is words a.0 a.1 in
    let of : (w : Word) → a.0.0 ≡ w → IsKindRead (w ∷ a.0.1) r → IsKindRead words r = λ w s p. (front ∙ ap (λ (w : Word). w ∷ a.0.1) s ∙ p.0, p.1) in
    either a.0.0 (codes "note") _ _ r (IsKindRead words r) a.2
    (λ w s. of (codes "note") w (got (Kinds.Note, a.0.1) r (IsKindRead (codes "note" ∷ a.0.1)) s (refl, tt)))
    (λ n. either a.0.0 (codes "echo") _ _ r (IsKindRead words r) n
    (λ w s. of (codes "echo") w (echo_is a.0.1 r s))
    (λ o. either a.0.0 (codes "add") _ _ r (IsKindRead words r) o
    (λ w s. of (codes "add") w (add_is a.0.1 r s))
    (λ none. absurd (cc none))))

set_handler_is : (words : List Word) (r : (EndpointId × Call) × List Word) → set_handler_at words ≡ Some r → IsCallRead (codes "handler") words r
unfolding set_handler_at call
set_handler_is words r e =
    let a = bind_some (end_at words) _ r e in
    let i = bind_some (byte_at a.0.1) _ r a.2 in
    let k = bind_some (kind_at i.0.1) _ r i.2 in
    let pa = end_is words a.0 a.1 in
    let pi = byte_is a.0.1 i.0 i.1 in
    let pk = kind_is i.0.1 k.0 k.1 in
    got _ r (IsCallRead (codes "handler") words) k.2 (behind _ (onto _ pa.0 (onto _ pi.0 pk.0)), pa.1, (pi.1, pk.1))

give_up_is : (words : List Word) (r : (EndpointId × Call) × List Word) → give_up_at words ≡ Some r → IsCallRead (codes "giveup") words r
unfolding give_up_at call
give_up_is words r e =
    let a = bind_some (end_at words) _ r e in
    let s = bind_some (serial_at a.0.1) _ r a.2 in
    let pa = end_is words a.0 a.1 in
    let ps = serial_is a.0.1 s.0 s.1 in
    got _ r (IsCallRead (codes "giveup") words) s.2 (behind _ (onto _ pa.0 ps.0), pa.1, ps.1)

close_is : (words : List Word) (r : (EndpointId × Call) × List Word) → close_at words ≡ Some r → IsCallRead (codes "close") words r
unfolding close_at call
close_is words r e =
    let a = bind_some (end_at words) _ r e in
    let pa = end_is words a.0 a.1 in
    got _ r (IsCallRead (codes "close") words) a.2 (behind _ pa.0, pa.1, tt)

abbrev IsMaskRead : List Word → (Mask × List Word) → Type 0
IsMaskRead words r = words ≡ mask r.0 ∷ r.1

mask_is : (words : List Word) (r : Mask × List Word) → mask_at words ≡ Some r → IsMaskRead words r
unfolding mask_at mask
mask_is words r e =
    let a = bind_some (word_at words) _ r e in
    let front = word_is words a.0 a.1 in
    let of : (w : Word) → a.0.0 ≡ w → IsMaskRead (w ∷ a.0.1) r → IsMaskRead words r = λ w s p. front ∙ ap (λ (w : Word). w ∷ a.0.1) s ∙ p in
    either a.0.0 (codes "noevents") _ _ r (IsMaskRead words r) a.2
    (λ w s. of (codes "noevents") w (got (Masks.NoEvents, a.0.1) r (IsMaskRead (codes "noevents" ∷ a.0.1)) s refl))
    (λ n. either a.0.0 (codes "notempty") _ _ r (IsMaskRead words r) n
    (λ w s. of (codes "notempty") w (got (Masks.NotEmpty, a.0.1) r (IsMaskRead (codes "notempty" ∷ a.0.1)) s refl))
    (λ none. absurd (cc none)))

test_is : (words : List Word) (r : (EndpointId × Call) × List Word) → test_at words ≡ Some r → IsCallRead (codes "event") words r
unfolding test_at call
test_is words r e =
    let a = bind_some (end_at words) _ r e in
    let m = bind_some (mask_at a.0.1) _ r a.2 in
    let pa = end_is words a.0 a.1 in
    let pm = mask_is a.0.1 m.0 m.1 in
    got _ r (IsCallRead (codes "event") words) m.2 (behind _ (onto _ pa.0 pm), pa.1, tt)

-- the same behind a verb that is known by its test
of_verb : (verb v : Word) (words : List Word) (r : (EndpointId × Call) × List Word) → verb ≡ v → IsCallRead v words r → IsCallRead verb words r
of_verb verb v words r s p = (ap (λ (w : Word). w ∷ words) s ∙ p.0, p.1, p.2)

call_is : (verb : Word) (words : List Word) (r : (EndpointId × Call) × List Word) → call_at verb words ≡ Some r → IsCallRead verb words r
unfolding call_at
call_is verb words r e =
    either verb (codes "request") _ _ r (IsCallRead verb words r) e (λ w s. of_verb verb (codes "request") words r w (request_is words r s)) (λ e.
    either verb (codes "poll") _ _ r (IsCallRead verb words r) e (λ w s. of_verb verb (codes "poll") words r w (poll_is words r s)) (λ e.
    either verb (codes "tag") _ _ r (IsCallRead verb words r) e (λ w s. of_verb verb (codes "tag") words r w (set_tag_is words r s)) (λ e.
    either verb (codes "map") _ _ r (IsCallRead verb words r) e (λ w s. of_verb verb (codes "map") words r w (map_is words r s)) (λ e.
    either verb (codes "unmap") _ _ r (IsCallRead verb words r) e (λ w s. of_verb verb (codes "unmap") words r w (unmap_is words r s)) (λ e.
    either verb (codes "handler") _ _ r (IsCallRead verb words r) e (λ w s. of_verb verb (codes "handler") words r w (set_handler_is words r s)) (λ e.
    either verb (codes "giveup") _ _ r (IsCallRead verb words r) e (λ w s. of_verb verb (codes "giveup") words r w (give_up_is words r s)) (λ e.
    either verb (codes "close") _ _ r (IsCallRead verb words r) e (λ w s. of_verb verb (codes "close") words r w (close_is words r s)) (λ e.
    either verb (codes "event") _ _ r (IsCallRead verb words r) e (λ w s. of_verb verb (codes "event") words r w (test_is words r s))
    (λ none. absurd (cc none))))))))))

-- an event with its verb, by who acts
abbrev IsEventRead : Word → Word → List Word → (Event × List Word) → Type 0
IsEventRead who_is verb words r = (who_is ≡ who r.0) × (verb ∷ words ≡ what r.0 ++ r.1) × AreNumbersOf r.0

call_event_is : (a : Actor) (verb : Word) (words : List Word) (r : Event × List Word) → IsNumberOfActor a → call_event_at a verb words ≡ Some r →
    IsEventRead (actor a) verb words r
unfolding call_event_at who what
call_event_is a verb words r n e =
    let c = bind_some (call_at verb words) _ r e in
    let p = call_is verb words c.0 c.1 in
    got _ r (IsEventRead (actor a) verb words) c.2 (refl, p.0, (n, p.1, p.2))

want_is : (a : Actor) (words : List Word) (r : Event × List Word) → IsNumberOfActor a → want_at a words ≡ Some r → IsEventRead (actor a) (codes "want") words r
unfolding want_at who what
want_is a words r n e =
    let b = bind_some (end_at words) _ r e in
    let p = end_is words b.0 b.1 in
    got _ r (IsEventRead (actor a) (codes "want") words) b.2 (refl, behind _ p.0, (n, p.1))

-- the same by a verb that is known by its test
by_verb : (who_is verb v : Word) (words : List Word) (r : Event × List Word) → verb ≡ v → IsEventRead who_is v words r → IsEventRead who_is verb words r
by_verb who_is verb v words r s p = (p.0, ap (λ (w : Word). w ∷ words) s ∙ p.1, p.2)

thread_is : (t : ℕ) (verb : Word) (words : List Word) (r : Event × List Word) → IsByte t → thread_at t verb words ≡ Some r →
    IsEventRead (actor (Actors.Thread t)) verb words r
unfolding thread_at
thread_is t verb words r n e =
    either verb (codes "want") _ _ r (IsEventRead (actor (Actors.Thread t)) verb words r) e
    (λ w s. by_verb _ verb (codes "want") words r w (want_is (Actors.Thread t) words r n s))
    (λ s. call_event_is (Actors.Thread t) verb words r n s)

carry_is : (words : List Word) (r : Event × List Word) → carry_at words ≡ Some r → IsEventRead (codes "x") (codes "carry") words r
unfolding carry_at who what
carry_is words r e =
    let b = bind_some (end_at words) _ r e in
    let p = end_is words b.0 b.1 in
    got _ r (IsEventRead (codes "x") (codes "carry") words) b.2 (refl, behind _ p.0, p.1)

outside_is : (verb : Word) (words : List Word) (r : Event × List Word) → outside_at verb words ≡ Some r → IsEventRead (codes "x") verb words r
unfolding outside_at actor
outside_is verb words r e =
    either verb (codes "carry") _ _ r (IsEventRead (codes "x") verb words r) e
    (λ w s. by_verb _ verb (codes "carry") words r w (carry_is words r s))
    (λ s. either verb (codes "want") _ _ r (IsEventRead (codes "x") verb words r) s
    (λ w s. by_verb _ verb (codes "want") words r w (want_is Actors.Outside words r tt s))
    (λ s. call_event_is Actors.Outside verb words r tt s))

bind_is : (n : NodeId) (words : List Word) (r : Event × List Word) → IsByte n.0 → bind_at n words ≡ Some r → IsEventRead (interface n) (codes "bind") words r
unfolding bind_at who what
bind_is n words r h e =
    let b = bind_some (end_at words) _ r e in
    let p = end_is words b.0 b.1 in
    got _ r (IsEventRead (interface n) (codes "bind") words) b.2 (refl, behind _ p.0, (h, p.1))

expire_is : (n : NodeId) (words : List Word) (r : Event × List Word) → IsByte n.0 → expire_at n words ≡ Some r →
    IsEventRead (interface n) (codes "expire") words r
unfolding expire_at who what
expire_is n words r h e =
    let b = bind_some (node_at words) _ r e in
    let c = bind_some (byte_at b.0.1) _ r b.2 in
    let p = node_is words b.0 b.1 in
    let q = byte_is b.0.1 c.0 c.1 in
    got _ r (IsEventRead (interface n) (codes "expire") words) c.2 (refl, behind _ (onto _ p.0 q.0), (h, p.1, q.1))

receive_is : (n : NodeId) (words : List Word) (r : Event × List Word) → IsByte n.0 → receive_at n words ≡ Some r →
    IsEventRead (interface n) (codes "receive") words r
unfolding receive_at who what
receive_is n words r h e =
    let b = bind_some (node_at words) _ r e in
    let c = bind_some (count_at b.0.1) _ r b.2 in
    let p = node_is words b.0 b.1 in
    let q = count_is b.0.1 c.0 c.1 in
    got _ r (IsEventRead (interface n) (codes "receive") words) c.2 (refl, behind _ (onto _ p.0 q.0), (h, p.1, q.1))

interface_is : (n : NodeId) (verb : Word) (words : List Word) (r : Event × List Word) → IsByte n.0 → interface_at n verb words ≡ Some r →
    IsEventRead (interface n) verb words r
unfolding interface_at
interface_is n verb words r h e =
    either verb (codes "bind") _ _ r (IsEventRead (interface n) verb words r) e (λ w s. by_verb _ verb (codes "bind") words r w (bind_is n words r h s)) (λ e.
    either verb (codes "expire") _ _ r (IsEventRead (interface n) verb words r) e (λ w s. by_verb _ verb (codes "expire") words r w (expire_is n words r h s))
    (λ e.
    either verb (codes "receive") _ _ r (IsEventRead (interface n) verb words r) e (λ w s. by_verb _ verb (codes "receive") words r w
    (receive_is n words r h s)) (λ none. absurd (cc none))))

load_is : (n : NodeId) (words : List Word) (r : Event × List Word) → IsByte n.0 → load_at n words ≡ Some r → IsEventRead (driver n) (codes "load") words r
unfolding load_at who what
load_is n words r h e =
    let b = bind_some (end_at words) _ r e in
    let c = bind_some (byte_at b.0.1) _ r b.2 in
    let p = end_is words b.0 b.1 in
    let q = byte_is b.0.1 c.0 c.1 in
    got _ r (IsEventRead (driver n) (codes "load") words) c.2 (refl, behind _ (onto _ p.0 q.0), (h, p.1, q.1))

drain_is : (n : NodeId) (words : List Word) (r : Event × List Word) → IsByte n.0 → move_at (λ end. Events.Drain n end) words ≡ Some r →
    IsEventRead (driver n) (codes "drain") words r
unfolding move_at who what
drain_is n words r h e = let b = bind_some (end_at words) _ r e in let p = end_is words b.0 b.1 in
    got _ r (IsEventRead (driver n) (codes "drain") words) b.2 (refl, behind _ p.0, (h, p.1))

unload_is : (n : NodeId) (words : List Word) (r : Event × List Word) → IsByte n.0 → move_at (λ end. Events.Unload n end) words ≡ Some r →
    IsEventRead (driver n) (codes "unload") words r
unfolding move_at who what
unload_is n words r h e = let b = bind_some (end_at words) _ r e in let p = end_is words b.0 b.1 in
    got _ r (IsEventRead (driver n) (codes "unload") words) b.2 (refl, behind _ p.0, (h, p.1))

page_out_is : (n : NodeId) (words : List Word) (r : Event × List Word) → IsByte n.0 → move_at (λ end. Events.PageOut n end) words ≡ Some r →
    IsEventRead (driver n) (codes "pageout") words r
unfolding move_at who what
page_out_is n words r h e = let b = bind_some (end_at words) _ r e in let p = end_is words b.0 b.1 in
    got _ r (IsEventRead (driver n) (codes "pageout") words) b.2 (refl, behind _ p.0, (h, p.1))

page_in_is : (n : NodeId) (words : List Word) (r : Event × List Word) → IsByte n.0 → move_at (λ end. Events.PageIn n end) words ≡ Some r →
    IsEventRead (driver n) (codes "pagein") words r
unfolding move_at who what
page_in_is n words r h e = let b = bind_some (end_at words) _ r e in let p = end_is words b.0 b.1 in
    got _ r (IsEventRead (driver n) (codes "pagein") words) b.2 (refl, behind _ p.0, (h, p.1))

driver_is : (n : NodeId) (verb : Word) (words : List Word) (r : Event × List Word) → IsByte n.0 → driver_at n verb words ≡ Some r →
    IsEventRead (driver n) verb words r
unfolding driver_at
driver_is n verb words r h e =
    either verb (codes "drain") _ _ r (IsEventRead (driver n) verb words r) e (λ w s. by_verb _ verb (codes "drain") words r w (drain_is n words r h s)) (λ e.
    either verb (codes "unload") _ _ r (IsEventRead (driver n) verb words r) e (λ w s. by_verb _ verb (codes "unload") words r w (unload_is n words r h s))
    (λ e.
    either verb (codes "load") _ _ r (IsEventRead (driver n) verb words r) e (λ w s. by_verb _ verb (codes "load") words r w (load_is n words r h s)) (λ e.
    either verb (codes "pageout") _ _ r (IsEventRead (driver n) verb words r) e (λ w s. by_verb _ verb (codes "pageout") words r w (page_out_is n words r h s))
    (λ e.
    either verb (codes "pagein") _ _ r (IsEventRead (driver n) verb words r) e (λ w s. by_verb _ verb (codes "pagein") words r w (page_in_is n words r h s))
    (λ none. absurd (cc none))))))

-- who acts, by a first word
abbrev IsHeadOf : Word → Head → Type 0
IsHeadOf word Heads.Outside = word ≡ codes "x"
IsHeadOf word (Heads.OfThread t) = (word ≡ codes "t" ++ decimal t) × IsByte t
IsHeadOf word (Heads.OfInterface n) = (word ≡ codes "i" ++ decimal n.0) × IsByte n.0
IsHeadOf word (Heads.OfDriver n) = (word ≡ codes "d" ++ decimal n.0) × IsByte n.0

-- one of two readings, by a test of a letter
by_letter : {X : Type 0} (l k : ℕ) (x y : Option X) (r : X) (P : Type 0) → cond (eqb l k) x y ≡ Some r → (l ≡ k → x ≡ Some r → P) → (y ≡ Some r → P) → P
by_letter l k x y r P e here next = elim (cases_Bool (eqb l k)) [
  | inl t ↦ here (eqb-true l k t) (sym (rw t refl) ∙ e)
  | inr f ↦ next (sym (rw f refl) ∙ e)
]

lettered_is : (letter : ℕ) (digits : Word) (h : Head) → lettered letter digits ≡ Some h → IsHeadOf (letter ∷ digits) h
unfolding lettered
lettered_is letter digits h e =
    let a = bind_some (number_up_to 255 digits) _ h e in
    let p = up_to_is 255 digits a.0 a.1 in
    let small : IsByte a.0 = omega (arith, p.1) in
    let word : (l : ℕ) → letter ≡ l → letter ∷ digits ≡ l ∷ decimal a.0 = λ l s. ap (λ (b : ℕ). b ∷ digits) s ∙ ap (λ (w : Word). l ∷ w) p.0 in
    by_letter letter 116 _ _ h (IsHeadOf (letter ∷ digits) h) a.2 (λ s q. got _ h (IsHeadOf (letter ∷ digits)) q (word 116 s, small)) (λ e.
    by_letter letter 105 _ _ h (IsHeadOf (letter ∷ digits) h) e (λ s q. got _ h (IsHeadOf (letter ∷ digits)) q (word 105 s, small)) (λ e.
    by_letter letter 100 _ _ h (IsHeadOf (letter ∷ digits) h) e (λ s q. got _ h (IsHeadOf (letter ∷ digits)) q (word 100 s, small)) (λ none. absurd (cc none))))

head_is : (word : Word) (h : Head) → head_of word ≡ Some h → IsHeadOf word h
unfolding head_of
head_is [] h e = absurd (cc e)
head_is (letter ∷ digits) h e =
    either (letter ∷ digits) (codes "x") _ _ h (IsHeadOf (letter ∷ digits) h) e (λ w s. got _ h (IsHeadOf (letter ∷ digits)) s w)
    (λ s. lettered_is letter digits h s)

happening_is : (word verb : Word) (words : List Word) (h : Head) (r : Event × List Word) → IsHeadOf word h → happening_at h verb words ≡ Some r →
    IsEventRead word verb words r
unfolding happening_at actor interface driver
happening_is word verb words Heads.Outside r w e = let p = outside_is verb words r e in (w ∙ p.0, p.1, p.2)
happening_is word verb words (Heads.OfThread t) r w e = let p = thread_is t verb words r w.1 e in (w.0 ∙ p.0, p.1, p.2)
happening_is word verb words (Heads.OfInterface n) r w e = let p = interface_is n verb words r w.1 e in (w.0 ∙ p.0, p.1, p.2)
happening_is word verb words (Heads.OfDriver n) r w e = let p = driver_is n verb words r w.1 e in (w.0 ∙ p.0, p.1, p.2)

-- an event that is read is printed as the words that were read
pub event_is : (words : List Word) (r : Event × List Word) → event_at words ≡ Some r → (words ≡ who r.0 ∷ (what r.0 ++ r.1)) × AreNumbersOf r.0
unfolding event_at
event_is words r e =
    let w = bind_some (word_at words) _ r e in
    let h = bind_some (head_of w.0.0) _ r w.2 in
    let v = bind_some (word_at w.0.1) _ r h.2 in
    let p = happening_is w.0.0 v.0.0 v.0.1 h.0 r (head_is w.0.0 h.0 h.1) v.2 in
    (word_is words w.0 w.1 ∙ ap (λ (l : List Word). w.0.0 ∷ l) (word_is w.0.1 v.0 v.1 ∙ p.1) ∙ ap (λ (x : Word). x ∷ (what r.0 ++ r.1)) p.0, p.2)
