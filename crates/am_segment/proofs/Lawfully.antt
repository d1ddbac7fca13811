-- Each transfer of an expanded text has its segment.
use Rattle.std.proofs.Common.{◌≡◌, ℕ, ◌+◌, ◌-◌, ◌*◌, ◌<◌, ◌≤◌, Bool, true, false, List, [], ◌∷◌, ◌++◌, length, Option, Some, None, Result, Ok, Err, refl, sym}
use Rattle.std.proofs.Common.{ap, ◌∙◌, subst, arith, inl, inr, ◌⊎◌, zero, suc, lit<, if◌then◌else◌}
use Rattle.std.specs.Prelude.{◌==◌, ◌&&◌, nat_lt, nat_le, find, is_some}
use Rattle.std.specs.List.{All}
use Rattle.std.proofs.lemmas.Bool.{leb-true, and_parts, eqb-true}
use Rattle.std.proofs.lemmas.List.Elements.{All-weaker, All-push, All-nil}
use Rattle.am_lemmas.specs.Bytes.{AreBytes}
use Rattle.am_lemmas.proofs.Lists.{find_passes}
use Rattle.am_lexer.specs.declared.what.What.{What}
use Rattle.am_lexer.specs.declared.what.What.TheVariants.{BadNumber, OutOfRange, Undeclared, Twice, TooMany, OutOfPlace, NotText}
use Rattle.am_lexer.specs.Text.{lines_of, words_of, is_text_line, is_digit, has_bytes}
use Rattle.am_lexer.specs.Fields.{or_else, word_at, number_at, within, ended}
use Rattle.am_lexer.specs.Lines.{line_after}
use Rattle.am_scenario_types.specs.declared.faults.ScenarioFault.{ScenarioFault}
use Rattle.am_scenario.specs.Grammar.{on_line}
use Rattle.am_scenario.proofs.Meets.{Meets, refuses, gives, bind, test, anything, found}
use Rattle.am_scenario.proofs.Words.{is_within}
use Rattle.am_scenario.proofs.Below.{found_holds}
use Rattle.am_names.specs.declared.EndpointId.{EndpointId}
use Rattle.am_segment_pieces.specs.declared.segment.SegmentLine.{SegmentLine}
use Rattle.am_segment_pieces.specs.Lists.{TransferLists}
use Rattle.am_segment_pieces.specs.Blocks.{piece_count}
use Rattle.am_segment.specs.declared.own.Own.{Own}
use Rattle.am_segment.specs.declared.own.Own.TheVariants as own
use Rattle.am_segment.specs.declared.saying.Sent.{Sent}
use Rattle.am_segment.specs.Lists.{ExpandedLists}
use Rattle.am_segment.specs.Own.{own_of}
use Rattle.am_segment.specs.Hex.{digit_value, joined, pair_value, in_front, bytes_of, block_of}
use Rattle.am_segment.specs.Laid.{Laid, nothing_laid, with_ordinary, with_segment}
use Rattle.am_segment.specs.Saying.{end_at, segment_at, block_at, fresh, segment_line, transfer_line, serve_line}
use Rattle.am_segment.specs.Expansion.{with_transfer, with_serve, after_own, by_kind, after_line, expanded_of, expand_from}
use Rattle.am_segment.specs.Lawful.{ExpansionsAreLawful, HasSegment}

-- ---- blocks

if_some : (b : Bool) (x y : ℕ) → (if b then Some x else None) ≡ Some y → (b ≡ true) × (x ≡ y)
if_some true x y e = (refl, cc)
if_some false x y e = absurd (cc)

if_either : (b : Bool) (x y : ℕ) (other : Option ℕ) → (if b then Some x else other) ≡ Some y → ((b ≡ true) × (x ≡ y)) ⊎ (other ≡ Some y)
if_either true x y other e = inl (refl, cc)
if_either false x y other e = inr e

small_digit : (byte value : ℕ) → is_digit byte ≡ true → byte - 48 ≡ value → value < 16
small_digit byte value digit is =
    let both = and_parts (nat_le 48 byte) (nat_le byte 57) digit in
    let high : byte ≤ 57 = leb-true byte 57 both.1 in
    omega arith

small_letter : (byte value : ℕ) → (nat_le 97 byte && nat_le byte 102) ≡ true → byte - 87 ≡ value → value < 16
small_letter byte value letter is =
    let both = and_parts (nat_le 97 byte) (nat_le byte 102) letter in
    let high : byte ≤ 102 = leb-true byte 102 both.1 in
    omega arith

digit_small : (byte value : ℕ) → digit_value byte ≡ Some value → value < 16
digit_small byte value e =
    elim (if_either (is_digit byte) (byte - 48) value (if nat_le 97 byte && nat_le byte 102 then Some (byte - 87) else None) e) [
      | inl (digit, is) ↦ small_digit byte value digit is
      | inr rest ↦ let both = if_some (nat_le 97 byte && nat_le byte 102) (byte - 87) value rest in small_letter byte value both.0 both.1
    ]

joined_small : (high low : Option ℕ) (byte : ℕ) → ((v : ℕ) → high ≡ Some v → v < 16) → ((v : ℕ) → low ≡ Some v → v < 16) → joined high low ≡ Some byte →
    byte < 256
joined_small None low byte h l e = absurd (cc)
joined_small (Some high) None byte h l e = absurd (cc)
joined_small (Some high) (Some low) byte h l e =
    let is : 16 * high + low ≡ byte = cc in
    let first : high < 16 = h high refl in
    let second : low < 16 = l low refl in
    omega arith

cons_bytes : (byte : ℕ) (bytes : List ℕ) → byte < 256 → AreBytes bytes → AreBytes (byte ∷ bytes)
cons_bytes byte bytes small rest zero = small
cons_bytes byte bytes small rest (suc i) = rest i

in_front_bytes : (b : Option ℕ) (o : Option (List ℕ)) (bytes : List ℕ) → ((v : ℕ) → b ≡ Some v → v < 256) → ((rest : List ℕ) → o ≡ Some rest → AreBytes rest) →
    in_front b o ≡ Some bytes → AreBytes bytes
in_front_bytes None o bytes h k e = absurd (cc)
in_front_bytes (Some byte) None bytes h k e = absurd (cc)
in_front_bytes (Some byte) (Some rest) bytes h k e =
    let is : byte ∷ rest ≡ bytes = cc in
    subst AreBytes is (cons_bytes byte rest (h byte refl) (k rest refl))

spelled_bytes : (word bytes : List ℕ) → bytes_of word ≡ Some bytes → AreBytes bytes
unfolding bytes_of
spelled_bytes [] bytes e = let is : [] ≡ bytes = cc in subst AreBytes is (λ (i : ℕ). lit< tt)
spelled_bytes (high ∷ []) bytes e = absurd (cc)
spelled_bytes (high ∷ low ∷ digits) bytes e =
    in_front_bytes (pair_value high low) (bytes_of digits) bytes (λ (v : ℕ) (is : pair_value high low ≡ Some v). joined_small (digit_value high)
    (digit_value low) v (digit_small high) (digit_small low) is) (spelled_bytes digits) e

if_block : (b : Bool) (o : Option (List ℕ)) (bytes : List ℕ) → (if b then o else None) ≡ Some bytes → o ≡ Some bytes
if_block true o bytes e = e
if_block false o bytes e = absurd (cc)

block_bytes : (word bytes : List ℕ) → block_of word ≡ Some bytes → AreBytes bytes
unfolding block_of
block_bytes word bytes e = spelled_bytes word bytes (if_block (has_bytes word && nat_le (length word) 1024) (bytes_of word) bytes e)

-- ---- the words of a line

record IsBlockOf (segment : SegmentLine) (t : TransferLists) : Type 0 where
  dest : t.dest ≡ segment.end
  within' : t.offset + length t.bytes ≤ segment.size
  bytes : AreBytes t.bytes

a_block : (segment : SegmentLine) (offset : ℕ) (words : List (List ℕ)) →
    Meets (λ (found : TransferLists × List (List ℕ)). IsBlockOf segment found.0) (block_at segment offset words)
unfolding block_at
a_block segment offset words =
    let P : TransferLists × List (List ℕ) → Type 0 = λ found. IsBlockOf segment found.0 in
    bind (word_at words) _ (anything (word_at words)) (λ word _.
    bind (or_else BadNumber (block_of word.0)) _ (found BadNumber (block_of word.0)) (λ block e.
    test (nat_le (offset + length block) segment.size) _ _
    (λ fits. gives P (record { dest = segment.end; offset = offset; bytes = block }, word.1) (record {
      dest = refl;
      within' = leb-true (offset + length block) segment.size fits;
      bytes = block_bytes word.0 block e;
    }))
    (λ e2. refuses P OutOfRange)))

record IsAmong (segments : List SegmentLine) (s : SegmentLine) : Type 0 where
  number : ℕ
  is : find (λ (t : SegmentLine). t.end.0 == number) segments ≡ Some s

a_segment : (said : Laid) (words : List (List ℕ)) → Meets (λ (found : SegmentLine × List (List ℕ)). IsAmong said.segments found.0) (segment_at said words)
unfolding segment_at
a_segment said words =
    bind (number_at words) _ (anything (number_at words)) (λ number _.
    bind (or_else Undeclared (find (λ (s : SegmentLine). s.end.0 == number.0) said.segments)) _
    (found Undeclared (find (λ (s : SegmentLine). s.end.0 == number.0) said.segments)) (λ segment e.
    gives (λ (found : SegmentLine × List (List ℕ)). IsAmong said.segments found.0) (segment, number.1) (record { number = number.0; is = e })))

abbrev IsSized : SegmentLine → Type 0
IsSized s = s.size ≤ 65_536

has_segment : (segments : List SegmentLine) (s : SegmentLine) (t : TransferLists) → All IsSized segments → IsAmong segments s → IsBlockOf s t →
    HasSegment segments t
has_segment segments s t sized among block =
    let same : s.end.0 ≡ among.number = eqb-true s.end.0 among.number (find_passes (λ (u : SegmentLine). u.end.0 == among.number) segments s among.is) in
    let dest : among.number ≡ t.dest.0 = sym same ∙ ap (λ (end : EndpointId). end.0) (sym block.dest) in
    record {
      segment = s;
      is = ap (λ (n : ℕ). find (λ (u : SegmentLine). u.end.0 == n) segments) (sym dest) ∙ among.is;
      within = block.within';
      size = found_holds IsSized (λ (u : SegmentLine). u.end.0 == among.number) segments s sized among.is;
      bytes = block.bytes;
    }

a_transfer : (said : Laid) (words : List (List ℕ)) → All IsSized said.segments →
    Meets (λ (sent : Sent). HasSegment said.segments sent.transfer) (transfer_line said words)
unfolding transfer_line
a_transfer said words sized =
    let P : Sent → Type 0 = λ sent. HasSegment said.segments sent.transfer in
    bind (end_at said words) _ (anything (end_at said words)) (λ end _.
    bind (within 0 15 end.1) _ (anything (within 0 15 end.1)) (λ index _.
    bind (segment_at said index.1) _ (a_segment said index.1) (λ segment among.
    bind (number_at segment.1) _ (anything (number_at segment.1)) (λ offset _.
    bind (block_at segment.0 offset.0 offset.1) _ (a_block segment.0 offset.0 offset.1) (λ block is.
    bind (ended block.1) _ (anything (ended block.1)) (λ e _.
    test (nat_le (said.calls + 2 * piece_count block.0) 16_384) _ _
    (λ room. gives P (record {
      end = end.0;
      index = index.0;
      handler = segment.0.handler;
      transfer = block.0;
    }) (has_segment said.segments segment.0 block.0 sized among is))
    (λ e2. refuses P TooMany)))))))

fresh_sized : (said : Laid) (s : SegmentLine) → IsSized s → Meets IsSized (fresh said s)
unfolding fresh
fresh_sized said s sized =
    test (is_some (find (λ (t : SegmentLine). t.end.0 == s.end.0) said.segments)) _ _ (λ e. refuses IsSized Twice) (λ e.
    test (nat_lt (length said.segments) 16) _ _ (λ e2. gives IsSized s sized) (λ e2. refuses IsSized TooMany))

a_segment_line : (said : Laid) (words : List (List ℕ)) → Meets IsSized (segment_line said words)
unfolding segment_line
a_segment_line said words =
    test said.scripted _ _ (λ e. refuses IsSized OutOfPlace) (λ e.
    bind (end_at said words) _ (anything (end_at said words)) (λ end _.
    bind (within 1 15 end.1) _ (anything (within 1 15 end.1)) (λ handler _.
    bind (within 1 65_536 handler.1) _ (is_within 1 65_536 handler.1) (λ size h.
    bind (ended size.1) _ (anything (ended size.1)) (λ e2 _.
    fresh_sized said (record { end = end.0; handler = handler.0; size = size.0 }) h.1)))))

-- ---- line by line

record Good (said : Laid) : Type 0 where
  transfers' : All (HasSegment said.segments) said.transfers
  sizes : All IsSized said.segments

kept_at : (p : SegmentLine → Bool) (x : SegmentLine) (y : SegmentLine) (b : Bool) (first second : Option SegmentLine) → (first ≡ Some y → second ≡ Some y) →
    (if b then Some x else first) ≡ Some y → (if b then Some x else second) ≡ Some y
kept_at p x y true first second h e = e
kept_at p x y false first second h e = h e

find_kept : (p : SegmentLine → Bool) (xs zs : List SegmentLine) (y : SegmentLine) → find p xs ≡ Some y → find p (xs ++ zs) ≡ Some y
find_kept p [] zs y e = absurd (cc)
find_kept p (x ∷ xs) zs y e = kept_at p x y (p x) (find p xs) (find p (xs ++ zs)) (find_kept p xs zs y) e

still_has : (segments : List SegmentLine) (s : SegmentLine) (t : TransferLists) → HasSegment segments t → HasSegment (segments ++ s ∷ []) t
still_has segments s t has = record {
  segment = has.segment;
  is = find_kept (λ (u : SegmentLine). u.end.0 == t.dest.0) segments (s ∷ []) has.segment has.is;
  within = has.within;
  size = has.size;
  bytes = has.bytes;
}

own_good : (number : ℕ) (said : Laid) (kind : Own) (words : List (List ℕ)) → Good said → Meets Good (after_own number said kind words)
unfolding after_own
own_good number said own.Segment words good =
    bind (segment_line said words) _ (a_segment_line said words) (λ s sized.
    gives Good (with_segment said s) (record {
      transfers' = All-weaker (HasSegment said.segments) (HasSegment (said.segments ++ s ∷ [])) (still_has said.segments s) said.transfers good.transfers';
      sizes = All-push IsSized said.segments s good.sizes sized;
    }))
own_good number said (own.Transfer thread) words good =
    bind (transfer_line said words) _ (a_transfer said words good.sizes) (λ sent has.
    gives Good (with_transfer number thread said sent) (record {
      transfers' =
          All-push (HasSegment said.segments) said.transfers sent.transfer good.transfers' has;
      sizes = good.sizes;
    }))
own_good number said (own.Serve thread) words good =
    bind (serve_line said words) _ (anything (serve_line said words)) (λ served _.
    gives Good (with_serve number thread said served) (record { transfers' = good.transfers'; sizes = good.sizes }))

kind_good : (number : ℕ) (said : Laid) (line : List ℕ) (o : Option (Own × List (List ℕ))) → Good said → Meets Good (by_kind number said line o)
kind_good number said line None good = gives Good (with_ordinary number said line (words_of line)) (record { transfers' = good.transfers'; sizes = good.sizes })
kind_good number said line (Some kind) good =
    test (is_text_line line) _ _ (λ e. own_good number said kind.0 kind.1 good) (λ e. refuses Good NotText)

line_good : (number : ℕ) (said : Laid) (line : List ℕ) → Good said → Meets Good (after_line number said line)
unfolding after_line
line_good number said line good = kind_good number said line (own_of (words_of line)) good

abbrev Ends : ExpandedLists → Type 0
Ends e = All (HasSegment e.segments) e.transfers

next_good : (number : ℕ) (r : Result Laid What) (f : Laid → Result ExpandedLists ScenarioFault) (e : ExpandedLists) →
    ((next : Laid) → r ≡ Ok next → f next ≡ Ok e → Ends e) → on_line number r f ≡ Ok e → Ends e
next_good number (Ok next) f e h is = h next refl is
next_good number (Err what) f e h is = absurd (cc)

from_good : (lines : List (List ℕ)) (number : ℕ) (said : Laid) (e : ExpandedLists) → Good said → expand_from number said lines ≡ Ok e → Ends e
unfolding expand_from
from_good [] number said e good is =
    let same : expanded_of said ≡ e = cc in
    subst Ends same good.transfers'
from_good (line ∷ lines) number said e good is =
    next_good number (after_line number said line) (λ next. expand_from (line_after number) next lines) e
    (λ (next : Laid) (taken : after_line number said line ≡ Ok next) (rest : expand_from (line_after number) next lines ≡ Ok e). from_good lines
    (line_after number) next e ((line_good number said line good).holds next taken) rest) is

pub expansions_are_lawful : ExpansionsAreLawful
expansions_are_lawful bytes e is = from_good (lines_of bytes) 1 nothing_laid e (record { transfers' = All-nil (HasSegment []); sizes = All-nil IsSized }) is
