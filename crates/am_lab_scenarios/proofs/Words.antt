-- The printed words: each has bytes, all of them printable and none a space, and is read back.
use Rattle.std.proofs.Common.{◌≡◌, ℕ, ◌+◌, ◌^◌, ◌<◌, ◌≤◌, Bool, true, false, eqb, leb, ltb, ◌&&◌, List, [], ◌∷◌, ◌++◌, length, take, drop, Some, refl, inl, inr}
use Rattle.std.proofs.Common.{append_assoc, rules, arith}
use Rattle.std.specs.Prelude.{codes}
use Rattle.std.specs.Fmt.{decimal}
use Rattle.std.specs.List.{list_all, position}
use Rattle.std.specs.Str.{bytes_eq}
use Rattle.std.proofs.Math.Seq.{take-append_seam, drop-append-add}
use Rattle.std.proofs.lemmas.Fmt.{digits_decimal, digits_value-decimal, decimal_nonempty}
use Rattle.std.proofs.lemmas.Str.Parse.{IsNumeralModel, numerals_by_fold}
use Rattle.std.proofs.lemmas.Bool.{lt-ltb, le-leb, leb-true, eq-eqb, ne_eqb, and_parts, cases_eq, not-true}
use Rattle.std.proofs.lemmas.List.Folds.{list_all-append}
use Rattle.am_lexer.specs.Text.{is_digit, value_after, number_of, has_bytes}
use Rattle.am_names.specs.declared.Serial.{Serial}
use Rattle.am_names.specs.declared.Tag.{Tag}
use Rattle.am_office_text.specs.Words.{tag, serial}
use Rattle.am_scenario.specs.Lines.Places.{serial_of}
use Rattle.am_scenario_types.specs.Lawful.{IsLawfulSerial}
use Rattle.am_check_lines.proofs.Decimals.{decimal_free, letters_free}
use Rattle.am_check_lines.proofs.Cuts.{is_free, first_place}

-- a byte that may stand in a word
abbrev pub is_letter : ℕ → Bool
is_letter byte = leb 33 byte && leb byte 126

abbrev pub is_word : List ℕ → Bool
is_word word = has_bytes word && list_all is_letter word

pub both : (a b : Bool) → a ≡ true → b ≡ true → (a && b) ≡ true
both a b e f = rw (e, f) refl

-- ---- numbers

own : IsNumeralModel (λ ds. list_all is_digit ds ≡ true) (value_after 0)
own = numerals_by_fold _ (search rules) value_after (search rules)

bytes_are : (ds : List ℕ) → 0 < length ds → has_bytes ds ≡ true
bytes_are [] h = absurd (omega arith)
bytes_are (d ∷ ds) h = refl

digits_are_letters : (ds : List ℕ) → list_all is_digit ds ≡ true → list_all is_letter ds ≡ true
digits_are_letters [] h = refl
digits_are_letters (d ∷ ds) h =
    let p = and_parts (is_digit d) (list_all is_digit ds) h in
    let q = and_parts (leb 48 d) (leb d 57) p.0 in
    let low : 48 ≤ d = leb-true 48 d q.0 in
    let high : d ≤ 57 = leb-true d 57 q.1 in
    let from : leb 33 d ≡ true = le-leb 33 d (omega arith) in
    let to : leb d 126 ≡ true = le-leb d 126 (omega arith) in
    rw (from, to, digits_are_letters ds p.1) refl

number_letters : (n : ℕ) → n < 2 ^ 64 → list_all is_letter (decimal n) ≡ true
number_letters n h = digits_are_letters (decimal n) (digits_decimal own n h)

pub number_word : (n : ℕ) → n < 2 ^ 64 → is_word (decimal n) ≡ true
number_word n h = rw (bytes_are (decimal n) (decimal_nonempty n h), number_letters n h) refl

pub number_read : (n : ℕ) → n < 2 ^ 64 → number_of (decimal n) ≡ Some n
unfolding number_of
number_read n h =
    let bytes = bytes_are (decimal n) (decimal_nonempty n h) in
    let digits = digits_decimal own n h in
    let value = digits_value-decimal own n h in
    let small : ltb n (2 ^ 64) ≡ true = lt-ltb n (2 ^ 64) h in
    rw (bytes, digits, value, small) refl

-- a number is no word that begins with a letter
pub no_letter : (letter : ℕ) (word more : List ℕ) → is_free letter word ≡ true → bytes_eq word (letter ∷ more) ≡ false
no_letter letter [] more h = refl
no_letter letter (b ∷ word) more h = let differ : eqb b letter ≡ false = not-true _ (and_parts _ _ h).0 in rw differ refl

pub number_differs : (n letter : ℕ) (more : List ℕ) → n < 2 ^ 64 → 57 < letter → bytes_eq (decimal n) (letter ∷ more) ≡ false
number_differs n letter more h high = no_letter letter (decimal n) more (letters_free letter n high h)

-- a letter before a number
pub numbered_word : (letter n : ℕ) → is_letter letter ≡ true → n < 2 ^ 64 → is_word (letter ∷ decimal n) ≡ true
numbered_word letter n e h = both (is_letter letter) (list_all is_letter (decimal n)) e (number_letters n h)

-- ---- tags

pub tag_word : (t : Tag) → t.0 < 2 ^ 64 → is_word (tag t) ≡ true
unfolding tag
tag_word t h = elim (cases_eq t.0 0) [
  | inl z ↦ let yes : eqb t.0 0 ≡ true = eq-eqb t.0 0 z in rw yes refl
  | inr nz ↦ elim (cases_eq t.0 18446744073709551615) [
    | inl m ↦ let differ : eqb t.0 0 ≡ false = ne_eqb t.0 0 nz in let yes : eqb t.0 18446744073709551615 ≡ true = eq-eqb t.0 18446744073709551615 m in
        rw (differ, yes) refl
    | inr nm ↦
        let differ : eqb t.0 0 ≡ false = ne_eqb t.0 0 nz in
        let max : eqb t.0 18446744073709551615 ≡ false = ne_eqb t.0 18446744073709551615 nm in
        rw (differ, max) (number_word t.0 h)
  ]
]

-- ---- serials

-- a serial is put together so
dotted : (source count : List ℕ) → (source ++ codes ".") ++ count ≡ source ++ 46 ∷ count
dotted source count = append_assoc source (codes ".") count

bytes_before : (ds more : List ℕ) → has_bytes ds ≡ true → has_bytes (ds ++ more) ≡ true
bytes_before [] more h = absurd cc
bytes_before (d ∷ ds) more h = refl

pub serial_word : (s : Serial) → IsLawfulSerial s → is_word (serial s) ≡ true
unfolding serial
serial_word s h =
    let small : s.source.0 < 2 ^ 64 = omega (arith, h.0) in
    let source = number_letters s.source.0 small in
    let count = number_letters s.count (omega (arith, h.1)) in
    let bytes = bytes_before (decimal s.source.0) (46 ∷ decimal s.count) (bytes_are (decimal s.source.0) (decimal_nonempty s.source.0 small)) in
    rw (dotted (decimal s.source.0) (decimal s.count), bytes, list_all-append is_letter (decimal s.source.0) (46 ∷ decimal s.count), source, count) refl

pub serial_read : (s : Serial) → IsLawfulSerial s → serial_of (serial s) ≡ Some s
unfolding serial_of serial
serial_read s h =
    let source = decimal s.source.0 in
    let count = decimal s.count in
    let small : s.source.0 < 2 ^ 64 = omega (arith, h.0) in
    let dots : is_free 46 source ≡ true = decimal_free 46 s.source.0 (omega arith) small in
    let place : position (λ b. eqb b 46) (source ++ 46 ∷ count) ≡ Some (length source) = first_place 46 source count dots in
    let front : take (length source) (source ++ 46 ∷ count) ≡ source = take-append_seam source (46 ∷ count) in
    let back : drop (length source + 1) (source ++ 46 ∷ count) ≡ count = drop-append-add source (46 ∷ count) 1 in
    let first : leb s.source.0 255 ≡ true = le-leb s.source.0 255 h.0 in
    let second : leb s.count 0xffff_ffff ≡ true = le-leb s.count 0xffff_ffff (omega (arith, h.1)) in
    rw (dotted source count, place, front, back, number_read s.source.0 small, number_read s.count (omega (arith, h.1)), first, second) refl
