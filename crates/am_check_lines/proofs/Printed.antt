-- Each printed word is read back, and has no space.
use Rattle.std.proofs.Common.{◌≡◌, ℕ, ◌+◌, ◌^◌, ◌<◌, true, false, eqb, not, List, [], ◌∷◌, ◌++◌, length, take, drop, Some, refl, inl, inr, arith}
use Rattle.std.specs.Prelude.{codes}
use Rattle.std.specs.Fmt.{decimal}
use Rattle.std.specs.List.{position}
use Rattle.std.specs.Str.{bytes_eq}
use Rattle.std.proofs.Math.Seq.{take-append_seam, drop-append-add}
use Rattle.std.proofs.lemmas.Bool.{and_parts, not-true, eq-eqb, ne_eqb, cases_eq}
use Rattle.std.proofs.lemmas.List.Folds.{list_all-append}
use Rattle.std.proofs.Common.{append_assoc}
use Rattle.am_names.specs.declared.Tag.{Tag}
use Rattle.am_names.specs.declared.Serial.{Serial}
use Rattle.am_office_text.specs.Words.{tag, serial}
use Rattle.am_check_lines.specs.Grammar.{IsByte, IsFourBytes, IsEightBytes, IsSerial}
use Rattle.am_check_lines.specs.Reading.{number_up_to, tag_of, serial_of}
use Rattle.am_check_lines.proofs.Decimals.{decimal_read, decimal_up_to, decimal_free, letters_free}
use Rattle.am_check_lines.proofs.Cuts.{is_free, first_place}

pub byte_read : (n : ℕ) → IsByte n → number_up_to 255 (decimal n) ≡ Some n
byte_read n h = decimal_up_to 255 n (omega arith) (omega arith)

pub four_read : (n : ℕ) → IsFourBytes n → number_up_to 0xffff_ffff (decimal n) ≡ Some n
four_read n h = decimal_up_to 0xffff_ffff n (omega arith) (omega arith)

pub eight_read : (n : ℕ) → IsEightBytes n → number_up_to 0xffff_ffff_ffff_ffff (decimal n) ≡ Some n
eight_read n h = decimal_up_to 0xffff_ffff_ffff_ffff n (omega arith) h

pub byte_free : (n : ℕ) → IsByte n → is_free 32 (decimal n) ≡ true
byte_free n h = decimal_free 32 n (omega arith) (omega arith)

pub four_free : (n : ℕ) → IsFourBytes n → is_free 32 (decimal n) ≡ true
four_free n h = decimal_free 32 n (omega arith) (omega arith)

pub eight_free : (n : ℕ) → IsEightBytes n → is_free 32 (decimal n) ≡ true
eight_free n h = decimal_free 32 n (omega arith) h

-- a word without this byte is no word that begins with it
no_letter : (letter : ℕ) (word rest : List ℕ) → is_free letter word ≡ true → bytes_eq word (letter ∷ rest) ≡ false
no_letter letter [] rest h = refl
no_letter letter (b ∷ word) rest h = let no : eqb b letter ≡ false = not-true _ (and_parts _ _ h).0 in rw no refl

letter_free : (letter n : ℕ) → 57 < letter → n < 2 ^ 64 → is_free letter (decimal n) ≡ true
letter_free letter n high h = letters_free letter n high h

pub tag_read : (t : Tag) → IsEightBytes t.0 → tag_of (tag t) ≡ Some t
unfolding tag_of tag
tag_read t h = elim (cases_eq t.0 0) [
  | inl z ↦ let yes : eqb t.0 0 ≡ true = eq-eqb t.0 0 z in rw (yes, z) refl
  | inr nz ↦ elim (cases_eq t.0 18446744073709551615) [
    | inl m ↦ let no : eqb t.0 0 ≡ false = ne_eqb t.0 0 nz in let yes : eqb t.0 18446744073709551615 ≡ true = eq-eqb t.0 18446744073709551615 m in
        rw (no, yes, m) refl
    | inr nm ↦
        let no : eqb t.0 0 ≡ false = ne_eqb t.0 0 nz in
        let max : eqb t.0 18446744073709551615 ≡ false = ne_eqb t.0 18446744073709551615 nm in
        let none : bytes_eq (decimal t.0) (codes "none") ≡ false = no_letter 110 (decimal t.0) (codes "one") (letter_free 110 t.0 (omega arith) h) in
        let all : bytes_eq (decimal t.0) (codes "all") ≡ false = no_letter 97 (decimal t.0) (codes "ll") (letter_free 97 t.0 (omega arith) h) in
        rw (no, max, none, all, decimal_read t.0 h, no, max) refl
  ]
]

pub tag_free : (t : Tag) → IsEightBytes t.0 → is_free 32 (tag t) ≡ true
unfolding tag
tag_free t h = elim (cases_eq t.0 0) [
  | inl z ↦ let yes : eqb t.0 0 ≡ true = eq-eqb t.0 0 z in rw yes refl
  | inr nz ↦ elim (cases_eq t.0 18446744073709551615) [
    | inl m ↦ let no : eqb t.0 0 ≡ false = ne_eqb t.0 0 nz in let yes : eqb t.0 18446744073709551615 ≡ true = eq-eqb t.0 18446744073709551615 m in
        rw (no, yes) refl
    | inr nm ↦
        let no : eqb t.0 0 ≡ false = ne_eqb t.0 0 nz in
        let max : eqb t.0 18446744073709551615 ≡ false = ne_eqb t.0 18446744073709551615 nm in
        rw (no, max) (eight_free t.0 h)
  ]
]

-- a serial is put together so
dotted : (source count : List ℕ) → (source ++ codes ".") ++ count ≡ source ++ 46 ∷ count
dotted source count = append_assoc source (codes ".") count

pub serial_read : (s : Serial) → IsSerial s → serial_of (serial s) ≡ Some s
unfolding serial_of serial
serial_read s h =
    let source = decimal s.source.0 in
    let count = decimal s.count in
    let dots : is_free 46 source ≡ true = decimal_free 46 s.source.0 (omega arith) (omega (arith, h.0)) in
    let place : position (λ b. eqb b 46) (source ++ 46 ∷ count) ≡ Some (length source) = first_place 46 source count dots in
    let front : take (length source) (source ++ 46 ∷ count) ≡ source = take-append_seam source (46 ∷ count) in
    let back : drop (length source + 1) (source ++ 46 ∷ count) ≡ count = drop-append-add source (46 ∷ count) 1 in
    rw (dotted source count, place, front, back, byte_read s.source.0 h.0, four_read s.count h.1) refl

pub serial_free : (s : Serial) → IsSerial s → is_free 32 (serial s) ≡ true
unfolding serial
serial_free s h =
    rw (
      dotted (decimal s.source.0) (decimal s.count),
      list_all-append (λ b. not (eqb b 32)) (decimal s.source.0) (46 ∷ decimal s.count),
      byte_free s.source.0 h.0,
      four_free s.count h.1,
    ) refl
