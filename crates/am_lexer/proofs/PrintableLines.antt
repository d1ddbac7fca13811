-- Whether all lines of a text are printable, by its bytes.
use Rattle.std.proofs.Common.{◌≡◌, ℕ, ◌≤◌, Bool, true, false, eqb, ◌&&◌, ◌||◌, List, [], ◌∷◌, length, take, refl, sym, ap, ◌∙◌, arith}
use Rattle.std.specs.Prelude.{nat_le}
use Rattle.std.specs.List.{list_all, onto_first}
use Rattle.std.proofs.lemmas.List.{take_all}
use Rattle.am_lexer.specs.Text.{lines_of, is_text_line}

abbrev is_printable : ℕ → Bool
is_printable byte = nat_le 0x20 byte && nat_le byte 0x7e

abbrev pub are_printable : List ℕ → Bool
are_printable text = list_all (λ byte. (nat_le 0x20 byte && nat_le byte 0x7e) || eqb byte 10) text

pub all_taken : (text : List ℕ) (i : ℕ) → length text ≤ i → are_printable (take i text) ≡ are_printable text
all_taken text i le = ap are_printable (take_all i text le)

first_line : (printable : Bool) (byte : ℕ) (lines : List (List ℕ)) → is_printable byte ≡ printable →
    list_all is_text_line (onto_first byte lines) ≡ (printable && list_all is_text_line lines)
first_line true byte [] e = rw e refl
first_line false byte [] e = rw e refl
first_line true byte (line ∷ lines) e = rw e refl
first_line false byte (line ∷ lines) e = rw e refl

one_byte : (byte : ℕ) (text : List ℕ) (printable newline : Bool) → is_printable byte ≡ printable → eqb byte 10 ≡ newline →
    are_printable text ≡ list_all is_text_line (lines_of text) → are_printable (byte ∷ text) ≡ list_all is_text_line (lines_of (byte ∷ text))
unfolding lines_of
one_byte byte text true true p n others = absurd (grind (arith, p, n))
one_byte byte text false true p n others = rw (p, n) others
one_byte byte text true false p n others = rw (p, n) (others ∙ sym (first_line true byte (lines_of text) p))
one_byte byte text false false p n others = rw (p, n) (sym (first_line false byte (lines_of text) p))

pub by_bytes : (text : List ℕ) → are_printable text ≡ list_all is_text_line (lines_of text)
unfolding lines_of
by_bytes [] = refl
by_bytes (byte ∷ text) = one_byte byte text (is_printable byte) (eqb byte 10) refl refl (by_bytes text)
