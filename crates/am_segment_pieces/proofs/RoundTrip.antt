-- The words that carry a piece are that piece.
use Rattle.std.proofs.Common.{◌≡◌, ℕ, zero, suc, ◌+◌, ◌*◌, ◌/◌, ◌%◌, ◌<◌, ◌≤◌, true, ◌&&◌, Some, None, List, [], ◌∷◌, refl, drop, get_or, nat_le, if◌then◌else◌}
use Rattle.std.proofs.Common.{arith}
use Rattle.std.proofs.lemmas.Bool.{le-leb}
use Rattle.std.proofs.lemmas.List.{get_or-drop}
use Rattle.am_lemmas.proofs.Bytes.{three_words_back}
use Rattle.am_segment_pieces.specs.declared.parts.Piece.{Piece}
use Rattle.am_segment_pieces.specs.Pieces.{piece_of, words_of, are_zero}
use Rattle.am_segment_pieces.specs.Laws.Laws.{PiecesAreWords}

-- ---- the first word

pub offset_part : (o l t : ℕ) → o < 65_536 → l ≤ 24 → (o + 65_536 * l + 0x1_0000_0000 * t) % 65_536 ≡ o
offset_part o l t small few = omega arith

pub length_part : (o l t : ℕ) → o < 65_536 → l ≤ 24 → (o + 65_536 * l + 0x1_0000_0000 * t) / 65_536 % 65_536 ≡ l
length_part o l t small few = omega arith

pub transfer_part : (o l t : ℕ) → o < 65_536 → l ≤ 24 → (o + 65_536 * l + 0x1_0000_0000 * t) / 0x1_0000_0000 ≡ t
transfer_part o l t small few = omega arith

-- ---- the other words

zeros_behind : (bytes : List ℕ) → ((i : ℕ) → get_or bytes i 0 ≡ 0) → are_zero bytes ≡ true
zeros_behind [] zeros = refl
zeros_behind (b ∷ bytes) zeros =
    let none : b ≡ 0 = zeros zero in
    rw (none, zeros_behind bytes (λ (i : ℕ). zeros (suc i))) refl

abbrev mk : ℕ → ℕ → ℕ → List ℕ → Piece
mk transfer offset len bytes = record { transfer = transfer; offset = offset; len = len; bytes = bytes }

made : (o l t o' l' t' : ℕ) (b b' : List ℕ) → o ≡ o' → l ≡ l' → t ≡ t' → b ≡ b' → nat_le 1 l' ≡ true → nat_le l' 24 ≡ true → are_zero (drop l' b') ≡ true →
    (if nat_le 1 l && nat_le l 24 && are_zero (drop l b) then Some (mk t o l b) else None) ≡ Some (mk t' o' l' b')
made o l t o' l' t' b b' eo el et eb some few zeros = rw (eo, el, et, eb, some, few, zeros) refl

pub pieces_are_words : PiecesAreWords
unfolding piece_of words_of
pieces_are_words p is =
    made _ _ _ p.offset p.len p.transfer _ p.bytes
    (offset_part p.offset p.len p.transfer is.offset is.few)
    (length_part p.offset p.len p.transfer is.offset is.few)
    (transfer_part p.offset p.len p.transfer is.offset is.few)
    (three_words_back p.bytes is.size is.bytes)
    (le-leb 1 p.len is.some)
    (le-leb p.len 24 is.few)
    (zeros_behind (drop p.len p.bytes) (λ (i : ℕ). rw (get_or-drop p.len p.bytes i 0) (is.zeros (p.len + i) (omega arith))))
