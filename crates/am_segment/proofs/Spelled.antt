-- The bytes that digits spell, from the left.
use Rattle.std.proofs.Common.{◌≡◌, ℕ, Option, Some, None, List, [], ◌∷◌, ◌++◌, refl, sym, ap, ◌∙◌, length}
use Rattle.std.proofs.lemmas.List.{append_assoc, append-nil, nil_from_length}
use Rattle.am_segment.specs.Hex.{bytes_of, in_front, pair_value}

-- bytes, and those that the other digits spell behind them
abbrev pub after : List ℕ → Option (List ℕ) → Option (List ℕ)
after bytes None = None
after bytes (Some rest) = Some (bytes ++ rest)

pub after_byte : (bytes : List ℕ) (byte : ℕ) (o : Option (List ℕ)) → after (bytes ++ byte ∷ []) o ≡ after bytes (in_front (Some byte) o)
after_byte bytes byte None = refl
after_byte bytes byte (Some rest) = ap Some (append_assoc bytes (byte ∷ []) rest)

-- one pair more
pub pair_taken : (bytes : List ℕ) (high low byte : ℕ) (digits : List ℕ) (all : Option (List ℕ)) → pair_value high low ≡ Some byte →
    after bytes (bytes_of (high ∷ low ∷ digits)) ≡ all → after (bytes ++ byte ∷ []) (bytes_of digits) ≡ all
unfolding bytes_of
pair_taken bytes high low byte digits all pair so_far = after_byte bytes byte (bytes_of digits)
    ∙ ap (λ (p : Option ℕ). after bytes (in_front p (bytes_of digits))) (sym pair) ∙ so_far

-- no pair
pub pair_refused : (bytes : List ℕ) (high low : ℕ) (digits : List ℕ) (all : Option (List ℕ)) → pair_value high low ≡ None →
    after bytes (bytes_of (high ∷ low ∷ digits)) ≡ all → all ≡ None
unfolding bytes_of
pair_refused bytes high low digits all pair so_far = sym so_far ∙ ap (λ (p : Option ℕ). after bytes (in_front p (bytes_of digits))) pair

pub all_taken : (bytes : List ℕ) (all : Option (List ℕ)) → after bytes (bytes_of []) ≡ all → all ≡ Some bytes
unfolding bytes_of
all_taken bytes all so_far = sym so_far ∙ ap Some (append-nil bytes)

pub one_left : (bytes : List ℕ) (digit : ℕ) (all : Option (List ℕ)) → after bytes (bytes_of (digit ∷ [])) ≡ all → all ≡ None
unfolding bytes_of
one_left bytes digit all so_far = sym so_far

-- so where no pair is left of the digits
pub none_left : (bytes rest : List ℕ) (all : Option (List ℕ)) → length rest ≡ 0 → after bytes (bytes_of rest) ≡ all → all ≡ Some bytes
none_left bytes rest all none so_far = all_taken bytes all (rw (nil_from_length rest none) at so_far)

pub one_only : (bytes rest behind : List ℕ) (high : ℕ) (all : Option (List ℕ)) → rest ≡ high ∷ behind → length behind ≡ 0 → after bytes (bytes_of rest) ≡ all →
    all ≡ None
one_only bytes rest behind high all is none so_far = one_left bytes high all (rw (is, nil_from_length behind none) at so_far)
