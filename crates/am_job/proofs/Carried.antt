-- The word that the four words of a word carry is the word.
use Rattle.std.proofs.Common.{◌≡◌, ℕ, zero, suc, ◌-◌, ◌<◌, ◌≤◌, true, ◌&&◌, Some, None, List, refl, ap, ◌∙◌, length, take, drop, get_or, replicate, nat_le}
use Rattle.std.proofs.Common.{if◌then◌else◌, arith, length-append}
use Rattle.std.proofs.lemmas.Bool.{le-leb}
use Rattle.std.proofs.lemmas.List.{length-replicate, take_at, drop_at}
use Rattle.am_lemmas.proofs.Bytes.{three_words_back, bytes-padded}
use Rattle.am_segment_pieces.specs.Blocks.{padded}
use Rattle.am_job.specs.Words.Codes.{code, word_in}
use Rattle.am_segment_pieces.specs.Pieces.{bytes_in, are_zero}

all_zero : (n : ℕ) → are_zero (replicate n 0) ≡ true
all_zero zero = refl
all_zero (suc n) = all_zero n

taken : (a : ℕ) (bytes all : List ℕ) (word : List ℕ) → bytes ≡ all → nat_le 1 a ≡ true → nat_le a 24 ≡ true → are_zero (drop a all) ≡ true → take a all ≡ word →
    (if nat_le 1 a && nat_le a 24 && are_zero (drop a bytes) then Some (take a bytes) else None) ≡ Some word
taken a bytes all word is some few zeros front = rw (is, some, few, zeros, front) refl

-- a word as it may be sent: 1 to 24 bytes, each below 256
pub record IsWord (word : List ℕ) : Type 0 where
  pub some : 0 < length word
  pub few : length word ≤ 24
  pub small : (i : ℕ) → get_or word i 0 < 256

pub code_carries : (word : List ℕ) → IsWord word → word_in (code word) ≡ Some word
unfolding code word_in
code_carries word is =
    let size : length (padded word) ≡ 24 = omega (
      arith,
      is.few,
      length-append word (replicate (24 - length word) 0),
      length-replicate {A = ℕ} (24 - length word) 0,
    ) in
    let back : bytes_in (code word) ≡ padded word = three_words_back (padded word) size (bytes-padded word (24 - length word) is.small) in
    taken (length word) (bytes_in (code word)) (padded word) word back (le-leb 1 (length word) (omega (arith, is.some))) (le-leb (length word) 24 is.few)
    (ap (λ (l : List ℕ). are_zero l) (drop_at word (replicate (24 - length word) 0) (length word) refl) ∙ all_zero (24 - length word))
    (take_at word (replicate (24 - length word) 0) (length word) refl)
