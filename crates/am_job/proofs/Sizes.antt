-- How many calls a round's script has.
use Rattle.std.proofs.Common.{◌≡◌, ℕ, zero, suc, ◌+◌, ◌*◌, ◌%◌, ◌<◌, ◌≤◌, List, [], ◌∷◌, ◌++◌, length, refl, arith, length-append}
use Rattle.std.proofs.Math.Nat.{mul-le-mul_left}
use Rattle.std.proofs.lemmas.List.{length_push}
use Rattle.am_office_entries.specs.declared.Call.TheVariants.{Request, Poll, SetHandler}
use Rattle.am_office_entries.specs.declared.HandlerKind.TheVariants.{Note}
use Rattle.am_job.specs.declared.words.codes.CodedWord.{CodedWord}
use Rattle.am_job.specs.Rounds.{round_size}
use Rattle.am_job.specs.Scripts.{map_to, maps_below, on_owner, on_sender, opening, openings_below, owner, polls, script, sending, sendings}

pub maps_length : (n k : ℕ) → length (maps_below n k) ≡ k
unfolding maps_below
maps_length n zero = refl
maps_length n (suc k) = omega (arith, length_push (maps_below n k) (on_sender n (map_to k)), maps_length n k)

pub opening_length : (w n : ℕ) → length (opening w n) ≡ w + 1
unfolding opening
opening_length w n = omega (arith, length-append (on_owner n (SetHandler 1 Note) ∷ []) (maps_below n w), maps_length n w)

pub openings_length : (w n : ℕ) → length (openings_below w n) ≡ (w + 1) * n
unfolding openings_below
openings_length w zero = omega arith
openings_length w (suc n) = omega (arith, length-append (openings_below w n) (opening w n), openings_length w n, opening_length w n)

-- so many openings, and one more, are no more than all
pub openings_fit : (w n : ℕ) → n < w → length (openings_below w n) + length (opening w n) ≤ length (openings_below w w)
openings_fit w n less =
    let next : n + 1 ≤ w = omega (arith, less) in
    omega (arith, openings_length w n, opening_length w n, openings_length w w, mul-le-mul_left (w + 1) next)

pub polls_length : (n times : ℕ) → length (polls n times) ≡ times
unfolding polls
polls_length n zero = refl
polls_length n (suc times) = omega (arith, length_push (polls n times) (on_owner n Poll), polls_length n times)

pub sending_length : (w n : ℕ) (word : CodedWord) → length (sending w n word) ≡ w + 2
unfolding sending
sending_length w n word =
    omega (
      arith,
      length_push (on_sender n (Request (owner w word) 1 word.words) ∷ [] ++ polls n w) (on_sender n Poll),
      length-append (on_sender n (Request (owner w word) 1 word.words) ∷ []) (polls n w),
      polls_length n w,
    )

pub sendings_length : (w j : ℕ) (words : List CodedWord) → length (sendings w j words) ≡ (w + 2) * length words
unfolding sendings
sendings_length w j [] = omega arith
sendings_length w j (word ∷ words) = omega (
  arith,
  length-append (sending w (j % w) word) (sendings w (j + 1) words),
  sending_length w (j % w) word,
  sendings_length w (j + 1) words,
)

pub script_length : (w : ℕ) (words : List CodedWord) → length (script w words) ≡ length (openings_below w w) + length (sendings w 0 words)
unfolding script
script_length w words = length-append (openings_below w w) (sendings w 0 words)

within_size : (w n : ℕ) → n ≤ round_size w → (w + 2) * n ≤ 16_000
within_size w n few = omega (arith, mul-le-mul_left (w + 2) few)

few_openings : (w : ℕ) → w ≤ 8 → (w + 1) * w ≤ 72
few_openings w few = omega (arith, mul-le-mul_left w few)

pub few_calls : (w : ℕ) (words : List CodedWord) → w ≤ 8 → length words ≤ round_size w → length (script w words) ≤ 16_384
few_calls w words few size =
    omega (
      arith,
      script_length w words,
      openings_length w w,
      sendings_length w 0 words,
      within_size w (length words) size,
      few_openings w few,
    )
