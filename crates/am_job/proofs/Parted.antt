-- The words of a text, byte by byte.
use Rattle.std.proofs.Common.{◌≡◌, ℕ, ◌+◌, ◌<◌, ◌≤◌, Bool, true, false, List, [], ◌∷◌, ◌++◌, refl, sym, ap, ◌∙◌, length, drop, get_or, map, count_by, nat_lt}
use Rattle.std.proofs.Common.{nat_le, if◌then◌else◌, arith, append_assoc, zero-add}
use Rattle.std.proofs.lemmas.List.{drop_more, drop_all, map-append}
use Rattle.std.proofs.lemmas.List.Edits.{between_more, between_none}
use Rattle.std.proofs.lemmas.List.Elements.{filter-append}
use Rattle.std.proofs.lemmas.List.Sums.{sum_by-append}
use Rattle.std.proofs.lemmas.Slice.{between_to_end}
use Rattle.std.proofs.lemmas.Bool.Decides.{nat_tests}
use Rattle.std.specs.List.{filter, slice_range}
use Rattle.am_job.specs.declared.words.codes.CodedWord.{CodedWord}
use Rattle.am_job.specs.Words.Codes.{coded}
use Rattle.am_job.specs.Words.Texts.{closed, is_gap, is_long, is_short, words_after}

-- ---- a run as a word

pub no_run : (run : List ℕ) → length run ≡ 0 → closed run ≡ []
no_run [] e = refl
no_run (byte ∷ run) e = absurd (omega arith)

pub long_run : (run : List ℕ) → 24 < length run → (filter is_short (closed run) ≡ []) × (count_by is_long (closed run) ≡ 1)
long_run [] e = absurd (omega arith)
long_run (byte ∷ run) e =
    let over : nat_le (length (byte ∷ run)) 24 ≡ false = grind (arith, nat_tests) in
    let long : nat_lt 24 (length (byte ∷ run)) ≡ true = grind (arith, nat_tests) in
    (rw over refl, rw long refl)

pub short_run : (run : List ℕ) → 0 < length run → length run ≤ 24 → (filter is_short (closed run) ≡ run ∷ []) × (count_by is_long (closed run) ≡ 0)
short_run [] some few = absurd (omega arith)
short_run (byte ∷ run) some few =
    let short : nat_le (length (byte ∷ run)) 24 ≡ true = grind (arith, nat_tests) in
    let within : nat_lt 24 (length (byte ∷ run)) ≡ false = grind (arith, nat_tests) in
    (rw short refl, rw within refl)

-- ---- byte by byte

-- the words of a text that are still to be found, where a run began at a place
abbrev pub left : List ℕ → ℕ → ℕ → List (List ℕ)
left text start i = words_after (slice_range text start i) (drop i text)

first_gap : (begun rest : List ℕ) (byte : ℕ) → is_gap byte ≡ true → words_after begun (byte ∷ rest) ≡ closed begun ++ words_after [] rest
unfolding words_after
first_gap begun rest byte gap = rw gap refl

first_on : (begun rest : List ℕ) (byte : ℕ) → is_gap byte ≡ false → words_after begun (byte ∷ rest) ≡ words_after (begun ++ byte ∷ []) rest
unfolding words_after
first_on begun rest byte on = rw on refl

at_end : (begun : List ℕ) → words_after begun [] ≡ closed begun
unfolding words_after
at_end begun = refl

pub past_gap : (text : List ℕ) (start i : ℕ) → i < length text → is_gap (get_or text i 0) ≡ true →
    left text start i ≡ closed (slice_range text start i) ++ left text (i + 1) (i + 1)
past_gap text start i below gap =
    ap (λ (rest : List ℕ). words_after (slice_range text start i) rest) (drop_more text i 0 below)
    ∙ first_gap (slice_range text start i) (drop (i + 1) text) (get_or text i 0) gap
    ∙ ap (λ (begun : List ℕ). closed (slice_range text start i) ++ words_after begun (drop (i + 1) text)) (sym (between_none text (i + 1)))

pub past_byte : (text : List ℕ) (start i : ℕ) → start ≤ i → i < length text → is_gap (get_or text i 0) ≡ false → left text start i ≡ left text start (i + 1)
past_byte text start i from below on =
    ap (λ (rest : List ℕ). words_after (slice_range text start i) rest) (drop_more text i 0 below)
    ∙ first_on (slice_range text start i) (drop (i + 1) text) (get_or text i 0) on
    ∙ ap (λ (begun : List ℕ). words_after begun (drop (i + 1) text)) (sym (between_more text start i 0 from below))

pub past_all : (text : List ℕ) (start i : ℕ) → length text ≤ i → left text start i ≡ closed (drop start text)
past_all text start i past =
    ap (λ (rest : List ℕ). words_after (slice_range text start i) rest) (drop_all i text past)
    ∙ at_end (slice_range text start i)
    ∙ ap (λ (begun : List ℕ). closed begun) (between_to_end text start i past)

-- ---- what is sent, and what is counted

abbrev pub sent_of : List (List ℕ) → List CodedWord
sent_of words = map coded (filter is_short words)

abbrev pub long_of : List (List ℕ) → ℕ
long_of words = count_by is_long words

sent_both : (a b : List (List ℕ)) → sent_of (a ++ b) ≡ sent_of a ++ sent_of b
sent_both a b = ap (λ (words : List (List ℕ)). map coded words) (filter-append is_short a b) ∙ map-append coded (filter is_short a) (filter is_short b)

long_both : (a b : List (List ℕ)) → long_of (a ++ b) ≡ long_of a + long_of b
long_both a b = sum_by-append (λ (word : List ℕ). if is_long word then 1 else 0) a b

-- what was found and what is still to be found
pub record Parts (text : List ℕ) (sent : List CodedWord) (long start i : ℕ) : Type 0 where
  pub sends : sent ++ sent_of (left text start i) ≡ sent_of (words_after [] text)
  pub counts : long + long_of (left text start i) ≡ long_of (words_after [] text)

pub parts_none : (text : List ℕ) → Parts text [] 0 0 0
parts_none text = record { sends = refl; counts = zero-add (long_of (words_after [] text)) }

pub parts_gap : (text between : List ℕ) (sent sent' : List CodedWord) (long long' start i : ℕ) → i < length text → is_gap (get_or text i 0) ≡ true →
    between ≡ slice_range text start i
    → sent' ≡ sent ++ sent_of (closed between) → long' ≡ long + long_of (closed between) → Parts text sent long start i → Parts text sent' long' (i + 1) (i + 1)
parts_gap text between sent sent' long long' start i below gap is s' l' parts =
    let run : List (List ℕ) = closed (slice_range text start i) in
    let s : sent' ≡ sent ++ sent_of run = s' ∙ ap (λ (bytes : List ℕ). sent ++ sent_of (closed bytes)) is in
    let l : long' ≡ long + long_of run = l' ∙ ap (λ (bytes : List ℕ). long + long_of (closed bytes)) is in
    let rest : List (List ℕ) = left text (i + 1) (i + 1) in
    let step : left text start i ≡ run ++ rest = past_gap text start i below gap in
    record {
      sends = ap (λ (now : List CodedWord). now ++ sent_of rest) s
          ∙ append_assoc sent (sent_of run) (sent_of rest)
          ∙ ap (λ (now : List CodedWord). sent ++ now) (sym (sent_both run rest) ∙ ap (λ (words : List (List ℕ)). sent_of words) (sym step))
          ∙ parts.sends;
      counts = omega (arith, l, long_both run rest, ap (λ (words : List (List ℕ)). long_of words) step, parts.counts);
    }

pub parts_byte : (text : List ℕ) (sent : List CodedWord) (long start i : ℕ) → start ≤ i → i < length text → is_gap (get_or text i 0) ≡ false →
    Parts text sent long start i → Parts text sent long start (i + 1)
parts_byte text sent long start i from below on parts =
    let step : left text start i ≡ left text start (i + 1) = past_byte text start i from below on in
    record {
      sends = ap (λ (words : List (List ℕ)). sent ++ sent_of words) (sym step) ∙ parts.sends;
      counts = ap (λ (words : List (List ℕ)). long + long_of words) (sym step) ∙ parts.counts;
    }

pub parts_all : (text rest : List ℕ) (sent sent' : List CodedWord) (long long' start i : ℕ) → length text ≤ i → rest ≡ drop start text
    → sent' ≡ sent ++ sent_of (closed rest) → long' ≡ long + long_of (closed rest) → Parts text sent long start i →
    (sent' ≡ sent_of (words_after [] text)) × (long' ≡ long_of (words_after [] text))
parts_all text rest sent sent' long long' start i past is s l parts =
    let step : left text start i ≡ closed rest = past_all text start i past ∙ ap (λ (bytes : List ℕ). closed bytes) (sym is) in (
      s ∙ ap (λ (words : List (List ℕ)). sent ++ sent_of words) (sym step) ∙ parts.sends,
      l ∙ ap (λ (words : List (List ℕ)). long + long_of words) (sym step)
          ∙ parts.counts,
    )

one_few : (b : Bool) → 0 + (if b then 1 else 0) ≤ 1
one_few true = omega arith
one_few false = omega arith

pub long_few : (run : List ℕ) → long_of (closed run) ≤ 1
long_few [] = omega arith
long_few (byte ∷ run) = one_few (is_long (byte ∷ run))
