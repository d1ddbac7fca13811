-- A short number at the head of a text, read digit by digit.
use Rattle.std.proofs.Common.{◌≡◌, ℕ, zero, suc, ◌≤◌, ◌<◌, ◌+◌, ◌-◌, ◌*◌, ◌^◌, true, false, eqb, ltb, List, [], ◌∷◌, ◌++◌, length, get_or, take, drop, Some, Ok}
use Rattle.std.proofs.Common.{refl, ◌∙◌, not, inl, inr, add-one, arith}
use Rattle.std.specs.List.{list_all}
use Rattle.std.proofs.Math.Seq.{take-suc}
use Rattle.std.proofs.lemmas.Bool.{cases_eq, eq-eqb, lt-ltb}
use Rattle.std.proofs.lemmas.List.{take_all, length-take-le}
use Rattle.std.proofs.lemmas.List.Folds.{list_all_more}
use Rattle.am_lexer.specs.Text.{value_after, is_digit, number_of, words_of}
use Rattle.am_lexer.specs.Fields.{number_at, word_at}
use Rattle.am_lexer.proofs.FirstWord.{spaces_skipped, word_found, word_whole}

-- the first bytes of a text are digits, which spell a number
pub record Spells (text : List ℕ) (i number : ℕ) : Type 0 where
  pub digits : list_all is_digit (take i text) ≡ true
  pub value : value_after 0 (take i text) ≡ number
  pub apart : (k : ℕ) → k < i → eqb (get_or text k 0) 32 ≡ false

value_after-push : (n : ℕ) (ds : List ℕ) (d : ℕ) → value_after n (ds ++ d ∷ []) ≡ value_after n ds * 10 + (d - 48)
value_after-push n [] d = refl
value_after-push n (x ∷ ds) d = value_after-push (n * 10 + (x - 48)) ds d

digit_is_no_space : (b : ℕ) → is_digit b ≡ true → eqb b 32 ≡ false
digit_is_no_space b e = grind (arith, e)

only_space : (rest : List ℕ) (k : ℕ) → k < 1 → get_or rest 0 0 ≡ 32 → not (eqb (get_or rest k 0) 32) ≡ false
only_space rest zero lt space = rw space refl
only_space rest (suc k) lt space = absurd (omega (arith, lt))

pub one_digit_more : (text : List ℕ) (i number : ℕ) → i < length text → is_digit (get_or text i 0) ≡ true → Spells text i number →
    Spells text (i + 1) (number * 10 + (get_or text i 0 - 48))
one_digit_more text i number lt digit so_far = record {
  digits = list_all_more is_digit text i 0 lt ∙ rw (so_far.digits, digit) refl;
  value = rw (add-one, take-suc text i 0 lt, value_after-push, so_far.value) refl;
  apart = λ k lt2. elim (cases_eq k i) [
    | inl e ↦ rw e (digit_is_no_space (get_or text i 0) digit)
    | inr ne ↦ so_far.apart k (omega (arith, ne, lt2))
  ];
}

spells_some : (word : List ℕ) (number : ℕ) → 0 < length word → list_all is_digit word ≡ true → value_after 0 word ≡ number → number < 2 ^ 64 →
    number_of word ≡ Some number
unfolding number_of
spells_some [] number some digits value small = absurd (omega (arith, some))
spells_some (b ∷ word) number some digits value small =
    let yes : ltb number (2 ^ 64) ≡ true = lt-ltb _ _ small in
    rw (digits, value, yes) refl

first_number : (word : List ℕ) (words : List (List ℕ)) (number : ℕ) → number_of word ≡ Some number → number_at (word ∷ words) ≡ Ok (number, words)
unfolding number_at word_at
first_number word words number e = rw e refl

-- at a space behind digits
pub at_space : (text : List ℕ) (i number : ℕ) → 0 < i → i < length text → get_or text i 0 ≡ 32 → number < 2 ^ 64 → Spells text i number →
    number_at (words_of text) ≡ Ok (number, words_of (drop i text))
at_space text i number some lt space small spelled =
    let long : 0 < length (take i text) = omega (arith, length-take-le i text (omega (arith, lt))) in
    rw (word_found i text some lt (eq-eqb _ _ space) spelled.apart)
    (first_number _ _ _ (spells_some (take i text) number long spelled.digits spelled.value small))

-- at the end of the text
pub at_text_end : (text : List ℕ) (i number : ℕ) → 0 < length text → length text ≤ i → number < 2 ^ 64 → Spells text i number →
    number_at (words_of text) ≡ Ok (number, words_of [])
unfolding words_of
at_text_end text i number some le small spelled =
    let whole : take i text ≡ text = take_all i text le in
    let digits : list_all is_digit text ≡ true = rw whole at spelled.digits in
    let value : value_after 0 text ≡ number = rw whole at spelled.value in
    rw (word_whole text some (λ k lt. spelled.apart k (omega (arith, lt, le)))) (first_number _ _ _ (spells_some text number some digits value small))

-- behind one space
pub behind_space : (rest : List ℕ) → get_or rest 0 0 ≡ 32 → words_of rest ≡ words_of (drop 1 rest)
behind_space rest space = spaces_skipped 1 rest (λ k lt. only_space rest k (omega (arith, lt)) space)

pub digit_at_most : (b : ℕ) → is_digit b ≡ true → b - 48 ≤ 9
digit_at_most b e = grind (arith, e)
