-- A line is cut at its spaces into the words that it was put together from.
use Rattle.std.proofs.Common.{◌≡◌, ℕ, zero, Bool, true, false, eqb, not, List, [], ◌∷◌, ◌++◌, length, get_or, take, drop, suc, ◌<◌, ltb, Option, Some, None}
use Rattle.std.proofs.Common.{refl, sym, ap, ◌∙◌, inl, inr, arith}
use Rattle.std.specs.Prelude.{◌⊎◌, MatchOption}
use Rattle.std.specs.List.{list_all, position, position_or_len, join_with_byte}
use Rattle.std.proofs.lemmas.Bool.{and_parts, not-true, lt-ltb, eq-eqb}
use Rattle.std.proofs.lemmas.List.{length-append}
use Rattle.std.proofs.lemmas.List.Splits.{join_with_byte-slice_split}
use Rattle.std.proofs.Common.{append_assoc}
use Rattle.std.proofs.lemmas.List.{append-nil}
use Rattle.std.proofs.lemmas.List.Quantifiers.{position-Some}
use Rattle.am_lexer.proofs.FirstLine.{position_none}
use Rattle.am_office_text.specs.Words.{spaced}
use Rattle.am_check_lines.specs.Reading.{words_in, words_behind}

-- whether no byte of a word is this one
abbrev pub is_free : ℕ → List ℕ → Bool
is_free byte word = list_all (λ b. not (eqb b byte)) word

-- nothing, or a space and more
abbrev pub IsBehind : List ℕ → Type 0
IsBehind tail = (tail ≡ []) ⊎ ((text : List ℕ) × (tail ≡ 32 ∷ text))

cut_end : (word : List ℕ) → is_free 32 word ≡ true → words_in word ≡ word ∷ []
unfolding words_in
cut_end [] h = refl
cut_end (b ∷ word) h =
    let p = and_parts _ _ h in
    let no : eqb b 32 ≡ false = not-true _ p.0 in
    rw (no, cut_end word p.1) refl

cut_here : (word text : List ℕ) → is_free 32 word ≡ true → words_in (word ++ 32 ∷ text) ≡ word ∷ words_in text
unfolding words_in
cut_here [] text h = refl
cut_here (b ∷ word) text h =
    let p = and_parts _ _ h in
    let no : eqb b 32 ≡ false = not-true _ p.0 in
    rw (no, cut_here word text p.1) refl

cut_one : (word tail : List ℕ) → IsBehind tail → is_free 32 word ≡ true → words_in (word ++ tail) ≡ word ∷ words_behind tail
unfolding words_behind
cut_one word tail (inl e) h = rw e (ap words_in (append-nil word) ∙ cut_end word h)
cut_one word tail (inr p) h = rw p.1 (cut_here word p.0 h)

-- the words of a line, where none of those in front has a space
pub cut_all : (word : List ℕ) (words : List (List ℕ)) (tail : List ℕ) → IsBehind tail → is_free 32 word ≡ true → list_all (is_free 32) words ≡ true →
    words_in (word ++ (spaced words ++ tail)) ≡ word ∷ (words ++ words_behind tail)
unfolding spaced
cut_all word [] tail t h hs = cut_one word tail t h
cut_all word (next ∷ words) tail t h hs =
    let p = and_parts _ _ hs in
    ap words_in (ap (λ (x : List ℕ). word ++ 32 ∷ x) (append_assoc next (spaced words) tail))
    ∙ cut_here word (next ++ (spaced words ++ tail)) h
    ∙ ap (λ (x : List (List ℕ)). word ∷ x) (cut_all next words tail t p.0 p.1)

joined : (word : List ℕ) (words : List (List ℕ)) → join_with_byte 32 (word ∷ words) ≡ word ++ spaced words
unfolding spaced
joined word [] = sym (append-nil word)
joined word (next ∷ words) = ap (λ (x : List ℕ). word ++ 32 ∷ x) (joined next words)

-- and its words, put together, are the line
pub put_together : (line word : List ℕ) (words : List (List ℕ)) → words_in line ≡ word ∷ words → line ≡ word ++ spaced words
unfolding words_in
put_together line word words e = sym (join_with_byte-slice_split 32 line) ∙ ap (join_with_byte 32) e ∙ joined word words

pub spaced-append : (xs ys : List (List ℕ)) → spaced (xs ++ ys) ≡ spaced xs ++ spaced ys
unfolding spaced
spaced-append [] ys = refl
spaced-append (x ∷ xs) ys = ap (λ (l : List ℕ). (32 ∷ x) ++ l) (spaced-append xs ys) ∙ sym (append_assoc (32 ∷ x) (spaced xs) (spaced ys))

-- the place of the first such byte behind a word that has none
place_is : (byte : ℕ) (word text : List ℕ) → is_free byte word ≡ true → position_or_len (λ b. eqb b byte) (word ++ byte ∷ text) ≡ length word
place_is byte [] text h = let yes : eqb byte byte ≡ true = eq-eqb byte byte refl in rw yes refl
place_is byte (b ∷ word) text h =
    let p = and_parts _ _ h in
    let no : eqb b byte ≡ false = not-true _ p.0 in
    rw (no, place_is byte word text p.1) (omega arith)

pub first_place : (byte : ℕ) (word text : List ℕ) → is_free byte word ≡ true → position (λ b. eqb b byte) (word ++ byte ∷ text) ≡ Some (length word)
first_place byte word text h =
    let e = place_is byte word text h in
    let yes : ltb (length word) (length (word ++ byte ∷ text)) ≡ true = lt-ltb _ _ (omega (arith, length-append word (byte ∷ text))) in
    rw (e, yes) refl

cut_at : (i : ℕ) (text : List ℕ) → i < length text → eqb (get_or text i 0) 32 ≡ true → ((k : ℕ) → k < i → eqb (get_or text k 0) 32 ≡ false) →
    words_in text ≡ take i text ∷ words_behind (drop i text)
unfolding words_in words_behind
cut_at i [] lt here before = absurd (omega arith)
cut_at zero (b ∷ text) lt here before = rw here refl
cut_at (suc i) (b ∷ text) lt here before =
    let first : eqb b 32 ≡ false = before 0 (omega arith) in
    let others = cut_at i text (omega arith) here (λ k h. before (suc k) (omega arith)) in
    rw (first, others) refl

whole_free : (text : List ℕ) → ((k : ℕ) → k < length text → eqb (get_or text k 0) 32 ≡ false) → is_free 32 text ≡ true
whole_free [] h = refl
whole_free (b ∷ text) h =
    let first : eqb b 32 ≡ false = h 0 (omega arith) in
    let others = whole_free text (λ k lt. h (suc k) (omega arith)) in
    rw (first, others) refl

-- what a search for the first space says of the first word
pub word_is : (text : List ℕ) (o : Option ℕ) → o ≡ position (λ b. eqb b 32) text →
    MatchOption o (words_in text ≡ text ∷ words_behind []) (λ i. words_in text ≡ take i text ∷ words_behind (drop i text))
unfolding words_behind
word_is text None e = cut_end text (whole_free text (position_none (λ b. eqb b 32) text (sym e)))
word_is text (Some i) e =
    let p = position-Some (λ b. eqb b 32) text i 0 (sym e) in
    cut_at i text p.0 p.1 p.2
