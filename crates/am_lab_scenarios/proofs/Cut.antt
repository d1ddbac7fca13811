-- A printed line stands alone in the text, and is cut into its words.
use Rattle.std.proofs.Common.{◌≡◌, ℕ, ◌≤◌, true, false, eqb, leb, ◌&&◌, List, [], ◌∷◌, ◌++◌, refl, sym, ap, ◌∙◌, inl, append_assoc, arith}
use Rattle.std.specs.Prelude.{codes, filter}
use Rattle.std.specs.List.{list_all, slice_split, onto_first}
use Rattle.std.proofs.lemmas.Bool.{leb-true, le-leb, ne_eqb, and_parts}
use Rattle.std.proofs.lemmas.List.{append-nil}
use Rattle.std.proofs.lemmas.List.Folds.{list_all-append}
use Rattle.am_lexer.specs.Text.{lines_of, words_of, is_text_line, has_bytes}
use Rattle.am_office_text.specs.Words.{Word, spaced, line}
use Rattle.am_check_lines.specs.Reading.{words_in, words_behind}
use Rattle.am_check_lines.proofs.Cuts.{is_free, cut_all}
use Rattle.am_lab_scenarios.proofs.Words.{is_letter, is_word, both}

-- ---- no space, and printable bytes alone

letters_have_no_space : (word : List ℕ) → list_all is_letter word ≡ true → is_free 32 word ≡ true
letters_have_no_space [] h = refl
letters_have_no_space (b ∷ word) h =
    let p = and_parts (is_letter b) (list_all is_letter word) h in
    let q = and_parts (leb 33 b) (leb b 126) p.0 in
    let low : 33 ≤ b = leb-true 33 b q.0 in
    let other : eqb b 32 ≡ false = ne_eqb b 32 (λ e. omega arith) in
    rw (other, letters_have_no_space word p.1) refl

word_has_no_space : (word : List ℕ) → is_word word ≡ true → is_free 32 word ≡ true
word_has_no_space word h = letters_have_no_space word (and_parts (has_bytes word) (list_all is_letter word) h).1

words_have_no_space : (words : List Word) → list_all is_word words ≡ true → list_all (is_free 32) words ≡ true
words_have_no_space [] h = refl
words_have_no_space (w ∷ words) h =
    let p = and_parts (is_word w) (list_all is_word words) h in
    rw (word_has_no_space w p.0, words_have_no_space words p.1) refl

letters_are_text : (word : List ℕ) → list_all is_letter word ≡ true → is_text_line word ≡ true
letters_are_text [] h = refl
letters_are_text (b ∷ word) h =
    let p = and_parts (is_letter b) (list_all is_letter word) h in
    let q = and_parts (leb 33 b) (leb b 126) p.0 in
    let low : 33 ≤ b = leb-true 33 b q.0 in
    let from : leb 32 b ≡ true = le-leb 32 b (omega arith) in
    rw (from, q.1, letters_are_text word p.1) refl

word_is_text : (word : List ℕ) → is_word word ≡ true → is_text_line word ≡ true
word_is_text word h = letters_are_text word (and_parts (has_bytes word) (list_all is_letter word) h).1

spaced_is_text : (words : List Word) → list_all is_word words ≡ true → is_text_line (spaced words) ≡ true
unfolding spaced
spaced_is_text [] h = refl
spaced_is_text (w ∷ words) h =
    let p = and_parts (is_word w) (list_all is_word words) h in
    list_all-append (λ byte. leb 0x20 byte && leb byte 0x7e) (32 ∷ w) (spaced words) ∙ both _ _ (word_is_text w p.0) (spaced_is_text words p.1)

pub line_is_text : (first : Word) (words : List Word) → is_word first ≡ true → list_all is_word words ≡ true → is_text_line (first ++ spaced words) ≡ true
line_is_text first words f h =
    list_all-append (λ byte. leb 0x20 byte && leb byte 0x7e) first (spaced words) ∙ both _ _ (word_is_text first f) (spaced_is_text words h)

-- ---- the words

all_kept : (words : List Word) → list_all is_word words ≡ true → filter has_bytes words ≡ words
all_kept [] h = refl
all_kept (w ∷ words) h =
    let p = and_parts (is_word w) (list_all is_word words) h in
    let some = (and_parts (has_bytes w) (list_all is_letter w) p.0).0 in
    rw some (ap (λ (l : List Word). w ∷ l) (all_kept words p.1))

pub words_back : (first : Word) (words : List Word) → is_word first ≡ true → list_all is_word words ≡ true → words_of (first ++ spaced words) ≡ first ∷ words
unfolding words_of words_in words_behind
words_back first words f h =
    let cut : slice_split (λ byte. eqb byte 32) (first ++ spaced words) ≡ first ∷ words =
    ap (λ (l : List ℕ). slice_split (λ byte. eqb byte 32) (first ++ l)) (sym (append-nil (spaced words)))
    ∙ cut_all first words [] (inl refl) (word_has_no_space first f) (words_have_no_space words h)
    ∙ ap (λ (l : List Word). first ∷ l) (append-nil words) in
    ap (filter has_bytes) cut ∙ all_kept (first ∷ words) (both _ _ f h)

-- ---- the line

line_before : (text rest : List ℕ) → is_text_line text ≡ true → lines_of (text ++ 10 ∷ rest) ≡ text ∷ lines_of rest
unfolding lines_of
line_before [] rest h = refl
line_before (b ∷ text) rest h =
    let p = and_parts (leb 0x20 b && leb b 0x7e) (is_text_line text) h in
    let q = and_parts (leb 0x20 b) (leb b 0x7e) p.0 in
    let low : 32 ≤ b = leb-true 32 b q.0 in
    let other : eqb b 10 ≡ false = ne_eqb b 10 (λ e. omega arith) in
    rw other (ap (onto_first b) (line_before text rest p.1))

pub line_back : (first : Word) (words : List Word) (rest : List ℕ) → is_word first ≡ true → list_all is_word words ≡ true →
    lines_of (line first words ++ rest) ≡ (first ++ spaced words) ∷ lines_of rest
line_back first words rest f h =
    ap lines_of (append_assoc (first ++ spaced words) (codes "\n") rest)
    ∙ line_before (first ++ spaced words) rest (line_is_text first words f h)
