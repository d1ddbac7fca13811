-- The line of a word.
use Rattle.std.proofs.Common.{◌≡◌, ℕ, ◌+◌, ◌<◌, List, [], ◌∷◌, ◌++◌, sym, ap, ◌∙◌, length, get_or, take, append_assoc, append-nil, arith}
use Rattle.std.specs.Prelude.{codes, min, sum_by}
use Rattle.std.proofs.lemmas.List.{take_more}
use Rattle.std.proofs.lemmas.List.Sums.{sum_by_push}
use Rattle.std.specs.Fmt.{decimal}
use Rattle.am_office_text.specs.Words.{spaced}
use Rattle.am_job.specs.Words.Lists.{WordCountLists}
use Rattle.am_job.specs.Count.Printed.{left_total, word_line}

joined : (old word gap r l w end : List ℕ) → ((((old ++ word) ++ ((gap ++ r) ++ ((gap ++ l) ++ []))) ++ gap) ++ w) ++ end ≡ old ++
    ((word ++ ((gap ++ r) ++ ((gap ++ l) ++ ((gap ++ w) ++ [])))) ++ end)
joined old word gap r l w end = simp (append_assoc, append-nil)

is_word_line : (old : List ℕ) (row : WordCountLists) → ((((old ++ codes "word") ++ spaced (decimal row.ran ∷ decimal row.left ∷ [])) ++ codes " ") ++
    row.word) ++ codes "\n" ≡ old ++ word_line row
unfolding word_line spaced
is_word_line old row = joined old (codes "word") (codes " ") (decimal row.ran) (decimal row.left) row.word (codes "\n")

pub word_put : (row : WordCountLists) (word : List ℕ) (ran left : ℕ) (bytes old first spaced' gap last all : List ℕ) →
    record { word = word; ran = ran; left = left } ≡ row → first ≡ old ++ codes "word" → spaced' ≡ first ++ spaced (decimal ran ∷ decimal left ∷ [])
    → gap ≡ spaced' ++ codes " " → bytes ≡ word → last ≡ gap ++ bytes → all ≡ last ++ codes "\n" → all ≡ old ++ word_line row
word_put row word ran left bytes old first spaced' gap last all is one two three same four five =
    let r : WordCountLists = record { word = word; ran = ran; left = left } in
    five
    ∙ ap (λ (l : List ℕ). l ++ codes "\n") (four ∙ ap (λ (l : List ℕ). gap ++ l) same ∙ ap (λ (l : List ℕ). l ++ word) (three
    ∙ ap (λ (l : List ℕ). l ++ codes " ") (two ∙ ap (λ (l : List ℕ). l ++ spaced (decimal ran ∷ decimal left ∷ [])) one)))
    ∙ is_word_line old r
    ∙ ap (λ (w : WordCountLists). old ++ word_line w) is

-- ---- what is left in all

abbrev left_of : WordCountLists → ℕ
left_of row = row.left

pub left_more : (rows : List WordCountLists) (i : ℕ) (row : WordCountLists) (left new : ℕ) → i < length rows → row ≡ get_or rows i row →
    new ≡ min (left + row.left) 0xffff_ffff_ffff_ffff → left ≡ left_total (take i rows) → new ≡ left_total (take (i + 1) rows)
left_more rows i row left new below at is so_far =
    let next : sum_by left_of (take (i + 1) rows) ≡ sum_by left_of (take i rows) + row.left =
    ap (λ (l : List WordCountLists). sum_by left_of l) (take_more rows i row below)
    ∙ sum_by_push left_of (take i rows) (get_or rows i row)
    ∙ ap (λ (r : WordCountLists). sum_by left_of (take i rows) + r.left) (sym at) in
    omega (arith, is, so_far, next)
