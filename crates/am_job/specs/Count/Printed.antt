-- What is printed of counted words.
use Rattle.std.specs.Prelude.{ℕ, List, [], ◌∷◌, ◌++◌, codes, sum_by}
use Rattle.std.specs.Fmt.{decimal}
use Rattle.std.specs.List.{flat_map}
use Rattle.am_office_text.specs.Words.{line}
use Rattle.am_job.specs.Words.Counts.{capped}
use Rattle.am_job.specs.Words.Lists.{WordCountLists}

-- a word: how often it ran, how often it was sent beyond that, and its bytes
unfoldable pub word_line : WordCountLists → List ℕ
word_line row = line (codes "word") (decimal row.ran ∷ decimal row.left ∷ row.word ∷ [])

-- how often words were sent and did not run; the number stands still at 2^64-1
abbrev pub left_total : List WordCountLists → ℕ
left_total rows = capped (sum_by (λ (row : WordCountLists). row.left) rows)

-- the words that were sent, and the totals: of all words, of the long ones, and of what is left
unfoldable pub count_text : (w turns words long : ℕ) → List WordCountLists → List ℕ
count_text w turns words long rows =
    line (codes "am2") (codes "count" ∷ decimal w ∷ decimal turns ∷ [])
    ++ flat_map word_line rows
    ++ line (codes "words") (decimal words ∷ [])
    ++ line (codes "long") (decimal long ∷ [])
    ++ line (codes "left") (decimal (left_total rows) ∷ [])
