-- How often words were sent, and how often they ran.
use Rattle.std.specs.Prelude.{◌≡◌, ℕ, ◌+◌, ◌-◌, ◌<◌, Bool, ◌==◌, List, map, min, count_by, filter_map, fold, unwrap_or, if◌then◌else◌, Option, Some, None}
use Rattle.std.specs.BTreeMap.{insert_entry, is_at}
use Rattle.std.specs.Cmp.Lexicographic.{slice_cmp}
use Rattle.std.specs.List.{All, Contains}
use Rattle.std.specs.List.Sorted.{IsStrictlySortedBy}
use Rattle.std.specs.Map.{lookup}
use Rattle.std.specs.Option.{option_and_then}
use Rattle.std.specs.Ordering.{nat_cmp}
use Rattle.am_office_entries.specs.declared.Call.{Call}
use Rattle.am_office_entries.specs.declared.Entry.{Entry}
use Rattle.am_library_views.specs.Ends.{words_in, words_run_of}
use Rattle.am_job.specs.declared.words.tally.Count.{Count}
use Rattle.am_job.specs.Words.Codes.{word_in}
use Rattle.am_job.specs.Words.Lists.{WordCountLists}

-- whether two words have the same bytes
abbrev pub same_word : List ℕ → List ℕ → Bool
same_word word other = is_at (slice_cmp nat_cmp word) other

-- how often a word stands in a list of words
abbrev pub times : List (List ℕ) → List ℕ → ℕ
times words word = count_by (same_word word) words

-- the word that a call sends, if it sends one
abbrev pub word_asked : Call → Option (List ℕ)
word_asked call = option_and_then word_in (words_in call)

-- the word that an entry runs, if it runs one
abbrev pub word_run : Entry → Option (List ℕ)
word_run x = option_and_then word_in (words_run_of x)

-- the words that a journal runs, in order
abbrev pub words_run : List Entry → List (List ℕ)
words_run journal = filter_map word_run journal

-- THE COUNT: the words that were sent, each once, in ascending order of bytes. Of each it tells how often it ran; this and what is
-- left are how often it was sent.
pub record IsCountOf (asked ran : List (List ℕ)) (rows : List WordCountLists) : Type 0 where
  pub ascend : IsStrictlySortedBy (slice_cmp nat_cmp) (map (λ (row : WordCountLists). row.word) rows)
  pub sent : All (λ (row : WordCountLists). 0 < times asked row.word) rows
  pub ran' : All (λ (row : WordCountLists). row.ran ≡ times ran row.word) rows
  pub both : All (λ (row : WordCountLists). row.ran + row.left ≡ times asked row.word) rows
  pub every : (word : List ℕ) → 0 < times asked word → Contains (map (λ (row : WordCountLists). row.word) rows) word

-- ---- while it is counted

-- words and their counts so far
abbrev pub Counted : Type 0
Counted = List (List ℕ × Count)

-- a count stands still at its type's end
abbrev pub capped : ℕ → ℕ
capped n = min n 0xffff_ffff_ffff_ffff

abbrev pub count_at : Counted → List ℕ → Count
count_at counted word = unwrap_or (lookup (same_word word) counted) (record { asked = 0; ran = 0 })

abbrev pub with_count : Counted → List ℕ → Count → Counted
with_count counted word count = insert_entry (slice_cmp nat_cmp) counted word count

abbrev pub one_asked : Count → Count
one_asked count = record count { asked = capped (count.asked + 1) }

abbrev pub one_ran : Count → Count
one_ran count = record count { ran = capped (count.ran + 1) }

-- a word was sent once more, or ran once more
unfoldable pub ask : Counted → Option (List ℕ) → Counted
ask counted None = counted
ask counted (Some word) = with_count counted word (one_asked (count_at counted word))

unfoldable pub see : Counted → Option (List ℕ) → Counted
see counted None = counted
see counted (Some word) = with_count counted word (one_ran (count_at counted word))

-- the words of a journal ran
abbrev pub see_journal : Counted → List Entry → Counted
see_journal counted journal = fold (λ (so_far : Counted) (x : Entry). see so_far (word_run x)) counted journal

-- what is told of a word: nothing where it was not sent
abbrev pub row_of : List ℕ × Count → Option WordCountLists
row_of entry = if entry.1.asked == 0 then None else Some (record { word = entry.0; ran = entry.1.ran; left = entry.1.asked - entry.1.ran })

abbrev pub rows_of : Counted → List WordCountLists
rows_of counted = filter_map row_of counted

-- THE COUNTS SO FAR: of each word how often it was sent, and how often it ran
pub record IsTallyOf (counted : Counted) (asked ran : List (List ℕ)) : Type 0 where
  pub each : (word : List ℕ) → count_at counted word ≡ record { asked = capped (times asked word); ran = capped (times ran word) }
