-- What is counted of a text by running its rounds.
use Rattle.std.specs.Prelude.{◌≡◌, ℕ, ◌+◌, ◌<◌, true, List, length, map}
use Rattle.std.specs.Cmp.Lexicographic.{slice_cmp}
use Rattle.std.specs.List.{All, AllZip, Contains, range_with_len}
use Rattle.std.specs.List.Sorted.{IsStrictlySortedBy}
use Rattle.std.specs.Ordering.{nat_cmp}
use Rattle.am_office_entries.specs.declared.Entry.{Entry}
use Rattle.am_scenario_types.specs.Lists.{ScenarioLists}
use Rattle.am_job.specs.declared.words.codes.CodedWord.{CodedWord}
use Rattle.am_job.specs.Words.Codes.{sent_words}
use Rattle.am_job.specs.Words.Counts.{Counted, IsTallyOf, see_journal, times}
use Rattle.am_job.specs.Words.Lists.{WordCountLists}
use Rattle.am_job.specs.Words.Texts.{is_short, long_count, words_of}
use Rattle.am_job.specs.Asked.{ask_script, asked_in_all, run_in_all}
use Rattle.am_job.specs.Rounds.{round_at, rounds_of}
use Rattle.am_job.specs.Count.Left.{AddsUp, refused_in_all, returned_in_all}
use Rattle.am_job.specs.Count.Printed.{count_text}

-- how often a word stands in a text
abbrev pub plain : List ℕ → List ℕ → ℕ
plain text word = times (words_of text) word

-- THE COUNT OF A TEXT: its words of at most 24 bytes, each once, in ascending order of bytes. Of each it tells how often it ran, and
-- how often more it stands in the text. So where nothing is left, what ran is what a plain walk counts.
pub record CountsText (text : List ℕ) (ran : List (List ℕ)) (rows : List WordCountLists) : Type 0 where
  pub ascend : IsStrictlySortedBy (slice_cmp nat_cmp) (map (λ (row : WordCountLists). row.word) rows)
  pub stand : All (λ (row : WordCountLists). (0 < plain text row.word) × (is_short row.word ≡ true)) rows
  pub ran' : All (λ (row : WordCountLists). row.ran ≡ times ran row.word) rows
  pub both : All (λ (row : WordCountLists). row.ran + row.left ≡ plain text row.word) rows
  pub every : (word : List ℕ) → is_short word ≡ true → 0 < plain text word → Contains (map (λ (row : WordCountLists). row.word) rows) word

-- a run was made, and the words that it ran were counted
pub record SeesRun (is_run : List Entry → Type 0) (old new : Counted) : Type 0 where
  pub journal : List Entry
  pub run : is_run journal
  pub is : new ≡ see_journal old journal

-- a round was run, and its words were counted
pub record HasCounted (is_run : ScenarioLists → List Entry → Type 0) (round : ScenarioLists) (old new : Counted) : Type 0 where
  pub journal : List Entry
  pub run : is_run round journal
  pub is : new ≡ see_journal (ask_script old round.script) journal

-- a journal of a round: the round was run, and each of its words has its end
pub record IsRound (is_run : ScenarioLists → List Entry → Type 0) (round : ScenarioLists) (journal : List Entry) : Type 0 where
  pub run : is_run round journal
  pub adds_up : AddsUp round journal

-- of these words so many were sent as ran, were refused or were returned
abbrev pub EndIn : List (List ℕ) → List (List Entry) → Type 0
EndIn asked journals =
    (word : List ℕ) → times asked word ≡ times (run_in_all journals) word + times (refused_in_all journals) word + times (returned_in_all journals) word

-- the first rounds were run, and their words were counted
pub record CountsAll (is_run : ScenarioLists → List Entry → Type 0) (w turns : ℕ) (sent : List CodedWord) (number : ℕ) (counted : Counted) : Type 0 where
  pub journals : List (List Entry)
  pub rounds : AllZip (IsRound is_run) (map (round_at w turns sent) (range_with_len 0 number)) journals
  pub tells : IsTallyOf counted (asked_in_all (map (round_at w turns sent) (range_with_len 0 number))) (run_in_all journals)
  pub ends : EndIn (asked_in_all (map (round_at w turns sent) (range_with_len 0 number))) journals

-- what is left of a word is how often its request was refused, and how often its message was returned
abbrev pub LeftIn : List (List Entry) → WordCountLists → Type 0
LeftIn journals row = row.left ≡ times (refused_in_all journals) row.word + times (returned_in_all journals) row.word

-- THE HEADLINE of counting: each round of the text was run, and what is printed are the counts of the text by what these runs ran.
-- Each place that is left has in the journal of its round a refused request, or a message that was returned, with its cause.
pub record PrintsCount (is_run : ScenarioLists → List Entry → Type 0) (w turns : ℕ) (text printed : List ℕ) : Type 0 where
  pub journals : List (List Entry)
  pub rounds : AllZip (IsRound is_run) (rounds_of w turns (sent_words text)) journals
  pub rows : List WordCountLists
  pub counts : CountsText text (run_in_all journals) rows
  pub left : All (LeftIn journals) rows
  pub text' : printed ≡ count_text w turns (length (words_of text)) (long_count text) rows
