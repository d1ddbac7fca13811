-- What became of the words that were sent and did not run.
use Rattle.std.specs.Prelude.{◌≡◌, ℕ, ◌+◌, List, filter_map}
use Rattle.std.specs.List.{flat_map}
use Rattle.am_office_entries.specs.declared.Entry.{Entry}
use Rattle.am_scenario_types.specs.Lists.{ScenarioLists}
use Rattle.am_library_views.specs.Ends.{is_back, words_fated}
use Rattle.am_library_views.specs.Ends as ends
use Rattle.am_job.specs.Words.Codes.{word_in}
use Rattle.am_job.specs.Words.Counts.{times, words_run}
use Rattle.am_job.specs.Asked.{words_asked}

-- the words of the requests that a journal refuses, each with its cause, in order
abbrev pub words_refused : List Entry → List (List ℕ)
words_refused journal = filter_map word_in (ends.words_refused journal)

-- the words of the requests that a journal accepts and returns, each for a cause, in the order in which they were accepted
abbrev pub words_returned : List Entry → List (List ℕ)
words_returned journal = filter_map word_in (words_fated is_back journal)

-- the same of several journals
abbrev pub refused_in_all : List (List Entry) → List (List ℕ)
refused_in_all journals = flat_map words_refused journals

abbrev pub returned_in_all : List (List Entry) → List (List ℕ)
returned_in_all journals = flat_map words_returned journals

-- EVERY WORD HAS ITS END. How often a round sends a word is how often it ran, how often its request was refused, and how often its
-- message was returned.
abbrev pub AddsUp : ScenarioLists → List Entry → Type 0
AddsUp round journal = (word : List ℕ) → times (words_asked round.script) word ≡ times (words_run journal) word + times (words_refused journal) word + times (words_returned journal) word
