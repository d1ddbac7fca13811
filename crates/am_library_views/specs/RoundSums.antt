-- What rounds come to that sum at one endpoint, where each asks for what the one before left.
use Rattle.std.specs.Prelude.{◌≡◌, ◌==◌, ◌+◌, ◌%◌, ◌^◌, ◌&&◌, Bool, List, [], ◌++◌, length}
use Rattle.am_names.specs.declared.EndpointId.{EndpointId}
use Rattle.am_names.specs.declared.Words.{Words}
use Rattle.am_office_entries.specs.declared.Entry.{Entry}
use Rattle.am_library_views.specs.declared.round_sum.RoundSum.{RoundSum}
use Rattle.am_library_views.specs.Ends.{is_back, is_lost, words_fated, words_refused}
use Rattle.am_library_views.specs.Views.{sum_at}

-- before the first round: all is left
pub record IsBegun (words : List Words) (summed : RoundSum) : Type 0 where
  pub sum' : summed.sum ≡ 0
  pub left' : summed.left.items ≡ words
  pub unknown' : summed.unknown.items ≡ []

-- whether nothing is left, and nothing is unknown
abbrev pub is_whole : RoundSum → Bool
is_whole summed = (length summed.left.items == 0) && (length summed.unknown.items == 0)

-- what a round leaves, which may be sent again: what was refused or came back
abbrev pub left_by : List Entry → List Words
left_by journal = words_refused journal ++ words_fated is_back journal

-- after a round more: the endpoint's sum is added, what was refused or came back is left, and what is unknown stays unknown
pub record IsOutcome (before : RoundSum) (journal : List Entry) (end : EndpointId) (now : RoundSum) : Type 0 where
  pub sum' : now.sum ≡ (before.sum + sum_at journal end) % 2 ^ 64
  pub left' : now.left.items ≡ left_by journal
  pub unknown' : now.unknown.items ≡ before.unknown.items ++ words_fated is_lost journal
