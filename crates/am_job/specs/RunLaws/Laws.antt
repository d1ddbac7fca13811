-- What the journals of rounds run.
use Rattle.std.specs.Prelude.{◌≢◌, ℕ, ◌<◌, ◌≤◌, Some, List}
use Rattle.am_names.specs.declared.Message.{Message}
use Rattle.am_names.specs.declared.Serial.{Serial}
use Rattle.am_office_entries.specs.declared.Entry.{Entry}
use Rattle.am_office_entries.specs.declared.endings.Fate.TheVariants as Fates
use Rattle.am_office_entries.specs.Fates.{fate}
use Rattle.am_model.specs.History.{IsHistory}
use Rattle.am_model.specs.PostOffice.{PostOffice, WasAccepted}
use Rattle.am_model_scripts.specs.Layout.{layout_of}
use Rattle.am_model_scripts.specs.Scripts.{KeepsScripts}
use Rattle.am_model_scripts.specs.Follows.{KeepsToEvents}
use Rattle.am_job.specs.declared.words.codes.CodedWord.{CodedWord}
use Rattle.am_job.specs.Words.Counts.{times, words_run}
use Rattle.am_job.specs.Asked.{words_asked}
use Rattle.am_job.specs.Rounds.{scenario}
use Rattle.am_job.specs.Count.Left.{AddsUp}

-- a journal of a round: a history of its scenario that obeys the post office, in which each thread makes the calls of its script
pub record IsOfRound (w turns : ℕ) (words : List CodedWord) (journal : List Entry) : Type 0 where
  pub history : IsHistory (layout_of (scenario w turns words)) journal
  pub laws : PostOffice (layout_of (scenario w turns words)) journal
  pub scripts : KeepsScripts (scenario w turns words) journal
  pub events : KeepsToEvents (scenario w turns words) journal

-- in a round no word runs more often than it is sent
abbrev pub RoundsRunFew : Type 0
RoundsRunFew =
    (w turns : ℕ) (words : List CodedWord) (journal : List Entry) → 0 < w → w ≤ 8 → IsOfRound w turns words journal → (word : List ℕ) → times (words_run journal) word ≤ times (words_asked (scenario w turns words).script) word

-- and no message that was accepted is pending, and none is unknown
pub record IsSettledRound (w turns : ℕ) (words : List CodedWord) (journal : List Entry) : Type 0 where
  pub round : IsOfRound w turns words journal
  pub settled : (m : Message) → WasAccepted journal m → fate journal m.serial ≢ Some Fates.Pending
  pub known : (serial : Serial) → (fate journal serial ≢ Some Fates.Unknown) × (fate journal serial ≢ Some Fates.UnknownButRan)

-- then each word that is sent runs, or its request is refused, or its message is returned
abbrev pub RoundsAddUp : Type 0
RoundsAddUp = (w turns : ℕ) (words : List CodedWord) (journal : List Entry) → 0 < w → w ≤ 8 → IsSettledRound w turns words journal → AddsUp (scenario w turns words) journal
