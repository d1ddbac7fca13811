-- How far the runs of some seeds are told.
use Rattle.std.specs.Prelude.{◌≡◌, List, map}
use Rattle.std.specs.List.{flat_map, list_any}
use Rattle.am_lab_schedules.specs.Distinct.Kept.{Keeps}
use Rattle.am_lab_schedules.specs.Outcomes.Outcomes.{is_cut, journal_text, run_line}
use Rattle.am_lab_schedules.specs.declared.outcomes.runs.SeedRun.{SeedRun}
use Rattle.am_lab_schedules.specs.declared.outcomes.telling.Telling.{Telling}
use Rattle.am_office_report.specs.declared.messages.MessageFate.{MessageFate}

-- these runs are told beside these messages of a first one
pub record HasToldRuns (telling : Telling) (first : List MessageFate) (runs : List SeedRun) : Type 0 where
  pub first' : telling.first.messages.items ≡ first
  pub lines : telling.text.items ≡ flat_map (run_line first) runs
  pub seen : Keeps telling.seen (map journal_text runs)
  pub full : telling.full ≡ list_any is_cut runs
