-- A journal, callers aside: each call and each want by anyone outside.
use Rattle.std.specs.Prelude.{◌≡◌, List, [], map}
use Rattle.am_names.specs.declared.EndpointId.{EndpointId}
use Rattle.am_names.specs.declared.Serial.{Serial}
use Rattle.am_office_entries.specs.declared.Entry.{Entry}
use Rattle.am_office_entries.specs.Fates.{fate}
use Rattle.am_model_scripts.specs.Steps.Laws.{IsUnstopped}
use Rattle.am_model.specs.History.{EachAfter, IsHistory}
use Rattle.am_model.specs.Layout.{Layout}
use Rattle.am_office_report.specs.Report.{runs_at, told}
use Rattle.am_lab_scenarios.specs.Spelling.Replays.{by_anyone}

-- the same entry, whoever made its call
abbrev pub made_by_anyone : Entry → Entry
made_by_anyone x = record x { event = by_anyone x.event }

abbrev pub callers_aside : List Entry → List Entry
callers_aside journal = map made_by_anyone journal

-- Nothing that the machine does looks at the caller: a history is one whoever made its calls.
abbrev pub CallersChangeNothing : Type 0
CallersChangeNothing = (layout : Layout) (journal : List Entry) → IsHistory layout journal → IsHistory layout (callers_aside journal)

-- and where no entry met a condition that doesn't hold or a full log, none does
abbrev pub CallersStopNothing : Type 0
CallersStopNothing = (layout : Layout) (journal : List Entry) → EachAfter (IsUnstopped layout) [] journal → EachAfter (IsUnstopped layout) [] (callers_aside journal)

-- two journals tell the same: what ran at each endpoint, and what became of each message
pub record TellTheSame (one other : List Entry) : Type 0 where
  pub runs : (e : EndpointId) → runs_at one e ≡ runs_at other e
  pub fates : (s : Serial) → fate one s ≡ fate other s
  pub told' : told one ≡ told other

-- so do a journal and it with its callers aside
abbrev pub CallersTellNothing : Type 0
CallersTellNothing = (journal : List Entry) → TellTheSame (callers_aside journal) journal
