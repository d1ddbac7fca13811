use Rattle.std.proofs.Common.{rules, List, [], take, drop, refl}
use Rattle.am_office_entries.specs.declared.Event.TheVariants as Events
use Rattle.am_office_entries.specs.declared.Entry.{Entry}
use Rattle.am_model_scripts.specs.Layout.{layout_of}
use Rattle.am_model_scripts.specs.Follows.{IsPhase}
use Rattle.am_model_drain.specs.Made.{next_entry}
use Rattle.am_model_drain.specs.Cut.{MeetsNoFullLog}
use Rattle.am_model_worked.specs.Drain.EveryTryLost as lost
use Rattle.am_model_worked.specs.Drain.StoppedForLog.{scenario, journal}
use Rattle.am_model_worked.proofs.drain.stopped_for_a_log.Goals as goal

is_phase : IsPhase scenario []
is_phase = search rules

next : Entry
next = next_entry (layout_of scenario) journal (Events.Load (record { 0 = 0 }) (record { 0 = 0 }) 0)

later : List Entry
later = take 2 (drop 4 lost.journal)

room : MeetsNoFullLog scenario [] journal
room = search rules

pub returns-clause-stopped : goal.returns-clause-stopped
unfolding next later
returns-clause-stopped c =
    record {
      phase = [];
      is_phase = record { history = tt; is_phase = is_phase; scripts = search rules; in_order = tt; events = refl };
      drained = record { added = journal; made = refl; next = next; later = later; turns = 4; planned = refl };
      touches = refl;
      full = refl;
    }

pub returns-clause-cut_off : goal.returns-clause-cut_off
unfolding next later
returns-clause-cut_off c = record {
  drained = record { added = journal; made = refl; next = next; later = later; turns = 4; planned = refl };
  room = room;
  full = refl;
}
