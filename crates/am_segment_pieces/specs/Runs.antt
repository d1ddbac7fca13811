-- The set of the runs of a journal.
use Rattle.std.specs.Prelude.{◌≡◌, ℕ, Bool, false, ◌&&◌, ◌==◌, List, Option, Some, None}
use Rattle.std.specs.List.{list_any}
use Rattle.std.specs.Option.{option_map}
use Rattle.std.specs.HashSet.{HashSet, contains}
use Rattle.std.specs.declared.hash.FoldHasher.{FoldHasher}
use Rattle.std.specs.declared.hash.BuildHasherDefault.{BuildHasherDefault}
use Rattle.am_names.specs.declared.EndpointId.{EndpointId}
use Rattle.am_names.specs.declared.Words.{Words}
use Rattle.am_office_entries.specs.declared.Entry.{Entry}
use Rattle.am_library_views.specs.declared.entries.HandlerRun.{HandlerRun}
use Rattle.am_library_views.specs.Views.{handler_run_of}
use Rattle.am_segment_pieces.specs.declared.ran.Run.{Run}

abbrev pub run_key : EndpointId → ℕ → Words → Run
run_key end handler words = record { end = end.0; handler = handler; a = words.a; b = words.b; c = words.c; d = words.d }

abbrev pub key_of : HandlerRun → Run
key_of run = run_key run.end run.handler run.words

-- the run that an entry is
abbrev pub key_in : Entry → Option Run
key_in x = option_map key_of (handler_run_of x)

abbrev pub same_run : Run → Run → Bool
same_run k l = (k.end == l.end) && ((k.handler == l.handler) && ((k.a == l.a) && ((k.b == l.b) && ((k.c == l.c) && (k.d == l.d)))))

abbrev pub is_key : Run → Option Run → Bool
is_key run None = false
is_key run (Some other) = same_run other run

abbrev pub has_key : List Entry → Run → Bool
has_key journal run = list_any (λ (x : Entry). is_key run (key_in x)) journal

-- the set has just the runs of the journal
pub record TellsRuns (set : HashSet Run (BuildHasherDefault FoldHasher)) (journal : List Entry) : Type 0 where
  pub each : (run : Run) → contains same_run set run ≡ has_key journal run
