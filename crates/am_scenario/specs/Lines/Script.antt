-- Section 4 of a run: the calls of the threads.
use Rattle.std.specs.Prelude.{ℕ, ◌+◌, nat_lt, nat_le, List, length, codes, if◌then◌else◌, Some, Result, Ok, Err}
use Rattle.std.specs.Str.{bytes_eq}
use Rattle.am_lexer.specs.declared.what.What.{What}
use Rattle.am_lexer.specs.declared.what.What.TheVariants.{Undeclared, TooMany}
use Rattle.am_lexer.specs.Fields.{◌>>=◌, or_else, word_at, ended}
use Rattle.am_names.specs.declared.EndpointId.{EndpointId}
use Rattle.am_office_entries.specs.declared.Call.{Call}
use Rattle.am_bundle.specs.Calls.{poll_calls, test_calls}
use Rattle.am_scenario_types.specs.declared.parts.ThreadLine.{ThreadLine}
use Rattle.am_scenario.specs.declared.drafts.line.Line.{Line}
use Rattle.am_scenario.specs.declared.drafts.line.Line.TheVariants as line
use Rattle.am_scenario.specs.Drafts.Said.{Said, thread_of}
use Rattle.am_scenario.specs.Lines.Places.{bundle_at}
use Rattle.am_scenario.specs.Lines.Calls.{call_at}

-- a bundle's calls by a thread, where there is room for them
unfoldable pub bundled : Said → ℕ → List (EndpointId × Call) → Result Line What
bundled said thread calls = if nat_le (length said.script + length calls) 16_384 then Ok (line.Calls thread calls) else Err TooMany

-- tT pollb B
unfoldable pub poll_bundle_line : Said → ThreadLine → List (List ℕ) → Result Line What
poll_bundle_line said thread words = do
  bundle ← bundle_at said thread.node words
  _ ← ended bundle.1
  bundled said thread.id (poll_calls bundle.0)

-- tT eventb B
unfoldable pub test_bundle_line : Said → ThreadLine → List (List ℕ) → Result Line What
test_bundle_line said thread words = do
  bundle ← bundle_at said thread.node words
  _ ← ended bundle.1
  bundled said thread.id (test_calls bundle.0)

-- tT and a call
unfoldable pub thread_call_line : Said → ThreadLine → List ℕ → List (List ℕ) → Result Line What
thread_call_line said thread verb words = do
  call ← call_at said (Some thread.node) verb words
  _ ← ended call.1
  if nat_lt (length said.script) 16_384
      then Ok (line.Call (record { thread = thread.id; endpoint = call.0.0; call = call.0.1 }))
      else Err TooMany

unfoldable pub script_line : Said → ℕ → List (List ℕ) → Result Line What
script_line said number words = do
  thread ← or_else Undeclared (thread_of said number)
  verb ← word_at words
  if bytes_eq verb.0 (codes "pollb") then poll_bundle_line said thread verb.1 else
      if bytes_eq verb.0 (codes "eventb") then test_bundle_line said thread verb.1 else
      thread_call_line said thread verb.0 verb.1
