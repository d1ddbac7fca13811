-- What is known of each call, run by run.
use Rattle.std.specs.Prelude.{ℕ, Bool, true, false, Option, Some, None, List, slice_index_or, slice_set}
use Rattle.am_names.specs.declared.Message.{Message}
use Rattle.am_library_views.specs.declared.runs.Run.{Run}
use Rattle.am_example_calls.specs.declared.answers.Answer.{Answer}
use Rattle.am_example_calls.specs.declared.answers.Answer.TheVariants.{Heard, Unheard, NeverRan}

abbrev pub is_heard : Answer → Bool
is_heard (Heard words) = true
is_heard Unheard = false
is_heard NeverRan = false

abbrev pub has_run : Answer → Bool
has_run (Heard words) = true
has_run Unheard = true
has_run NeverRan = false

-- the answer to the call with this token; a call of which nothing is known never ran
abbrev pub answer_at : List Answer → ℕ → Answer
answer_at answers token = slice_index_or answers token NeverRan

-- after a run of the call, with the reply that came of it: the first answer stays
abbrev pub after_run : Answer → Option Message → Answer
after_run (Heard words) reply = Heard words
after_run Unheard (Some reply) = Heard reply.words
after_run NeverRan (Some reply) = Heard reply.words
after_run Unheard None = Unheard
after_run NeverRan None = Unheard

-- after one run, whose first word is the token
abbrev pub noted : List Answer → Run → List Answer
noted answers run = slice_set answers run.request.words.a (after_run (answer_at answers run.request.words.a) run.reply)
