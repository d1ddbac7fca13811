-- Every call of a round's script is of a thread of the round.
use Rattle.std.proofs.Common.{◌≡◌, ℕ, ◌<◌, true, List}
use Rattle.std.proofs.lemmas.List.Sums.{list_all-from_AllPass}
use Rattle.am_scenario_types.specs.declared.parts.ScriptCall.{ScriptCall}
use Rattle.am_library_views.proofs.Called.{AreDeclared, declared_there, is_in}
use Rattle.am_job.specs.declared.words.codes.CodedWord.{CodedWord}
use Rattle.am_job.specs.Rounds.{scenario}
use Rattle.am_job.specs.Scripts.{script}
use Rattle.am_job.proofs.Below.{threads_below}
use Rattle.am_job.proofs.Each.{each_call}
use Rattle.am_job.proofs.Ready.{thread_there}

abbrev IsOf : ℕ → ScriptCall → Type 0
IsOf w made = is_in (threads_below w) made.thread ≡ true

is_of : (w n : ℕ) → n < w → is_in (threads_below w) n ≡ true
is_of w n less = declared_there (threads_below w) n (record { 0 = n }) (thread_there n w less)

pub calls_of_round : (w turns : ℕ) (words : List CodedWord) → 0 < w → AreDeclared (scenario w turns words).threads (scenario w turns words).script
unfolding scenario
calls_of_round w turns words some =
    list_all-from_AllPass (λ (made : ScriptCall). is_in (threads_below w) made.thread) (script w words)
    (each_call w (IsOf w) (record {
      note = is_of w;
      mapping = λ n k less few. is_of w n less;
      request = λ n word less. is_of w n less;
      owners_poll = is_of w;
      senders_poll = is_of w;
    }) words some)
