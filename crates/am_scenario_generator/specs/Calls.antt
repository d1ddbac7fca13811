-- The calls of the generated threads.
use Rattle.std.specs.Prelude.{ℕ, zero, suc, ◌+◌, ◌-◌, ◌*◌, ◌/◌, ◌%◌, nat_lt, List, [], ◌∷◌, ◌++◌, if◌then◌else◌}
use Rattle.rand_pcg.specs.Lcg.{Lcg}
use Rattle.am_office_entries.specs.declared.Call.{Call}
use Rattle.am_office_entries.specs.declared.Call.TheVariants.{Request, Poll, Map, SetHandler}
use Rattle.am_office_entries.specs.declared.HandlerKind.TheVariants.{Note, Echo, Add}
use Rattle.am_scenario_types.specs.declared.parts.ScriptCall.{ScriptCall}
use Rattle.am_scenario_generator.specs.Words.{word, steps, after_threads}

abbrev pub call_on : ℕ → ℕ → Call → ScriptCall
call_on thread end call = record { thread = thread; endpoint = record { 0 = end }; call = call }

-- endpoint e has the tag 100 + e
abbrev pub map_to : ℕ → ℕ → Call
map_to index name = Map index (record { 0 = name }) (record { 0 = 100 + name }) 8

-- the six calls with which a thread prepares an endpoint
unfoldable pub greeting : ℕ → ℕ → List ScriptCall
greeting thread end =
    call_on thread end (SetHandler 1 Note)
    ∷ call_on thread end (SetHandler 2 (Echo 1))
    ∷ call_on thread end (SetHandler 3 (Add 1))
    ∷ call_on thread end (map_to 0 ((end + 1) % 12))
    ∷ call_on thread end (map_to 1 ((end + 5) % 12))
    ∷ call_on thread end Poll
    ∷ []

-- the calls with which a thread prepares the three endpoints of its node
abbrev pub greetings : ℕ → List ScriptCall
greetings thread = (greeting thread thread ++ greeting thread (thread + 4)) ++ greeting thread (thread + 8)

-- so many polls
unfoldable pub polls : ℕ → ℕ → ℕ → List ScriptCall
polls thread end zero = []
polls thread end (suc times) = polls thread end times ++ call_on thread end Poll ∷ []

-- the calls with which a thread begins: the first four prepare their node's three endpoints, the others poll
unfoldable pub opening : ℕ → List ScriptCall
opening thread =
    if nat_lt thread 4
    then greetings thread
    else polls thread (thread - 4) 18

-- one of the three endpoints of the thread's node
abbrev pub drawn_end : ℕ → ℕ → ℕ
drawn_end thread w = thread % 4 + 4 * (w / 4 % 3)

-- the call that a word gives
unfoldable pub drawn_call : ℕ → ℕ → ℕ → ScriptCall
drawn_call thread place w =
    if nat_lt (w % 4) 2
    then call_on thread (drawn_end thread w) (Request (w / 16 % 2) (1 + w / 32 % 3) (record { a = w; b = thread; c = place; d = 0 }))
    else call_on thread (drawn_end thread w) Poll

-- so many calls, with a word each
unfoldable pub drawn_calls : Lcg → ℕ → ℕ → List ScriptCall
drawn_calls g thread zero = []
drawn_calls g thread (suc place) = drawn_calls g thread place ++ drawn_call thread place (word (steps g place)) ∷ []

-- all calls of a thread
unfoldable pub thread_calls : Lcg → ℕ → List ScriptCall
thread_calls g thread = opening thread ++ drawn_calls g thread 200

-- the calls of the threads below a number
unfoldable pub script_below : Lcg → ℕ → List ScriptCall
script_below g zero = []
script_below g (suc thread) = script_below g thread ++ thread_calls (after_threads g thread) thread
