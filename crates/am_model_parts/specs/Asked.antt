-- What an application or the direct network asks of endpoints, by the states of those that it touches alone.
use Rattle.std.specs.Prelude.{◌≡◌, ℕ, Option, Some, None, List}
use Rattle.am_office_entries.specs.declared.Condition.{Condition}
use Rattle.am_office_entries.specs.declared.Outcome.{Outcome}
use Rattle.am_office_entries.specs.declared.Outcome.TheVariants as Out
use Rattle.am_office_entries.specs.declared.Entry.{Entry}
use Rattle.am_model.specs.Choice.{first_holding}
use Rattle.am_model.specs.declared.Queued.{Queued}
use Rattle.am_model.specs.Endpoint.{State, verdict}
use Rattle.am_model.specs.Layout.{Layout}
use Rattle.am_model.specs.Tables.{call_table, carry_table, want_table}
use Rattle.am_model.specs.History.{judged, state_of}

-- what keeps a call from being made on an endpoint in this state
abbrev pub failing_call : State → Option Condition
failing_call s = first_holding (call_table s)

-- what keeps an endpoint in this state from being wanted
abbrev pub failing_want : State → Option Condition
failing_want s = first_holding (want_table s)

-- what keeps the direct network from carrying the front message of an endpoint in this state
abbrev pub failing_carry : State → Option Condition
failing_carry s = first_holding (carry_table s)

-- what comes of a carry of the front message to an endpoint in the second state, where messages may bounce up to the limit
abbrev pub carry_at : ℕ → Option Queued → State → Outcome
carry_at limit None there = Out.Silent
carry_at limit (Some q) there = judged limit q.message q.bounces (verdict there q.message)

-- the state is the journal's at the destination of the front message, if there is one
abbrev pub IsThere : Layout → List Entry → Option Queued → State → Type 0
IsThere layout past None there = Unit {0}
IsThere layout past (Some q) there = there ≡ state_of layout past q.message.dest
