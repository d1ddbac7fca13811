-- What the entries of a session tell of a message.
use Rattle.std.specs.Prelude.{ℕ, Bool, true, false, ◌==◌, Option, Some, None, List, count_by}
use Rattle.std.specs.List.{list_any}
use Rattle.am_restart.specs.declared.events.SessionEntry.{SessionEntry}
use Rattle.am_restart.specs.declared.events.SessionOutcome.{SessionOutcome}
use Rattle.am_restart.specs.declared.events.SessionOutcome.TheVariants as Out
use Rattle.am_restart.specs.declared.fates.SessionFate.{SessionFate}
use Rattle.am_restart.specs.declared.fates.SessionFate.TheVariants as Fates

-- whether a message is offered here
abbrev pub is_offered : SessionOutcome → Bool
is_offered (Out.Offered m) = true
is_offered outcome = false

-- the message that is put here, returned or left unknown, if any
abbrev pub put_in : SessionOutcome → Option ℕ
put_in (Out.Accepted m answer) = Some m
put_in outcome = None

abbrev pub returned_in : SessionOutcome → Option ℕ
returned_in (Out.Returned m) = Some m
returned_in outcome = None

abbrev pub unknown_in : SessionOutcome → Option ℕ
unknown_in (Out.Unknown m) = Some m
unknown_in (Out.Peer incarnation unknown) = unknown
unknown_in outcome = None

abbrev pub is_of : ℕ → Option ℕ → Bool
is_of m None = false
is_of m (Some n) = m == n

abbrev pub puts : ℕ → SessionEntry → Bool
puts m x = is_of m (put_in x.outcome)

abbrev pub returns : ℕ → SessionEntry → Bool
returns m x = is_of m (returned_in x.outcome)

abbrev pub leaves_unknown : ℕ → SessionEntry → Bool
leaves_unknown m x = is_of m (unknown_in x.outcome)

-- the fate of a message that is returned or not, unknown or not, put or not
abbrev pub fate_by : Bool → Bool → Bool → SessionFate
fate_by true unknown put = Fates.Returned
fate_by false true true = Fates.UnknownButPut
fate_by false true false = Fates.Unknown
fate_by false false true = Fates.Put
fate_by false false false = Fates.Pending

-- THE FATE of a message after these entries
abbrev pub fate : List SessionEntry → ℕ → SessionFate
fate entries m = fate_by (list_any (returns m) entries) (list_any (leaves_unknown m) entries) (list_any (puts m) entries)

-- how many messages were offered
abbrev pub messages : List SessionEntry → ℕ
messages entries = count_by (λ (x : SessionEntry). is_offered x.outcome) entries
