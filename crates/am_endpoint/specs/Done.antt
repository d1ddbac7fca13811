-- What an application is told where a table did what it asked, or refused.
use Rattle.std.specs.Prelude.{Result, Ok, Err}
use Rattle.am_office_entries.specs.declared.Outcome.{Outcome}
use Rattle.am_office_entries.specs.declared.Outcome.TheVariants as Out
use Rattle.am_office_entries.specs.declared.Refusal.{Refusal}

abbrev pub done : Result (Unit {0}) Refusal → Outcome
done (Ok nothing) = Out.Done
done (Err refusal) = Out.Refused refusal
