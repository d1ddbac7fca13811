-- What the fate of a serial says of its journal: read `HasOneFate` first, at the end.
use Rattle.std.specs.Prelude.{◌≡◌, ℕ, MatchOption, List}
use Rattle.am_names.specs.declared.Serial.{Serial}
use Rattle.am_names.specs.Names.{has_serial}
use Rattle.am_office_entries.specs.declared.Entry.{Entry}
use Rattle.am_office_entries.specs.declared.endings.Fate.{Fate}
use Rattle.am_office_entries.specs.declared.endings.Fate.TheVariants as Fates
use Rattle.am_office_entries.specs.Entries.{accepted_of, put_of, run_of, returned_of, unknown_of, return_of}
use Rattle.am_office_entries.specs.Fates.{fate}
use Rattle.am_model.specs.PostOffice.{Gave, times, times_serial}

-- so many entries return the serial, leave it unknown and run it
pub record Became (journal : List Entry) (s : Serial) (returned unknown runs : ℕ) : Type 0 where
  pub comes_back : times_serial returned_of s journal ≡ returned
  pub is_unknown : times_serial unknown_of s journal ≡ unknown
  pub runs_so : times run_of (has_serial s) journal ≡ runs

-- a serial that came back for a cause, and was nowhere put
pub record CameBackUnput (journal : List Entry) (s : Serial) : Type 0 where
  pub became : Became journal s 1 0 0
  pub unput : times put_of (has_serial s) journal ≡ 0

-- What a fate says. Returned: once, for this cause, and it was nowhere put, run or unknown. Unknown: once, and it didn't run. Unknown but ran:
-- unknown once, and it ran once. Ran: once, and it is neither returned nor unknown. Pending: none of these.
abbrev pub IsFate : List Entry → Serial → Fate → Type 0
IsFate journal s (Fates.Returned cause) = CameBackUnput journal s × Gave return_of journal (s, cause)
IsFate journal s Fates.Unknown = Became journal s 0 1 0
IsFate journal s Fates.UnknownButRan = Became journal s 0 1 1
IsFate journal s Fates.Ran = Became journal s 0 0 1
IsFate journal s Fates.Pending = Became journal s 0 0 0

-- a message that was accepted, and its fate
pub record IsFated (journal : List Entry) (s : Serial) (f : Fate) : Type 0 where
  pub accepted : times accepted_of (has_serial s) journal ≡ 1
  pub says : IsFate journal s f
  pub only : (g : Fate) → IsFate journal s g → g ≡ f

-- ONE FATE. A serial that was accepted has one fate, which says what became of it, and no other fate says so. A serial that was not
-- accepted has none.
abbrev pub HasOneFate : List Entry → Serial → Type 0
HasOneFate journal s = MatchOption (fate journal s) (times accepted_of (has_serial s) journal ≡ 0) (IsFated journal s)
