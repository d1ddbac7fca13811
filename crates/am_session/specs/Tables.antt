-- The table from which the fates of a session are told.
use Rattle.std.specs.Prelude.{◌≡◌, ℕ, ◌==◌, true, false, if◌then◌else◌, Option, Some, None, unwrap_or, List}
use Rattle.std.specs.List.{list_any}
use Rattle.std.specs.Ordering.{nat_cmp}
use Rattle.std.specs.BTreeMap.{BTreeMap, get}
use Rattle.am_restart.specs.declared.events.SessionEntry.{SessionEntry}
use Rattle.am_restart.specs.declared.events.SessionOutcome.{SessionOutcome}
use Rattle.am_restart.specs.declared.events.SessionOutcome.TheVariants as Out
use Rattle.am_restart.specs.declared.fates.SessionFate.{SessionFate}
use Rattle.am_restart.specs.Fates.{fate_by, puts, returns, leaves_unknown}
use Rattle.am_session.specs.declared.fates.Known.{Known}
use Rattle.am_session.specs.declared.fates.News.{News}
use Rattle.am_session.specs.declared.fates.News.TheVariants as Latest

abbrev pub unknown_news : Option ℕ → Option (ℕ × News)
unknown_news None = None
unknown_news (Some m) = Some (m, Latest.Unknown)

-- what an outcome says of a message's fate, and of which message
abbrev pub news_in : SessionOutcome → Option (ℕ × News)
news_in (Out.Accepted m answer) = Some (m, Latest.Put)
news_in (Out.Returned m) = Some (m, Latest.Returned)
news_in (Out.Unknown m) = Some (m, Latest.Unknown)
news_in (Out.Peer incarnation unknown) = unknown_news unknown
news_in outcome = None

-- what is known of a message after the news
abbrev pub known_with : Known → News → Known
known_with k Latest.Put = record k { put = true }
known_with k Latest.Returned = record k { returned = true }
known_with k Latest.Unknown = record k { unknown = true }

-- what is known of a message of which no entry says anything
abbrev pub nothing_known : Known
nothing_known = record { put = false; returned = false; unknown = false }

-- what a table knows of a message
abbrev pub known_in : BTreeMap ℕ Known → ℕ → Known
known_in table m = unwrap_or (get nat_cmp table m) nothing_known

-- what the entries say of a message
abbrev pub known_of : List SessionEntry → ℕ → Known
known_of entries m = record { put = list_any (puts m) entries; returned = list_any (returns m) entries; unknown = list_any (leaves_unknown m) entries }

-- the table knows of each message what the entries say
pub record AreKnown (table : BTreeMap ℕ Known) (entries : List SessionEntry) : Type 0 where
  pub each : (m : ℕ) → known_in table m ≡ known_of entries m

-- what is known of a message after news of some message
abbrev pub known_after : ℕ → Known → Option (ℕ × News) → Known
known_after m k None = k
known_after m k (Some (about, news)) = if m == about then known_with k news else k

-- the fate of a message of which this is known
abbrev pub fate_in : Known → SessionFate
fate_in k = fate_by k.returned k.unknown k.put
