-- How what a seat knows is kept over a stay.
use Rattle.std.specs.Prelude.{◌≡◌, ◌≢◌, ℕ, ◌<◌, List, [], ◌++◌, filter, map}
use Rattle.am_names.specs.declared.EndpointId.{EndpointId}
use Rattle.am_names.specs.Names.{same_end}
use Rattle.am_office_entries.specs.declared.Entry.{Entry}
use Rattle.am_office_entries.specs.Entries.{touches}
use Rattle.am_endpoint_body.specs.declared.settings.EndSettings.{EndSettings}
use Rattle.am_model.specs.Parts.{last_stamp}
use Rattle.am_model.specs.Layout.{AllAre, AreApart}
use Rattle.am_model_merge.specs.Logs.{IsRising}
use Rattle.am_workers_laws.specs.declared.books.EndBook.{EndBook}
use Rattle.am_workers_laws.specs.Books.Books.{moves, stands_at}
use Rattle.am_places.specs.Rule.{seat_numbered, opener}
use Rattle.am_places.specs.declared.board.Tenure.{Tenure}
use Rattle.am_workers_laws.specs.Phases.Then.{StandsAfter}
use Rattle.am_workers_laws.specs.Invariants.Seats.{EndPass, Ids, KnowsNode, Stays}

-- what stands in a log stands there in a longer one
abbrev pub StandsOn : Type 0
StandsOn = (log more past : List Entry) (x : Entry) → StandsAfter log past x → StandsAfter (log ++ more) past x

-- the entries touch this endpoint, and no other
pub record TouchOnly (e : EndpointId) (new : List Entry) : Type 0 where
  pub all : filter (touches e) new ≡ new
  pub none : (d : EndpointId) → d ≢ e → filter (touches d) new ≡ []

-- a seat that stayed at an endpoint, where stamps rise with what it added, knows its node again
abbrev pub StaysKeep : Type 0
StaysKeep =
    (ids : Ids) (made new : List Entry) (k : ℕ) (set : EndSettings) (place : ℕ) (log : List (Tenure Entry)) (v w : EndPass) → KnowsNode ids made v → TouchOnly set.id new → Stays k set place log new v w → KnowsNode ids (made ++ new) w

-- and one that made entries which touch no endpoint, as some of an interface's do
abbrev pub NoneKeep : Type 0
NoneKeep = (ids : Ids) (made new : List Entry) (v : EndPass) → KnowsNode ids made v → ((e : EndpointId) → filter (touches e) new ≡ []) → KnowsNode ids (made ++ new) v

-- a stamp above the last is above all, where stamps rise
abbrev pub AboveLast : Type 0
AboveLast = (log : List Entry) (n : ℕ) → IsRising log → last_stamp log < n → AllAre (λ (y : Entry). y.stamp < n) log

-- a seat that was just made, of places whose books have no entries
abbrev pub fresh_pass : List EndBook → List EndpointId → ℕ → ℕ → ℕ → EndPass
fresh_pass books named k seats frames = seat_numbered k (opener (λ (b : EndBook). b.end.value.log) (λ (b : EndBook). b.end.value.settings) (λ (b : EndBook). stands_at b.end.value) moves books named seats frames)

-- knows its node, where no endpoint has two places: it made nothing
abbrev pub FreshKnow : Type 0
FreshKnow = (books : List EndBook) (named : List EndpointId) (k seats frames : ℕ) → AreApart same_end (map (λ (b : EndBook). b.end.value.settings.id) books) → AllAre (λ (b : EndBook). b.end.value.log ≡ []) books → KnowsNode (map (λ (b : EndBook). b.end.value.settings.id) books) [] (fresh_pass books named k seats frames)
