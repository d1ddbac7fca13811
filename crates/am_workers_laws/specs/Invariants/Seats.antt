-- What a seat knows of the endpoints of its node, and how a stay at one of them changes it.
use Rattle.std.specs.Prelude.{◌≡◌, ◌+◌, ℕ, true, Option, Some, List, [], ◌∷◌, ◌++◌, Contains, length, slice_get}
use mathlib.Core.Option.{some}
use lib.ListN.{get_elem?}
use Rattle.atomic_table.specs.Seated.{TableId}
use Rattle.atomic_table.specs.declared.shared.Seat.{Seat}
use Rattle.am_names.specs.declared.EndpointId.{EndpointId}
use Rattle.am_office_entries.specs.declared.Entry.{Entry}
use Rattle.am_office_entries.specs.Entries.{touches}
use Rattle.am_endpoint_body.specs.declared.settings.EndSettings.{EndSettings}
use Rattle.am_endpoint.specs.View.{state_by}
use Rattle.am_model.specs.Endpoint.{State, fresh, is_on_disk}
use Rattle.am_model.specs.Layout.{EndSetting, Layout, opening}
use Rattle.am_model_merge.specs.Logs.{IsRising}
use Rattle.am_places.specs.Rule.{Begins, IsOutside, Met, calm, holder_word, inside_with, joined, known_at, of, read, with_known, hand_in, pass_in}
use Rattle.am_places.specs.declared.board.Pass.{Pass}
use Rattle.am_places.specs.declared.board.Tenure.{Tenure}
use Rattle.am_workers_laws.specs.Books.Books.{moves}
use Rattle.am_workers_laws.specs.Phases.Lying.{rests}
use Rattle.am_workers_laws.specs.Phases.Seats.{KnowsItsOwn, left_with}

-- what a seat of a node knows
abbrev pub EndPass : Type 0
EndPass = Pass Entry EndSettings

-- which numbers the endpoints of a node have, in the order of its places
abbrev pub Ids : Type 0
Ids = List EndpointId

-- the seat is between turns, with no book in its hand
pub record IsIdle {B : Type 0} (id : TableId) (token : Seat (Option B) EndPass) : Type 0 where
  pub table : token.table_id ≡ id
  pub hand : hand_in token ≡ []
  pub outside : IsOutside (pass_in token)

-- an endpoint was born as the layout says
pub record IsBorn (layout : Layout) (set : EndSettings) : Type 0 where
  pub opens : fresh set.tag set.place ≡ opening layout set.id
  pub limit : set.log ≡ layout.log
  pub bounces : set.bounces ≡ layout.bounces
  pub pool : set.pool ≡ layout.pool

-- how an endpoint is declared that has these settings
abbrev pub setting_by : EndSettings → EndSetting
setting_by set = record { id = set.id; node = set.node; tag = set.tag; disk = is_on_disk set.place }

-- each endpoint that the seat was told of was born so
abbrev pub AreBorn : Layout → EndPass → Type 0
AreBorn layout v = (k : ℕ) (set : EndSettings) → get_elem? v.births k ≡ some set → IsBorn layout set

-- each endpoint of the node has the settings that the pass was told and a place of its own, and the seat knows its own of it: it made
-- these entries, which touch no other endpoint. It has gathered no other seat
pub record KnowsNode (ids : Ids) (made : List Entry) (v : EndPass) : Type 0 where
  pub apart : (j k : ℕ) (e : EndpointId) → slice_get ids j ≡ Some e → slice_get ids k ≡ Some e → j ≡ k
  pub births : (k : ℕ) (set : EndSettings) → get_elem? v.births k ≡ some set → slice_get ids k ≡ Some set.id
  pub all : length v.births ≡ length ids
  pub wide : length v.known ≡ length ids
  pub keeps : v.keeps ≡ v.mark ∷ []
  pub own : (k : ℕ) (e : EndpointId) → slice_get ids k ≡ Some e → KnowsItsOwn made e v.mark (known_at k v)
  pub here : (x : Entry) (e : EndpointId) → Contains made x → touches e x ≡ true → Contains ids e

-- the log of an endpoint as far as the seat has seen it
abbrev pub seen_log : ℕ → EndPass → List Entry
seen_log k v = joined (known_at k v).seen

-- the seat entered the endpoint k, whose settings these are, found the tenures `log`, and left with the new entries beside: the
-- stamps of all that stands there rise, and while the endpoint lay on disk its body stayed what it was
pub record Stays (k : ℕ) (set : EndSettings) (place : ℕ) (log : List (Tenure Entry)) (new : List Entry) (v w : EndPass) : Type 0 where
  pub born : get_elem? v.births k ≡ some set
  pub begins : Begins log (known_at k v).seen
  pub own : of v.mark log ≡ of v.mark (known_at k v).made
  pub calm_log : calm moves v.seats log ≡ true
  pub once : length (of 0 log) ≡ 1
  pub rising : IsRising (joined log ++ new)
  pub rests : rests set.id (fresh set.tag set.place) (joined log ++ new) ≡ true
  pub left : (before : ℕ) × (w ≡ with_known k (left_with v.mark (joined log ++ new) place (inside_with before log (known_at k v))) v)

-- the same, where what it found and what it added stand to each other so
pub record Stayed (k : ℕ) (new : List Entry) (Why : EndSettings → List Entry → Type 0) (v w : EndPass) : Type 0 where
  pub set : EndSettings
  pub place : ℕ
  pub log : List (Tenure Entry)
  pub stays : Stays k set place log new v w
  pub why : Why set (joined log)

-- the state in which it found the endpoint
abbrev pub found : EndSettings → List (Tenure Entry) → State
found set log = state_by set (joined log)

-- where another seat was inside, the pass has the read
abbrev pub IsBusy : ℕ → ℕ → EndPass → EndPass → Type 0
IsBusy k holder v w = Met k (holder + 1) v × (w ≡ read (holder_word k) (holder + 1) v)

-- it is the same seat, and was told the same of its node's endpoints
pub record SameSeat (v w : EndPass) : Type 0 where
  pub mark : w.mark ≡ v.mark
  pub seats : w.seats ≡ v.seats
  pub births : w.births ≡ v.births

-- so it is after a stay at an endpoint, and where another seat was inside
pub record SeatsStay : Type 0 where
  pub stays : (k : ℕ) (set : EndSettings) (place : ℕ) (log : List (Tenure Entry)) (new : List Entry) (v w : EndPass) → Stays k set place log new v w → SameSeat v w
  pub busy : (k holder : ℕ) (v w : EndPass) → IsBusy k holder v w → SameSeat v w
