-- Which bodies an endpoint may have.
use Rattle.std.specs.Prelude.{◌≡◌, ℕ, ◌+◌, ◌≤◌, Bool, true, ◌&&◌, nat_le, nat_lt, Option, Some, None, is_some, List, [], ◌∷◌, length, count_by}
use Rattle.std.specs.List.{list_all}
use Rattle.am_names.specs.declared.EndpointId.{EndpointId}
use Rattle.am_names.specs.declared.Serial.{Serial}
use Rattle.am_names.specs.declared.Message.{Message}
use Rattle.am_names.specs.Names.{same_end, same_serial, is_request, is_reply, is_well_formed}
use Rattle.am_office_entries.specs.declared.HandlerKind.{HandlerKind}
use Rattle.am_office_entries.specs.Entries.{is_serial}
use Rattle.am_model.specs.declared.Awaited.{Awaited}
use Rattle.am_model.specs.declared.Flying.{Flying}
use Rattle.am_model.specs.declared.Mapping.{Mapping}
use Rattle.am_model.specs.declared.Notice.{Notice}
use Rattle.am_model.specs.declared.Queued.{Queued}
use Rattle.am_model.specs.Endpoint.{Body, entry_at, is_arrived}
use Rattle.am_model.specs.Calls.{excess, shares}
use Rattle.am_model.specs.History.{are_credits_in_range, is_kind_in_range}

-- whether the credits of an index are in range, where it is mapped
abbrev pub is_mapping_in_range : Option ℕ → Option Mapping → Bool
is_mapping_in_range pool None = true
is_mapping_in_range pool (Some mapping) = are_credits_in_range pool mapping.credits

-- whether a handler's numbers are in range, where it is set
abbrev pub is_handler_in_range : Option HandlerKind → Bool
is_handler_in_range None = true
is_handler_in_range (Some kind) = is_kind_in_range kind

-- whether the counts rise strictly, each above `below` and at most `last`
abbrev pub rise : ℕ → ℕ → List Awaited → Bool
rise below last [] = true
rise below last (a ∷ more) = nat_lt below a.serial.count && (nat_le a.serial.count last && rise a.serial.count last more)

-- whether a record is of a mapped index, and of a request of this endpoint
abbrev pub is_record : EndpointId → List (Option Mapping) → Awaited → Bool
is_record e mapped a = same_end e a.serial.source && (nat_lt a.index 16 && is_some (entry_at mapped a.index))

-- the records are within the credits, or within the shares and the pool
abbrev pub FitsPool : Option ℕ → Body → Type 0
FitsPool None b = excess b ≡ 0
FitsPool (Some pool) b = (excess b ≤ pool) × (shares b + pool ≤ 32)

-- whether a message is one of the first `accepted` of this endpoint, well formed, and bounced 16 times at most
abbrev pub is_own : EndpointId → ℕ → Message → ℕ → Bool
is_own e accepted m bounces =
    same_end e m.serial.source && (nat_le 1 m.serial.count && (nat_le m.serial.count accepted && (is_well_formed m && nat_le bounces 16)))

abbrev pub is_own_request : EndpointId → ℕ → Queued → Bool
is_own_request e accepted q = is_request q.message && is_own e accepted q.message q.bounces

abbrev pub is_own_answer : EndpointId → ℕ → Queued → Bool
is_own_answer e accepted q = is_reply q.message && is_own e accepted q.message q.bounces

abbrev pub is_own_flight : EndpointId → ℕ → Flying → Bool
is_own_flight e accepted f = is_own e accepted f.message f.bounces

abbrev pub is_own_notice : EndpointId → ℕ → Notice → Bool
is_own_notice e accepted n = is_own e accepted n.message n.bounces

abbrev pub is_received_here : EndpointId → Message → Bool
is_received_here e m = same_end e m.dest && is_well_formed m

-- whether the message answers the request
abbrev pub answers : Serial → Message → Bool
answers request m = is_reply m && is_serial request m.about

-- whether the record is of the request, and its reply has arrived
abbrev pub has_arrived : Serial → Awaited → Bool
has_arrived request a = same_serial request a.serial && a.arrived

-- the body is one that the endpoint e may have, but for its bounds
pub record IsValid (e : EndpointId) (pool : Option ℕ) (b : Body) : Type 0 where
  pub indexes : length b.mapped ≡ 16
  pub mappings : list_all (is_mapping_in_range pool) b.mapped ≡ true
  pub handlers : length b.handlers ≡ 16
  pub handler_zero : entry_at b.handlers 0 ≡ None
  pub kinds : list_all is_handler_in_range b.handlers ≡ true
  pub counts : rise 0 b.accepted b.awaited ≡ true
  pub records : list_all (is_record e b.mapped) b.awaited ≡ true
  pub credits : FitsPool pool b
  pub requests : list_all (is_own_request e b.accepted) b.requests ≡ true
  pub replies : list_all (is_own_answer e b.accepted) b.replies ≡ true
  pub in_flight : list_all (is_own_flight e b.accepted) b.in_flight ≡ true
  pub notices : list_all (is_own_notice e b.accepted) b.notices ≡ true
  pub received : list_all (is_received_here e) b.received ≡ true
  pub each_answer : (request : Serial) → count_by (answers request) b.received ≡ count_by (has_arrived request) b.awaited
  pub all_answers : count_by is_reply b.received ≡ count_by is_arrived b.awaited
