-- A body can be made of the lists of a valid one.
use Rattle.std.proofs.Common.{◌≡◌, ℕ, ◌≤◌, true, Option, List, [], ◌∷◌, length, refl, ap, arith}
use Rattle.std.specs.List.{list_all}
use Rattle.std.proofs.lemmas.Bool.{and_parts, and_from}
use Rattle.std.proofs.lemmas.List.Sums.{count_by-le-length}
use Rattle.am_names.specs.declared.EndpointId.{EndpointId}
use Rattle.am_names.specs.declared.Message.{Message}
use Rattle.am_model.specs.declared.Notice.{Notice}
use Rattle.am_model.specs.declared.Queued.{Queued}
use Rattle.am_model.specs.Endpoint.{Body, is_arrived}
use Rattle.am_model.specs.Valid.{is_own, is_own_answer, is_own_request}
use Rattle.am_model.proofs.Records.{one_record}
use Rattle.am_endpoint_body.specs.Views.{slots_held}
use Rattle.am_swap_image.specs.Valid.{IsValid}
use Rattle.am_swap_image.proofs.Sizes.{split}
use Rattle.am_swap.specs.Made.{CanBeMade, is_queued_answer, is_queued_request}

all_requests : (e : EndpointId) (accepted : ℕ) (qs : List Queued) → list_all (is_own_request e accepted) qs ≡ true → list_all is_queued_request qs ≡ true
all_requests e accepted [] h = refl
all_requests e accepted (q ∷ qs) h =
    let parts = and_parts (is_own_request e accepted q) (list_all (is_own_request e accepted) qs) h in
    and_from (is_queued_request q) (list_all is_queued_request qs) (and_parts (is_queued_request q) (is_own e accepted q.message q.bounces) parts.0).0
    (all_requests e accepted qs parts.1)

all_answers : (e : EndpointId) (accepted : ℕ) (qs : List Queued) → list_all (is_own_answer e accepted) qs ≡ true → list_all is_queued_answer qs ≡ true
all_answers e accepted [] h = refl
all_answers e accepted (q ∷ qs) h =
    let parts = and_parts (is_own_answer e accepted q) (list_all (is_own_answer e accepted) qs) h in
    and_from (is_queued_answer q) (list_all is_queued_answer qs) (and_parts (is_queued_answer q) (is_own e accepted q.message q.bounces) parts.0).0
    (all_answers e accepted qs parts.1)

-- a valid body takes no more slots than there are
few_slots : (e : EndpointId) (pool : Option ℕ) (b : Body) → IsValid e pool b → slots_held b ≤ 80
few_slots e pool b is =
    let w = is.within in
    let noticed = split (λ (n : Notice). n.message) b.notices in
    let arrived = split (λ (m : Message). m) b.received in
    omega (
      arith,
      w.requests,
      w.replies,
      w.awaited,
      w.received,
      w.answers,
      noticed,
      arrived,
      count_by-le-length is_arrived b.awaited,
      ap length is.none_in_flight,
    )

pub can_be_made : (e : EndpointId) (pool : Option ℕ) (b : Body) → IsValid e pool b → CanBeMade pool b
can_be_made e pool b is =
    let v = is.valid in
    record {
      table = record { indexes = v.indexes; credits = v.mappings; few = is.within.awaited; once = λ r. one_record 0 b.accepted r b.awaited v.counts };
      handlers = record { indexes = v.handlers; zero = v.handler_zero };
      requests = all_requests e b.accepted b.requests v.requests;
      answers = all_answers e b.accepted b.replies v.replies;
      none_in_flight = is.none_in_flight;
      room = few_slots e pool b is;
    }
