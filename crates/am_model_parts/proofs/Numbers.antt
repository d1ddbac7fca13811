-- The bounds of an endpoint in order, as numbers.
use Rattle.std.proofs.Common.{arith}
use Rattle.std.proofs.lemmas.List.Sums.{count_by-le-length}
use Rattle.am_names.specs.declared.Message.{Message}
use Rattle.am_model.specs.declared.Flying.{Flying}
use Rattle.am_model.specs.declared.Notice.{Notice}
use Rattle.am_model.specs.Endpoint.{Body, IsWithinBounds, is_arrived}
use Rattle.am_model.proofs.Sizes.{requests_and_answers}
use Rattle.am_model_parts.specs.Bounds.{IsBounded}

pub bounded : (b : Body) → IsWithinBounds b → IsBounded b
bounded b w =
    record {
      requests = w.requests;
      replies = w.replies;
      messages = omega (
        arith,
        w.requests,
        w.replies,
        requests_and_answers (λ (f : Flying). f.message) b.in_flight,
        requests_and_answers (λ (n : Notice). n.message) b.notices,
      );
      records = w.awaited;
      received_requests = w.received;
      received_replies = omega (arith, w.answers, w.awaited, count_by-le-length is_arrived b.awaited);
      received = omega (arith, w.received, w.answers, w.awaited, requests_and_answers (λ (m : Message). m) b.received, count_by-le-length is_arrived b.awaited);
    }
