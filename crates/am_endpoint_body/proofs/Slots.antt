-- How many slots the messages of a body take.
use Rattle.std.proofs.Common.{◌≡◌, ℕ, ◌+◌, ◌<◌, Bool, true, false, cond, List, length, Option, Some, None, refl, arith, if◌then◌else◌}
use Rattle.std.specs.List.{count_by}
use Rattle.std.proofs.lemmas.List.{length-map, length_push}
use Rattle.std.proofs.lemmas.List.Sums.{count_by-le-length}
use Rattle.am_names.specs.Names.{is_reply, is_request}
use Rattle.am_names.specs.declared.Message.{Message}
use Rattle.am_names.specs.declared.Serial.{Serial}
use Rattle.am_names.specs.declared.Why.{Why}
use Rattle.am_model.specs.declared.Flying.{Flying}
use Rattle.am_model.specs.declared.Notice.{Notice}
use Rattle.am_model.specs.Endpoint.{Body, IsWithinBounds, State, is_arrived, replies_held, requests_held}
use Rattle.am_model.specs.Changes.{marked, noticed, put, queued, with_marked}
use Rattle.am_model.proofs.Sizes.{length_appended}
use Rattle.am_model.proofs.Sizes.{requests_and_answers}
use Rattle.am_endpoint_body.specs.Views.{Fits, slots_held}

pub held_by_kind : (b : Body) → slots_held b ≡ requests_held b + replies_held b + (count_by is_request b.received + count_by is_reply b.received)
held_by_kind b =
    omega (
      arith,
      requests_and_answers (λ (f : Flying). f.message) b.in_flight,
      requests_and_answers (λ (n : Notice). n.message) b.notices,
      requests_and_answers (λ (m : Message). m) b.received,
    )

pub fits_within : (b : Body) → IsWithinBounds b → Fits b
fits_within b w = omega (arith, held_by_kind b, w.requests, w.replies, w.received, w.answers, w.awaited, count_by-le-length is_arrived b.awaited)

-- a free request slot or reply slot is a free slot

pub spare_request : (b : Body) → IsWithinBounds b → requests_held b < 16 → slots_held b < 80
spare_request b w spare = omega (arith, spare, held_by_kind b, w.replies, w.received, w.answers, w.awaited, count_by-le-length is_arrived b.awaited)

pub spare_reply : (b : Body) → IsWithinBounds b → replies_held b < 16 → slots_held b < 80
spare_reply b w spare = omega (arith, spare, held_by_kind b, w.requests, w.received, w.answers, w.awaited, count_by-le-length is_arrived b.awaited)

length_marked : (about : Option Serial) (fs : List Flying) → length (with_marked about fs) ≡ length fs
length_marked None fs = refl
length_marked (Some r) fs = length-map fs (marked r)

-- one more message takes one more slot

pub slots_put : (m : Message) (s : State) → slots_held (put m s).body ≡ slots_held s.body + 1
slots_put m s = omega (arith, length_push s.body.received m, length_marked m.about s.body.in_flight)

pub slots_queued : (m : Message) (n : ℕ) (b : Body) → slots_held (queued m n b) ≡ slots_held b + 1
slots_queued m n b =
    omega (arith, length_appended (is_request m) m n b.requests, length_appended (is_reply m) m n b.replies, one (is_request m))
  where
    one : (c : Bool) → cond c 1 0 + cond (if c then false else true) 1 0 ≡ 1
    one true = refl
    one false = refl

pub slots_noticed : (m : Message) (n : ℕ) (why : Why) (b : Body) → slots_held (noticed m n why b) ≡ slots_held b + 1
slots_noticed m n why b = omega (arith, length_push b.notices (record { message = m; bounces = n; why = why }))
