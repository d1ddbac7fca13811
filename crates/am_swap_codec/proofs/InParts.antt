-- A body's parts, read one after another, are the body.
use Rattle.std.proofs.Common.{◌≡◌, ℕ, List, Option, Some, None, refl, sym, ap, ◌∙◌}
use Rattle.am_lemmas.specs.Options.{◌>>=◌}
use Rattle.am_names.specs.declared.EndpointId.{EndpointId}
use Rattle.am_names.specs.declared.Message.{Message}
use Rattle.am_office_entries.specs.declared.HandlerKind.{HandlerKind}
use Rattle.am_model.specs.declared.Mapping.{Mapping}
use Rattle.am_model.specs.declared.Awaited.{Awaited}
use Rattle.am_model.specs.declared.Queued.{Queued}
use Rattle.am_model.specs.declared.Notice.{Notice}
use Rattle.am_model.specs.Endpoint.{Body}
use Rattle.am_swap_image.specs.Reading.{Read, magic_at, long_at, short_at, many_at, counted_at, mapping_at, record_at, handler_at, message_at, notice_at}
use Rattle.am_swap_image.specs.Reading.{received_at, body_of, body_at}
use Rattle.am_swap_pieces.specs.Answers.{behind}
use Rattle.am_swap_codec.specs.Parts.{head_at, tables_at, queues_at, arrivals_at}

-- one step of a part, in front of the steps behind the part
step : {A B C : Type 0} (m : Option A) (f : A → Option B) (g : B → Option C) (h : A → Option C) → ((x : A) → (f x >>= g) ≡ h x) → ((m >>= f) >>= g) ≡ (m >>= h)
step None f g h e = refl
step (Some x) f g h e = e x

abbrev Head : Type 0
Head = (ℕ × ℕ) × ℕ

abbrev Tables : Type 0
Tables = (List (Option Mapping) × List Awaited) × List (Option HandlerKind)

abbrev Queues : Type 0
Queues = List Queued × List Queued

abbrev behind_arrivals : Head → Tables → Queues → ((List Notice × List Message) × List ℕ) → Read Body
behind_arrivals h t q came = Some (body_of h.0.0 h.0.1 h.1 t.0.0 t.0.1 t.1 q.0 q.1 came.0.0 came.0.1, came.1)

abbrev behind_queues : Head → Tables → (Queues × List ℕ) → Read Body
behind_queues h t q = arrivals_at q.1 >>= behind_arrivals h t q.0

abbrev behind_tables : Head → (Tables × List ℕ) → Read Body
behind_tables h t = queues_at t.1 >>= behind_queues h t.0

abbrev behind_head : EndpointId → (Head × List ℕ) → Read Body
behind_head e h = tables_at e h.1 >>= behind_tables h.0

pub body_by_parts : (e : EndpointId) (bytes : List ℕ) → body_at e bytes ≡ (head_at bytes >>= behind_head e)
unfolding body_at head_at tables_at queues_at arrivals_at
body_by_parts e bytes = sym
    (step (magic_at bytes) _ _ _ (λ front.
    step (long_at front) _ _ _ (λ tag.
    step (long_at tag.1) _ _ _ (λ sum.
    step (short_at sum.1) _ _ _ (λ accepted.
    step (many_at mapping_at 16 accepted.1) _ _ _ (λ mapped.
    step (counted_at (record_at e) mapped.1) _ _ _ (λ awaited.
    step (many_at handler_at 16 awaited.1) _ _ _ (λ handlers.
    step (counted_at message_at handlers.1) _ _ _ (λ requests.
    step (counted_at message_at requests.1) _ _ _ (λ replies.
    step (counted_at notice_at replies.1) _ _ _ (λ notices.
    step (counted_at received_at notices.1) _ _ _ (λ received. refl))))))))))))

-- behind a part, the bytes behind the next
then_behind : {X Y : Type 0} (m : Read X) (f : X × List ℕ → Read Y) (g : List ℕ → Option (List ℕ)) → ((x : X × List ℕ) → behind (f x) ≡ g x.1) →
    behind (m >>= f) ≡ (behind m >>= g)
then_behind None f g e = refl
then_behind (Some x) f g e = e x

-- behind the head, part by part, where only the bytes behind each part are kept
abbrev passed_tables : EndpointId → List ℕ → Option (List ℕ)
passed_tables e head = do
  mapped ← behind (many_at mapping_at 16 head)
  awaited ← behind (counted_at (record_at e) mapped)
  handlers ← behind (many_at handler_at 16 awaited)
  requests ← behind (counted_at message_at handlers)
  replies ← behind (counted_at message_at requests)
  notices ← behind (counted_at notice_at replies)
  received ← behind (counted_at received_at notices)
  Some received

abbrev passed_body : EndpointId → List ℕ → Option (List ℕ)
passed_body e bytes = behind (head_at bytes) >>= passed_tables e

-- what stands behind the head, part by part
abbrev from_head : EndpointId → Head × List ℕ → Read Body
from_head e h = do
  mapped ← many_at mapping_at 16 h.1
  awaited ← counted_at (record_at e) mapped.1
  handlers ← many_at handler_at 16 awaited.1
  requests ← counted_at message_at handlers.1
  replies ← counted_at message_at requests.1
  notices ← counted_at notice_at replies.1
  received ← counted_at received_at notices.1
  Some (body_of h.0.0.0 h.0.0.1 h.0.1 mapped.0 awaited.0 handlers.0 requests.0 replies.0 notices.0 received.0, received.1)

body_by_head : (e : EndpointId) (bytes : List ℕ) → body_at e bytes ≡ (head_at bytes >>= from_head e)
unfolding body_at head_at
body_by_head e bytes = sym
    (step (magic_at bytes) _ _ _ (λ front.
    step (long_at front) _ _ _ (λ tag.
    step (long_at tag.1) _ _ _ (λ sum.
    step (short_at sum.1) _ _ _ (λ accepted. refl)))))

passed_head : (e : EndpointId) (h : Head × List ℕ) → behind (from_head e h) ≡ passed_tables e h.1
passed_head e h =
    then_behind (many_at mapping_at 16 h.1) _ _ (λ mapped.
    then_behind (counted_at (record_at e) mapped.1) _ _ (λ awaited.
    then_behind (many_at handler_at 16 awaited.1) _ _ (λ handlers.
    then_behind (counted_at message_at handlers.1) _ _ (λ requests.
    then_behind (counted_at message_at requests.1) _ _ (λ replies.
    then_behind (counted_at notice_at replies.1) _ _ (λ notices.
    then_behind (counted_at received_at notices.1) _ (λ rest. Some rest) (λ received. refl)))))))

pub behind_body : (e : EndpointId) (bytes : List ℕ) → behind (body_at e bytes) ≡ passed_body e bytes
behind_body e bytes = ap behind (body_by_head e bytes) ∙ then_behind (head_at bytes) (from_head e) (passed_tables e) (passed_head e)
