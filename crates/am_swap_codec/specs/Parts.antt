-- A body is read part by part: its head, its tables, its queues, and what came.
use Rattle.std.specs.Prelude.{ℕ, List, Option, Some}
use Rattle.am_lemmas.specs.Options.{◌>>=◌}
use Rattle.am_names.specs.declared.EndpointId.{EndpointId}
use Rattle.am_names.specs.declared.Message.{Message}
use Rattle.am_office_entries.specs.declared.HandlerKind.{HandlerKind}
use Rattle.am_model.specs.declared.Mapping.{Mapping}
use Rattle.am_model.specs.declared.Awaited.{Awaited}
use Rattle.am_model.specs.declared.Queued.{Queued}
use Rattle.am_model.specs.declared.Notice.{Notice}
use Rattle.am_swap_image.specs.Reading.{Read, magic_at, long_at, short_at, many_at, counted_at, mapping_at, record_at, handler_at, message_at, notice_at}
use Rattle.am_swap_image.specs.Reading.{received_at}

-- the tag, the sum and how many messages were accepted
unfoldable pub head_at : List ℕ → Read ((ℕ × ℕ) × ℕ)
head_at bytes = do
  front ← magic_at bytes
  tag ← long_at front
  sum ← long_at tag.1
  accepted ← short_at sum.1
  Some (((tag.0, sum.0), accepted.0), accepted.1)

-- the mappings, the records and the handlers
unfoldable pub tables_at : EndpointId → List ℕ → Read ((List (Option Mapping) × List Awaited) × List (Option HandlerKind))
tables_at e bytes = do
  mapped ← many_at mapping_at 16 bytes
  awaited ← counted_at (record_at e) mapped.1
  handlers ← many_at handler_at 16 awaited.1
  Some (((mapped.0, awaited.0), handlers.0), handlers.1)

-- the requests and the replies that are queued
unfoldable pub queues_at : List ℕ → Read (List Queued × List Queued)
queues_at bytes = do
  requests ← counted_at message_at bytes
  replies ← counted_at message_at requests.1
  Some ((requests.0, replies.0), replies.1)

-- what came back, and what was received
unfoldable pub arrivals_at : List ℕ → Read (List Notice × List Message)
arrivals_at bytes = do
  notices ← counted_at notice_at bytes
  received ← counted_at received_at notices.1
  Some ((notices.0, received.0), received.1)
