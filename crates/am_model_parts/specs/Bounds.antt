-- The bounds of an endpoint's lists, as numbers.
use Rattle.std.specs.Prelude.{◌≤◌, length, count_by}
use Rattle.am_names.specs.Names.{is_request, is_reply}
use Rattle.am_model.specs.Endpoint.{Body, requests_held, replies_held}
use Rattle.am_model.specs.Calls.{messages_held}

-- an endpoint holds at most 16 request slots and 16 reply slots, so 32 own messages in all; it has at most 32 records; and
-- it has received at most 16 requests and 32 replies that it did not run
pub record IsBounded (b : Body) : Type 0 where
  pub requests : requests_held b ≤ 16
  pub replies : replies_held b ≤ 16
  pub messages : messages_held b ≤ 32
  pub records : length b.awaited ≤ 32
  pub received_requests : count_by is_request b.received ≤ 16
  pub received_replies : count_by is_reply b.received ≤ 32
  pub received : length b.received ≤ 48
