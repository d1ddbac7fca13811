-- Of which lists a body can be made.
use Rattle.std.specs.Prelude.{◌≡◌, ℕ, ◌≤◌, Bool, true, Option, []}
use Rattle.std.specs.List.{list_all}
use Rattle.am_names.specs.Names.{is_reply, is_request}
use Rattle.am_endpoint_body.specs.Views.{slots_held}
use Rattle.am_handlers.specs.Handlers.{IsTable as IsHandlers}
use Rattle.am_model.specs.Endpoint.{Body}
use Rattle.am_model.specs.declared.Queued.{Queued}
use Rattle.am_translate.specs.Tables.{IsTable}

abbrev pub is_queued_request : Queued → Bool
is_queued_request q = is_request q.message

abbrev pub is_queued_answer : Queued → Bool
is_queued_answer q = is_reply q.message

-- there are slots for all messages, each queue has its own kind, nothing is in flight, and the tables are sound
pub record CanBeMade (pool : Option ℕ) (b : Body) : Type 0 where
  pub table : IsTable (record { pool = pool; mapped = b.mapped; awaited = b.awaited })
  pub handlers : IsHandlers b.handlers
  pub requests : list_all is_queued_request b.requests ≡ true
  pub answers : list_all is_queued_answer b.replies ≡ true
  pub none_in_flight : b.in_flight ≡ []
  pub room : slots_held b ≤ 80
