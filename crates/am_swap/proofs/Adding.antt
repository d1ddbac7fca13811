-- A body to which messages were added.
use Rattle.std.proofs.Common.{List, ◌++◌}
use Rattle.am_names.specs.declared.Message.{Message}
use Rattle.am_endpoint_body.specs.Views.{View}
use Rattle.am_model.specs.declared.Notice.{Notice}
use Rattle.am_model.specs.declared.Queued.{Queued}

-- the view with these messages behind those of a list

abbrev pub with_requests : View → List Queued → View
with_requests v qs = record v { body = record v.body { requests = v.body.requests ++ qs } }

abbrev pub with_answers : View → List Queued → View
with_answers v qs = record v { body = record v.body { replies = v.body.replies ++ qs } }

abbrev pub with_notices : View → List Notice → View
with_notices v ns = record v { body = record v.body { notices = v.body.notices ++ ns } }

abbrev pub with_received : View → List Message → View
with_received v ms = record v { body = record v.body { received = v.body.received ++ ms } }
