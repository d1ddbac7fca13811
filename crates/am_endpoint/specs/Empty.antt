-- Bodies with nothing to send, and with nothing to poll.
use Rattle.std.specs.Prelude.{◌≡◌, []}
use Rattle.am_model.specs.Endpoint.{Body}

-- neither a reply nor a request is queued
abbrev pub HasNoQueued : Body → Type 0
HasNoQueued b = (b.replies ≡ []) × (b.requests ≡ [])

-- there is neither a notice nor a received message
abbrev pub HasNoArrivals : Body → Type 0
HasNoArrivals b = (b.notices ≡ []) × (b.received ≡ [])
