-- What a handler sends back, and what a reply that runs makes of a body.
use Rattle.std.specs.Prelude.{ℕ, Option, None, Some}
use Rattle.am_names.specs.declared.Message.{Message}
use Rattle.am_names.specs.declared.Words.{Words}
use Rattle.am_office_entries.specs.declared.HandlerKind.{HandlerKind}
use Rattle.am_handlers.specs.Handlers.{reply_of}
use Rattle.am_model.specs.Calls.{sum_after}
use Rattle.am_model.specs.Changes.{kind_run, without_record}
use Rattle.am_model.specs.Endpoint.{Body}

-- the handler that the reply is for and its words, where a handler of this kind makes one
abbrev pub made_by : Option HandlerKind → Words → ℕ → Option (ℕ × Words)
made_by None words sum = None
made_by (Some kind) words sum = reply_of kind words sum

-- a reply or an empty reply runs, which is no more among the received messages
abbrev pub reply_ran : Message → Option ℕ → Body → Body
reply_ran m handler b =
    record b { awaited = without_record m.about b.awaited; sum = sum_after (kind_run b.handlers handler) m.words b.sum }
