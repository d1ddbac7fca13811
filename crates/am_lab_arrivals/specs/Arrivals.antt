-- The lines of the messages that an endpoint received.
use Rattle.std.specs.Prelude.{ℕ, List, [], ◌∷◌, codes}
use Rattle.std.specs.Fmt.{decimal}
use Rattle.am_names.specs.declared.EndpointId.{EndpointId}
use Rattle.am_names.specs.declared.Message.{Message}
use Rattle.am_office_text.specs.Words.{Word, kind, line, serial}

-- a line of an endpoint, with what is told of it
abbrev pub end_line : EndpointId → List Word → List ℕ
end_line e words = line (codes "endpoint") (decimal e.0 ∷ words)

-- a message that was received and not polled
abbrev pub received_line : EndpointId → Message → List ℕ
received_line e m = end_line e (codes "received" ∷ kind m.kind ∷ serial m.serial ∷ [])
