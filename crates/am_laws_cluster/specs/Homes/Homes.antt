-- Where messages come from and where they go.
use Rattle.std.specs.Prelude.{◌≡◌, true, ◌&&◌, List}
use Rattle.am_names.specs.declared.EndpointId.{EndpointId}
use Rattle.am_names.specs.declared.Message.{Message}
use Rattle.am_office_entries.specs.declared.Entry.{Entry}
use Rattle.am_model.specs.Endpoint.{is_direct}
use Rattle.am_model.specs.History.{state_of}
use Rattle.am_model.specs.Layout.{Layout, declared}

-- the message comes from a declared endpoint and goes to one
pub record IsAddressed (layout : Layout) (m : Message) : Type 0 where
  pub source : declared layout m.serial.source ≡ true
  pub dest : declared layout m.dest ≡ true

-- an endpoint's place is that of the direct network exactly where the cluster is one and declares the endpoint
abbrev pub FitsNetwork : Layout → List Entry → Type 0
FitsNetwork layout past = (e : EndpointId) → is_direct (state_of layout past e).head.place ≡ (layout.direct && declared layout e)
