-- What the lines of a scenario declare.
use Rattle.std.specs.Prelude.{Bool, ◌==◌, List}
use Rattle.std.specs.List.{list_any}
use Rattle.am_names.specs.declared.EndpointId.{EndpointId}
use Rattle.am_scenario_types.specs.declared.parts.EndLine.{EndLine}

-- whether one of these lines declares an endpoint
abbrev pub declares : EndpointId → List EndLine → Bool
declares e lines = list_any (λ (line : EndLine). e.0 == line.id.0) lines
