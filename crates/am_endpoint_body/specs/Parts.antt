-- A body of its counts and tables.
use Rattle.std.specs.Prelude.{ℕ, Option, List}
use Rattle.am_names.specs.declared.Tag.{Tag}
use Rattle.am_office_entries.specs.declared.HandlerKind.{HandlerKind}
use Rattle.am_office_entries.specs.declared.Place.TheVariants.{Host}
use Rattle.am_model.specs.Endpoint.{Body, fresh}
use Rattle.am_translate.specs.Tables.{Table}

-- the body that has these counts and tables, and no message
abbrev pub bare_body : Tag → ℕ → ℕ → Table → List (Option HandlerKind) → Body
bare_body tag sum accepted t handlers =
    record (fresh tag Host).body { sum = sum; accepted = accepted; mapped = t.mapped; awaited = t.awaited; handlers = handlers }
