-- The table that the fields stand for.
use Rattle.am_translate.specs.Tables.{Table}
use Rattle.am_translate.specs.declared.Translate.TheInside.{Inside}

abbrev pub table_in : Inside → Table
table_in t = record { pool = t.pool; mapped = t.mapped; awaited = t.awaited }
