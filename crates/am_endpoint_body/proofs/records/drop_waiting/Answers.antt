use Rattle.std.proofs.Common.{subst, sym}
use Rattle.am_translate.specs.Tables.{Table, IsTable}
use Rattle.am_endpoint_body.proofs.Gone.{record_gone}
use Rattle.am_endpoint_body.proofs.records.drop_waiting.Goals as goal

pub returns-in-Err-clause-gone : goal.returns-in-Err-clause-gone
returns-in-Err-clause-gone c =
    record_gone c.args.table.now c.give_up.new.self c.args.request c.give_up.result c.give_up.ensures.ok c.give_up.ensures.err c.give_up.ensures.no_request

pub returns-in-Err-clause-table : goal.returns-in-Err-clause-table
returns-in-Err-clause-table c = let P : Table → Type 0 = λ t. IsTable t in subst P (sym c.in-Err.ensures.err) c.requires
