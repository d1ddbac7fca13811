use Rattle.std.proofs.Common.{List, ap, refl, subst, sym, ◌∙◌}
use Rattle.am_model.specs.declared.Awaited.{Awaited}
use Rattle.am_model.specs.Changes.{without_waiting}
use Rattle.am_translate.specs.Tables.{Table, IsTable, with_awaited}
use Rattle.am_endpoint_body.proofs.Gone.{waits_or_not}
use Rattle.am_endpoint_body.proofs.records.drop_record.Goals as goal

pub returns-in-Err-clause-gone : goal.returns-in-Err-clause-gone
returns-in-Err-clause-gone c =
    c.drop_waiting.ensures.gone
    ∙ ap (λ (t : Table). with_awaited t (without_waiting c.args.request t.awaited)) c.in-Err.ensures.err
    ∙ ap (λ (xs : List Awaited). with_awaited c.args.table.now xs) (waits_or_not c.args.request c.args.table.now.awaited (c.in-Err.ensures.no_request.0 refl))

pub drop_waiting-requires : goal.drop_waiting-requires
drop_waiting-requires c = let P : Table → Type 0 = λ t. IsTable t in subst P (sym c.in-Err.ensures.err) c.requires
