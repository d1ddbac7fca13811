use Rattle.std.proofs.Common.{sym, ◌∙◌, arith}
use Rattle.am_swap_codec.proofs.Decoding.{not_read, not_passed, passed}
use Rattle.am_swap_codec.proofs.lists.BodyLists.decoded.Goals as goal

pub returns-in-Err-NoBody-clause-found : goal.returns-in-Err-NoBody-clause-found
returns-in-Err-NoBody-clause-found c = not_read c.args.id c.args.pool c.args.bytes.now (rw c.in-Err-NoBody.field-0-is at c.in-Err-NoBody.ensures)

pub returns-then-is_valid-clause-found : goal.returns-then-is_valid-clause-found
returns-then-is_valid-clause-found c =
    passed c.args.id c.args.pool c.args.bytes.now c.in-Ok.lists (λ i. omega (arith, c.type_inv.bytes i)) c.in-Ok.ensures (sym c.is_valid.ensures
    ∙ c.if-is_valid.true)

pub returns-else-is_valid-clause-found : goal.returns-else-is_valid-clause-found
returns-else-is_valid-clause-found c =
    not_passed c.args.id c.args.pool c.args.bytes.now c.in-Ok.lists c.in-Ok.ensures (sym c.is_valid.ensures ∙ c.if-is_valid.false)
