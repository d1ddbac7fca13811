use Rattle.am_swap.proofs.Encoding.{is_short, no_other}
use Rattle.am_swap.proofs.encode.Goals as goal

pub returns-clause-own : goal.returns-clause-own
returns-clause-own c =
    no_other c.written.result c.in_ok-lists.lists c.args.body.now.body c.args.body.now.pool c.in_ok-lists.ensures.lists c.written.ensures

pub returns-clause-short : goal.returns-clause-short
returns-clause-short c =
    is_short c.written.result c.in_ok-lists.lists c.args.body.now.body c.args.body.now.pool c.in_ok-lists.ensures.lists c.written.ensures
