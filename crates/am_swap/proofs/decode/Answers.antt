use Rattle.am_swap.proofs.Decoding.{finds_each, found_lists, some_has, some_reads}
use Rattle.am_swap.proofs.Making.{can_be_made}
use Rattle.am_swap.proofs.decode.Goals as goal

pub body_of-requires : goal.body_of-requires
body_of-requires c =
    can_be_made c.args.id c.args.pool c.in-Some.lists (found_lists c.args.id c.args.pool c.args.bytes.now c.in_ok-decoded.field-0 c.in-Some.lists c.in-Some.is
    c.in_ok-decoded.ensures.found).1

pub returns-in_ok-body_of-in-Some-clause-each : goal.returns-in_ok-body_of-in-Some-clause-each
returns-in_ok-body_of-in-Some-clause-each c =
    finds_each c.args.id c.args.pool c.args.bytes.now c.in-Some.lists c.in_ok-body_of-in-Some.field-0
    (found_lists c.args.id c.args.pool c.args.bytes.now c.in_ok-decoded.field-0 c.in-Some.lists c.in-Some.is c.in_ok-decoded.ensures.found)
    c.in_ok-body_of-in-Some.ensures

pub returns-in_ok-body_of-in-Some-clause-none : goal.returns-in_ok-body_of-in-Some-clause-none
returns-in_ok-body_of-in-Some-clause-none c =
    some_has c.args.id c.args.pool c.args.bytes.now c.in-Some.lists c.in_ok-body_of-in-Some.field-0
    (found_lists c.args.id c.args.pool c.args.bytes.now c.in_ok-decoded.field-0 c.in-Some.lists c.in-Some.is c.in_ok-decoded.ensures.found)

pub returns-in_err-body_of-in-Some-clause-no_memory : goal.returns-in_err-body_of-in-Some-clause-no_memory
returns-in_err-body_of-in-Some-clause-no_memory c =
    some_reads c.from_residual-in_err-body_of-in-Some.result c.args.id c.args.pool c.args.bytes.now c.in-Some.lists
    (found_lists c.args.id c.args.pool c.args.bytes.now c.in_ok-decoded.field-0 c.in-Some.lists c.in-Some.is c.in_ok-decoded.ensures.found)
