use Rattle.std.proofs.Common.{◌<◌, ◌∙◌, sym, arith, rules}
use Rattle.std.specs.BinaryHeap.{heap_items, heap_len}
use Rattle.am_machine_journal.proofs.Firsts.{replaced_first}
use Rattle.am_machine_journal.proofs.merge.heads.first_with.Goals as goal

pub returns-in-Some-clause-first : goal.returns-in-Some-clause-first
returns-in-Some-clause-first c = λ order.
    let some : 0 < heap_len c.args.heads.now = search rules in
    let items = c.args.heads.now.data.ok.0 in
    replaced_first c.args.head c.in-Some.least.now.0 c.replaced.result (heap_items c.args.heads.now) (heap_items c.replaced.new.heads) (sym c.is_after.ensures
    ∙ c.if-is_after.true)
    (0, omega (arith, some, items), sym c.in-Some.ensures.lookup)
    (c.replaced.ensures.first order)
    c.replaced.ensures.same
