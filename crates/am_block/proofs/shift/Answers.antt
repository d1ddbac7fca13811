use Rattle.std.proofs.Common.{arith, ◌-◌, ap, ◌∙◌}
use Rattle.am_block.specs.Lengths.{length_of}
use Rattle.am_block.proofs.Afters.{few_with}
use Rattle.am_block.proofs.shift.Goals as goal

pub overflow_add-more : goal.overflow_add-more
overflow_add-more c =
    let a = c.requires.few c.args.from in
    let e = c.of-more.ensures ∙ ap (λ l. length_of l c.args.to) c.set.ensures in
    let o = c.of-fewer.ensures in
    let b = few_with c.args.lengths.now c.args.from (c.of-fewer.result - 1) c.args.to (omega arith) (c.requires.few c.args.to) in
    omega arith
