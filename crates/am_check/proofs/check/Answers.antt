use Rattle.std.proofs.Common.{arith}
use Rattle.am_check.specs.Exact.{FitsMemory}
use Rattle.am_check.proofs.check.Goals as goal

pub returns : goal.returns
returns c =
    let text = c.args.text.now in
    let fits : FitsMemory text = omega arith in
    record {
      answer = c.checked.ensures;
      exact = c.answers_are_exact.ensures.exact c.args.form text c.checked.result fits c.checked.ensures;
      only = c.answers_are_exact.ensures.one c.args.form text c.checked.result fits c.checked.ensures;
    }
