use Rattle.am_lab_shrink.proofs.Passing.{all_stay, shrinks_again}
use Rattle.am_lab_shrink.proofs.shrinks.least.Goals as goal

pub loop-kept-init : goal.loop-kept-init
loop-kept-init c = all_stay c.args.making c.args.words.now c.args.lines c.requires

pub loop-kept-preserved : goal.loop-kept-preserved
loop-kept-preserved c =
    shrinks_again c.args.making c.args.words.now c.args.lines c.loop-kept.kept c.in_ok-kept.kept c.loop-kept.invariant c.in_ok-kept.ensures.shrinks

pub returns-then-len-before-clause-shrinks : goal.returns-then-len-before-clause-shrinks
returns-then-len-before-clause-shrinks c =
    shrinks_again c.args.making c.args.words.now c.args.lines c.loop-kept.kept c.in_ok-kept.kept c.loop-kept.invariant c.in_ok-kept.ensures.shrinks
