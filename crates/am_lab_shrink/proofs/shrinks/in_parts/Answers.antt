use Rattle.am_lab_shrink.proofs.Passing.{all_stay, shrinks_again}
use Rattle.am_lab_shrink.proofs.shrinks.in_parts.Goals as goal

pub loop-size-init : goal.loop-size-init
loop-size-init c = all_stay c.args.making c.args.words.now c.args.lines c.requires

pub loop-size-preserved : goal.loop-size-preserved
loop-size-preserved c =
    shrinks_again c.args.making c.args.words.now c.args.lines c.loop-size.kept c.in_ok-kept.kept c.loop-size.invariant c.in_ok-kept.ensures.shrinks
