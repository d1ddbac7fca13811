use Rattle.am_lab_shrink.proofs.Passing.{shrinks_again}
use Rattle.am_lab_shrink.proofs.shrinks.shrunk_output.Goals as goal

pub returns-clause-text : goal.returns-clause-text
returns-clause-text c = record {
  kept = c.in_ok-kept-2.kept;
  text' = c.in_ok-text.ensures;
  shrinks =
      shrinks_again c.args.making c.args.words.now c.args.lines c.in_ok-kept.kept c.in_ok-kept-2.kept c.in_ok-kept.ensures c.in_ok-kept-2.ensures.shrinks;
  least = c.in_ok-kept-2.ensures.least;
}
