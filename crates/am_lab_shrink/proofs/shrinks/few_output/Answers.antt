use Rattle.std.proofs.Common.{sym, ◌∙◌}
use Rattle.am_lab_shrink.proofs.Shrunk.{all_have, shrunk_told}
use Rattle.am_main_lines.specs.Lines.{answer_in}
use Rattle.am_lab_shrink.proofs.shrinks.few_output.Goals as goal

pub shrunk_output-requires : goal.shrunk_output-requires
shrunk_output-requires c =
    all_have c.args.making c.args.words.now c.args.text.now c.args.lines (answer_in c.in_ok-first.first) c.requires.lines c.in_ok-first.ensures.answers
    c.in_ok-first.ensures.only (sym c.shows.ensures ∙ c.if-not-shows.false)

pub returns : goal.returns
returns c =
    shrunk_told c.args.making c.args.words.now c.args.text.now c.args.lines (answer_in c.in_ok-first.first) c.shrunk_output.result c.requires.lines
    c.requires.few c.in_ok-first.ensures.answers c.in_ok-first.ensures.only (sym c.shows.ensures ∙ c.if-not-shows.false) c.shrunk_output.ensures.status
    c.shrunk_output.ensures.text
