use Rattle.std.proofs.Common.{◌++◌}
use Rattle.std.specs.List.{flat_map}
use Rattle.am_lexer.specs.Text.{words_of}
use Rattle.am_lab_reasons.specs.Refusals.Stands.{word_if}
use Rattle.am_lab_reasons.proofs.Naming.{all_put, first_put}
use Rattle.am_lab_reasons.proofs.refusals.words.put_words.Goals as goal

pub loop-word-preserved : goal.loop-word-preserved
loop-word-preserved c =
    let a = c.args in
    first_put (word_if a.form a.number a.front.now) (words_of c.loop-word.rest.now) (words_of c.in-Some.after.now) c.in-Some.word.now c.loop-word.out.items
    c.put_if.new.out.items (a.out.now.items ++ flat_map (word_if a.form a.number a.front.now) (words_of a.words.now)) c.in-Some.ensures.first
    c.loop-word.invariant c.in_ok-put_if.ensures

pub returns : goal.returns
returns c =
    let a = c.args in
    all_put (word_if a.form a.number a.front.now) (words_of c.loop-word.rest.now) c.loop-word.out.items
    (a.out.now.items ++ flat_map (word_if a.form a.number a.front.now) (words_of a.words.now)) c.in_default.ensures.first c.loop-word.invariant
