use Rattle.am_swap_image.specs.Reading.{many_at}
use Rattle.am_swap_pieces.specs.Answers.{behind}
use Rattle.am_swap_pieces.proofs.Loop.{passes_on, passes_none, has_passed}
use Rattle.am_swap_pieces.proofs.many.pass_many.Goals as goal

pub returns-in-None : goal.returns-in-None
returns-in-None g c =
    let at = g.P.ImagePart.at c.args.id in
    passes_none at c.args.count c.loop-number.number c.loop-number.rest.now (behind (many_at at c.args.count c.args.bytes.now))
    c.loop-number-test.true c.in-None.ensures c.loop-number.invariant

pub loop-number-preserved : goal.loop-number-preserved
loop-number-preserved g c =
    let at = g.P.ImagePart.at c.args.id in
    passes_on at c.args.count c.loop-number.number c.loop-number.rest.now c.in-Some.field-0-0 c.in-Some.after.now
    (behind (many_at at c.args.count c.args.bytes.now)) c.loop-number-test.true c.in-Some.ensures c.loop-number.invariant

pub returns : goal.returns
returns g c =
    let at = g.P.ImagePart.at c.args.id in
    has_passed at c.args.count c.loop-number.number c.loop-number.rest.now (behind (many_at at c.args.count c.args.bytes.now))
    c.loop-number-test.false c.loop-number.invariant
