use Rattle.am_swap_image.specs.Reading.{many_at}
use Rattle.am_swap_pieces.proofs.Loop.{goes_on, ends, is_done}
use Rattle.am_swap_pieces.proofs.many.take_many.Goals as goal

pub returns-in-None : goal.returns-in-None
returns-in-None g c =
    let at = g.P.ImagePart.at c.args.id in
    ends at c.loop-number.parts.items c.args.count c.loop-number.number c.loop-number.rest.now (many_at at c.args.count c.args.bytes.now)
    c.loop-number-test.true c.in-None.ensures c.loop-number.invariant

pub loop-number-preserved : goal.loop-number-preserved
loop-number-preserved g c =
    let at = g.P.ImagePart.at c.args.id in
    rw c.in-Ok.ensures.items
    (goes_on at c.loop-number.parts.items c.args.count c.loop-number.number c.loop-number.rest.now c.in-Some.part c.in-Some.after.now
    (many_at at c.args.count c.args.bytes.now) c.loop-number-test.true c.in-Some.ensures c.loop-number.invariant)

pub returns : goal.returns
returns g c =
    let at = g.P.ImagePart.at c.args.id in
    is_done at c.loop-number.parts.items c.args.count c.loop-number.number c.loop-number.rest.now (many_at at c.args.count c.args.bytes.now)
    c.loop-number-test.false c.loop-number.invariant
