use Rattle.std.proofs.Common.{◌+◌, arith, length-take}
use Rattle.am_io.proofs.Parts.{took_then}
use Rattle.am_io.proofs.whole.take_parts.Goals as goal

pub returns-in-Err-clause-took : goal.returns-in-Err-clause-took
returns-in-Err-clause-took g c =
    took_then (g.S.Source.left c.args.source.now) (g.S.Source.left c.loop-bytes.source) (g.S.Source.left c.one_part.new.source) c.loop-bytes.bytes.items
    (c.args.most + 1) _
    c.loop-bytes.invariant.taken c.in-Err.ensures.took (omega (
      arith,
      c.min-room.ensures,
      c.len-in-loop-bytes.ensures,
      c.loop-bytes-test.true,
      length-take c.min-room.result c.loop-bytes.part,
    ))
