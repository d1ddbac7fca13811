use Rattle.std.proofs.Common.{sym, ◌∙◌, arith}
use Rattle.am_job.proofs.Parted.{long_few, parts_all, parts_byte, parts_gap}
use Rattle.am_job.proofs.words.texts.split.Goals as goal
use Rattle.am_job.proofs.words.texts.split.Goals.{then-is_gap+in_ok-take_run, else-is_gap}

pub loop-i-preserved : goal.loop-i-preserved
loop-i-preserved c = elim c.if-is_gap.branch [
  | then-is_gap+in_ok-take_run w ↦
      let gap = sym c.is_gap.ensures ∙ w.if-is_gap.true in
      let told = w.in_ok-take_run.ensures in
      rw (w.found-is, w.start-is)
      (record {
        parts = parts_gap c.args.text.now w.run_between.result.now c.loop-i.found.sent.items w.take_run.new.found.sent.items c.loop-i.found.long
            w.take_run.new.found.long c.loop-i.start c.loop-i.i c.loop-i-test.true gap w.run_between.ensures told.sent told.long
            c.loop-i.invariant.parts;
        from = omega arith;
        few = omega (arith, told.long, long_few w.run_between.result.now, c.loop-i.invariant.few);
        fit = told.fit c.loop-i.invariant.fit;
      })
  | else-is_gap w ↦
      let on = sym c.is_gap.ensures ∙ w.if-is_gap.false in
      rw (w.found-is, w.start-is)
      (record {
        parts = parts_byte c.args.text.now c.loop-i.found.sent.items c.loop-i.found.long c.loop-i.start c.loop-i.i c.loop-i.invariant.from c.loop-i-test.true on
            c.loop-i.invariant.parts;
        from = omega (arith, c.loop-i.invariant.from);
        few = omega (arith, c.loop-i.invariant.few);
        fit = c.loop-i.invariant.fit;
      })
]

pub returns-clause-sent : goal.returns-clause-sent
returns-clause-sent c =
    (parts_all c.args.text.now c.rest_from.result.now c.loop-i.found.sent.items c.take_run-2.new.found.sent.items c.loop-i.found.long
    c.take_run-2.new.found.long c.loop-i.start c.loop-i.i c.loop-i-test.false c.rest_from.ensures c.in_ok-take_run-2.ensures.sent
    c.in_ok-take_run-2.ensures.long c.loop-i.invariant.parts).0

pub returns-clause-long : goal.returns-clause-long
returns-clause-long c =
    (parts_all c.args.text.now c.rest_from.result.now c.loop-i.found.sent.items c.take_run-2.new.found.sent.items c.loop-i.found.long
    c.take_run-2.new.found.long c.loop-i.start c.loop-i.i c.loop-i-test.false c.rest_from.ensures c.in_ok-take_run-2.ensures.sent
    c.in_ok-take_run-2.ensures.long c.loop-i.invariant.parts).1
