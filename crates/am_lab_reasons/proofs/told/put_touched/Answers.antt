use Rattle.std.proofs.Common.{◌++◌, arith}
use Rattle.am_lemmas.specs.Numbered.{numbered}
use Rattle.am_lab_reasons.specs.Reasons.{touching_lines}
use Rattle.am_lab_reasons.proofs.Naming.{all_told, told_on}
use Rattle.am_lab_reasons.proofs.told.put_touched.Goals as goal

pub loop-entry-preserved : goal.loop-entry-preserved
loop-entry-preserved c =
    let plan = c.args.plan.now in
    let journal = c.args.journal.now in
    let serial = c.args.serial in
    let xs = c.args.entries.now in
    let at = c.loop-entry.invariant.line in
    record {
      line = omega (arith, at);
      out = told_on (touching_lines plan journal serial) xs c.loop-entry.entry-index c.loop-entry.line _ c.loop-entry.out.items
          c.put_touching.new.out.items (c.args.out.now.items ++ numbered (touching_lines plan journal serial) 3 xs) c.loop-entry-test.true
          c.loop-entry.invariant.out c.in_ok-put_touching.ensures;
    }

pub returns : goal.returns
returns c =
    let plan = c.args.plan.now in
    let journal = c.args.journal.now in
    let serial = c.args.serial in
    let xs = c.args.entries.now in
    all_told (touching_lines plan journal serial) xs c.loop-entry.entry-index c.loop-entry.line c.loop-entry.out.items
    (c.args.out.now.items ++ numbered (touching_lines plan journal serial) 3 xs) c.loop-entry-test.false c.loop-entry.invariant.out
