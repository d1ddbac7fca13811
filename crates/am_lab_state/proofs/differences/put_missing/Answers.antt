use Rattle.std.proofs.Common.{◌++◌, refl}
use Rattle.am_lexer.specs.Text.{lines_of}
use Rattle.am_lab_state.specs.Differences.{lines_missing, marked_line}
use Rattle.am_lab_reasons.proofs.Naming.{all_put, first_put}
use Rattle.am_lab_state.proofs.differences.put_missing.Goals as goal

pub loop-line-init : goal.loop-line-init
loop-line-init c = record { near = λ line h. h; out = refl }

pub loop-line-preserved : goal.loop-line-preserved
loop-line-preserved c =
    let mark = c.args.mark.now in
    let other = c.args.other.now in
    record {
      near = c.in_ok-near.ensures.part;
      out = first_put (marked_line mark other) (lines_of c.loop-line.rest.now) (lines_of c.in-Some.after.now) c.in-Some.line.now c.loop-line.out.items
          c.put_unless.new.out.items (c.args.out.now.items ++ lines_missing mark other c.args.text.now) c.in-Some.ensures.first c.loop-line.invariant.out
          c.in_ok-near.ensures.put;
    }

pub returns : goal.returns
returns c =
    let mark = c.args.mark.now in
    let other = c.args.other.now in
    all_put (marked_line mark other) (lines_of c.loop-line.rest.now) c.loop-line.out.items
    (c.args.out.now.items ++ lines_missing mark other c.args.text.now) c.in_default.ensures.first c.loop-line.invariant.out
