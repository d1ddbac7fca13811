use Rattle.std.proofs.Common.{◌≡◌, ◌-◌, ◌++◌, take}
use Rattle.std.specs.List.{flat_map}
use Rattle.std.specs.Prelude.{slice_get}
use Rattle.am_lexer.specs.Text.{lines_of}
use Rattle.am_lab_reasons.specs.Refusals.Lines.{ended, lines_before}
use Rattle.am_lab_reasons.proofs.refusals.cuts.cut_at.Given as goal

abbrev pub invariant-loop-left : goal.invariant-loop-left
invariant-loop-left l = record {
  before : l.before.items ++ flat_map ended (take l.left (lines_of l.rest)) ≡ lines_before l.number l.text;
  line : slice_get (lines_of l.rest) l.left ≡ slice_get (lines_of l.text) (l.number - 1);
}

abbrev pub decreases-loop-left : goal.decreases-loop-left
decreases-loop-left l = l.left
