use Rattle.std.proofs.Common.{◌≡◌, ◌++◌, length, map}
use Rattle.am_check_lines.specs.Grammar.{printed}
use Rattle.am_lexer.specs.Text.{lines_of}
use Rattle.am_check.specs.Follows.{IsBegun}
use Rattle.am_check.proofs.lines.check_lines.Given as goal

abbrev pub invariant-loop-place : goal.invariant-loop-place
invariant-loop-place g l =
    let f = g.F.Follower in
    record {
      scenario : f.scenario l.follower ≡ f.scenario l.fn.follower;
      count : length (f.journal l.follower) ≡ l.place;
      begun : IsBegun f.form (f.scenario l.fn.follower) (f.journal l.follower);
      lines : lines_of l.lines ≡ map printed (f.journal l.follower) ++ lines_of l.rest;
    }
