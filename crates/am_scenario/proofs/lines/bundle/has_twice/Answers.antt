use Rattle.std.proofs.Common.{sym, ◌∙◌}
use Rattle.am_scenario.proofs.Members.{none_twice}
use Rattle.am_scenario.proofs.lines.bundle.has_twice.Goals as goal

pub returns : goal.returns
returns c = sym (none_twice c.loop-first.rest.now c.in_default.ensures.cases) ∙ c.loop-first.invariant
