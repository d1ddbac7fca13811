use Rattle.std.proofs.Common.{List, map, ap, ◌∙◌}
use Rattle.std.proofs.lemmas.List.{take_all}
use Rattle.am_scenario_types.specs.declared.parts.EndLine.{EndLine}
use Rattle.am_machine.specs.Beginnings.{opened}
use Rattle.am_machine.proofs.Beginnings.{opened_more}
use Rattle.am_machine.proofs.opening.open_ends.Goals as goal

pub loop-line-preserved : goal.loop-line-preserved
loop-line-preserved c = opened_more c.args.settings.now c.args.lines.now c.loop-line.line-index _ c.loop-line.ends.items c.push.new.self.items c.in_ok-end.end
    c.loop-line-test.true c.loop-line.invariant c.in_ok-end.ensures c.in-Ok.ensures.items

pub returns : goal.returns
returns c =
    c.loop-line.invariant
    ∙ ap (λ (lines : List EndLine). map (opened c.args.settings.now) lines) (take_all c.loop-line.line-index c.args.lines.now c.loop-line-test.false)
