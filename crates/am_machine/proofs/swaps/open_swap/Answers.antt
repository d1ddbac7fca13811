use Rattle.std.proofs.Common.{◌∙◌, List, ap, false, []}
use Rattle.std.proofs.lemmas.List.{take_all}
use Rattle.am_scenario_types.specs.declared.parts.EndLine.{EndLine}
use Rattle.am_swap_device.specs.Memory.{Store}
use Rattle.am_machine.specs.Presets.{fails_of, preset_all}
use Rattle.am_machine.proofs.Presets.{presets_more}
use Rattle.am_machine.proofs.swaps.open_swap.Goals as goal

pub loop-line-preserved : goal.loop-line-preserved
loop-line-preserved c =
    let none : EndLine = record { id = record { 0 = 0 }; node = record { 0 = 0 }; tag = record { 0 = 0 }; disk = false } in
    let start : Store = record { held = []; fails = fails_of c.args.node c.args.faults.now; calls = 0; faults = 0 } in
    presets_more c.args.node c.args.lines.now c.loop-line.line-index none start c.loop-line.swap c.preset_if.new.swap c.loop-line-test.true
    c.loop-line.invariant c.in_ok-preset_if.ensures

pub returns : goal.returns
returns c =
    let start : Store = record { held = []; fails = fails_of c.args.node c.args.faults.now; calls = 0; faults = 0 } in
    c.loop-line.invariant
    ∙ ap (λ (lines : List EndLine). preset_all c.args.node lines start) (take_all c.loop-line.line-index c.args.lines.now c.loop-line-test.false)
