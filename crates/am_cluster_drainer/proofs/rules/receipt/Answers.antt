use Rattle.std.proofs.Common.{◌∙◌, ap}
use Rattle.std.specs.Prelude.{option_map}
use Rattle.am_model_scripts.specs.Links.{receipt}
use Rattle.am_model_drain.specs.declared.Turn.TheVariants as Turns
use Rattle.am_cluster_drainer.proofs.Firsts.{receipt_first, receipt_none}
use Rattle.am_cluster_drainer.proofs.rules.receipt.Goals as goal

pub returns-in_err-node-clause-turn : goal.returns-in_err-node-clause-turn
returns-in_err-node-clause-turn g c =
    let m = g.M.Drainable in
    let s = m.scenario c.args.machine.now in
    let past = m.journal c.args.machine.now in
    c.from_residual.ensures ∙ ap (option_map Turns.Once) (receipt_none s past c.in_err-node.ensures)

pub returns-clause-turn : goal.returns-clause-turn
returns-clause-turn g c =
    let m = g.M.Drainable in
    let s = m.scenario c.args.machine.now in
    let past = m.journal c.args.machine.now in
    let pair = c.in_ok-node.field-0 in
    ap (option_map Turns.Once) (ap (receipt pair.node pair.peer) c.in_ok-number.ensures.value ∙ receipt_first s past pair c.in_ok-node.ensures)
