use Rattle.std.proofs.Common.{◌≡◌, ℕ, List, ◌++◌, subst}
use Rattle.std.specs.Option.{option_copied}
use Rattle.std.specs.Prelude.{OnOk}
use Rattle.am_lab_state.proofs.Reading.{mark_told}
use Rattle.am_lab_state.proofs.channels.put_receiving.Goals as goal

pub returns : goal.returns
returns c =
    let i = c.args.iface.now in
    subst (λ (t : List ℕ). OnOk c.put_mark.result (c.put_mark.new.out.items ≡ c.args.out.now.items ++ t))
    (mark_told c.node-node.result i.settings.node c.args.peer c.args.number (option_copied c.last_decision-last.result) c.log.result.now i.log
    c.node-node.ensures c.log.ensures.log c.last_decision-last.ensures)
    c.put_mark.ensures
