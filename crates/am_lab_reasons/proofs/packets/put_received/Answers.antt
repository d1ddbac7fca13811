use Rattle.std.proofs.Common.{sym}
use Rattle.am_lab_reasons.specs.Packets.{is_received, never, received_lines, received_or}
use Rattle.am_lab_reasons.proofs.Receiving.{put_same, told_never, told_received}
use Rattle.am_lab_reasons.proofs.packets.put_received.Goals as goal

pub returns-in-Some : goal.returns-in-Some
returns-in-Some c =
    let w = c.args.way in
    let xs = c.args.journal.now in
    let plan = c.args.plan.now in
    put_same c.put_lines.result c.put_lines.new.out.items c.args.out.now.items (received_lines xs w.from w.to w.number)
    (received_or (is_received w.from w.to w.number xs) plan xs w.from w.to w.number)
    (told_received w plan xs c.in-Some.first (sym c.in-Some.ensures))
    c.put_lines.ensures

pub returns-in-None : goal.returns-in-None
returns-in-None c =
    let w = c.args.way in
    let xs = c.args.journal.now in
    let plan = c.args.plan.now in
    put_same c.put_never.result c.put_never.new.out.items c.args.out.now.items (never c.fault_at.result)
    (received_or (is_received w.from w.to w.number xs) plan xs w.from w.to w.number)
    (told_never w plan xs c.fault_at.result (sym c.in-None.ensures) c.fault_at.ensures)
    c.put_never.ensures
