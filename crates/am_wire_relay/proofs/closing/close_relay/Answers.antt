use Rattle.std.proofs.Common.{◌∙◌}
use Rattle.rtrb.specs.Ring.{known_items, received as taken}
use Rattle.am_wire_relay.proofs.Parts.{first_part}
use Rattle.am_wire_relay.proofs.closing.close_relay.Goals as goal

pub returns-clause-received : goal.returns-clause-received
returns-clause-received g c =
    let s = c.slots_beside-known in
    let o = c.args.out in
    c.truncate.ensures.items
    ∙ first_part (taken s.new.self) (known_items s.new.self) o.released.items o.pumped s.result
    (s.ensures.fifo ∙ s.ensures.producer.1 ∙ o.moved)
    o.within s.ensures.value
    ∙ s.ensures.looked.1
