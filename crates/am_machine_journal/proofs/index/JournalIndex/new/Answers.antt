use Rattle.std.proofs.Common.{refl, sym, ◌∙◌}
use Rattle.am_machine_journal.proofs.Growing.{read_none}
use Rattle.am_machine_journal.proofs.index.JournalIndex.new.Goals as goal

pub invariant_of-result : goal.invariant_of-result
invariant_of-result c =
    let links = c.in_ok-packets.packets in
    record { numbers = refl; links = sym links.ok.0 ∙ c.in_ok-packets.ensures.len }

pub returns : goal.returns
returns c =
    let links = c.in_ok-packets.packets in
    record { greatest = refl; read = read_none links.items (sym links.ok.0 ∙ c.in_ok-packets.ensures.len) c.in_ok-packets.ensures.none }
