use Rattle.std.proofs.Common.{take, arith, subst, sym, ◌++◌, ◌∷◌, [], List}
use Rattle.std.proofs.lemmas.List.{length-take-le}
use Rattle.am_office_entries.specs.declared.Entry.{Entry}
use Rattle.am_office_entries.specs.Logged.Behind.{entries_behind}
use Rattle.am_office_entries.proofs.Entries.{behind_next, length_behind}
use Rattle.am_machine_journal.specs.Index.View.{IsIndexOf}
use Rattle.am_machine_journal.proofs.Growing.{can_count}
use Rattle.am_machine.specs.Node.Packets.{GoesWithin}
use Rattle.am_machine.proofs.Read.{all_behind}
use Rattle.am_machine.proofs.node.journals.index_of.Goals as goal

pub add_entry-requires-clause-within : goal.add_entry-requires-clause-within
add_entry-requires-clause-within c = all_behind GoesWithin c.args.entries.now c.loop-entry.entry-index _ c.requires.within c.loop-entry-test.true

pub add_entry-requires-clause-counts : goal.add_entry-requires-clause-counts
add_entry-requires-clause-counts c =
    let k = c.loop-entry.entry-index in
    let same = length_behind c.args.entries.now in
    let end = c.loop-entry.auto.entry-index-end in
    let few = c.requires.few in
    let part = length-take-le k (entries_behind c.args.entries.now) (omega (arith, same, end)) in
    can_count (take k (entries_behind c.args.entries.now)) c.loop-entry.index.read c.loop-entry.invariant (omega (arith, part, same, few, end))

pub loop-entry-preserved : goal.loop-entry-preserved
loop-entry-preserved c =
    let k = c.loop-entry.entry-index in
    subst (λ (past : List Entry). IsIndexOf past c.add_entry.new.index.read) (sym (behind_next c.args.entries.now k _ c.loop-entry-test.true))
    (c.in_ok-add_entry.ensures (take k (entries_behind c.args.entries.now)) c.loop-entry.invariant)
