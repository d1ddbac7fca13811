use Rattle.std.proofs.Common.{[], List, Option, ap, sym, subst, ◌∙◌}
use Rattle.std.specs.Borrow.{Bor}
use Rattle.am_office_entries.specs.declared.Entry.{Entry}
use Rattle.am_machine_journal.specs.Merge.Joined.{lists_of}
use Rattle.am_machine_journal.specs.Merge.Slots.{IsFilled, all_standing}
use Rattle.am_machine_journal.proofs.Placed.{lent, none_filled, standing_merged}
use Rattle.am_machine_journal.proofs.merge.slots.by_stamp.Goals as goal

pub returns : goal.returns
returns c =
    let back = c.put_logs.new.slots in
    let none = subst (λ (slots : List (Option (Bor Entry))). IsFilled [] slots) (sym c.deref_mut.ensures.value)
    (none_filled c.in_ok-slots.slots.items c.in_ok-slots.ensures) in
    c.in_ok-all_standing.ensures ∙ ap all_standing (c.deref.ensures.value ∙ lent c.in_ok-slots.slots.len back _ (c.put_logs.auto.slots
    ∙ c.deref_mut.ensures.len))
    ∙ standing_merged (lists_of c.args.logs.now) back (c.put_logs.ensures c.if-not-put_logs.false none)
