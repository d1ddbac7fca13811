use Rattle.std.proofs.Common.{◌++◌, List, ap, sym, ◌∙◌}
use Rattle.am_office_entries.specs.declared.Entry.{Entry}
use Rattle.am_machine_journal.specs.Merge.Slots.{standing_at}
use Rattle.am_machine_journal.proofs.Placed.{standing_more}
use Rattle.am_machine_journal.proofs.merge.slots.all_standing.Goals as goal

pub loop-place-preserved : goal.loop-place-preserved
loop-place-preserved c =
    record {
      count = c.loop-place.invariant.count;
      read =
          c.in_ok-add.ensures ∙ ap (λ (l : List Entry). l ++ standing_at c.args.slots.now c.loop-place.place) c.loop-place.invariant.read
          ∙ sym (standing_more c.args.slots.now c.loop-place.place c.loop-place-test.true);
    }
