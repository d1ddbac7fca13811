use Rattle.std.proofs.Common.{List, map, refl, sym, ap, ◌∙◌, subst}
use Rattle.am_office_entries.specs.declared.Entry.{Entry}
use Rattle.am_machine_journal.specs.Merge.Joined.{AreOne, lists_of}
use Rattle.am_model_merge.specs.Logs.{IsRising}
use Rattle.am_model_merge.specs.Merged.{entries_of}
use Rattle.am_model.specs.Layout.{AllAre}
use Rattle.am_driver_moves.specs.Logs.{kept}
use Rattle.am_machine.specs.Kept.{journal_by, layout_in, logs_in}
use Rattle.am_machine.proofs.Merging.{logs_one, logs_rise}
use Rattle.am_machine.proofs.Cluster.journal.Goals as goal

pub join-requires-clause-rising : goal.join-requires-clause-rising
join-requires-clause-rising c =
    let i = c.self.inside in
    let es = map kept i.ends.items in
    let rise = logs_rise (layout_in i.settings i.faults.items es) es (journal_by es i.interfaces.items) i.interfaces.items i.swaps.items refl
    c.self.invariant.kept' in
    let same = ap lists_of c.deref-3.ensures.value ∙ c.in_ok-logs.ensures ∙ λ k. logs_in (map kept (c.deref.ensures.value k)) (c.deref-2.ensures.value k) in
    subst (AllAre IsRising) (sym same) rise

pub join-requires-clause-one : goal.join-requires-clause-one
join-requires-clause-one c =
    let i = c.self.inside in
    let es = map kept i.ends.items in
    let one = logs_one (layout_in i.settings i.faults.items es) es (journal_by es i.interfaces.items) i.interfaces.items i.swaps.items refl
    c.self.invariant.kept' in
    let same = ap lists_of c.deref-3.ensures.value ∙ c.in_ok-logs.ensures ∙ λ k. logs_in (map kept (c.deref.ensures.value k)) (c.deref-2.ensures.value k) in
    subst (λ (logs : List (List Entry)). AreOne (entries_of logs)) (sym same) one
