use Rattle.std.proofs.Common.{◌≡◌, ◌++◌, List, ap, ◌∙◌, subst, sym}
use Rattle.std.specs.Prelude.{IfOk}
use Rattle.std.proofs.lemmas.List.{take_all}
use Rattle.am_office_entries.specs.declared.Entry.{Entry}
use Rattle.am_model_merge.specs.Logs.{IsRising}
use Rattle.am_model_merge.specs.Merged.{entries_of, merged}
use Rattle.am_model.specs.Layout.{AllAre}
use Rattle.am_machine_journal.specs.Merge.Joined.{AreOne, lists_of}
use Rattle.am_machine.specs.declared.node.NodePart.{NodePart}
use Rattle.am_machine.specs.Node.Parts.{all_logs, logs_of_part}
use Rattle.am_machine.proofs.NodeLogs.{logs_more}
use Rattle.am_machine.proofs.node.journals.journal_of.Goals as goal
use Rattle.am_machine.proofs.node.journals.journal_of.Goals.{After-deref}

pub loop-part-preserved : goal.loop-part-preserved
loop-part-preserved c =
    c.in_ok-add_logs.ensures ∙ ap (λ (l : List (List Entry)). l ++ logs_of_part c.part-item.result) c.loop-part.invariant
    ∙ sym (logs_more c.args.parts.now c.loop-part.part-index c.part-item.result c.loop-part-test.true c.part-item.is)

-- the logs that were added are those of all parts
all_added : (c : After-deref) → lists_of c.deref.result.now ≡ all_logs c.args.parts.now
all_added c =
    ap lists_of c.deref.ensures.value ∙ c.loop-part.invariant
    ∙ ap (λ (parts : List NodePart). all_logs parts) (take_all c.loop-part.part-index c.args.parts.now c.loop-part-test.false)

pub join-requires-clause-rising : goal.join-requires-clause-rising
join-requires-clause-rising c = subst (AllAre IsRising) (sym (all_added c)) c.requires.rising

pub join-requires-clause-one : goal.join-requires-clause-one
join-requires-clause-one c = subst (λ (logs : List (List Entry)). AreOne (entries_of logs)) (sym (all_added c)) c.requires.one

pub returns : goal.returns
returns c =
    let a = (goal.at.returns c).After-deref in
    subst (λ (logs : List (List Entry)). IfOk c.join.result (λ (journal : List Entry). journal ≡ merged logs)) (all_added a) c.join.ensures
