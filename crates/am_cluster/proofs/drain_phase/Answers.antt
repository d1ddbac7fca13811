use Rattle.std.proofs.Common.{◌∙◌, List, subst, sym}
use Rattle.am_office_entries.specs.declared.Entry.{Entry}
use Rattle.am_model_drain.specs.Cut.{IsDrainCutOff}
use Rattle.am_cluster.proofs.Obeying.{handed_cut_off, handed_obeys, handed_whole}
use Rattle.am_cluster.proofs.drain_phase.Goals as goal

pub returns-in-Ok-clause-whole : goal.returns-in-Ok-clause-whole
returns-in-Ok-clause-whole c =
    handed_whole c.args.scenario.now c.args.cluster.journal c.drain_cluster-drained.new.cluster.journal c.of-journal.result c.requires.lawful c.requires.packet
    c.requires.good c.tell_logs.ensures c.in-Ok.ensures.drained
    c.of-journal.ensures

pub returns-in-Ok-clause-obeys : goal.returns-in-Ok-clause-obeys
returns-in-Ok-clause-obeys c =
    handed_obeys c.args.scenario.now c.args.cluster.journal c.drain_cluster-drained.new.cluster.journal c.of-journal.result
    c.drain_cluster-drained.new.cluster.layout c.requires.lawful c.requires.packet c.requires.good c.tell_logs.ensures
    c.in-Ok.ensures.drained
    c.of-journal.ensures
    (c.drain_cluster-drained.ensures.layout ∙ c.requires.layout)
    c.laws.ensures.laws c.laws.ensures.order

pub returns-in-Err-LogFull-clause-stopped : goal.returns-in-Err-LogFull-clause-stopped
returns-in-Err-LogFull-clause-stopped c =
    let halted = rw c.in-Err-LogFull.is at c.drain_cluster-drained.ensures.stopped in
    let same = rw c.in-Err-LogFull.is at c.in-Err-LogFull.field-0-is in
    let cut = rw same at halted in
    handed_cut_off c.args.scenario.now c.args.cluster.journal c.in-Err-LogFull.full c.drain_cluster-drained.new.cluster.journal c.of-journal.result
    c.drain_cluster-drained.new.cluster.layout c.requires.lawful c.requires.packet
    (record { good = c.requires.good; logs = c.tell_logs.ensures; none = c.requires.none })
    cut
    c.of-journal.ensures
    (c.drain_cluster-drained.ensures.layout ∙ c.requires.layout)
    c.laws.ensures.laws c.laws.ensures.order

pub returns-in-Err-LogFull-clause-ends : goal.returns-in-Err-LogFull-clause-ends
returns-in-Err-LogFull-clause-ends c =
    let halted = rw c.in-Err-LogFull.is at c.drain_cluster-drained.ensures.stopped in
    let same = rw c.in-Err-LogFull.is at c.in-Err-LogFull.field-0-is in
    let cut = rw same at halted in
    subst (λ (journal : List Entry). IsDrainCutOff c.args.scenario.now c.args.cluster.journal c.in-Err-LogFull.full journal) (sym c.of-journal.ensures) cut
