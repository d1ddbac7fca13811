use Rattle.std.proofs.Common.{◌≡◌}
use Rattle.am_check.specs.declared.faults.CheckWhat.TheVariants as Whats
use Rattle.am_lab_reasons.proofs.StoppedDue.{disabled_event, due_in, follows_place, outcome_event, stopped_for}
use Rattle.am_lab_reasons.proofs.due.due_of.Goals as goal

pub found_state-requires-clause-event : goal.found_state-requires-clause-event
found_state-requires-clause-event c =
    let a = c.args in
    let i = c.in-NotEnabled.is in
    let e : a.what ≡ Whats.NotEnabled c.in-NotEnabled.condition = cc in
    let stopped = stopped_for a.form a.scenario.now a.bytes.now a.line a.what (Whats.NotEnabled c.in-NotEnabled.condition) e c.requires.stopped in
    (a.form, disabled_event a.form a.scenario.now c.requires.lawful a.bytes.now a.line c.in-NotEnabled.condition c.requires.few stopped)

pub due_entry-requires-clause-event : goal.due_entry-requires-clause-event
due_entry-requires-clause-event c =
    let a = c.args in
    let i = c.in-Outcome.is in
    let e : a.what ≡ Whats.Outcome = cc in
    let stopped = stopped_for a.form a.scenario.now a.bytes.now a.line a.what Whats.Outcome e c.requires.stopped in
    (a.form, outcome_event a.form a.scenario.now c.requires.lawful a.bytes.now a.line c.requires.few stopped)

pub might_come-requires-clause-place : goal.might_come-requires-clause-place
might_come-requires-clause-place c =
    let a = c.args in
    let i = c.in-Follows.is in
    let e : a.what ≡ Whats.Follows = cc in
    follows_place a.form a.scenario.now a.bytes.now a.line c.requires.few (stopped_for a.form a.scenario.now a.bytes.now a.line a.what Whats.Follows e
    c.requires.stopped)

pub due_line-requires-clause-journal : goal.due_line-requires-clause-journal
due_line-requires-clause-journal c =
    let a = c.args in
    let i = c.in-Tail.is in
    let e : a.what ≡ Whats.Tail = cc in
    let stopped = stopped_for a.form a.scenario.now a.bytes.now a.line a.what Whats.Tail e c.requires.stopped in
    (a.form, stopped.journal, stopped.has)

pub returns-in-NotEnabled : goal.returns-in-NotEnabled
returns-in-NotEnabled c =
    let a = c.args in
    let i = c.in-NotEnabled.is in
    let e : a.what ≡ Whats.NotEnabled c.in-NotEnabled.condition = cc in
    let stopped = stopped_for a.form a.scenario.now a.bytes.now a.line a.what (Whats.NotEnabled c.in-NotEnabled.condition) e c.requires.stopped in
    due_in a.form a.scenario.now a.bytes.now a.line a.what (Whats.NotEnabled c.in-NotEnabled.condition) c.found_state.result e
    (c.found_state.ensures a.form (disabled_event a.form a.scenario.now c.requires.lawful a.bytes.now a.line c.in-NotEnabled.condition c.requires.few stopped))

pub returns-in-Outcome : goal.returns-in-Outcome
returns-in-Outcome c =
    let a = c.args in
    let i = c.in-Outcome.is in
    let e : a.what ≡ Whats.Outcome = cc in
    let stopped = stopped_for a.form a.scenario.now a.bytes.now a.line a.what Whats.Outcome e c.requires.stopped in
    due_in a.form a.scenario.now a.bytes.now a.line a.what Whats.Outcome c.due_entry.result e
    (c.due_entry.ensures a.form (outcome_event a.form a.scenario.now c.requires.lawful a.bytes.now a.line c.requires.few stopped))

pub returns-in-Tail : goal.returns-in-Tail
returns-in-Tail c =
    let a = c.args in
    let i = c.in-Tail.is in
    let e : a.what ≡ Whats.Tail = cc in
    let stopped = stopped_for a.form a.scenario.now a.bytes.now a.line a.what Whats.Tail e c.requires.stopped in
    due_in a.form a.scenario.now a.bytes.now a.line a.what Whats.Tail c.due_line.result e (c.due_line.ensures a.form stopped.journal stopped.has)
