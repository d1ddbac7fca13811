use Rattle.std.proofs.Common.{arith}
use Rattle.am_lab_reasons.proofs.Standing.{again, front_in, has_report, short, stops_parts}
use Rattle.am_lab_reasons.proofs.before.front_of.Goals as goal

pub parts_of-requires : goal.parts_of-requires
parts_of-requires c = record { report = has_report c.args.form c.args.text.now c.args.line c.args.what c.requires.stopped c.requires.front }

pub journal_before-requires-clause-stopped : goal.journal_before-requires-clause-stopped
journal_before-requires-clause-stopped c =
    let a = c.args in
    let p = c.in_ok-scenario in
    (a.form, stops_parts a.form a.text.now a.line a.what p.scenario p.bytes.now c.requires.stopped p.ensures.parts)

pub returns-clause-front : goal.returns-clause-front
returns-clause-front c =
    let a = c.args in
    let p = c.in_ok-scenario in
    let stopped = stops_parts a.form a.text.now a.line a.what p.scenario p.bytes.now c.requires.stopped p.ensures.parts in
    front_in a.form a.text.now a.line a.what p.scenario p.bytes.now c.in_ok-journal.journal p.ensures.parts (c.in_ok-journal.ensures a.form stopped)

pub returns-clause-again : goal.returns-clause-again
returns-clause-again c =
    let a = c.args in
    let p = c.in_ok-scenario in
    let stopped = stops_parts a.form a.text.now a.line a.what p.scenario p.bytes.now c.requires.stopped p.ensures.parts in
    again a.form p.scenario p.ensures.lawful p.bytes.now a.line a.what c.in_ok-journal.journal (c.in_ok-journal.ensures a.form stopped)

pub returns-clause-few : goal.returns-clause-few
returns-clause-few c =
    let a = c.args in
    let p = c.in_ok-scenario in
    let stopped = stops_parts a.form a.text.now a.line a.what p.scenario p.bytes.now c.requires.stopped p.ensures.parts in
    let low = short a.form p.scenario p.bytes.now a.line a.what c.in_ok-journal.journal (c.in_ok-journal.ensures a.form stopped) in
    let less = p.ensures.short in
    let few = c.requires.few in
    omega (arith, low, less, few)
