use Rattle.std.proofs.Common.{◌-◌, List, ap, ◌∙◌}
use Rattle.std.specs.Prelude.{slice_get}
use Rattle.am_check.specs.Follows.{ids_of}
use Rattle.am_lexer.specs.Text.{lines_of}
use Rattle.am_office_report.specs.Report.{report}
use Rattle.am_office_entries.specs.declared.Entry.{Entry}
use Rattle.am_lab_reasons.specs.Due.Due.{DueLine}
use Rattle.am_lab_reasons.specs.Due.Texts.{due_line}
use Rattle.am_lab_reasons.proofs.StoppedDue.{end_at, has_end, text_told}
use Rattle.am_lab_reasons.proofs.due.told.due_line.Goals as goal

pub reach_end-requires-clause-end : goal.reach_end-requires-clause-end
reach_end-requires-clause-end c =
    has_end c.requires.journal.0 c.args.scenario.now c.requires.lawful c.args.bytes.now c.requires.journal.1 c.requires.journal.2 c.in_ok-cluster.cluster.layout
    c.in_ok-cluster.ensures.layout

pub returns : goal.returns
returns c = λ form journal h.
    let s = c.args.scenario.now in
    let are = end_at form s c.requires.lawful c.args.bytes.now journal h c.in_ok-cluster.cluster.layout c.in_ok-cluster.ensures.layout in
    let got = c.in_ok-reach_end.ensures.reached journal h.left are h.count in
    let told = λ (j : List Entry). due_line (slice_get (lines_of (report (ids_of s) j)) (c.args.line - 1)) in
    text_told c.reported_line.result (told c.reach_end.new.cluster.journal) (DueLine form s c.args.bytes.now c.args.line)
    (λ out p. record { journal = journal; has = h; text = p ∙ ap told got })
    c.reported_line.ensures
