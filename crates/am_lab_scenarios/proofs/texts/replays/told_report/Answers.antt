use Rattle.std.proofs.Common.{◌≡◌, List, drop, sym, subst, ◌∙◌}
use Rattle.std.specs.Prelude.{IfOk}
use Rattle.am_check.specs.Laws.Laws.{IsRunHistory}
use Rattle.am_lexer.specs.Text.{lines_of}
use Rattle.am_main_lines.specs.declared.outputs.Output.{Output}
use Rattle.am_main_lines.specs.Lines.{answer_in}
use Rattle.am_model.specs.Layout.{Layout}
use Rattle.am_office_entries.specs.declared.Entry.{Entry}
use Rattle.am_scenario_types.specs.declared.parts.Form.TheVariants.{Run}
use Rattle.am_lab_reasons.specs.Journal.Lines.{AreLines, HasEnd}
use Rattle.am_lab_reasons.proofs.Reported.{has_end, reported}
use Rattle.am_lab_scenarios.specs.Texts.Replays.{TellsRun}
use Rattle.am_lab_scenarios.proofs.Replaying.{checked_report}
use Rattle.am_lab_scenarios.proofs.texts.replays.told_report.Goals as goal

pub reach_end-requires-clause-end : goal.reach_end-requires-clause-end
reach_end-requires-clause-end c =
    let s = c.args.scenario.now in
    let r = checked_report s c.args.bytes.now c.requires.report.0 c.requires.report.1 in
    subst (λ (l : Layout). HasEnd l c.args.bytes.now) (sym c.in_ok-cluster.ensures.layout) (has_end Run s c.requires.lawful c.args.bytes.now c.requires.few r)

pub told-requires-clause-run : goal.told-requires-clause-run
told-requires-clause-run c =
    let s = c.args.scenario.now in
    let r = checked_report s c.args.bytes.now c.requires.report.0 c.requires.report.1 in
    let t = reported Run s c.requires.lawful c.args.bytes.now c.requires.few r in
    let are = subst (λ (l : Layout). AreLines l (drop 2 (lines_of c.args.bytes.now)) r.journal t.left) (sym c.in_ok-cluster.ensures.layout) t.are in
    let is : c.in_ok-journal.journal ≡ r.journal =
    c.in_ok-journal.ensures ∙ c.in_ok-logged.ensures.journal ∙ c.in_ok-reach_end.ensures.reached r.journal t.left are t.count in
    subst (λ (j : List Entry). IsRunHistory s j) (sym is) c.requires.report.1.history

pub returns : goal.returns
returns c = λ journal report.
    let s = c.args.scenario.now in
    let r = checked_report s c.args.bytes.now journal report in
    let t = reported Run s c.requires.lawful c.args.bytes.now c.requires.few r in
    let are = subst (λ (l : Layout). AreLines l (drop 2 (lines_of c.args.bytes.now)) journal t.left) (sym c.in_ok-cluster.ensures.layout) t.are in
    let is : c.in_ok-journal.journal ≡ journal =
    c.in_ok-journal.ensures ∙ c.in_ok-logged.ensures.journal ∙ c.in_ok-reach_end.ensures.reached journal t.left are t.count in
    subst (λ (j : List Entry). IfOk c.told.result (λ (o : Output). TellsRun s j (answer_in o))) is c.told.ensures
