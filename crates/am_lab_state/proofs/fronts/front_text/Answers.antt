use Rattle.std.proofs.Common.{◌≡◌, ℕ, ◌+◌, List, drop, take, sym, subst, arith}
use Rattle.std.specs.Global.{Vec}
use Rattle.std.specs.Prelude.{IfOk}
use Rattle.am_lexer.specs.Text.{lines_of}
use Rattle.am_model.specs.Layout.{Layout}
use Rattle.am_model_scripts.specs.Layout.{layout_of}
use Rattle.am_office_entries.specs.declared.Entry.{Entry}
use Rattle.am_lab_reasons.specs.Journal.Lines.{AreLines, IsBehindLines}
use Rattle.am_lab_reasons.proofs.Reported.{reported}
use Rattle.am_lab_state.specs.Texts.{state_text}
use Rattle.am_lab_state.proofs.Fronting.{front_fits, front_lines, front_number, front_place, front_short, left_behind}
use Rattle.am_lab_state.proofs.fronts.front_text.Goals as goal

pub overflow_add-count : goal.overflow_add-count
overflow_add-count c =
    let few = front_fits c.requires.front.0 c.args.scenario.now c.requires.lawful c.args.bytes.now c.requires.few c.args.count c.requires.front.1 in
    omega (arith, few)

pub reach-requires-clause-place : goal.reach-requires-clause-place
reach-requires-clause-place c =
    subst (λ (l : Layout). IsBehindLines l c.args.bytes.now (c.args.count + 3)) (sym c.in_ok-cluster.ensures.layout)
    (front_place c.requires.front.0 c.args.scenario.now c.requires.lawful c.args.bytes.now c.requires.few c.args.count c.requires.front.1)

pub returns : goal.returns
returns c = λ form r within.
    let s = c.args.scenario.now in
    let t = reported form s c.requires.lawful c.args.bytes.now c.requires.few r in
    let front = take c.args.count r.journal in
    let left = left_behind r.journal t.left c.args.count in
    let are = subst (λ (l : Layout). AreLines l (drop 2 (lines_of c.args.bytes.now)) front left) (sym c.in_ok-cluster.ensures.layout)
    (front_lines (layout_of s) (drop 2 (lines_of c.args.bytes.now)) r.journal t.left c.args.count t.are) in
    let is = (c.in_ok-reach.ensures.reached front left are (front_number c.args.count r.journal within)).0 in
    subst (λ (j : List Entry). IfOk c.state_text.result (λ (text : Vec ℕ). text.items ≡ state_text s j)) is c.state_text.ensures

pub state_text-requires-clause-few : goal.state_text-requires-clause-few
state_text-requires-clause-few c =
    let form = c.requires.front.0 in
    let f = c.requires.front.1 in
    let s = c.args.scenario.now in
    let t = reported form s c.requires.lawful c.args.bytes.now c.requires.few f.report in
    let front = take c.args.count f.report.journal in
    let left = left_behind f.report.journal t.left c.args.count in
    let are = subst (λ (l : Layout). AreLines l (drop 2 (lines_of c.args.bytes.now)) front left) (sym c.in_ok-cluster.ensures.layout)
    (front_lines (layout_of s) (drop 2 (lines_of c.args.bytes.now)) f.report.journal t.left c.args.count t.are) in
    let is = (c.in_ok-reach.ensures.reached front left are (front_number c.args.count f.report.journal f.within)).0 in
    front_short form s c.requires.lawful c.args.bytes.now c.requires.few c.args.count f _ is
