use Rattle.std.proofs.Common.{◌≡◌, ◌<◌, ◌^◌, List, Result, Ok, Err, length, drop, sym, ap, subst, arith}
use Rattle.std.specs.Prelude.{IfOk}
use Rattle.am_lexer.specs.Text.{lines_of}
use Rattle.am_model.specs.Layout.{Layout}
use Rattle.am_office_entries.specs.declared.Entry.{Entry}
use Rattle.am_lab_reasons.specs.Journal.Lines.{AreLines, HasEnd}
use Rattle.am_lab_reasons.proofs.Again.{same_if}
use Rattle.am_lab_reasons.proofs.Reported.{has_end, reported}
use Rattle.am_lab_reasons.proofs.journal.reaches.journal_of.Goals as goal

few_if : {E : Type 0} (r : Result (List Entry) E) (a : List Entry) → length a < 2 ^ 31 → IfOk r (λ (j : List Entry). j ≡ a) →
    IfOk r (λ (j : List Entry). length j < 2 ^ 31)
few_if (Ok j) a few h = let same = ap length h in omega (arith, same, few)
few_if (Err x) a few h = tt

pub reach_end-requires-clause-end : goal.reach_end-requires-clause-end
reach_end-requires-clause-end c =
    subst (λ (l : Layout). HasEnd l c.args.bytes.now) (sym c.in_ok-cluster.ensures.layout)
    (has_end c.requires.report.0 c.args.scenario.now c.requires.lawful c.args.bytes.now c.requires.few c.requires.report.1)

pub returns-clause-made : goal.returns-clause-made
returns-clause-made c = λ form r.
    let t = reported form c.args.scenario.now c.requires.lawful c.args.bytes.now c.requires.few r in
    let are = subst (λ (l : Layout). AreLines l (drop 2 (lines_of c.args.bytes.now)) r.journal t.left) (sym c.in_ok-cluster.ensures.layout) t.are in
    let is = c.in_ok-reach_end.ensures.reached r.journal t.left are t.count in
    same_if c.journal_in.result c.reach_end.new.cluster.journal r.journal is c.journal_in.ensures

pub returns-clause-few : goal.returns-clause-few
returns-clause-few c =
    let form = c.requires.report.0 in
    let r = c.requires.report.1 in
    let t = reported form c.args.scenario.now c.requires.lawful c.args.bytes.now c.requires.few r in
    let are = subst (λ (l : Layout). AreLines l (drop 2 (lines_of c.args.bytes.now)) r.journal t.left) (sym c.in_ok-cluster.ensures.layout) t.are in
    let is = c.in_ok-reach_end.ensures.reached r.journal t.left are t.count in
    let long = ap length is in
    let low = t.low in
    let few = c.requires.few in
    few_if c.journal_in.result c.reach_end.new.cluster.journal (omega (arith, long, low, few)) c.journal_in.ensures
