use Rattle.std.proofs.Common.{ℕ}
use Rattle.std.specs.Global.{Vec}
use Rattle.std.specs.Option.{option_map}
use Rattle.am_lab_state.proofs.Asking.{answered_of, count_fits, counted, so_many}
use Rattle.am_lab_state.proofs.answers.told_report.Goals as goal

pub asked_text-requires-clause-count : goal.asked_text-requires-clause-count
asked_text-requires-clause-count c =
    count_fits c.requires.report.0 c.args.scenario.now c.requires.lawful c.args.bytes.now c.requires.few c.requires.report.1 c.in-Some.count
    c.in-Some.ensures.0

pub asked_text-requires-clause-report : goal.asked_text-requires-clause-report
asked_text-requires-clause-report c = (
  c.requires.report.0,
  so_many c.requires.report.0 c.args.scenario.now c.requires.lawful c.args.bytes.now c.requires.few c.requires.report.1
      c.in-Some.count c.in-Some.ensures.0,
)

pub answered-requires : goal.answered-requires
answered-requires c =
    count_fits c.requires.report.0 c.args.scenario.now c.requires.lawful c.args.bytes.now c.requires.few c.requires.report.1 c.in-Some.count
    c.in-Some.ensures.0

pub returns : goal.returns
returns c = λ form r.
    let s = c.args.scenario.now in
    let long = counted form s c.requires.lawful c.args.bytes.now c.requires.few r c.in-Some.count c.in-Some.ensures.0 in
    answered_of c.answered.result s r.journal c.args.lines c.in-Some.count (option_map (λ (v : Vec ℕ). v.items) c.in_ok-text.text) long
    (c.in_ok-text.ensures form r long) c.answered.ensures
