use Rattle.std.proofs.Common.{arith}
use Rattle.am_lab_state.proofs.Asking.{counted}
use Rattle.am_lab_page.proofs.Paging.{few_told, many_told}
use Rattle.am_lab_page.proofs.page.changes.report_changes.Goals as goal

pub returns-then-count-gt-MOST : goal.returns-then-count-gt-MOST
returns-then-count-gt-MOST c = λ form r.
    let s = c.args.scenario.now in
    let long = counted form s c.requires.lawful c.args.bytes.now c.requires.few r c.in-Some.count c.in-Some.ensures.0 in
    many_told s r.journal c.in-Some.count long (omega arith)

pub returns : goal.returns
returns c = λ form r.
    let s = c.args.scenario.now in
    let long = counted form s c.requires.lawful c.args.bytes.now c.requires.few r c.in-Some.count c.in-Some.ensures.0 in
    few_told s r.journal c.in-Some.count c.in_ok-text.text.items long (omega arith) (c.in_ok-text.ensures form r)
