use Rattle.std.proofs.Common.{◌≡◌, Some, None, List, subst, rules, ◌∙◌}
use Rattle.am_cluster_calls.specs.Threads.{HasThread}
use Rattle.am_cluster_calls.specs.declared.threads.ThreadScript.{ThreadScript}
use Rattle.am_cluster_calls.proofs.Counting.{counted_here, counted_nowhere, within}
use Rattle.am_cluster_calls.proofs.threads.count_call.Goals as goal

pub count_at-requires-clause-within : goal.count_at-requires-clause-within
count_at-requires-clause-within c =
    let same : c.deref.result.now ≡ c.args.threads.now.items = search rules in
    within c.args.threads.now.items c.args.call.thread c.in-Some.place (subst (λ (l : List ThreadScript). HasThread l c.args.call.thread (Some c.in-Some.place))
    same c.in-Some.ensures)

pub returns-in-Some : goal.returns-in-Some
returns-in-Some c =
    let same : c.deref.result.now ≡ c.args.threads.now.items = search rules in
    c.count_at.ensures.here
    ∙ counted_here c.args.threads.now.items c.args.call c.in-Some.place c.requires.distinct
    (subst (λ (l : List ThreadScript). HasThread l c.args.call.thread (Some c.in-Some.place)) same c.in-Some.ensures)

pub returns-in-None : goal.returns-in-None
returns-in-None c =
    let same : c.deref.result.now ≡ c.args.threads.now.items = search rules in
    counted_nowhere c.args.threads.now.items c.args.call (subst (λ (l : List ThreadScript). HasThread l c.args.call.thread None) same c.in-None.ensures)
