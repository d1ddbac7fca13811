use Rattle.std.proofs.Common.{◌≡◌, Some, None, List, subst, rules, ◌∙◌}
use Rattle.am_cluster_calls.specs.Threads.{HasThread}
use Rattle.am_cluster_calls.specs.declared.threads.ThreadScript.{ThreadScript}
use Rattle.am_cluster_calls.proofs.Counting.{added_here, added_nowhere, then_ok, within}
use Rattle.am_cluster_calls.proofs.threads.add_call.Goals as goal

pub add_at-requires : goal.add_at-requires
add_at-requires c =
    let same : c.deref.result.now ≡ c.args.threads.now.items = search rules in
    within c.args.threads.now.items c.args.call.thread c.in-Some.place (subst (λ (l : List ThreadScript). HasThread l c.args.call.thread (Some c.in-Some.place))
    same c.in-Some.ensures)

pub returns-in-Some : goal.returns-in-Some
returns-in-Some c =
    let same : c.deref.result.now ≡ c.args.threads.now.items = search rules in
    let here = added_here c.args.threads.now.items c.args.call c.in-Some.place c.requires
    (subst (λ (l : List ThreadScript). HasThread l c.args.call.thread (Some c.in-Some.place)) same c.in-Some.ensures) in
    then_ok c.add_at.result _ _ (λ added. added ∙ here) c.add_at.ensures

pub returns-in-None : goal.returns-in-None
returns-in-None c =
    let same : c.deref.result.now ≡ c.args.threads.now.items = search rules in
    added_nowhere c.args.threads.now.items c.args.call (subst (λ (l : List ThreadScript). HasThread l c.args.call.thread None) same c.in-None.ensures)
