use Rattle.std.proofs.Common.{rules, ◌<◌, ◌++◌, ◌∷◌, [], length, ap, ◌∙◌, sym}
use Rattle.std.proofs.lemmas.List.{map_more}
use Rattle.am_cluster_opening.proofs.Booked.{line_now}
use Rattle.am_cluster_opening.proofs.node.ends.view_of.Goals as goal

pub loop-end-preserved : goal.loop-end-preserved
loop-end-preserved c =
    let near : c.loop-end.end-index < length c.args.ends.now = search rules in
    c.in_ok-push.ensures.items
    ∙ (λ i. c.loop-end.invariant i ++ (c.line_of.ensures ∙ ap line_now c.end-item.is) i ∷ [])
    ∙ sym (map_more line_now c.args.ends.now c.loop-end.end-index c.end-item.result near)
