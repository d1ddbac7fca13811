use Rattle.std.proofs.Common.{rules, ◌≡◌, ◌<◌, ◌++◌, ◌∙◌, ap, arith, sym, length, ℕ}
use Rattle.am_cluster_opening.specs.declared.crew.NodeCrew.{NodeCrew}
use Rattle.am_cluster_schedule.proofs.Linked.{at_index}
use Rattle.am_cluster_schedule.proofs.Orders.{turns_more}
use Rattle.am_cluster_schedule.specs.Order.{crew_turns}
use Rattle.am_cluster_schedule.proofs.order.first_turns.Goals as goal

pub loop-crew-preserved : goal.loop-crew-preserved
loop-crew-preserved c =
    let cs = c.args.crews.now in let k = c.loop-crew.crew in let w = c.index-crews-crew.result in
    let low : k < length cs = search rules in
    let ok = w.threads.ok.0 in
    let own : w.threads.len ≡ length w.threads.items = omega (arith, ok) in
    let all = c.len.ensures ∙ ap (λ (d : NodeCrew). d.threads.len) (sym c.index-crews-crew.is) ∙ own in
    turns_more c.args.scenario.now cs k w c.loop-crew.next.items c.add_crew.new.next.items c.requires (at_index cs k w low c.index-crews-crew.is)
    c.loop-crew.invariant (c.in_ok-add_crew.ensures ∙ ap (λ (n : ℕ). c.loop-crew.next.items ++ crew_turns k n) all)
