use Rattle.std.proofs.Common.{inl, inr, ⊎_elim, ◌∙◌, sym}
use Rattle.am_cluster_running.proofs.CrewParts.{none_parted, parts_end, parts_more}
use Rattle.am_cluster_running.proofs.parting.assemble.Goals as goal

pub loop-ended-init : goal.loop-ended-init
loop-ended-init c =
    none_parted c.args.count c.args.nodes.items c.args.records.items c.new-parts.result.items c.into_iter-ended-iterator.result.a.rest.items
    c.into_iter-ended-iterator.result.b.rest.items c.new-parts.ensures.items (search) (search)

pub loop-ended-preserved : goal.loop-ended-preserved
loop-ended-preserved c =
    let steps = c.in-Some.ensures.steps in
    let told = c.in_ok-add_part.ensures in
    parts_more c.args.count c.args.nodes.items c.args.records.items c.loop-ended.parts.items c.add_part.new.parts.items c.loop-ended.ended-iterator.a.rest.items
    c.next.new.self.a.rest.items c.loop-ended.ended-iterator.b.rest.items c.next.new.self.b.rest.items c.in-Some.ended c.in-Some.row told.0
    c.loop-ended.invariant steps.0.0 steps.1.0 told.1 told.2

pub returns : goal.returns
returns c =
    let a_len = c.loop-ended.ended-iterator.a.rest.ok.0 in
    let b_len = c.loop-ended.ended-iterator.b.rest.ok.0 in
    parts_end c.args.count c.args.nodes.items c.args.records.items c.loop-ended.parts.items c.loop-ended.ended-iterator.a.rest.items
    c.loop-ended.ended-iterator.b.rest.items c.requires.all c.loop-ended.invariant
    (⊎_elim (λ a. inl (sym a_len ∙ a.1.0)) (λ b. inr (sym b_len ∙ b.1.0)) c.in-None.ensures.steps)
