use Rattle.std.proofs.Common.{rules, ◌≡◌, ◌∙◌, ◌<◌, length, refl, sym, subst, arith}
use Rattle.std.proofs.lemmas.Option.{get_or_from_slice_get, slice_get_read, slice_get_within}
use Rattle.am_names.specs.declared.NodeId.{NodeId}
use Rattle.am_cluster_running.specs.Running.{SameCrew}
use Rattle.am_cluster_opening.specs.Crews.{IsCrew}
use Rattle.am_cluster_opening.specs.declared.crew.NodeCrew.{NodeCrew}
use Rattle.am_cluster_running.proofs.Ran.{crews_ran, few_in_each, numbers_are_small, still_linked}
use Rattle.am_cluster_running.proofs.running.run_crews.Goals as goal

pub for_each_mut-requires-clause-accepts : goal.for_each_mut-requires-clause-accepts
for_each_mut-requires-clause-accepts g c κs within i p low now =
    let at = slice_get_read c.args.crews.now (length c.args.crews.now) i p.now refl low now in
    let own = c.requires.crews.each i p.now at in
    let small = numbers_are_small 0 c.args.crews.now c.requires.numbered (few_in_each c.args.scenario.now 0 c.args.crews.now c.requires.lawful c.requires.crews)
    i p.now at in
    let all = c.requires.crews.all in
    let few = c.requires.lawful.settings.nodes.1 in (
      (
        search rules,
        search rules,
        c.requires.lawful,
        c.requires.packet,
        subst (λ (n : NodeId). n.0 < c.args.scenario.now.nodes) (sym own.is_node) (omega (arith, low, all)),
        omega (arith, small, low, all, few),
        subst (λ (n : NodeId). IsCrew c.args.scenario.now n 0 p.now) (sym own.is_node) own,
      ),
      (search rules, search rules),
    )

pub returns-clause-crews : goal.returns-clause-crews
returns-clause-crews g c =
    let long : length c.for_each_mut.new.s ≡ length c.args.crews.now = c.for_each_mut.auto.s in
    crews_ran c.args.scenario.now c.args.crews.now c.for_each_mut.new.s long
    (λ k x d at_x at_d.
    let changed = (c.for_each_mut.ensures k d (slice_get_within c.args.crews.now k x at_x)).1 in
    subst (λ (u : NodeCrew). IsCrew c.args.scenario.now u.node c.args.scenario.now.turns d) (changed.argument_is
    ∙ get_or_from_slice_get c.args.crews.now k x d at_x)
    (subst (λ (u : NodeCrew). IsCrew c.args.scenario.now changed.argument.now.node c.args.scenario.now.turns u) (changed.left
    ∙ get_or_from_slice_get c.for_each_mut.new.s k d d at_d) changed.call.0))
    c.requires.crews

pub returns-clause-linked : goal.returns-clause-linked
returns-clause-linked g c =
    let long : length c.for_each_mut.new.s ≡ length c.args.crews.now = c.for_each_mut.auto.s in
    still_linked c.args.crews.now c.for_each_mut.new.s long
    (λ k x d at_x at_d.
    let changed = (c.for_each_mut.ensures k d (slice_get_within c.args.crews.now k x at_x)).1 in
    subst (λ (u : NodeCrew). SameCrew u d) (changed.argument_is ∙ get_or_from_slice_get c.args.crews.now k x d at_x)
    (subst (λ (u : NodeCrew). SameCrew changed.argument.now u) (changed.left ∙ get_or_from_slice_get c.for_each_mut.new.s k d d at_d) changed.call.1))
    c.requires.linked
