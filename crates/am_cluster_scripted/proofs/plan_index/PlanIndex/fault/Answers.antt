use Rattle.std.specs.Prelude.{List, slice_get}
use Rattle.std.proofs.Common.{rules, ◌≡◌, Some, ap, sym, ◌∙◌, arith}
use Rattle.std.proofs.lemmas.Option.{slice_get-get_or}
use Rattle.am_scenario_plan.specs.declared.plan.PlanLine.{PlanLine}
use Rattle.am_scenario_plan.specs.Shape.{fault_at}
use Rattle.am_wire_release.specs.Faults.{said}
use Rattle.am_cluster_scripted.proofs.plan_index.PlanIndex.fault.Goals as goal

pub returns : goal.returns
returns c =
    let links = c.self.inside.faults.items in
    let m = c.index-link.result.now in
    let number : c.from.result ≡ c.args.place = search rules in
    let got = slice_get-get_or links c.link_place.result m (omega (arith, c.link_place.ensures, c.requires.from, c.requires.to, c.self.invariant.all)) in
    c.fault.ensures
    ∙ ap (said m) number
    ∙ c.self.invariant.each c.args.from.0 c.args.to.0 m c.requires.to (ap (slice_get links) (sym c.link_place.ensures) ∙ got
    ∙ ap (λ w. Some w) (sym c.index-link.ensures)) c.args.place
    ∙ ap (λ (plan : List PlanLine). fault_at plan c.args.from c.args.to c.args.place) c.self.view_is
