use Rattle.std.proofs.Common.{ap, ◌∙◌}
use Rattle.am_scenario_plan.specs.Shape.{fault_at}
use Rattle.am_wire.proofs.closing.make_link.Goals as goal

pub invariant_of-out : goal.invariant_of-out
invariant_of-out c = record {
  planned = λ place. ap (λ f. f place) c.in_ok-out.ensures.faults ∙ c.in_ok-faults.ensures place
      ∙ ap (λ lines. fault_at lines c.args.from c.args.to place) c.as_slice.ensures.value;
}
