use Rattle.std.proofs.Common.{◌≡◌, ◌∙◌}
use Rattle.am_iface.specs.Refusals.{refused_by}
use Rattle.am_iface.proofs.Interface.refusal_with.Goals as goal

pub returns : goal.returns
returns c = c.refused_by.ensures ∙ λ i. refused_by (c.failing_with.ensures i) (c.full_with.ensures i)
