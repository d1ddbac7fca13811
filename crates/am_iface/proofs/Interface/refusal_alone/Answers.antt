use Rattle.std.proofs.Common.{◌≡◌, ◌∙◌}
use Rattle.am_iface.specs.Refusals.{refused_by}
use Rattle.am_iface.proofs.Interface.refusal_alone.Goals as goal

pub returns : goal.returns
returns c s = c.refused_by.ensures ∙ λ i. refused_by (c.failing_alone.ensures s i) (c.full_here.ensures i)
