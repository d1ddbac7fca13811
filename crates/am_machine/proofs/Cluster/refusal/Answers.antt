use Rattle.std.proofs.Common.{sym, ap, ◌∙◌}
use Rattle.am_machine.specs.Refusals.{refusal}
use Rattle.am_machine.proofs.Cluster.refusal.Goals as goal

pub returns-in-Receive : goal.returns-in-Receive
returns-in-Receive c = c.refusal_of_receipt.ensures ∙ ap (refusal c.args.self.now) (sym c.in-Receive.is)
