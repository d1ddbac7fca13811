use Rattle.std.proofs.Common.{sym, ◌∙◌}
use Rattle.am_machine.proofs.Apart.{placed_at}
use Rattle.am_machine.proofs.ends.place_of.Goals as goal

pub returns-then-is_at : goal.returns-then-is_at
returns-then-is_at c = placed_at c.args.ends.now c.args.id c.args.id.0 c.requires (sym c.is_at.ensures ∙ c.if-is_at.true)
