use Rattle.std.proofs.Common.{sym, ◌∙◌}
use Rattle.am_places.proofs.Ids.{is_somewhere, stands_there}
use Rattle.am_places.proofs.places.Places.position_of.Goals as goal

pub unreachable-requires : goal.unreachable-requires
unreachable-requires g c = is_somewhere c.args.end c.args.self.now.ids.items c.requires (sym c.position.ensures ∙ c.in-None.is)

pub returns : goal.returns
returns g c = stands_there c.args.end c.args.self.now.ids.items c.in-Some.at (sym c.position.ensures ∙ c.in-Some.is)
