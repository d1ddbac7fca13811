use Rattle.am_model.proofs.Order.{order_wanted}
use Rattle.am_endpoint.specs.View.{state_after}
use Rattle.am_endpoint.proofs.Endpoint.want.Goals as goal

pub note-requires-clause-keeps : goal.note-requires-clause-keeps
note-requires-clause-keeps c le = order_wanted c.room.new.self.settings.pool c.room.new.self.settings.id (state_after c.room.new.self)
