use Rattle.std.specs.Prelude.{not}
use Rattle.am_model.specs.Channels.{bound_message}
use Rattle.am_model_parts.specs.Interface.{channel_in, has_try_left}
use Rattle.am_iface.specs.View.{own}
use Rattle.am_iface.proofs.Touching as touching
use Rattle.am_iface.proofs.Interface.give_up_with.Goals as goal

pub flight-flight-requires-clause-bound : goal.flight-flight-requires-clause-bound
flight-flight-requires-clause-bound c =
    let i = own c.args.self.now in
    let at = channel_in i c.args.peer c.args.channel in
    touching.is_bound (bound_message at i.log) (not (has_try_left i at)) c.args.endpoint.now.settings.id c.requires.needs

pub returns : goal.returns
returns c = c.expire_with.ensures
