use Rattle.am_model.specs.Channels.{bound_message}
use Rattle.am_model_parts.specs.Interface.{channel_in, settles}
use Rattle.am_iface.specs.View.{own}
use Rattle.am_iface.proofs.Touching as touching
use Rattle.am_iface.proofs.Interface.receive_answer.Goals as goal

pub flight-flight-requires-clause-bound : goal.flight-flight-requires-clause-bound
flight-flight-requires-clause-bound c =
    let i = own c.args.self.now in
    let at = channel_in i c.args.p.now.from c.args.p.now.channel in
    touching.is_bound (bound_message at i.log) (settles i at c.args.p.now) c.args.endpoint.now.settings.id c.requires.needs

pub returns : goal.returns
returns c = c.receive_settling.ensures
