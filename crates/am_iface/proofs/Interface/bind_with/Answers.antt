use Rattle.std.proofs.Common.{sym}
use Rattle.am_model_parts.specs.declared.work.Work.TheVariants as Works
use Rattle.am_iface.proofs.TurningWith as turning
use Rattle.am_iface.proofs.Interface.bind_with.Goals as goal

pub returns-in-Err : goal.returns-in-Err
returns-in-Err c = turning.turns_with_by_failing c.args.self.now c.args.endpoint.now c.args.stamp (Works.Bind c.args.endpoint.now.settings.id) c.in-Err.why
    (sym c.in-Err.ensures.fault)

pub bind_to-requires-clause-enabled : goal.bind_to-requires-clause-enabled
bind_to-requires-clause-enabled c = sym c.in-Ok.ensures.fault

pub returns-in-Ok : goal.returns-in-Ok
returns-in-Ok c = c.bind_to.ensures
