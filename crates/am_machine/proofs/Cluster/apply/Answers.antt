use Rattle.std.proofs.Common.{refl, sym, ap}
use Rattle.am_model_drain.specs.Made.{next_entry}
use Rattle.am_machine.specs.View.{ClusterView}
use Rattle.am_machine.proofs.LastMade as lasts
use Rattle.am_machine.proofs.Making.{applied_as}
use Rattle.am_machine.proofs.Cluster.apply.Goals as goal

pub returns-in-Some : goal.returns-in-Some
returns-in-Some c =
    let v = c.args.self.now in
    let x = next_entry v.layout v.journal c.args.event.now in
    let read = c.last_of.ensures v.journal x (ap (λ (w : ClusterView). w.journal) c.in-Ok.ensures.1) refl in
    applied_as v c.make.new.self c.args.event.now tt c.in-Some.entry.now c.in-Ok.ensures
    (sym (lasts.read_last c.last_of.result c.in-Some.entry x read c.in-Some.is))

pub unreachable-requires : goal.unreachable-requires
unreachable-requires c =
    let v = c.args.self.now in
    let x = next_entry v.layout v.journal c.args.event.now in
    let read = c.last_of.ensures v.journal x (ap (λ (w : ClusterView). w.journal) c.in-Ok.ensures.1) refl in
    lasts.not_none c.last_of.result x read c.in-None.is

pub returns-in-Err : goal.returns-in-Err
returns-in-Err c = c.in-Err.ensures
