use Rattle.std.proofs.Common.{◌≡◌, ℕ, Some, ◌∷◌, [], ◌++◌, List, ◌∙◌, ap, sym}
use Rattle.am_office_entries.specs.declared.Entry.{Entry}
use Rattle.am_channel.specs.declared.sending.TimedOut.TheVariants as Times
use Rattle.am_channel.specs.Calls.{TimeOut, after}
use Rattle.am_model_parts.specs.declared.work.Work.TheVariants as Works
use Rattle.am_model.specs.Changes.{settled_in}
use Rattle.am_iface.proofs.GivingUp as giving
use Rattle.am_iface.proofs.Settled.{given_up_serial}
use Rattle.am_iface.proofs.Flown.{lands_from}
use Rattle.am_iface.proofs.TurningWith as turning
use Rattle.am_iface.proofs.Interface.expire_with.Goals as goal

pub enter_with-requires-clause-made : goal.enter_with-requires-clause-made
enter_with-requires-clause-made c =
    let e = c.ends-ends.result in
    let bound : e.sending.bound ≡ Some c.in-Some.bound = sym c.busy.ensures.bound ∙ c.in-Some.is in
    let timed = giving.timed_gives e.sending.bound c.in-Some.bound c.tries.result c.args.self.now.settings.tries e.sending.seq c.time_out.result
    (Times.GaveUp c.in-GaveUp.field-0) bound c.tries.ensures c.time_out.ensures.answer c.in-GaveUp.is in
    giving.giving_up_made c.args.self.now c.args.endpoint.now c.args.peer c.args.channel e c.time_out.new.ends c.args.flight.now c.in-Some.bound
    c.in-GaveUp.field-0 c.args.stamp c.node.result c.give_up-entry.result
    (record { needs = c.requires.needs; counted = c.ends-ends.ensures; flight_is = c.requires.flight; busy = bound; timed = timed })
    (c.time_out.ensures.after ∙ ap (λ (n : ℕ). after e (TimeOut n)) c.tries.ensures) c.node.ensures c.give_up-entry.ensures

pub settle-requires-clause-allowed : goal.settle-requires-clause-allowed
settle-requires-clause-allowed c =
    let e = c.ends-ends.result in
    let bound : e.sending.bound ≡ Some c.in-Some.bound = sym c.busy.ensures.bound ∙ c.in-Some.is in
    let timed = giving.timed_gives e.sending.bound c.in-Some.bound c.tries.result c.args.self.now.settings.tries e.sending.seq c.time_out.result
    (Times.GaveUp c.in-GaveUp.field-0) bound c.tries.ensures c.time_out.ensures.answer c.in-GaveUp.is in
    let entry = giving.giving_up_entry c.args.self.now c.args.endpoint.now c.args.peer c.args.channel e c.args.flight.now c.in-Some.bound c.in-GaveUp.field-0
    c.args.stamp c.node.result c.give_up-entry.result
    (record { needs = c.requires.needs; counted = c.ends-ends.ensures; flight_is = c.requires.flight; busy = bound; timed = timed })
    c.node.ensures c.give_up-entry.ensures in
    giving.giving_up_allowed c.args.self.now c.args.endpoint.now c.enter_with.new.endpoint c.args.peer c.args.channel c.args.flight.now c.args.stamp
    c.give_up-entry.result c.requires.needs c.requires.packet c.requires.bounces c.requires.flight entry
    (record { settings = c.enter_with.ensures.settings; log = c.enter_with.ensures.log })

pub settle-requires-clause-serial : goal.settle-requires-clause-serial
settle-requires-clause-serial c =
    ap (λ (x : Entry). settled_in x.event x.outcome) c.give_up-entry.ensures ∙ given_up_serial c.args.flight.now.answered c.in-Some.bound.message.serial

pub returns-in-Ok : goal.returns-in-Ok
returns-in-Ok c =
    let e = c.ends-ends.result in
    let bound : e.sending.bound ≡ Some c.in-Some.bound = sym c.busy.ensures.bound ∙ c.in-Some.is in
    let timed = giving.timed_gives e.sending.bound c.in-Some.bound c.tries.result c.args.self.now.settings.tries e.sending.seq c.time_out.result
    (Times.GaveUp c.in-GaveUp.field-0) bound c.tries.ensures c.time_out.ensures.answer c.in-GaveUp.is in
    let entry = giving.giving_up_entry c.args.self.now c.args.endpoint.now c.args.peer c.args.channel e c.args.flight.now c.in-Some.bound c.in-GaveUp.field-0
    c.args.stamp c.node.result c.give_up-entry.result
    (record { needs = c.requires.needs; counted = c.ends-ends.ensures; flight_is = c.requires.flight; busy = bound; timed = timed })
    c.node.ensures c.give_up-entry.ensures in
    turning.turns_with c.args.self.now c.enter_with.new.self c.args.endpoint.now c.settle.new.endpoint c.args.stamp (Works.Expire c.args.peer c.args.channel)
    c.give_up-entry.result _ entry
    (record { logged = c.in-Ok.ensures.logged; enabled = c.in-Ok.ensures.enabled; full = c.in-Ok.ensures.full; err = tt })
    (record {
      same = c.settle.ensures.settings ∙ c.enter_with.ensures.settings;
      there = c.settle.ensures.log
          ∙ ap (λ (xs : List Entry). xs ++ c.give_up-entry.result ∷ []) c.enter_with.ensures.log;
      flies = lands_from c.args.endpoint.now c.enter_with.new.endpoint c.settle.new.endpoint c.give_up-entry.result
          (record { settings = c.enter_with.ensures.settings; log = c.enter_with.ensures.log; flights = c.enter_with.ensures.flights }) c.settle.ensures.flights;
      err = tt;
      err_flights = tt;
      kept = tt;
    })

pub returns-in-Err : goal.returns-in-Err
returns-in-Err c =
    let e = c.ends-ends.result in
    let bound : e.sending.bound ≡ Some c.in-Some.bound = sym c.busy.ensures.bound ∙ c.in-Some.is in
    let timed = giving.timed_gives e.sending.bound c.in-Some.bound c.tries.result c.args.self.now.settings.tries e.sending.seq c.time_out.result
    (Times.GaveUp c.in-GaveUp.field-0) bound c.tries.ensures c.time_out.ensures.answer c.in-GaveUp.is in
    let entry = giving.giving_up_entry c.args.self.now c.args.endpoint.now c.args.peer c.args.channel e c.args.flight.now c.in-Some.bound c.in-GaveUp.field-0
    c.args.stamp c.node.result c.give_up-entry.result
    (record { needs = c.requires.needs; counted = c.ends-ends.ensures; flight_is = c.requires.flight; busy = bound; timed = timed })
    c.node.ensures c.give_up-entry.ensures in
    turning.turns_with c.args.self.now c.enter_with.new.self c.args.endpoint.now c.enter_with.new.endpoint c.args.stamp
    (Works.Expire c.args.peer c.args.channel) c.give_up-entry.result _ entry
    (record { logged = tt; enabled = c.in-Err.ensures.enabled; full = c.in-Err.ensures.full; err = c.in-Err.ensures.err })
    (record {
      same = c.enter_with.ensures.settings;
      there = tt;
      flies = tt;
      err = c.enter_with.ensures.log;
      err_flights = c.enter_with.ensures.flights;
      kept = c.in-Err.ensures.kept;
    })
