use Rattle.am_model_parts.specs.declared.work.Work.TheVariants as Works
use Rattle.am_iface.proofs.Binding as binding
use Rattle.am_iface.proofs.TurningWith as turning
use Rattle.am_iface.proofs.Interface.bind_to.Goals as goal

pub enter_bound-requires-clause-made : goal.enter_bound-requires-clause-made
enter_bound-requires-clause-made c =
    λ slot. binding.binding_made c.args.self.now c.args.endpoint.now c.args.way.now.queued c.args.way.now.peer c.args.way.now.channel c.free_ends-ends.result
    slot c.first_try-numbers.result c.next_number-number.result c.args.stamp c.node.result c.id.result c.sent-outcome.result c.bind_entry-entry.result
    (record {
      enabled = c.requires.enabled;
      front_is = c.requires.way.queued;
      home = c.requires.way.home;
      free = c.requires.way.free;
      counted = c.free_ends-ends.ensures.counted;
      sent_as = c.first_try-numbers.ensures;
      number_is = c.next_number-number.ensures;
    })
    c.node.ensures c.sent-outcome.ensures c.bind_entry-entry.ensures

pub enter_bound-requires-clause-allowed : goal.enter_bound-requires-clause-allowed
enter_bound-requires-clause-allowed c =
    let entry = binding.binding_entry c.args.self.now c.args.endpoint.now c.args.way.now.queued c.args.way.now.peer c.args.way.now.channel
    c.free_ends-ends.result c.first_try-numbers.result c.next_number-number.result c.args.stamp c.node.result c.id.result c.sent-outcome.result
    c.bind_entry-entry.result
    (record {
      enabled = c.requires.enabled;
      front_is = c.requires.way.queued;
      home = c.requires.way.home;
      free = c.requires.way.free;
      counted = c.free_ends-ends.ensures.counted;
      sent_as = c.first_try-numbers.ensures;
      number_is = c.next_number-number.ensures;
    })
    c.node.ensures c.id.ensures c.sent-outcome.ensures c.bind_entry-entry.ensures in
    binding.binding_allowed c.args.self.now c.args.endpoint.now c.args.stamp c.bind_entry-entry.result c.requires.at c.requires.packet entry

pub returns : goal.returns
returns c =
    let entry = binding.binding_entry c.args.self.now c.args.endpoint.now c.args.way.now.queued c.args.way.now.peer c.args.way.now.channel
    c.free_ends-ends.result c.first_try-numbers.result c.next_number-number.result c.args.stamp c.node.result c.id.result c.sent-outcome.result
    c.bind_entry-entry.result
    (record {
      enabled = c.requires.enabled;
      front_is = c.requires.way.queued;
      home = c.requires.way.home;
      free = c.requires.way.free;
      counted = c.free_ends-ends.ensures.counted;
      sent_as = c.first_try-numbers.ensures;
      number_is = c.next_number-number.ensures;
    })
    c.node.ensures c.id.ensures c.sent-outcome.ensures c.bind_entry-entry.ensures in
    turning.turns_with c.args.self.now c.enter_bound.new.self c.args.endpoint.now c.enter_bound.new.endpoint c.args.stamp
    (Works.Bind c.args.endpoint.now.settings.id) c.bind_entry-entry.result c.enter_bound.result entry
    (record {
      logged = c.enter_bound.ensures.logged;
      enabled = c.enter_bound.ensures.enabled;
      full = c.enter_bound.ensures.full;
      err = c.enter_bound.ensures.err;
    })
    (record {
      same = c.enter_bound.ensures.settings;
      there = c.enter_bound.ensures.there;
      flies = c.enter_bound.ensures.flights;
      err = c.enter_bound.ensures.err_there;
      err_flights = c.enter_bound.ensures.err_flights;
      kept = c.enter_bound.ensures.kept;
    })
