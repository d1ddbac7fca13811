use Rattle.std.proofs.Common.{◌≡◌, false, sym, arith, slice_index_or, slice_set, length, ◌<◌}
use Rattle.std.proofs.lemmas.List.{length-set}
use Rattle.std.proofs.lemmas.Option.{slice_get-get_or}
use Rattle.am_machine.specs.Carries.{ArrivesAt, CarriesFrom, is_place}
use Rattle.am_machine.proofs.Places.{at_read, place_apart, set_other, still_at, carried_one, carried_two}
use Rattle.am_machine.proofs.ends.carry_between.Goals as goal

pub carry_out-requires-clause-ready : goal.carry_out-requires-clause-ready
carry_out-requires-clause-ready c = (at_read c.args.ends.now c.args.source (CarriesFrom c.args.entry) c.index-ends-source.result c.requires.source
    c.requires.carries).ready

pub carry_out-requires-clause-room : goal.carry_out-requires-clause-room
carry_out-requires-clause-room c = (at_read c.args.ends.now c.args.source (CarriesFrom c.args.entry) c.index-ends-source.result c.requires.source
    c.requires.carries).room

pub carry_out-requires-clause-allowed : goal.carry_out-requires-clause-allowed
carry_out-requires-clause-allowed c = (at_read c.args.ends.now c.args.source (CarriesFrom c.args.entry) c.index-ends-source.result c.requires.source
    c.requires.carries).carry

pub put-requires-clause-ready : goal.put-requires-clause-ready
put-requires-clause-ready c =
    let apart : is_place c.args.source c.args.dest ≡ false = place_apart c.args.source c.args.dest (λ same. c.if-dest-source.true (sym same)) in
    let vs = slice_set c.args.ends.now c.args.source c.carry_out.new.self in
    let within : c.args.dest < length vs = omega (arith, length-set c.args.ends.now c.args.source c.carry_out.new.self, c.requires.dest) in
    let at = still_at c.args.ends.now vs c.args.dest (ArrivesAt c.args.entry) (set_other c.args.ends.now c.args.source c.args.dest c.carry_out.new.self apart)
    (c.requires.arrives apart) in
    (at_read vs c.args.dest (ArrivesAt c.args.entry) c.index-ends-dest.result within at).ready

pub put-requires-clause-room : goal.put-requires-clause-room
put-requires-clause-room c =
    let apart : is_place c.args.source c.args.dest ≡ false = place_apart c.args.source c.args.dest (λ same. c.if-dest-source.true (sym same)) in
    let vs = slice_set c.args.ends.now c.args.source c.carry_out.new.self in
    let within : c.args.dest < length vs = omega (arith, length-set c.args.ends.now c.args.source c.carry_out.new.self, c.requires.dest) in
    let at = still_at c.args.ends.now vs c.args.dest (ArrivesAt c.args.entry) (set_other c.args.ends.now c.args.source c.args.dest c.carry_out.new.self apart)
    (c.requires.arrives apart) in
    (at_read vs c.args.dest (ArrivesAt c.args.entry) c.index-ends-dest.result within at).room

pub put-requires-clause-allowed : goal.put-requires-clause-allowed
put-requires-clause-allowed c =
    let apart : is_place c.args.source c.args.dest ≡ false = place_apart c.args.source c.args.dest (λ same. c.if-dest-source.true (sym same)) in
    let vs = slice_set c.args.ends.now c.args.source c.carry_out.new.self in
    let within : c.args.dest < length vs = omega (arith, length-set c.args.ends.now c.args.source c.carry_out.new.self, c.requires.dest) in
    let at = still_at c.args.ends.now vs c.args.dest (ArrivesAt c.args.entry) (set_other c.args.ends.now c.args.source c.args.dest c.carry_out.new.self apart)
    (c.requires.arrives apart) in
    (at_read vs c.args.dest (ArrivesAt c.args.entry) c.index-ends-dest.result within at).arrival

pub returns-then-dest-source : goal.returns-then-dest-source
returns-then-dest-source c =
    let apart : is_place c.args.source c.args.dest ≡ false = place_apart c.args.source c.args.dest (λ same. c.if-dest-source.true (sym same)) in
    let vs = slice_set c.args.ends.now c.args.source c.carry_out.new.self in
    let within : c.args.dest < length vs = omega (arith, length-set c.args.ends.now c.args.source c.carry_out.new.self, c.requires.dest) in
    carried_two c.args.ends.now c.args.source c.args.dest
    (slice_index_or c.args.ends.now c.args.source c.index-ends-source.result) c.carry_out.new.self
    (slice_index_or vs c.args.dest c.index-ends-dest.result) c.put.new.self c.args.entry apart
    (slice_get-get_or c.args.ends.now c.args.source c.index-ends-source.result c.requires.source) c.carry_out.ensures.settings c.carry_out.ensures.log
    (slice_get-get_or vs c.args.dest c.index-ends-dest.result within) c.put.ensures.settings c.put.ensures.log

pub returns-else-dest-source : goal.returns-else-dest-source
returns-else-dest-source c =
    carried_one c.args.ends.now c.args.source c.args.dest (slice_index_or c.args.ends.now c.args.source c.index-ends-source.result) c.carry_out.new.self
    c.args.entry
    (sym c.if-dest-source.false) (slice_get-get_or c.args.ends.now c.args.source c.index-ends-source.result c.requires.source) c.carry_out.ensures.settings
    c.carry_out.ensures.log
