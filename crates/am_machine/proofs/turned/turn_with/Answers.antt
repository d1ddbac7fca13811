use Rattle.std.specs.Prelude.{Err, max}
use Rattle.std.proofs.Common.{◌≡◌, [], ◌∷◌, ◌++◌, sym, ap, ◌∙◌, subst, arith}
use Rattle.am_endpoint.specs.View.{state_after}
use Rattle.am_office_entries.specs.declared.Entry.{Entry}
use Rattle.am_iface.specs.Turns.{entry_by, stamp_after}
use Rattle.am_iface.specs.View.{InterfaceView}
use Rattle.am_model.specs.Parts.{last_stamp}
use Rattle.am_machine_journal.specs.Index.View.{CanCount, IsIndexOf, Readings}
use Rattle.am_model.specs.declared.EntryFault.{EntryFault}
use Rattle.am_machine.specs.Turned.{TurnsWith, entry_of_work}
use Rattle.am_machine.proofs.LastMade as lasts
use Rattle.am_machine.proofs.Turning as turning
use Rattle.am_machine.proofs.turned.turn_with.Goals as goal

pub log-requires-clause-counts : goal.log-requires-clause-counts
log-requires-clause-counts c = subst CanCount (sym c.room_to.ensures.read) c.requires.can.turn.counts

pub make_with-requires-clause-last_there : goal.make_with-requires-clause-last_there
make_with-requires-clause-last_there c =
    let late = c.requires.can.last in
    let at = c.greatest_stamp.ensures ∙ ap (λ (r : Readings). r.greatest) c.room_to.ensures.read in
    let more = c.requires.can.turn.stamp in
    omega (arith, late, at, more)

pub unreachable-requires : goal.unreachable-requires
unreachable-requires c =
    let i = c.args.interface.now in
    let w = c.args.work.now in
    let one = c.args.endpoint.now in
    let x = entry_by i (state_after one) (stamp_after (max c.greatest_stamp.result (last_stamp one.log)) i.log w) w in
    lasts.not_none c.last_entry.result x (c.last_entry.ensures.last i.log x (ap (λ (v : InterfaceView). v.log) c.in-Ok.ensures.logged)) c.in_default.is

pub log-requires-clause-room : goal.log-requires-clause-room
log-requires-clause-room c =
    let i = c.args.interface.now in
    let w = c.args.work.now in
    let one = c.args.endpoint.now in
    let x = entry_by i (state_after one) (stamp_after (max c.greatest_stamp.result (last_stamp one.log)) i.log w) w in
    let same : c.in-Some.entry.now ≡ x = lasts.read_last c.last_entry.result c.in-Some.entry x
    (c.last_entry.ensures.last i.log x (ap (λ (v : InterfaceView). v.log) c.in-Ok.ensures.logged)) c.in-Some.is in
    turning.out_has_room c.room_to.new.self i (state_after one) w c.in-Some.entry.now c.emitted_of.result c.args.to
    c.requires.goes
    (turning.enabled_by i (state_after one) w tt c.make_with.result c.in-Ok.is (λ k. (c.make_with.ensures.disabled k).1))
    c.requires.can.turn.nodes.0 c.requires.within
    (turning.ready_from c.room_to.new.self c.node.result i.settings.node c.args.to c.node.ensures
    (turning.ok_then c.room_to.result _ (sym c.is_err.ensures.value ∙ c.if-is_err.false) c.room_to.ensures.link))
    c.emitted_of.ensures (ap (λ (y : Entry). y.event) same) (ap (λ (y : Entry). y.outcome) same)

pub log-requires-clause-nodes : goal.log-requires-clause-nodes
log-requires-clause-nodes c =
    let i = c.args.interface.now in
    let w = c.args.work.now in
    let one = c.args.endpoint.now in
    let x = entry_by i (state_after one) (stamp_after (max c.greatest_stamp.result (last_stamp one.log)) i.log w) w in
    let same : c.in-Some.entry.now ≡ x = lasts.read_last c.last_entry.result c.in-Some.entry x
    (c.last_entry.ensures.last i.log x (ap (λ (v : InterfaceView). v.log) c.in-Ok.ensures.logged)) c.in-Some.is in
    turning.work_nodes i w c.in-Some.entry.now.event (ap (λ (y : Entry). y.event) same) c.requires.can.turn.fits c.requires.can.turn.nodes.0
    c.requires.can.turn.nodes.1

pub returns-in-Some-clause-turns : goal.returns-in-Some-clause-turns
returns-in-Some-clause-turns c past is =
    let i = c.args.interface.now in
    let w = c.args.work.now in
    let one = c.args.endpoint.now in
    let x = entry_by i (state_after one) (stamp_after (max c.greatest_stamp.result (last_stamp one.log)) i.log w) w in
    let f = c.make_with.new.endpoint in
    let can = c.requires.can in
    let at = c.greatest_stamp.ensures ∙ ap (λ (r : Readings). r.greatest) c.room_to.ensures.read ∙ is.greatest in
    let late = can.last in
    let last = can.turn.last in
    let packet = can.turn.packet in
    let floor : max c.greatest_stamp.result (last_stamp one.log) ≡ c.greatest_stamp.result =
    turning.max_floor c.greatest_stamp.result (last_stamp one.log) (omega (arith, late, at, is.greatest)) in
    let made : x ≡ entry_of_work i past (state_after one) w =
    turning.logged_entry i past (state_after one) w (max c.greatest_stamp.result (last_stamp one.log)) (last_stamp i.log) (floor
    ∙ at) (omega (arith, last, is.greatest)) (omega (arith, packet, is.greatest)) in
    turning.turned_with_ok i c.make_with.new.self one f past w c.make_with.result tt c.in-Ok.is
    can.short
    (λ k. (c.make_with.ensures.disabled k).1) (λ p. (c.make_with.ensures.full p).1)
    (c.in-Ok.ensures.logged ∙ ap (λ (y : Entry). record i { log = i.log ++ y ∷ [] }) made)
    c.in-Ok.ensures.settings_there (c.in-Ok.ensures.logged_there ∙ ap (λ (y : Entry). one.log ++ y ∷ []) made)

pub returns-in-Some-clause-index : goal.returns-in-Some-clause-index
returns-in-Some-clause-index c past is =
    let i = c.args.interface.now in
    let w = c.args.work.now in
    let one = c.args.endpoint.now in
    let x = entry_by i (state_after one) (stamp_after (max c.greatest_stamp.result (last_stamp one.log)) i.log w) w in
    let same : c.in-Some.entry.now ≡ x = lasts.read_last c.last_entry.result c.in-Some.entry x
    (c.last_entry.ensures.last i.log x (ap (λ (v : InterfaceView). v.log) c.in-Ok.ensures.logged)) c.in-Some.is in
    let f = c.make_with.new.endpoint in
    let can = c.requires.can in
    let at = c.greatest_stamp.ensures ∙ ap (λ (r : Readings). r.greatest) c.room_to.ensures.read ∙ is.greatest in
    let late = can.last in
    let last = can.turn.last in
    let packet = can.turn.packet in
    let floor : max c.greatest_stamp.result (last_stamp one.log) ≡ c.greatest_stamp.result =
    turning.max_floor c.greatest_stamp.result (last_stamp one.log) (omega (arith, late, at, is.greatest)) in
    let made : x ≡ entry_of_work i past (state_after one) w =
    turning.logged_entry i past (state_after one) w (max c.greatest_stamp.result (last_stamp one.log)) (last_stamp i.log) (floor
    ∙ at) (omega (arith, last, is.greatest)) (omega (arith, packet, is.greatest)) in
    subst (λ (y : Entry). IsIndexOf (past ++ y ∷ []) c.log.new.self.read) (same ∙ made)
    (c.log.ensures past (turning.index_same past c.args.index.now.read c.room_to.new.self.read c.room_to.ensures.read is))

pub returns-in-Err-clause-turns : goal.returns-in-Err-clause-turns
returns-in-Err-clause-turns c past is =
    turning.turned_with_err c.args.interface.now c.make_with.new.self c.args.endpoint.now c.make_with.new.endpoint past c.args.work.now c.make_with.result
    c.in-Err.fault c.in-Err.is
    (λ k. (c.make_with.ensures.disabled k).0) (λ p. (c.make_with.ensures.full p).0) c.make_with.ensures.starved c.in-Err.ensures.err
    (λ k. record { settings = c.in-Err.ensures.settings_there k; log = c.in-Err.ensures.err_there k })

pub returns-in-Err-clause-index : goal.returns-in-Err-clause-index
returns-in-Err-clause-index c past is = turning.index_same past c.args.index.now.read c.room_to.new.self.read c.room_to.ensures.read is

pub returns-then-is_err-clause-turns : goal.returns-then-is_err-clause-turns
returns-then-is_err-clause-turns c past is =
    subst (λ (fault : EntryFault). TurnsWith c.args.interface.now c.args.interface.now c.args.endpoint.now c.args.endpoint.now past c.args.work.now (Err fault))
    (sym c.unwrap_or.ensures)
    (turning.starved_with c.args.interface.now c.args.endpoint.now past c.args.work.now c.refusal_with.result c.refusal_with.ensures)

pub returns-then-is_err-clause-index : goal.returns-then-is_err-clause-index
returns-then-is_err-clause-index c past is = turning.index_same past c.args.index.now.read c.room_to.new.self.read c.room_to.ensures.read is
