use Rattle.std.specs.Prelude.{Err, IfSome}
use Rattle.std.proofs.Common.{◌≡◌, ◌<◌, [], ◌∷◌, ◌++◌, Option, sym, ap, ◌∙◌, subst, arith}
use Rattle.am_names.specs.declared.NodeId.{NodeId}
use Rattle.am_office_entries.specs.declared.Entry.{Entry}
use Rattle.am_office_entries.specs.declared.Place.TheVariants.{Host}
use Rattle.am_model.specs.Endpoint.{State, fresh}
use Rattle.am_model.specs.Parts.{last_stamp}
use Rattle.am_iface.specs.Turns.{entry_by, stamp_after}
use Rattle.am_iface.specs.View.{InterfaceView, own}
use Rattle.am_machine_journal.specs.Index.View.{CanCount, IsIndexOf, Readings}
use Rattle.am_model.specs.declared.EntryFault.{EntryFault}
use Rattle.am_machine.specs.Turned.{TurnsAlone, entry_of_work}
use Rattle.am_machine.specs.Ways.{GoesTo}
use Rattle.am_machine.proofs.LastMade as lasts
use Rattle.am_machine.proofs.Turning as turning
use Rattle.am_machine.proofs.turned.turn_alone.Goals as goal

pub unreachable-requires : goal.unreachable-requires
unreachable-requires c =
    let i = c.args.interface.now in
    let s : State = fresh (record { 0 = 0 }) Host in
    let x = entry_by i s (stamp_after c.greatest_stamp.result i.log c.args.work.now) c.args.work.now in
    lasts.not_none c.last_entry.result x (c.last_entry.ensures.last i.log x (ap (λ (v : InterfaceView). v.log) (c.in-Ok.ensures.logged s))) c.in_default.is

pub log-requires-clause-counts : goal.log-requires-clause-counts
log-requires-clause-counts c = subst CanCount (sym c.room_to.ensures.read) c.requires.can.counts

pub log-requires-clause-room : goal.log-requires-clause-room
log-requires-clause-room c =
    let i = c.args.interface.now in
    let w = c.args.work.now in
    let s : State = fresh (record { 0 = 0 }) Host in
    let x = entry_by i s (stamp_after c.greatest_stamp.result i.log w) w in
    let same : c.in-Some.entry.now ≡ x = lasts.read_last c.last_entry.result c.in-Some.entry x
    (c.last_entry.ensures.last i.log x (ap (λ (v : InterfaceView). v.log) (c.in-Ok.ensures.logged s))) c.in-Some.is in
    turning.out_has_room c.room_to.new.self i s w c.in-Some.entry.now c.emitted_of.result c.emits_to-to.result
    (subst (GoesTo (own i) s w) (sym c.emits_to-to.ensures.value) (turning.goes_alone (own i) s w c.requires.alone))
    (turning.enabled_by i s w tt c.make_alone.result c.in-Ok.is (λ k. (c.make_alone.ensures.disabled s k).1))
    c.requires.can.nodes.0
    (subst (λ (o : Option NodeId). IfSome o (λ (n : NodeId). n.0 < 16)) (sym c.emits_to-to.ensures.value)
    (turning.emits_within i w c.requires.can.fits c.requires.can.nodes.1))
    (turning.ready_from c.room_to.new.self c.node.result i.settings.node c.emits_to-to.result c.node.ensures
    (turning.ok_then c.room_to.result _ (sym c.is_err.ensures.value ∙ c.if-is_err.false) c.room_to.ensures.link))
    c.emitted_of.ensures (ap (λ (y : Entry). y.event) same) (ap (λ (y : Entry). y.outcome) same)

pub log-requires-clause-nodes : goal.log-requires-clause-nodes
log-requires-clause-nodes c =
    let i = c.args.interface.now in
    let w = c.args.work.now in
    let s : State = fresh (record { 0 = 0 }) Host in
    let x = entry_by i s (stamp_after c.greatest_stamp.result i.log w) w in
    let same : c.in-Some.entry.now ≡ x = lasts.read_last c.last_entry.result c.in-Some.entry x
    (c.last_entry.ensures.last i.log x (ap (λ (v : InterfaceView). v.log) (c.in-Ok.ensures.logged s))) c.in-Some.is in
    turning.work_nodes i w c.in-Some.entry.now.event (ap (λ (y : Entry). y.event) same) c.requires.can.fits c.requires.can.nodes.0 c.requires.can.nodes.1

pub returns-in-Some-clause-turns : goal.returns-in-Some-clause-turns
returns-in-Some-clause-turns c past s is =
    let i = c.args.interface.now in
    let w = c.args.work.now in
    let last = c.requires.can.last in
    let packet = c.requires.can.packet in
    turning.turned_ok i c.make_alone.new.self past s w c.make_alone.result tt c.in-Ok.is
    (λ k. (c.make_alone.ensures.disabled s k).1) (λ p. (c.make_alone.ensures.full s p).1)
    (c.in-Ok.ensures.logged s ∙ ap (λ (y : Entry). record i { log = i.log ++ y ∷ [] })
    (turning.logged_entry i past s w c.greatest_stamp.result (last_stamp i.log)
    (c.greatest_stamp.ensures ∙ ap (λ (r : Readings). r.greatest) c.room_to.ensures.read ∙ is.greatest)
    (omega (arith, last, is.greatest)) (omega (arith, packet, is.greatest))))

pub returns-in-Some-clause-index : goal.returns-in-Some-clause-index
returns-in-Some-clause-index c past s is =
    let i = c.args.interface.now in
    let w = c.args.work.now in
    let last = c.requires.can.last in
    let packet = c.requires.can.packet in
    let x = entry_by i s (stamp_after c.greatest_stamp.result i.log w) w in
    let same : c.in-Some.entry.now ≡ x = lasts.read_last c.last_entry.result c.in-Some.entry x
    (c.last_entry.ensures.last i.log x (ap (λ (v : InterfaceView). v.log) (c.in-Ok.ensures.logged s))) c.in-Some.is in
    let made : x ≡ entry_of_work i past s w =
    turning.logged_entry i past s w c.greatest_stamp.result (last_stamp i.log)
    (c.greatest_stamp.ensures ∙ ap (λ (r : Readings). r.greatest) c.room_to.ensures.read ∙ is.greatest)
    (omega (arith, last, is.greatest)) (omega (arith, packet, is.greatest)) in
    subst (λ (y : Entry). IsIndexOf (past ++ y ∷ []) c.log.new.self.read) (same ∙ made)
    (c.log.ensures past (turning.index_same past c.args.index.now.read c.room_to.new.self.read c.room_to.ensures.read is))

pub returns-in-Err-clause-turns : goal.returns-in-Err-clause-turns
returns-in-Err-clause-turns c past s is =
    turning.turned_err c.args.interface.now c.make_alone.new.self past s c.args.work.now c.make_alone.result c.in-Err.fault c.in-Err.is
    (λ k. (c.make_alone.ensures.disabled s k).0) (λ p. (c.make_alone.ensures.full s p).0) (c.make_alone.ensures.starved s) c.in-Err.ensures.err

pub returns-in-Err-clause-index : goal.returns-in-Err-clause-index
returns-in-Err-clause-index c past s is = turning.index_same past c.args.index.now.read c.room_to.new.self.read c.room_to.ensures.read is

pub returns-then-is_err-clause-turns : goal.returns-then-is_err-clause-turns
returns-then-is_err-clause-turns c past s is =
    subst (λ (fault : EntryFault). TurnsAlone c.args.interface.now c.args.interface.now past s c.args.work.now (Err fault)) (sym c.unwrap_or.ensures)
    (turning.starved_alone c.args.interface.now past s c.args.work.now c.refusal_alone.result (c.refusal_alone.ensures s))

pub returns-then-is_err-clause-index : goal.returns-then-is_err-clause-index
returns-then-is_err-clause-index c past s is = turning.index_same past c.args.index.now.read c.room_to.new.self.read c.room_to.ensures.read is
