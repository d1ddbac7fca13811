use Rattle.std.proofs.Common.{◌+◌, sym, subst}
use Rattle.am_iface.specs.Settings.{AreLawful, SettingsView}
use Rattle.am_workers_laws.specs.Invariants.Works.{Hand}
use Rattle.am_workers.specs.Turns.Servers.{IfMade, IsRanged}
use Rattle.am_workers.proofs.Done.{turn_keeps}
use Rattle.am_workers.proofs.Ranged.{serves}
use Rattle.am_workers.proofs.Same.{work_same}
use Rattle.am_workers.proofs.Sending.{all_sent, out_goes, settings_stay}
use Rattle.am_workers.proofs.Serving.{Serves, sent_all, sent_as}
use Rattle.am_workers.proofs.turns.servers.serve.Goals as goal

pub returns-clause-seat : goal.returns-clause-seat
returns-clause-seat c =
    let t = c.work_turn-turn in work_same c.args.work.now c.args.interface.now t.new.interface t.result c.args.seat.now.token.me.0 t.new.seat.token.me.0
    t.ensures.turn

pub returns-clause-settings : goal.returns-clause-settings
returns-clause-settings c =
    let t = c.work_turn-turn in settings_stay c.args.interface.now t.new.interface c.args.work.now t.result c.args.seat.now.token.me.0 t.new.seat.token.me.0
    t.ensures.turn

pub returns-clause-out : goal.returns-clause-out
returns-clause-out c =
    let t = c.work_turn-turn in let i = c.args.interface.now in
    out_goes i t.new.interface c.args.work.now t.result c.args.seat.now.token.me.0 t.new.seat.token.me.0
    (subst AreLawful c.requires.set c.requires.lawful)
    (subst (λ (set : SettingsView). IfMade t.result (IsRanged set c.args.work.now)) c.requires.set t.ensures.ranged)
    t.ensures.turn

pub returns-clause-sends : goal.returns-clause-sends
returns-clause-sends c =
    let t = c.work_turn-turn in let i = c.args.interface.now in
    all_sent i t.new.interface c.args.work.now t.result c.args.seat.now.token.me.0 t.new.seat.token.me.0
    (subst AreLawful c.requires.set c.requires.lawful)
    (subst (λ (set : SettingsView). IfMade t.result (IsRanged set c.args.work.now)) c.requires.set t.ensures.ranged)
    t.ensures.turn

pub returns-clause-works : goal.returns-clause-works
returns-clause-works c s turns sent sends taken of works all =
    let t = c.work_turn-turn in let i = c.args.interface.now in
    sent_as s c.args.ids.now i.settings.node (turns + 1) t.new.interface.log sends taken _ t.new.seat.token.me.0 all
    (subst (λ (z : Hand). Serves s c.args.ids.now i.settings.node (turns + 1) t.new.interface.log taken z t.new.seat.token.me.0) (sym c.hand_after.ensures)
    (turn_keeps s c.args.ids.now turns i t.new.interface taken c.args.hand.now c.args.work.now t.result c.args.seat.now.token.me.0 t.new.seat.token.me.0
    c.needs_is_touched.ensures
    (serves s i c.args.work.now t.result of (subst AreLawful c.requires.set c.requires.lawful)
    (subst (λ (set : SettingsView). IfMade t.result (IsRanged set c.args.work.now)) c.requires.set t.ensures.ranged))
    c.requires.hand (sent_all s c.args.ids.now i.settings.node turns i.log sent taken c.args.hand.now c.args.seat.now.token.me.0 works) t.ensures.turn))
