use Rattle.std.proofs.Common.{◌≡◌, ◌∙◌, false, refl, subst, sym, true}
use Rattle.am_iface.specs.Settings.{SettingsView}
use Rattle.am_workers.specs.Turns.Servers.{IsRanged}
use Rattle.am_workers.specs.Turns.Tests.{is_fit}
use Rattle.am_workers.specs.Turns.Turns.{Same}
use Rattle.am_workers.proofs.WorkTurns.{alone_done, if_made, why_alone, why_there, why_unfit}
use Rattle.am_workers.proofs.turns.services.work_turn.Goals as goal

pub returns-then-not-fits_here-clause-turn : goal.returns-then-not-fits_here-clause-turn
returns-then-not-fits_here-clause-turn c = (Same refl, refl)

pub returns-then-not-fits_here-clause-why : goal.returns-then-not-fits_here-clause-why
returns-then-not-fits_here-clause-why c =
    why_unfit c.args.ids.now c.args.work.now c.args.interface.now c.args.seat.now.token.me.0
    (subst (λ (set : SettingsView). is_fit set c.args.work.now ≡ false) c.requires.set (sym c.fits_here.ensures.value ∙ c.if-not-fits_here.true))

pub returns-in-None-clause-turn : goal.returns-in-None-clause-turn
returns-in-None-clause-turn c = alone_done c.args.work.now c.args.interface.now c.alone_turn.new.interface c.alone_turn.result c.args.seat.now.token.me.0
    c.alone_turn.ensures

pub returns-in-None-clause-why : goal.returns-in-None-clause-why
returns-in-None-clause-why c =
    why_alone c.args.ids.now c.args.work.now c.args.interface.now c.alone_turn.new.interface c.alone_turn.result c.args.seat.now.token.me.0
    (subst (λ (set : SettingsView). is_fit set c.args.work.now ≡ true) c.requires.set (sym c.fits_here.ensures.value ∙ c.if-not-fits_here.false))
    (sym c.needs.ensures.value ∙ c.in-None.is) c.alone_turn.ensures

pub returns-in-None-clause-ranged : goal.returns-in-None-clause-ranged
returns-in-None-clause-ranged c =
    if_made c.alone_turn.result (IsRanged c.args.set.now c.args.work.now) (c.fits_here.ensures.ranged c.if-not-fits_here.false)

pub returns-in-Some-clause-why : goal.returns-in-Some-clause-why
returns-in-Some-clause-why c =
    why_there c.args.ids.now c.in-Some.end c.args.work.now c.args.interface.now c.with_turn.result c.args.seat.now.token.me.0
    c.with_turn.new.seat.token.me.0
    (subst (λ (set : SettingsView). is_fit set c.args.work.now ≡ true) c.requires.set (sym c.fits_here.ensures.value ∙ c.if-not-fits_here.false))
    (sym c.needs.ensures.value ∙ c.in-Some.is) c.with_turn.ensures.why

pub returns-in-Some-clause-ranged : goal.returns-in-Some-clause-ranged
returns-in-Some-clause-ranged c =
    if_made c.with_turn.result (IsRanged c.args.set.now c.args.work.now) (c.fits_here.ensures.ranged c.if-not-fits_here.false)
