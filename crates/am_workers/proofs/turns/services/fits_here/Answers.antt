use Rattle.std.proofs.Common.{subst}
use Rattle.am_iface.specs.Settings.{SettingsView}
use Rattle.am_iface.specs.View.{FitsInterface}
use Rattle.am_workers.proofs.turns.services.fits_here.Goals as goal

pub returns-then-fits-clause-fits : goal.returns-then-fits-clause-fits
returns-then-fits-clause-fits c is = subst (λ (set : SettingsView). FitsInterface (record { settings = set; log = c.args.interface.now.log }) c.args.work.now)
    c.requires.set (c.fits.ensures.fits c.if-fits.true c.args.interface.now.log)
