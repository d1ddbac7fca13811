use Rattle.std.proofs.Common.{ℕ, List, refl, subst}
use Rattle.am_cluster_opening.specs.Making.{AreSeated}
use Rattle.am_cluster_opening.proofs.Opened.{crew_is, crew_unused, is_made, made_of}
use Rattle.am_cluster_opening.proofs.crews.open_crew.Goals as goal

pub returns-clause-crew : goal.returns-clause-crew
returns-clause-crew c =
    let o = c.args.opening in
    let w = c.in_ok-seated.seated in
    let seated : AreSeated c.args.scenario.now o.threads.items o.seats.items w =
    subst (λ (ids : List ℕ). AreSeated c.args.scenario.now ids o.seats.items w) c.deref.ensures.value c.in_ok-seated.ensures in
    crew_is c.args.scenario.now o seated.guests w.interface w.driver c.args.outs.items c.args.ins.items
    (made_of c.args.first o w.threads w.interface w.driver c.args.outs c.args.ins c.in_ok-waits.waits)
    c.requires.lawful c.requires.packet c.requires.opening c.requires.declared c.requires.links
    (is_made c.args.scenario.now c.args.first o seated.guests w.threads w.interface w.driver c.args.outs c.args.ins c.in_ok-waits.waits seated.seats'
    seated.threads')
    c.new_workers_are_at_work.ensures.threads c.new_workers_are_at_work.ensures.interfaces c.new_workers_are_at_work.ensures.drivers

pub returns-clause-unused : goal.returns-clause-unused
returns-clause-unused c =
    let w = c.in_ok-seated.seated in
    crew_unused c.args.scenario.now c.args.opening.node c.args.outs.items c.args.ins.items
    (made_of c.args.first c.args.opening w.threads w.interface w.driver c.args.outs c.args.ins c.in_ok-waits.waits) c.requires.links refl refl refl
