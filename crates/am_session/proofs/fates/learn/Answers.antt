use Rattle.am_session.proofs.Knowing.{learned}
use Rattle.am_session.proofs.fates.learn.Goals as goal

pub returns : goal.returns
returns c =
    let updates = rw (c.with-known.ensures, c.known_in.ensures) at c.in_ok-insert.ensures.updates in
    learned c.args.table.now c.insert.new.self c.args.message c.args.news updates
