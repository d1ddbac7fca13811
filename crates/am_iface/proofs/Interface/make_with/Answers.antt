use Rattle.std.proofs.Common.{ℕ, subst}
use Rattle.am_iface.specs.With.{TurnsWith}
use Rattle.am_iface.proofs.TurningWith.{starved_with}
use Rattle.am_iface.proofs.Interface.make_with.Goals as goal

pub returns : goal.returns
returns c =
    let turns = subst (λ (n : ℕ). TurnsWith c.args.self.now c.work_with.new.self c.args.endpoint.now c.work_with.new.endpoint n c.args.work.now
    c.work_with.result) c.stamp_with-stamp.ensures c.work_with.ensures in
    record {
      logged = turns.logged;
      logged_there = turns.there;
      flights_there = turns.flies;
      settings_there = turns.same;
      disabled = turns.disabled;
      full = turns.full;
      starved = starved_with c.args.self.now c.work_with.new.self c.args.endpoint.now c.work_with.new.endpoint _ c.args.work.now c.work_with.result turns;
      err = turns.err;
      err_there = turns.err_there;
      err_flights = turns.err_flights;
      kept = turns.kept;
    }
