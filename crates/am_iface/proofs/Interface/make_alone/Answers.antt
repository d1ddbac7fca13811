use Rattle.std.proofs.Common.{ℕ, subst}
use Rattle.am_model.specs.Endpoint.{State}
use Rattle.am_iface.specs.Turns.{Turns}
use Rattle.am_iface.proofs.Telling.{some_state}
use Rattle.am_iface.proofs.Turning.{starved_alone}
use Rattle.am_iface.proofs.Interface.make_alone.Goals as goal

pub returns : goal.returns
returns c =
    let turns = λ (s : State). subst (λ (n : ℕ). Turns c.args.self.now c.work_alone.new.self s n c.args.work.now c.work_alone.result)
    c.stamp_after-stamp.ensures (c.work_alone.ensures s) in
    record {
      logged = λ s. (turns s).logged;
      disabled = λ s. (turns s).disabled;
      full = λ s. (turns s).full;
      starved = λ s. starved_alone c.args.self.now c.work_alone.new.self s _ c.args.work.now c.work_alone.result (turns s);
      err = (turns some_state).err;
    }
