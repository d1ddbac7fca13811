use Rattle.std.specs.Prelude.{cond}
use Rattle.std.proofs.Common.{sym, subst}
use Rattle.am_names.specs.Names.{same_end}
use Rattle.am_model.specs.Endpoint.{State}
use Rattle.am_model.specs.Changes.{left, reached}
use Rattle.am_endpoint_body.specs.Views.{Fits}
use Rattle.am_endpoint.specs.Seen.{state_in}
use Rattle.am_endpoint.proofs.Fitting.{fits_before}
use Rattle.am_endpoint.proofs.fields.Fields.carry.Goals as goal

pub leave_from-requires : goal.leave_from-requires
leave_from-requires c =
    let s = state_in c.args.self.now in
    fits_before c.args.e (cond (same_end c.args.e c.args.from) (left s c.args.outcome.now) s) c.args.outcome.now c.requires

pub reach-requires : goal.reach-requires
reach-requires c = subst (λ (s : State). Fits (reached c.args.e s c.args.outcome.now).body) (sym c.leave_from.ensures.state) c.requires
