use Rattle.std.proofs.Common.{◌≡◌, ℕ, List, ◌++◌, ap, ◌∙◌, subst}
use Rattle.std.specs.Prelude.{OnOk}
use Rattle.am_endpoint.specs.View.{state_after}
use Rattle.am_endpoint_body.specs.Views.{View}
use Rattle.am_model.specs.Endpoint.{is_on_disk}
use Rattle.am_lab_state.specs.Ends.{body_lines}
use Rattle.am_lab_state.proofs.Holding.{in_memory_is}
use Rattle.am_lab_state.proofs.ends.put_held.Goals as goal

pub returns-in-Some : goal.returns-in-Some
returns-in-Some c =
    let s = state_after c.args.end.now in
    let same = ap (λ (v : View). body_lines c.args.id c.args.pool v.body) c.in-Some.ensures.body
    ∙ in_memory_is c.in-Some.body (is_on_disk s.head.place) c.args.id c.args.pool s.body c.in-Some.ensures.none in
    subst (λ (t : List ℕ). OnOk c.put_body.result (c.put_body.new.out.items ≡ c.args.out.now.items ++ t)) same c.put_body.ensures
