use Rattle.std.proofs.Common.{◌≡◌, List, ◌++◌, ap, ◌∙◌, subst}
use Rattle.std.specs.Prelude.{OnOk}
use Rattle.am_endpoint.specs.View.{state_after}
use Rattle.am_endpoint_body.specs.Views.{View}
use Rattle.am_model.specs.Endpoint.{is_on_disk}
use Rattle.am_names.specs.declared.Serial.{Serial}
use Rattle.am_lab_state.specs.Messages.{body_named}
use Rattle.am_lab_state.proofs.Holding.{named_is}
use Rattle.am_lab_state.proofs.named.name_end.Goals as goal

pub returns-in-Some : goal.returns-in-Some
returns-in-Some c =
    let s = state_after c.args.end.now in
    let same = ap (λ (v : View). body_named v.body) c.in-Some.ensures.body
    ∙ named_is c.in-Some.body (is_on_disk s.head.place) s.body c.in-Some.ensures.none in
    subst (λ (t : List Serial). OnOk c.name_body.result (c.name_body.new.named.items ≡ c.args.named.now.items ++ t)) same c.name_body.ensures
