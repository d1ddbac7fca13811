use Rattle.std.proofs.Common.{ℕ, List, ◌++◌, ap, ◌∙◌}
use Rattle.am_endpoint.specs.View.{state_after}
use Rattle.am_model.specs.History.{state_of}
use Rattle.am_model.specs.Layout.{Layout}
use Rattle.am_model_scripts.specs.Layout.{layout_of}
use Rattle.am_lab_state.proofs.Writing.{key_told}
use Rattle.am_lab_state.proofs.nodes.put_key_of.Goals as goal

pub returns-in_ok-put_key-in-Some : goal.returns-in_ok-put_key-in-Some
returns-in_ok-put_key-in-Some c =
    let j = c.args.cluster.now.journal in
    let line = c.args.line.now in
    let held = c.in-Some.end.now in
    let same = key_told c.args.node line j held.log (state_after held) (state_of (layout_of c.args.scenario.now) j line.id) c.in-Some.ensures.log
    (c.in-Some.ensures.state ∙ ap (λ (l : Layout). state_of l j line.id) c.requires) in
    c.in_ok-put_key-in-Some.ensures ∙ ap (λ (t : List ℕ). c.args.out.now.items ++ t) same
