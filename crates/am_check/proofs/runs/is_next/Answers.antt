use Rattle.std.proofs.Common.{◌≡◌, Some, sym, ap, ◌∙◌}
use Rattle.am_model_scripts.specs.Scripts.{call_left}
use Rattle.am_check.proofs.runs.is_next.Goals as goal

pub returns-in-Some : goal.returns-in-Some
returns-in-Some c =
    let at : call_left c.args.run.now.scenario c.args.run.now.journal c.args.call.thread ≡ Some c.in-Some.next = sym c.next_call.ensures ∙ c.in-Some.is in
    (λ t. at ∙ ap Some (c.is_same_script_call.ensures.0 t), λ e. let same : c.in-Some.next ≡ c.args.call = cc (at, e) in c.is_same_script_call.ensures.1 same)
