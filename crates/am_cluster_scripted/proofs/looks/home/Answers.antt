use Rattle.std.proofs.Common.{sym, ap, ◌∙◌, Some}
use Rattle.am_model.specs.Layout.{Layout, declared, home}
use Rattle.am_model_scripts.specs.Layout.{layout_of}
use Rattle.am_model_scripts.proofs.Lawful.{lawful_layout}
use Rattle.am_cluster_scripted.proofs.Looking.{home_seat, no_home}
use Rattle.am_cluster_scripted.proofs.looks.home.Goals as goal

pub returns-in-Some-clause-seat : goal.returns-in-Some-clause-seat
returns-in-Some-clause-seat c =
    let s = c.args.scenario.now in
    home_seat (layout_of s) c.args.end c.node.result (lawful_layout s c.requires.parts.lawful)
    (ap (λ (l : Layout). home l c.args.end) (sym c.requires.parts.layout) ∙ c.in-Some.ensures.node ∙ ap Some (sym c.node.ensures))

pub returns-in-None-clause-value : goal.returns-in-None-clause-value
returns-in-None-clause-value c =
    no_home (layout_of c.args.scenario.now) c.args.end (sym (c.in-None.ensures.known ∙ ap (λ (l : Layout). declared l c.args.end) c.requires.parts.layout))
