use Rattle.std.proofs.Common.{◌≡◌, ap, ◌∙◌}
use Rattle.am_lab_scenarios.specs.Replays.Laws.{replay_of}
use Rattle.am_lab_scenarios.proofs.Replaying.{prints_replay}
use Rattle.am_lab_scenarios.proofs.texts.replays.printed.Goals as goal

pub returns : goal.returns
returns c =
    let s = c.args.scenario.now in
    let entries : c.deref.result.now ≡ c.args.journal.now = c.deref.ensures.value ∙ c.journal.view_is in
    let text = c.in_ok-text.ensures.exact ∙ ap (replay_of s) entries in
    prints_replay c.replays_are_the_run.ensures s c.args.journal.now c.in_ok-text.text.items c.requires.lawful c.requires.run c.requires.few text
