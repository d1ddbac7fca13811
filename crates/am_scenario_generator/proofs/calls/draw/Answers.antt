use Rattle.am_scenario_generator.proofs.Drawn.{draw_none, draw_more, steps_none, step_more}
use Rattle.std.proofs.Common.{sym}
use Rattle.am_scenario_generator.proofs.calls.draw.Goals as goal

pub loop-place-init : goal.loop-place-init
loop-place-init c = record {
  calls = draw_none c.args.rng.now c.args.thread c.args.script.now.items;
  words = sym (steps_none c.args.rng.now);
}

pub loop-place-preserved : goal.loop-place-preserved
loop-place-preserved c =
    let pushed = rw c.drawn_call.ensures at c.in_ok-push.ensures.items in
    record {
      calls = draw_more c.args.rng.now c.loop-place.rng c.next_word-word.new.self c.args.thread c.loop-place.place c.next_word-word.result _ _ _
          c.loop-place.invariant.words c.next_word-word.ensures c.loop-place.invariant.calls pushed;
      words = step_more c.args.rng.now c.loop-place.rng _ c.loop-place.place c.next_word-word.result c.loop-place.invariant.words c.next_word-word.ensures;
    }
