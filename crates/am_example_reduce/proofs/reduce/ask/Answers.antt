use Rattle.std.proofs.Common.{List, sym, subst, take, take_all, arith}
use Rattle.std.proofs.lemmas.List.{take_more}
use Rattle.am_names.specs.declared.Words.{Words}
use Rattle.am_example_reduce.specs.Rounds.{Asks}
use Rattle.am_example_reduce.proofs.Scripts.{asks_begin}
use Rattle.am_example_reduce.proofs.reduce.ask.Goals as goal

pub loop-words-init : goal.loop-words-init
loop-words-init c = λ plan asks. asks

pub loop-words-preserved : goal.loop-words-preserved
loop-words-preserved c = λ plan asks.
    subst (λ (ws : List Words). Asks plan ws c.send.new.draft) (sym (take_more c.args.numbers.now c.loop-words.words-index _ c.loop-words-test.true))
    (c.in_ok-send.ensures plan (take c.loop-words.words-index c.args.numbers.now) (c.loop-words.invariant plan asks))

pub returns : goal.returns
returns c = λ plan script planned.
    subst (λ (ws : List Words). Asks plan ws c.loop-words.draft)
    (take_all c.loop-words.words-index c.args.numbers.now (omega (arith, c.loop-words-test.false)))
    (c.loop-words.invariant plan (asks_begin plan c.args.draft.now c.handler.new.self script planned c.in_ok-handler.ensures.ok))
