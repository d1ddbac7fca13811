use Rattle.std.proofs.Common.{◌+◌, ℕ, List, ap, subst, ◌∙◌, length, arith}
use Rattle.std.specs.Prelude.{min}
use Rattle.am_job.specs.declared.words.codes.CodedWord.{CodedWord}
use Rattle.am_job.specs.Words.Lists.{WordCountLists}
use Rattle.am_job.specs.Rounds.{round_count}
use Rattle.am_job.specs.Count.Counting.{CountsAll}
use Rattle.am_job.specs.Count.Printed.{count_text}
use Rattle.am_job.proofs.Counted.{text_counted}
use Rattle.am_job.proofs.count.counting.count.Goals as goal

pub returns-clause-prints : goal.returns-clause-prints
returns-clause-prints g c =
    text_counted (g.R.Runner.is_run c.args.runner.now) c.args.w c.args.turns c.args.text.now c.in_ok-words.words.sent.items c.in_ok-tally.tally
    c.in_ok-rows.rows.items c.saturating_add-all.result c.in_ok-words.words.long c.in_ok-count_text.field-0.items
    c.requires.some c.requires.nodes (λ (i : ℕ). omega (arith, c.type_inv.text i)) c.requires.size c.in_ok-words.ensures.sent c.in_ok-rows.ensures.ascend
    (subst (λ (l : List CodedWord). CountsAll (g.R.Runner.is_run c.args.runner.now) c.args.w c.args.turns l (round_count c.args.w (length l))
    c.in_ok-tally.tally) c.deref.ensures.value c.in_ok-tally.ensures.counted)
    c.in_ok-rows.ensures.rows c.in_ok-words.ensures.long
    (c.saturating_add-all.ensures ∙ ap (λ (l : List CodedWord). min (length l + c.in_ok-words.words.long) 0xffff_ffff_ffff_ffff) c.as_slice.ensures.value)
    (c.in_ok-count_text.ensures ∙ ap (λ (l : List WordCountLists). count_text c.args.w c.args.turns c.saturating_add-all.result c.in_ok-words.words.long l)
    c.deref-2.ensures.value)
