use Rattle.std.proofs.Common.{◌≡◌, ℕ, map, rules}
use Rattle.std.specs.Global.{Vec}
use Rattle.std.specs.Map.Iter.{deref_pair}
use Rattle.std.proofs.lemmas.Map.Iter.{iter_end}
use Rattle.am_job.proofs.Told.{all_rows_told, row_kept, row_passed, words_ascend}
use Rattle.am_job.proofs.words.tally.Tally.rows.Goals as goal

pub loop-word-preserved-in_ok-push : goal.loop-word-preserved-in_ok-push
loop-word-preserved-in_ok-push c =
    row_kept (λ (k : Vec ℕ). k.items) c.loop-word.yielded (c.in-Some.word, c.in-Some.count) c.loop-word.rows.items c.push.new.self.items c.in_ok-new.field-0
    c.deref.result.now
    c.loop-word.invariant c.if-count-ne0.true c.deref.ensures.value c.in_ok-new.ensures c.in_ok-push.ensures.items

pub loop-word-preserved : goal.loop-word-preserved
loop-word-preserved c = row_passed (λ (k : Vec ℕ). k.items) c.loop-word.yielded (
  c.in-Some.word,
  c.in-Some.count,
) c.loop-word.rows.items c.loop-word.invariant c.if-count-ne0.false

pub returns-clause-rows : goal.returns-clause-rows
returns-clause-rows c =
    let all : map deref_pair c.loop-word.yielded ≡ c.self.inside.counts.entries = search (rules, iter_end) in
    all_rows_told (λ (k : Vec ℕ). k.items) c.loop-word.yielded c.self.inside.counts.entries c.args.self.now c.loop-word.rows.items c.loop-word.invariant all
    c.self.view_is

pub returns-clause-ascend : goal.returns-clause-ascend
returns-clause-ascend c = words_ascend (λ (k : Vec ℕ). k.items) c.self.inside.counts.entries c.args.self.now c.self.view_is c.iter-word-items.ensures.ordered
