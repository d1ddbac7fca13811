use Rattle.am_job.specs.Words.Counts.{word_run}
use Rattle.am_job.specs.Words.Spelled.{spelled}
use Rattle.am_job.proofs.Tallied.{sees, sees_none}
use Rattle.am_job.proofs.words.tally.Tally.see.Goals as goal

pub returns-in_default : goal.returns-in_default
returns-in_default c = sees_none c.args.self.now (word_run c.args.entry.now) c.in_default.ensures.exact

pub returns : goal.returns
returns c =
    sees c.args.self.now c.put.new.self (word_run c.args.entry.now) (spelled c.in-Some.word) c.as_bytes.result.now c.as_bytes-2.result.now
    c.count_at-count.result c.saturating_add-ran.result
    c.in-Some.ensures.exact c.as_bytes.ensures c.as_bytes-2.ensures c.count_at-count.ensures c.saturating_add-ran.ensures c.in_ok-put.ensures
