use Rattle.am_job.specs.Words.Counts.{word_asked}
use Rattle.am_job.specs.Words.Spelled.{spelled}
use Rattle.am_job.proofs.Tallied.{asks, asks_none}
use Rattle.am_job.proofs.words.tally.Tally.ask.Goals as goal

pub returns-in_default : goal.returns-in_default
returns-in_default c = asks_none c.args.self.now (word_asked c.args.call.now) c.in_default.ensures.exact

pub returns : goal.returns
returns c =
    asks c.args.self.now c.put.new.self (word_asked c.args.call.now) (spelled c.in-Some.word) c.as_bytes.result.now c.as_bytes-2.result.now
    c.count_at-count.result c.saturating_add-asked.result
    c.in-Some.ensures.exact c.as_bytes.ensures c.as_bytes-2.ensures c.count_at-count.ensures c.saturating_add-asked.ensures c.in_ok-put.ensures
