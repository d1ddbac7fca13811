use Rattle.std.proofs.Common.{ℕ}
use Rattle.std.specs.Global.{Vec}
use Rattle.am_job.proofs.Tallied.{count_kept}
use Rattle.am_job.proofs.words.tally.Tally.put.Goals as goal

pub returns : goal.returns
returns c = count_kept (λ (k : Vec ℕ). k.items) c.self.inside.counts.entries c.insert.new.self.entries c.in_ok-key.key c.args.count c.args.self.now
    c.args.word.now c.self.view_is c.in_ok-insert.ensures.entries c.in_ok-key.ensures.items
