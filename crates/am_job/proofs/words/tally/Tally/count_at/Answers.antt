use Rattle.std.proofs.Common.{◌∙◌, ℕ}
use Rattle.std.specs.Global.{Vec}
use Rattle.am_job.proofs.Tallied.{count_found}
use Rattle.am_job.proofs.words.tally.Tally.count_at.Goals as goal

pub returns : goal.returns
returns c = count_found (λ (k : Vec ℕ). k.items) c.self.inside.counts.entries c.args.self.now c.args.word.now _ c.unwrap_or.result c.self.view_is
    (c.copied.ensures ∙ c.get.ensures.value) c.unwrap_or.ensures
