use Rattle.std.proofs.Common.{sym, ◌∙◌, true≢false}
use Rattle.am_machine.proofs.LastMade as lasts
use Rattle.am_machine.proofs.Cluster.last_there.Goals as goal

pub returns-in-Some : goal.returns-in-Some
returns-in-Some c past x is named =
    lasts.there_last c.in-Some.one.now.log c.log.result.now c.args.self.now.journal past x c.args.end _ c.log.ensures.log c.in-Some.ensures.log is named
    c.last.ensures.value

pub returns-in-None : goal.returns-in-None
returns-in-None c past x is named =
    absurd (true≢false (sym (lasts.there_declared c.args.self.now.layout c.args.self.now.journal past x c.args.end c.laws.ensures.history is named)
    ∙ sym c.in-None.ensures.known))
