use Rattle.std.proofs.Common.{sym}
use Rattle.am_library_drafts.specs.Drafts.{with_plan}
use Rattle.am_library_drafts.proofs.Drafted.{plan_kept, put_kept}
use Rattle.am_library_drafts.proofs.draft.Draft.plan.Goals as goal

pub invariant_of-self : goal.invariant_of-self
invariant_of-self c =
    let s = c.self.inside.scenario in
    put_kept c.put_line.result s c.put_line.new.scenario (with_plan s c.args.line) c.self.invariant (plan_kept s c.args.line c.self.invariant
    (sym c.in-None.ensures)) c.put_line.ensures.ok
    c.put_line.ensures.err
