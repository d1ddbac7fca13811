use Rattle.std.proofs.Common.{sym}
use Rattle.am_library_drafts.specs.Drafts.{with_call}
use Rattle.am_library_drafts.proofs.Drafted.{call_kept, put_kept}
use Rattle.am_library_drafts.proofs.draft.Draft.call.Goals as goal

pub invariant_of-self : goal.invariant_of-self
invariant_of-self c =
    let s = c.self.inside.scenario in
    put_kept c.put_call.result s c.put_call.new.scenario (with_call s c.args.made) c.self.invariant (call_kept s c.args.made c.self.invariant
    (sym c.in-None.ensures) c.call_is_typed.ensures) c.put_call.ensures.ok
    c.put_call.ensures.err
