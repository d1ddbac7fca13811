use Rattle.std.proofs.Common.{◌≡◌, length, sym}
use Rattle.am_library_drafts.proofs.Drafted.{end_at_kept, put_kept, with_end_at}
use Rattle.am_library_drafts.proofs.draft.Draft.endpoint.Goals as goal

pub invariant_of-self : goal.invariant_of-self
invariant_of-self c =
    let s = c.self.inside.scenario in
    let n : c.end_count.result ≡ length s.ends = c.end_count.ensures in
    put_kept c.put_end.result s c.put_end.new.scenario (with_end_at s c.args.node c.args.tag c.end_count.result) c.self.invariant
    (end_at_kept s c.args.node c.args.tag c.end_count.result n c.self.invariant (sym c.in-None.ensures) c.tag_is_typed.ensures) c.put_end.ensures.ok
    c.put_end.ensures.err
