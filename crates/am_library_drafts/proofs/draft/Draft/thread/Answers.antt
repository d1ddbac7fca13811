use Rattle.std.proofs.Common.{◌≡◌, length, sym}
use Rattle.am_library_drafts.proofs.Drafted.{put_kept, thread_at_kept, with_thread_at}
use Rattle.am_library_drafts.proofs.draft.Draft.thread.Goals as goal

pub invariant_of-self : goal.invariant_of-self
invariant_of-self c =
    let s = c.self.inside.scenario in
    let n : c.thread_count-id.result ≡ length s.threads = c.thread_count-id.ensures in
    put_kept c.put_thread.result s c.put_thread.new.scenario (with_thread_at s c.args.node c.thread_count-id.result) c.self.invariant
    (thread_at_kept s c.args.node c.thread_count-id.result n c.self.invariant (sym c.in-None.ensures)) c.put_thread.ensures.ok c.put_thread.ensures.err
