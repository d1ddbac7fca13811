use Rattle.std.proofs.Common.{◌≡◌, ◌++◌, [], ◌∷◌, Some, None, sym, ap, ◌∙◌}
use Rattle.std.proofs.lemmas.List.{append-nil}
use Rattle.am_scenario.specs.Drafts.Said.{thread_of}
use Rattle.am_scenario.specs.Drafts.Drafts.{said}
use Rattle.am_scenario.proofs.Declared.{threads_more}
use Rattle.am_scenario.proofs.finish.threads_below.Goals as goal
use Rattle.am_scenario.proofs.finish.threads_below.Goals.{in-Some+in_ok-push, in_default}

pub loop-id-preserved : goal.loop-id-preserved
loop-id-preserved c =
    elim c.match-thread_of.branch [
      | in-Some+in_ok-push w ↦
          let found : thread_of (said c.args.draft.now) c.loop-id.id ≡ Some w.in-Some.thread =
          ap (λ n. thread_of (said c.args.draft.now) n) (sym c.from.ensures) ∙ sym c.thread_of.ensures ∙ w.in-Some.is in
          let pushed : c.match-thread_of.threads.items ≡ c.loop-id.threads.items ++ w.in-Some.thread ∷ [] = rw w.threads-is w.in_ok-push.ensures.items in
          rw (threads_more, found) (pushed ∙ ap (λ xs. xs ++ w.in-Some.thread ∷ []) c.loop-id.invariant)
      | in_default w ↦
          let found : thread_of (said c.args.draft.now) c.loop-id.id ≡ None = ap (λ n. thread_of (said c.args.draft.now) n) (sym c.from.ensures)
          ∙ sym c.thread_of.ensures ∙ w.in_default.is in
          let same : c.match-thread_of.threads.items ≡ c.loop-id.threads.items = ap (λ v. v.items) w.threads-is in
          rw (threads_more, found, append-nil) (same ∙ c.loop-id.invariant)
    ]
