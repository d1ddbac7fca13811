use Rattle.std.proofs.Common.{◌≡◌, ◌++◌, [], ◌∷◌, Some, None, sym, ap, ◌∙◌}
use Rattle.std.proofs.lemmas.List.{append-nil}
use Rattle.am_scenario.specs.Drafts.Said.{end_of}
use Rattle.am_scenario.specs.Drafts.Drafts.{said}
use Rattle.am_scenario.proofs.Declared.{ends_more}
use Rattle.am_scenario.proofs.finish.ends_below.Goals as goal
use Rattle.am_scenario.proofs.finish.ends_below.Goals.{in-Some+in_ok-push, in_default}

pub loop-id-preserved : goal.loop-id-preserved
loop-id-preserved c =
    elim c.match-end_of.branch [
      | in-Some+in_ok-push w ↦
          let found : end_of (said c.args.draft.now) c.loop-id.id ≡ Some w.in-Some.end = ap (λ n. end_of (said c.args.draft.now) n) (sym c.from.ensures)
          ∙ sym c.end_of.ensures ∙ w.in-Some.is in
          let pushed : c.match-end_of.ends.items ≡ c.loop-id.ends.items ++ w.in-Some.end ∷ [] = rw w.ends-is w.in_ok-push.ensures.items in
          rw (ends_more, found) (pushed ∙ ap (λ xs. xs ++ w.in-Some.end ∷ []) c.loop-id.invariant)
      | in_default w ↦
          let found : end_of (said c.args.draft.now) c.loop-id.id ≡ None = ap (λ n. end_of (said c.args.draft.now) n) (sym c.from.ensures)
          ∙ sym c.end_of.ensures ∙ w.in_default.is in
          let same : c.match-end_of.ends.items ≡ c.loop-id.ends.items = ap (λ v. v.items) w.ends-is in
          rw (ends_more, found, append-nil) (same ∙ c.loop-id.invariant)
    ]
