use Rattle.std.proofs.Common.{rules, List, ◌≡◌, ◌≢◌, ◌+◌, ℕ, [], length, sym, subst, ◌∙◌, arith}
use Rattle.am_names.specs.declared.Words.{Words}
use Rattle.am_library_views.specs.declared.round_sum.RoundSum.{RoundSum}
use Rattle.am_example_reduce.specs.Rounds.{Asks}
use Rattle.am_example_reduce.specs.Sums.{IsAfter}
use Rattle.am_example_reduce.proofs.Outcomes.{after_more, after_none, are_notes, is_open, left_none, left_some, round_none, whole}
use Rattle.am_example_reduce.proofs.reduce.reduce.Goals as goal
use Rattle.am_example_reduce.proofs.reduce.reduce.Goals.{else-not-is_empty, then-not-is_empty+in_ok-draft+in_ok-ask+in_ok-finished+in_ok-journal+in_ok-summed-2}

pub loop-round-init : goal.loop-round-init
loop-round-init g c = round_none c.args.plan.now c.args.numbers.now c.in_ok-summed.summed c.in_ok-summed.ensures

pub loop-round-preserved : goal.loop-round-preserved
loop-round-preserved g c =
    let many : length c.loop-round.summed.left.items ≡ c.loop-round.summed.left.len = search rules in
    elim c.if-not-is_empty.branch [
      | then-not-is_empty+in_ok-draft+in_ok-ask+in_ok-finished+in_ok-journal+in_ok-summed-2 w ↦
          let some : c.loop-round.summed.left.items ≢ [] =
          left_some c.is_empty.result c.loop-round.summed.left.len c.loop-round.summed.left.items c.is_empty.ensures many w.if-not-is_empty.true in
          subst (λ (t : RoundSum). IsAfter c.args.plan.now c.args.numbers.now (c.loop-round._round + 1) t) (sym w.summed-is)
          (after_more c.args.plan.now c.args.numbers.now c.loop-round._round c.loop-round.summed w.in_ok-summed-2.summed w.ask.new.draft
          w.in_ok-journal.journal c.each_request_has_its_end.ensures c.all_run_where_they_lead.ensures c.sums_are_of_runs.ensures
          c.nothing_is_unknown.ensures (rw w.in_ok-journal.ensures w.in_ok-finished.ensures.run)
          (subst (λ (ws : List Words). Asks c.args.plan.now ws w.ask.new.draft) w.deref.ensures.value
          (w.in_ok-ask.ensures c.args.plan.now w.in_ok-draft.ensures.0 w.in_ok-draft.ensures.1))
          w.in_ok-summed-2.ensures some c.loop-round.invariant)
      | else-not-is_empty w ↦
          let none : c.loop-round.summed.left.items ≡ [] =
          left_none c.is_empty.result c.loop-round.summed.left.len c.loop-round.summed.left.items c.is_empty.ensures many w.if-not-is_empty.false in
          subst (λ (t : RoundSum). IsAfter c.args.plan.now c.args.numbers.now (c.loop-round._round + 1) t) (sym w.summed-is)
          (after_none c.args.plan.now c.args.numbers.now c.loop-round._round c.loop-round.summed none c.loop-round.invariant)
    ]

pub returns-then-not-is_whole : goal.returns-then-not-is_whole
returns-then-not-is_whole g c =
    let four : ◌≡◌ {A = ℕ} c.loop-round._round 4 = omega (arith, c.loop-round-test.false, c.loop-round.auto._round-end) in (
      subst (λ (n : ℕ). IsAfter c.args.plan.now c.args.numbers.now n c.loop-round.summed) four c.loop-round.invariant,
      is_open c.loop-round.summed (sym c.is_whole.ensures ∙ c.if-not-is_whole.true),
    )

pub returns : goal.returns
returns g c =
    let summed = whole c.args.plan.now c.args.numbers.now c.loop-round.summed c.loop-round.invariant.0 (sym c.is_whole.ensures ∙ c.if-not-is_whole.false) in (
      summed.0,
      summed.1,
      are_notes c.args.plan.now c.args.nodes c.loop-round.summed.sum c.tell.new.draft c.in_ok-finished-2.finished.journal c.in_ok-notes.notes.items
          c.what_ran_was_asked_for.ensures c.in_ok-finished-2.ensures.run
          (c.in_ok-tell.ensures c.args.plan.now c.in_ok-draft-2.ensures.0 c.in_ok-draft-2.ensures.1) c.in_ok-notes.ensures,
    )
