use Rattle.std.proofs.Common.{◌≡◌, true, sym, ap, ◌∙◌, subst, arith}
use Rattle.am_swap_device.specs.Causes.{fails_after, one_more}
use Rattle.am_swap_device.specs.Memory.{Store, failed_among}
use Rattle.am_swap_device.proofs.Tallies.{failed_more}
use Rattle.am_swap_device.proofs.memory_swap.MemorySwap.fail.Goals as goal

pub invariant_of-self-inside : goal.invariant_of-self-inside
invariant_of-self-inside c =
    let inside = c.self.inside in
    let failed : fails_after inside.fails.items inside.calls ≡ true = subst (λ (s : Store). fails_after s.fails s.calls ≡ true) (sym c.self.view_is) c.requires in (
      c.saturating_add-self-inside-2.ensures ∙ ap one_more inside.tallied
          ∙ sym (failed_more inside.fails.items inside.calls failed c.is_low.ensures (omega arith))
          ∙ sym (ap (failed_among inside.fails.items) c.saturating_add-self-inside.ensures),
      tt,
    )
