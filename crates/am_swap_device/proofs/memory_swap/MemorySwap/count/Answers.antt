use Rattle.std.proofs.Common.{◌≡◌, false, sym, ap, ◌∙◌, subst, arith}
use Rattle.am_swap_device.specs.Causes.{fails_after}
use Rattle.am_swap_device.specs.Memory.{Store, failed_among}
use Rattle.am_swap_device.proofs.Tallies.{failed_same}
use Rattle.am_swap_device.proofs.memory_swap.MemorySwap.count.Goals as goal

pub invariant_of-self-inside : goal.invariant_of-self-inside
invariant_of-self-inside c =
    let inside = c.self.inside in
    let done : fails_after inside.fails.items inside.calls ≡ false = subst (λ (s : Store). fails_after s.fails s.calls ≡ false) (sym c.self.view_is) c.requires in (
      inside.tallied ∙ sym (failed_same inside.fails.items inside.calls done (omega arith))
          ∙ sym (ap (failed_among inside.fails.items) c.saturating_add-self-inside.ensures),
      tt,
    )
