-- What a page call of a store leaves: its faults, its count of calls, and what it holds.
use Rattle.std.proofs.Common.{◌≡◌, ◌≤◌, Bool, true, false, ap, ◌∙◌, ℕ, List, Some, refl, if◌then◌else◌, arith, ◌+◌, ◌<◌, ◌-◌, ◌^◌}
use Rattle.std.proofs.Math.Nat.{min-eq_left}
use Rattle.am_names.specs.declared.EndpointId.{EndpointId}
use Rattle.am_names.specs.Names.{same_end}
use Rattle.am_swap_device.specs.Causes.{fails_after, one_more}
use Rattle.am_swap_device.specs.Memory.{Store, counted, faulted, held_for, with_held}
use Rattle.am_swap_device.proofs.Held.{holds_instead}
use Rattle.am_driver_moves.specs.Pages.{after_call}

pub call_fails : (s done : Store) → done.fails ≡ s.fails → (after_call s done).fails ≡ s.fails
call_fails s done same = by_test (fails_after s.fails s.calls)
  where
    by_test : (b : Bool) → (if b then faulted s else counted done).fails ≡ s.fails
    by_test true = refl
    by_test false = same

pub one_more_is : (n : ℕ) → n + 1 < 2 ^ 64 → one_more n ≡ n + 1
one_more_is n few = let le : n + 1 ≤ 2 ^ 64 - 1 = omega (arith, few) in min-eq_left le

pub call_calls : (s done : Store) → done.calls ≡ s.calls → (after_call s done).calls ≡ one_more s.calls
call_calls s done same = by_test (fails_after s.fails s.calls)
  where
    by_test : (b : Bool) → (if b then faulted s else counted done).calls ≡ one_more s.calls
    by_test true = refl
    by_test false = ap one_more same

pub held_other : (s : Store) (key : EndpointId) (bytes : List ℕ) (f : EndpointId) → same_end f key ≡ false →
    held_for (after_call s (with_held s key bytes)).held f ≡ held_for s.held f
held_other s key bytes f other = by_test (fails_after s.fails s.calls)
  where
    by_test : (b : Bool) → held_for (if b then faulted s else counted (with_held s key bytes)).held f ≡ held_for s.held f
    by_test true = refl
    by_test false = holds_instead key bytes s.held f ∙ ap (λ (b : Bool). if b then Some bytes else held_for s.held f) other

pub held_still : (s : Store) (f : EndpointId) → held_for (after_call s s).held f ≡ held_for s.held f
held_still s f = by_test (fails_after s.fails s.calls)
  where
    by_test : (b : Bool) → held_for (if b then faulted s else counted s).held f ≡ held_for s.held f
    by_test true = refl
    by_test false = refl
