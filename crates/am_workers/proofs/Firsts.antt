-- The first number that passes, and how a search for it goes on.
use Rattle.std.proofs.Common.{◌≡◌, ℕ, zero, suc, ◌+◌, ◌-◌, ◌<◌, ◌≤◌, Bool, true, false, Some, None, ap, ◌∙◌, arith, if◌then◌else◌}
use Rattle.am_workers.specs.Turns.Chosen.{first_from}

first_step : (p : ℕ → Bool) (k n : ℕ) → k < n → first_from p k (n - k) ≡ (if p k then Some k else first_from p (k + 1) (n - (k + 1)))
first_step p k n below = let one : n - k ≡ suc (n - (k + 1)) = omega (arith, below) in ap (λ (more : ℕ). first_from p k more) one

-- none of the numbers is left
pub first_end : (p : ℕ → Bool) (k n : ℕ) → n ≤ k → first_from p k (n - k) ≡ None
first_end p k n past = let none : n - k ≡ zero = omega (arith, past) in ap (λ (more : ℕ). first_from p k more) none

-- this one fails
pub first_later : (p : ℕ → Bool) (k n : ℕ) → k < n → p k ≡ false → first_from p k (n - k) ≡ first_from p (k + 1) (n - (k + 1))
first_later p k n below is = first_step p k n below ∙ ap (λ (t : Bool). if t then Some k else first_from p (k + 1) (n - (k + 1))) is

-- this one passes
pub first_here : (p : ℕ → Bool) (k n : ℕ) → k < n → p k ≡ true → first_from p k (n - k) ≡ Some k
first_here p k n below is = first_step p k n below ∙ ap (λ (t : Bool). if t then Some k else first_from p (k + 1) (n - (k + 1))) is
