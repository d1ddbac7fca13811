-- The least number of a range that passes.
use Rattle.std.proofs.Common.{◌≡◌, ℕ, zero, suc, ◌+◌, ◌<◌, ◌≤◌, Bool, true, false, cond, Option, Some, None, refl, sym, ◌∙◌, ap, arith}
use Rattle.std.specs.List.{find, range_with_len}
use Rattle.am_model.specs.Layout.{AllAre}

step_over : (b : Bool) (a : ℕ) (o : Option ℕ) → b ≡ false → cond b (Some a) o ≡ o
step_over true a o h = absurd (cc)
step_over false a o h = refl

stop_at : (b : Bool) (a : ℕ) (o : Option ℕ) → b ≡ true → cond b (Some a) o ≡ Some a
stop_at true a o h = refl
stop_at false a o h = absurd (cc)

-- the first that passes, after n that don't
pub first_at : (p : ℕ → Bool) (a n m : ℕ) → ((k : ℕ) → a ≤ k → k < a + n → p k ≡ false) → n < m → p (a + n) ≡ true → find p (range_with_len a m) ≡ Some (a + n)
first_at p a n zero below lt here = absurd (omega arith)
first_at p a zero (suc m) below lt here =
    let e : a + 0 ≡ a = omega arith in
    stop_at (p a) a (find p (range_with_len (a + 1) m)) (ap p (sym e) ∙ here) ∙ ap (λ (k : ℕ). Some k) (sym e)
first_at p a (suc n) (suc m) below lt here =
    let e : a + suc n ≡ a + 1 + n = omega arith in
    step_over (p a) a (find p (range_with_len (a + 1) m)) (below a (omega arith) (omega arith))
    ∙ (first_at p (a + 1) n m (λ k le less. below k (omega arith) (omega arith)) (omega arith) (ap p (sym e) ∙ here) ∙ ap (λ (k : ℕ). Some k) (sym e))

-- none passes
pub none_at : (p : ℕ → Bool) (a m : ℕ) → ((k : ℕ) → a ≤ k → k < a + m → p k ≡ false) → find p (range_with_len a m) ≡ None
none_at p a zero below = refl
none_at p a (suc m) below =
    step_over (p a) a (find p (range_with_len (a + 1) m)) (below a (omega arith) (omega arith))
    ∙ none_at p (a + 1) m (λ k le less. below k (omega arith) (omega arith))

-- the numbers of a range are below its end
pub range_below : (a m n : ℕ) → a + m ≤ n → AllAre (λ (k : ℕ). k < n) (range_with_len a m)
range_below a zero n le = tt
range_below a (suc m) n le = (omega arith, range_below (a + 1) m n (omega arith))

-- the same from 0
pub first_below : (p : ℕ → Bool) (n m : ℕ) → ((k : ℕ) → k < n → p k ≡ false) → n < m → p n ≡ true → find p (range_with_len 0 m) ≡ Some n
first_below p n m below lt here =
    let e : 0 + n ≡ n = omega arith in
    first_at p 0 n m (λ k le less. below k (omega arith)) lt (ap p e ∙ here) ∙ ap (λ (k : ℕ). Some k) e
