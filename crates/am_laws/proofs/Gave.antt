-- What some entry gave: once, and to whom it passes.
use Rattle.std.specs.Prelude.{slice_get}
use Rattle.std.proofs.Common.{◌≡◌, ◌⊎◌, inl, inr, ⊎_elim, ℕ, zero, suc, ◌+◌, ◌≤◌, Bool, true, ◌||◌, List, [], ◌∷◌, ◌++◌, Option, Some, None, refl, sym, ap, ◌∙◌}
use Rattle.std.proofs.Common.{arith}
use Rattle.std.specs.List.{filter_map, cons_option, list_any}
use Rattle.std.proofs.lemmas.List.Sums.{sum_by-cons}
use mathlib.Core.Bool.{or-true}
use Rattle.am_names.specs.declared.Serial.{Serial}
use Rattle.am_names.specs.declared.Message.{Message}
use Rattle.am_office_entries.specs.declared.Entry.{Entry}
use Rattle.am_names.specs.Names.{has_serial, same_serial}
use Rattle.am_office_entries.specs.Entries.{accepted_of, passes}
use Rattle.am_model.specs.PostOffice.{Gave, WasAccepted, times}
use Rattle.am_model.proofs.Received.{bit}
use Rattle.am_model.proofs.Names.{same_serial-refl}

-- what is given by these and one more is given by these, or by that one
pub gave_back : {A : Type 0} (given : Entry → Option A) (past : List Entry) (x : Entry) (a : A) → Gave given (past ++ x ∷ []) a →
    Gave given past a ⊎ (given x ≡ Some a)
gave_back {A = A} given [] x a h = by_given (given x) h.0 a refl h.1
  where
    by_given : (w : Option A) (k : ℕ) (a : A) → given x ≡ w → slice_get (cons_option w []) k ≡ Some a → Gave given [] a ⊎ (given x ≡ Some a)
    by_given None k a is e = absurd (cc)
    by_given (Some b) zero a is e = inr (is ∙ e)
    by_given (Some b) (suc k) a is e = absurd (cc)
gave_back given (y ∷ past) x a h = by_given (given y) (filter_map given (past ++ x ∷ [])) (filter_map given past) (given x ≡ Some a) a
    (λ k e. gave_back given past x a (k, e)) h.0 h.1
  where
    by_given : {A : Type 0} (w : Option A) (long short : List A) (P : Type 0) (a : A) → ((k : ℕ) → slice_get long k ≡ Some a →
        ((j : ℕ) × (slice_get short j ≡ Some a)) ⊎ P) → (k : ℕ) → slice_get (cons_option w long) k ≡ Some a →
        ((j : ℕ) × (slice_get (cons_option w short) j ≡ Some a)) ⊎ P
    by_given None long short P a more k e = more k e
    by_given (Some b) long short P a more zero e = inl (zero, e)
    by_given (Some b) long short P a more (suc k) e = ⊎_elim (λ (r : (j : ℕ) × (slice_get short j ≡ Some a)). inl (suc r.0, r.1)) (λ (p : P). inr p) (more k e)

-- an entry that gives it passes
pub gave_any : {A : Type 0} (given : Entry → Option A) (past : List Entry) (a : A) (t : Entry → Bool) → ((y : Entry) → given y ≡ Some a → t y ≡ true) →
    Gave given past a → list_any t past ≡ true
gave_any given [] a t f h = absurd (cc)
gave_any {A = A} given (y ∷ past) a t f h = by_given (λ k e. gave_any given past a t f (k, e)) (given y) refl h.0 h.1
  where
    by_given : ((k : ℕ) → slice_get (filter_map given past) k ≡ Some a → list_any t past ≡ true) → (w : Option A) → given y ≡ w → (k : ℕ) →
        slice_get (cons_option w (filter_map given past)) k ≡ Some a → (t y || list_any t past) ≡ true
    by_given more None is k e = rw (more k e) (or-true (t y))
    by_given more (Some b) is zero e = rw (f y (is ∙ e)) refl
    by_given more (Some b) is (suc k) e = rw (more k e) (or-true (t y))

gave_count : (past : List Entry) (s : Serial) (m : Message) (k : ℕ) → slice_get (filter_map accepted_of past) k ≡ Some m → m.serial ≡ s →
    1 ≤ times accepted_of (has_serial s) past
gave_count [] s m k e is = absurd (cc)
gave_count (y ∷ past) s m k e is = by_given (λ j f. gave_count past s m j f is) (accepted_of y) refl k e
  where
    cons : times accepted_of (has_serial s) (y ∷ past) ≡ bit (passes (has_serial s) (accepted_of y)) + times accepted_of (has_serial s) past
    cons = sum_by-cons (λ (z : Entry). bit (passes (has_serial s) (accepted_of z))) y past

    by_given : ((j : ℕ) → slice_get (filter_map accepted_of past) j ≡ Some m → 1 ≤ times accepted_of (has_serial s) past) → (w : Option Message) →
        accepted_of y ≡ w → (j : ℕ) → slice_get (cons_option w (filter_map accepted_of past)) j ≡ Some m → 1 ≤ times accepted_of (has_serial s) (y ∷ past)
    by_given more None h j f = omega (arith, cons, more j f)
    by_given more (Some b) h zero f =
        let same : b ≡ m = cc in
        let one : bit (passes (has_serial s) (accepted_of y)) ≡ 1 = ap (λ (o : Option Message). bit (passes (has_serial s) o)) (h
        ∙ ap (λ (w : Message). Some w) same) ∙ ap (λ (w : Serial). bit (same_serial s w)) is ∙ ap bit (same_serial-refl s) in
        omega (arith, cons, one)
    by_given more (Some b) h (suc j) f = omega (arith, cons, more j f)

-- of one serial one message at most was accepted
pub accepted_one : (past : List Entry) (s : Serial) (m n : Message) → times accepted_of (has_serial s) past ≤ 1 → WasAccepted past m → WasAccepted past n →
    m.serial ≡ s → n.serial ≡ s → m ≡ n
accepted_one [] s m n once h k is at = absurd (cc)
accepted_one (y ∷ past) s m n once h k is at = by_given (λ low i j e f. accepted_one past s m n low (i, e) (j, f) is at) (accepted_of y) refl h.0 k.0 h.1 k.1
  where
    cons : times accepted_of (has_serial s) (y ∷ past) ≡ bit (passes (has_serial s) (accepted_of y)) + times accepted_of (has_serial s) past
    cons = sum_by-cons (λ (z : Entry). bit (passes (has_serial s) (accepted_of z))) y past

    two : (b l : Message) (j : ℕ) → accepted_of y ≡ Some b → b.serial ≡ s → slice_get (filter_map accepted_of past) j ≡ Some l → l.serial ≡ s → ⊥
    two b l j h' here f there =
        let one : bit (passes (has_serial s) (accepted_of y)) ≡ 1 = ap (λ (o : Option Message). bit (passes (has_serial s) o)) h'
        ∙ ap (λ (w : Serial). bit (same_serial s w)) here ∙ ap bit (same_serial-refl s) in
        omega (arith, cons, one, once, gave_count past s l j f there)

    by_given : (times accepted_of (has_serial s) past ≤ 1 → (i j : ℕ) → slice_get (filter_map accepted_of past) i ≡ Some m →
        slice_get (filter_map accepted_of past) j ≡ Some n → m ≡ n) → (w : Option Message) → accepted_of y ≡ w → (i j : ℕ) →
        slice_get (cons_option w (filter_map accepted_of past)) i ≡ Some m → slice_get (cons_option w (filter_map accepted_of past)) j ≡ Some n → m ≡ n
    by_given more None h' i j e f = more (omega (arith, cons, once)) i j e f
    by_given more (Some b) h' zero zero e f = let one' : b ≡ m = cc in let two' : b ≡ n = cc in sym one' ∙ two'
    by_given more (Some b) h' zero (suc j) e f = let same : b ≡ m = cc in absurd (two b n j h' (ap (λ (w : Message). w.serial) same ∙ is) f at)
    by_given more (Some b) h' (suc i) zero e f = let same : b ≡ n = cc in absurd (two b m i h' (ap (λ (w : Message). w.serial) same ∙ at) e is)
    by_given more (Some b) h' (suc i) (suc j) e f = more (omega (arith, cons, once)) i j e f
