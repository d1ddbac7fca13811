-- The first entries of all logs.
use Rattle.std.specs.Prelude.{Contains, slice_get, IsPermutation}
use Rattle.std.specs.Borrow.{Bor}
use Rattle.std.specs.declared.cmp.Reverse.{Reverse}
use Rattle.std.proofs.Common.{◌≡◌, ◌⊎◌, inl, inr, ⊎_elim, ℕ, zero, suc, ◌+◌, ◌<◌, ◌≤◌, ◌==◌, Bool, true, false, Option, Some, None, List, [], ◌∷◌, ◌++◌, length}
use Rattle.std.proofs.Common.{get_or, refl, sym, ap, ◌∙◌, subst, arith, eqb-true}
use Rattle.std.proofs.lemmas.Bool.{eqb-false}
use Rattle.std.proofs.lemmas.List.Sorted.{Contains-permutation, IsPermutation-sym}
use Rattle.am_office_entries.specs.declared.Entry.{Entry}
use Rattle.am_model.specs.Merge.{rank}
use Rattle.am_machine_journal.specs.declared.merge.heads.Head.{Head}
use Rattle.am_machine_journal.specs.Merge.Heads.{AreFirst, IsHead, IsLeft, head_of, log_at, next_head, option_reversed}
use Rattle.am_machine_journal.specs.Merge.Joined.{lists_of}
use Rattle.am_machine_journal.proofs.Standing.{behind, first_or_behind, in_front, none_there}
use Rattle.std.proofs.lemmas.Option.{slice_get_within}
use Rattle.am_machine_journal.proofs.Firsts.{reversed}
use Rattle.am_machine_journal.proofs.Joining.{head_within, shows}

-- each is a head, and all entries of the first logs are left
pub record AreBegun (logs : List (List Entry)) (n : ℕ) (heads : List (Reverse Head)) : Type 0 where
  pub heads' : (h : Reverse Head) → Contains heads h → IsHead logs h.0
  pub all : (k place : ℕ) (x : Entry) → k < n → slice_get (log_at logs k) place ≡ Some x → IsLeft logs heads x

module _ (logs : List (List Entry)) (n : ℕ) (heads more : List (Reverse Head)) (within : n < length logs) (old : (h : Reverse Head) → Contains heads h →
    IsHead logs h.0) (left : (k place : ℕ) (x : Entry) → k < n → slice_get (log_at logs k) place ≡ Some x →
    IsLeft logs heads x) (pushed : IsPermutation (option_reversed (next_head logs n 0) ++ heads) more) where
  stays : (g : Reverse Head) → Contains heads g → Contains more g
  stays g c = Contains-permutation (option_reversed (next_head logs n 0) ++ heads) more g pushed (by_option (next_head logs n 0))
    where
      by_option : (o : Option Head) → Contains (option_reversed o ++ heads) g
      by_option None = c
      by_option (Some h) = behind (reversed h) heads g c

  new_or_old : (g : Reverse Head) → Contains more g → (next_head logs n 0 ≡ Some g.0) ⊎ Contains heads g
  new_or_old g c = by_option (next_head logs n 0) refl (Contains-permutation more (option_reversed (next_head logs n 0) ++ heads) g
      (IsPermutation-sym (option_reversed (next_head logs n 0) ++ heads) more pushed) c)
    where
      by_option : (o : Option Head) → next_head logs n 0 ≡ o → Contains (option_reversed o ++ heads) g → (next_head logs n 0 ≡ Some g.0) ⊎ Contains heads g
      by_option None is k = inr k
      by_option (Some h) is k =
          ⊎_elim (λ (first : reversed h ≡ g). inl (is ∙ ap (λ (w : Reverse Head). Some w.0) first)) (λ (later : Contains heads g). inr later)
          (first_or_behind (reversed h) heads g k)

  new_there : (h : Head) → next_head logs n 0 ≡ Some h → Contains more (reversed h)
  new_there h e = Contains-permutation (option_reversed (next_head logs n 0) ++ heads) more (reversed h) pushed
      (subst (λ (o : Option Head). Contains (option_reversed o ++ heads) (reversed h)) (sym e) (in_front (reversed h) heads))

  is_head : (g : Reverse Head) → Contains more g → IsHead logs g.0
  is_head g c =
      ⊎_elim
      (λ (new : next_head logs n 0 ≡ Some g.0).
      (let s = shows logs n 0 g.0 new in let same = s.log' in record {
        within = omega (arith, within, same);
        is = (λ i. next_head logs (s.log' i) (s.place' i))
            ∙ new;
      }))
      (λ (k : Contains heads g). old g k)
      (new_or_old g c)

  some_first : (place : ℕ) (x : Entry) → slice_get (log_at logs n) place ≡ Some x → (h : Head) × (next_head logs n 0 ≡ Some h)
  some_first place x is = by_log (log_at logs n) is
    where
      by_log : (log : List Entry) → slice_get log place ≡ Some x → (h : Head) × (head_of n 0 (slice_get log 0) ≡ Some h)
      by_log [] e = absurd (none_there x e)
      by_log (y ∷ log) e = (record { stamp = y.stamp; rank = rank y; log = n; place = 0 }, refl)

  all_left : (k place : ℕ) (x : Entry) → k < n + 1 → slice_get (log_at logs k) place ≡ Some x → IsLeft logs more x
  all_left k place x lt is = by_test (k == n) refl
    where
      by_test : (b : Bool) → (k == n) ≡ b → IsLeft logs more x
      by_test true same =
          let e : k ≡ n = eqb-true k n same in
          let at : slice_get (log_at logs n) place ≡ Some x = subst (λ (m : ℕ). slice_get (log_at logs m) place ≡ Some x) e is in
          let h = some_first place x at in
          let s = shows logs n 0 h.0 h.1 in
          let first = s.place' in
          record {
            head = h.0;
            among = new_there h.0 h.1;
            place = place;
            later = omega (arith, first);
            is = subst (λ (m : ℕ). slice_get (log_at logs m) place ≡ Some x) (sym s.log') at;
          }
      by_test false other =
          let ne = eqb-false k n other in
          let l = left k place x (omega (arith, lt, ne)) is in
          record { head = l.head; among = stays (reversed l.head) l.among; place = l.place; later = l.later; is = l.is }

  pub begins_more : AreBegun logs (n + 1) more
  begins_more = record { heads' = is_head; all = all_left }

-- past the last log there is nothing
nothing_past : (logs : List (List Entry)) (k place : ℕ) (x : Entry) → length logs ≤ k → slice_get (log_at logs k) place ≡ Some x → ⊥
nothing_past [] k place x le is = none_there x is
nothing_past (log ∷ logs) zero place x le is = absurd (omega (arith, le))
nothing_past (log ∷ logs) (suc k) place x le is = nothing_past logs k place x (omega (arith, le)) is

pub length_lists : (logs : List (Bor (List Entry))) → length (lists_of logs) ≡ length logs
length_lists [] = refl
length_lists (log ∷ logs) = let e = length_lists logs in omega (arith, e)

pub all_begun : (logs : List (Bor (List Entry))) (n : ℕ) (heads : List (Reverse Head)) → length logs ≤ n →
    ((h : Reverse Head) → Contains heads h → IsHead (lists_of logs) h.0) → ((k place : ℕ) (x : Entry) → k < n →
    slice_get (log_at (lists_of logs) k) place ≡ Some x → IsLeft (lists_of logs) heads x) → AreFirst (lists_of logs) heads
all_begun logs n heads le old left =
    record {
      heads' = old;
      all = λ k place x is. ⊎_elim (λ (lt : k < n). left k place x lt is) (λ (past : n ≤ k). absurd
          (nothing_past (lists_of logs) k place x (let e = length_lists logs in omega (arith, e, le, past)) is)) (below_or k n);
    }
  where
    below_or : (a b : ℕ) → (a < b) ⊎ (b ≤ a)
    below_or zero zero = inr (omega arith)
    below_or zero (suc b) = inl (omega arith)
    below_or (suc a) zero = inr (omega arith)
    below_or (suc a) (suc b) = ⊎_elim (λ (lt : a < b). inl (omega (arith, lt))) (λ (le : b ≤ a). inr (omega (arith, le))) (below_or a b)

-- the log behind a slice is the log at its place
pub lists_at : (logs : List (Bor (List Entry))) (k : ℕ) (d : Bor (List Entry)) → d.now ≡ [] → (get_or logs k d).now ≡ log_at (lists_of logs) k
lists_at [] k d e = e
lists_at (log ∷ logs) zero d e = refl
lists_at (log ∷ logs) (suc k) d e = lists_at logs k d e

-- what stands past the last of the slices
abbrev pub no_log : Bor (List Entry)
no_log = record { ref_ptr = (0, 0); now = [] }

-- a head stands within its log
pub shown_within : (logs : List (Bor (List Entry))) (h : Head) (d : Bor (List Entry)) → d.now ≡ [] → IsHead (lists_of logs) h →
    h.place < length (get_or logs h.log d).now
shown_within logs h d none is =
    let x = head_within (lists_of logs) h is in
    let lt = slice_get_within (log_at (lists_of logs) h.log) h.place x.0 x.1 in
    subst (λ (l : List Entry). h.place < length l) (sym (lists_at logs h.log d none)) lt
