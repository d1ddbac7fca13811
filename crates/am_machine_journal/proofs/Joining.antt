-- Taking the first of the heads again and again gives the journal.
use Rattle.std.specs.Prelude.{Contains, sum_by, slice_get, IsPermutation}
use Rattle.std.specs.declared.cmp.Reverse.{Reverse}
use Rattle.std.proofs.Common.{◌≡◌, ◌⊎◌, inl, inr, ⊎_elim, ℕ, zero, suc, ◌+◌, ◌-◌, ◌<◌, ◌≤◌, ◌==◌, Bool, true, false, Option, Some, None, List, [], ◌∷◌, ◌++◌}
use Rattle.std.proofs.Common.{length, refl, sym, ap, ◌∙◌, subst, arith, true≢false, eqb-true, eq-eqb}
use Rattle.std.proofs.lemmas.Bool.{and_from, eqb-false}
use Rattle.std.proofs.lemmas.List.Sorted.{Contains-permutation, IsPermutation-sym, sum_by-IsPermutation}
use Rattle.std.proofs.lemmas.List.Sums.{sum_by-cons}
use Rattle.std.proofs.lemmas.Option.{slice_get_within}
use Rattle.am_office_entries.specs.declared.Entry.{Entry}
use Rattle.am_model.specs.Layout.{AllAre}
use Rattle.am_model.specs.Merge.{rank, is_before, is_ordered}
use Rattle.am_model_merge.specs.Logs.{IsRising}
use Rattle.am_model_merge.specs.Merged.{entries_of, is_same, merged}
use Rattle.am_model_merge.proofs.Sorted.{Has, IsEarlier, before_from, earlier, has_contains, same_list}
use Rattle.am_model_merge.proofs.Inserting.{has_sorted, sorted_has, sorted_ordered}
use Rattle.am_machine_journal.specs.declared.merge.heads.Head.{Head}
use Rattle.am_machine_journal.specs.Merge.Heads.{AreFirst, IsFirst, IsHead, IsLeft, IsNoLater, head_of, log_at, next_head, option_reversed}
use Rattle.am_machine_journal.specs.Merge.Joined.{AreOne, added}
use Rattle.am_machine_journal.proofs.Firsts.{reversed}
use Rattle.am_machine_journal.proofs.Standing.{log_has, added_has, added_keeps, added_new, behind, entry_there, first_or_behind, in_front, last_after, log_rises}
use Rattle.am_machine_journal.proofs.Standing.{none_there, ordered_added, rising_next, some_last, there_entry}

-- what was put into the journal so far: in order, and what is not in it is left
pub record IsReached (logs : List (List Entry)) (heads : List (Reverse Head)) (out : List Entry) : Type 0 where
  pub ordered : is_ordered out ≡ true
  pub own : (x : Entry) → Has out x → Has (entries_of logs) x
  pub heads' : (h : Reverse Head) → Contains heads h → IsHead logs h.0
  pub all : (k place : ℕ) (x : Entry) → slice_get (log_at logs k) place ≡ Some x → Has out x ⊎ IsLeft logs heads x
  pub later : (x : Entry) (h : Reverse Head) → Has out x → Contains heads h → IsNoLater x.stamp (rank x) h.0

-- ---- heads

-- what a head is
pub record Shows (logs : List (List Entry)) (log place : ℕ) (h : Head) : Type 0 where
  pub entry : Entry
  pub is : slice_get (log_at logs log) place ≡ Some entry
  pub stamp : h.stamp ≡ entry.stamp
  pub part : h.rank ≡ rank entry
  pub log' : h.log ≡ log
  pub place' : h.place ≡ place

pub shows : (logs : List (List Entry)) (log place : ℕ) (h : Head) → next_head logs log place ≡ Some h → Shows logs log place h
shows logs log place h e = by_option (slice_get (log_at logs log) place) refl e
  where
    by_option : (o : Option Entry) → slice_get (log_at logs log) place ≡ o → head_of log place o ≡ Some h → Shows logs log place h
    by_option None is g = absurd (none_there h g)
    by_option (Some x) is g =
        let same : record { stamp = x.stamp; rank = rank x; log = log; place = place } ≡ h = (cc) in
        record {
          entry = x;
          is = is;
          stamp = sym (ap (λ (k : Head). k.stamp) same);
          part = sym (ap (λ (k : Head). k.rank) same);
          log' = sym (ap (λ (k : Head). k.log) same);
          place' = sym (ap (λ (k : Head). k.place) same);
        }

-- ---- one entry taken

module _ (logs : List (List Entry)) (heads rest more : List (Reverse Head)) (out : List Entry) (h : Head) (x : Entry) where
  -- the first head is taken, and the next of its log put among the others
  pub record IsTaken : Type 0 where
    pub rising : AllAre IsRising logs
    pub one : AreOne (entries_of logs)
    pub popped : IsPermutation heads (reversed h ∷ rest)
    pub top : IsFirst h rest
    pub here : slice_get (log_at logs h.log) h.place ≡ Some x
    pub pushed : IsPermutation (option_reversed (next_head logs h.log (h.place + 1)) ++ rest) more

  module _ (r : IsReached logs heads out) (t : IsTaken) where
    of_top : Contains heads (reversed h)
    of_top = Contains-permutation (reversed h ∷ rest) heads (reversed h) (IsPermutation-sym heads (reversed h ∷ rest) t.popped) (in_front (reversed h) rest)

    of_rest : (g : Reverse Head) → Contains rest g → Contains heads g
    of_rest g c = Contains-permutation (reversed h ∷ rest) heads g (IsPermutation-sym heads (reversed h ∷ rest) t.popped) (behind (reversed h) rest g c)

    top_or_rest : (g : Reverse Head) → Contains heads g → (reversed h ≡ g) ⊎ Contains rest g
    top_or_rest g c = first_or_behind (reversed h) rest g (Contains-permutation heads (reversed h ∷ rest) g t.popped c)

    abbrev next : Option Head
    next = next_head logs h.log (h.place + 1)

    rest_stays : (g : Reverse Head) → Contains rest g → Contains more g
    rest_stays g c = Contains-permutation (option_reversed next ++ rest) more g t.pushed (by_option next)
      where
        by_option : (o : Option Head) → Contains (option_reversed o ++ rest) g
        by_option None = c
        by_option (Some n) = behind (reversed n) rest g c

    next_stays : (n : Head) → next_head logs h.log (h.place + 1) ≡ Some n → Contains more (reversed n)
    next_stays n e = Contains-permutation (option_reversed (next_head logs h.log (h.place + 1)) ++ rest) more (reversed n) t.pushed
        (subst (λ (o : Option Head). Contains (option_reversed o ++ rest) (reversed n)) (sym e) (in_front (reversed n) rest))

    next_or_rest : (g : Reverse Head) → Contains more g → (next_head logs h.log (h.place + 1) ≡ Some g.0) ⊎ Contains rest g
    next_or_rest g c = by_option (next_head logs h.log (h.place + 1)) refl (Contains-permutation more
        (option_reversed (next_head logs h.log (h.place + 1)) ++ rest) g (IsPermutation-sym (option_reversed (next_head logs h.log (h.place + 1)) ++ rest) more
        t.pushed) c)
      where
        by_option : (o : Option Head) → next_head logs h.log (h.place + 1) ≡ o → Contains (option_reversed o ++ rest) g →
            (next_head logs h.log (h.place + 1) ≡ Some g.0) ⊎ Contains rest g
        by_option None is k = inr k
        by_option (Some n) is k =
            ⊎_elim
            (λ (first : reversed n ≡ g). inl (is ∙ ap (λ (w : Reverse Head). Some w.0) first))
            (λ (later : Contains rest g). inr later)
            (first_or_behind (reversed n) rest g k)

    shown : Shows logs h.log h.place h
    shown = shows logs h.log h.place h (r.heads' (reversed h) of_top).is

    same_entry : shown.entry ≡ x
    same_entry = let a = shown.is in let b = t.here in let e : Some shown.entry ≡ Some x = sym a ∙ b in (cc)

    same_stamp : h.stamp ≡ x.stamp
    same_stamp = shown.stamp ∙ ap (λ (w : Entry). w.stamp) same_entry

    same_part : h.rank ≡ rank x
    same_part = shown.part ∙ ap rank same_entry

    next_later : (n : Head) → next_head logs h.log (h.place + 1) ≡ Some n → x.stamp < n.stamp
    next_later n e =
        let s = shows logs h.log (h.place + 1) n e in
        let suc_is : h.place + 1 ≡ suc h.place = omega arith in
        let at : slice_get (log_at logs h.log) (suc h.place) ≡ Some s.entry = subst (λ (k : ℕ). slice_get (log_at logs h.log) k ≡ Some s.entry) suc_is s.is in
        let lt = rising_next (log_at logs h.log) h.place x s.entry (log_rises logs h.log t.rising) t.here at in
        let stamp = s.stamp in
        omega (arith, lt, stamp)

    x_there : Has (entries_of logs) x
    x_there = entry_there logs h.log h.place x t.here

    same_one : (y z : Entry) → Has (entries_of logs) y → Has (entries_of logs) z → is_same y z ≡ true → y ≡ z
    same_one y z a b same = t.one y z (has_contains (entries_of logs) y a) (has_contains (entries_of logs) z b) same

    new_there : Has (added x out) x
    new_there = added_new x out (λ l g same. same_one l x (r.own l g) x_there same)

    ordered_now : is_ordered (added x out) ≡ true
    ordered_now = ordered_added x out r.ordered above
      where
        above : ((l : Entry) → slice_get out (length out - 1) ≡ Some l → is_same l x ≡ false) → (z : Entry) → Has out z → is_before z x ≡ true
        above other z g =
            ⊎_elim
            (λ (less : z.stamp < h.stamp). before_from z x (inl (omega (arith, less, same_stamp))))
            (λ (tie : (z.stamp ≡ h.stamp) × (rank z ≤ h.rank)). by_rank tie.0 tie.1 (rank z == rank x) refl)
            (r.later z (reversed h) g of_top)
          where
            by_rank : z.stamp ≡ h.stamp → rank z ≤ h.rank → (b : Bool) → (rank z == rank x) ≡ b → is_before z x ≡ true
            by_rank stamp low false is = before_from z x (inr (
              stamp
                  ∙ same_stamp,
              (let ne = eqb-false (rank z) (rank x) is in omega (arith, ne, low, same_part)),
            ))
            by_rank stamp low true is =
                let l = some_last out z g in
                let equal = eqb-true (rank z) (rank x) is in
                ⊎_elim
                (λ (last : z ≡ l.0). absurd (true≢false (sym (subst (λ (w : Entry). is_same w x ≡ true) last
                (and_from (z.stamp == x.stamp) (rank z == rank x) (eq-eqb z.stamp x.stamp (stamp ∙ same_stamp)) is)) ∙ other l.0 l.1)))
                (λ (before : is_before z l.0 ≡ true). absurd (too_late l.0 l.1 (earlier z l.0 before) equal))
                (last_after out l.0 z r.ordered l.1 g)
              where
                too_late : (l : Entry) → slice_get out (length out - 1) ≡ Some l → IsEarlier z l → rank z ≡ rank x → ⊥
                too_late l is early equal =
                    let low_l = r.later l (reversed h) (log_has out (length out - 1) l is) of_top in
                    ⊎_elim
                    (λ (less : z.stamp < l.stamp). ⊎_elim (λ (a : l.stamp < h.stamp). absurd (omega (arith, less, a, stamp)))
                    (λ (a : (l.stamp ≡ h.stamp) × (rank l ≤ h.rank)). absurd (omega (arith, less, a.0, stamp))) low_l)
                    (λ (tie : (z.stamp ≡ l.stamp) × (rank z < rank l)).
                    ⊎_elim (λ (a : l.stamp < h.stamp). absurd (omega (arith, tie.0, a, stamp)))
                    (λ (a : (l.stamp ≡ h.stamp) × (rank l ≤ h.rank)). absurd (omega (arith, tie.1, a.1, equal, same_part))) low_l)
                    early

    later_now : (z : Entry) (g : Reverse Head) → Has (added x out) z → Contains more g → IsNoLater z.stamp (rank z) g.0
    later_now z g has among =
        ⊎_elim
        (λ (old : Has out z).
        ⊎_elim
        (λ (n : next_head logs h.log (h.place + 1) ≡ Some g.0). inl (let lt = next_later g.0 n in
        ⊎_elim (λ (a : z.stamp < h.stamp). omega (arith, a, lt, same_stamp)) (λ (a : (z.stamp ≡ h.stamp) × (rank z ≤ h.rank)). omega (
          arith,
          a.0,
          lt,
          same_stamp,
        )) (r.later z (reversed h) old of_top)))
        (λ (c : Contains rest g). r.later z g old (of_rest g c))
        (next_or_rest g among))
        (λ (new : x ≡ z). subst (λ (w : Entry). IsNoLater w.stamp (rank w) g.0) new (of_new g among))
        (added_has x out z has)
      where
        of_new : (g : Reverse Head) → Contains more g → IsNoLater x.stamp (rank x) g.0
        of_new g among =
            ⊎_elim
            (λ (n : next_head logs h.log (h.place + 1) ≡ Some g.0). inl (next_later g.0 n))
            (λ (c : Contains rest g).
            ⊎_elim
            (λ (a : h.stamp < g.0.stamp). inl (omega (arith, a, same_stamp)))
            (λ (a : (h.stamp ≡ g.0.stamp) × (h.rank ≤ g.0.rank)). inr (sym same_stamp ∙ a.0, omega (arith, a.1, same_part)))
            (t.top g c))
            (next_or_rest g among)

    heads_now : (g : Reverse Head) → Contains more g → IsHead logs g.0
    heads_now g c =
        ⊎_elim
        (λ (n : next_head logs h.log (h.place + 1) ≡ Some g.0).
        (let s = shows logs h.log (h.place + 1) g.0 n in
        let top = r.heads' (reversed h) of_top in
        let within = top.within in
        let same_log = s.log' in
        record { within = omega (arith, within, same_log); is = (λ i. next_head logs (s.log' i) (s.place' i)) ∙ n }))
        (λ (k : Contains rest g). r.heads' g (of_rest g k))
        (next_or_rest g c)

    some_next : (place : ℕ) (z : Entry) → h.place < place → slice_get (log_at logs h.log) place ≡ Some z →
        (n : Head) × (next_head logs h.log (h.place + 1) ≡ Some n)
    some_next place z lt is = by_option (slice_get (log_at logs h.log) (h.place + 1)) refl
      where
        by_option : (o : Option Entry) → slice_get (log_at logs h.log) (h.place + 1) ≡ o → (n : Head) × (head_of h.log (h.place + 1) o ≡ Some n)
        by_option None none = absurd (past_none (log_at logs h.log) (h.place + 1) place z (omega (arith, lt)) none is)
          where
            past_none : (log : List Entry) (a b : ℕ) (w : Entry) → a ≤ b → slice_get log a ≡ None → slice_get log b ≡ Some w → ⊥
            past_none [] a b w le gone there = none_there w there
            past_none (y ∷ log) zero b w le gone there = none_there y (sym gone)
            past_none (y ∷ log) (suc a) zero w le gone there = absurd (omega (arith, le))
            past_none (y ∷ log) (suc a) (suc b) w le gone there = past_none log a b w (omega (arith, le)) gone there
        by_option (Some y) some = (record { stamp = y.stamp; rank = rank y; log = h.log; place = h.place + 1 }, refl)

    all_now : (k place : ℕ) (z : Entry) → slice_get (log_at logs k) place ≡ Some z → Has (added x out) z ⊎ IsLeft logs more z
    all_now k place z is = ⊎_elim (λ (old : Has out z). inl (added_keeps x out z old)) (λ (left : IsLeft logs heads z). by_head left
        (top_or_rest (reversed left.head) left.among)) (r.all k place z is)
      where
        of_taken : (place : ℕ) → h.place ≤ place → slice_get (log_at logs h.log) place ≡ Some z → (b : Bool) → (h.place == place) ≡ b →
            Has (added x out) z ⊎ IsLeft logs more z
        of_taken place le at true same =
            let p : h.place ≡ place = eqb-true h.place place same in
            let e : Some x ≡ Some z = sym (subst (λ (m : ℕ). slice_get (log_at logs h.log) m ≡ Some x) p t.here) ∙ at in
            let xz : x ≡ z = (cc) in
            inl (subst (Has (added x out)) xz new_there)
        of_taken place le at false other =
            let ne = eqb-false h.place place other in
            let n = some_next place z (omega (arith, le, ne)) at in
            let s = shows logs h.log (h.place + 1) n.0 n.1 in
            let there = s.place' in
            inr (record {
              head = n.0;
              among = next_stays n.0 n.1;
              place = place;
              later = omega (arith, le, ne, there);
              is = subst (λ (m : ℕ). slice_get (log_at logs m) place ≡ Some z) (sym s.log') at;
            })

        by_head : (left : IsLeft logs heads z) → (reversed h ≡ reversed left.head) ⊎ Contains rest (reversed left.head) →
            Has (added x out) z ⊎ IsLeft logs more z
        by_head left c =
            ⊎_elim
            (λ (top : reversed h ≡ reversed left.head).
            (let e : left.head ≡ h = sym (ap (λ (w : Reverse Head). w.0) top) in
            of_taken left.place (subst (λ (w : Head). w.place ≤ left.place) e left.later)
            (subst (λ (w : Head). slice_get (log_at logs w.log) left.place ≡ Some z) e left.is) (h.place == left.place) refl))
            (λ (stays : Contains rest (reversed left.head)). inr (record {
              head = left.head;
              among = rest_stays (reversed left.head) stays;
              place = left.place;
              later = left.later;
              is = left.is;
            }))
            c

    own_now : (z : Entry) → Has (added x out) z → Has (entries_of logs) z
    own_now z g = ⊎_elim (λ (old : Has out z). r.own z old) (λ (new : x ≡ z). subst (Has (entries_of logs)) new x_there) (added_has x out z g)

    pub goes_on : IsReached logs more (added x out)
    goes_on = record { ordered = ordered_now; own = own_now; heads' = heads_now; all = all_now; later = later_now }

-- ---- how much is left

-- how many entries of its log a head leaves
abbrev pub left_of : List (List Entry) → Reverse Head → ℕ
left_of logs g = length (log_at logs g.0.log) - g.0.place

module _ (logs : List (List Entry)) (heads rest more : List (Reverse Head)) (out : List Entry) (h : Head) (x : Entry) where
  pub fewer : IsTaken logs heads rest more out h x → sum_by (left_of logs) more < sum_by (left_of logs) heads
  fewer t =
      let within = slice_get_within (log_at logs h.log) h.place x t.here in
      let before = sum_by-IsPermutation (left_of logs) heads (reversed h ∷ rest) t.popped in
      let after = sum_by-IsPermutation (left_of logs) (option_reversed (next_head logs h.log (h.place + 1)) ++ rest) more t.pushed in
      let first : sum_by (left_of logs) (reversed h ∷ rest) ≡ left_of logs (reversed h) + sum_by (left_of logs) rest =
      sum_by-cons (left_of logs) (reversed h) rest in
      let one : sum_by (left_of logs) (option_reversed (next_head logs h.log (h.place + 1)) ++ rest) < left_of logs (reversed h) + sum_by (left_of logs) rest =
      by_option (next_head logs h.log (h.place + 1)) refl within in
      omega (arith, before, after, first, one)
    where
      by_option : (o : Option Head) → next_head logs h.log (h.place + 1) ≡ o → h.place < length (log_at logs h.log) →
          sum_by (left_of logs) (option_reversed o ++ rest) < left_of logs (reversed h) + sum_by (left_of logs) rest
      by_option None is within = omega (arith, within)
      by_option (Some n) is within =
          let s = shows logs h.log (h.place + 1) n is in
          let place = s.place' in
          let log : length (log_at logs n.log) ≡ length (log_at logs h.log) = ap (λ (k : ℕ). length (log_at logs k)) s.log' in
          let first : sum_by (left_of logs) (reversed n ∷ rest) ≡ left_of logs (reversed n) + sum_by (left_of logs) rest =
          sum_by-cons (left_of logs) (reversed n) rest in
          omega (arith, within, place, log, first)

-- a head is an entry of its log
pub head_within : (logs : List (List Entry)) (h : Head) → IsHead logs h → (x : Entry) × (slice_get (log_at logs h.log) h.place ≡ Some x)
head_within logs h is = let s = shows logs h.log h.place h is.is in (s.entry, s.is)

-- ---- the beginning and the end

pub begins : (logs : List (List Entry)) (heads : List (Reverse Head)) → AreFirst logs heads → IsReached logs heads []
begins logs heads first =
    record {
      ordered = refl;
      own = λ x h. absurd h;
      heads' = first.heads';
      all = λ k place x is. inr (first.all k place x is);
      later = λ x h none among. absurd none;
    }

pub ends : (logs : List (List Entry)) (out : List Entry) → AreOne (entries_of logs) → IsReached logs [] out → out ≡ merged logs
ends logs out one r =
    same_list out (merged logs) r.ordered (sorted_ordered (entries_of logs)) (λ z h. has_sorted (entries_of logs) by_has z (r.own z h))
    (λ z h. here z (there_entry logs z (sorted_has (entries_of logs) z h)))
  where
    by_has : (y z : Entry) → Has (entries_of logs) y → Has (entries_of logs) z → is_same y z ≡ true → y ≡ z
    by_has y z a b same = one y z (has_contains (entries_of logs) y a) (has_contains (entries_of logs) z b) same

    here : (z : Entry) → (k : ℕ) × ((place : ℕ) × (slice_get (log_at logs k) place ≡ Some z)) → Has out z
    here z w = ⊎_elim (λ (yes : Has out z). yes) (λ (left : IsLeft logs [] z). absurd (let lt = left.among.1 in omega (arith, lt))) (r.all w.0 w.1.0 z w.1.1)
