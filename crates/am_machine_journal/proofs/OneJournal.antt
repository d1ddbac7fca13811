-- Logs that have just the entries of a journal in order merge into it.
use Rattle.std.specs.Prelude.{nat_lt, slice_index_or}
use Rattle.std.specs.List.{list_all}
use Rattle.std.proofs.Common.{◌≡◌, inl, inr, ⊎_elim, ℕ, zero, suc, ◌<◌, ◌==◌, true, List, [], ◌∷◌, ◌∙◌, length, map, refl, sym, subst, arith, eq-eqb, eqb-true}
use Rattle.std.proofs.Common.{ltb-true}
use Rattle.std.proofs.lemmas.Bool.{and_from, and_parts}
use Rattle.am_office_entries.specs.declared.Entry.{Entry}
use Rattle.am_model.specs.Merge.{rank, is_before, is_ordered}
use Rattle.am_model_merge.specs.Merged.{entries_of, is_same, merged, sorted}
use Rattle.am_model_merge.proofs.Inserting.{has_sorted, sorted_has, sorted_ordered}
use Rattle.am_model_merge.proofs.Sorted.{Has, all_has, contains_has, earlier, has_contains, same_list}
use Rattle.am_machine_journal.specs.Merge.Joined.{AreAmong, AreOne, HaveJust}

-- an entry before another is not the same
not_before : (x y : Entry) → is_same x y ≡ true → is_before x y ≡ true → ⊥
not_before x y same before =
    let parts = and_parts (x.stamp == y.stamp) (rank x == rank y) same in
    let stamp = eqb-true x.stamp y.stamp parts.0 in
    let part = eqb-true (rank x) (rank y) parts.1 in
    ⊎_elim (λ (less : x.stamp < y.stamp). absurd (omega (arith, less, stamp))) (λ (tie : (x.stamp ≡ y.stamp) × (rank x < rank y)). absurd
    (omega (arith, tie.1, part))) (earlier x y before)

same_back : (x y : Entry) → is_same x y ≡ true → is_same y x ≡ true
same_back x y same =
    let parts = and_parts (x.stamp == y.stamp) (rank x == rank y) same in
    and_from (y.stamp == x.stamp) (rank y == rank x) (eq-eqb y.stamp x.stamp (sym (eqb-true x.stamp y.stamp parts.0)))
    (eq-eqb (rank y) (rank x) (sym (eqb-true (rank x) (rank y) parts.1)))

one_of : (journal : List Entry) (x y : Entry) → is_ordered journal ≡ true → Has journal x → Has journal y → is_same x y ≡ true → x ≡ y
one_of [] x y ordered a b same = absurd a
one_of (z ∷ zs) x y ordered a b same =
    let parts = and_parts (list_all (is_before z) zs) (is_ordered zs) ordered in
    ⊎_elim
    (λ (here : z ≡ x).
    ⊎_elim
    (λ (there : z ≡ y). sym here ∙ there)
    (λ (later : Has zs y). absurd (not_before x y same (subst (λ (w : Entry). is_before w y ≡ true) here (all_has (is_before z) zs y parts.0 later))))
    b)
    (λ (far : Has zs x).
    ⊎_elim
    (λ (there : z ≡ y). absurd (not_before y x (same_back x y same) (subst (λ (w : Entry). is_before w x ≡ true) there
    (all_has (is_before z) zs x parts.0 far))))
    (λ (later : Has zs y). one_of zs x y parts.1 far later same)
    b)
    a

pub are_one : (journal entries : List Entry) → is_ordered journal ≡ true → AreAmong journal entries → AreOne entries
are_one journal entries ordered among x y a b same = one_of journal x y ordered (contains_has journal x (among x a)) (contains_has journal y (among y b)) same

pub merged_is : (journal : List Entry) (logs : List (List Entry)) → is_ordered journal ≡ true → HaveJust journal logs → merged logs ≡ journal
merged_is journal logs ordered just =
    same_list (merged logs) journal (sorted_ordered (entries_of logs)) ordered (λ z h. into z (sorted_has (entries_of logs) z h))
    (λ z h. has_sorted (entries_of logs) (λ x y a b same. one_of journal x y ordered (into x a) (into y b) same) z
    (contains_has (entries_of logs) z (just.all z (has_contains journal z h))))
  where
    into : (x : Entry) → Has (entries_of logs) x → Has journal x
    into x h = contains_has journal x (just.own x (has_contains (entries_of logs) x h))

-- entries that are at given places of the list that they sort to
pub sorted_one : (entries : List Entry) (places : List ℕ) (past : Entry) → list_all (λ (k : ℕ). nat_lt k (length (sorted entries))) places ≡ true →
    map (λ (k : ℕ). slice_index_or (sorted entries) k past) places ≡ entries → AreOne entries
sorted_one entries places past within same x y a b =
    one_of (sorted entries) x y (sorted_ordered entries) (at places within x (subst (λ (l : List Entry). Has l x) (sym same) (contains_has entries x a)))
    (at places within y (subst (λ (l : List Entry). Has l y) (sym same) (contains_has entries y b)))
  where
    picked : (xs : List Entry) (k : ℕ) → k < length xs → Has xs (slice_index_or xs k past)
    picked [] k lt = absurd (omega (arith, lt))
    picked (z ∷ zs) zero lt = inl refl
    picked (z ∷ zs) (suc k) lt = inr (picked zs k (omega (arith, lt)))

    at : (ks : List ℕ) → list_all (λ (k : ℕ). nat_lt k (length (sorted entries))) ks ≡ true → (z : Entry) →
        Has (map (λ (k : ℕ). slice_index_or (sorted entries) k past) ks) z → Has (sorted entries) z
    at [] all z h = absurd h
    at (k ∷ ks) all z h =
        let parts = and_parts (nat_lt k (length (sorted entries))) (list_all (λ (m : ℕ). nat_lt m (length (sorted entries))) ks) all in
        ⊎_elim
        (λ (here : slice_index_or (sorted entries) k past ≡ z). subst (Has (sorted entries)) here
        (picked (sorted entries) k (ltb-true k (length (sorted entries)) parts.0)))
        (λ (there : Has (map (λ (m : ℕ). slice_index_or (sorted entries) m past) ks) z). at ks parts.1 z there)
        h
