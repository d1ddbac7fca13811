-- Sorting keeps the entries, each once, and puts them in order.
use Rattle.std.specs.Prelude.{nat_lt}
use Rattle.std.specs.List.{filter, list_all, list_any}
use Rattle.std.proofs.Common.{◌≡◌, ◌⊎◌, inl, inr, ⊎_elim, ◌+◌, ◌<◌, ◌==◌, Bool, true, false, List, [], ◌∷◌, Option, Some, None, refl, sym, ap, ◌∙◌, subst}
use Rattle.std.proofs.Common.{arith, ltb-true, ltb-false, eqb-true, eq-eqb, true≢false, if◌then◌else◌}
use Rattle.std.proofs.lemmas.Bool.{and_parts, and_from}
use Rattle.am_names.specs.declared.EndpointId.{EndpointId}
use Rattle.am_names.specs.declared.NodeId.{NodeId}
use Rattle.am_names.specs.Names.{same_end}
use Rattle.am_office_entries.specs.declared.Entry.{Entry}
use Rattle.am_office_entries.specs.Entries.{touches, touches_node, ends_touched, node_touched, is_node}
use Rattle.am_model.specs.Merge.{rank, rank_by, is_before, is_ordered}
use Rattle.am_model.specs.Parts.{is_by_driver}
use Rattle.am_model.proofs.Names.{same_end-first}
use Rattle.am_model_merge.specs.Logs.{AreRising, Logs, MergesInto, StandWhereTheyTouch}
use Rattle.am_model_merge.specs.Merged.{entries_of, inserted, is_same, merged, sorted}
use Rattle.am_model_merge.proofs.Sorted.{Has, before_from, before_then, contains_has, filter_has, has_contains, has_filter, one_stamp, ordered_filter}
use Rattle.am_model_merge.proofs.Sorted.{rising_ordered, same_list}
use Rattle.am_model_merge.proofs.Unique.{touches_some}

-- ---- one entry more in its place

-- an entry that is neither the same nor before comes after
comes_after : (x y : Entry) → is_same x y ≡ false → is_before x y ≡ false → is_before y x ≡ true
comes_after x y other late = by_stamp (nat_lt x.stamp y.stamp) (nat_lt y.stamp x.stamp) refl refl late
  where
    by_rank : x.stamp ≡ y.stamp → (a b : Bool) → nat_lt (rank x) (rank y) ≡ a → nat_lt (rank y) (rank x) ≡ b → is_before y x ≡ true
    by_rank same true b less more = absurd (true≢false (sym (before_from x y (inr (same, ltb-true (rank x) (rank y) less))) ∙ late))
    by_rank same false true less more = before_from y x (inr (sym same, ltb-true (rank y) (rank x) more))
    by_rank same false false less more =
        let equal : rank x ≡ rank y = omega (arith, ltb-false (rank x) (rank y) less, ltb-false (rank y) (rank x) more) in
        absurd (true≢false (sym (and_from (x.stamp == y.stamp) (rank x == rank y) (eq-eqb x.stamp y.stamp same) (eq-eqb (rank x) (rank y) equal)) ∙ other))

    by_stamp : (a b : Bool) → nat_lt x.stamp y.stamp ≡ a → nat_lt y.stamp x.stamp ≡ b → is_before x y ≡ false → is_before y x ≡ true
    by_stamp true b less more g = absurd (true≢false (sym (before_from x y (inl (ltb-true x.stamp y.stamp less))) ∙ g))
    by_stamp false true less more g = before_from y x (inl (ltb-true y.stamp x.stamp more))
    by_stamp false false less more g =
        let same : x.stamp ≡ y.stamp = omega (arith, ltb-false x.stamp y.stamp less, ltb-false y.stamp x.stamp more) in
        by_rank same (nat_lt (rank x) (rank y)) (nat_lt (rank y) (rank x)) refl refl

inserted_has : (x : Entry) (ys : List Entry) (z : Entry) → Has (inserted x ys) z → (x ≡ z) ⊎ Has ys z
inserted_has x [] z h = h
inserted_has x (y ∷ ys) z h = by_tests (is_same x y) (is_before x y) h (inserted_has x ys z)
  where
    by_tests : (a b : Bool) → Has (if a then y ∷ ys else (if b then x ∷ y ∷ ys else y ∷ inserted x ys)) z → (Has (inserted x ys) z → (x ≡ z) ⊎ Has ys z) →
        (x ≡ z) ⊎ ((y ≡ z) ⊎ Has ys z)
    by_tests true b g more = inr g
    by_tests false true g more = g
    by_tests false false g more =
        ⊎_elim (λ (here : y ≡ z). inr (inl here)) (λ (there : Has (inserted x ys) z). ⊎_elim (λ (new : x ≡ z). inl new) (λ (old : Has ys z). inr (inr old))
        (more there)) g

keeps_old : (x : Entry) (ys : List Entry) (z : Entry) → Has ys z → Has (inserted x ys) z
keeps_old x [] z h = absurd h
keeps_old x (y ∷ ys) z h = by_tests (is_same x y) (is_before x y) h (keeps_old x ys z)
  where
    by_tests : (a b : Bool) → (y ≡ z) ⊎ Has ys z → (Has ys z → Has (inserted x ys) z) →
        Has (if a then y ∷ ys else (if b then x ∷ y ∷ ys else y ∷ inserted x ys)) z
    by_tests true b g more = g
    by_tests false true g more = inr g
    by_tests false false g more = ⊎_elim (λ (here : y ≡ z). inl here) (λ (there : Has ys z). inr (more there)) g

has_new : (x : Entry) (ys : List Entry) → ((y : Entry) → Has ys y → is_same x y ≡ true → x ≡ y) → Has (inserted x ys) x
has_new x [] one = inl refl
has_new x (y ∷ ys) one = by_tests (is_same x y) (is_before x y) refl (has_new x ys (λ z h same. one z (inr h) same))
  where
    by_tests : (a b : Bool) → is_same x y ≡ a → Has (inserted x ys) x → Has (if a then y ∷ ys else (if b then x ∷ y ∷ ys else y ∷ inserted x ys)) x
    by_tests true b is more = inl (sym (one y (inl refl) is))
    by_tests false true is more = inl refl
    by_tests false false is more = inr more

all_inserted : (p : Entry → Bool) (x : Entry) (ys : List Entry) → p x ≡ true → list_all p ys ≡ true → list_all p (inserted x ys) ≡ true
all_inserted p x [] here all = and_from (p x) true here refl
all_inserted p x (y ∷ ys) here all =
    let parts = and_parts (p y) (list_all p ys) all in by_tests (is_same x y) (is_before x y) (all_inserted p x ys here parts.1)
  where
    by_tests : (a b : Bool) → list_all p (inserted x ys) ≡ true → list_all p (if a then y ∷ ys else (if b then x ∷ y ∷ ys else y ∷ inserted x ys)) ≡ true
    by_tests true b more = all
    by_tests false true more = and_from (p x) (list_all p (y ∷ ys)) here all
    by_tests false false more = and_from (p y) (list_all p (inserted x ys)) (and_parts (p y) (list_all p ys) all).0 more

all_after : (x y : Entry) (zs : List Entry) → is_before x y ≡ true → list_all (is_before y) zs ≡ true → list_all (is_before x) zs ≡ true
all_after x y [] h all = refl
all_after x y (z ∷ zs) h all =
    let parts = and_parts (is_before y z) (list_all (is_before y) zs) all in
    and_from (is_before x z) (list_all (is_before x) zs) (before_then x y z h parts.0) (all_after x y zs h parts.1)

ordered_inserted : (x : Entry) (ys : List Entry) → is_ordered ys ≡ true → is_ordered (inserted x ys) ≡ true
ordered_inserted x [] h = refl
ordered_inserted x (y ∷ ys) h =
    let parts = and_parts (list_all (is_before y) ys) (is_ordered ys) h in
    by_tests (is_same x y) (is_before x y) refl refl parts.0 (ordered_inserted x ys parts.1)
  where
    by_tests : (a b : Bool) → is_same x y ≡ a → is_before x y ≡ b → list_all (is_before y) ys ≡ true → is_ordered (inserted x ys) ≡ true →
        is_ordered (if a then y ∷ ys else (if b then x ∷ y ∷ ys else y ∷ inserted x ys)) ≡ true
    by_tests true b same early all more = h
    by_tests false true same early all more =
        and_from (list_all (is_before x) (y ∷ ys)) (is_ordered (y ∷ ys)) (and_from (is_before x y) (list_all (is_before x) ys) early
        (all_after x y ys early all)) h
    by_tests false false same late all more =
        and_from (list_all (is_before y) (inserted x ys)) (is_ordered (inserted x ys)) (all_inserted (is_before y) x ys (comes_after x y same late) all) more

-- ---- all of them

pub sorted_ordered : (xs : List Entry) → is_ordered (sorted xs) ≡ true
sorted_ordered [] = refl
sorted_ordered (x ∷ xs) = ordered_inserted x (sorted xs) (sorted_ordered xs)

pub sorted_has : (xs : List Entry) (z : Entry) → Has (sorted xs) z → Has xs z
sorted_has [] z h = h
sorted_has (x ∷ xs) z h = ⊎_elim (λ (new : x ≡ z). inl new) (λ (old : Has (sorted xs) z). inr (sorted_has xs z old)) (inserted_has x (sorted xs) z h)

-- two entries of the list with the same stamp and the same part are one
abbrev pub AreOne : List Entry → Type 0
AreOne xs = (y z : Entry) → Has xs y → Has xs z → is_same y z ≡ true → y ≡ z

pub has_sorted : (xs : List Entry) → AreOne xs → (z : Entry) → Has xs z → Has (sorted xs) z
has_sorted [] one z h = h
has_sorted (x ∷ xs) one z h =
    ⊎_elim
    (λ (here : x ≡ z). subst (Has (inserted x (sorted xs))) here (has_new x (sorted xs) (λ y g same. one x y (inl refl) (inr (sorted_has xs y g)) same)))
    (λ (there : Has xs z). keeps_old x (sorted xs) z (has_sorted xs (λ y w a b same. one y w (inr a) (inr b) same) z there))
    h

-- ---- the logs of all parts

-- some of the sorted entries are a log, where it is in order and has just those
part_sorted : (q : Entry → Bool) (all log : List Entry) → AreOne all → is_ordered log ≡ true → ((x : Entry) → Has log x → Has all x × (q x ≡ true)) →
    ((x : Entry) → Has all x → q x ≡ true → Has log x) → filter q (sorted all) ≡ log
part_sorted q all log one ordered own joint =
    same_list (filter q (sorted all)) log (ordered_filter q (sorted all) (sorted_ordered all)) ordered
    (λ z h. let r = has_filter q (sorted all) z h in joint z (sorted_has all z r.0) r.1)
    (λ z h. let r = own z h in filter_has q (sorted all) z (has_sorted all one z r.0) r.1)

-- the part that an entry is listed under
pub data Listed (x : Entry) : Type 0 where
  UnderEnd : (e : EndpointId) → touches e x ≡ true → rank x ≡ e.0 → Listed x
  UnderNode : (node : NodeId) → touches_node node x ≡ true → rank x ≡ 256 + node.0 → Listed x

listed : (x : Entry) → Listed x
listed x = by_parts (ends_touched x.event x.outcome) refl (node_touched x.event) refl (touches_some x.event x.outcome)
  where
    rank_is : (es : List EndpointId) (at : Option NodeId) → ends_touched x.event x.outcome ≡ es → node_touched x.event ≡ at → rank x ≡ rank_by es at
    rank_is es at ends nodes = λ i. rank_by (ends i) (nodes i)

    by_parts : (es : List EndpointId) → ends_touched x.event x.outcome ≡ es → (at : Option NodeId) → node_touched x.event ≡ at →
        ((e : EndpointId) × (touches e x ≡ true)) ⊎ ((node : NodeId) × (touches_node node x ≡ true)) → Listed x
    by_parts (e ∷ es) ends at nodes some = UnderEnd e (ap (list_any (same_end e)) ends ∙ same_end-first e es) (rank_is (e ∷ es) at ends nodes)
    by_parts [] ends (Some node) nodes some = UnderNode node (ap (is_node node) nodes ∙ eq-eqb node.0 node.0 refl) (rank_is [] (Some node) ends nodes)
    by_parts [] ends None nodes some =
        ⊎_elim
        (λ (t : (e : EndpointId) × (touches e x ≡ true)). absurd (true≢false (sym t.1 ∙ ap (list_any (same_end t.0)) ends)))
        (λ (t : (node : NodeId) × (touches_node node x ≡ true)). absurd (true≢false (sym t.1 ∙ ap (is_node t.0) nodes)))
        some

are_one : (logs : Logs) (all : List Entry) → AreRising logs → StandWhereTheyTouch logs all → AreOne all
are_one logs all rising stand y z a b same =
    let parts = and_parts (y.stamp == z.stamp) (rank y == rank z) same in
    by_parts (listed y) (listed z) (eqb-true y.stamp z.stamp parts.0) (eqb-true (rank y) (rank z) parts.1)
  where
    in_end : (e : EndpointId) (w : Entry) → Has all w → touches e w ≡ true → Has (logs.end e) w
    in_end e w h t = contains_has (logs.end e) w ((stand.ends e w).1 (has_contains all w h, t))

    in_node : (n : NodeId) (w : Entry) → Has all w → touches_node n w ≡ true → Has (logs.node n) w
    in_node n w h t = contains_has (logs.node n) w ((stand.nodes n w).1 (has_contains all w h, t))

    small : (e : EndpointId) (w : Entry) → Has all w → touches e w ≡ true → e.0 < 256
    small e w h t = stand.numbers e w (has_contains all w h) t

    by_parts : Listed y → Listed z → y.stamp ≡ z.stamp → rank y ≡ rank z → y ≡ z
    by_parts (UnderEnd e t r) (UnderEnd f u s) stamps ranks =
        let number : f.0 ≡ e.0 = sym s ∙ sym ranks ∙ r in
        let end : f ≡ e = (λ i. record { 0 = number i }) in
        one_stamp (logs.end e) y z (rising.ends e) (in_end e y a t) (in_end e z b (subst (λ (d : EndpointId). touches d z ≡ true) end u)) stamps
    by_parts (UnderEnd e t r) (UnderNode n u s) stamps ranks = absurd (omega (arith, small e y a t, r, s, ranks))
    by_parts (UnderNode n t r) (UnderEnd f u s) stamps ranks = absurd (omega (arith, small f z b u, r, s, ranks))
    by_parts (UnderNode n t r) (UnderNode m u s) stamps ranks =
        let number : m.0 ≡ n.0 = omega (arith, r, s, ranks) in
        let node : m ≡ n = (λ i. record { 0 = number i }) in
        one_stamp (logs.node n) y z (rising.nodes n) (in_node n y a t) (in_node n z b (subst (λ (d : NodeId). touches_node d z ≡ true) node u)) stamps

-- such logs merge into their sorted entries
pub merges : (logs : Logs) (all : List (List Entry)) → AreRising logs → StandWhereTheyTouch logs (entries_of all) → MergesInto logs (merged all)
merges logs all rising stand =
    record {
      merged =
          record {
            ordered = sorted_ordered entries;
            of_ends =
                λ e.
                part_sorted (touches e) entries (logs.end e) one (rising_ordered (logs.end e) (rising.ends e))
                (λ x h. let r = (stand.ends e x).0 (has_contains (logs.end e) x h) in (contains_has entries x r.0, r.1))
                (λ x h t. contains_has (logs.end e) x ((stand.ends e x).1 (has_contains entries x h, t)));
            of_nodes =
                λ n.
                part_sorted (touches_node n) entries (logs.node n) one (rising_ordered (logs.node n) (rising.nodes n))
                (λ x h. let r = (stand.nodes n x).0 (has_contains (logs.node n) x h) in (contains_has entries x r.0, r.1))
                (λ x h t. contains_has (logs.node n) x ((stand.nodes n x).1 (has_contains entries x h, t)));
          };
      of_drivers =
          λ n.
          part_sorted (is_by_driver n) entries (logs.driver n) one (rising_ordered (logs.driver n) (rising.drivers n))
          (λ x h. let r = (stand.drivers n x).0 (has_contains (logs.driver n) x h) in (contains_has entries x r.0, r.1))
          (λ x h t. contains_has (logs.driver n) x ((stand.drivers n x).1 (has_contains entries x h, t)));
    }
  where
    entries : List Entry
    entries = entries_of all

    one : AreOne entries
    one = are_one logs entries rising stand
