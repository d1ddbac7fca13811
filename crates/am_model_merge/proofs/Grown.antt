-- An entry more in the logs that it touches is one entry more of the journal.
use Rattle.std.specs.Prelude.{nat_lt}
use Rattle.std.proofs.Common.{◌≡◌, ℕ, ◌<◌, ◌==◌, Bool, true, false, ◌&&◌, ◌||◌, List, [], ◌∷◌, ◌++◌, map, refl, sym, ap, ◌∙◌, arith, append_assoc, ne_eqb}
use Rattle.std.proofs.Common.{eq-eqb, le-ltb, lt-ltb, if◌then◌else◌}
use Rattle.am_office_entries.specs.declared.Entry.{Entry}
use Rattle.am_model_parts.specs.Readings.{with_entry}
use Rattle.am_model.specs.Layout.{AllAre}
use Rattle.am_model.specs.Merge.{rank, is_before}
use Rattle.am_model_merge.specs.Merged.{IsBelow, PartLog, entries_of, grown, inserted, is_same, journal_after, journal_of, merged, sorted, touches_one}
use Rattle.am_model.specs.Parts.{touches_part, AreBelow}

-- an entry that is stamped lower is another one, and comes before
other_later : (x z : Entry) → z.stamp < x.stamp → (is_same x z ≡ false) × (is_before x z ≡ false)
other_later x z h =
    let e : (x.stamp == z.stamp) ≡ false = ne_eqb x.stamp z.stamp (λ q. omega (arith, q)) in
    let l : nat_lt x.stamp z.stamp ≡ false = le-ltb x.stamp z.stamp (omega arith) in
    (ap (λ b. b && (rank x == rank z)) e, λ i. l i || (e i && nat_lt (rank x) (rank z)))

other_earlier : (y x : Entry) → y.stamp < x.stamp → (is_same y x ≡ false) × (is_before y x ≡ true)
other_earlier y x h =
    let e : (y.stamp == x.stamp) ≡ false = ne_eqb y.stamp x.stamp (λ q. omega (arith, q)) in
    let l : nat_lt y.stamp x.stamp ≡ true = lt-ltb y.stamp x.stamp h in
    (ap (λ b. b && (rank y == rank x)) e, λ i. l i || (e i && nat_lt (rank y) (rank x)))

same_itself : (x : Entry) → is_same x x ≡ true
same_itself x = λ i. eq-eqb x.stamp x.stamp refl i && eq-eqb (rank x) (rank x) refl i

insert_last : (x : Entry) (zs : List Entry) → AreBelow x.stamp zs → inserted x zs ≡ zs ++ x ∷ []
insert_last x [] h = refl
insert_last x (z ∷ zs) h =
    let o = other_later x z h.0 in λ i. if o.0 i then z ∷ zs else (if o.1 i then x ∷ z ∷ zs else z ∷ insert_last x zs h.1 i)

insert_again : (x : Entry) (zs : List Entry) → AreBelow x.stamp zs → inserted x (zs ++ x ∷ []) ≡ zs ++ x ∷ []
insert_again x [] h = ap (λ b. if b then x ∷ [] else (if is_before x x then x ∷ x ∷ [] else x ∷ x ∷ [])) (same_itself x)
insert_again x (z ∷ zs) h =
    let o = other_later x z h.0 in
    λ i. if o.0 i then z ∷ (zs ++ x ∷ []) else (if o.1 i then x ∷ z ∷ (zs ++ x ∷ []) else z ∷ insert_again x zs h.1 i)

insert_before : (y x : Entry) (zs : List Entry) → y.stamp < x.stamp → inserted y (zs ++ x ∷ []) ≡ inserted y zs ++ x ∷ []
insert_before y x [] h =
    let o = other_earlier y x h in λ i. if o.0 i then x ∷ [] else (if o.1 i then y ∷ x ∷ [] else x ∷ y ∷ [])
insert_before y x (z ∷ zs) h = by_tests (is_same y z) (is_before y z) (insert_before y x zs h)
  where
    by_tests : (a b : Bool) → inserted y (zs ++ x ∷ []) ≡ inserted y zs ++ x ∷ [] →
        (if a then z ∷ (zs ++ x ∷ []) else (if b then y ∷ z ∷ (zs ++ x ∷ []) else z ∷ inserted y (zs ++ x ∷ []))) ≡
        (if a then z ∷ zs else (if b then y ∷ z ∷ zs else z ∷ inserted y zs)) ++ x ∷ []
    by_tests true b more = refl
    by_tests false true more = refl
    by_tests false false more = ap (λ (ys : List Entry). z ∷ ys) more

below_inserted : (t : ℕ) (x : Entry) (zs : List Entry) → x.stamp < t → AreBelow t zs → AreBelow t (inserted x zs)
below_inserted t x [] h k = (h, tt)
below_inserted t x (z ∷ zs) h k = by_tests (is_same x z) (is_before x z) (below_inserted t x zs h k.1)
  where
    by_tests : (a b : Bool) → AreBelow t (inserted x zs) → AreBelow t (if a then z ∷ zs else (if b then x ∷ z ∷ zs else z ∷ inserted x zs))
    by_tests true b more = k
    by_tests false true more = (h, k)
    by_tests false false more = (k.0, more)

below_sorted : (t : ℕ) (xs : List Entry) → AreBelow t xs → AreBelow t (sorted xs)
below_sorted t [] h = tt
below_sorted t (x ∷ xs) h = below_inserted t x (sorted xs) h.0 (below_sorted t xs h.1)

below_append : (t : ℕ) (xs ys : List Entry) → AreBelow t xs → AreBelow t ys → AreBelow t (xs ++ ys)
below_append t [] ys h k = k
below_append t (x ∷ xs) ys h k = (h.0, below_append t xs ys h.1 k)

below_entries : (t : ℕ) (ps : List PartLog) → AllAre (IsBelow t) ps → AreBelow t (entries_of (map (λ (p : PartLog). p.log) ps))
below_entries t [] h = tt
below_entries t (p ∷ ps) h = below_append t p.log (entries_of (map (λ (q : PartLog). q.log) ps)) h.0 (below_entries t ps h.1)

-- several entries put where they belong
abbrev inserts : List Entry → List Entry → List Entry
inserts [] zs = zs
inserts (x ∷ xs) zs = inserted x (inserts xs zs)

sorted_append : (xs ys : List Entry) → sorted (xs ++ ys) ≡ inserts xs (sorted ys)
sorted_append [] ys = refl
sorted_append (x ∷ xs) ys = ap (inserted x) (sorted_append xs ys)

inserts_before : (x : Entry) (xs zs : List Entry) → AreBelow x.stamp xs → inserts xs (zs ++ x ∷ []) ≡ inserts xs zs ++ x ∷ []
inserts_before x [] zs h = refl
inserts_before x (y ∷ ys) zs h = ap (inserted y) (inserts_before x ys zs h.1) ∙ insert_before y x (inserts ys zs) h.0

-- the entry, before what has it at its end or not at all
insert_more : (x : Entry) (zs : List Entry) (b : Bool) → AreBelow x.stamp zs → inserted x (with_entry b x zs) ≡ zs ++ x ∷ []
insert_more x zs true h = insert_again x zs h
insert_more x zs false h = insert_last x zs h

inserts_more : (x : Entry) (xs zs : List Entry) (b : Bool) → AreBelow x.stamp xs → inserts xs (with_entry b x zs) ≡ with_entry b x (inserts xs zs)
inserts_more x xs zs true h = inserts_before x xs zs h
inserts_more x xs zs false h = refl

one_grown : (x : Entry) (log rest more : List Entry) (t b : Bool) → AreBelow x.stamp log → AreBelow x.stamp rest → sorted more ≡ with_entry b x (sorted rest) →
    sorted (with_entry t x log ++ more) ≡ with_entry (t || b) x (sorted (log ++ rest))
one_grown x log rest more true b h k grows =
    ap sorted (append_assoc log (x ∷ []) more)
    ∙ sorted_append log (x ∷ more)
    ∙ ap (λ (zs : List Entry). inserts log (inserted x zs)) grows
    ∙ ap (inserts log) (insert_more x (sorted rest) b (below_sorted x.stamp rest k))
    ∙ inserts_before x log (sorted rest) h
    ∙ ap (λ (zs : List Entry). zs ++ x ∷ []) (sym (sorted_append log rest))
one_grown x log rest more false b h k grows =
    sorted_append log more
    ∙ ap (inserts log) grows
    ∙ inserts_more x log (sorted rest) b h
    ∙ ap (with_entry b x) (sym (sorted_append log rest))

all_grown : (x : Entry) (ps : List PartLog) → AllAre (IsBelow x.stamp) ps → journal_after x ps ≡ with_entry (touches_one x ps) x (journal_of ps)
all_grown x [] h = refl
all_grown x (p ∷ ps) h =
    one_grown x p.log (entries_of (map (λ (q : PartLog). q.log) ps)) (entries_of (map (grown x) ps)) (touches_part p.part x) (touches_one x ps) h.0
    (below_entries x.stamp ps h.1) (all_grown x ps h.1)

pub journal_grown : (x : Entry) (ps : List PartLog) → AllAre (IsBelow x.stamp) ps → touches_one x ps ≡ true → journal_after x ps ≡ journal_of ps ++ x ∷ []
journal_grown x ps h one = all_grown x ps h ∙ ap (λ (b : Bool). with_entry b x (journal_of ps)) one

none_touched : (x : Entry) (ps : List PartLog) → touches_one x ps ≡ false → map (grown x) ps ≡ map (λ (p : PartLog). p.log) ps
none_touched x [] h = refl
none_touched x (p ∷ ps) h = by_test (touches_part p.part x) h (none_touched x ps)
  where
    by_test : (b : Bool) → (b || touches_one x ps) ≡ false → (touches_one x ps ≡ false → map (grown x) ps ≡ map (λ (q : PartLog). q.log) ps) →
        with_entry b x p.log ∷ map (grown x) ps ≡ p.log ∷ map (λ (q : PartLog). q.log) ps
    by_test true g more = absurd (cc)
    by_test false g more = ap (λ (ls : List (List Entry)). p.log ∷ ls) (more g)

pub journal_kept : (x : Entry) (ps : List PartLog) → touches_one x ps ≡ false → journal_after x ps ≡ journal_of ps
journal_kept x ps h = ap merged (none_touched x ps h)
