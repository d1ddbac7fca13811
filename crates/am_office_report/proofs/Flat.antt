-- The messages of all sources in one list.
use Rattle.std.proofs.Common.{◌≡◌, ℕ, zero, suc, ◌+◌, ◌<◌, ◌==◌, ◌&&◌, Bool, List, [], ◌∷◌, ◌++◌, refl, sym, ap, ◌∙◌, map, length, take, get_or, slice_set, inl}
use Rattle.std.proofs.Common.{inr, arith, append_assoc, replicate, add-one, Result, Ok, Err, OnOk}
use Rattle.std.specs.List.{AllByRecursion}
use Rattle.std.specs.Map.{keys_of}
use Rattle.std.specs.BTreeMap.{insert_entry}
use Rattle.std.specs.Ordering.{nat_cmp, match_ordering, ordering_then}
use Rattle.std.specs.declared.cmp.Ordering.{Ordering}
use Rattle.std.specs.declared.cmp.Ordering.TheVariants.{Less, Equal, Greater}
use Rattle.std.proofs.lemmas.List.{map-append, append-nil}
use Rattle.std.proofs.lemmas.Bool.Decides.{eqb_tells}
use Rattle.am_lemmas.proofs.Lists.{map_alike, map_twice}
use Rattle.am_names.specs.declared.Serial.{Serial}
use Rattle.am_names.specs.Names.{serial_order}
use Rattle.am_office_report.specs.declared.sources.MessageState.{MessageState}
use Rattle.am_office_report.specs.declared.known.News.{News}
use Rattle.am_office_report.specs.declared.messages.MessageFate.{MessageFate}
use Rattle.am_office_report.specs.Tables.{heard, heard_if, source_entry, entries_from, messages_in, entry_after, fate_of_entry}
use Rattle.am_office_report.proofs.Placing.{below_is, same_is, above_is}

abbrev Row : Type 0
Row = ℕ × MessageState

abbrev Entries : Type 0
Entries = List (Serial × MessageState)

abbrev serial_at : ℕ → ℕ → Serial
serial_at source count = record { source = record { 0 = source }; count = count }

pub match_map : {X Y : Type 0} (f : X → Y) (o : Ordering) (a b c : List X) → match_ordering o (map f a) (map f b) (map f c) ≡ map f (match_ordering o a b c)
match_map f Less a b c = refl
match_map f Equal a b c = refl
match_map f Greater a b c = refl

match_append : {X : Type 0} (o : Ordering) (a b c fs : List X) → match_ordering o (a ++ fs) (b ++ fs) (c ++ fs) ≡ match_ordering o a b c ++ fs
match_append Less a b c fs = refl
match_append Equal a b c fs = refl
match_append Greater a b c fs = refl

order_within : (b c k : ℕ) → serial_order (serial_at b c) (serial_at b k) ≡ nat_cmp c k
order_within b c k = ap (λ (o : Ordering). ordering_then o (nat_cmp c k)) (same_is b b refl)

one_source : (b : ℕ) (rows : List Row) (c : ℕ) (v : MessageState) →
    insert_entry serial_order (map (source_entry b) rows) (serial_at b c) v ≡ map (source_entry b) (insert_entry nat_cmp rows c v)
one_source b [] c v = refl
one_source b (r ∷ rs) c v =
    let less : Entries = (serial_at b c, v) ∷ source_entry b r ∷ map (source_entry b) rs in
    let same : Entries = (serial_at b r.0, v) ∷ map (source_entry b) rs in
    ap (λ (o : Ordering). match_ordering o less same (source_entry b r ∷ insert_entry serial_order (map (source_entry b) rs) (serial_at b c) v))
    (order_within b c r.0)
    ∙ ap (λ (rest : Entries). match_ordering (nat_cmp c r.0) less same (source_entry b r ∷ rest)) (one_source b rs c v)
    ∙ match_map (source_entry b) (nat_cmp c r.0) ((c, v) ∷ r ∷ rs) ((r.0, v) ∷ rs) (r ∷ insert_entry nat_cmp rs c v)

insert_before : (es fs : Entries) (k : Serial) (v : MessageState) → AllByRecursion (λ (s : Serial). serial_order k s ≡ Less) (keys_of fs) →
    insert_entry serial_order (es ++ fs) k v ≡ insert_entry serial_order es k v ++ fs
insert_before [] [] k v all = refl
insert_before [] (f ∷ fs) k v all =
    ap (λ (o : Ordering). match_ordering o ((k, v) ∷ f ∷ fs) ((f.0, v) ∷ fs) (f ∷ insert_entry serial_order fs k v)) all.0
insert_before (e ∷ es) fs k v all =
    ap (λ (rest : Entries). match_ordering (serial_order k e.0) ((k, v) ∷ e ∷ (es ++ fs)) ((e.0, v) ∷ (es ++ fs)) (e ∷ rest)) (insert_before es fs k v all)
    ∙ match_append (serial_order k e.0) ((k, v) ∷ e ∷ es) ((e.0, v) ∷ es) (e ∷ insert_entry serial_order es k v) fs

insert_behind : (es fs : Entries) (k : Serial) (v : MessageState) → AllByRecursion (λ (s : Serial). serial_order k s ≡ Greater) (keys_of es) →
    insert_entry serial_order (es ++ fs) k v ≡ es ++ insert_entry serial_order fs k v
insert_behind [] fs k v all = refl
insert_behind (e ∷ es) fs k v all =
    ap (λ (o : Ordering). match_ordering o ((k, v) ∷ e ∷ (es ++ fs)) ((e.0, v) ∷ (es ++ fs)) (e ∷ insert_entry serial_order (es ++ fs) k v)) all.0
    ∙ ap (λ (rest : Entries). e ∷ rest) (insert_behind es fs k v all.1)

later_rows : (s : Serial) (b : ℕ) (rows : List Row) (fs : Entries) → s.source.0 < b → AllByRecursion (λ (t : Serial). serial_order s t ≡ Less) (keys_of fs) →
    AllByRecursion (λ (t : Serial). serial_order s t ≡ Less) (keys_of (map (source_entry b) rows ++ fs))
later_rows s b [] fs below all = all
later_rows s b (r ∷ rs) fs below all =
    (ap (λ (o : Ordering). ordering_then o (nat_cmp s.count r.0)) (below_is s.source.0 b below), later_rows s b rs fs below all)

later : (s : Serial) (b : ℕ) (sources : List (List Row)) → s.source.0 < b →
    AllByRecursion (λ (t : Serial). serial_order s t ≡ Less) (keys_of (entries_from b sources))
later s b [] below = tt
later s b (rows ∷ sources) below = later_rows s b rows (entries_from (b + 1) sources) below (later s (b + 1) sources (omega arith))

earlier_rows : (s : Serial) (b : ℕ) (rows : List Row) → b < s.source.0 →
    AllByRecursion (λ (t : Serial). serial_order s t ≡ Greater) (keys_of (map (source_entry b) rows))
earlier_rows s b [] above = tt
earlier_rows s b (r ∷ rs) above =
    (ap (λ (o : Ordering). ordering_then o (nat_cmp s.count r.0)) (above_is s.source.0 b above), earlier_rows s b rs above)

inserted_first : (b n : ℕ) (rows : List Row) (sources : List (List Row)) (c : ℕ) (v : MessageState) → n ≡ b →
    insert_entry serial_order (entries_from b (rows ∷ sources)) (serial_at n c) v ≡ entries_from b (insert_entry nat_cmp rows c v ∷ sources)
inserted_first b n rows sources c v is =
    rw is (
    insert_before (map (source_entry b) rows) (entries_from (b + 1) sources) (serial_at b c) v (later (serial_at b c) (b + 1) sources (omega arith))
    ∙ ap (λ (es : Entries). es ++ entries_from (b + 1) sources) (one_source b rows c v)
    )

inserted_in : (b j n : ℕ) (sources : List (List Row)) (c : ℕ) (v : MessageState) → n ≡ b + j → j < length sources →
    insert_entry serial_order (entries_from b sources) (serial_at n c) v ≡ entries_from b (slice_set sources j (insert_entry nat_cmp (get_or sources j []) c v))
inserted_in b j n [] c v is below = absurd (omega arith)
inserted_in b zero n (rows ∷ sources) c v is below = inserted_first b n rows sources c v (omega arith)
inserted_in b (suc j) n (rows ∷ sources) c v is below =
    insert_behind (map (source_entry b) rows) (entries_from (b + 1) sources) (serial_at n c) v (earlier_rows (serial_at n c) b rows (omega arith))
    ∙ ap (λ (es : Entries). map (source_entry b) rows ++ es) (inserted_in (b + 1) j n sources c v (omega arith) (omega arith))

append_same : (a b c d : Entries) → a ≡ b → c ≡ d → a ++ c ≡ b ++ d
append_same a b c d e f = ap (λ (es : Entries). es ++ c) e ∙ ap (λ (es : Entries). b ++ es) f

any_list : (sources : List (List Row)) (i : ℕ) (d e : List Row) → i < length sources → get_or sources i d ≡ get_or sources i e
any_list [] i d e below = absurd (omega arith)
any_list (rows ∷ sources) zero d e below = refl
any_list (rows ∷ sources) (suc i) d e below = any_list sources i d e (omega arith)

other_source : (about : Serial) (news : News) (b : ℕ) → (b ≡ about.source.0 → ⊥) → (r : Row) → entry_after about news (source_entry b r) ≡ source_entry b r
other_source about news b apart r = elim (eqb_tells b about.source.0) [
  | inl (found, same) ↦ absurd (apart same)
  | inr (missed, other) ↦ ap (λ (same : Bool). (serial_at b r.0, heard_if (same && (r.0 == about.count)) news r.1)) missed
]

this_source : (about : Serial) (news : News) (b : ℕ) → b ≡ about.source.0 → (r : Row) →
    entry_after about news (source_entry b r) ≡ source_entry b (heard about.count news r)
this_source about news b is r = elim (eqb_tells b about.source.0) [
  | inl (found, same) ↦ ap (λ (same : Bool). (serial_at b r.0, heard_if (same && (r.0 == about.count)) news r.1)) found
  | inr (missed, other) ↦ absurd (other is)
]

other_rows : (about : Serial) (news : News) (b : ℕ) (rows : List Row) → (b ≡ about.source.0 → ⊥) →
    map (entry_after about news) (map (source_entry b) rows) ≡ map (source_entry b) rows
other_rows about news b rows apart =
    map_twice (source_entry b) (entry_after about news) rows
    ∙ map_alike (λ (r : Row). entry_after about news (source_entry b r)) (source_entry b) (other_source about news b apart) rows

this_rows : (about : Serial) (news : News) (b : ℕ) (rows : List Row) → b ≡ about.source.0 →
    map (entry_after about news) (map (source_entry b) rows) ≡ map (source_entry b) (map (heard about.count news) rows)
this_rows about news b rows is =
    map_twice (source_entry b) (entry_after about news) rows
    ∙ map_alike (λ (r : Row). entry_after about news (source_entry b r)) (λ (r : Row). source_entry b (heard about.count news r)) (this_source about news b is)
    rows
    ∙ sym (map_twice (heard about.count news) (source_entry b) rows)

untouched : (about : Serial) (news : News) (b : ℕ) (sources : List (List Row)) → about.source.0 < b →
    map (entry_after about news) (entries_from b sources) ≡ entries_from b sources
untouched about news b [] below = refl
untouched about news b (rows ∷ sources) below =
    map-append (entry_after about news) (map (source_entry b) rows) (entries_from (b + 1) sources)
    ∙ append_same _ _ _ _ (other_rows about news b rows (λ (same : b ≡ about.source.0). omega arith)) (untouched about news (b + 1) sources (omega arith))

heard_in : (about : Serial) (news : News) (b j : ℕ) (sources : List (List Row)) → about.source.0 ≡ b + j → j < length sources →
    map (entry_after about news) (entries_from b sources) ≡ entries_from b (slice_set sources j (map (heard about.count news) (get_or sources j [])))
heard_in about news b j [] is below = absurd (omega arith)
heard_in about news b zero (rows ∷ sources) is below =
    map-append (entry_after about news) (map (source_entry b) rows) (entries_from (b + 1) sources)
    ∙ append_same _ _ _ _ (this_rows about news b rows (omega arith)) (untouched about news (b + 1) sources (omega arith))
heard_in about news b (suc j) (rows ∷ sources) is below =
    map-append (entry_after about news) (map (source_entry b) rows) (entries_from (b + 1) sources)
    ∙ append_same _ _ _ _ (other_rows about news b rows (λ (same : b ≡ about.source.0). omega arith))
    (heard_in about news (b + 1) j sources (omega arith) (omega arith))

entries_next : (b i n : ℕ) (sources : List (List Row)) → n ≡ b + i → i < length sources →
    entries_from b (take (suc i) sources) ≡ entries_from b (take i sources) ++ map (source_entry n) (get_or sources i [])
entries_next b i n [] is below = absurd (omega arith)
entries_next b zero n (rows ∷ sources) is below =
    let same : n ≡ b = omega arith in
    rw same (append-nil (map (source_entry b) rows))
entries_next b (suc i) n (rows ∷ sources) is below =
    ap (λ (es : Entries). map (source_entry b) rows ++ es) (entries_next (b + 1) i n sources (omega arith) (omega arith))
    ∙ sym (append_assoc (map (source_entry b) rows) (entries_from (b + 1) (take i sources)) (map (source_entry n) (get_or sources i [])))

-- sources without messages
pub entries_none : (b n : ℕ) → entries_from b (replicate n []) ≡ []
entries_none b zero = refl
entries_none b (suc n) = entries_none (b + 1) n

-- ---- as the table's functions need them

table_accepted : (sources old : List (List Row)) (i : ℕ) (rows d new : List Row) (s : Serial) (v : MessageState) → sources ≡ old → i ≡ s.source.0 →
    i < length sources → rows ≡ get_or sources i d → new ≡ insert_entry nat_cmp rows s.count v →
    messages_in (slice_set sources i new) ≡ insert_entry serial_order (messages_in old) s v
table_accepted sources old i rows d new s v same is below found put =
    let row : rows ≡ get_or sources i [] = found ∙ any_list sources i d [] below in
    ap (λ (x : List Row). messages_in (slice_set sources i x)) (put ∙ ap (λ (x : List Row). insert_entry nat_cmp x s.count v) row)
    ∙ sym (inserted_in 0 i s.source.0 sources s.count v (omega arith) below)
    ∙ ap (λ (x : List (List Row)). insert_entry serial_order (messages_in x) s v) same

pub table_heard : (sources old : List (List Row)) (i : ℕ) (rows d new : List Row) (s : Serial) (news : News) → sources ≡ old → i ≡ s.source.0 →
    i < length sources → rows ≡ get_or sources i d → new ≡ map (heard s.count news) rows →
    messages_in (slice_set sources i new) ≡ map (entry_after s news) (messages_in old)
table_heard sources old i rows d new s news same is below found put =
    let row : rows ≡ get_or sources i [] = found ∙ any_list sources i d [] below in
    ap (λ (x : List Row). messages_in (slice_set sources i x)) (put ∙ ap (λ (x : List Row). map (heard s.count news) x) row)
    ∙ sym (heard_in s news 0 i sources (omega arith) below)
    ∙ ap (λ (x : List (List Row)). map (entry_after s news) (messages_in x)) same

pub table_told : (sources : List (List Row)) (i n : ℕ) (told new : List MessageFate) (rows d : List Row) → n ≡ i → i < length sources →
    rows ≡ get_or sources i d → told ≡ map fate_of_entry (entries_from 0 (take i sources)) → new ≡ told ++ map fate_of_entry (map (source_entry n) rows) →
    new ≡ map fate_of_entry (entries_from 0 (take (i + 1) sources))
table_told sources i n told new rows d is below found before put =
    let row : rows ≡ get_or sources i [] = found ∙ any_list sources i d [] below in
    put
    ∙ ap (λ (x : List MessageFate). x ++ map fate_of_entry (map (source_entry n) rows)) before
    ∙ ap (λ (x : List Row). map fate_of_entry (entries_from 0 (take i sources)) ++ map fate_of_entry (map (source_entry n) x)) row
    ∙ sym (map-append fate_of_entry (entries_from 0 (take i sources)) (map (source_entry n) (get_or sources i [])))
    ∙ ap (λ (x : Entries). map fate_of_entry x) (sym (entries_next 0 i n sources (omega arith) below))
    ∙ ap (λ (k : ℕ). map fate_of_entry (entries_from 0 (take k sources))) (sym (add-one i))

pub table_accepted_ok : {T E : Type 0} (r : Result T E) (sources old : List (List Row)) (i : ℕ) (rows d new : List Row) (s : Serial) (v : MessageState) →
    sources ≡ old → i ≡ s.source.0 → i < length sources → rows ≡ get_or sources i d → OnOk r (new ≡ insert_entry nat_cmp rows s.count v) →
    OnOk r (messages_in (slice_set sources i new) ≡ insert_entry serial_order (messages_in old) s v)
table_accepted_ok (Ok x) sources old i rows d new s v same is below found put = table_accepted sources old i rows d new s v same is below found put
table_accepted_ok (Err e) sources old i rows d new s v same is below found put = tt
