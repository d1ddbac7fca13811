-- The messages of a report: in ascending order, and those that were accepted.
use Rattle.std.proofs.Common.{◌≡◌, Bool, true, false, ◌||◌, Option, Some, None, List, [], ◌∷◌, refl, sym, ap, ◌∙◌}
use Rattle.std.specs.List.{fold, list_any}
use Rattle.std.specs.List.Sorted.{IsStrictlySortedBy}
use Rattle.std.specs.Map.{keys_of}
use Rattle.std.specs.BTreeMap.{insert_entry}
use Rattle.std.specs.Cmp.{IsTotalOrder}
use Rattle.std.specs.declared.cmp.Ordering.{Ordering}
use Rattle.std.specs.declared.cmp.Ordering.TheVariants.{Less, Equal, Greater}
use Rattle.std.specs.Ordering.{match_ordering, is_eq}
use Rattle.std.proofs.lemmas.Cmp.{nat_cmp_total, on_total, then_total}
use Rattle.std.proofs.Math.Bool.{or_comm}
use Rattle.am_names.specs.declared.Serial.{Serial}
use Rattle.am_names.specs.declared.MsgKind.{MsgKind}
use Rattle.am_names.specs.declared.Message.{Message}
use Rattle.am_names.specs.Names.{same_serial, has_serial, serial_order}
use Rattle.am_office_entries.specs.declared.Entry.{Entry}
use Rattle.am_office_entries.specs.Entries.{accepted_of, passes}
use Rattle.am_office_entries.specs.Fates.{is_accepted}
use Rattle.am_office_report.specs.Report.{listed, listed_with}
use Rattle.am_office_report.proofs.Knowing.{order_same}
use Rattle.am_office_report.proofs.Sorting.{sorted_insert}
use Rattle.am_model.proofs.Names.{same_serial-is}

abbrev Listed : Type 0
Listed = List (Serial × MsgKind)

total : IsTotalOrder serial_order
total = then_total (on_total (λ (s : Serial). s.source.0) nat_cmp_total) (on_total (λ (s : Serial). s.count) nat_cmp_total)

sorted_with : (es : Listed) (m : Option Message) → IsStrictlySortedBy serial_order (keys_of es) → IsStrictlySortedBy serial_order (keys_of (listed_with es m))
sorted_with es None sorted = sorted
sorted_with es (Some m) sorted = sorted_insert total es m.serial m.kind sorted

sorted_fold : (es : Listed) (xs : List Entry) → IsStrictlySortedBy serial_order (keys_of es) →
    IsStrictlySortedBy serial_order (keys_of (fold (λ (messages : Listed) (x : Entry). listed_with messages (accepted_of x)) es xs))
sorted_fold es [] sorted = sorted
sorted_fold es (x ∷ xs) sorted = sorted_fold (listed_with es (accepted_of x)) xs (sorted_with es (accepted_of x) sorted)

nothing_sorted : IsStrictlySortedBy serial_order []
unfolding IsStrictlySortedBy
nothing_sorted = tt

pub listed_in_order : (journal : List Entry) → IsStrictlySortedBy serial_order (keys_of (listed journal))
listed_in_order journal = sorted_fold [] journal nothing_sorted

or_move : (a b c : Bool) → (a || (b || c)) ≡ ((b || c) || a)
or_move a b c = or_comm a (b || c)

or_right : (a b c : Bool) → (a || (b || c)) ≡ ((a || b) || c)
or_right true b c = refl
or_right false b c = refl

or_again : (a b : Bool) → (a || b) ≡ ((a || b) || a)
or_again true b = refl
or_again false true = refl
or_again false false = refl

any_match : (o : Ordering) (s : Serial) (e : Serial × MsgKind) (es : Listed) (k : Serial) (v : MsgKind) → o ≡ serial_order k e.0 →
    list_any (same_serial s) (keys_of (insert_entry serial_order es k v)) ≡ (list_any (same_serial s) (keys_of es) || same_serial s k) →
    list_any (same_serial s) (keys_of (match_ordering o ((k, v) ∷ e ∷ es) ((e.0, v) ∷ es) (e ∷ insert_entry serial_order es k v))) ≡
    (list_any (same_serial s) (keys_of (e ∷ es)) || same_serial s k)
any_match Less s e es k v is behind = or_move (same_serial s k) (same_serial s e.0) (list_any (same_serial s) (keys_of es))
any_match Equal s e es k v is behind =
    let equal : same_serial e.0 k ≡ true = sym (order_same k e.0) ∙ ap is_eq (sym is) in
    let same : e.0 ≡ k = same_serial-is e.0 k equal in
    rw (← same) (or_again (same_serial s e.0) (list_any (same_serial s) (keys_of es)))
any_match Greater s e es k v is behind = rw behind (or_right (same_serial s e.0) (list_any (same_serial s) (keys_of es)) (same_serial s k))

any_insert : (s : Serial) (es : Listed) (k : Serial) (v : MsgKind) →
    list_any (same_serial s) (keys_of (insert_entry serial_order es k v)) ≡ (list_any (same_serial s) (keys_of es) || same_serial s k)
any_insert s [] k v = or_comm (same_serial s k) false
any_insert s (e ∷ es) k v = any_match (serial_order k e.0) s e es k v refl (any_insert s es k v)

any_with : (s : Serial) (es : Listed) (m : Option Message) → list_any (same_serial s) (keys_of (listed_with es m)) ≡
    (list_any (same_serial s) (keys_of es) || passes (has_serial s) m)
any_with s es None = or_comm false (list_any (same_serial s) (keys_of es))
any_with s es (Some m) = any_insert s es m.serial m.kind

any_fold : (s : Serial) (es : Listed) (xs : List Entry) → list_any (same_serial s) (keys_of
    (fold (λ (messages : Listed) (x : Entry). listed_with messages (accepted_of x)) es xs)) ≡ (list_any (same_serial s) (keys_of es) || is_accepted xs s)
any_fold s es [] = or_comm false (list_any (same_serial s) (keys_of es))
any_fold s es (x ∷ xs) =
    any_fold s (listed_with es (accepted_of x)) xs
    ∙ ap (λ (b : Bool). b || is_accepted xs s) (any_with s es (accepted_of x))
    ∙ sym (or_right (list_any (same_serial s) (keys_of es)) (passes (has_serial s) (accepted_of x)) (is_accepted xs s))

pub listed_are_accepted : (journal : List Entry) (s : Serial) → list_any (same_serial s) (keys_of (listed journal)) ≡ is_accepted journal s
listed_are_accepted journal s = any_fold s [] journal
