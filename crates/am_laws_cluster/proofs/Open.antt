-- A waiting record is of an open request.
use Rattle.std.specs.Prelude.{not, count_by}
use Rattle.std.proofs.Common.{◌≡◌, ◌≤◌, Bool, true, false, ◌&&◌, ◌||◌, List, [], ◌∷◌, Some, None, refl, sym, ap, ◌∙◌, subst, arith, true≢false, if◌then◌else◌}
use Rattle.std.proofs.lemmas.List.Sums.{sum_by-cons}
use Rattle.std.specs.List.{list_any}
use Rattle.am_names.specs.declared.EndpointId.{EndpointId}
use Rattle.am_names.specs.declared.Serial.{Serial}
use Rattle.am_office_entries.specs.declared.Call.TheVariants as Calls
use Rattle.am_office_entries.specs.declared.Event.{Event}
use Rattle.am_office_entries.specs.declared.Event.TheVariants as Events
use Rattle.am_office_entries.specs.declared.Outcome.{Outcome}
use Rattle.am_office_entries.specs.declared.Outcome.TheVariants as Out
use Rattle.am_office_entries.specs.declared.Entry.{Entry}
use Rattle.am_names.specs.Names.{same_end, same_serial}
use Rattle.am_model.specs.declared.Awaited.{Awaited}
use Rattle.am_office_entries.specs.Entries.{run_of, returned_of, unknown_of, given_up_of, passes, is_serial}
use Rattle.am_model.specs.Layout.{Layout, AllAre}
use Rattle.am_model.specs.History.{state_of, IsHistory}
use Rattle.am_model.specs.PostOffice.{times_serial, is_about, ends_hold, is_held}
use Rattle.am_model.proofs.Names.{same_serial-is, same_serial-refl}
use Rattle.am_model.proofs.Received.{bit}
use Rattle.am_laws.proofs.Alls.{all_map}
use Rattle.std.proofs.lemmas.Bool.{eqb-false}
use Rattle.am_model.specs.Cluster.{WaitingIsOpen, IsOpenFor}
use Rattle.am_laws.proofs.Credited.{credits, IsUnder, AreUnder}
use Rattle.am_laws.proofs.Marked.{replied, flags, all_both}
use Rattle.am_laws.proofs.CreditRecords.{records_of}
use Rattle.am_laws.proofs.CreditsHeld.{holds, held_where, asked_where}

-- what is counted is there
counted_there : (f : Entry → Bool) (xs : List Entry) → 1 ≤ count_by f xs → (y : Entry) × (f y ≡ true)
counted_there f [] h = absurd (omega (arith, h))
counted_there f (x ∷ xs) h = by_test (f x) refl (λ low. counted_there f xs low)
  where
    by_test : (b : Bool) → f x ≡ b → (1 ≤ count_by f xs → (y : Entry) × (f y ≡ true)) → (y : Entry) × (f y ≡ true)
    by_test true is more = (x, is)
    by_test false is more = more (omega (arith, h, sum_by-cons (λ (y : Entry). bit (f y)) x xs, ap bit is))

-- a serial that is held did not end
asked_held : (past : List Entry) (e : EndpointId) (t : Serial) (event : Event) (o : Outcome) →
    is_held past (asked_where e (λ index s. same_serial t s) event o) ≡ true → list_any (ends_hold t) past ≡ false
asked_held past e t (Events.Call actor end (Calls.Request index handler words)) (Out.Requested m) h = by_tests (same_end e end) (same_serial t m.serial) refl h
  where
    not_true : (b : Bool) → not b ≡ true → b ≡ false
    not_true true g = absurd (true≢false (sym g))
    not_true false g = refl

    by_tests : (a b : Bool) → same_serial t m.serial ≡ b → is_held past (if a && b then Some m.serial else None) ≡ true → list_any (ends_hold t) past ≡ false
    by_tests true true is g = subst (λ (w : Serial). list_any (ends_hold w) past ≡ false) (sym (same_serial-is t m.serial is))
        (not_true (list_any (ends_hold m.serial) past) g)
    by_tests true false is g = absurd (true≢false (sym g))
    by_tests false b is g = absurd (true≢false (sym g))
asked_held past e t event o h = absurd (true≢false (sym h))

held_not_ended : (past : List Entry) (e : EndpointId) (t : Serial) → 1 ≤ held_where past e (λ index s. same_serial t s) → list_any (ends_hold t) past ≡ false
held_not_ended past e t low =
    let y = counted_there (λ (x : Entry). is_held past (asked_where e (λ index s. same_serial t s) x.event x.outcome)) past low in
    asked_held past e t y.0.event y.0.outcome y.1

-- where nothing of a list passes, nothing that implies it is counted
none_counted : (p q : Entry → Bool) (xs : List Entry) → ((y : Entry) → q y ≡ true → p y ≡ true) → list_any p xs ≡ false → count_by q xs ≡ 0
none_counted p q [] f h = refl
none_counted p q (x ∷ xs) f h = by_tests (p x) (q x) refl refl h (λ g. none_counted p q xs f g)
  where
    by_tests : (a b : Bool) → p x ≡ a → q x ≡ b → (a || list_any p xs) ≡ false → (list_any p xs ≡ false → count_by q xs ≡ 0) → count_by q (x ∷ xs) ≡ 0
    by_tests true b is at g more = absurd (true≢false g)
    by_tests false true is at g more = absurd (true≢false (sym (f x at) ∙ is))
    by_tests false false is at g more = omega (arith, more g, sum_by-cons (λ (y : Entry). bit (q y)) x xs, ap bit at)

or_second : (a b c d : Bool) → b ≡ true → (a || b || c || d) ≡ true
or_second true b c d h = refl
or_second false true c d h = refl
or_second false false c d h = absurd (true≢false (sym h))

or_third : (a b c d : Bool) → c ≡ true → (a || b || c || d) ≡ true
or_third true b c d h = refl
or_third false true c d h = refl
or_third false false true d h = refl
or_third false false false d h = absurd (true≢false (sym h))

never_returned : (past : List Entry) (t : Serial) → list_any (ends_hold t) past ≡ false → times_serial returned_of t past ≡ 0
never_returned past t h =
    none_counted (ends_hold t) (λ (y : Entry). is_serial t (returned_of y)) past
    (λ y is. or_second (passes (is_about t) (run_of y)) (is_serial t (returned_of y)) (is_serial t (unknown_of y)) (is_serial t (given_up_of y)) is) h

never_unknown : (past : List Entry) (t : Serial) → list_any (ends_hold t) past ≡ false → times_serial unknown_of t past ≡ 0
never_unknown past t h =
    none_counted (ends_hold t) (λ (y : Entry). is_serial t (unknown_of y)) past
    (λ y is. or_third (passes (is_about t) (run_of y)) (is_serial t (returned_of y)) (is_serial t (unknown_of y)) (is_serial t (given_up_of y)) is) h

each_there : (xs : List Awaited) → AllAre (λ (a : Awaited). 1 ≤ records_of a.serial xs) xs
each_there [] = tt
each_there (a ∷ xs) = (
  omega (arith, sum_by-cons (λ (y : Awaited). bit (same_serial a.serial y.serial)) a xs, ap bit (same_serial-refl a.serial)),
  all_map (λ (b : Awaited). 1 ≤ records_of b.serial xs) (λ (b : Awaited). 1 ≤ records_of b.serial (a ∷ xs)) xs
      (λ b low. omega (arith, low, sum_by-cons (λ (y : Awaited). bit (same_serial b.serial y.serial)) a xs)) (each_there xs),
)

-- the seventh part: a waiting record is of an open request
pub waiting_open : (layout : Layout) (past : List Entry) → IsHistory layout past → WaitingIsOpen layout past
waiting_open layout past h e = by_closed (state_of layout past e).head.closed refl
  where
    under : AreUnder past (state_of layout past e)
    under = (credits layout past h).under e

    open_for : (state_of layout past e).head.closed ≡ false → (a : Awaited) → IsUnder past (state_of layout past e).body.tag a →
        (1 ≤ records_of a.serial (state_of layout past e).body.awaited) × (a.arrived ≡ false → replied a.serial past ≡ 0) → a.arrived ≡ false →
        IsOpenFor layout past e a
    open_for opened a u k off =
        let still : list_any (ends_hold a.serial) past ≡ false =
        held_not_ended past e a.serial (omega (arith, k.0, (holds layout past h).held e (λ index s. same_serial a.serial s))) in
        record {
          request = u.request;
          accepted = u.accepted;
          kind = u.kind;
          serial = u.serial;
          returned = never_returned past a.serial still;
          unknown = never_unknown past a.serial still;
          reply = k.1 off;
          opened = opened;
          tag = sym u.reply;
          some = eqb-false (state_of layout past e).body.tag.0 0 u.some;
        }

    by_closed : (b : Bool) → (state_of layout past e).head.closed ≡ b → AllAre (λ (a : Awaited). a.arrived ≡ false →
        IsOpenFor layout past e a) (state_of layout past e).body.awaited
    by_closed true is = all_map (λ (a : Awaited). ⊥) (λ (a : Awaited). a.arrived ≡ false →
        IsOpenFor layout past e a) (state_of layout past e).body.awaited (λ a none. absurd none) (under.closed is)
    by_closed false is =
        all_both (IsUnder past (state_of layout past e).body.tag) (λ (a : Awaited). (1 ≤ records_of a.serial (state_of layout past e).body.awaited) ×
        (a.arrived ≡ false → replied a.serial past ≡ 0)) (λ (a : Awaited). a.arrived ≡ false →
        IsOpenFor layout past e a) (state_of layout past e).body.awaited
        (open_for is) under.under
        (all_both (λ (a : Awaited). 1 ≤ records_of a.serial (state_of layout past e).body.awaited) (λ (a : Awaited). a.arrived ≡ false →
        replied a.serial past ≡ 0) (λ (a : Awaited). (1 ≤ records_of a.serial (state_of layout past e).body.awaited) × (a.arrived ≡ false →
        replied a.serial past ≡ 0)) (state_of layout past e).body.awaited
        (λ a low w. (low, w)) (each_there (state_of layout past e).body.awaited) (flags layout past h e).waiting)
