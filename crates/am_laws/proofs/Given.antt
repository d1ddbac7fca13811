-- What is counted was given, and what was given is counted.
use Rattle.std.specs.Prelude.{slice_get}
use Rattle.std.proofs.Common.{◌≡◌, ℕ, zero, suc, ◌+◌, ◌≤◌, Bool, true, false, List, [], ◌∷◌, Option, Some, None, refl, sym, ap, ◌∙◌, subst, arith}
use Rattle.std.proofs.lemmas.List.Sums.{sum_by-cons}
use Rattle.std.specs.List.{filter_map, cons_option}
use Rattle.am_names.specs.declared.Message.{Message}
use Rattle.am_office_entries.specs.declared.Entry.{Entry}
use Rattle.am_office_entries.specs.Entries.{passes}
use Rattle.am_model.specs.PostOffice.{times, Gave}
use Rattle.am_model.proofs.Received.{bit}

-- what is counted was given
pub cons_gave : {A : Type 0} (w : Option A) (xs : List A) (a : A) → (k : ℕ) × (slice_get xs k ≡ Some a) → (k : ℕ) × (slice_get (cons_option w xs) k ≡ Some a)
cons_gave None xs a r = r
cons_gave (Some b) xs a r = (suc r.0, r.1)

pub times_gave : (role : Entry → Option Message) (p : Message → Bool) (past : List Entry) → 1 ≤ times role p past →
    (m : Message) × Gave role past m × (p m ≡ true)
times_gave role p [] h = absurd (omega (arith, h))
times_gave role p (y ∷ past) h = by_message (role y) refl (λ more. times_gave role p past more)
  where
    count : times role p (y ∷ past) ≡ bit (passes p (role y)) + times role p past
    count = sum_by-cons (λ (z : Entry). bit (passes p (role z))) y past

    later : 1 ≤ times role p past → (1 ≤ times role p past → (m : Message) × Gave role past m × (p m ≡ true)) →
        (m : Message) × Gave role (y ∷ past) m × (p m ≡ true)
    later low more = let r = more low in (r.0, cons_gave (role y) (filter_map role past) r.0 r.1, r.2)

    by_message : (w : Option Message) → role y ≡ w → (1 ≤ times role p past → (m : Message) × Gave role past m × (p m ≡ true)) →
        (m : Message) × Gave role (y ∷ past) m × (p m ≡ true)
    by_message None is more = later (omega (arith, h, count, ap (λ (o : Option Message). bit (passes p o)) is)) more
    by_message (Some m) is more = by_test (p m) refl
      where
        by_test : (b : Bool) → p m ≡ b → (n : Message) × Gave role (y ∷ past) n × (p n ≡ true)
        by_test true at = (m, (zero, subst (λ (w : Option Message). slice_get (cons_option w (filter_map role past)) 0 ≡ Some m) (sym is) refl), at)
        by_test false at = later (omega (arith, h, count, ap (λ (o : Option Message). bit (passes p o)) is, ap bit at)) more

-- what was given is counted
counted : (role : Entry → Option Message) (p : Message → Bool) (past : List Entry) (m : Message) (k : ℕ) → slice_get (filter_map role past) k ≡ Some m →
    p m ≡ true → 1 ≤ times role p past
counted role p [] m k e at = absurd (cc)
counted role p (y ∷ past) m k e at = by_given (λ j f. counted role p past m j f at) (role y) refl k e
  where
    count : times role p (y ∷ past) ≡ bit (passes p (role y)) + times role p past
    count = sum_by-cons (λ (z : Entry). bit (passes p (role z))) y past

    by_given : ((j : ℕ) → slice_get (filter_map role past) j ≡ Some m → 1 ≤ times role p past) → (w : Option Message) → role y ≡ w → (j : ℕ) →
        slice_get (cons_option w (filter_map role past)) j ≡ Some m → 1 ≤ times role p (y ∷ past)
    by_given more None is j f = omega (arith, count, more j f)
    by_given more (Some b) is zero f =
        let same : b ≡ m = cc in
        let one' : bit (passes p (role y)) ≡ 1 = ap (λ (o : Option Message). bit (passes p o)) (is ∙ ap (λ (w : Message). Some w) same) ∙ ap bit at in
        omega (arith, count, one')
    by_given more (Some b) is (suc j) f = omega (arith, count, more j f)

pub gave_times : (role : Entry → Option Message) (p : Message → Bool) (past : List Entry) (m : Message) → Gave role past m → p m ≡ true → 1 ≤ times role p past
gave_times role p past m h at = counted role p past m h.0 h.1 at
