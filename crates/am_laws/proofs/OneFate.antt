-- Every accepted message has one fate.
use Rattle.std.specs.Prelude.{MatchOption, slice_get, count_by}
use Rattle.std.proofs.Common.{◌≡◌, ℕ, zero, suc, ◌+◌, ◌≤◌, Bool, true, false, ◌||◌, List, [], ◌∷◌, length, Option, Some, None, refl, sym, ap, ◌∙◌, subst, arith}
use Rattle.std.proofs.Common.{true≢false, if◌then◌else◌}
use Rattle.std.proofs.lemmas.List.Sums.{sum_by-cons}
use Rattle.std.specs.List.{list_any, filter_map, cons_option}
use Rattle.am_lemmas.proofs.Lists.{count_by-none, list_any-counts}
use Rattle.am_names.specs.declared.Serial.{Serial}
use Rattle.am_names.specs.declared.Cause.{Cause}
use Rattle.am_office_entries.specs.declared.Event.{Event}
use Rattle.am_office_entries.specs.declared.Event.TheVariants as Events
use Rattle.am_office_entries.specs.declared.Received.TheVariants as Got
use Rattle.am_office_entries.specs.declared.Outcome.{Outcome}
use Rattle.am_office_entries.specs.declared.Outcome.TheVariants as Out
use Rattle.am_office_entries.specs.declared.Entry.{Entry}
use Rattle.am_names.specs.Names.{same_serial, has_serial}
use Rattle.am_office_entries.specs.Entries.{accepted_of, run_of, returned_in, returned_of, unknown_of, passes, is_serial}
use Rattle.am_model.specs.Layout.{Layout}
use Rattle.am_model.specs.Channels.{attempt}
use Rattle.am_model.specs.History.{IsHistory}
use Rattle.am_model.specs.PostOffice.{times, times_serial, Gave}
use Rattle.am_model.proofs.Names.{same_serial-is, same_serial-refl}
use Rattle.am_model.proofs.Received.{bit}
use Rattle.am_laws.proofs.Everywhere.{each_once}
use Rattle.am_office_entries.specs.declared.endings.Fate.{Fate}
use Rattle.am_office_entries.specs.declared.endings.Fate.TheVariants as Fates
use Rattle.am_office_entries.specs.Fates.{fate_by, cause_of, cause_if}
use Rattle.am_office_entries.specs.Entries.{return_of, return_in}
use Rattle.am_model.specs.PostOffice.{StaysReturned}
use Rattle.am_laws.proofs.Balance.{unknown_once}
use Rattle.am_laws.proofs.Returned.{returned_never_ran}
use Rattle.am_laws.proofs.Numbers.{some_pair}
use Rattle.am_laws.specs.Fates.{Became, IsFate, IsFated, HasOneFate}

-- what is there, and what is not, by its count
-- an entry has a cause for the serial just where it returns it for that cause
abbrev IsCauseOf : Serial → Option Cause → Option (Serial × Cause) → Option Serial → Type 0
IsCauseOf s None back serial = (is_serial s serial ≡ false) × ((cause : Cause) → back ≡ Some (s, cause) → ⊥)
IsCauseOf s (Some cause) back serial = (is_serial s serial ≡ true) × (back ≡ Some (s, cause))

by_serial : (s t : Serial) (cause : Cause) → IsCauseOf s (cause_if (same_serial s t) cause) (Some (t, cause)) (Some t)
by_serial s t cause = by_test (same_serial s t) refl
  where
    pairs : t ≡ s → ◌≡◌ {A = Option (Serial × Cause)} (Some (t, cause)) (Some (s, cause))
    pairs same = λ i. Some (same i, cause)

    by_test : (b : Bool) → same_serial s t ≡ b → IsCauseOf s (cause_if b cause) (Some (t, cause)) (Some t)
    by_test true is = (is, pairs (sym (same_serial-is s t is)))
    by_test false is = (
      is,
      λ other e. true≢false (sym (same_serial-refl s)
          ∙ subst (λ (w : Serial). same_serial s w ≡ false) (some_pair s t cause other e).0 is),
    )

cause_is : (s : Serial) (event : Event) (o : Outcome) → IsCauseOf s (cause_of s event o) (return_in event o) (returned_in event o)
cause_is s (Events.Carry end) (Out.Returned m cause) = by_serial s m.serial cause
cause_is s (Events.Receive node peer number) (Out.Received channel seq attempt (Got.Returned t cause)) = by_serial s t cause
cause_is s (Events.Receive node peer number) (Out.Received channel seq attempt r) = (refl, λ cause e. cc)
cause_is s event o = (refl, λ cause e. cc)

abbrev causes : Serial → List Entry → List Cause
causes s xs = filter_map (λ (x : Entry). cause_of s x.event x.outcome) xs

abbrev one_or_none : Option Cause → ℕ
one_or_none None = 0
one_or_none (Some cause) = 1

length_option : (w : Option Cause) (xs : List Cause) → length (cons_option w xs) ≡ one_or_none w + length xs
length_option None xs = omega arith
length_option (Some cause) xs = omega arith

-- as many causes as returns
causes_count : (s : Serial) (xs : List Entry) → length (causes s xs) ≡ times_serial returned_of s xs
causes_count s [] = refl
causes_count s (x ∷ xs) = omega (
  arith,
  causes_count s xs,
  sum_by-cons (λ (y : Entry). bit (is_serial s (returned_of y))) x xs,
  length_option (cause_of s x.event x.outcome) (causes s xs),
  one' (cause_of s x.event x.outcome) (cause_is s x.event x.outcome),
)
  where
    one' : (w : Option Cause) → IsCauseOf s w (return_of x) (returned_of x) → one_or_none w ≡ bit (is_serial s (returned_of x))
    one' None is = ap bit (sym is.0)
    one' (Some cause) is = ap bit (sym is.0)

-- the causes are those of the returns
cause_given : (s : Serial) (xs : List Entry) (cause : Cause) (more : List Cause) → causes s xs ≡ cause ∷ more → Gave return_of xs (s, cause)
cause_given s [] cause more h = absurd (cc)
cause_given s (x ∷ xs) cause more h = by_cause (cause_of s x.event x.outcome) refl (cause_is s x.event x.outcome) h (λ e. cause_given s xs cause more e)
  where
    later : (w : Option (Serial × Cause)) (ys : List (Serial × Cause)) → (k : ℕ) × (slice_get ys k ≡ Some (s, cause)) →
        (k : ℕ) × (slice_get (cons_option w ys) k ≡ Some (s, cause))
    later None ys r = r
    later (Some b) ys r = (suc r.0, r.1)

    by_cause : (w : Option Cause) → cause_of s x.event x.outcome ≡ w → IsCauseOf s w (return_of x) (returned_of x) →
        cons_option w (causes s xs) ≡ cause ∷ more → (causes s xs ≡ cause ∷ more → Gave return_of xs (s, cause)) → Gave return_of (x ∷ xs) (s, cause)
    by_cause None is k e rest = later (return_of x) (filter_map return_of xs) (rest e)
    by_cause (Some why) is k e rest =
        let same : why ≡ cause = cc in (
          zero,
          subst (λ (w : Option (Serial × Cause)). slice_get (cons_option w (filter_map return_of xs)) 0 ≡ Some (s, cause)) (sym k.1)
              (λ i. Some (s, same i)),
        )

-- a return for a cause is among the causes
given_cause : (s : Serial) (xs : List Entry) (cause : Cause) (k : ℕ) → slice_get (filter_map return_of xs) k ≡ Some (s, cause) → length (causes s xs) ≡ 1 →
    causes s xs ≡ cause ∷ []
given_cause s [] cause k e one' = absurd (cc)
given_cause s (x ∷ xs) cause k e one' = by_cause (cause_of s x.event x.outcome) (return_of x) refl (cause_is s x.event x.outcome) k e one'
    (λ j f l. given_cause s xs cause j f l)
  where
    none_left : (ys : List Cause) → length ys ≡ 0 → ys ≡ []
    none_left [] h = refl
    none_left (y ∷ ys) h = absurd (omega (arith, h))

    no_more : (j : ℕ) → slice_get (filter_map return_of xs) j ≡ Some (s, cause) → causes s xs ≡ [] → ⊥
    no_more j f h = by_any xs j f h
      where
        by_any : (ys : List Entry) (i : ℕ) → slice_get (filter_map return_of ys) i ≡ Some (s, cause) → causes s ys ≡ [] → ⊥
        by_any [] i f h = cc
        by_any (y ∷ ys) i f h = by_one (cause_of s y.event y.outcome) (return_of y) refl (cause_is s y.event y.outcome) i f h (λ j' g l. by_any ys j' g l)
          where
            by_one : (w : Option Cause) (b : Option (Serial × Cause)) → return_of y ≡ b → IsCauseOf s w (return_of y) (returned_of y) → (j' : ℕ) →
                slice_get (cons_option b (filter_map return_of ys)) j' ≡ Some (s, cause) → cons_option w (causes s ys) ≡ [] →
                ((j'' : ℕ) → slice_get (filter_map return_of ys) j'' ≡ Some (s, cause) → causes s ys ≡ [] → ⊥) → ⊥
            by_one None None is k' j' g l rest = rest j' g l
            by_one None (Some b) is k' zero g l rest = k'.1 cause (is ∙ g)
            by_one None (Some b) is k' (suc j') g l rest = rest j' g l
            by_one (Some why) b is k' j' g l rest = cc

    by_cause : (w : Option Cause) (b : Option (Serial × Cause)) → return_of x ≡ b → IsCauseOf s w (return_of x) (returned_of x) → (j : ℕ) →
        slice_get (cons_option b (filter_map return_of xs)) j ≡ Some (s, cause) → length (cons_option w (causes s xs)) ≡ 1 →
        ((j' : ℕ) → slice_get (filter_map return_of xs) j' ≡ Some (s, cause) → length (causes s xs) ≡ 1 → causes s xs ≡ cause ∷ []) →
        cons_option w (causes s xs) ≡ cause ∷ []
    by_cause None None is k' j f l rest = rest j f l
    by_cause None (Some b) is k' zero f l rest = absurd (k'.1 cause (is ∙ f))
    by_cause None (Some b) is k' (suc j) f l rest = rest j f l
    by_cause (Some why) None is k' j f l rest = let both : ◌≡◌ {A = Option (Serial × Cause)} None (Some (s, why)) = sym is ∙ k'.1 in absurd (cc)
    by_cause (Some why) (Some b) is k' zero f l rest =
        let empty : causes s xs ≡ [] = none_left (causes s xs) (omega (arith, l)) in
        let pair : ◌≡◌ {A = Option (Serial × Cause)} (Some (s, why)) (Some (s, cause)) = sym k'.1 ∙ is ∙ f in
        let same : why ≡ cause = (some_pair s s why cause pair).1 in
        λ i. same i ∷ empty i
    by_cause (Some why) (Some b) is k' (suc j) f l rest = absurd (no_more j f (none_left (causes s xs) (omega (arith, l))))

record Known (layout : Layout) (journal : List Entry) (s : Serial) : Type 0 where
  pub accepted : times accepted_of (has_serial s) journal ≤ 1
  pub returned : StaysReturned journal s
  pub unknown : times_serial unknown_of s journal ≤ 1
  pub run : times run_of (has_serial s) journal ≤ 1

known : (layout : Layout) (journal : List Entry) → IsHistory layout journal → (s : Serial) → Known layout journal s
known layout journal h s =
    let one' = each_once layout journal h in
    record {
      accepted = one'.accepted s;
      returned = returned_never_ran layout journal h s;
      unknown = unknown_once layout journal h s;
      run = omega (arith, one'.run s, one'.put s, one'.accepted s);
    }

-- of the fates that say what became of a serial there is one
differ : (journal : List Entry) (s : Serial) (a b c d e f : ℕ) → Became journal s a b c → Became journal s d e f → (a ≡ d) × (b ≡ e) × (c ≡ f)
differ journal s a b c d e f p q = (sym p.comes_back ∙ q.comes_back, sym p.is_unknown ∙ q.is_unknown, sym p.runs_so ∙ q.runs_so)

same_cause : (journal : List Entry) (s : Serial) (why cause : Cause) → times_serial returned_of s journal ≡ 1 → Gave return_of journal (s, why) →
    Gave return_of journal (s, cause) → why ≡ cause
same_cause journal s why cause one' g h =
    let len : length (causes s journal) ≡ 1 = causes_count s journal ∙ one' in
    let both : why ∷ [] ≡ cause ∷ [] = sym (given_cause s journal why g.0 g.1 len) ∙ given_cause s journal cause h.0 h.1 len in cc

one_only : (journal : List Entry) (s : Serial) (f g : Fate) → IsFate journal s f → IsFate journal s g → g ≡ f
one_only journal s (Fates.Returned why) (Fates.Returned cause) p q =
    ap (λ (w : Cause). Fates.Returned w) (same_cause journal s cause why p.0.became.comes_back q.1 p.1)
one_only journal s (Fates.Returned why) Fates.Unknown p q = absurd (omega (arith, (differ journal s _ _ _ _ _ _ p.0.became q).0))
one_only journal s (Fates.Returned why) Fates.UnknownButRan p q = absurd (omega (arith, (differ journal s _ _ _ _ _ _ p.0.became q).0))
one_only journal s (Fates.Returned why) Fates.Ran p q = absurd (omega (arith, (differ journal s _ _ _ _ _ _ p.0.became q).0))
one_only journal s (Fates.Returned why) Fates.Pending p q = absurd (omega (arith, (differ journal s _ _ _ _ _ _ p.0.became q).0))
one_only journal s Fates.Unknown (Fates.Returned cause) p q = absurd (omega (arith, (differ journal s _ _ _ _ _ _ p q.0.became).0))
one_only journal s Fates.Unknown Fates.Unknown p q = refl
one_only journal s Fates.Unknown Fates.UnknownButRan p q = absurd (omega (arith, (differ journal s _ _ _ _ _ _ p q).2))
one_only journal s Fates.Unknown Fates.Ran p q = absurd (omega (arith, (differ journal s _ _ _ _ _ _ p q).1))
one_only journal s Fates.Unknown Fates.Pending p q = absurd (omega (arith, (differ journal s _ _ _ _ _ _ p q).1))
one_only journal s Fates.UnknownButRan (Fates.Returned cause) p q = absurd (omega (arith, (differ journal s _ _ _ _ _ _ p q.0.became).0))
one_only journal s Fates.UnknownButRan Fates.Unknown p q = absurd (omega (arith, (differ journal s _ _ _ _ _ _ p q).2))
one_only journal s Fates.UnknownButRan Fates.UnknownButRan p q = refl
one_only journal s Fates.UnknownButRan Fates.Ran p q = absurd (omega (arith, (differ journal s _ _ _ _ _ _ p q).1))
one_only journal s Fates.UnknownButRan Fates.Pending p q = absurd (omega (arith, (differ journal s _ _ _ _ _ _ p q).1))
one_only journal s Fates.Ran (Fates.Returned cause) p q = absurd (omega (arith, (differ journal s _ _ _ _ _ _ p q.0.became).0))
one_only journal s Fates.Ran Fates.Unknown p q = absurd (omega (arith, (differ journal s _ _ _ _ _ _ p q).1))
one_only journal s Fates.Ran Fates.UnknownButRan p q = absurd (omega (arith, (differ journal s _ _ _ _ _ _ p q).1))
one_only journal s Fates.Ran Fates.Ran p q = refl
one_only journal s Fates.Ran Fates.Pending p q = absurd (omega (arith, (differ journal s _ _ _ _ _ _ p q).2))
one_only journal s Fates.Pending (Fates.Returned cause) p q = absurd (omega (arith, (differ journal s _ _ _ _ _ _ p q.0.became).0))
one_only journal s Fates.Pending Fates.Unknown p q = absurd (omega (arith, (differ journal s _ _ _ _ _ _ p q).1))
one_only journal s Fates.Pending Fates.UnknownButRan p q = absurd (omega (arith, (differ journal s _ _ _ _ _ _ p q).1))
one_only journal s Fates.Pending Fates.Ran p q = absurd (omega (arith, (differ journal s _ _ _ _ _ _ p q).2))
one_only journal s Fates.Pending Fates.Pending p q = refl

fated : (layout : Layout) (journal : List Entry) (s : Serial) → Known layout journal s → (cs : List Cause) → causes s journal ≡ cs → (u r : Bool) →
    list_any (λ (x : Entry). is_serial s (unknown_of x)) journal ≡ u → list_any (λ (x : Entry). passes (has_serial s) (run_of x)) journal ≡ r →
    IsFate journal s (fate_by cs u r)
fated layout journal s k (cause ∷ more) is u r hu hr =
    let low : 1 ≤ times_serial returned_of s journal = omega (arith, causes_count s journal, ap (λ (ys : List Cause). length ys) is) in (
      record {
        became = record { comes_back = omega (arith, low, k.returned.once); is_unknown = k.returned.unknown low; runs_so = k.returned.run low };
        unput = k.returned.put low;
      },
      cause_given s journal cause more is,
    )
fated layout journal s k [] is true true hu hr =
    record {
      comes_back = omega (arith, causes_count s journal, ap (λ (ys : List Cause). length ys) is);
      is_unknown = omega (arith, k.unknown, list_any-counts (λ (x : Entry). is_serial s (unknown_of x)) journal hu);
      runs_so = omega (arith, k.run, list_any-counts (λ (x : Entry). passes (has_serial s) (run_of x)) journal hr);
    }
fated layout journal s k [] is true false hu hr =
    record {
      comes_back = omega (arith, causes_count s journal, ap (λ (ys : List Cause). length ys) is);
      is_unknown = omega (arith, k.unknown, list_any-counts (λ (x : Entry). is_serial s (unknown_of x)) journal hu);
      runs_so = count_by-none (λ (x : Entry). passes (has_serial s) (run_of x)) journal hr;
    }
fated layout journal s k [] is false true hu hr =
    record {
      comes_back = omega (arith, causes_count s journal, ap (λ (ys : List Cause). length ys) is);
      is_unknown = count_by-none (λ (x : Entry). is_serial s (unknown_of x)) journal hu;
      runs_so = omega (arith, k.run, list_any-counts (λ (x : Entry). passes (has_serial s) (run_of x)) journal hr);
    }
fated layout journal s k [] is false false hu hr =
    record {
      comes_back = omega (arith, causes_count s journal, ap (λ (ys : List Cause). length ys) is);
      is_unknown = count_by-none (λ (x : Entry). is_serial s (unknown_of x)) journal hu;
      runs_so = count_by-none (λ (x : Entry). passes (has_serial s) (run_of x)) journal hr;
    }

pub one_fate : (layout : Layout) (journal : List Entry) → IsHistory layout journal → (s : Serial) → HasOneFate journal s
one_fate layout journal h s = by_accepted (list_any (λ (x : Entry). passes (has_serial s) (accepted_of x)) journal) refl
  where
    k : Known layout journal s
    k = known layout journal h s

    by_accepted : (b : Bool) → list_any (λ (x : Entry). passes (has_serial s) (accepted_of x)) journal ≡ b →
        MatchOption (if b then Some (fate_by (causes s journal) (list_any (λ (x : Entry). is_serial s (unknown_of x)) journal)
        (list_any (λ (x : Entry). passes (has_serial s) (run_of x)) journal)) else None) (times accepted_of (has_serial s) journal ≡ 0) (IsFated journal s)
    by_accepted false is = count_by-none (λ (x : Entry). passes (has_serial s) (accepted_of x)) journal is
    by_accepted true is =
        let f = fated layout journal s k (causes s journal) refl (list_any (λ (x : Entry). is_serial s (unknown_of x)) journal)
        (list_any (λ (x : Entry). passes (has_serial s) (run_of x)) journal) refl refl in
        record {
          accepted = omega (arith, k.accepted, list_any-counts (λ (x : Entry). passes (has_serial s) (accepted_of x)) journal is);
          says = f;
          only = λ g p. one_only journal s _ g f p;
        }
