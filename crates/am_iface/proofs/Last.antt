-- A log that ends with an entry, and what is answered in place of its fault or its end.
use Rattle.std.specs.Prelude.{◌↔◌, Result, Ok, Err}
use Rattle.std.proofs.Common.{◌≡◌, ◌<◌, List, [], ◌∷◌, ◌++◌, length, ap, arith}
use Rattle.std.proofs.lemmas.List.{length_push}
use Rattle.am_model.specs.declared.EntryFault.{EntryFault}
use Rattle.am_office_entries.specs.declared.Entry.{Entry}

-- a log that ends with an entry isn't empty
pub longer : (log past : List Entry) (x : Entry) → log ≡ past ++ x ∷ [] → 0 < length log
longer log past x is =
    let same = ap (λ (xs : List Entry). length xs) is in
    let more = length_push past x in
    omega (arith, same, more)

-- whatever is answered for Ok, it is no fault
pub ok_alike : (A B : Type 0) (P : Type 0) (a : A) (b : B) (e : EntryFault) → (◌≡◌ {A = Result A EntryFault} (Ok a) (Err e)) ↔ P →
    (◌≡◌ {A = Result B EntryFault} (Ok b) (Err e)) ↔ P
ok_alike A B P a b e is =
    ((λ h. absurd (cc)), (λ p. absurd (let both : ◌≡◌ {A = Result A EntryFault} (Ok a) (Err e) = is.1 p in cc)))

-- and a fault is the same whatever Ok answers
pub err_alike : (A B : Type 0) (P : Type 0) (f e : EntryFault) → (◌≡◌ {A = Result A EntryFault} (Err f) (Err e)) ↔ P →
    (◌≡◌ {A = Result B EntryFault} (Err f) (Err e)) ↔ P
err_alike A B P f e is = (
  (λ h. is.0 (let same : f ≡ e = cc in ap Err same)),
  (λ p. let both : ◌≡◌ {A = Result A EntryFault} (Err f) (Err e) = is.1 p in let same : f ≡ e = cc in ap Err same),
)

-- and a fault tells the same whatever Ok would answer

pub ok_no_fault : (B P : Type 0) (b : B) (e : EntryFault) → ◌≡◌ {A = Result B EntryFault} (Ok b) (Err e) → P
ok_no_fault B P b e is = absurd (cc)

pub err_told : (A B P : Type 0) (f e : EntryFault) → ((◌≡◌ {A = Result A EntryFault} (Err f) (Err e)) → P) → (◌≡◌ {A = Result B EntryFault} (Err f) (Err e)) → P
err_told A B P f e tells is = tells (let same : f ≡ e = cc in ap Err same)
