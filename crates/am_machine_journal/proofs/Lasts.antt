-- The last head is of the last entry.
use Rattle.std.specs.Prelude.{slice_get}
use Rattle.std.proofs.Common.{◌≡◌, ℕ, suc, ◌+◌, ◌-◌, ◌==◌, ◌&&◌, Bool, true, false, Option, Some, None, List, [], ◌∷◌, ◌++◌, length, refl, sym, ap, ◌∙◌, subst}
use Rattle.std.proofs.Common.{arith, true≢false, eqb-true, if◌then◌else◌}
use Rattle.std.proofs.lemmas.Bool.{and_parts}
use Rattle.am_office_entries.specs.declared.Entry.{Entry}
use Rattle.am_model.specs.Merge.{rank}
use Rattle.am_machine_journal.specs.declared.merge.heads.Head.{Head}
use Rattle.am_machine_journal.specs.Merge.Heads.{IsHead, is_again, log_at}
use Rattle.am_machine_journal.specs.Merge.Joined.{added, is_last}
use Rattle.am_machine_journal.proofs.Joining.{shows}
use Rattle.am_machine_journal.proofs.Standing.{last_is}

-- a head has the stamp and the part of an entry
pub record IsOf (h : Head) (x : Entry) : Type 0 where
  pub stamp : h.stamp ≡ x.stamp
  pub part : h.rank ≡ rank x

-- the last head is of the last entry, and there is none where there is none
abbrev pub IsOfLast : Option Head → Option Entry → Type 0
IsOfLast None None = Unit {0}
IsOfLast None (Some l) = ⊥
IsOfLast (Some h) None = ⊥
IsOfLast (Some h) (Some l) = IsOf h l

pub head_is_of : (logs : List (List Entry)) (h : Head) (x : Entry) → IsHead logs h → slice_get (log_at logs h.log) h.place ≡ Some x → IsOf h x
head_is_of logs h x is here =
    let s = shows logs h.log h.place h is.is in
    let both : Some s.entry ≡ Some x = sym s.is ∙ here in
    let same : s.entry ≡ x = (cc) in
    record { stamp = s.stamp ∙ ap (λ (w : Entry). w.stamp) same; part = s.part ∙ ap rank same }

pub again_is : (last : Option Head) (o : Option Entry) (h : Head) (x : Entry) → IsOfLast last o → IsOf h x → is_again last h ≡ is_last x o
again_is None None h x of is = refl
again_is None (Some l) h x of is = absurd of
again_is (Some last) None h x of is = absurd of
again_is (Some last) (Some l) h x of is = λ i. (of.stamp i == is.stamp i) && (of.part i == is.part i)

pub told : (again : Bool) (x : Entry) (xs : List Entry) → again ≡ is_last x (slice_get xs (length xs - 1)) → added x xs ≡ (if again then xs else xs ++ x ∷ [])
told again x xs is = ap (λ (b : Bool). if b then xs else xs ++ x ∷ []) (sym is)

last_there : (xs : List Entry) (x : Entry) → slice_get (xs ++ x ∷ []) (length (xs ++ x ∷ []) - 1) ≡ Some x
last_there [] x = refl
last_there (y ∷ []) x = refl
last_there (y ∷ z ∷ xs) x =
    let n : length (y ∷ (z ∷ xs) ++ x ∷ []) - 1 ≡ suc (length ((z ∷ xs) ++ x ∷ []) - 1) = omega arith in
    ap (slice_get (y ∷ (z ∷ xs) ++ x ∷ [])) n ∙ last_there (z ∷ xs) x

pub of_added : (last : Option Head) (h : Head) (x : Entry) (xs : List Entry) → IsOf h x → IsOfLast last (slice_get xs (length xs - 1)) →
    IsOfLast (Some h) (slice_get (added x xs) (length (added x xs) - 1))
of_added last h x xs is of = by_test (is_last x (slice_get xs (length xs - 1))) refl
  where
    by_test : (b : Bool) → is_last x (slice_get xs (length xs - 1)) ≡ b →
        IsOfLast (Some h) (slice_get (if b then xs else xs ++ x ∷ []) (length (if b then xs else xs ++ x ∷ []) - 1))
    by_test true same =
        let l = last_is x (slice_get xs (length xs - 1)) same in
        let both = and_parts (l.0.stamp == x.stamp) (rank l.0 == rank x) l.1.1 in
        subst (IsOfLast (Some h)) (sym l.1.0) (record {
          stamp = is.stamp ∙ sym (eqb-true l.0.stamp x.stamp both.0);
          part = is.part
              ∙ sym (eqb-true (rank l.0) (rank x) both.1);
        })
    by_test false other = subst (IsOfLast (Some h)) (sym (last_there xs x)) is
