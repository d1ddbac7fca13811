-- Room on each link.
use Rattle.std.proofs.Common.{◌≡◌, ⊎_elim, ℕ, Bool, true, false, List, [], ◌∷◌, refl, sym, ap, ◌∙◌, subst, ◌++◌, ◌==◌, eqb-true, eq-eqb, true≢false}
use Rattle.std.specs.Prelude.{slice_get, slice_set, OnOk, Result, Ok, Err}
use Rattle.am_lemmas.proofs.Lists.{slice_get-set_cases}
use Rattle.am_wire_release.specs.Staged.{Staged}
use Rattle.am_cluster_scripted.specs.Links.{HasAllRoom, HasSpare, HasSpareAt}
use Rattle.am_cluster_scripted.proofs.Indexing.{got_push}

pub on_ok : {A E P Q : Type 0} (r : Result A E) → OnOk r P → (P → Q) → OnOk r Q
on_ok (Ok a) p f = f p
on_ok (Err e) p f = p

-- the link that was written has room where it had before
pub room_written : (links : List (Staged ℕ)) (k : ℕ) (new : Staged ℕ) → HasSpare new → HasSpareAt (slice_set links k new) k
room_written links k new room l h =
    ⊎_elim (λ here. subst HasSpare (sym here.1) room) (λ there. absurd (there.0 refl)) (slice_get-set_cases links k k new l h)

-- and then each has
pub room_again : (old new : List (Staged ℕ)) (last : ℕ) → ((k : ℕ) → (k ≡ last → ⊥) → HasSpareAt old k) → HasSpareAt new last →
    ((k : ℕ) → (k ≡ last → ⊥) → slice_get new k ≡ slice_get old k) → HasAllRoom new
room_again old new last room here others k l h = by_test (k == last) refl
  where
    by_test : (b : Bool) → (k == last) ≡ b → HasSpare l
    by_test true is = here l (sym (ap (slice_get new) (eqb-true k last is)) ∙ h)
    by_test false is =
        let apart : k ≡ last → ⊥ = λ same. true≢false (sym (eq-eqb k last same) ∙ is) in
        room k apart l (sym (others k apart) ∙ h)

-- and the others have it still
pub room_elsewhere : (old new : List (Staged ℕ)) (last : ℕ) → ((k : ℕ) → (k ≡ last → ⊥) → HasSpareAt old k) →
    ((k : ℕ) → (k ≡ last → ⊥) → slice_get new k ≡ slice_get old k) → (k : ℕ) → (k ≡ last → ⊥) → HasSpareAt new k
room_elsewhere old new last room others k apart l h = room k apart l (sym (others k apart) ∙ h)

pub room_push : (links : List (Staged ℕ)) (one : Staged ℕ) → HasAllRoom links → HasSpare one → HasAllRoom (links ++ one ∷ [])
room_push links one room here k l got = ⊎_elim (λ before. room k l before) (λ new. subst HasSpare (sym new) here) (got_push links one l k got)
