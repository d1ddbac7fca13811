-- Where none of the members is pollable.
use Rattle.std.proofs.Common.{◌≡◌, ◌<◌, ℕ, zero, suc, Bool, true, false, cond, List, [], ◌∷◌, length, find, Option, Some, None, refl, sym, ap, ◌∙◌, subst}
use Rattle.std.proofs.Common.{arith, slice_index_or, ⊎_elim}
use Rattle.std.specs.Prelude.{◌↔◌, ◌⊎◌, Contains}
use Rattle.am_names.specs.declared.EndpointId.{EndpointId}
use Rattle.am_office_entries.specs.declared.Mask.{Mask}
use Rattle.am_office_entries.specs.declared.Mask.TheVariants.{NoEvents, NotEmpty}
use Rattle.am_bundle.specs.Calls.{NoneIsAmong, is_among}
use Rattle.am_bundle.specs.declared.Readiness.TheVariants.{Ready, NotYet}

-- no element passes where none is found
none_passes : {X : Type 0} (p : X → Bool) (xs : List X) → find p xs ≡ None → (x : X) → Contains xs x → p x ≡ false
none_passes p [] none x (k, h, e) = absurd (omega (arith, h))
none_passes p (y ∷ ys) none x (k, h, e) = by_test p y ys (p y) refl none x k h e (λ rest j less at. none_passes p ys rest x (j, less, at))
  where
    by_test : {X : Type 0} (p : X → Bool) (y : X) (ys : List X) (b : Bool) → p y ≡ b → cond b (Some y) (find p ys) ≡ None → (x : X) (k : ℕ) →
        k < length (y ∷ ys) → slice_index_or (y ∷ ys) k x ≡ x → (find p ys ≡ None → (j : ℕ) → j < length ys → slice_index_or ys j x ≡ x → p x ≡ false) →
        p x ≡ false
    by_test p y ys true is none x k h e more = absurd (cc)
    by_test p y ys false is none x zero h e more = ap p (sym e) ∙ is
    by_test p y ys false is none x (suc k) h e more = more none k (omega (arith, h)) e

-- none is found where no element passes
none_found : {X : Type 0} (p : X → Bool) (xs : List X) → ((x : X) → Contains xs x → p x ≡ false) → find p xs ≡ None
none_found p [] all = refl
none_found p (y ∷ ys) all =
    ap (λ (b : Bool). cond b (Some y) (find p ys)) (all y (zero, omega arith, refl))
    ∙ none_found p ys (λ x at. all x (suc at.0, omega (arith, at.1), at.2))

pub none_among : (pollable xs ys zs : List EndpointId) (r : Option EndpointId) → r ≡ find (is_among pollable) xs → xs ≡ ys → ys ≡ zs → r ≡ None →
    NoneIsAmong pollable zs
none_among pollable xs ys zs r found e f none = none_passes (is_among pollable) zs (ap (find (is_among pollable)) (sym (e ∙ f)) ∙ sym found ∙ none)

pub some_among : (pollable xs ys zs : List EndpointId) (r : Option EndpointId) (member : EndpointId) → r ≡ find (is_among pollable) xs → xs ≡ ys → ys ≡ zs →
    r ≡ Some member → NoneIsAmong pollable zs → ⊥
some_among pollable xs ys zs r member found e f some none =
    let both : Some member ≡ None = sym some ∙ found ∙ ap (find (is_among pollable)) (e ∙ f) ∙ none_found (is_among pollable) zs none in cc

-- a member is ready where it is pollable, and its bundle tells so
pub ready_told : (pollable xs ys zs : List EndpointId) (m : Mask) (r : Option EndpointId) (member : EndpointId) → r ≡ find (is_among pollable) xs → xs ≡ ys →
    ys ≡ zs → r ≡ Some member → m ≡ NotEmpty → (Ready member ≡ NotYet) ↔ ((m ≡ NoEvents) ⊎ NoneIsAmong pollable zs)
ready_told pollable xs ys zs m r member found e f some mask = (
  (λ h. absurd (cc)),
  (λ h. absurd (⊎_elim (λ events. let both : NoEvents ≡ NotEmpty = sym events ∙ mask in cc) (λ none. some_among pollable xs ys zs r member found e f some none)
      h)),
)
