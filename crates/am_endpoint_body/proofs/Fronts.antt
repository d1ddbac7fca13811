-- Where there is no front message.
use Rattle.std.specs.Option.{option_map}
use Rattle.std.specs.Prelude.{◌↔◌, is_some}
use Rattle.std.proofs.Common.{◌≡◌, List, [], ◌∷◌, Option, Some, None, refl, sym, ◌∙◌}
use Rattle.am_model.specs.declared.Queued.{Queued}
use Rattle.am_model.specs.Endpoint.{front_of}

pub no_front : (replies requests : List Queued) (r : Option Queued) → r ≡ front_of replies requests → (r ≡ None) ↔ ((replies ≡ []) × (requests ≡ []))
no_front [] [] r is = ((λ h. (refl, refl)), (λ h. is))
no_front [] (q ∷ qs) r is = ((λ h. absurd (let both : None ≡ Some q = sym h ∙ is in cc)), (λ h. absurd (let both : q ∷ qs ≡ [] = h.1 in cc)))
no_front (q ∷ qs) requests r is = ((λ h. absurd (let both : None ≡ Some q = sym h ∙ is in cc)), (λ h. absurd (let both : q ∷ qs ≡ [] = h.0 in cc)))

-- and where nothing of it is read

pub no_front_read : {A B : Type 0} (f : A → B) (g : Queued → B) (replies requests : List Queued) (r : Option A) →
    option_map f r ≡ option_map g (front_of replies requests) → (r ≡ None) ↔ ((replies ≡ []) × (requests ≡ []))
no_front_read f g [] [] None is = ((λ h. (refl, refl)), (λ h. refl))
no_front_read f g [] [] (Some x) is = absurd (cc)
no_front_read f g [] (q ∷ qs) None is = absurd (cc)
no_front_read f g [] (q ∷ qs) (Some x) is = ((λ h. absurd (cc)), (λ h. absurd (let both : q ∷ qs ≡ [] = h.1 in cc)))
no_front_read f g (q ∷ qs) requests None is = absurd (cc)
no_front_read f g (q ∷ qs) requests (Some x) is = ((λ h. absurd (cc)), (λ h. absurd (let both : q ∷ qs ≡ [] = h.0 in cc)))

pub front_there : {A B : Type 0} (f : A → B) (g : Queued → B) (o : Option Queued) (r : Option A) → option_map f r ≡ option_map g o → is_some r ≡ is_some o
front_there f g None None is = refl
front_there f g None (Some x) is = absurd (cc)
front_there f g (Some q) None is = absurd (cc)
front_there f g (Some q) (Some x) is = refl
