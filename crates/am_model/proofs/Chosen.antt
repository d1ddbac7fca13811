-- What a choice of the least finds, and what a search by serial finds.
use Rattle.std.proofs.Common.{◌≡◌, Bool, true, false, ◌||◌, cond, List, [], ◌∷◌, Some, None, refl, sym, ap, ◌∙◌, subst, true≢false, if◌then◌else◌}
use Rattle.std.specs.List.{list_any}
use Rattle.am_names.specs.declared.EndpointId.{EndpointId}
use Rattle.am_names.specs.declared.Serial.{Serial}
use Rattle.am_names.specs.Names.{same_end, has_serial}
use Rattle.am_model.specs.declared.Flying.{Flying}
use Rattle.am_model.specs.Changes.{flying_of}
use Rattle.am_model.specs.Steps.{least_such, lesser}
use Rattle.am_model.proofs.Names.{same_end-is}

pub least_such-None : (p : EndpointId → Bool) (es : List EndpointId) (e : EndpointId) → least_such p es ≡ None → list_any (same_end e) es ≡ true → p e ≡ false
least_such-None p [] e none among = absurd (true≢false (sym among))
least_such-None p (d ∷ es) e none among = by_tests (p d) (same_end e d) refl refl none among (least_such-None p es e)
  where
    by_tests : (t s : Bool) → p d ≡ t → same_end e d ≡ s → (if t then Some (lesser d (least_such p es)) else least_such p es) ≡ None →
        (s || list_any (same_end e) es) ≡ true → (least_such p es ≡ None → list_any (same_end e) es ≡ true → p e ≡ false) → p e ≡ false
    by_tests true s is same n a more = absurd (cc)
    by_tests false true is same n a more = ap p (same_end-is e d same) ∙ is
    by_tests false false is same n a more = more n a

pub flying_of-has_serial : (serial : Serial) (flying : List Flying) (f : Flying) → flying_of serial flying ≡ Some f → has_serial serial f.message ≡ true
flying_of-has_serial serial [] f e = absurd (cc)
flying_of-has_serial serial (g ∷ flying) f e = by_test (has_serial serial g.message) refl e (flying_of-has_serial serial flying f)
  where
    by_test : (b : Bool) → has_serial serial g.message ≡ b → cond b (Some g) (flying_of serial flying) ≡ Some f →
        (flying_of serial flying ≡ Some f → has_serial serial f.message ≡ true) → has_serial serial f.message ≡ true
    by_test true is h more = let same : g ≡ f = cc in subst (λ (w : Flying). has_serial serial w.message ≡ true) same is
    by_test false is h more = more h
