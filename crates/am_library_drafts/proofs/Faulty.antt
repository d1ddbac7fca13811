-- The first condition that holds.
use Rattle.std.proofs.Common.{◌≡◌, Bool, true, false, Option, Some, None, List, [], ◌∷◌, refl, ap, ◌∙◌, if◌then◌else◌}
use Rattle.std.specs.List.{find}
use Rattle.am_model.specs.Choice.{first_holding}
use Rattle.am_library_drafts.specs.declared.draft.DraftFault.{DraftFault}

abbrev fault_in : Option (Bool × DraftFault) → Option DraftFault
fault_in None = None
fault_in (Some c) = Some c.1

first_is : (cs : List (Bool × DraftFault)) → first_holding cs ≡ fault_in (find (λ (c : Bool × DraftFault). c.0) cs)
first_is [] = refl
first_is (c ∷ cs) = by_test c.0 (first_is cs)
  where
    by_test : (b : Bool) → first_holding cs ≡ fault_in (find (λ (d : Bool × DraftFault). d.0) cs) →
        (if b then Some c.1 else first_holding cs) ≡ fault_in (if b then Some c else find (λ (d : Bool × DraftFault). d.0) cs)
    by_test true later = refl
    by_test false later = later

pub fault_found : (cs : List (Bool × DraftFault)) (c : Bool × DraftFault) → find (λ (d : Bool × DraftFault). d.0) cs ≡ Some c → first_holding cs ≡ Some c.1
fault_found cs c is = first_is cs ∙ ap fault_in is

pub no_fault : (cs : List (Bool × DraftFault)) → find (λ (d : Bool × DraftFault). d.0) cs ≡ None → first_holding cs ≡ None
no_fault cs is = first_is cs ∙ ap fault_in is
