-- What a table of fates says after one entry more.
use Rattle.std.proofs.Common.{◌≡◌, Bool, ◌||◌, Option, Some, None, List, [], ◌∷◌, ◌++◌, refl, sym, ap, ◌∙◌, slice_get}
use Rattle.std.specs.List.{cons_option}
use Rattle.std.specs.Option.{option_or}
use Rattle.std.proofs.lemmas.List.Elements.{filter_map-append}
use Rattle.am_lemmas.proofs.Lists.{list_any-push}
use Rattle.am_names.specs.declared.Cause.{Cause}
use Rattle.am_names.specs.declared.Serial.{Serial}
use Rattle.am_names.specs.Names.{has_serial}
use Rattle.am_office_entries.specs.declared.Entry.{Entry}
use Rattle.am_office_entries.specs.Entries.{accepted_of, is_serial, passes, return_of, run_of, unknown_of}
use Rattle.am_office_entries.specs.Fates.{cause_of, causes_of, cause_for}
use Rattle.am_office_entries.proofs.Causes.{cause_of_return}
use Rattle.am_lab_picture.specs.declared.fates.FateTable.{FateTable}
use Rattle.am_lab_picture.specs.Fates.{AreFates, cause_in, has}

-- the first of two lists, where the second has one element at most
first_or : (cs : List Cause) (o : Option Cause) → slice_get (cs ++ cons_option o []) 0 ≡ option_or (slice_get cs 0) o
first_or [] None = refl
first_or [] (Some c) = refl
first_or (c ∷ cs) o = refl

causes_push : (past : List Entry) (x : Entry) (s : Serial) → slice_get (causes_of (past ++ x ∷ []) s) 0 ≡ option_or (slice_get (causes_of past s) 0)
    (cause_for s (return_of x))
causes_push past x s =
    ap (λ (l : List Cause). slice_get l 0) (filter_map-append (λ (y : Entry). cause_of s y.event y.outcome) past (x ∷ []))
    ∙ first_or (causes_of past s) (cause_of s x.event x.outcome)
    ∙ ap (λ (o : Option Cause). option_or (slice_get (causes_of past s) 0) o) (cause_of_return s x.event x.outcome)

-- what one entry more says of each serial
pub record IsTold (old new : FateTable) (x : Entry) : Type 0 where
  pub accepted : (s : Serial) → has new.accepted s ≡ (has old.accepted s || passes (has_serial s) (accepted_of x))
  pub returned : (s : Serial) → cause_in new.returned s ≡ option_or (cause_in old.returned s) (cause_for s (return_of x))
  pub unknown : (s : Serial) → has new.unknown s ≡ (has old.unknown s || is_serial s (unknown_of x))
  pub ran : (s : Serial) → has new.ran s ≡ (has old.ran s || passes (has_serial s) (run_of x))

pub learned : (old new : FateTable) (past : List Entry) (x : Entry) → IsTold old new x → AreFates old past → AreFates new (past ++ x ∷ [])
learned old new past x told are =
    record {
      accepted = λ (s : Serial). told.accepted s ∙ ap (λ (b : Bool). b || passes (has_serial s) (accepted_of x)) (are.accepted s)
          ∙ sym (list_any-push (λ (y : Entry). passes (has_serial s) (accepted_of y)) past x);
      returned = λ (s : Serial). told.returned s ∙ ap (λ (o : Option Cause). option_or o (cause_for s (return_of x))) (are.returned s)
          ∙ sym (causes_push past x s);
      unknown = λ (s : Serial). told.unknown s ∙ ap (λ (b : Bool). b || is_serial s (unknown_of x)) (are.unknown s)
          ∙ sym (list_any-push (λ (y : Entry). is_serial s (unknown_of y)) past x);
      ran = λ (s : Serial). told.ran s ∙ ap (λ (b : Bool). b || passes (has_serial s) (run_of x)) (are.ran s)
          ∙ sym (list_any-push (λ (y : Entry). passes (has_serial s) (run_of y)) past x);
    }
