-- What an account says after one entry more.
use Rattle.std.proofs.Common.{◌≡◌, ℕ, ◌+◌, ◌<◌, Bool, ◌||◌, Option, Some, None, List, [], ◌∷◌, ◌++◌, refl, sym, ap, ◌∙◌, subst, length, take, get_or, slice_get}
use Rattle.std.proofs.Common.{cond, filter_map}
use Rattle.std.specs.Borrow.{Bor}
use Rattle.std.specs.List.{cons_option, find}
use Rattle.std.specs.Option.{option_or}
use Rattle.std.proofs.lemmas.List.Elements.{filter_map-append}
use Rattle.std.proofs.lemmas.List.Folds.{find-append}
use Rattle.am_lemmas.proofs.Lists.{list_any-push}
use Rattle.am_names.specs.declared.Cause.{Cause}
use Rattle.am_names.specs.declared.Message.{Message}
use Rattle.am_names.specs.declared.Serial.{Serial}
use Rattle.am_names.specs.Names.{has_serial}
use Rattle.am_office_entries.specs.declared.Entry.{Entry}
use Rattle.am_office_entries.specs.Entries.{accepted_of, is_serial, passes, return_of, run_of, unknown_of}
use Rattle.am_office_entries.specs.Fates.{cause_of, causes_of, cause_for}
use Rattle.am_office_entries.specs.Logged.Behind.{entries_behind}
use Rattle.am_office_entries.proofs.Causes.{cause_of_return}
use Rattle.am_office_entries.proofs.Entries.{behind_next}
use Rattle.am_model.specs.PostOffice.{is_about, only_if}
use Rattle.am_library_views.specs.declared.account.Account.{Account}
use Rattle.am_library_views.specs.Accounts.{IsAccountOf, answer_by, answer_of, cause_in, has, reply_for, reply_in}
use Rattle.am_library_views.specs.Views.{reply_to}

-- the first of two lists, where the second has one element at most
first_or : (cs : List Cause) (o : Option Cause) → slice_get (cs ++ cons_option o []) 0 ≡ option_or (slice_get cs 0) o
first_or [] None = refl
first_or [] (Some c) = refl
first_or (c ∷ cs) o = refl

causes_push : (past : List Entry) (x : Entry) (s : Serial) → slice_get (causes_of (past ++ x ∷ []) s) 0 ≡ option_or (slice_get (causes_of past s) 0)
    (cause_for s (return_of x))
causes_push past x s =
    ap (λ (l : List Cause). slice_get l 0) (filter_map-append (λ (y : Entry). cause_of s y.event y.outcome) past (x ∷ []))
    ∙ first_or (causes_of past s) (cause_of s x.event x.outcome)
    ∙ ap (λ (o : Option Cause). option_or (slice_get (causes_of past s) 0) o) (cause_of_return s x.event x.outcome)

answers_about : (s : Serial) (m : Message) (o : Option Serial) → m.about ≡ o → reply_for s (answer_by m o) ≡ only_if (is_about s) (Some m)
answers_about s m None is = sym (ap (λ (about : Option Serial). cond (is_serial s about) (Some m) None) is)
answers_about s m (Some request) is = sym (ap (λ (about : Option Serial). cond (is_serial s about) (Some m) None) is)

answers : (s : Serial) (o : Option Message) → reply_for s (answer_of o) ≡ find (is_about s) (cons_option o [])
answers s None = refl
answers s (Some m) = answers_about s m m.about refl

replies_push : (past : List Entry) (x : Entry) (s : Serial) → reply_to (past ++ x ∷ []) s ≡ option_or (reply_to past s) (reply_for s (answer_of (run_of x)))
replies_push past x s =
    ap (λ (l : List Message). find (is_about s) l) (filter_map-append run_of past (x ∷ []))
    ∙ find-append (is_about s) (filter_map run_of past) (filter_map run_of (x ∷ []))
    ∙ ap (λ (o : Option Message). option_or (reply_to past s) o) (sym (answers s (run_of x)))

-- what one entry more says of each serial
pub record IsTold (old new : Account) (x : Entry) : Type 0 where
  pub accepted : (s : Serial) → has new.accepted s ≡ (has old.accepted s || passes (has_serial s) (accepted_of x))
  pub returned : (s : Serial) → cause_in new.returned s ≡ option_or (cause_in old.returned s) (cause_for s (return_of x))
  pub unknown : (s : Serial) → has new.unknown s ≡ (has old.unknown s || is_serial s (unknown_of x))
  pub ran : (s : Serial) → has new.ran s ≡ (has old.ran s || passes (has_serial s) (run_of x))
  pub replies : (s : Serial) → reply_in new.replies s ≡ option_or (reply_in old.replies s) (reply_for s (answer_of (run_of x)))

pub learned : (old new : Account) (past : List Entry) (x : Entry) → IsTold old new x → IsAccountOf past old → IsAccountOf (past ++ x ∷ []) new
learned old new past x told are =
    record {
      accepted' = λ (s : Serial). told.accepted s ∙ ap (λ (b : Bool). b || passes (has_serial s) (accepted_of x)) (are.accepted' s)
          ∙ sym (list_any-push (λ (y : Entry). passes (has_serial s) (accepted_of y)) past x);
      returned' = λ (s : Serial). told.returned s ∙ ap (λ (o : Option Cause). option_or o (cause_for s (return_of x))) (are.returned' s)
          ∙ sym (causes_push past x s);
      unknown' = λ (s : Serial). told.unknown s ∙ ap (λ (b : Bool). b || is_serial s (unknown_of x)) (are.unknown' s)
          ∙ sym (list_any-push (λ (y : Entry). is_serial s (unknown_of y)) past x);
      ran' = λ (s : Serial). told.ran s ∙ ap (λ (b : Bool). b || passes (has_serial s) (run_of x)) (are.ran' s)
          ∙ sym (list_any-push (λ (y : Entry). passes (has_serial s) (run_of y)) past x);
      replies' = λ (s : Serial). told.replies s ∙ ap (λ (o : Option Message). option_or o (reply_for s (answer_of (run_of x)))) (are.replies' s)
          ∙ sym (replies_push past x s);
    }

pub next : (new : Account) (xs : List (Bor Entry)) (i : ℕ) (d : Bor Entry) → i < length xs →
    IsAccountOf (take i (entries_behind xs) ++ (get_or xs i d).now ∷ []) new → IsAccountOf (take (i + 1) (entries_behind xs)) new
next new xs i d below are = subst (λ (l : List Entry). IsAccountOf l new) (sym (behind_next xs i d below)) are
