-- What becomes of the record of a request, whether there was one or not.
use Rattle.std.specs.Prelude.{Result, Ok, Err, OnOk, OnErr, IsErr, ◌↔◌}
use Rattle.std.proofs.Common.{◌≡◌, Bool, true, false, cond, not, ◌||◌, ◌&&◌, List, [], ◌∷◌, map, Some, refl, sym, ap, ◌∙◌}
use Rattle.std.specs.List.{list_any}
use Rattle.am_names.specs.declared.Serial.{Serial}
use Rattle.am_model.specs.declared.Awaited.{Awaited}
use Rattle.am_model.specs.Choice.{without_first}
use Rattle.am_names.specs.Names.{same_serial}
use Rattle.am_model.specs.Changes.{arrived, without_waiting, without_record, with_arrived}
use Rattle.am_model.specs.Valid.{has_arrived}
use Rattle.am_model.specs.Endpoint.{waits_for}
use Rattle.am_translate.specs.Tables.{Table, is_waiting, with_awaited}

unpassed : {X : Type 0} (p : X → Bool) (xs : List X) → list_any p xs ≡ false → without_first p xs ≡ xs
unpassed p [] none = refl
unpassed p (x ∷ xs) none = by_test p x xs (p x) none (unpassed p xs)
  where
    by_test : {X : Type 0} (p : X → Bool) (x : X) (xs : List X) (b : Bool) → (b || list_any p xs) ≡ false → (list_any p xs ≡ false → without_first p xs ≡ xs) →
        cond b xs (x ∷ without_first p xs) ≡ x ∷ xs
    by_test p x xs true none more = absurd (cc)
    by_test p x xs false none more = ap (λ ys. x ∷ ys) (more none)

pub record_gone : {T E : Type 0} (t u : Table) (request : Serial) (r : Result T E) → OnOk r (u ≡ with_awaited t (without_waiting request t.awaited)) →
    OnErr r (u ≡ t) → (IsErr r ↔ (is_waiting t request ≡ false)) → u ≡ with_awaited t (without_waiting request t.awaited)
record_gone t u request (Ok done) ok err missing = ok
record_gone t u request (Err fault) ok err missing = err ∙ ap (λ (xs : List Awaited). with_awaited t xs)
    (sym (unpassed (waits_for request) t.awaited (missing.0 refl)))

none_more : (b rest : Bool) → (b || rest) ≡ false → rest ≡ false
none_more true rest none = absurd (cc)
none_more false rest none = none

-- a record that doesn't wait stays as it is where its reply arrives
still : (same was rest : Bool) → ((same && not was) || rest) ≡ false → (was || same) ≡ was
still true true rest none = refl
still true false rest none = absurd (cc)
still false true rest none = refl
still false false rest none = refl

unmarked : (request : Serial) (xs : List Awaited) → list_any (waits_for request) xs ≡ false → map (arrived request) xs ≡ xs
unmarked request [] none = refl
unmarked request (a ∷ xs) none =
    ap (λ was. record a { arrived = was } ∷ map (arrived request) xs) (still (same_serial request a.serial) a.arrived (list_any (waits_for request) xs) none)
    ∙ ap (λ ys. a ∷ ys) (unmarked request xs (none_more (waits_for request a) (list_any (waits_for request) xs) none))

pub record_arrived : {T E : Type 0} (t u : Table) (request : Serial) (r : Result T E) → OnOk r (u ≡ with_awaited t (with_arrived (Some request) t.awaited)) →
    OnErr r (u ≡ t) → (IsErr r ↔ (is_waiting t request ≡ false)) → u ≡ with_awaited t (with_arrived (Some request) t.awaited)
record_arrived t u request (Ok done) ok err missing = ok
record_arrived t u request (Err fault) ok err missing = err ∙ ap (λ (xs : List Awaited). with_awaited t xs) (sym (unmarked request t.awaited (missing.0 refl)))

-- where no record has arrived, those of a request wait
waits : (same was rest : Bool) → ((same && was) || rest) ≡ false → (same && not was) ≡ same
waits true true rest none = absurd (cc)
waits true false rest none = refl
waits false was rest none = refl

pub waits_or_not : (request : Serial) (xs : List Awaited) → list_any (has_arrived request) xs ≡ false →
    without_waiting request xs ≡ without_record (Some request) xs
waits_or_not request [] none = refl
waits_or_not request (a ∷ xs) none =
    ap (λ b. cond b xs (a ∷ without_waiting request xs)) (waits (same_serial request a.serial) a.arrived (list_any (has_arrived request) xs) none)
    ∙ ap (λ ys. cond (same_serial request a.serial) xs (a ∷ ys)) (waits_or_not request xs
    (none_more (has_arrived request a) (list_any (has_arrived request) xs) none))
