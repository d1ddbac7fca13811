-- The causes for which a serial is returned.
use Rattle.std.proofs.Common.{◌≡◌, ℕ, suc, zero, ◌<◌, Bool, List, [], ◌∷◌, Option, Some, None, refl, option_to_list, length, take, get_or, filter_map, arith}
use Rattle.std.specs.List.{cons_option}
use Rattle.std.specs.List.{slice_get}
use Rattle.am_names.specs.declared.Serial.{Serial}
use Rattle.am_names.specs.declared.Cause.{Cause}
use Rattle.am_office_entries.specs.declared.Event.{Event}
use Rattle.am_office_entries.specs.declared.Event.TheVariants as Events
use Rattle.am_office_entries.specs.declared.Outcome.{Outcome}
use Rattle.am_office_entries.specs.declared.Outcome.TheVariants as Out
use Rattle.am_office_entries.specs.declared.Received.{Received}
use Rattle.am_office_entries.specs.declared.Received.TheVariants as Got
use Rattle.am_office_entries.specs.Entries.{return_in, return_by}
use Rattle.am_office_entries.specs.Fates.{cause_of, cause_by, cause_for, fate_by}

cause_by_return : (s : Serial) (r : Received) → cause_by s r ≡ cause_for s (return_by r)
cause_by_return s (Got.Returned serial cause) = refl
cause_by_return s result = refl

pub cause_of_return : (s : Serial) (e : Event) (o : Outcome) → cause_of s e o ≡ cause_for s (return_in e o)
cause_of_return s (Events.Carry end) (Out.Returned m cause) = refl
cause_of_return s (Events.Receive node peer number) (Out.Received channel seq attempt result) = cause_by_return s result
cause_of_return s event outcome = refl

pub fate_by_first : (causes : List Cause) (unknown ran : Bool) → fate_by (option_to_list (slice_get causes 0)) unknown ran ≡ fate_by causes unknown ran
fate_by_first [] unknown ran = refl
fate_by_first (cause ∷ causes) unknown ran = refl

none_in_front : {Y : Type 0} (r : Option Y) (ys : List Y) → cons_option r ys ≡ [] → r ≡ None
none_in_front None ys e = refl
none_in_front (Some y) ys e = absurd cc

none_behind : {Y : Type 0} (r : Option Y) (ys : List Y) → cons_option r ys ≡ [] → ys ≡ []
none_behind None ys e = e
none_behind (Some y) ys e = absurd cc

-- nothing was found, and the next item gives nothing
pub none_so_far : {X Y : Type 0} (h : X → Option Y) (xs : List X) (i : ℕ) (d : X) → i < length xs → filter_map h (take i xs) ≡ [] → h (get_or xs i d) ≡ None →
    filter_map h (take (suc i) xs) ≡ []
none_so_far h [] i d below before here = absurd (omega arith)
none_so_far h (x ∷ xs) zero d below before here = rw here refl
none_so_far h (x ∷ xs) (suc i) d below before here =
    let first : h x ≡ None = none_in_front _ _ before in
    rw first (none_so_far h xs i d (omega arith) (none_behind _ _ before) here)

-- nothing was found, and the next item gives the first
pub first_found : {X Y : Type 0} (h : X → Option Y) (xs : List X) (i : ℕ) (d : X) (y : Y) → i < length xs → filter_map h (take i xs) ≡ [] →
    h (get_or xs i d) ≡ Some y → slice_get (filter_map h xs) 0 ≡ Some y
first_found h [] i d y below before here = absurd (omega arith)
first_found h (x ∷ xs) zero d y below before here = rw here refl
first_found h (x ∷ xs) (suc i) d y below before here =
    let first : h x ≡ None = none_in_front _ _ before in
    rw first (first_found h xs i d y (omega arith) (none_behind _ _ before) here)
