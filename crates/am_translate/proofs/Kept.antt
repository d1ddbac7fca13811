-- What each change leaves of a table.
use Rattle.std.specs.Prelude.{sum_by, nat_le, is_none}
use Rattle.std.proofs.Common.{◌≡◌, ℕ, ◌+◌, ◌<◌, ◌≤◌, Bool, true, false, cond, ◌&&◌, List, [], ◌∷◌, length, map, Option, Some, None, refl, sym, ap, ◌∙◌, subst}
use Rattle.std.proofs.Common.{arith, leb-false, length-append, ◌||◌}
use Rattle.std.specs.List.{count_by, list_any}
use Rattle.std.proofs.lemmas.List.{length-set, length-map}
use Rattle.std.proofs.lemmas.List.Sums.{sum_by-cons, sum_by_push}
use Rattle.am_lemmas.proofs.Lists.{count_by-none, list_any-counts}
use Rattle.am_names.specs.Names.{same_serial}
use Rattle.am_names.specs.declared.Serial.{Serial}
use Rattle.am_model.specs.declared.Awaited.{Awaited}
use Rattle.am_model.specs.declared.Mapping.{Mapping}
use Rattle.am_model.specs.Choice.{without_first}
use Rattle.am_model.specs.Calls.{has_no_credit, share_of}
use Rattle.am_model.specs.Endpoint.{entry_at}
use Rattle.am_model.specs.Changes.{arrived, is_of}
use Rattle.am_model.specs.Valid.{has_arrived, is_mapping_in_range}
use Rattle.am_model.proofs.Names.{same_serial-is}
use Rattle.am_model.proofs.Records.{arrives_or_waits}
use Rattle.am_model.proofs.Sizes.{count_le}
use Rattle.am_model.proofs.Sound.{all_set}
use Rattle.am_model.proofs.Shares.{shares_le}
use Rattle.am_translate.specs.declared.CreditFault.TheVariants as CreditFaults
use Rattle.am_translate.specs.Tables.{IsTable, Table, body_with, credit_fault, is_known, with_awaited, with_mapping, with_record}
use Rattle.am_translate.proofs.Lists.{length-without}

pub table_mapped : (t : Table) (index : ℕ) (x : Option Mapping) → is_mapping_in_range t.pool x ≡ true → IsTable t → IsTable (with_mapping t index x)
table_mapped t index x range ok =
    record {
      indexes = length-set t.mapped index x ∙ ok.indexes;
      credits = all_set (is_mapping_in_range t.pool) t.mapped index x range ok.credits;
      few = ok.few;
      once = ok.once;
    }

table_recorded : (t : Table) (index : ℕ) (serial : Serial) → length t.awaited < 32 → is_known t serial ≡ false → IsTable t →
    IsTable (with_record t index serial)
table_recorded t index serial room new ok =
    record {
      indexes = ok.indexes;
      credits = ok.credits;
      few = omega (arith, length-append t.awaited (record { index = index; serial = serial; arrived = false } ∷ []), room);
      once = λ r. by_test r (same_serial r serial) refl;
    }
  where
    pushed : (r : Serial) → count_by (is_of r) (with_record t index serial).awaited ≡ count_by (is_of r) t.awaited + cond (same_serial r serial) 1 0
    pushed r = sum_by_push (λ (y : Awaited). cond (is_of r y) 1 0) t.awaited (record { index = index; serial = serial; arrived = false })

    by_test : (r : Serial) (b : Bool) → same_serial r serial ≡ b → count_by (is_of r) (with_record t index serial).awaited ≤ 1
    by_test r true is =
        let none : count_by (is_of r) t.awaited ≡ 0 = ap (λ (w : Serial). count_by (is_of w) t.awaited) (same_serial-is r serial is)
        ∙ count_by-none (is_of serial) t.awaited new in
        omega (arith, pushed r, none, ap {B = ℕ} (λ b. cond b 1 0) is)
    by_test r false is = omega (arith, pushed r, ok.once r, ap {B = ℕ} (λ b. cond b 1 0) is)

-- a further record, where nothing keeps a request from being made
room_left : (t : Table) (index : ℕ) → credit_fault t index ≡ None → length t.awaited < 32
room_left t index h = leb-false 32 (length t.awaited) (last_fails CreditFaults.BadIndex CreditFaults.NotMapped CreditFaults.NoCredit CreditFaults.TableFull
    (nat_le 16 index) (is_none (entry_at t.mapped index)) (has_no_credit t.pool (body_with t) index (entry_at t.mapped index)) (nat_le 32 (length t.awaited)) h)
  where
    last_fails : {X : Type 0} (w x y z : X) (a b c d : Bool) → cond a (Some w) (cond b (Some x) (cond c (Some y) (cond d (Some z) None))) ≡ None → d ≡ false
    last_fails w x y z true b c d h = absurd (cc)
    last_fails w x y z false true c d h = absurd (cc)
    last_fails w x y z false false true d h = absurd (cc)
    last_fails w x y z false false false true h = absurd (cc)
    last_fails w x y z false false false false h = refl

pub table_taken : (t v : Table) (index : ℕ) (serial : Serial) (xs : List Awaited) → t ≡ v → xs ≡ (with_record t index serial).awaited →
    credit_fault v index ≡ None → is_known v serial ≡ false → IsTable t → IsTable (with_awaited t xs)
table_taken t v index serial xs e is free new ok =
    subst (λ (ys : List Awaited). IsTable (with_awaited t ys)) (sym is)
    (table_recorded t index serial (room_left t index (ap (λ (w : Table). credit_fault w index) e ∙ free)) (ap (λ (w : Table). is_known w serial) e ∙ new) ok)

marked_counts : (q r : Serial) (xs : List Awaited) → count_by (is_of q) (map (arrived r) xs) ≡ count_by (is_of q) xs
marked_counts q r [] = refl
marked_counts q r (a ∷ xs) =
    omega (
      arith,
      marked_counts q r xs,
      sum_by-cons (λ (y : Awaited). cond (is_of q y) 1 0) a xs,
      sum_by-cons (λ (y : Awaited). cond (is_of q y) 1 0) (arrived r a) (map (arrived r) xs),
    )

table_marked : (t : Table) (r : Serial) → IsTable t → IsTable (with_awaited t (map (arrived r) t.awaited))
table_marked t r ok =
    record {
      indexes = ok.indexes;
      credits = ok.credits;
      few = omega (arith, length-map t.awaited (arrived r), ok.few);
      once = λ q. omega (arith, marked_counts q r t.awaited, ok.once q);
    }

pub table_marked_as : (t : Table) (r : Serial) (xs : List Awaited) → xs ≡ map (arrived r) t.awaited → IsTable t → IsTable (with_awaited t xs)
table_marked_as t r xs is ok = subst (λ (ys : List Awaited). IsTable (with_awaited t ys)) (sym is) (table_marked t r ok)

pub table_without : (t : Table) (p : Awaited → Bool) (xs : List Awaited) → xs ≡ without_first p t.awaited → IsTable t → IsTable (with_awaited t xs)
table_without t p xs is ok =
    record {
      indexes = ok.indexes;
      credits = ok.credits;
      few = omega (arith, ap length is, length-without p t.awaited, ok.few);
      once = λ q. omega (arith, ap (count_by (is_of q)) is, (count_le (is_of q) p t.awaited).0, ok.once q);
    }

-- where a request has one record, which has arrived, the first arrived one is the first
pub taken_settled : (r : Serial) (xs : List Awaited) → count_by (is_of r) xs ≤ 1 → list_any (has_arrived r) xs ≡ true →
    without_first (has_arrived r) xs ≡ without_first (is_of r) xs
taken_settled r [] one there = refl
taken_settled r (a ∷ xs) one there = by_test (same_serial r a.serial) a.arrived (omega (arith, one, sum_by-cons (λ (y : Awaited). cond (is_of r y) 1 0) a xs))
    there (taken_settled r xs)
  where
    by_test : (b c : Bool) → cond b 1 0 + count_by (is_of r) xs ≤ 1 → ((b && c) || list_any (has_arrived r) xs) ≡ true →
        (count_by (is_of r) xs ≤ 1 → list_any (has_arrived r) xs ≡ true → without_first (has_arrived r) xs ≡ without_first (is_of r) xs) →
        cond (b && c) xs (a ∷ without_first (has_arrived r) xs) ≡ cond b xs (a ∷ without_first (is_of r) xs)
    by_test true true le some more = refl
    by_test true false le some more =
        let least = list_any-counts (has_arrived r) xs some in absurd (omega (arith, le, least, arrives_or_waits r xs))
    by_test false c le some more = ap (λ ys. a ∷ ys) (more (omega (arith, le)) some)

pub shares_few : (t : Table) → IsTable t → sum_by share_of t.mapped ≤ 128
shares_few t ok = omega (arith, shares_le t.pool t.mapped ok.credits, ok.indexes)
