-- The numbers that are printed, and their words.
use Rattle.std.proofs.Common.{◌≡◌, ℕ, zero, suc, ◌^◌, ◌<◌, ◌≤◌, Bool, true, false, cond, eqb, ltb, leb, not, ◌&&◌, List, [], ◌∷◌, length, get_or, Option, Some}
use Rattle.std.proofs.Common.{None, refl, sym, ap, subst, ◌∙◌, rules, arith}
use Rattle.std.specs.List.{list_all}
use Rattle.std.specs.Fmt.{decimal}
use Rattle.std.proofs.lemmas.Fmt.{digits_decimal, digits_value-decimal, decimal-digits_value, decimal_nonempty, first_decimal, decimal_digit}
use Rattle.std.proofs.lemmas.Str.Parse.{IsNumeralModel, numerals_by_fold}
use Rattle.std.proofs.lemmas.Bool.{lt-ltb, ltb-true, le-leb, leb-true, eq-eqb, ne_eqb, and_parts}
use Rattle.std.proofs.lemmas.Option.{cond_some}
use Rattle.am_lexer.specs.Text.{is_digit, value_after, number_of, has_bytes}
use Rattle.am_check_lines.specs.Reading.{has_no_leading_zero, printed_number, number_up_to}

own : IsNumeralModel (λ ds. list_all is_digit ds ≡ true) (value_after 0)
own = numerals_by_fold _ (search rules) value_after (search rules)

bytes_are : (ds : List ℕ) → 0 < length ds → has_bytes ds ≡ true
bytes_are [] h = absurd (omega arith)
bytes_are (d ∷ ds) h = refl

some_bytes : (ds : List ℕ) → has_bytes ds ≡ true → 0 < length ds
some_bytes [] h = absurd cc
some_bytes (d ∷ ds) h = omega arith

no_zero : (ds : List ℕ) → 48 < get_or ds 0 0 → has_no_leading_zero ds ≡ true
no_zero [] h = refl
no_zero (d ∷ []) h = refl
no_zero (d ∷ e ∷ ds) h = let n : eqb d 48 ≡ false = ne_eqb d 48 (λ z. omega arith) in rw n refl

lead_of : (ds : List ℕ) → has_no_leading_zero ds ≡ true → 0 < length ds → get_or ds 0 0 ≡ 48 → length ds ≡ 1
lead_of [] h some z = absurd (omega arith)
lead_of (d ∷ []) h some z = refl
lead_of (d ∷ e ∷ ds) h some z = let y : eqb d 48 ≡ true = eq-eqb d 48 z in absurd (cc (rw y at h))

decimal_lead : (n : ℕ) → n < 2 ^ 64 → has_no_leading_zero (decimal n) ≡ true
decimal_lead zero h = rw (decimal_digit 0 (omega arith)) refl
decimal_lead (suc n) h = no_zero (decimal (suc n)) (first_decimal (suc n) (omega arith) h)

-- a printed number is read back
pub decimal_read : (n : ℕ) → n < 2 ^ 64 → printed_number (decimal n) ≡ Some n
unfolding printed_number number_of
decimal_read n h =
    let lead = decimal_lead n h in
    let bytes = bytes_are (decimal n) (decimal_nonempty n h) in
    let digits = digits_decimal own n h in
    let value = digits_value-decimal own n h in
    let small : ltb n (2 ^ 64) ≡ true = lt-ltb n (2 ^ 64) h in
    rw (lead, bytes, digits, value, small) refl

pub decimal_up_to : (limit n : ℕ) → n ≤ limit → n < 2 ^ 64 → number_up_to limit (decimal n) ≡ Some n
unfolding number_up_to
decimal_up_to limit n le h = let yes : leb n limit ≡ true = le-leb n limit le in rw (decimal_read n h, yes) refl

some_of : {X : Type 0} (c : Bool) (o : Option X) (x : X) → cond c o None ≡ Some x → (c ≡ true) × (o ≡ Some x)
some_of true o x e = (refl, e)
some_of false o x e = absurd cc

-- and what is read is the printed number
pub read_decimal : (word : List ℕ) (n : ℕ) → printed_number word ≡ Some n → (word ≡ decimal n) × (n < 2 ^ 64)
unfolding printed_number number_of
read_decimal word n e =
    let a = some_of (has_no_leading_zero word) _ n e in
    let b = cond_some (has_bytes word && list_all is_digit word && ltb (value_after 0 word) (2 ^ 64)) (value_after 0 word) n a.1 in
    let p = and_parts _ _ b.0 in
    let q = and_parts _ _ p.0 in
    let some = some_bytes word q.0 in
    let small : value_after 0 word < 2 ^ 64 = ltb-true _ _ p.1 in
    let is : decimal (value_after 0 word) ≡ word = decimal-digits_value own word q.1 some (lead_of word a.0 some) small in
    (sym is ∙ ap decimal b.1, subst (λ (v : ℕ). v < 2 ^ 64) b.1 small)

digits_are_free : (byte : ℕ) (ds : List ℕ) → byte < 48 → list_all is_digit ds ≡ true → list_all (λ b. not (eqb b byte)) ds ≡ true
digits_are_free byte [] low h = refl
digits_are_free byte (d ∷ ds) low h =
    let p = and_parts (is_digit d) (list_all is_digit ds) h in
    let q = and_parts (leb 48 d) (leb d 57) p.0 in
    let low' : 48 ≤ d = leb-true 48 d q.0 in
    let other : eqb d byte ≡ false = ne_eqb d byte (λ e. omega arith) in
    rw (other, digits_are_free byte ds low p.1) refl

pub decimal_free : (byte n : ℕ) → byte < 48 → n < 2 ^ 64 → list_all (λ b. not (eqb b byte)) (decimal n) ≡ true
decimal_free byte n low h = digits_are_free byte (decimal n) low (digits_decimal own n h)

digits_and_letters : (letter : ℕ) (ds : List ℕ) → 57 < letter → list_all is_digit ds ≡ true → list_all (λ b. not (eqb b letter)) ds ≡ true
digits_and_letters letter [] high h = refl
digits_and_letters letter (d ∷ ds) high h =
    let p = and_parts (is_digit d) (list_all is_digit ds) h in
    let q = and_parts (leb 48 d) (leb d 57) p.0 in
    let high' : d ≤ 57 = leb-true d 57 q.1 in
    let other : eqb d letter ≡ false = ne_eqb d letter (λ e. omega arith) in
    rw (other, digits_and_letters letter ds high p.1) refl

pub letters_free : (letter n : ℕ) → 57 < letter → n < 2 ^ 64 → list_all (λ b. not (eqb b letter)) (decimal n) ≡ true
letters_free letter n high h = digits_and_letters letter (decimal n) high (digits_decimal own n h)
