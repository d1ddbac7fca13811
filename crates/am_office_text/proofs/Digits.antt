-- The digits of a number, first to last.
use Rattle.std.proofs.Common.{◌≡◌, ℕ, List, [], ◌∷◌, ◌++◌, append_assoc, refl, ap, ◌∙◌, ◌<◌, ◌≤◌, ◌/◌, ◌%◌, ◌+◌, ◌^◌, arith}
use Rattle.std.specs.Fmt.{decimal}
use Rattle.std.proofs.lemmas.Fmt.{decimal_digit, decimal_step}

-- one digit more behind those of the tens
behind : (n : ℕ) (ds : List ℕ) → 10 ≤ n → n < 10000 → decimal (n / 10) ≡ ds → decimal n ≡ ds ++ (48 + n % 10) ∷ []
behind n ds some small tens = decimal_step n some (omega arith) ∙ ap (λ (x : List ℕ). x ++ (48 + n % 10) ∷ []) tens

pub two_digits : (n : ℕ) → 10 ≤ n → n / 10 < 10 → decimal n ≡ (48 + n / 10) ∷ (48 + n % 10) ∷ []
two_digits n some small = behind n ((48 + n / 10) ∷ []) some (omega arith) (decimal_digit (n / 10) small)

-- Four that are put behind others one after another stand behind them.
in_turn : {A : Type 0} (xs : List A) (a b c d : A) → (((xs ++ a ∷ []) ++ b ∷ []) ++ c ∷ []) ++ d ∷ [] ≡ xs ++ a ∷ b ∷ c ∷ d ∷ []
in_turn xs a b c d =
    append_assoc ((xs ++ a ∷ []) ++ b ∷ []) (c ∷ []) (d ∷ [])
    ∙ append_assoc (xs ++ a ∷ []) (b ∷ []) (c ∷ d ∷ [])
    ∙ append_assoc xs (a ∷ []) (b ∷ c ∷ d ∷ [])

step : (n : ℕ) (ds : List ℕ) → 10 ≤ n → n < 2 ^ 64 → decimal (n / 10) ≡ ds → decimal n ≡ ds ++ (48 + n % 10) ∷ []
step n ds some small tens = decimal_step n some small ∙ ap (λ (x : List ℕ). x ++ (48 + n % 10) ∷ []) tens

-- The last two stand behind those of the hundreds.
pub last_two : (n : ℕ) → 100 ≤ n → n < 10000 → decimal n ≡ decimal (n / 100) ++ (48 + n % 100 / 10) ∷ (48 + n % 100 % 10) ∷ []
last_two n some small =
    behind n (decimal (n / 10 / 10) ++ (48 + n / 10 % 10) ∷ []) (omega (arith, some)) small
    (behind (n / 10) (decimal (n / 10 / 10)) (omega (arith, some)) (omega (arith, small)) refl)
    ∙ append_assoc (decimal (n / 10 / 10)) ((48 + n / 10 % 10) ∷ []) ((48 + n % 10) ∷ [])
    ∙ (λ j. decimal (high j) ++ (48 + ten j) ∷ (48 + one j) ∷ [])
  where
    high : n / 10 / 10 ≡ n / 100
    high = omega arith

    ten : n / 10 % 10 ≡ n % 100 / 10
    ten = omega arith

    one : n % 10 ≡ n % 100 % 10
    one = omega arith

-- The last four stand behind those of the ten thousands.
pub last_four : (n : ℕ) → 10000 ≤ n → n < 100000000 →
    decimal n ≡ decimal (n / 10000) ++ (48 + n % 10000 / 100 / 10) ∷ (48 + n % 10000 / 100 % 10) ∷ (48 + n % 10000 % 100 / 10) ∷ (48 + n % 10000 % 100 % 10) ∷ []
last_four n some small =
    let ones = step n (((decimal (n / 10 / 10 / 10 / 10) ++ a ∷ []) ++ b ∷ []) ++ c ∷ []) (omega (arith, some)) (omega (arith, small)) (tens) in
    ones
    ∙ in_turn (decimal (n / 10 / 10 / 10 / 10)) a b c (48 + n % 10)
    ∙ (λ j. decimal (high j) ++ (48 + thousands j) ∷ (48 + hundreds j) ∷ (48 + ten j) ∷ (48 + one j) ∷ [])
  where
    a : ℕ
    a = 48 + n / 10 / 10 / 10 % 10

    b : ℕ
    b = 48 + n / 10 / 10 % 10

    c : ℕ
    c = 48 + n / 10 % 10

    thousand : decimal (n / 10 / 10 / 10) ≡ decimal (n / 10 / 10 / 10 / 10) ++ a ∷ []
    thousand = step (n / 10 / 10 / 10) (decimal (n / 10 / 10 / 10 / 10)) (omega (arith, some)) (omega (arith, small)) refl

    hundred : decimal (n / 10 / 10) ≡ (decimal (n / 10 / 10 / 10 / 10) ++ a ∷ []) ++ b ∷ []
    hundred = step (n / 10 / 10) (decimal (n / 10 / 10 / 10 / 10) ++ a ∷ []) (omega (arith, some)) (omega (arith, small)) thousand

    tens : decimal (n / 10) ≡ ((decimal (n / 10 / 10 / 10 / 10) ++ a ∷ []) ++ b ∷ []) ++ c ∷ []
    tens = step (n / 10) ((decimal (n / 10 / 10 / 10 / 10) ++ a ∷ []) ++ b ∷ []) (omega (arith, some)) (omega (arith, small)) hundred

    high : n / 10 / 10 / 10 / 10 ≡ n / 10000
    high = omega arith

    thousands : n / 10 / 10 / 10 % 10 ≡ n % 10000 / 100 / 10
    thousands = omega arith

    hundreds : n / 10 / 10 % 10 ≡ n % 10000 / 100 % 10
    hundreds = omega arith

    ten : n / 10 % 10 ≡ n % 10000 % 100 / 10
    ten = omega arith

    one : n % 10 ≡ n % 10000 % 100 % 10
    one = omega arith
