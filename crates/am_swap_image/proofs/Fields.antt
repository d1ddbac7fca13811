-- What is read is what was written, and what was written is read again: numbers, and parts one after another.
use Rattle.std.proofs.Common.{◌≡◌, ℕ, suc, ◌+◌, ◌^◌, ◌<◌, ◌≤◌, Bool, true, false, cond, List, [], ◌∷◌, ◌++◌, length, take, drop, Option, Some, None, refl, sym}
use Rattle.std.proofs.Common.{ap, subst, ◌∙◌, append_assoc, arith}
use Rattle.std.specs.Prelude.{nat_le, nat_lt, ◌==◌}
use Rattle.std.specs.Int.{Width, w32, w64, byte_len, from_be_bytes, to_be_bytes}
use Rattle.std.proofs.lemmas.Bool.{eqb-true, ltb-true, lt-ltb, leb-true, le-leb}
use Rattle.std.proofs.lemmas.List.{take_at, drop_at, take-append-drop, length-append, length-take}
use Rattle.std.proofs.lemmas.Nat.{be_bytes_4, be_bytes_8, from_be_bytes-to_be_bytes_4, from_be_bytes-to_be_bytes_8}
use Rattle.std.proofs.lemmas.Option.{cond_some}
use Rattle.am_lemmas.specs.Options.{◌>>=◌}
use Rattle.am_lemmas.specs.Bytes.{AreBytes}
use Rattle.am_lemmas.proofs.Bytes.{bytes-drop, bytes-take}
use Rattle.am_model.specs.History.{is_byte, is_four_bytes, is_eight_bytes}
use Rattle.am_swap_image.specs.Image.{in_turn, byte, short, long}
use Rattle.am_swap_image.specs.Reading.{Read, number_at, byte_at, short_at, long_at}

-- what a reader took from the front
pub record Took {X : Type 0} (fits : X → Bool) (text : X → List ℕ) (bytes : List ℕ) (x : X) (rest : List ℕ) : Type 0 where
  pub parts : bytes ≡ text x ++ rest
  pub rest_fits : AreBytes rest
  pub in_range : fits x ≡ true

-- a reader of values that fit, which are written so
pub record IsReader {X : Type 0} (fits : X → Bool) (text : X → List ℕ) (at : List ℕ → Read X) : Type 0 where
  pub takes : (bytes : List ℕ) (x : X) (rest : List ℕ) → AreBytes bytes → at bytes ≡ Some (x, rest) → Took fits text bytes x rest
  pub again : (x : X) (rest : List ℕ) → fits x ≡ true → at (text x ++ rest) ≡ Some (x, rest)

pub none_some : {A : Type 0} (y : A) → ◌≡◌ {A = Option A} None (Some y) → ⊥
none_some y e = cc

-- what follows from the value that a step found
pub then_some : {A B P : Type 0} (o : Option A) (f : A → Option B) (y : B) → (o >>= f) ≡ Some y → ((x : A) → o ≡ Some x → f x ≡ Some y → P) → P
then_some (Some x) f y e more = more x refl e
then_some None f y e more = absurd (none_some y e)

pub step : {A B : Type 0} (o : Option A) (a : A) (f : A → Option B) (z : Option B) → o ≡ Some a → f a ≡ z → (o >>= f) ≡ z
step o a f z e h = ap (λ (p : Option _). p >>= f) e ∙ h

pub some_is : {A : Type 0} (x y : A) → ◌≡◌ {A = Option A} (Some x) (Some y) → x ≡ y
some_is x y e = cc

-- a choice by a mark that found something
pub by_mark : {A P : Type 0} (mark n : ℕ) (found other : Option A) (z : A) → (mark ≡ n → found ≡ Some z → P) → (other ≡ Some z → P) →
    cond (mark == n) found other ≡ Some z → P
by_mark {A} {P} mark n found other z here more e = by_test (mark == n) refl e
  where
    by_test : (b : Bool) → (mark == n) ≡ b → cond b found other ≡ Some z → P
    by_test true t h = here (eqb-true mark n t) h
    by_test false t h = more h

-- a value that is chosen by its number
pub by_number : {B : Type 0} (number_of : B → ℕ) (number n : ℕ) (b : B) (other : Option B) (x : B) → number_of b ≡ n → (other ≡ Some x → number ≡ number_of x) →
    cond (number == n) (Some b) other ≡ Some x → number ≡ number_of x
by_number number_of number n b other x is more e =
    by_mark number n (Some b) other x (λ here h. here ∙ (sym is ∙ ap number_of (some_is b x h))) more e

-- a part at the front, and the others behind it
pub turn_again : {X : Type 0} (fits : X → Bool) (text : X → List ℕ) (at : List ℕ → Read X) → IsReader fits text at →
    (x : X) (parts : List (List ℕ)) (rest : List ℕ) → fits x ≡ true → at (in_turn (text x ∷ parts) ++ rest) ≡ Some (x, in_turn parts ++ rest)
turn_again fits text at reader x parts rest h = ap at (append_assoc (text x) (in_turn parts) rest) ∙ reader.again x (in_turn parts ++ rest) h

pub turn_parts : (bytes part middle : List ℕ) (parts : List (List ℕ)) (rest : List ℕ) → bytes ≡ part ++ middle → middle ≡ in_turn parts ++ rest →
    bytes ≡ in_turn (part ∷ parts) ++ rest
turn_parts bytes part middle parts rest p q = p ∙ (ap (λ (t : List ℕ). part ++ t) q ∙ sym (append_assoc part (in_turn parts) rest))

-- ---- numbers

bytes-rest : (b : ℕ) (bytes : List ℕ) → AreBytes (b ∷ bytes) → AreBytes bytes
bytes-rest b bytes h i = h (suc i)

byte_takes : (bytes : List ℕ) (x : ℕ) (rest : List ℕ) → AreBytes bytes → byte_at bytes ≡ Some (x, rest) → Took is_byte byte bytes x rest
unfolding byte_at
byte_takes [] x rest fits e = absurd cc
byte_takes (b ∷ bytes) x rest fits e =
    subst (λ (p : ℕ × List ℕ). Took is_byte byte (b ∷ bytes) p.0 p.1) (some_is (b, bytes) (x, rest) e)
    (record { parts = refl; rest_fits = bytes-rest b bytes fits; in_range = lt-ltb _ _ (fits 0) })

byte_again : (x : ℕ) (rest : List ℕ) → is_byte x ≡ true → byte_at (byte x ++ rest) ≡ Some (x, rest)
unfolding byte_at
byte_again x rest h = refl

pub byte_reader : IsReader is_byte byte byte_at
byte_reader = record { takes = byte_takes; again = byte_again }

pub record IsWide (w : Width) (limit : ℕ) : Type 0 where
  pub len : (n : ℕ) → length (to_be_bytes w n) ≡ byte_len w
  pub back : (bytes : List ℕ) → length bytes ≡ byte_len w → AreBytes bytes → to_be_bytes w (from_be_bytes w bytes) ≡ bytes
  pub again : (n : ℕ) → n < limit → from_be_bytes w (to_be_bytes w n) ≡ n
  pub below : (bytes : List ℕ) → AreBytes bytes → from_be_bytes w bytes < limit

wide32 : IsWide w32 (2 ^ 32)
wide32 =
    record {
      len = λ n. refl;
      back = λ bytes len fits. be_bytes_4 bytes _ len fits refl;
      again = λ n lt. from_be_bytes-to_be_bytes_4 n lt;
      below = λ bytes fits. omega (arith, fits 0, fits 1, fits 2, fits 3);
    }

wide64 : IsWide w64 (2 ^ 64)
wide64 =
    record {
      len = λ n. refl;
      back = λ bytes len fits. be_bytes_8 bytes _ len fits refl;
      again = λ n lt. from_be_bytes-to_be_bytes_8 n lt;
      below = λ bytes fits. omega (arith, fits 0, fits 1, fits 2, fits 3, fits 4, fits 5, fits 6, fits 7);
    }

number_takes : (w : Width) (limit : ℕ) → IsWide w limit → (bytes : List ℕ) (n : ℕ) (rest : List ℕ) → AreBytes bytes → number_at w bytes ≡ Some (n, rest) →
    Took (λ k. nat_lt k limit) (to_be_bytes w) bytes n rest
number_takes w limit wide bytes n rest fits e =
    let g = cond_some (nat_le (byte_len w) (length bytes)) (from_be_bytes w (take (byte_len w) bytes), drop (byte_len w) bytes) (n, rest) e in
    let enough : byte_len w ≤ length bytes = leb-true (byte_len w) (length bytes) g.0 in
    let n-is : from_be_bytes w (take (byte_len w) bytes) ≡ n = ap (λ (p : ℕ × List ℕ). p.0) g.1 in
    let rest-is : drop (byte_len w) bytes ≡ rest = ap (λ (p : ℕ × List ℕ). p.1) g.1 in
    let front_fits : AreBytes (take (byte_len w) bytes) = bytes-take (byte_len w) bytes fits in
    let front : to_be_bytes w n ≡ take (byte_len w) bytes = rw (← n-is) (wide.back (take (byte_len w) bytes) (omega (arith, length-take (byte_len w) bytes))
    front_fits) in
    let below : n < limit = rw (← n-is) (wide.below (take (byte_len w) bytes) front_fits) in
    record {
      parts = rw (front, ← rest-is) (sym (take-append-drop (byte_len w) bytes));
      rest_fits = rw (← rest-is) (bytes-drop (byte_len w) bytes fits);
      in_range = lt-ltb _ _ below;
    }

number_again : (w : Width) (limit : ℕ) → IsWide w limit → (n : ℕ) (rest : List ℕ) → nat_lt n limit ≡ true →
    number_at w (to_be_bytes w n ++ rest) ≡ Some (n, rest)
number_again w limit wide n rest lt =
    let len = wide.len n in
    let enough : nat_le (byte_len w) (length (to_be_bytes w n ++ rest)) ≡ true = le-leb _ _ (omega (arith, length-append (to_be_bytes w n) rest)) in
    rw (enough, take_at (to_be_bytes w n) rest (byte_len w) len, drop_at (to_be_bytes w n) rest (byte_len w) len, wide.again n (ltb-true _ _ lt)) refl

short_takes : (bytes : List ℕ) (x : ℕ) (rest : List ℕ) → AreBytes bytes → short_at bytes ≡ Some (x, rest) → Took is_four_bytes short bytes x rest
unfolding short_at
short_takes bytes x rest fits e = number_takes w32 (2 ^ 32) wide32 bytes x rest fits e

short_again : (x : ℕ) (rest : List ℕ) → is_four_bytes x ≡ true → short_at (short x ++ rest) ≡ Some (x, rest)
unfolding short_at
short_again x rest h = number_again w32 (2 ^ 32) wide32 x rest h

pub short_reader : IsReader is_four_bytes short short_at
short_reader = record { takes = short_takes; again = short_again }

long_takes : (bytes : List ℕ) (x : ℕ) (rest : List ℕ) → AreBytes bytes → long_at bytes ≡ Some (x, rest) → Took is_eight_bytes long bytes x rest
unfolding long_at
long_takes bytes x rest fits e = number_takes w64 (2 ^ 64) wide64 bytes x rest fits e

long_again : (x : ℕ) (rest : List ℕ) → is_eight_bytes x ≡ true → long_at (long x ++ rest) ≡ Some (x, rest)
unfolding long_at
long_again x rest h = number_again w64 (2 ^ 64) wide64 x rest h

pub long_reader : IsReader is_eight_bytes long long_at
long_reader = record { takes = long_takes; again = long_again }
