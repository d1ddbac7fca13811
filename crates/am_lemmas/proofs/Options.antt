-- Options: what is in one, and what two one after another give.
use Rattle.std.proofs.Common.{◌≡◌, Bool, true, false, cond, Option, Some, None, refl, sym, true≢false, is_some, is_none, option_map}
use Rattle.std.specs.Option.{option_or}

pub some_is : {X : Type 0} (a b : X) → Some a ≡ Some b → a ≡ b
some_is a b e = cc

pub is_none-None : {X : Type 0} (o : Option X) → is_none o ≡ true → o ≡ None
is_none-None None h = refl
is_none-None (Some x) h = absurd (true≢false (sym h))

pub not_some-None : {X : Type 0} (o : Option X) → is_some o ≡ false → o ≡ None
not_some-None None h = refl
not_some-None (Some x) h = absurd (true≢false h)

-- what is tested first, where the test fails
pub cond-None : {X : Type 0} (b : Bool) (x : X) (rest : Option X) → b ≡ false → rest ≡ None → cond b (Some x) rest ≡ None
cond-None true x rest is none = absurd (true≢false is)
cond-None false x rest is none = none

pub option_or-None : {X : Type 0} (o : Option X) → option_or o None ≡ o
option_or-None None = refl
option_or-None (Some x) = refl

-- what the first of two options gives, both give
pub option_map-option_or : {X Y : Type 0} (f : X → Y) (o other : Option X) (y : Y) → option_map f o ≡ Some y → option_map f (option_or o other) ≡ Some y
option_map-option_or f (Some x) other y e = e
option_map-option_or f None other y e = absurd (cc)
