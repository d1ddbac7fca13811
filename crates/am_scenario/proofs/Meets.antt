-- What is known of each value that a reading gives.
use Rattle.std.proofs.Common.{◌≡◌, Bool, true, false, Option, Some, None, Result, Ok, Err, refl, subst}
use Rattle.std.specs.Prelude.{if◌then◌else◌}
use Rattle.am_lexer.specs.declared.what.What.{What}
use Rattle.am_lexer.specs.Fields.{◌>>=◌, or_else}

-- P of the value, where there is one
pub record Meets {A : Type 0} (P : A → Type 0) (read : Result A What) : Type 0 where
  pub holds : (x : A) → read ≡ Ok x → P x

pub refuses : {A : Type 0} (P : A → Type 0) (what : What) → Meets P (Err what)
refuses P what = record { holds = λ x e. absurd (cc) }

pub gives : {A : Type 0} (P : A → Type 0) (x : A) → P x → Meets P (Ok x)
gives P x h = record { holds = λ y e. let same : x ≡ y = cc in subst P same h }

pub bind : {A B : Type 0} {P : A → Type 0} {Q : B → Type 0} (read : Result A What) (f : A → Result B What) → Meets P read → ((x : A) → P x → Meets Q (f x)) →
    Meets Q (read >>= f)
bind (Ok x) f h k = k x (h.holds x refl)
bind {Q} (Err what) f h k = refuses Q what

pub test : {A : Type 0} {P : A → Type 0} (b : Bool) (first second : Result A What) → (b ≡ true → Meets P first) → (b ≡ false → Meets P second) →
    Meets P (if b then first else second)
test true first second h k = h refl
test false first second h k = k refl

pub anything : {A : Type 0} (read : Result A What) → Meets (λ (x : A). Unit {0}) read
anything read = record { holds = λ x e. tt }

pub found : {A : Type 0} (what : What) (o : Option A) → Meets (λ (x : A). o ≡ Some x) (or_else what o)
found what (Some x) = gives (λ y. Some x ≡ Some y) x refl
found what None = refuses (λ y. None ≡ Some y) what

pub weaker : {A : Type 0} (P Q : A → Type 0) (read : Result A What) → Meets P read → ((x : A) → P x → Q x) → Meets Q read
weaker P Q read h k = record { holds = λ x e. k x (h.holds x e) }
