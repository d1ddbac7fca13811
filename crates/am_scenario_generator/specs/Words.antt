-- The random words, taken one after another.
use Rattle.std.specs.Prelude.{ℕ, zero, suc}
use Rattle.rand_pcg.specs.Lcg.{Lcg, started, increment_of}
use Rattle.rand_pcg.specs.Pcg.{multiplier_64, pcg32}

-- the generator of a scenario's number, before its first word
abbrev pub seeded : ℕ → Lcg
seeded n = started 64 multiplier_64 n (increment_of 64 54)

-- the next word
abbrev pub word : Lcg → ℕ
word g = (pcg32 g).0

-- the generator after so many words
unfoldable pub steps : Lcg → ℕ → Lcg
steps g zero = g
steps g (suc n) = (pcg32 (steps g n)).1

-- the generator after the calls of so many threads, with 200 words each
unfoldable pub after_threads : Lcg → ℕ → Lcg
after_threads g zero = g
after_threads g (suc t) = steps (after_threads g t) 200
