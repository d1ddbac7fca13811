-- A word's counts, with the word as a list.
use Rattle.std.specs.Prelude.{ℕ, List}

pub record WordCountLists : Type 0 where
  pub word : List ℕ
  pub ran : ℕ
  pub left : ℕ
