-- A word that four words carried.
use Rattle.std.specs.Prelude.{ℕ, List, take}
use Rattle.am_job.specs.declared.words.spelled.Spelled.{Spelled}

abbrev pub spelled : Spelled → List ℕ
spelled word = take word.len word.bytes
