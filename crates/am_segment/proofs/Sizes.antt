-- The size of a segment.
use Rattle.std.proofs.Common.{ℕ, ◌≤◌, List, Result, Ok, Err}
use Rattle.std.specs.Prelude.{IfOk}
use Rattle.am_lexer.specs.declared.what.What.{What}
use Rattle.am_lexer.specs.Fields.{Gives, within}
use Rattle.am_scenario.proofs.Words.{is_within}

pub size_small : {R : Type 0} (view : R → ℕ × List (List ℕ)) (read : Result R What) (words : List (List ℕ)) → Gives view read (within 1 65_536 words) →
    IfOk read (λ (found : R). (view found).0 ≤ 65_536)
size_small view (Ok found) words e = ((is_within 1 65_536 words).holds (view found) e).1
size_small view (Err what) words e = tt
