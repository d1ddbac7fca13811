-- A declared endpoint, its number read first.
use Rattle.std.proofs.Common.{◌≡◌, ℕ, List, [], ◌∷◌, Option, Some, None, Result, Ok, refl}
use Rattle.am_lexer.specs.declared.what.What.{What}
use Rattle.am_lexer.specs.Text.{number_of}
use Rattle.am_lexer.specs.Fields.{◌>>=◌, word_at, number_at}
use Rattle.am_names.specs.declared.EndpointId.{EndpointId}
use Rattle.am_names.specs.declared.NodeId.{NodeId}
use Rattle.am_scenario.specs.Drafts.Said.{Said}
use Rattle.am_scenario.specs.Lines.Places.{declared_end, end_word, end_at}

-- the endpoint that a number was declared for, and the words behind it
abbrev end_behind : Said → Option NodeId → (ℕ × List (List ℕ)) → Result (EndpointId × List (List ℕ)) What
end_behind said wanted number = declared_end said wanted number.0 >>= λ end. Ok (end.id, number.1)

by_word : (said : Said) (wanted : Option NodeId) (word : List ℕ) (words : List (List ℕ)) (number : Option ℕ) → number_of word ≡ number
    → end_at said wanted (word ∷ words) ≡ (number_at (word ∷ words) >>= end_behind said wanted)
unfolding end_at end_word word_at number_at declared_end
by_word said wanted word words None e = rw e refl
by_word said wanted word words (Some id) e = rw e refl

pub by_number : (said : Said) (wanted : Option NodeId) (words : List (List ℕ)) → end_at said wanted words ≡ (number_at words >>= end_behind said wanted)
unfolding end_at word_at number_at
by_number said wanted [] = refl
by_number said wanted (word ∷ words) = by_word said wanted word words (number_of word) refl
