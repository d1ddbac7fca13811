-- Lines that begin with #.
use Rattle.std.proofs.Common.{◌≡◌, ℕ, true, false, eqb, List, [], ◌∷◌, get_or, Ok, refl}
use Rattle.am_scenario_types.specs.declared.parts.Form.{Form}
use Rattle.am_scenario.specs.Drafts.Said.{Said}
use Rattle.am_scenario.specs.Order.{after_named, after_words}

-- what a line says that is a comment, one without words, and one that begins with another word
pub comment_says : (form : Form) (number : ℕ) (said : Said) (words : List (List ℕ)) (first : List ℕ) (rest : List (List ℕ)) → eqb (get_or first 0 0) 35 ≡ true →
    words ≡ first ∷ rest → after_words form number said words ≡ Ok said
unfolding after_words
comment_says form number said words first rest comment e = rw e (rw comment refl)

pub nothing_says : (form : Form) (number : ℕ) (said : Said) (words : List (List ℕ)) → words ≡ [] → after_words form number said words ≡ Ok said
unfolding after_words
nothing_says form number said words e = rw e refl

pub word_says : (form : Form) (number : ℕ) (said : Said) (words : List (List ℕ)) (first : List ℕ) (rest : List (List ℕ)) → eqb (get_or first 0 0) 35 ≡ false →
    words ≡ first ∷ rest → after_words form number said words ≡ after_named form number said first rest
unfolding after_words
word_says form number said words first rest other e = rw e (rw other refl)
