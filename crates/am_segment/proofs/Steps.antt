-- One line more.
use Rattle.std.proofs.Common.{◌≡◌, ℕ, List, [], ◌∷◌, Result, Ok, Err, refl, sym, ◌∙◌}
use Rattle.am_lexer.specs.Lines.{line_after}
use Rattle.am_scenario_types.specs.declared.faults.ScenarioFault.{ScenarioFault}
use Rattle.am_scenario.specs.declared.drafts.line.LineFault.{LineFault}
use Rattle.am_scenario.specs.declared.drafts.line.LineFault.TheVariants as faults
use Rattle.am_scenario.specs.Drafts.Faults.{at_line}
use Rattle.am_segment.specs.Lists.{ExpandedLists}
use Rattle.am_segment.specs.Laid.{Laid}
use Rattle.am_segment.specs.Expansion.{after_line, expand_from, expanded_of, Changes, Answers}

-- a line that was taken
pub line_taken : (number : ℕ) (said next : Laid) (line : List ℕ) (lines : List (List ℕ)) (all : Result ExpandedLists ScenarioFault)
    → after_line number said line ≡ Ok next → expand_from number said (line ∷ lines) ≡ all → expand_from (line_after number) next lines ≡ all
unfolding expand_from
line_taken number said next line lines all e so_far = rw e at so_far

-- a line that was not
pub line_refused : (number : ℕ) (said next : Laid) (line : List ℕ) (lines : List (List ℕ)) (all : Result ExpandedLists ScenarioFault) (fault : LineFault)
    → Changes (Err fault) next (after_line number said line) → expand_from number said (line ∷ lines) ≡ all →
    Answers {A = ExpandedLists} (Err (at_line number fault)) all
unfolding expand_from
line_refused number said next line lines all (faults.What what) e so_far = sym so_far ∙ rw e refl
line_refused number said next line lines all faults.NoMemory e so_far = tt

-- no line is left
pub all_said : (number : ℕ) (said : Laid) (all : Result ExpandedLists ScenarioFault) → expand_from number said [] ≡ all → all ≡ Ok (expanded_of said)
unfolding expand_from
all_said number said all so_far = sym so_far
