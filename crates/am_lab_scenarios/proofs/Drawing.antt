-- One packet more.
use Rattle.std.proofs.Common.{◌≡◌, ℕ, ◌+◌, [], ◌∷◌, ◌++◌, refl, add-one}
use Rattle.std.specs.Prelude.{if◌then◌else◌}
use Rattle.rand_pcg.specs.Lcg.{Lcg}
use Rattle.am_scenario_generator.specs.Words.{steps, word}
use Rattle.am_lab_scenarios.specs.Faults.Plans.{drawn_lines, is_drawn, line_at}

pub lines_none : (g : Lcg) (percent nodes packets : ℕ) → drawn_lines g percent nodes packets 0 ≡ []
unfolding drawn_lines
lines_none g percent nodes packets = refl

pub lines_more : (g : Lcg) (percent nodes packets place : ℕ) →
    drawn_lines g percent nodes packets (place + 1)
    ≡ (if is_drawn percent (word (steps g place))
    then drawn_lines g percent nodes packets place ++ line_at nodes packets place (word (steps g place)) ∷ []
    else drawn_lines g percent nodes packets place)
unfolding drawn_lines
lines_more g percent nodes packets place = rw add-one refl
