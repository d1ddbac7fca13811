-- With a lawful line what was said stays sound.
use Rattle.std.specs.Prelude.{◌≡◌, ℕ, ◌≤◌, true}
use Rattle.am_scenario_types.specs.declared.parts.Form.{Form}
use Rattle.am_scenario.specs.declared.drafts.line.Line.{Line}
use Rattle.am_scenario.specs.Drafts.Said.{Said, with_line, nothing}
use Rattle.am_scenario.specs.LineLaws.LineLaws.{section_said, fits_form, IsLawfulLine}
use Rattle.am_scenario.specs.LineLaws.Sound.{IsSound}

abbrev pub StaysSound : Type 0
StaysSound = (form : Form) (said : Said) (number section : ℕ) (says : Line) → IsSound form said → said.section ≤ section → section_said says ≡ section → fits_form form says ≡ true
    → IsLawfulLine form said says → IsSound form (with_line number (record said { section = section }) says)

abbrev pub BeginsSound : Type 0
BeginsSound = (form : Form) → IsSound form nothing
