-- An endpoint is declared where a line of the scenario has its number.
use Rattle.std.specs.Prelude.{◌==◌, ◌||◌}
use Rattle.std.specs.List.{list_any}
use Rattle.std.proofs.Common.{◌≡◌, Bool, List, [], ◌∷◌, map, refl, ap}
use Rattle.am_names.specs.declared.EndpointId.{EndpointId}
use Rattle.am_model.specs.Layout.{declared, has_id}
use Rattle.am_scenario_types.specs.declared.parts.EndLine.{EndLine}
use Rattle.am_scenario_types.specs.Lists.{ScenarioLists}
use Rattle.am_model_scripts.specs.Layout.{layout_of, setting_of}
use Rattle.am_check.specs.Declares.{declares}

any_line : (e : EndpointId) (lines : List EndLine) → declares e lines ≡ list_any (has_id e) (map setting_of lines)
any_line e [] = refl
any_line e (line ∷ lines) = ap (λ (b : Bool). (e.0 == line.id.0) || b) (any_line e lines)

pub declared_is : (s : ScenarioLists) (e : EndpointId) → declares e s.ends ≡ declared (layout_of s) e
declared_is s e = any_line e s.ends
