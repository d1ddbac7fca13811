-- Where no call is left, the scripts are done.
use Rattle.std.proofs.Common.{◌≡◌, List, [], ◌∷◌, length, take, None, ◌∙◌}
use Rattle.std.specs.List.{AllByRecursion}
use Rattle.am_office_entries.specs.declared.Entry.{Entry}
use Rattle.am_scenario_types.specs.declared.parts.ThreadLine.{ThreadLine}
use Rattle.am_scenario_types.specs.Lists.{ScenarioLists}
use Rattle.am_model_scripts.specs.Scripts.{calls_of, script_of, call_left, ScriptsAreDone}
use Rattle.am_model_scripts.proofs.Lists.{take_all}

done : (scenario : ScenarioLists) (journal : List Entry) (threads : List ThreadLine) →
    AllByRecursion (λ (t : ThreadLine). calls_of t.id journal ≡ take (length (calls_of t.id journal)) (script_of scenario t.id)) threads →
    AllByRecursion (λ (t : ThreadLine). call_left scenario journal t.id ≡ None) threads →
    AllByRecursion (λ (t : ThreadLine). calls_of t.id journal ≡ script_of scenario t.id) threads
done scenario journal [] begun none = tt
done scenario journal (t ∷ ts) begun none = (
  begun.0 ∙ take_all (length (calls_of t.id journal)) (script_of scenario t.id) none.0,
  done scenario journal ts begun.1 none.1,
)

pub scripts_are_done : ScriptsAreDone
scripts_are_done scenario journal begun none = done scenario journal scenario.threads begun none
