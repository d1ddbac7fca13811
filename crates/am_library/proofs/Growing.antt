-- What calls add to a script; and where the plan withholds nothing, no request is unknown.
use Rattle.std.proofs.Common.{◌≡◌, Bool, true, ◌&&◌, List, ◌++◌, ◌∙◌}
use Rattle.std.specs.List.{list_all}
use Rattle.std.proofs.lemmas.List.Elements.{filter_map-append}
use Rattle.std.proofs.lemmas.List.Folds.{list_all-append}
use Rattle.am_names.specs.declared.EndpointId.{EndpointId}
use Rattle.am_names.specs.declared.Serial.{Serial}
use Rattle.am_scenario_types.specs.declared.parts.ScriptCall.{ScriptCall}
use Rattle.am_library_views.specs.Ends.{words_in}
use Rattle.am_library_views.proofs.Endwise.{none_lost}
use Rattle.am_library.specs.Laws.{Adds, Echoes, LeadsTo, NothingIsUnknown, ScriptsGrow, leads, leaves_adding, leaves_echoing}

all_more : (p : ScriptCall → Bool) (calls more : List ScriptCall) → list_all p calls ≡ true → list_all p more ≡ true → list_all p (calls ++ more) ≡ true
all_more p calls more all here = list_all-append p calls more ∙ (λ i. all i && here i)

pub scripts_grow : ScriptsGrow
scripts_grow s calls = record {
  asked = filter_map-append (λ (made : ScriptCall). words_in made.call) s.script calls;
  adds = λ (e : EndpointId) (all : Adds s e) (here : list_all (leaves_adding e) calls ≡ true). all_more (leaves_adding e) s.script calls all here;
  echoes = λ (e : EndpointId) (all : Echoes s e) (here : list_all (leaves_echoing e) calls ≡ true). all_more (leaves_echoing e) s.script calls all here;
  leads' = λ (e : EndpointId) (all : LeadsTo s e) (here : list_all (leads e) calls ≡ true). all_more (leads e) s.script calls all here;
}

pub nothing_is_unknown : NothingIsUnknown
nothing_is_unknown s journal run nothing = none_lost journal (λ (serial : Serial). (run.obeys.complete nothing serial).0)
