-- What is so of each call of a script is so of each call that a thread of the run makes.
use Rattle.std.proofs.Common.{◌≡◌, ℕ, Bool, true, false, Option, Some, None, List, [], ◌∷◌, ◌++◌, refl, ap, ◌∙◌, filter_map, if◌then◌else◌, arith}
use Rattle.std.specs.Prelude.{sum_by}
use Rattle.std.specs.List.{list_all}
use Rattle.std.proofs.lemmas.Bool.{and_parts}
use Rattle.std.proofs.lemmas.List.Sums.{sum_by-cons}
use Rattle.am_office_entries.specs.declared.Entry.{Entry}
use Rattle.am_model.specs.History.{EachAfter, IsHistory, MayFollow}
use Rattle.am_model.specs.PostOffice.{IsAcceptedAsAsked, IsPutAndRunFirst, PostOffice, SendsOne}
use Rattle.am_scenario_types.specs.declared.parts.ScriptCall.{ScriptCall}
use Rattle.am_scenario_types.specs.Lawful.{IsLawful}
use Rattle.am_scenario_types.specs.Lists.{ScenarioLists}
use Rattle.am_model_scripts.specs.Layout.{layout_of}
use Rattle.am_model_scripts.specs.Scripts.{KeepsScripts, call_made}
use Rattle.am_model_scripts.specs.Follows.{KeepsToEvents, is_of_run}
use Rattle.am_library_views.proofs.Called.{calls_are_script, made}
use Rattle.am_library_views.proofs.Weights.{of, only, sum_one}

-- whether the call passes, if there is one
abbrev pub call_passes : (ScriptCall → Bool) → Option ScriptCall → Bool
call_passes p None = true
call_passes p (Some c) = p c

abbrev fails : (ScriptCall → Bool) → ScriptCall → ℕ
fails p c = only (if p c then false else true) 1

none_fails : (p : ScriptCall → Bool) (calls : List ScriptCall) → list_all p calls ≡ true → sum_by (fails p) calls ≡ 0
none_fails p [] all = refl
none_fails p (c ∷ calls) all =
    let parts = and_parts (p c) (list_all p calls) all in
    let here : fails p c ≡ 0 = ap (λ (b : Bool). only (if b then false else true) 1) parts.0 in
    omega (arith, sum_by-cons (fails p) c calls, here, none_fails p calls parts.1)

passes_then : (b : Bool) → only (if b then false else true) 1 ≡ 0 → b ≡ true
passes_then true none = refl
passes_then false none = absurd (omega (arith, none))

passes_now : (p : ScriptCall → Bool) (o : Option ScriptCall) → of (fails p) o ≡ 0 → call_passes p o ≡ true
passes_now p None none = refl
passes_now p (Some c) none = passes_then (p c) none

-- an entry of a run that obeys the post office, whose call, if a thread makes one, passes
pub record Goes (p : ScriptCall → Bool) (s : ScenarioLists) (past : List Entry) (x : Entry) : Type 0 where
  pub may : MayFollow (layout_of s) past x
  pub asked : IsAcceptedAsAsked (layout_of s) past x
  pub first : IsPutAndRunFirst (layout_of s) past x
  pub sends : SendsOne x.event x.outcome
  pub run : is_of_run s x.event ≡ true
  pub passes : call_passes p (call_made x.event) ≡ true

each_goes : (p : ScriptCall → Bool) (s : ScenarioLists) (past journal : List Entry) → EachAfter (MayFollow (layout_of s)) past journal →
    EachAfter (IsAcceptedAsAsked (layout_of s)) past journal → EachAfter (IsPutAndRunFirst (layout_of s)) past journal →
    EachAfter (λ past x. SendsOne x.event x.outcome) past journal → list_all (λ (x : Entry). is_of_run s x.event) journal ≡ true →
    sum_by (fails p) (filter_map made journal) ≡ 0 → EachAfter (Goes p s) past journal
each_goes p s past [] may asked first sends run none = tt
each_goes p s past (x ∷ journal) may asked first sends run none =
    let parts = and_parts (is_of_run s x.event) (list_all (λ (y : Entry). is_of_run s y.event) journal) run in
    let here : of (fails p) (made x) ≡ 0 = omega (arith, sum_one made (fails p) x journal, none) in
    let rest : sum_by (fails p) (filter_map made journal) ≡ 0 = omega (arith, sum_one made (fails p) x journal, none) in (
      record { may = may.0; asked = asked.0; first = first.0; sends = sends.0; run = parts.0; passes = passes_now p (made x) here },
      each_goes p s (past ++ x ∷ []) journal may.1 asked.1 first.1 sends.1 parts.1 rest,
    )

pub all_go : (p : ScriptCall → Bool) (s : ScenarioLists) (journal : List Entry) → IsLawful s → IsHistory (layout_of s) journal →
    PostOffice (layout_of s) journal → KeepsScripts s journal → KeepsToEvents s journal → list_all p s.script ≡ true → EachAfter (Goes p s) [] journal
all_go p s journal lawful history laws scripts events all =
    each_goes p s [] journal history laws.acceptance.as_asked laws.delivery.places laws.replies.sends events
    (calls_are_script (fails p) s journal lawful scripts events ∙ none_fails p s.script all)
