-- Seeds whose reports aren't looked for, and the one whose report is.
use Rattle.std.proofs.Common.{◌≡◌, ℕ, ◌+◌, ◌<◌, ◌≤◌, ◌⊎◌, ⊎_elim, inl, inr, true, false, List, Option, Some, None, arith, refl, sym, subst, ◌∙◌, IfNone, IfSome, Result, Ok, Err, IfOk}
use Rattle.std.proofs.lemmas.Bool.{cases_lt}
use Rattle.am_lab_scenarios.proofs.Spelled.{printed_run_is_read}
use Rattle.am_lab_schedules.specs.Finds.{FindsNone, FindsSeed, IsPassed, IsReadBefore, IsRunThat, NoneIsWanted, found_seed, no_such_seed, scenario_before}
use Rattle.am_lab_schedules.specs.Trials.{StandsFor, tried}
use Rattle.am_lab_schedules.specs.declared.finds.Wanted.{Wanted}
use Rattle.am_main_lines.specs.Lines.{Answer, answer_in}
use Rattle.am_main_lines.specs.declared.outputs.Output.{Output}
use Rattle.am_scenario_types.specs.Lawful.{IsLawful, IsOfForm}
use Rattle.am_scenario_types.specs.declared.parts.Form.TheVariants.{Run}
use Rattle.am_scenario_types.specs.Lists.{ScenarioLists}

-- all seeds of the range
pub none_at_all : (faults : Option ℕ) (s : ScenarioLists) (wanted : Wanted) (given : List ℕ) (from to next : ℕ) → to ≤ next → NoneIsWanted faults s wanted given from next →
    NoneIsWanted faults s wanted given from to
none_at_all faults s wanted given from to next end none seed low high = none seed low (omega (arith, end, high))

-- no seed yet
pub none_yet : (faults : Option ℕ) (s : ScenarioLists) (wanted : Wanted) (given : List ℕ) (from : ℕ) → NoneIsWanted faults s wanted given from from
none_yet faults s wanted given from seed low high = absurd (omega (arith, low, high))

-- one seed more, tried in the place of another scenario that it stands for
pub none_more : (faults : Option ℕ) (s other : ScenarioLists) (wanted : Wanted) (given : List ℕ) (from seed : ℕ) → StandsFor faults s other →
    NoneIsWanted faults s wanted given from seed → IsPassed faults other wanted given seed → NoneIsWanted faults s wanted given from (seed + 1)
none_more faults s other wanted given from seed stands none passed n low high =
    let here : IsPassed faults s wanted given seed =
    subst (λ (t : ScenarioLists). (of_run : Answer) × IsRunThat t seed wanted given false of_run) (sym (stands.alike seed)) passed in
    ⊎_elim (λ (below : n < seed). none n low below) (λ (last : seed ≤ n). let same : seed ≡ n = omega (arith, high, last) in subst (λ (k : ℕ). IsPassed faults s wanted given k) same here) (cases_lt n seed)

-- what is said where nothing is found, where it isn't
pub where_none : {A : Type 0} (P : Type 0) (found : Option A) → ((x : A) → found ≡ Some x → ⊥) → IfNone found P → P
where_none {A} P None none says = says
where_none {A} P (Some x) none says = absurd (none x refl)

-- what is said of what is found
pub where_some : {A : Type 0} (P : A → Type 0) (found : Option A) (x : A) → found ≡ Some x → IfSome found P → P x
where_some {A} P found x is says = subst (λ (o : Option A). IfSome o P) is says

-- the run that is looked for, of the scenario that another one stands for
pub found_alike : (faults : Option ℕ) (s other : ScenarioLists) (wanted : Wanted) (given : List ℕ) (seed : ℕ) (of_run : Answer) → StandsFor faults s other →
    IsRunThat (tried faults seed other) seed wanted given true of_run → IsRunThat (tried faults seed s) seed wanted given true of_run
found_alike faults s other wanted given seed of_run stands found =
    subst (λ (t : ScenarioLists). IsRunThat t seed wanted given true of_run) (sym (stands.alike seed)) found

-- what stands in front of a report is read there again
read_before : (faults : Option ℕ) (s : ScenarioLists) → IsLawful s → IsOfForm Run s → IsReadBefore faults s
read_before None s lawful of_form = tt
read_before (Some percent) s lawful of_form = printed_run_is_read s lawful of_form

-- the answer where a seed is found
pub is_found : {E : Type 0} (faults : Option ℕ) (s other : ScenarioLists) (wanted : Wanted) (given : List ℕ) (from to seed : ℕ) (of_run : Answer) (result : Result Output E) →
    from ≤ seed → seed < to → NoneIsWanted faults s wanted given from seed → IsRunThat (tried faults seed s) seed wanted given true of_run →
    other ≡ tried faults seed s → StandsFor faults s other →
    IfOk result (λ (output : Output). answer_in output ≡ found_seed seed (scenario_before faults other) of_run) →
    IfOk result (λ (output : Output). FindsSeed faults s wanted given from to (answer_in output) ⊎ FindsNone faults s wanted given from to (answer_in output))
is_found faults s other wanted given from to seed of_run (Ok output) low high before found is stands printed =
    inl (record {
      seed = seed;
      low = low;
      high = high;
      before = before;
      of_run = of_run;
      found = found;
      answer' = subst (λ (t : ScenarioLists). answer_in output ≡ found_seed seed (scenario_before faults t) of_run) is printed;
      read = subst (λ (t : ScenarioLists). IsReadBefore faults t) is (read_before faults other stands.lawful stands.of_form);
    })
is_found faults s other wanted given from to seed of_run (Err e) low high before found is stands printed = tt

-- the answer where none is
pub is_missed : {E : Type 0} (faults : Option ℕ) (s : ScenarioLists) (wanted : Wanted) (given : List ℕ) (from to : ℕ) (result : Result Output E) →
    NoneIsWanted faults s wanted given from to → IfOk result (λ (output : Output). answer_in output ≡ no_such_seed from to) →
    IfOk result (λ (output : Output). FindsSeed faults s wanted given from to (answer_in output) ⊎ FindsNone faults s wanted given from to (answer_in output))
is_missed faults s wanted given from to (Ok output) none printed = inr (record { none = none; answer' = printed })
is_missed faults s wanted given from to (Err e) none printed = tt
