-- The runs of the seeds so far, and one more.
use Rattle.std.proofs.Common.{◌≡◌, ℕ, zero, suc, ◌+◌, ◌-◌, ◌<◌, List, [], ◌∷◌, ◌++◌, map, refl, ap, subst, sym, ◌∙◌, arith, Option, Result, Ok, Err, IfOk}
use Rattle.std.proofs.lemmas.List.{map-append}
use Rattle.std.proofs.lemmas.List.Elements.{All-append, All-cons, All-nil}
use Rattle.std.specs.List.{range_with_len}
use Rattle.std.specs.Prelude.{All}
use Rattle.am_lab_schedules.specs.Outcomes.Outcomes.{first_fates, outcomes}
use Rattle.am_lab_schedules.specs.Outcomes.Telling.{HasToldRuns}
use Rattle.am_lab_schedules.specs.declared.outcomes.runs.SeedRun.{SeedRun}
use Rattle.am_lab_schedules.specs.declared.outcomes.telling.Telling.{Telling}
use Rattle.am_lab_schedules.specs.Schedules.{IsMade, TellsRuns, seeds_of}
use Rattle.am_lab_schedules.specs.Told.{AreTold}
use Rattle.am_main_lines.specs.Lines.{answer_in}
use Rattle.am_main_lines.specs.declared.outputs.Output.{Output}
use Rattle.am_office_report.specs.Report.{told}
use Rattle.am_office_report.specs.declared.messages.MessageFate.{MessageFate}
use Rattle.am_scenario_types.specs.Lists.{ScenarioLists}

range_more : (a n : ℕ) → range_with_len a (suc n) ≡ range_with_len a n ++ (a + n) ∷ []
range_more a zero =
    let same : a ≡ a + 0 = omega arith in
    ap (λ (k : ℕ). k ∷ []) same
range_more a (suc n) =
    let shifted : a + 1 + n ≡ a + suc n = omega arith in
    ap (λ (ks : List ℕ). a ∷ ks) (range_more (a + 1) n ∙ ap (λ (k : ℕ). range_with_len (a + 1) n ++ k ∷ []) shifted)

one : (faults : Option ℕ) (s : ScenarioLists) (run : SeedRun) → IsMade faults s run → All (IsMade faults s) (run ∷ [])
one faults s run made = All-cons (IsMade faults s) run [] made (All-nil (IsMade faults s))

first : (faults : Option ℕ) (s : ScenarioLists) (seed : ℕ) (run : SeedRun) (telling : Telling) → run.seed ≡ seed → IsMade faults s run →
    HasToldRuns telling (told run.journal) (run ∷ []) → AreTold faults s seed (seed + 1) telling
first faults s seed run telling is made tells = record {
  runs = run ∷ [];
  are = record {
    seeds =
        let single : seed + 1 - seed ≡ 1 = omega arith in
        ap (λ (k : ℕ). k ∷ []) is ∙ ap (λ (n : ℕ). range_with_len seed n) (sym single);
    made = one faults s run made;
  };
  tells = tells;
}

-- the first run is told
pub first_told : {E : Type 0} (faults : Option ℕ) (s : ScenarioLists) (seed : ℕ) (run : SeedRun) (result : Result Telling E) → run.seed ≡ seed → IsMade faults s run →
    IfOk result (λ (telling : Telling). HasToldRuns telling (told run.journal) (run ∷ [])) → IfOk result (AreTold faults s seed (seed + 1))
first_told faults s seed run (Ok telling) is made tells = first faults s seed run telling is made tells
first_told faults s seed run (Err e) is made tells = tt

seeds_next : (from seed : ℕ) (runs : List SeedRun) (run : SeedRun) → from < seed → run.seed ≡ seed → seeds_of runs ≡ range_with_len from (seed - from) →
    seeds_of (runs ++ run ∷ []) ≡ range_with_len from (seed + 1 - from)
seeds_next from seed runs run below is seeds =
    let last : from + (seed - from) ≡ seed = omega arith in
    let more : suc (seed - from) ≡ seed + 1 - from = omega arith in
    map-append (λ (r : SeedRun). r.seed) runs (run ∷ [])
    ∙ ap (λ (ks : List ℕ). ks ++ run.seed ∷ []) seeds
    ∙ ap (λ (k : ℕ). range_with_len from (seed - from) ++ k ∷ []) (is ∙ sym last)
    ∙ sym (range_more from (seed - from))
    ∙ ap (λ (n : ℕ). range_with_len from n) more

same_first : (from n : ℕ) (runs : List SeedRun) (run : SeedRun) → seeds_of runs ≡ range_with_len from (suc n) →
    first_fates runs ≡ first_fates (runs ++ run ∷ [])
same_first from n [] run seeds = absurd (cc)
same_first from n (first ∷ runs) run seeds = refl

next : (faults : Option ℕ) (s : ScenarioLists) (from seed : ℕ) (run : SeedRun) (old new : Telling) → from < seed → run.seed ≡ seed → IsMade faults s run →
    (before : AreTold faults s from seed old) → HasToldRuns new (first_fates before.runs) (before.runs ++ run ∷ []) → AreTold faults s from (seed + 1) new
next faults s from seed run old new below is made before tells =
    let some : seed - from ≡ suc (seed - from - 1) = omega arith in
    let same = same_first from (seed - from - 1) before.runs run (before.are.seeds ∙ ap (λ (n : ℕ). range_with_len from n) some) in
    record {
      runs = before.runs ++ run ∷ [];
      are = record {
        seeds = seeds_next from seed before.runs run below is before.are.seeds;
        made = All-append (IsMade faults s) before.runs (run ∷ []) before.are.made (one faults s run made);
      };
      tells = subst (λ (ms : List MessageFate). HasToldRuns new ms (before.runs ++ run ∷ [])) same tells;
    }

-- one run more is told
pub next_told : {E : Type 0} (faults : Option ℕ) (s : ScenarioLists) (from seed : ℕ) (run : SeedRun) (old : Telling) (result : Result Telling E) → from < seed →
    run.seed ≡ seed → IsMade faults s run → (before : AreTold faults s from seed old) →
    IfOk result (λ (new : Telling). HasToldRuns new (first_fates before.runs) (before.runs ++ run ∷ [])) → IfOk result (AreTold faults s from (seed + 1))
next_told faults s from seed run old (Ok new) below is made before tells = next faults s from seed run old new below is made before tells
next_told faults s from seed run old (Err e) below is made before tells = tt

-- all runs are told
pub all_told : {E : Type 0} (faults : Option ℕ) (s : ScenarioLists) (from to : ℕ) (telling : Telling) (are : AreTold faults s from to telling) (result : Result Output E) →
    IfOk result (λ (output : Output). answer_in output ≡ outcomes are.runs) → IfOk result (λ (output : Output). TellsRuns faults s from to (answer_in output))
all_told faults s from to telling are (Ok output) answer = record { runs = are.runs; are = are.are; answer' = answer }
all_told faults s from to telling are (Err e) answer = tt
