-- One call more on the one thread whose it is.
use Rattle.std.specs.Prelude.{AllPairs, ◌==◌, Err, Ok, OnOk, Result, filter, slice_get, slice_index_or, slice_set}
use Rattle.std.proofs.Common.{◌≡◌, ℕ, zero, suc, ◌+◌, ◌<◌, ◌≤◌, Bool, true, false, cond, List, [], ◌∷◌, ◌++◌, map, length, take, Some, None, refl}
use Rattle.std.proofs.Common.{sym, ap, ◌∙◌, subst, arith, eqb-true, ⊎_elim}
use Rattle.std.proofs.lemmas.Bool.{cases_lt, eqb-false}
use Rattle.std.proofs.lemmas.List.{length-map, take_more}
use Rattle.std.proofs.lemmas.Option.{slice_get_within, slice_get-get_or}
use Rattle.am_lemmas.proofs.Lists.{Some-slice_get_map}
use Rattle.am_office_entries.specs.declared.Entry.{Entry}
use Rattle.am_scenario_types.specs.declared.parts.ScriptCall.{ScriptCall}
use Rattle.am_scenario_types.specs.declared.parts.ThreadLine.{ThreadLine}
use Rattle.am_scenario_types.specs.Lawful as lawful
use Rattle.am_scenario_types.specs.Lists.{ScenarioLists}
use Rattle.am_model_scripts.specs.Scripts.{is_of_thread}
use Rattle.am_cluster_calls.specs.Threads.{AreDistinct, HasThread, Scripted, begun_by, no_thread, scripted_in, scripted_of, with_call, with_call_at}
use Rattle.am_cluster_calls.specs.Threads.{with_line, with_line_at}
use Rattle.am_cluster_calls.specs.declared.threads.ThreadScript.{ThreadScript}

-- ---- lists

all_same : {X : Type 0} (f : X → X) (xs : List X) → ((j : ℕ) (x : X) → slice_get xs j ≡ Some x → f x ≡ x) → xs ≡ map f xs
all_same f [] h = refl
all_same f (x ∷ xs) h = ap (λ y. y ∷ xs) (sym (h zero x refl)) ∙ ap (λ l. f x ∷ l) (all_same f xs (λ j y at. h (suc j) y at))

one_set : {X : Type 0} (f : X → X) (xs : List X) (k : ℕ) (d : X) → k < length xs → ((j : ℕ) (x : X) → slice_get xs j ≡ Some x → (j ≡ k → ⊥) → f x ≡ x) →
    slice_set xs k (f (slice_index_or xs k d)) ≡ map f xs
one_set f [] k d lt h = absurd (omega (arith, lt))
one_set f (x ∷ xs) zero d lt h = ap (λ l. f x ∷ l) (all_same f xs (λ j y at. h (suc j) y at (λ e. absurd (omega (arith, e)))))
one_set f (x ∷ xs) (suc k) d lt h =
    ap (λ y. y ∷ slice_set xs k (f (slice_index_or xs k d))) (sym (h zero x refl (λ e. absurd (omega (arith, e)))))
    ∙ ap (λ l. f x ∷ l) (one_set f xs k d (omega (arith, lt)) (λ j y at no. h (suc j) y at (λ e. no (omega (arith, e)))))

-- ---- threads

not_its : (c : ScriptCall) (t : Scripted) → (t.id ≡ c.thread → ⊥) → with_call c t ≡ t
not_its c t apart = by_test (is_of_thread t.id c) refl
  where
    by_test : (b : Bool) → is_of_thread t.id c ≡ b → record { id = t.id; calls = t.calls; made = cond b (t.made + 1) t.made } ≡ t
    by_test true is = absurd (apart (eqb-true t.id c.thread is))
    by_test false is = refl

set_here : (f : ScriptCall → Scripted → Scripted) (ts : List ThreadScript) (c : ScriptCall) (place : ℕ) → ((t : Scripted) → (t.id ≡ c.thread → ⊥) → f c t ≡ t) →
    AreDistinct (map scripted_in ts) → HasThread ts c.thread (Some place) →
    slice_set (map scripted_in ts) place (f c (slice_index_or (map scripted_in ts) place no_thread)) ≡ map (f c) (map scripted_in ts)
set_here f ts c place others distinct here =
    one_set (f c) (map scripted_in ts) place no_thread
    (let within = slice_get_within ts place here.0 here.1 in let len = length-map ts scripted_in in omega (arith, within, len))
    (λ j u at no. others u (λ e. no (distinct j place u (scripted_in here.0) at (there ts place here.0 here.1) (e ∙ sym here.2))))
  where
    there : (xs : List ThreadScript) (k : ℕ) (t : ThreadScript) → slice_get xs k ≡ Some t → slice_get (map scripted_in xs) k ≡ Some (scripted_in t)
    there [] k t at = absurd (cc)
    there (x ∷ xs) zero t at = (let same : x ≡ t = cc in ap (λ (y : ThreadScript). Some (scripted_in y)) same)
    there (x ∷ xs) (suc k) t at = there xs k t at

pub counted_here : (ts : List ThreadScript) (c : ScriptCall) (place : ℕ) → AreDistinct (map scripted_in ts) → HasThread ts c.thread (Some place) →
    with_call_at place c (map scripted_in ts) ≡ map (with_call c) (map scripted_in ts)
counted_here ts c place distinct here = set_here with_call ts c place (not_its c) distinct here

pub counted_nowhere : (ts : List ThreadScript) (c : ScriptCall) → HasThread ts c.thread None → map scripted_in ts ≡ map (with_call c) (map scripted_in ts)
counted_nowhere ts c none =
    all_same (with_call c) (map scripted_in ts) (λ j u at. not_its c u (λ e. (let was = Some-slice_get_map scripted_in ts j u at in
    none j was.0 was.1 (ap (λ (t : Scripted). t.id) was.2 ∙ e))))

-- ---- scripts

-- what follows where a call is answered Ok
pub then_ok : {A E : Type 0} (r : Result A E) (P Q : Type 0) → (P → Q) → OnOk r P → OnOk r Q
then_ok (Ok a) P Q more h = more h
then_ok (Err e) P Q more h = h

not_in : (c : ScriptCall) (t : Scripted) → (t.id ≡ c.thread → ⊥) → with_line c t ≡ t
not_in c t apart = by_test (is_of_thread t.id c) refl
  where
    by_test : (b : Bool) → is_of_thread t.id c ≡ b → record { id = t.id; calls = cond b (t.calls ++ c ∷ []) t.calls; made = t.made } ≡ t
    by_test true is = absurd (apart (eqb-true t.id c.thread is))
    by_test false is = refl

pub added_here : (ts : List ThreadScript) (c : ScriptCall) (place : ℕ) → AreDistinct (map scripted_in ts) → HasThread ts c.thread (Some place) →
    with_line_at place c (map scripted_in ts) ≡ map (with_line c) (map scripted_in ts)
added_here ts c place distinct here = set_here with_line ts c place (not_in c) distinct here

pub added_nowhere : (ts : List ThreadScript) (c : ScriptCall) → HasThread ts c.thread None → map scripted_in ts ≡ map (with_line c) (map scripted_in ts)
added_nowhere ts c none =
    all_same (with_line c) (map scripted_in ts) (λ j u at. not_in c u (λ e. (let was = Some-slice_get_map scripted_in ts j u at in
    none j was.0 was.1 (ap (λ (t : Scripted). t.id) was.2 ∙ e))))

line_more : (script : List ScriptCall) (c : ScriptCall) (t : ThreadLine) → with_line c (begun_by script t) ≡ begun_by (script ++ c ∷ []) t
line_more script c t = by_test (is_of_thread t.id c) refl
  where
    by_test : (b : Bool) → is_of_thread t.id c ≡ b → record {
      id = t.id;
      calls = cond b (filter (is_of_thread t.id) script ++ c ∷ []) (filter (is_of_thread t.id) script);
      made = 0;
    } ≡ begun_by (script ++ c ∷ []) t
    by_test b is = ap (λ (calls : List ScriptCall). record { id = t.id; calls = calls; made = 0 }) (of_script script b is)
      where
        of_script : (xs : List ScriptCall) (b : Bool) → is_of_thread t.id c ≡ b →
            cond b (filter (is_of_thread t.id) xs ++ c ∷ []) (filter (is_of_thread t.id) xs) ≡ filter (is_of_thread t.id) (xs ++ c ∷ [])
        of_script [] true e = sym (ap (λ (b : Bool). cond b (c ∷ []) []) e)
        of_script [] false e = sym (ap (λ (b : Bool). cond b (c ∷ []) []) e)
        of_script (x ∷ xs) b e = by_first (is_of_thread t.id x) b e (of_script xs b e)
          where
            by_first : (d b : Bool) → is_of_thread t.id c ≡ b →
                cond b (filter (is_of_thread t.id) xs ++ c ∷ []) (filter (is_of_thread t.id) xs) ≡ filter (is_of_thread t.id) (xs ++ c ∷ []) →
                cond b (cond d (x ∷ filter (is_of_thread t.id) xs) (filter (is_of_thread t.id) xs) ++ c ∷ [])
                (cond d (x ∷ filter (is_of_thread t.id) xs) (filter (is_of_thread t.id) xs)) ≡ cond d (x ∷ filter (is_of_thread t.id) (xs ++ c ∷ []))
                (filter (is_of_thread t.id) (xs ++ c ∷ []))
            by_first true true e more = ap (λ (l : List ScriptCall). x ∷ l) more
            by_first true false e more = ap (λ (l : List ScriptCall). x ∷ l) more
            by_first false true e more = more
            by_first false false e more = more

lines_more : (script : List ScriptCall) (c : ScriptCall) (lines : List ThreadLine) →
    map (with_line c) (map (begun_by script) lines) ≡ map (begun_by (script ++ c ∷ [])) lines
lines_more script c [] = refl
lines_more script c (t ∷ lines) = λ i. line_more script c t i ∷ lines_more script c lines i

line_step : (script : List ScriptCall) (lines : List ThreadLine) (k : ℕ) (d : ScriptCall) (old new : List Scripted) → k < length script →
    old ≡ map (begun_by (take k script)) lines → new ≡ map (with_line (slice_index_or script k d)) old → new ≡ map (begun_by (take (k + 1) script)) lines
line_step script lines k d old new lt was is =
    is ∙ ap (map (with_line (slice_index_or script k d))) was ∙ lines_more (take k script) (slice_index_or script k d) lines
    ∙ ap (λ (l : List ScriptCall). map (begun_by l) lines) (sym (take_more script k d lt))

-- one call more of the script that a slice of it gives
pub script_step : (script items : List ScriptCall) (lines : List ThreadLine) (k : ℕ) (d : ScriptCall) (old new : List Scripted) → items ≡ script →
    k < length items → old ≡ map (begun_by (take k script)) lines → new ≡ map (with_line (slice_index_or items k d)) old →
    new ≡ map (begun_by (take (k + 1) script)) lines
script_step script items lines k d old new same lt was is =
    subst (λ (l : List ScriptCall). new ≡ map (begun_by (take (k + 1) l)) lines) same
    (line_step items lines k d old new lt (subst (λ (l : List ScriptCall). old ≡ map (begun_by (take k l)) lines) (sym same) was) is)

-- one thread more that has another number
pub seen_more : (ts : List ThreadScript) (id n : ℕ) (one : ThreadScript) → slice_get ts n ≡ Some one → (one.id == id) ≡ false →
    ((k : ℕ) (t : ThreadScript) → k < n → slice_get ts k ≡ Some t → t.id ≡ id → ⊥) → (k : ℕ) (t : ThreadScript) → k < n + 1 → slice_get ts k ≡ Some t →
    t.id ≡ id → ⊥
seen_more ts id n one here other before k t lt at same =
    ⊎_elim (λ (less : k < n). before k t less at same)
    (λ (le : n ≤ k). (let is : k ≡ n = omega (arith, lt, le) in let both : Some t ≡ Some one = sym at ∙ ap (slice_get ts) is
    ∙ here in let it : t ≡ one = cc in
    eqb-false one.id id other (sym (ap (λ (x : ThreadScript). x.id) it) ∙ same)))
    (cases_lt k n)

pub within : (ts : List ThreadScript) (id place : ℕ) → HasThread ts id (Some place) → place < length ts
within ts id place here = slice_get_within ts place here.0 here.1

-- ---- the threads of a lawful scenario

rises : (lines : List ThreadLine) → AllPairs (λ (a b : ThreadLine). a.id < b.id) lines → (i j : ℕ) (a b : ThreadLine) → slice_get lines i ≡ Some a →
    slice_get lines j ≡ Some b → i < j → a.id < b.id
rises lines rise i j a b at to lt =
    let low = slice_get_within lines i a at in
    let high = slice_get_within lines j b to in
    let first : Some (slice_index_or lines i a) ≡ Some a = sym (slice_get-get_or lines i a low) ∙ at in
    let second : Some (slice_index_or lines j a) ≡ Some b = sym (slice_get-get_or lines j a high) ∙ to in
    let less = rise i j a lt high in
    let third : slice_index_or lines i a ≡ a = cc in
    let fourth : slice_index_or lines j a ≡ b = cc in
    let one = ap (λ (x : ThreadLine). x.id) third in
    let two = ap (λ (x : ThreadLine). x.id) fourth in
    omega (arith, less, one, two)

lines_distinct : (s : ScenarioLists) (f : ThreadLine → Scripted) (ts : List Scripted) → ((t : ThreadLine) → (f t).id ≡ t.id) → lawful.IsLawful s →
    ts ≡ map f s.threads → AreDistinct ts
lines_distinct s f ts named ok is j k t u at to same =
    let a = Some-slice_get_map f s.threads j t (ap (λ (l : List Scripted). slice_get l j) (sym is) ∙ at) in
    let b = Some-slice_get_map f s.threads k u (ap (λ (l : List Scripted). slice_get l k) (sym is) ∙ to) in
    let one = sym (named a.0) ∙ ap (λ (x : Scripted). x.id) a.2 in
    let two = sym (named b.0) ∙ ap (λ (x : Scripted). x.id) b.2 in
    ⊎_elim (λ (lt : j < k). absurd (let less = rises s.threads ok.threads_rise j k a.0 b.0 a.1 b.1 lt in omega (arith, less, one, two, same)))
    (λ (le : k ≤ j). ⊎_elim (λ (lt : k < j). absurd (let less = rises s.threads ok.threads_rise k j b.0 a.0 b.1 a.1 lt in omega (arith, less, one, two, same)))
    (λ (more : j ≤ k). omega (arith, le, more)) (cases_lt k j))
    (cases_lt j k)

pub threads_distinct : (s : ScenarioLists) (past : List Entry) (ts : List Scripted) → lawful.IsLawful s → ts ≡ map (scripted_of s past) s.threads →
    AreDistinct ts
threads_distinct s past ts ok is = lines_distinct s (scripted_of s past) ts (λ t. refl) ok is

pub begun_distinct : (s : ScenarioLists) (script : List ScriptCall) (ts : List Scripted) → lawful.IsLawful s → ts ≡ map (begun_by script) s.threads →
    AreDistinct ts
begun_distinct s script ts ok is = lines_distinct s (begun_by script) ts (λ t. refl) ok is
