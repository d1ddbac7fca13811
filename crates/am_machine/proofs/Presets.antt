-- The swaps of a cluster, as they begin.
use Rattle.std.specs.Prelude.{OnOk, Result, Ok, Err, slice_get, slice_index_or, take}
use Rattle.std.specs.List.{filter, find}
use Rattle.std.proofs.Common.{◌≡◌, ⊎_elim, ℕ, zero, suc, ◌+◌, get_or, ◌<◌, ◌^◌, Bool, true, false, cond, List, [], ◌∷◌, ◌++◌, map, length, Option, Some, refl, sym, ap}
use Rattle.std.proofs.Common.{◌∙◌, subst, arith, true≢false, eqb-true, eq-eqb, if◌then◌else◌}
use Rattle.std.proofs.lemmas.Bool.{and_from}
use Rattle.std.proofs.lemmas.List.{length_push, take_more}
use Rattle.am_lemmas.proofs.Lists.{slice_get-push_cases}
use Rattle.am_names.specs.declared.EndpointId.{EndpointId}
use Rattle.am_names.specs.declared.NodeId.{NodeId}
use Rattle.am_names.specs.declared.NoMemory.{NoMemory}
use Rattle.am_names.specs.Names.{same_end, same_node}
use Rattle.am_office_entries.specs.declared.Place.TheVariants.{Disk}
use Rattle.am_model.specs.Endpoint.{Body, State, is_on_disk}
use Rattle.am_model.specs.History.{state_of}
use Rattle.am_model.specs.Layout.{AllAre, EndSetting, Fault, IsLawful, IsPoolLawful, IsSettingLawful, Layout, has_id, opening, opening_by, opening_place}
use Rattle.am_model.specs.Layout.{node_at}
use Rattle.am_model.proofs.Names.{same_end-refl}
use Rattle.am_model.proofs.Order.{order_fresh}
use Rattle.am_model.proofs.Alls.{all_at, all_by_place}
use Rattle.am_scenario_types.specs.declared.parts.EndLine.{EndLine}
use Rattle.am_scenario_types.specs.declared.parts.FaultLine.{FaultLine}
use Rattle.am_model_scripts.specs.Layout.{fault_of, setting_of}
use Rattle.am_swap_device.specs.Memory.{Store, held_for, with_held}
use Rattle.am_swap_device.proofs.Held.{holds_instead}
use Rattle.am_swap_image.specs.Image.{image}
use Rattle.am_swap_image.specs.Valid.{IsValid}
use Rattle.am_machine.specs.declared.settings.Settings.{Settings}
use Rattle.am_driver_moves.specs.Logs.{EndLog}
use Rattle.am_machine.specs.Ends.{setting_in}
use Rattle.am_machine.specs.Kept.{layout_in}
use Rattle.am_machine.specs.Presets.{AreOpened, AreOpenedUpTo, begins_on, fails_of, is_of_node, opened_swap, opening_body, preset_all, preset_if}
use Rattle.am_driver_moves.specs.Pages.{HoldsBody}
use Rattle.am_machine.specs.Swaps.{AreSwaps, IsSwap}
use Rattle.am_machine.proofs.Beginnings.{Rise, first_below, found_line, rise_rest}

-- ---- one line more

-- what is held, where there is memory for it
pub preset_told : (r : Result (Unit {0}) NoMemory) (new old : Store) (id : EndpointId) (bytes : List ℕ) (b : Body) → OnOk r (new ≡ with_held old id bytes) →
    bytes ≡ image b → OnOk r (new ≡ with_held old id (image b))
preset_told (Ok done) new old id bytes b told is = told ∙ ap (with_held old id) is
preset_told (Err fault) new old id bytes b told is = tt

presets_take : (node : NodeId) (lines : List EndLine) (k : ℕ) (d : EndLine) (s : Store) → k < length lines →
    preset_all node (take (suc k) lines) s ≡ preset_if (begins_on node (slice_index_or lines k d)) (slice_index_or lines k d) (preset_all node (take k lines) s)
presets_take node [] k d s lt = absurd (omega (arith, lt))
presets_take node (x ∷ xs) zero d s lt = refl
presets_take node (x ∷ xs) (suc k) d s lt = presets_take node xs k d (preset_if (begins_on node x) x s) (omega (arith, lt))

-- a swap with the images of some lines, and one more
pub presets_more : (node : NodeId) (lines : List EndLine) (k : ℕ) (d : EndLine) (s t u : Store) → k < length lines → t ≡ preset_all node (take k lines) s →
    u ≡ preset_if (begins_on node (slice_index_or lines k d)) (slice_index_or lines k d) t → u ≡ preset_all node (take (k + 1) lines) s
presets_more node lines k d s t u lt was is =
    let next : k + 1 ≡ suc k = omega arith in
    is
    ∙ ap (preset_if (begins_on node (slice_index_or lines k d)) (slice_index_or lines k d)) was
    ∙ sym (presets_take node lines k d s lt)
    ∙ ap (λ (n : ℕ). preset_all node (take n lines) s) (sym next)

fails_push : (node : NodeId) (xs : List FaultLine) (x : FaultLine) (t : Bool) → is_of_node node x ≡ t →
    fails_of node (xs ++ x ∷ []) ≡ (if t then fails_of node xs ++ x.number ∷ [] else fails_of node xs)
fails_push node [] x t is = ap (λ (b : Bool). map (λ (f : FaultLine). f.number) (cond b (x ∷ []) [])) is ∙ by_test t
  where
    by_test : (b : Bool) → map (λ (f : FaultLine). f.number) (cond b (x ∷ []) []) ≡ (if b then x.number ∷ [] else [])
    by_test true = refl
    by_test false = refl
fails_push node (y ∷ xs) x t is = by_test (is_of_node node y) t (fails_push node xs x t is)
  where
    by_test : (a b : Bool) → fails_of node (xs ++ x ∷ []) ≡ (if b then fails_of node xs ++ x.number ∷ [] else fails_of node xs) →
        map (λ (f : FaultLine). f.number) (cond a (y ∷ filter (is_of_node node) (xs ++ x ∷ [])) (filter (is_of_node node) (xs ++ x ∷ []))) ≡
        (if b then map (λ (f : FaultLine). f.number) (cond a (y ∷ filter (is_of_node node) xs) (filter (is_of_node node) xs)) ++ x.number ∷ [] else map
        (λ (f : FaultLine). f.number) (cond a (y ∷ filter (is_of_node node) xs) (filter (is_of_node node) xs)))
    by_test true true more = ap (λ (ns : List ℕ). y.number ∷ ns) more
    by_test true false more = ap (λ (ns : List ℕ). y.number ∷ ns) more
    by_test false true more = more
    by_test false false more = more

fails_in : (node : NodeId) (xs : List FaultLine) (x : FaultLine) → is_of_node node x ≡ true →
    fails_of node (xs ++ x ∷ []) ≡ fails_of node xs ++ x.number ∷ []
fails_in node xs x is = fails_push node xs x true is

fails_out : (node : NodeId) (xs : List FaultLine) (x : FaultLine) → is_of_node node x ≡ false → fails_of node (xs ++ x ∷ []) ≡ fails_of node xs
fails_out node xs x is = fails_push node xs x false is

-- one fault more was read
pub more_in : (node : NodeId) (faults : List FaultLine) (k : ℕ) (d : FaultLine) (xs ys : List ℕ) → k < length faults → xs ≡ fails_of node (take k faults) →
    is_of_node node (get_or faults k d) ≡ true → ys ≡ xs ++ (get_or faults k d).number ∷ [] → ys ≡ fails_of node (take (k + 1) faults)
more_in node faults k d xs ys lt before is pushed =
    pushed ∙ ap (λ (l : List ℕ). l ++ (get_or faults k d).number ∷ []) before ∙ sym (fails_in node (take k faults) (get_or faults k d) is)
    ∙ ap (λ (fs : List FaultLine). fails_of node fs) (sym (take_more faults k d lt))

pub more_out : (node : NodeId) (faults : List FaultLine) (k : ℕ) (d : FaultLine) (xs ys : List ℕ) → k < length faults → xs ≡ fails_of node (take k faults) →
    is_of_node node (get_or faults k d) ≡ false → ys ≡ xs → ys ≡ fails_of node (take (k + 1) faults)
more_out node faults k d xs ys lt before is same =
    same ∙ before ∙ sym (fails_out node (take k faults) (get_or faults k d) is)
    ∙ ap (λ (fs : List FaultLine). fails_of node fs) (sym (take_more faults k d lt))

pub opened_begin : (faults : List FaultLine) (lines : List EndLine) → AreOpenedUpTo faults lines 0 []
opened_begin faults lines = record { all = refl; each = λ k s h. absurd (cc) }

pub opened_more : (faults : List FaultLine) (lines : List EndLine) (count : ℕ) (ss : List Store) (s : Store) → AreOpenedUpTo faults lines count ss →
    s ≡ opened_swap faults lines (node_at count) → AreOpenedUpTo faults lines (count + 1) (ss ++ s ∷ [])
opened_more faults lines count ss s are is =
    record {
      all = length_push ss s ∙ ap (λ (n : ℕ). n + 1) are.all;
      each = λ k d h.
          ⊎_elim (are.each k d)
          (λ (last : (k ≡ length ss) × (d ≡ s)). last.1 ∙ is ∙ ap (λ (n : ℕ). opened_swap faults lines (node_at n)) (sym (last.0 ∙ are.all)))
          (slice_get-push_cases ss s k d h);
    }

-- ---- what is held

preset_fails : (node : NodeId) (lines : List EndLine) (s : Store) → (preset_all node lines s).fails ≡ s.fails
preset_fails node [] s = refl
preset_fails node (x ∷ xs) s = preset_fails node xs (preset_if (begins_on node x) x s) ∙ by_test (begins_on node x)
  where
    by_test : (b : Bool) → (preset_if b x s).fails ≡ s.fails
    by_test true = refl
    by_test false = refl

preset_calls : (node : NodeId) (lines : List EndLine) (s : Store) → (preset_all node lines s).calls ≡ s.calls
preset_calls node [] s = refl
preset_calls node (x ∷ xs) s = preset_calls node xs (preset_if (begins_on node x) x s) ∙ by_test (begins_on node x)
  where
    by_test : (b : Bool) → (preset_if b x s).calls ≡ s.calls
    by_test true = refl
    by_test false = refl

abbrev IsOther : EndpointId → EndLine → Type 0
IsOther e line = same_end e line.id ≡ false

preset_other : (node : NodeId) (lines : List EndLine) (s : Store) (e : EndpointId) → AllAre (IsOther e) lines →
    held_for (preset_all node lines s).held e ≡ held_for s.held e
preset_other node [] s e others = refl
preset_other node (x ∷ xs) s e others = preset_other node xs (preset_if (begins_on node x) x s) e others.1 ∙ by_test (begins_on node x)
  where
    by_test : (b : Bool) → held_for (preset_if b x s).held e ≡ held_for s.held e
    by_test true = holds_instead x.id (image (opening_body x)) s.held e
        ∙ ap (λ (b : Bool). if b then Some (image (opening_body x)) else held_for s.held e) others.0
    by_test false = refl

below_apart : (a b : EndpointId) → a.0 < b.0 → same_end a b ≡ false
below_apart a b lt = by_test (same_end a b) refl
  where
    by_test : (t : Bool) → same_end a b ≡ t → t ≡ false
    by_test true is = let same = eqb-true a.0 b.0 is in absurd (omega (arith, lt, same))
    by_test false is = refl

preset_held : (node : NodeId) (lines : List EndLine) (s : Store) (k : ℕ) (line : EndLine) → Rise lines → slice_get lines k ≡ Some line →
    begins_on node line ≡ true → held_for (preset_all node lines s).held line.id ≡ Some (image (opening_body line))
preset_held node [] s k line rise at on = absurd (cc)
preset_held node (x ∷ xs) s zero line rise at on =
    let same : x ≡ line = cc in
    let others : AllAre (IsOther x.id) xs = all_by_place (IsOther x.id) xs (λ j y there. below_apart x.id y.id (first_below x xs j y rise there)) in
    let begins : begins_on node x ≡ true = ap (begins_on node) same ∙ on in
    let first : held_for (preset_all node (x ∷ xs) s).held x.id ≡ Some (image (opening_body x)) =
    preset_other node xs (preset_if (begins_on node x) x s) x.id others
    ∙ ap (λ (b : Bool). held_for (preset_if b x s).held x.id) begins
    ∙ holds_instead x.id (image (opening_body x)) s.held x.id
    ∙ ap (λ (b : Bool). if b then Some (image (opening_body x)) else held_for s.held x.id) (same_end-refl x.id) in
    subst (λ (y : EndLine). held_for (preset_all node (x ∷ xs) s).held y.id ≡ Some (image (opening_body y))) same first
preset_held node (x ∷ xs) s (suc k) line rise at on = preset_held node xs (preset_if (begins_on node x) x s) k line (rise_rest x xs rise) at on

-- ---- the whole cluster

faults_told : (node : NodeId) (faults : List FaultLine) → fails_of node faults ≡ map (λ (f : Fault). f.number)
    (filter (λ (f : Fault). same_node node f.node) (map fault_of faults))
faults_told node [] = refl
faults_told node (x ∷ xs) = by_test (same_node node x.node) (faults_told node xs)
  where
    by_test : (b : Bool) → fails_of node xs ≡ map (λ (f : Fault). f.number) (filter (λ (f : Fault). same_node node f.node) (map fault_of xs)) →
        map (λ (f : FaultLine). f.number) (cond b (x ∷ filter (is_of_node node) xs) (filter (is_of_node node) xs)) ≡ map (λ (f : Fault). f.number)
        (cond b (fault_of x ∷ filter (λ (f : Fault). same_node node f.node) (map fault_of xs))
        (filter (λ (f : Fault). same_node node f.node) (map fault_of xs)))
    by_test true more = ap (λ (ns : List ℕ). x.number ∷ ns) more
    by_test false more = more

got_mapped : (lines : List EndLine) (k : ℕ) (end : EndSetting) → slice_get (map setting_of lines) k ≡ Some end →
    (line : EndLine) × ((slice_get lines k ≡ Some line) × (end ≡ setting_of line))
got_mapped [] k end h = absurd (cc)
got_mapped (x ∷ xs) zero end h = let same : setting_of x ≡ end = cc in (x, (refl, sym same))
got_mapped (x ∷ xs) (suc k) end h = got_mapped xs k end h

opening_valid : (e : EndpointId) (pool : Option ℕ) (line : EndLine) → IsPoolLawful pool → line.tag.0 < 2 ^ 64 → IsValid e pool (opening_body line)
opening_valid e pool line lawful tag =
    let order = order_fresh pool e line.tag Disk lawful in
    record {
      valid = order.valid;
      within = order.within;
      none_in_flight = refl;
      in_range =
          record {
            tag = tag;
            sum = omega arith;
            accepted = omega arith;
            mapped = refl;
            awaited = refl;
            handlers = refl;
            requests = refl;
            replies = refl;
            notices = refl;
            received = refl;
          };
    }

-- an endpoint that begins on disk is declared there
disk_declared : (direct disk : Bool) → is_on_disk (opening_place direct disk) ≡ true → disk ≡ true
disk_declared true disk h = absurd (true≢false (sym h))
disk_declared false true h = refl
disk_declared false false h = absurd (true≢false (sym h))

pub fresh_swaps : (s : Settings) (faults : List FaultLine) (lines : List EndLine) (es : List EndLog) (ss : List Store) → IsLawful (layout_in s faults es) →
    map setting_in es ≡ map setting_of lines → Rise lines → AreOpened s faults lines ss → AreSwaps (layout_in s faults es) [] ss
fresh_swaps s faults lines es ss lawful ends rise opened =
    record {
      each = λ k d at. subst (IsSwap (layout_in s faults es) [] (node_at k)) (sym (opened.each k d at)) (fresh_swap (node_at k));
      all = opened.all;
    }
  where
    layout : Layout
    layout = layout_in s faults es

    start : NodeId → Store
    start node = record { held = []; fails = fails_of node faults; calls = 0; faults = 0 }

    holds : (node : NodeId) (k : ℕ) (line : EndLine) → slice_get lines k ≡ Some line → line.node ≡ node → line.tag.0 < 2 ^ 64 →
        is_on_disk (opening layout line.id).head.place ≡ true → HoldsBody (opened_swap faults lines node) layout.pool line.id (opening layout line.id).body
    holds node k line at here tag on =
        let found : opening layout line.id ≡ opening_by layout (Some (setting_of line)) =
        ap (λ (settings : List EndSetting). opening_by layout (find (has_id line.id) settings)) ends
        ∙ ap (opening_by layout) (found_line lines k line rise at) in
        let disk : line.disk ≡ true = disk_declared layout.direct line.disk (ap (λ (t : State). is_on_disk t.head.place) (sym found) ∙ on) in
        let begins : begins_on node line ≡ true = and_from line.disk (same_node node line.node) disk (ap (same_node node) here ∙ eq-eqb node.0 node.0 refl) in
        let body : (opening layout line.id).body ≡ opening_body line = ap (λ (t : State). t.body) found in
        record {
          held = preset_held node lines (start node) k line rise at begins ∙ ap (λ (b : Body). Some (image b)) (sym body);
          valid = subst (IsValid line.id layout.pool) (sym body) (opening_valid line.id layout.pool line lawful.pool tag);
        }

    fresh_swap : (node : NodeId) → IsSwap layout [] node (opened_swap faults lines node)
    fresh_swap node =
        record {
          fails = preset_fails node lines (start node) ∙ faults_told node faults;
          calls = preset_calls node lines (start node);
          bodies =
              λ k end at here on.
              (let line = got_mapped lines k end (ap (λ (settings : List EndSetting). slice_get settings k) (sym ends) ∙ at) in
              let tag = (all_at (IsSettingLawful layout) layout.ends k end lawful.ends at).tag in
              subst (λ (d : EndSetting). HoldsBody (opened_swap faults lines node) layout.pool d.id (state_of layout [] d.id).body) (sym line.1.1)
              (holds node k line.0 line.1.0 (ap (λ (d : EndSetting). d.node) (sym line.1.1) ∙ here) (subst (λ (d : EndSetting). d.tag.0 < 2 ^ 64) line.1.1 tag)
              (ap (λ (d : EndSetting). is_on_disk (state_of layout [] d.id).head.place) (sym line.1.1) ∙ on)));
        }
