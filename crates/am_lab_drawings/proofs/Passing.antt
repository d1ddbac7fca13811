-- Tracks of all endpoints, as far as they were made or followed.
use Rattle.std.proofs.Common.{◌≡◌, ℕ, zero, suc, ◌+◌, ◌<◌, ◌≤◌, List, [], ◌∷◌, ◌++◌, Some, length, map, take, get_or, refl, sym, ap, ◌∙◌, subst, arith}
use Rattle.std.proofs.Common.{slice_get, slice_set}
use Rattle.std.proofs.lemmas.List.{map-append, take_all}
use Rattle.std.proofs.lemmas.Option.{get_or_from_slice_get, slice_get-get_or}
use Rattle.am_endpoint.specs.View.{EndpointView, state_after}
use Rattle.am_lemmas.proofs.Lists.{take-slice_get}
use Rattle.am_machine.specs.Ends.{setting_in}
use Rattle.am_driver_moves.specs.Logs.{kept}
use Rattle.am_model.specs.Endpoint.{State}
use Rattle.am_model.specs.History.{state_of}
use Rattle.am_model.specs.Layout.{EndSetting, Layout}
use Rattle.am_office_entries.specs.declared.Entry.{Entry}
use Rattle.am_scenario_types.specs.declared.parts.EndLine.{EndLine}
use Rattle.am_lab_picture.specs.Data.{LaneLists}
use Rattle.am_lab_picture.specs.Lanes.{LaneTracked, lane_begun, lane_ended, lane_followed_by, lane_value}
use Rattle.am_lab_picture.specs.declared.data.Standing.{Standing}
use Rattle.am_lab_drawings.specs.View.Standings.{AllKeep, Keeps, all_ended, all_followed, standing, standing_in}
use Rattle.am_lab_drawings.proofs.Keeping.{keeps_opening}

-- a list with one element more passed
pub mapped_next : {X Y : Type 0} (f : X → Y) (xs : List X) (k next : ℕ) (x : X) (y : Y) (items new : List Y) → next ≡ k + 1 → slice_get xs k ≡ Some x →
    y ≡ f x → items ≡ map f (take k xs) → new ≡ items ++ y ∷ [] → new ≡ map f (take next xs)
mapped_next f xs k next x y items new step at is so put =
    let up : next ≡ suc k = omega (arith, step) in
    put ∙ rw (so, is) (sym (map-append f (take k xs) (x ∷ [])) ∙ ap (map f) (sym (take-slice_get xs k x at))) ∙ ap (λ (n : ℕ). map f (take n xs)) (sym up)

-- a slice that was changed, written back
pub written_back : {X : Type 0} (n : ℕ) (new rest : List X) → length new ≡ n → take n (new ++ rest) ≡ new
written_back zero [] rest long = refl
written_back zero (x ∷ new) rest long = absurd (omega (arith, long))
written_back (suc n) [] rest long = absurd (omega (arith, long))
written_back (suc n) (x ∷ new) rest long = ap (λ l. x ∷ l) (written_back n new rest (omega (arith, long)))

-- ---- the opening

pub keeps_at_opening : (layout : Layout) (journal : List Entry) (view : EndpointView) (known : Standing) → journal ≡ [] →
    state_after view ≡ state_of layout journal view.settings.id → known.records ≡ 0 → known.received ≡ 0 → Keeps known (state_after view)
keeps_at_opening layout journal view known fresh is a b =
    subst (λ (s : State). Keeps known s) (sym (is ∙ ap (λ (j : List Entry). state_of layout j view.settings.id) fresh))
    (keeps_opening layout known view.settings.id a b)

pub opened_next : (layout : Layout) (journal : List Entry) (line k next : ℕ) (view : EndpointView) (now : Standing) (track : LaneTracked)
    (items new : List LaneTracked) → journal ≡ [] → next ≡ k + 1 → slice_get layout.ends k ≡ Some (setting_in (kept view)) →
    state_after view ≡ state_of layout journal view.settings.id → now ≡ standing_in (state_after view) → track ≡ lane_begun now line →
    items ≡ map (λ (s : EndSetting). lane_begun (standing layout [] s.id) line) (take k layout.ends) → new ≡ items ++ track ∷ [] →
    new ≡ map (λ (s : EndSetting). lane_begun (standing layout [] s.id) line) (take next layout.ends)
opened_next layout journal line k next view now track items new fresh step at is stands begun so put =
    let here : now ≡ standing layout [] view.settings.id = stands ∙ ap standing_in (is ∙ ap (λ (j : List Entry). state_of layout j view.settings.id) fresh) in
    mapped_next (λ (s : EndSetting). lane_begun (standing layout [] s.id) line) layout.ends k next (setting_in (kept view)) track items new step at
    (begun ∙ ap (λ (n : Standing). lane_begun n line) here) so put

-- ---- one line more

-- the first so many are new, and the others are as they were
abbrev pub mixed : {X : Type 0} → ℕ → List X → List X → List X
mixed zero all old = old
mixed (suc k) [] old = old
mixed (suc k) (a ∷ all) [] = []
mixed (suc k) (a ∷ all) (t ∷ old) = a ∷ mixed k all old

pub mixed_get : {X : Type 0} (k : ℕ) (all old : List X) → k < length all → slice_get (mixed k all old) k ≡ slice_get old k
mixed_get zero all old less = refl
mixed_get (suc k) [] old less = absurd (omega (arith, less))
mixed_get (suc k) (a ∷ all) [] less = refl
mixed_get (suc k) (a ∷ all) (t ∷ old) less = mixed_get k all old (omega (arith, less))

mixed_suc : {X : Type 0} (k : ℕ) (all old : List X) (x : X) → slice_get all k ≡ Some x → length all ≡ length old →
    slice_set (mixed k all old) k x ≡ mixed (suc k) all old
mixed_suc zero [] old x at long = absurd (cc)
mixed_suc zero (a ∷ all) [] x at long = absurd (omega (arith, long))
mixed_suc zero (a ∷ all) (t ∷ old) x at long = let same : a ≡ x = cc in ap (λ z. z ∷ old) (sym same)
mixed_suc (suc k) [] old x at long = absurd (cc)
mixed_suc (suc k) (a ∷ all) [] x at long = absurd (omega (arith, long))
mixed_suc (suc k) (a ∷ all) (t ∷ old) x at long = ap (λ l. a ∷ l) (mixed_suc k all old x at (omega (arith, long)))

pub mixed_next : {X : Type 0} (k next : ℕ) (all old : List X) (x : X) → next ≡ k + 1 → slice_get all k ≡ Some x → length all ≡ length old →
    slice_set (mixed k all old) k x ≡ mixed next all old
mixed_next k next all old x step at long =
    let up : suc k ≡ next = omega (arith, step) in
    mixed_suc k all old x at long ∙ ap (λ (n : ℕ). mixed n all old) up

pub mixed_end : {X : Type 0} (k : ℕ) (all old : List X) → length old ≤ k → length all ≡ length old → mixed k all old ≡ all
mixed_end zero [] [] ended long = refl
mixed_end zero [] (t ∷ old) ended long = absurd (omega (arith, ended))
mixed_end zero (a ∷ all) [] ended long = absurd (omega (arith, long))
mixed_end zero (a ∷ all) (t ∷ old) ended long = absurd (omega (arith, ended))
mixed_end (suc k) [] [] ended long = refl
mixed_end (suc k) [] (t ∷ old) ended long = absurd (omega (arith, long))
mixed_end (suc k) (a ∷ all) [] ended long = absurd (omega (arith, long))
mixed_end (suc k) (a ∷ all) (t ∷ old) ended long = ap (λ l. a ∷ l) (mixed_end k all old (omega (arith, ended)) (omega (arith, long)))

pub all_length : (layout : Layout) (now : List Entry) (line : ℕ) (ts : List LaneTracked) (ends : List EndSetting) → length ts ≡ length ends →
    length (all_followed layout now line ts ends) ≡ length ts
all_length layout now line [] ends long = refl
all_length layout now line (t ∷ ts) [] long = absurd (omega (arith, long))
all_length layout now line (t ∷ ts) (s ∷ ss) long = let rest = all_length layout now line ts ss (omega (arith, long)) in omega (arith, rest)

pub all_get : (layout : Layout) (now : List Entry) (line k : ℕ) (ts : List LaneTracked) (ends : List EndSetting) (t : LaneTracked) (s : EndSetting) →
    slice_get ts k ≡ Some t → slice_get ends k ≡ Some s → slice_get (all_followed layout now line ts ends) k ≡ Some
    (lane_followed_by t (standing layout now s.id) line)
all_get layout now line k [] ends t s at is = absurd (cc)
all_get layout now line k (u ∷ ts) [] t s at is = absurd (cc)
all_get layout now line zero (u ∷ ts) (v ∷ ss) t s at is =
    let same : u ≡ t = cc in
    let also : v ≡ s = cc in
    rw (same, also) refl
all_get layout now line (suc k) (u ∷ ts) (v ∷ ss) t s at is = all_get layout now line k ts ss t s at is

pub keep_get : (layout : Layout) (now : List Entry) (k : ℕ) (ts : List LaneTracked) (ends : List EndSetting) (t : LaneTracked) (s : EndSetting) →
    AllKeep layout now ts ends → slice_get ts k ≡ Some t → slice_get ends k ≡ Some s → Keeps (lane_value t) (state_of layout now s.id)
keep_get layout now k [] ends t s all at is = absurd (cc)
keep_get layout now k (u ∷ ts) [] t s all at is = absurd (cc)
keep_get layout now zero (u ∷ ts) (v ∷ ss) t s all at is =
    let same : u ≡ t = cc in
    let also : v ≡ s = cc in
    subst (λ (w : LaneTracked). Keeps (lane_value w) (state_of layout now s.id)) same (subst
    (λ (w : EndSetting). Keeps (lane_value u) (state_of layout now w.id)) also all.0)
keep_get layout now (suc k) (u ∷ ts) (v ∷ ss) t s all at is = keep_get layout now k ts ss t s all.1 at is

-- the element at a place that was not passed yet
get_mixed : {X : Type 0} (k : ℕ) (all old cur : List X) (d : X) → k < length old → length all ≡ length old → cur ≡ mixed k all old →
    get_or cur k d ≡ get_or old k d
get_mixed k all old cur d less long is =
    get_or_from_slice_get cur k (get_or old k d) d
    (ap (λ l. slice_get l k) is ∙ mixed_get k all old (omega (arith, less, long)) ∙ slice_get-get_or old k d less)

pub keep_here : (layout : Layout) (now : List Entry) (line k : ℕ) (old cur : List LaneTracked) (view : EndpointView) (d : LaneTracked) (known : Standing) →
    k < length old → length old ≡ length layout.ends → AllKeep layout now old layout.ends → cur ≡ mixed k (all_followed layout now line old layout.ends) old →
    slice_get layout.ends k ≡ Some (setting_in (kept view)) → state_after view ≡ state_of layout now view.settings.id → known ≡ lane_value (get_or cur k d) →
    Keeps known (state_after view)
keep_here layout now line k old cur view d known less long keeps is at state knows =
    let same : get_or cur k d ≡ get_or old k d = get_mixed k (all_followed layout now line old layout.ends) old cur d less
    (all_length layout now line old layout.ends long) is in
    subst (λ (s : State). Keeps known s) (sym state)
    (subst (λ (n : Standing). Keeps n (state_of layout now view.settings.id)) (sym (knows ∙ ap lane_value same))
    (keep_get layout now k old layout.ends (get_or old k d) (setting_in (kept view)) keeps (slice_get-get_or old k d less) at))

pub followed_here : (layout : Layout) (now : List Entry) (line k next : ℕ) (old cur : List LaneTracked) (view : EndpointView) (d new : LaneTracked)
    (stands : Standing) → next ≡ k + 1 → k < length old → length old ≡ length layout.ends → cur ≡ mixed k (all_followed layout now line old layout.ends) old →
    slice_get layout.ends k ≡ Some (setting_in (kept view)) → state_after view ≡ state_of layout now view.settings.id →
    stands ≡ standing_in (state_after view) → new ≡ lane_followed_by (get_or cur k d) stands line →
    slice_set cur k new ≡ mixed next (all_followed layout now line old layout.ends) old
followed_here layout now line k next old cur view d new stands step less long is at state standing' made =
    let all = all_followed layout now line old layout.ends in
    let same : get_or cur k d ≡ get_or old k d = get_mixed k all old cur d less (all_length layout now line old layout.ends long) is in
    let here : stands ≡ standing layout now view.settings.id = standing' ∙ ap standing_in state in
    let is_new : new ≡ lane_followed_by (get_or old k d) (standing layout now view.settings.id) line =
    made ∙ ap (λ (t : LaneTracked). lane_followed_by t stands line) same ∙ ap (λ (n : Standing). lane_followed_by (get_or old k d) n line) here
    in
    ap (λ (l : List LaneTracked). slice_set l k new) is
    ∙ mixed_next k next all old new step
    (all_get layout now line k old layout.ends (get_or old k d) (setting_in (kept view)) (slice_get-get_or old k d less) at
    ∙ ap (λ (t : LaneTracked). Some t) (sym is_new))
    (all_length layout now line old layout.ends long)

pub all_passed : (layout : Layout) (now : List Entry) (line k : ℕ) (old cur : List LaneTracked) → length old ≤ k → length old ≡ length layout.ends →
    cur ≡ mixed k (all_followed layout now line old layout.ends) old → cur ≡ all_followed layout now line old layout.ends
all_passed layout now line k old cur ended long is =
    is ∙ mixed_end k (all_followed layout now line old layout.ends) old ended (all_length layout now line old layout.ends long)

-- a list of tracks with one more passed
pub restarted_next : (line k next : ℕ) (ts : List LaneTracked) (d made : LaneTracked) (now : Standing) (items new : List LaneTracked) → next ≡ k + 1 →
    k < length ts → now ≡ lane_value (get_or ts k d) → made ≡ lane_begun now line →
    items ≡ map (λ (t : LaneTracked). lane_begun (lane_value t) line) (take k ts) → new ≡ items ++ made ∷ [] →
    new ≡ map (λ (t : LaneTracked). lane_begun (lane_value t) line) (take next ts)
restarted_next line k next ts d made now items new step less stands is so put =
    mapped_next (λ (t : LaneTracked). lane_begun (lane_value t) line) ts k next (get_or ts k d) made items new step (slice_get-get_or ts k d less)
    (is ∙ ap (λ (n : Standing). lane_begun n line) stands) so put

-- ---- the ends

pub ended_get : (line k : ℕ) (ts : List LaneTracked) (ends : List EndLine) (t : LaneTracked) (e : EndLine) → slice_get ts k ≡ Some t →
    slice_get ends k ≡ Some e → slice_get (all_ended line ts ends) k ≡ Some (lane_ended e t line)
ended_get line k [] ends t e at is = absurd (cc)
ended_get line k (u ∷ ts) [] t e at is = absurd (cc)
ended_get line zero (u ∷ ts) (v ∷ es) t e at is =
    let same : u ≡ t = cc in
    let also : v ≡ e = cc in
    rw (same, also) refl
ended_get line (suc k) (u ∷ ts) (v ∷ es) t e at is = ended_get line k ts es t e at is

pub ended_length : (line : ℕ) (ts : List LaneTracked) (ends : List EndLine) → length ts ≡ length ends → length (all_ended line ts ends) ≡ length ends
ended_length line [] [] long = refl
ended_length line [] (e ∷ es) long = absurd (omega (arith, long))
ended_length line (t ∷ ts) [] long = refl
ended_length line (t ∷ ts) (e ∷ es) long = let rest = ended_length line ts es (omega (arith, long)) in omega (arith, rest)

pub ended_next : (line k next : ℕ) (ts : List LaneTracked) (ends : List EndLine) (t : LaneTracked) (e : EndLine) (lane : LaneLists)
    (items new : List LaneLists) → next ≡ k + 1 → k < length ends → length ts ≡ length ends → lane ≡ lane_ended (get_or ends k e) (get_or ts k t) line →
    items ≡ take k (all_ended line ts ends) → new ≡ items ++ lane ∷ [] → new ≡ take next (all_ended line ts ends)
ended_next line k next ts ends t e lane items new step less long made so put =
    let up : suc k ≡ next = omega (arith, step) in
    let within : k < length ts = omega (arith, less, long) in
    put
    ∙ rw (so, made) (sym (take-slice_get (all_ended line ts ends) k (lane_ended (get_or ends k e) (get_or ts k t) line)
    (ended_get line k ts ends (get_or ts k t) (get_or ends k e) (slice_get-get_or ts k t within) (slice_get-get_or ends k e less))))
    ∙ ap (λ (n : ℕ). take n (all_ended line ts ends)) up

pub all_ended_passed : (line k : ℕ) (ts : List LaneTracked) (ends : List EndLine) (items : List LaneLists) → length ends ≤ k → length ts ≡ length ends →
    items ≡ take k (all_ended line ts ends) → items ≡ all_ended line ts ends
all_ended_passed line k ts ends items ended long is =
    let many = ended_length line ts ends long in
    is ∙ take_all k (all_ended line ts ends) (omega (arith, many, ended))
