-- One entry more in the logs that it touches is one entry more of the journal.
use Rattle.std.specs.Prelude.{fold, max, slice_get, slice_set}
use Rattle.std.proofs.Common.{◌≡◌, inl, ⊎_elim, ℕ, zero, suc, ◌≤◌, Bool, true, false, cond, ◌||◌, List, [], ◌∷◌, ◌++◌, map, Some, None, refl, sym, ap, ◌∙◌}
use Rattle.std.proofs.Common.{subst, length-append, arith}
use Rattle.std.specs.List.{filter}
use Rattle.std.proofs.lemmas.List.{append-nil}
use Rattle.std.proofs.lemmas.List.Elements.{filter-append}
use Rattle.am_office_entries.specs.declared.Event.{Event}
use Rattle.am_office_entries.specs.declared.Entry.{Entry}
use Rattle.am_office_entries.specs.Entries.{touches}
use Rattle.am_model.specs.Changes.{replay}
use Rattle.am_model.specs.Layout.{Layout, EndSetting, AllAre}
use Rattle.am_model.specs.History.{MayFollow, state_of, is_in_range, failing}
use Rattle.am_model_drain.specs.Made.{later_stamp, next_entry, next_stamp}
use Rattle.am_model.specs.Merge.{is_ordered}
use Rattle.am_model_merge.proofs.Sorted.{Has, before_from}
use Rattle.am_machine_journal.proofs.Standing.{ordered_push}
use Rattle.am_scenario_types.specs.declared.parts.FaultLine.{FaultLine}
use Rattle.am_endpoint.specs.View.{EndpointView}
use Rattle.am_model_drain.proofs.Entries.{entry_may_follow}
use Rattle.am_machine_journal.specs.Index.View.{IsEarly}
use Rattle.am_machine_journal.proofs.Growing.{greatest_push}
use Rattle.am_model.proofs.Each.{each_push}
use Rattle.am_machine.specs.declared.settings.Settings.{Settings}
use Rattle.am_model_parts.specs.Readings.{with_entry}
use Rattle.am_driver_moves.specs.Logs.{EndLog, kept, state_in}
use Rattle.am_machine.specs.Ends.{setting_in, grown, logged_at}
use Rattle.am_machine.specs.Carries.{is_place}
use Rattle.am_machine.specs.Kept.{IsOwn, IsShort, IsTied, layout_in}

-- the state of an endpoint by its own log is the one by the journal
pub own_state : (layout : Layout) (journal : List Entry) (e : EndLog) → IsOwn layout journal e → state_in e ≡ state_of layout journal e.settings.id
own_state layout journal e own = λ i. replay e.settings.id (sym own.opening i) (own.log i)

filter_push : (q : Entry → Bool) (xs : List Entry) (x : Entry) (t : Bool) → q x ≡ t → filter q (xs ++ x ∷ []) ≡ with_entry t x (filter q xs)
filter_push q xs x t is = filter-append q xs (x ∷ []) ∙ rw is (by_test t)
  where
    by_test : (b : Bool) → filter q xs ++ cond b (x ∷ []) [] ≡ with_entry b x (filter q xs)
    by_test true = refl
    by_test false = append-nil (filter q xs)

own_push : (layout : Layout) (journal : List Entry) (x : Entry) (e : EndLog) → IsOwn layout journal e → IsOwn layout (journal ++ x ∷ []) (grown x e)
own_push layout journal x e own =
    record {
      opening = own.opening;
      log = ap (with_entry (touches e.settings.id x) x) own.log ∙ sym (filter_push (touches e.settings.id) journal x (touches e.settings.id x) refl);
      limit = own.limit;
      bounces = own.bounces;
      pool = own.pool;
    }

all_own : (layout : Layout) (journal : List Entry) (x : Entry) (es : List EndLog) → AllAre (IsOwn layout journal) es →
    AllAre (IsOwn layout (journal ++ x ∷ [])) (map (grown x) es)
all_own layout journal x [] h = tt
all_own layout journal x (e ∷ es) h = (own_push layout journal x e h.0, all_own layout journal x es h.1)

pub settings_kept : (x : Entry) (es : List EndLog) → map setting_in (map (grown x) es) ≡ map setting_in es
settings_kept x [] = refl
settings_kept x (e ∷ es) = ap (λ (ss : List EndSetting). setting_in e ∷ ss) (settings_kept x es)

got_grown : (x : Entry) (es : List EndLog) (j : ℕ) (d : EndLog) → slice_get (map (grown x) es) j ≡ Some d →
    (e : EndLog) × ((slice_get es j ≡ Some e) × (e.settings ≡ d.settings))
got_grown x [] j d h = absurd (cc)
got_grown x (e ∷ es) zero d h = let same : grown x e ≡ d = cc in (e, (refl, ap (λ (w : EndLog). w.settings) same))
got_grown x (e ∷ es) (suc j) d h = got_grown x es j d h

-- with the next stamp the greatest is one more
early_next : (journal : List Entry) (x : Entry) → x.stamp ≡ next_stamp journal → IsEarly journal → IsEarly (journal ++ x ∷ [])
early_next journal x is early =
    let most = greatest_push journal x in
    let longer = length-append journal (x ∷ []) in
    omega (arith, most, longer, is, early)

-- no entry is stamped above the greatest
least : (a : ℕ) (xs : List Entry) → a ≤ fold later_stamp a xs
least a [] = omega arith
least a (x ∷ xs) = let more = least (max a x.stamp) xs in omega (arith, more)

none_above : (a : ℕ) (xs : List Entry) (z : Entry) → Has xs z → z.stamp ≤ fold later_stamp a xs
none_above a [] z h = absurd h
none_above a (x ∷ xs) z h =
    ⊎_elim
    (λ (here : x ≡ z). (let stamp : x.stamp ≡ z.stamp = ap (λ (w : Entry). w.stamp) here in let more = least (max a x.stamp) xs in omega (arith, more, stamp)))
    (λ (there : Has xs z). none_above (max a x.stamp) xs z there)
    h

-- and an entry with the next stamp comes last
ordered_next : (journal : List Entry) (x : Entry) → x.stamp ≡ next_stamp journal → is_ordered journal ≡ true → is_ordered (journal ++ x ∷ []) ≡ true
ordered_next journal x is ordered = ordered_push journal x ordered (λ z h. before_from z x
    (inl (let most = none_above 0 journal z h in omega (arith, most, is))))

pub tied_push : (layout : Layout) (es : List EndLog) (journal : List Entry) (event : Event) → IsTied layout es journal → is_in_range layout event ≡ true →
    failing layout journal event ≡ None → AllAre IsShort (map (grown (next_entry layout journal event)) es) →
    IsTied layout (map (grown (next_entry layout journal event)) es) (journal ++ next_entry layout journal event ∷ [])
tied_push layout es journal event tied range enabled short =
    let x = next_entry layout journal event in
    record {
      lawful = tied.lawful;
      history = each_push (MayFollow layout) [] journal x tied.history (entry_may_follow layout journal event range enabled);
      early = early_next journal x refl tied.early;
      ordered = ordered_next journal x refl tied.ordered;
      own = all_own layout journal x es tied.own;
      short = short;
      apart =
          λ j k d e dj ek same.
          (let a = got_grown x es j d dj in
          let b = got_grown x es k e ek in
          tied.apart j k a.0 b.0 a.1.0 b.1.0 (ap (λ s. s.id) a.1.1 ∙ same ∙ sym (ap (λ s. s.id) b.1.1)));
    }

-- the same, where the layout is read off the endpoints
pub layout_kept : (s : Settings) (faults : List FaultLine) (es : List EndLog) (x : Entry) → layout_in s faults (map (grown x) es) ≡ layout_in s faults es
layout_kept s faults es x = ap (λ (ends : List EndSetting). record (layout_in s faults es) { ends = ends }) (settings_kept x es)

-- ---- which logs grow

-- what stands at a place
pub own_at : (layout : Layout) (es : List EndLog) (journal : List Entry) (k : ℕ) (e : EndLog) → AllAre (IsOwn layout journal) es → slice_get es k ≡ Some e →
    IsOwn layout journal e
own_at layout [] journal k e h at = absurd (cc)
own_at layout (d ∷ es) journal zero e h at = let same : d ≡ e = cc in subst (IsOwn layout journal) same h.0
own_at layout (d ∷ es) journal (suc k) e h at = own_at layout es journal k e h.1 at

-- the places of the endpoints that an entry touches
abbrev pub TouchesAt : Entry → List EndLog → (ℕ → Bool) → Type 0
TouchesAt x es at = (j : ℕ) (e : EndLog) → slice_get es j ≡ Some e → touches e.settings.id x ≡ at j

grown_at : (x : Entry) (e : EndLog) (t : Bool) → touches e.settings.id x ≡ t → grown x e ≡ record { settings = e.settings; log = with_entry t x e.log }
grown_at x e t is = ap (λ (b : Bool). record { settings = e.settings; log = with_entry b x e.log }) is

pub none_grown : (x : Entry) (es : List EndLog) → TouchesAt x es (λ j. false) → map (grown x) es ≡ es
none_grown x [] h = refl
none_grown x (e ∷ es) h = λ i. grown_at x e false (h zero e refl) i ∷ none_grown x es (λ j d at. h (suc j) d at) i

-- an entry that touches one of them stands in that one's log
pub one_grown : (x : Entry) (es : List EndLog) (k : ℕ) → TouchesAt x es (λ j. is_place k j) → map (grown x) es ≡ logged_at k x es
one_grown x [] k h = refl
one_grown x (e ∷ es) zero h = λ i. grown_at x e true (h zero e refl) i ∷ none_grown x es (λ j d at. h (suc j) d at) i
one_grown x (e ∷ es) (suc k) h = λ i. grown_at x e false (h zero e refl) i ∷ one_grown x es k (λ j d at. h (suc j) d at) i

-- one that touches two of them stands in both logs
pub two_grown : (x : Entry) (es : List EndLog) (k l : ℕ) → (k ≡ l → ⊥) → TouchesAt x es (λ j. is_place k j || is_place l j) →
    map (grown x) es ≡ logged_at l x (logged_at k x es)
two_grown x [] k l apart h = refl
two_grown x (e ∷ es) zero zero apart h = absurd (apart refl)
two_grown x (e ∷ es) zero (suc l) apart h = λ i. grown_at x e true (h zero e refl) i ∷ one_grown x es l (λ j d at. h (suc j) d at) i
two_grown x (e ∷ es) (suc k) zero apart h = λ i. grown_at x e true (h zero e refl) i ∷ one_grown x es k (λ j d at. h (suc j) d at ∙ or_false (is_place k j)) i
  where
    or_false : (b : Bool) → (b || false) ≡ b
    or_false true = refl
    or_false false = refl
two_grown x (e ∷ es) (suc k) (suc l) apart h = λ i. grown_at x e false (h zero e refl) i ∷ two_grown x es k l (λ same. apart (ap suc same))
    (λ j d at. h (suc j) d at) i

-- a write of one endpoint with one entry more in its log
pub kept_set : (vs : List EndpointView) (k : ℕ) (v w : EndpointView) (x : Entry) → slice_get vs k ≡ Some v → w.settings ≡ v.settings → w.log ≡ v.log ++ x ∷ [] →
    map kept (slice_set vs k w) ≡ logged_at k x (map kept vs)
kept_set [] k v w x at same more = absurd (cc)
kept_set (u ∷ vs) zero v w x at same more =
    let is : u ≡ v = cc in
    λ i. record {
      settings = (same ∙ ap (λ (z : EndpointView). z.settings) (sym is)) i;
      log = (more
          ∙ ap (λ (z : EndpointView). z.log ++ x ∷ []) (sym is)) i;
    } ∷ map kept vs
kept_set (u ∷ vs) (suc k) v w x at same more = ap (λ (es : List EndLog). kept u ∷ es) (kept_set vs k v w x at same more)

-- a write that leaves settings and log
pub kept_same : (vs : List EndpointView) (k : ℕ) (v w : EndpointView) → slice_get vs k ≡ Some v → kept w ≡ kept v → map kept (slice_set vs k w) ≡ map kept vs
kept_same [] k v w at same = absurd (cc)
kept_same (u ∷ vs) zero v w at same = let is : u ≡ v = cc in ap (λ (e : EndLog). e ∷ map kept vs) (same ∙ ap kept (sym is))
kept_same (u ∷ vs) (suc k) v w at same = ap (λ (es : List EndLog). kept u ∷ es) (kept_same vs k v w at same)

pub kept_at : (vs : List EndpointView) (k : ℕ) (v : EndpointView) → slice_get vs k ≡ Some v → slice_get (map kept vs) k ≡ Some (kept v)
kept_at [] k v at = absurd (cc)
kept_at (u ∷ vs) zero v at = let same : u ≡ v = cc in ap (λ (z : EndpointView). Some (kept z)) same
kept_at (u ∷ vs) (suc k) v at = kept_at vs k v at
