-- What the marks of endpoints say of a journal, and how it lasts from entry to entry.
use Rattle.std.specs.Prelude.{slice_get, slice_index_or, is_some, ◌==◌, if◌then◌else◌}
use Rattle.std.specs.List.{All, AllPairs, list_any}
use Rattle.std.proofs.Common.{◌≡◌, ℕ, zero, suc, ◌+◌, ◌<◌, ◌≤◌, Bool, true, false, ◌||◌, List, [], ◌∷◌, ◌++◌, length, Option, Some, None, refl, sym, ap, ◌∙◌}
use Rattle.std.proofs.Common.{subst, arith, eq-eqb, eqb-true, ⊎_elim}
use Rattle.std.proofs.lemmas.Bool.{cases_lt, cases_order, eqb-false}
use Rattle.std.proofs.lemmas.Option.{slice_get_past, slice_get_within, slice_get-get_or}
use Rattle.am_lemmas.proofs.Lists.{slice_get-map_Some, Some-slice_get_map}
use Rattle.am_bit_set.specs.Places.{IsNextMark, is_marked}
use Rattle.am_bit_set.specs.declared.BitSet.{BitSet}
use Rattle.am_names.specs.declared.EndpointId.{EndpointId}
use Rattle.am_names.specs.Names.{same_end}
use Rattle.am_office_entries.specs.declared.Entry.{Entry}
use Rattle.am_office_entries.specs.Entries.{ends_touched, touches}
use Rattle.am_model.specs.Endpoint.{State, front, front_of, is_on_disk}
use Rattle.am_model.specs.History.{IsHistory, state_of}
use Rattle.am_model.specs.Layout.{EndSetting, Layout, has_id}
use Rattle.am_model.proofs.Names.{same_end-refl}
use Rattle.am_model.proofs.Each.{state_of_push}
use Rattle.am_endpoint.specs.View.{EndpointView, state_after}
use Rattle.am_scenario_types.specs.declared.parts.EndLine.{EndLine}
use Rattle.am_scenario_types.specs.Lawful as lawful
use Rattle.am_scenario_types.specs.Lists.{ScenarioLists}
use Rattle.am_model_scripts.specs.Layout.{layout_of, setting_of}
use Rattle.am_model_scripts.specs.Standings.{Standing, standings, standing_in}
use Rattle.am_cluster_drainer.specs.Firsts.{IsNext, shows}
use Rattle.am_cluster_drainer.specs.declared.EndTest.{EndTest}
use Rattle.am_cluster_drainer.specs.declared.EndTest.TheVariants.{Reply, Front, Arrival}
use Rattle.am_model_drain.specs.Rules.{next_page_in}
use Rattle.am_laws_runs.proofs.Away.{away_is_settled}
use Rattle.am_laws_runs.proofs.Enabled.{of_packets}
use Rattle.am_scenario_types.specs.declared.parts.Network.TheVariants.{Packet}
use Rattle.am_cluster_scripted.specs.EndMarks.{AreAgain, AreMarked, AreNone, AreOf, HasPlace, IsAgain, MarksEnd, MarksPlace, MarksTouched, is_end, is_touched}
use Rattle.am_cluster_scripted.specs.EndMarks.{told_arrival, told_at, told_by, told_front, told_missed, told_reply}
use Rattle.am_machine.proofs.Placed.{IsPlaced}
use Rattle.am_cluster_scripted.specs.Touched.{both}
use Rattle.am_cluster_scripted.specs.declared.end_marks.EndMarks.{EndMarks}
use Rattle.am_cluster_scripted.proofs.Looking.{HoldsNothing, IsQuietOnDisk, arrivals_read, quiet_of, reply_read}

-- ---- places

rises_at : (ends : List EndLine) → AllPairs (λ (a b : EndLine). a.id.0 < b.id.0) ends → (j : ℕ) (d : EndLine) → j < length ends →
    j ≤ (slice_index_or ends j d).id.0
rises_at ends rise zero d lt = omega arith
rises_at ends rise (suc j) d lt =
    let before = rises_at ends rise j d (omega (arith, lt)) in
    let more = rise j (suc j) d (omega arith) lt in
    omega (arith, before, more)

few : (s : ScenarioLists) (ends : List EndLine) (k : ℕ) → All (lawful.IsLawfulEnd s.network s.nodes) ends → AllPairs (λ (a b : EndLine). a.id.0 < b.id.0) ends →
    k < length ends → k < 256
few s [] k ok rise lt = absurd (omega (arith, lt))
few s (line ∷ ends) k ok rise lt =
    let high = rises_at (line ∷ ends) rise k line lt in
    let low = (ok k line lt).id in
    omega (arith, high, low)

-- a scenario has 256 endpoints at the most
pub places_few : (s : ScenarioLists) (k : ℕ) → lawful.IsLawful s → k < length s.ends → k < 256
places_few s k ok lt = few s s.ends k ok.ends ok.ends_rise lt

same_place : (ends : List EndLine) → AllPairs (λ (a b : EndLine). a.id.0 < b.id.0) ends → (i j : ℕ) (a b : EndLine) → slice_get ends i ≡ Some a →
    slice_get ends j ≡ Some b → a.id.0 ≡ b.id.0 → i < j → ⊥
same_place ends rise i j a b at to same lt =
    let high = slice_get_within ends j b to in
    let low = slice_get_within ends i a at in
    let first : Some (slice_index_or ends i a) ≡ Some a = sym (slice_get-get_or ends i a low) ∙ at in
    let second : Some (slice_index_or ends j a) ≡ Some b = sym (slice_get-get_or ends j a high) ∙ to in
    let less = rise i j a lt high in
    let third : slice_index_or ends i a ≡ a = cc in
    let fourth : slice_index_or ends j a ≡ b = cc in
    let one = ap (λ (x : EndLine). x.id.0) third in
    let other = ap (λ (x : EndLine). x.id.0) fourth in
    omega (arith, less, one, other, same)

-- no two endpoints of a scenario have one number
pub one_place : (s : ScenarioLists) (i j : ℕ) (a b : EndLine) → lawful.IsLawful s → slice_get s.ends i ≡ Some a → slice_get s.ends j ≡ Some b →
    a.id.0 ≡ b.id.0 → i ≡ j
one_place s i j a b ok at to same =
    ⊎_elim (λ (e : i ≡ j). e)
    (⊎_elim (λ (lt : i < j). absurd (same_place s.ends ok.ends_rise i j a b at to same lt))
    (λ (lt : j < i). absurd (same_place s.ends ok.ends_rise j i b a to at (sym same) lt)))
    (cases_order i j)

-- ---- marks that are read again

again_alike : (f g : ℕ → Bool) (told : State → Bool) (layout : Layout) (past : List Entry) (old new : BitSet) → ((k : ℕ) → f k ≡ g k) →
    IsAgain f told layout past old new → IsAgain g told layout past old new
again_alike f g told layout past old new same again k =
    again k ∙ ap (λ (b : Bool). if b then told_at told layout past (slice_get layout.ends k) else is_marked old k) (same k)

pub all_alike : (f g : ℕ → Bool) (layout : Layout) (past : List Entry) (old new : EndMarks) → ((k : ℕ) → f k ≡ g k) → AreAgain f layout past old new →
    AreAgain g layout past old new
all_alike f g layout past old new same again =
    record {
      missed = again_alike f g told_missed layout past old.missed new.missed same again.missed;
      replies = again_alike f g told_reply layout past old.replies new.replies same again.replies;
      fronts = again_alike f g told_front layout past old.fronts new.fronts same again.fronts;
      arrivals = again_alike f g told_arrival layout past old.arrivals new.arrivals same again.arrivals;
    }

again_twice : (f g : ℕ → Bool) (told : State → Bool) (layout : Layout) (past : List Entry) (old mid new : BitSet) → IsAgain f told layout past old mid →
    IsAgain g told layout past mid new → IsAgain (λ (k : ℕ). f k || g k) told layout past old new
again_twice f g told layout past old mid new first second k =
    second k ∙ ap (λ (b : Bool). if g k then t else b) (first k) ∙ by_tests (f k) (g k)
  where
    t : Bool
    t = told_at told layout past (slice_get layout.ends k)

    by_tests : (a b : Bool) → (if b then t else (if a then t else is_marked old k)) ≡ (if a || b then t else is_marked old k)
    by_tests true true = refl
    by_tests true false = refl
    by_tests false true = refl
    by_tests false false = refl

pub all_twice : (f g : ℕ → Bool) (layout : Layout) (past : List Entry) (old mid new : EndMarks) → AreAgain f layout past old mid →
    AreAgain g layout past mid new → AreAgain (λ (k : ℕ). f k || g k) layout past old new
all_twice f g layout past old mid new first second =
    record {
      missed = again_twice f g told_missed layout past old.missed mid.missed new.missed first.missed second.missed;
      replies = again_twice f g told_reply layout past old.replies mid.replies new.replies first.replies second.replies;
      fronts = again_twice f g told_front layout past old.fronts mid.fronts new.fronts first.fronts second.fronts;
      arrivals = again_twice f g told_arrival layout past old.arrivals mid.arrivals new.arrivals first.arrivals second.arrivals;
    }

pub none_again : (layout : Layout) (past : List Entry) (m : EndMarks) (f : ℕ → Bool) → ((k : ℕ) → f k ≡ false) → AreAgain f layout past m m
none_again layout past m f none =
    record {
      missed = kept_so told_missed m.missed;
      replies = kept_so told_reply m.replies;
      fronts = kept_so told_front m.fronts;
      arrivals = kept_so told_arrival m.arrivals;
    }
  where
    kept_so : (told : State → Bool) (marks : BitSet) → IsAgain f told layout past marks marks
    kept_so told marks k = sym (ap (λ (b : Bool). if b then told_at told layout past (slice_get layout.ends k) else is_marked marks k) (none k))

-- ---- one place

-- what is told of the endpoint at a place
pub told_here : (told : State → Bool) (layout : Layout) (past : List Entry) (k : ℕ) (one : EndpointView) (b : Bool) → IsPlaced layout past k one →
    b ≡ told (state_after one) → b ≡ told_at told layout past (slice_get layout.ends k)
told_here told layout past k one b seen is = is ∙ ap told seen.state ∙ sym (ap (told_at told layout past) seen.setting)

pub set_again : (told : State → Bool) (layout : Layout) (past : List Entry) (place : ℕ) (old new : BitSet) (b : Bool) →
    b ≡ told_at told layout past (slice_get layout.ends place) → ((k : ℕ) → is_marked new k ≡ (if k == place then b else is_marked old k)) →
    IsAgain (λ (k : ℕ). k == place) told layout past old new
set_again told layout past place old new b is set k = set k ∙ by_test (k == place) refl
  where
    by_test : (t : Bool) → (k == place) ≡ t → (if t then b else is_marked old k) ≡ (if t then told_at told layout past (slice_get layout.ends k) else is_marked
        old k)
    by_test true at = is ∙ ap (λ (i : ℕ). told_at told layout past (slice_get layout.ends i)) (sym (eqb-true k place at))
    by_test false at = refl

-- ---- an endpoint by its number

lines_of : (s : ScenarioLists) (k : ℕ) (line : EndLine) → slice_get s.ends k ≡ Some line → slice_get (layout_of s).ends k ≡ Some (setting_of line)
lines_of s k line at = slice_get-map_Some setting_of s.ends k line at

apart_tested : (a b : EndpointId) → (a.0 ≡ b.0 → ⊥) → same_end a b ≡ false
apart_tested a b apart = by_test (same_end a b) refl
  where
    by_test : (t : Bool) → same_end a b ≡ t → t ≡ false
    by_test true is = absurd (apart (eqb-true a.0 b.0 is))
    by_test false is = refl

-- no endpoint has the number
pub end_nowhere : (s : ScenarioLists) (id : EndpointId) → HasPlace s.ends id None → (k : ℕ) → is_end (Some id) (slice_get (layout_of s).ends k) ≡ false
end_nowhere s id none k = by_end (slice_get (layout_of s).ends k) refl
  where
    by_end : (o : Option EndSetting) → slice_get (layout_of s).ends k ≡ o → is_end (Some id) o ≡ false
    by_end None at = refl
    by_end (Some e) at =
        let line = Some-slice_get_map setting_of s.ends k e at in
        apart_tested e.id id (λ (same : e.id.0 ≡ id.0). none k line.0 line.1 (ap (λ (x : EndSetting). x.id.0) line.2 ∙ same))

-- the endpoint at a place is the one that has the number
pub end_there : (s : ScenarioLists) (id : EndpointId) (place : ℕ) → lawful.IsLawful s → HasPlace s.ends id (Some place) → (k : ℕ) →
    (k == place) ≡ is_end (Some id) (slice_get (layout_of s).ends k)
end_there s id place ok found k = by_test (k == place) refl
  where
    by_end : (k ≡ place → ⊥) → (o : Option EndSetting) → slice_get (layout_of s).ends k ≡ o → false ≡ is_end (Some id) o
    by_end apart None at = refl
    by_end apart (Some e) at =
        let line = Some-slice_get_map setting_of s.ends k e at in
        sym (apart_tested e.id id (λ (same : e.id.0 ≡ id.0). apart (one_place s k place line.0 found.0 ok line.1 found.1 (ap (λ (x : EndSetting). x.id.0) line.2
        ∙ same ∙ sym found.2))))

    by_test : (t : Bool) → (k == place) ≡ t → t ≡ is_end (Some id) (slice_get (layout_of s).ends k)
    by_test true at =
        sym (ap (λ (i : ℕ). is_end (Some id) (slice_get (layout_of s).ends i)) (eqb-true k place at)
        ∙ ap (is_end (Some id)) (lines_of s place found.0 found.1)
        ∙ eq-eqb found.0.id.0 id.0 found.2)
    by_test false at = by_end (eqb-false k place at) (slice_get (layout_of s).ends k) refl

-- ---- an entry

either_touched : (o : Option EndSetting) (a b : Option EndpointId) (x : Entry) → both a b ≡ ends_touched x.event x.outcome →
    (is_end a o || is_end b o) ≡ is_touched x o
either_touched None None None x is = refl
either_touched None None (Some d) x is = refl
either_touched None (Some c) None x is = refl
either_touched None (Some c) (Some d) x is = refl
either_touched (Some e) a b x is = by_ends a b ∙ ap (λ (es : List EndpointId). list_any (same_end e.id) es) is
  where
    one : (t : Bool) → (t || false) ≡ t
    one true = refl
    one false = refl

    by_ends : (a b : Option EndpointId) → (is_end a (Some e) || is_end b (Some e)) ≡ list_any (same_end e.id) (both a b)
    by_ends None None = refl
    by_ends None (Some d) = sym (one (same_end e.id d))
    by_ends (Some c) None = refl
    by_ends (Some c) (Some d) = ap (λ (t : Bool). same_end e.id c || t) (sym (one (same_end e.id d)))

pub both_touched : (layout : Layout) (past : List Entry) (x : Entry) (a b : Option EndpointId) (old mid new : EndMarks) →
    both a b ≡ ends_touched x.event x.outcome → MarksEnd layout past a old mid → MarksEnd layout past b mid new → MarksTouched layout past x old new
both_touched layout past x a b old mid new is first second =
    all_alike (λ (k : ℕ). is_end a (slice_get layout.ends k) || is_end b (slice_get layout.ends k)) (λ (k : ℕ). is_touched x (slice_get layout.ends k)) layout
    past old new
    (λ k. either_touched (slice_get layout.ends k) a b x is)
    (all_twice (λ (k : ℕ). is_end a (slice_get layout.ends k)) (λ (k : ℕ). is_end b (slice_get layout.ends k)) layout past old mid new first second)

-- what the endpoints show after an entry
marks_last : (told : State → Bool) (layout : Layout) (past : List Entry) (x : Entry) (old new : BitSet) → AreOf told layout past old →
    IsAgain (λ (k : ℕ). is_touched x (slice_get layout.ends k)) told layout (past ++ x ∷ []) old new → AreOf told layout (past ++ x ∷ []) new
marks_last told layout past x old new are again k = again k ∙ ap (λ (b : Bool). if is_touched x o then told_at told layout (past ++ x ∷ []) o else b) (are k)
    ∙ by_end o
  where
    o : Option EndSetting
    o = slice_get layout.ends k

    by_end : (e : Option EndSetting) → (if is_touched x e then told_at told layout (past ++ x ∷ []) e else told_at told layout past e) ≡ told_at told layout
        (past ++ x ∷ []) e
    by_end None = refl
    by_end (Some e) = by_touch (touches e.id x) refl
      where
        by_touch : (t : Bool) → touches e.id x ≡ t → (if t then told (state_of layout (past ++ x ∷ []) e.id) else told (state_of layout past e.id)) ≡ told
            (state_of layout (past ++ x ∷ []) e.id)
        by_touch true is = refl
        by_touch false is = ap told (sym (state_of_push layout past x e.id false is))

pub marked_last : (layout : Layout) (past : List Entry) (x : Entry) (old new : EndMarks) → AreMarked layout past old →
    MarksTouched layout (past ++ x ∷ []) x old new → AreMarked layout (past ++ x ∷ []) new
marked_last layout past x old new are again =
    record {
      missed = marks_last told_missed layout past x old.missed new.missed are.missed again.missed;
      replies = marks_last told_reply layout past x old.replies new.replies are.replies again.replies;
      fronts = marks_last told_front layout past x old.fronts new.fronts are.fronts again.fronts;
      arrivals = marks_last told_arrival layout past x old.arrivals new.arrivals are.arrivals again.arrivals;
    }

-- ---- all of them, place by place

-- the marks of the endpoints below a place, and none from there on
pub record IsMarkedTo (told : State → Bool) (layout : Layout) (past : List Entry) (n : ℕ) (marks : BitSet) : Type 0 where
  pub below : (k : ℕ) → k < n → is_marked marks k ≡ told_at told layout past (slice_get layout.ends k)
  pub rest : (k : ℕ) → n ≤ k → is_marked marks k ≡ false

below_last : (k n : ℕ) → k < n + 1 → (k ≡ n → ⊥) → k < n
below_last k n lt apart = ⊎_elim (λ (less : k < n). less) (λ (le : n ≤ k). absurd (apart (omega (arith, lt, le)))) (cases_lt k n)

pub record AreMarkedTo (layout : Layout) (past : List Entry) (n : ℕ) (m : EndMarks) : Type 0 where
  pub missed : IsMarkedTo told_missed layout past n m.missed
  pub replies : IsMarkedTo told_reply layout past n m.replies
  pub fronts : IsMarkedTo told_front layout past n m.fronts
  pub arrivals : IsMarkedTo told_arrival layout past n m.arrivals

pub marked_none : (layout : Layout) (past : List Entry) (m : EndMarks) → AreNone m → AreMarkedTo layout past 0 m
marked_none layout past m none =
    record {
      missed = so told_missed m.missed none.missed;
      replies = so told_reply m.replies none.replies;
      fronts = so told_front m.fronts none.fronts;
      arrivals = so told_arrival m.arrivals none.arrivals;
    }
  where
    so : (told : State → Bool) (marks : BitSet) → ((k : ℕ) → is_marked marks k ≡ false) → IsMarkedTo told layout past 0 marks
    so told marks none = record { below = λ k lt. absurd (omega (arith, lt)); rest = λ k le. none k }

one_more : (told : State → Bool) (layout : Layout) (past : List Entry) (n : ℕ) (old new : BitSet) → IsMarkedTo told layout past n old →
    IsAgain (λ (k : ℕ). k == n) told layout past old new → IsMarkedTo told layout past (n + 1) new
one_more told layout past n old new to again =
    record {
      below = λ k lt. by_test k lt (k == n) refl;
      rest = λ k le. (again k ∙ ap (λ (b : Bool). if b then told_at told layout past (slice_get layout.ends k) else is_marked old k) (later k le)
          ∙ to.rest k (omega (arith, le)));
    }
  where
    later : (k : ℕ) → n + 1 ≤ k → (k == n) ≡ false
    later k le = by_test (k == n) refl
      where
        by_test : (t : Bool) → (k == n) ≡ t → t ≡ false
        by_test true at = let same = eqb-true k n at in absurd (omega (arith, same, le))
        by_test false at = refl

    by_test : (k : ℕ) → k < n + 1 → (t : Bool) → (k == n) ≡ t → is_marked new k ≡ told_at told layout past (slice_get layout.ends k)
    by_test k lt true at = again k ∙ ap (λ (b : Bool). if b then told_at told layout past (slice_get layout.ends k) else is_marked old k) at
    by_test k lt false at =
        let apart = eqb-false k n at in
        again k ∙ ap (λ (b : Bool). if b then told_at told layout past (slice_get layout.ends k) else is_marked old k) at
        ∙ to.below k (below_last k n lt apart)

pub marked_more : (layout : Layout) (past : List Entry) (n : ℕ) (old new : EndMarks) → AreMarkedTo layout past n old → MarksPlace layout past n old new →
    AreMarkedTo layout past (n + 1) new
marked_more layout past n old new to again =
    record {
      missed = one_more told_missed layout past n old.missed new.missed to.missed again.missed;
      replies = one_more told_reply layout past n old.replies new.replies to.replies again.replies;
      fronts = one_more told_front layout past n old.fronts new.fronts to.fronts again.fronts;
      arrivals = one_more told_arrival layout past n old.arrivals new.arrivals to.arrivals again.arrivals;
    }

pub marked_all : (layout : Layout) (past : List Entry) (n : ℕ) (m : EndMarks) → length layout.ends ≤ n → AreMarkedTo layout past n m → AreMarked layout past m
marked_all layout past n m all to =
    record {
      missed = so told_missed m.missed to.missed;
      replies = so told_reply m.replies to.replies;
      fronts = so told_front m.fronts to.fronts;
      arrivals = so told_arrival m.arrivals to.arrivals;
    }
  where
    so : (told : State → Bool) (marks : BitSet) → IsMarkedTo told layout past n marks → AreOf told layout past marks
    so told marks to k =
        ⊎_elim (λ (lt : k < n). to.below k lt) (λ (le : n ≤ k). (to.rest k le
        ∙ sym (ap (told_at told layout past) (slice_get_past layout.ends k (omega (arith, all, le)))))) (cases_lt k n)

-- ---- the next endpoint that shows something

pub next_read : (told : State → Bool) (passes : Standing → Bool) (layout : Layout) (past : List Entry) (marks : BitSet) (from : ℕ) (o : Option ℕ) →
    AreOf told layout past marks → ((k : ℕ) (e : EndSetting) → slice_get layout.ends k ≡ Some e →
    passes (standing_in layout past e) ≡ told (state_of layout past e.id)) → IsNextMark marks from o → IsNext passes (standings layout past) from o
next_read told passes layout past marks from o are tells next = by_place o next
  where
    shown : (k : ℕ) (x : Standing) → slice_get (standings layout past) k ≡ Some x → passes x ≡ is_marked marks k
    shown k x at =
        let e = Some-slice_get_map (standing_in layout past) layout.ends k x at in
        ap passes (sym e.2) ∙ tells k e.0 e.1 ∙ sym (are k ∙ ap (told_at told layout past) e.1)

    there : (k : ℕ) → is_marked marks k ≡ true → (x : Standing) × (slice_get (standings layout past) k ≡ Some x)
    there k is = by_end (slice_get layout.ends k) refl
      where
        by_end : (e : Option EndSetting) → slice_get layout.ends k ≡ e → (x : Standing) × (slice_get (standings layout past) k ≡ Some x)
        by_end None at = absurd (let none : true ≡ false = sym is ∙ are k ∙ ap (told_at told layout past) at in cc)
        by_end (Some e) at = (standing_in layout past e, slice_get-map_Some (standing_in layout past) layout.ends k e at)

    by_place : (p : Option ℕ) → IsNextMark marks from p → IsNext passes (standings layout past) from p
    by_place None none = λ k x le at. shown k x at ∙ none k le
    by_place (Some place) found =
        let one = there place found.2 in
        record {
          behind = found.1;
          one = one.0;
          at_place = one.1;
          passes' = shown place one.0 one.1 ∙ found.2;
          least = λ k x le lt at. shown k x at ∙ found.3 k le lt;
        }

-- ---- what an endpoint tells is what it shows, while no wanted endpoint is on disk

is_declared : (e : EndSetting) (xs : List EndSetting) (k : ℕ) → slice_get xs k ≡ Some e → list_any (has_id e.id) xs ≡ true
is_declared e [] k at = absurd (cc)
is_declared e (x ∷ xs) zero at =
    let same : x ≡ e = cc in
    ap (λ (b : Bool). b || list_any (has_id e.id) xs) (ap (λ (y : EndSetting). same_end e.id y.id) same ∙ same_end-refl e.id)
is_declared e (x ∷ xs) (suc k) at = ap (λ (b : Bool). has_id e.id x || b) (is_declared e xs k at) ∙ either (has_id e.id x)
  where
    either : (b : Bool) → (b || true) ≡ true
    either true = refl
    either false = refl

pub quiet_end : (s : ScenarioLists) (past : List Entry) (l : Layout) (k : ℕ) (e : EndSetting) → s.network ≡ Packet → l ≡ layout_of s → IsHistory l past →
    next_page_in (standings (layout_of s) past) ≡ None → slice_get (layout_of s).ends k ≡ Some e → IsQuietOnDisk (state_of (layout_of s) past e.id)
quiet_end s past l k e packet same history none at =
    quiet_of (layout_of s) past e.id away_is_settled (of_packets s packet) (subst (λ (w : Layout). IsHistory w past) same history) none
    (is_declared e (layout_of s).ends k at)

front_shown : (s : State) (b : Bool) → (b ≡ true → HoldsNothing s.body) → is_some (front s) ≡ (if b then false else is_some (front s))
front_shown s false quiet = refl
front_shown s true quiet = let none = quiet refl in λ i. is_some (front_of (none.replies i) (none.requests i))

pub tells_shown : (test : EndTest) (s : State) (e : EndSetting) → IsQuietOnDisk s → shows test (record { setting = e; state = s }) ≡ told_by test s
tells_shown Reply s e quiet = sym (reply_read s (is_on_disk s.head.place) quiet)
tells_shown Front s e quiet = front_shown s (is_on_disk s.head.place) quiet
tells_shown Arrival s e quiet = sym (arrivals_read s (is_on_disk s.head.place) quiet)

pub next_shown : (test : EndTest) (s : ScenarioLists) (past : List Entry) (l : Layout) (marks : BitSet) (from : ℕ) (o : Option ℕ) → s.network ≡ Packet →
    l ≡ layout_of s → IsHistory l past → next_page_in (standings (layout_of s) past) ≡ None → AreOf (told_by test) (layout_of s) past marks →
    IsNextMark marks from o → IsNext (shows test) (standings (layout_of s) past) from o
next_shown test s past l marks from o packet same history none are next =
    next_read (told_by test) (shows test) (layout_of s) past marks from o are
    (λ k e at. tells_shown test (state_of (layout_of s) past e.id) e (quiet_end s past l k e packet same history none at)) next
