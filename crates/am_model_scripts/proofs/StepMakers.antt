-- The entries that steps make.
use Rattle.std.specs.Prelude.{slice_get}
use Rattle.std.proofs.Common.{◌≡◌, ℕ, suc, ◌+◌, ◌<◌, ◌≤◌, true, List, [], ◌∷◌, ◌++◌, map, length, take, Option, Some, None, refl, sym, ap, ◌∙◌, subst, arith}
use Rattle.std.proofs.Common.{append_assoc}
use Rattle.std.specs.List.{range_with_len}
use Rattle.std.proofs.lemmas.List.{append-nil, length_push}
use Rattle.am_lemmas.proofs.Lists.{range_push}
use Rattle.am_office_entries.specs.declared.Event.{Event}
use Rattle.am_office_entries.specs.declared.Condition.{Condition}
use Rattle.am_office_entries.specs.declared.Part.{Part}
use Rattle.am_office_entries.specs.declared.Entry.{Entry}
use Rattle.am_model.specs.Layout.{Layout}
use Rattle.am_model.specs.History.{MayFollow, EachAfter, IsHistory, is_in_range, failing, outcome_of}
use Rattle.am_model.specs.Steps.{FollowsSteps, Made, Stop, stop, stop_by, full_log, step_entry, made, made_by, made_from}
use Rattle.am_model.specs.Parts.{AreBelow}
use Rattle.am_model.proofs.Each.{each_push}
use Rattle.am_model.proofs.Stamps.{later_than_all}
use Rattle.am_model_scripts.specs.Steps.Laws.{Walked, AreInRange, StopsAt, IsUnstopped, IsMade}

below_more : (n k : ℕ) (xs : List Entry) → n ≤ k → AreBelow n xs → AreBelow k xs
below_more n k [] le h = tt
below_more n k (x ∷ xs) le h = (omega (arith, h.0), below_more n k xs le h.1)

below_push : (n : ℕ) (xs : List Entry) (x : Entry) → AreBelow n xs → x.stamp < n → AreBelow n (xs ++ x ∷ [])
below_push n [] x h lt = (lt, tt)
below_push n (y ∷ xs) x h lt = (h.0, below_push n xs x h.1 lt)

-- ---- one step more

pub may_step : (layout : Layout) (past : List Entry) (event : Event) → Walked layout past → is_in_range layout event ≡ true → failing layout past event ≡ None →
    MayFollow layout past (step_entry layout past event)
may_step layout past event w range enabled =
    record {
      in_range = range;
      enabled = enabled;
      outcome = refl;
      later = later_than_all past (step_entry layout past event) w.below;
    }

map_push : {X : Type 0} (f : Entry → X) (xs : List Entry) (x : Entry) → map f (xs ++ x ∷ []) ≡ map f xs ++ f x ∷ []
map_push f [] x = refl
map_push f (y ∷ xs) x = ap (λ l. f y ∷ l) (map_push f xs x)

pub walked_more : (layout : Layout) (past : List Entry) (event : Event) → Walked layout past → is_in_range layout event ≡ true →
    failing layout past event ≡ None → Walked layout (past ++ step_entry layout past event ∷ [])
walked_more layout past event w range enabled =
    let x = step_entry layout past event in
    let next : length past + 1 ≡ 1 + length past = omega arith in
    record {
      history = each_push (MayFollow layout) [] past x w.history (may_step layout past event w range enabled);
      stamped =
          map_push (λ (y : Entry). y.stamp) past x
          ∙ ap (λ (ks : List ℕ). ks ++ (length past + 1) ∷ []) w.stamped
          ∙ ap (λ (k : ℕ). range_with_len 1 (length past) ++ k ∷ []) next
          ∙ sym (range_push 1 (length past))
          ∙ (let longer : suc (length past) ≡ length (past ++ x ∷ []) = omega (arith, length_push past x) in ap (range_with_len 1) longer);
      below =
          let longer = length_push past x in
          below_push (length (past ++ x ∷ []) + 1) past x (below_more (length past + 1) (length (past ++ x ∷ []) + 1) past (omega (arith, longer)) w.below)
          (omega (arith, longer));
    }

pub no_condition : (f : Option Condition) (g : Option Part) → stop_by f g ≡ None → f ≡ None
no_condition None g h = refl
no_condition (Some c) g h = absurd (cc)

-- ---- all steps

abbrev pub events_of : List Entry → List Event
events_of xs = map (λ (x : Entry). x.event) xs

-- so many steps were made after these entries, and then all were made or one is stopped
pub record Reaches (layout : Layout) (past : List Entry) (events : List Event) (m : Made) : Type 0 where
  pub count : ℕ
  pub walked : Walked layout m.journal
  pub unstopped : EachAfter (IsUnstopped layout) [] m.journal
  pub longer : length m.journal ≡ length past + count
  pub in_order : events_of m.journal ≡ events_of past ++ take count events
  pub whole : m.stopped ≡ None → count ≡ length events
  pub stopped : (why : Stop) → m.stopped ≡ Some why → StopsAt layout m.journal (slice_get events count) why

pub reaches : (layout : Layout) (past : List Entry) (events : List Event) → Walked layout past → EachAfter (IsUnstopped layout) [] past →
    AreInRange layout events → Reaches layout past events (made_from layout past events)
reaches layout past [] w free range =
    record {
      count = 0;
      walked = w;
      unstopped = free;
      longer = omega arith;
      in_order = sym (append-nil (events_of past));
      whole = λ h. refl;
      stopped = λ why h. absurd (cc);
    }
reaches layout past (event ∷ events) w free range =
    by_stop (stop layout past event) refl (λ more on. reaches layout (past ++ step_entry layout past event ∷ []) events more on range.1)
  where
    x : Entry
    x = step_entry layout past event

    rest : Made
    rest = made_from layout (past ++ x ∷ []) events

    by_stop : (s : Option Stop) → stop layout past event ≡ s → (Walked layout (past ++ x ∷ []) → EachAfter (IsUnstopped layout) [] (past ++ x ∷ []) →
        Reaches layout (past ++ x ∷ []) events rest) → Reaches layout past (event ∷ events) (made_by s past rest)
    by_stop (Some why) is further =
        record {
          count = 0;
          walked = w;
          unstopped = free;
          longer = omega arith;
          in_order = sym (append-nil (events_of past));
          whole = λ h. absurd (cc);
          stopped = λ other h. let same : why ≡ other = cc in is ∙ ap Some same;
        }
    by_stop None is further =
        let enabled = no_condition (failing layout past event) (full_log layout past event) is in
        let r = further (walked_more layout past event w range.0 enabled) (each_push (IsUnstopped layout) [] past x free is) in
        record {
          count = suc r.count;
          walked = r.walked;
          unstopped = r.unstopped;
          longer = omega (arith, r.longer, length_push past x);
          in_order =
              r.in_order
              ∙ ap (λ (es : List Event). es ++ take r.count events) (map_push (λ (y : Entry). y.event) past x)
              ∙ append_assoc (events_of past) (event ∷ []) (take r.count events);
          whole = λ h. ap suc (r.whole h);
          stopped = λ why h. r.stopped why h;
        }

pub is_made : (layout : Layout) (events : List Event) → AreInRange layout events → IsMade layout events (made layout events)
is_made layout events range =
    let r = reaches layout [] events (record { history = tt; stamped = refl; below = tt }) tt range in
    let same : r.count ≡ length (made layout events).journal = omega (arith, r.longer) in
    record {
      history = r.walked.history;
      follows = record { in_order = r.in_order ∙ ap (λ (k : ℕ). take k events) same; stamped = r.walked.stamped };
      unstopped = r.unstopped;
      whole = λ h. sym same ∙ r.whole h;
      stopped = λ why h. subst (λ (k : ℕ). StopsAt layout (made layout events).journal (slice_get events k) why) same (r.stopped why h);
    }

-- ---- one history

agree : (layout : Layout) (past xs ys : List Entry) → EachAfter (MayFollow layout) past xs → EachAfter (MayFollow layout) past ys →
    events_of xs ≡ events_of ys → map (λ (x : Entry). x.stamp) xs ≡ map (λ (x : Entry). x.stamp) ys → xs ≡ ys
agree layout past [] [] h k e s = refl
agree layout past [] (y ∷ ys) h k e s = absurd (cc)
agree layout past (x ∷ xs) [] h k e s = absurd (cc)
agree layout past (x ∷ xs) (y ∷ ys) h k e s =
    let event : x.event ≡ y.event = cc in
    let events : events_of xs ≡ events_of ys = cc in
    let stamp : x.stamp ≡ y.stamp = cc in
    let stamps : map (λ (z : Entry). z.stamp) xs ≡ map (λ (z : Entry). z.stamp) ys = cc in
    let outcome : x.outcome ≡ y.outcome = h.0.outcome ∙ ap (outcome_of layout past) event ∙ sym k.0.outcome in
    let one : x ≡ y = λ i. record { stamp = stamp i; event = event i; outcome = outcome i } in
    let others = subst (λ (z : Entry). EachAfter (MayFollow layout) (past ++ z ∷ []) ys) (sym one) k.1 in
    λ i. one i ∷ agree layout (past ++ x ∷ []) xs ys h.1 others events stamps i

pub histories_agree : (layout : Layout) (events : List Event) (one other : List Entry) → IsHistory layout one → FollowsSteps events one →
    IsHistory layout other → FollowsSteps events other → one ≡ other
histories_agree layout events one other h f k g =
    agree layout [] one other h k (f.in_order ∙ sym g.in_order)
    (f.stamped ∙ ap (range_with_len 1) (same_length one other (f.in_order ∙ sym g.in_order)) ∙ sym g.stamped)
  where
    same_length : (xs ys : List Entry) → events_of xs ≡ events_of ys → length xs ≡ length ys
    same_length [] [] e = refl
    same_length [] (y ∷ ys) e = absurd (cc)
    same_length (x ∷ xs) [] e = absurd (cc)
    same_length (x ∷ xs) (y ∷ ys) e = let events : events_of xs ≡ events_of ys = cc in ap suc (same_length xs ys events)

-- ---- one answer

-- these entries, which follow the steps from here on, are all that the steps make
follows_made : (layout : Layout) (past ys : List Entry) (events : List Event) (stopped : Option Stop)
    → EachAfter (MayFollow layout) past ys → EachAfter (IsUnstopped layout) past ys → events_of ys ≡ take (length ys) events
    → map (λ (y : Entry). y.stamp) ys ≡ range_with_len (length past + 1) (length ys)
    → (stopped ≡ None → length ys ≡ length events) → ((why : Stop) → stopped ≡ Some why → StopsAt layout (past ++ ys) (slice_get events (length ys)) why)
    → record { journal = past ++ ys; stopped = stopped } ≡ made_from layout past events
follows_made layout past [] [] None h free e s whole stops = ap (λ (j : List Entry). record { journal = j; stopped = None }) (append-nil past)
follows_made layout past [] [] (Some why) h free e s whole stops = absurd (stops why refl)
follows_made layout past [] (event ∷ events) None h free e s whole stops = let none : 0 ≡ suc (length events) = whole refl in absurd (cc)
follows_made layout past [] (event ∷ events) (Some why) h free e s whole stops =
    let at : stop layout past event ≡ Some why = subst (λ (j : List Entry). stop layout j event ≡ Some why) (append-nil past) (stops why refl) in
    ap (λ (j : List Entry). record { journal = j; stopped = Some why }) (append-nil past)
    ∙ sym (ap (λ (o : Option Stop). made_by o past (made_from layout (past ++ step_entry layout past event ∷ []) events)) at)
follows_made layout past (y ∷ ys) [] stopped h free e s whole stops = absurd (cc)
follows_made layout past (y ∷ ys) (event ∷ events) stopped h free e s whole stops =
    let is : y.event ≡ event = cc in
    let later : events_of ys ≡ take (length ys) events = cc in
    let stamp : y.stamp ≡ length past + 1 = cc in
    let stamps : map (λ (z : Entry). z.stamp) ys ≡ range_with_len (length past + 1 + 1) (length ys) = cc in
    let outcome : y.outcome ≡ outcome_of layout past event = h.0.outcome ∙ ap (outcome_of layout past) is in
    let one : y ≡ step_entry layout past event = λ i. record { stamp = stamp i; event = is i; outcome = outcome i } in
    let runs : stop layout past event ≡ None = subst (λ (v : Event). stop layout past v ≡ None) is free.0 in
    let longer : length past + 1 + 1 ≡ length (past ++ y ∷ []) + 1 = omega (arith, length_push past y) in
    let all : past ++ y ∷ ys ≡ (past ++ y ∷ []) ++ ys = sym (append_assoc past (y ∷ []) ys) in
    let rest =
    follows_made layout (past ++ y ∷ []) ys events stopped h.1 free.1 later (stamps ∙ ap (λ (n : ℕ). range_with_len n (length ys)) longer)
    (λ none. let same : suc (length ys) ≡ suc (length events) = whole none in omega (arith, same))
    (λ why is. subst (λ (j : List Entry). StopsAt layout j (slice_get events (length ys)) why) all (stops why is)) in
    ap (λ (j : List Entry). record { journal = j; stopped = stopped }) all
    ∙ rest
    ∙ ap (λ (z : Entry). made_from layout (past ++ z ∷ []) events) one
    ∙ sym (ap (λ (o : Option Stop). made_by o past (made_from layout (past ++ step_entry layout past event ∷ []) events)) runs)

pub made_alone : (layout : Layout) (events : List Event) (m : Made) → IsMade layout events m → m ≡ made layout events
made_alone layout events m h = follows_made layout [] m.journal events m.stopped h.history h.unstopped h.follows.in_order h.follows.stamped h.whole h.stopped
