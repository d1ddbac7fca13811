-- Endpoints that are followed stand as the definitions say.
use Rattle.std.proofs.Common.{◌≡◌, ℕ, ◌+◌, ◌<◌, ◌≤◌, Bool, true, false, List, [], ◌∷◌, ◌++◌, length, map, take, drop, get_or, zero, suc, add-one, refl, sym, ap}
use Rattle.std.proofs.Common.{◌∙◌, subst, arith, append_assoc, length-drop}
use Rattle.std.specs.Prelude.{nat_eq}
use Rattle.std.proofs.lemmas.Bool.{eqb-true}
use Rattle.std.proofs.Math.Seq.{take-suc}
use Rattle.std.proofs.lemmas.List.{append-nil, length-take-le}
use Rattle.am_names.specs.declared.EndpointId.{EndpointId}
use Rattle.am_office_entries.specs.declared.Entry.{Entry}
use Rattle.am_model.specs.History.{EachAfter, IsHistory, state_of}
use Rattle.am_model.specs.Layout.{EndSetting, IsLawful, Layout}
use Rattle.am_lab_reasons.specs.Journal.Lines.{IsMadeAgain}
use Rattle.am_scenario_types.specs.declared.parts.EndLine.{EndLine}
use Rattle.am_model_scripts.specs.Layout.{setting_of}
use Rattle.am_lab_picture.specs.Data.{LaneLists}
use Rattle.am_lab_picture.specs.Lanes.{LaneTracked, lane_begun, lane_ended, lane_followed, lane_followed_by, lane_of, lane_value}
use Rattle.am_lab_picture.specs.Residencies.{same_residency}
use Rattle.am_lab_picture.specs.Spans.{Tracked, followed_by}
use Rattle.am_lab_picture.specs.declared.data.Residency.{Residency}
use Rattle.am_lab_picture.specs.declared.data.Standing.{Standing}
use Rattle.am_lab_picture.proofs.Laning.{followed_more, lane_is, residency_is}
use Rattle.am_lab_drawings.proofs.Keeping.{keeps_next, may_follow}
use Rattle.am_lab_drawings.specs.View.Standings.{AllKeep, Keeps, all_ended, all_followed, standing, standings, standings_behind, tracked}

-- ---- what stands now

value_by : {X : Type 0} (b : Bool) (t : Tracked X) (x : X) (line : ℕ) → (b ≡ true → t.value ≡ x) → (followed_by b t x line).value ≡ x
value_by true t x line is = is refl
value_by false t x line is = refl

standing_is : (a : Residency) (b c : ℕ) (s : Standing) → a ≡ s.residency → b ≡ s.records → c ≡ s.received →
    record { residency = a; records = b; received = c } ≡ s
standing_is a b c s e1 e2 e3 = rw (e1, e2, e3) refl

value_is : (t : LaneTracked) (s : Standing) (line : ℕ) → lane_value (lane_followed_by t s line) ≡ s
value_is t s line =
    standing_is _ _ _ s
    (value_by (same_residency t.residency.value s.residency) t.residency s.residency line (residency_is t.residency.value s.residency))
    (value_by (nat_eq t.records.value s.records) t.records s.records line (eqb-true t.records.value s.records))
    (value_by (nat_eq t.received.value s.received) t.received s.received line (eqb-true t.received.value s.received))

value_behind : (layout : Layout) (e : EndpointId) (t : LaneTracked) (line : ℕ) (past xs : List Entry) → lane_value t ≡ standing layout past e →
    lane_value (lane_followed t line (standings_behind layout e past xs)) ≡ standing layout (past ++ xs) e
value_behind layout e t line past [] is = is ∙ ap (λ (j : List Entry). standing layout j e) (sym (append-nil past))
value_behind layout e t line past (x ∷ xs) is =
    value_behind layout e (lane_followed_by t (standing layout (past ++ x ∷ []) e) line) (line + 1) (past ++ x ∷ []) xs
    (value_is t (standing layout (past ++ x ∷ []) e) line)
    ∙ ap (λ (j : List Entry). standing layout j e) (append_assoc past (x ∷ []) xs)

pub tracked_value : (layout : Layout) (line : ℕ) (past xs : List Entry) (s : EndSetting) →
    lane_value (tracked layout line past xs s) ≡ standing layout (past ++ xs) s.id
tracked_value layout line past xs s = value_behind layout s.id (lane_begun (standing layout past s.id) line) (line + 1) past xs refl

-- ---- one entry more

behind_push : (layout : Layout) (e : EndpointId) (past xs : List Entry) (x : Entry) →
    standings_behind layout e past (xs ++ x ∷ []) ≡ standings_behind layout e past xs ++ standing layout ((past ++ xs) ++ x ∷ []) e ∷ []
behind_push layout e past [] x = ap (λ (j : List Entry). standing layout (j ++ x ∷ []) e ∷ []) (sym (append-nil past))
behind_push layout e past (y ∷ xs) x =
    ap (λ (l : List Standing). standing layout (past ++ y ∷ []) e ∷ l)
    (behind_push layout e (past ++ y ∷ []) xs x
    ∙ ap (λ (j : List Entry). standings_behind layout e (past ++ y ∷ []) xs ++ standing layout (j ++ x ∷ []) e ∷ []) (append_assoc past (y ∷ []) xs))

pub length_behind : (layout : Layout) (e : EndpointId) (past xs : List Entry) → length (standings_behind layout e past xs) ≡ length xs
length_behind layout e past [] = refl
length_behind layout e past (x ∷ xs) = let rest = length_behind layout e (past ++ x ∷ []) xs in omega (arith, rest)

pub tracked_push : (layout : Layout) (line next : ℕ) (past xs : List Entry) (x : Entry) (s : EndSetting) → next ≡ line + 1 + length xs →
    tracked layout line past (xs ++ x ∷ []) s ≡ lane_followed_by (tracked layout line past xs s) (standing layout ((past ++ xs) ++ x ∷ []) s.id) next
tracked_push layout line next past xs x s e =
    let long = length_behind layout s.id past xs in
    let there : line + 1 + length (standings_behind layout s.id past xs) ≡ next = omega (arith, long, e) in
    ap (λ (l : List Standing). lane_followed (lane_begun (standing layout past s.id) line) (line + 1) l) (behind_push layout s.id past xs x)
    ∙ followed_more (lane_begun (standing layout past s.id) line) (line + 1) (standings_behind layout s.id past xs)
    (standing layout ((past ++ xs) ++ x ∷ []) s.id)
    ∙ ap (λ (n : ℕ). lane_followed_by (tracked layout line past xs s) (standing layout ((past ++ xs) ++ x ∷ []) s.id) n) there

-- ---- all of them

map_same : {X Y : Type 0} (f g : X → Y) (xs : List X) → ((x : X) → f x ≡ g x) → map f xs ≡ map g xs
map_same f g [] is = refl
map_same f g (x ∷ xs) is = rw (is x, map_same f g xs is) refl

all_followed_map : (layout : Layout) (now : List Entry) (line : ℕ) (f : EndSetting → LaneTracked) (ends : List EndSetting) →
    all_followed layout now line (map f ends) ends ≡ map (λ (s : EndSetting). lane_followed_by (f s) (standing layout now s.id) line) ends
all_followed_map layout now line f [] = refl
all_followed_map layout now line f (s ∷ ss) = ap (λ (l : List LaneTracked). lane_followed_by (f s) (standing layout now s.id) line ∷ l)
    (all_followed_map layout now line f ss)

pub all_keep_map : (layout : Layout) (now : List Entry) (f : EndSetting → LaneTracked) (ends : List EndSetting) →
    ((s : EndSetting) → Keeps (lane_value (f s)) (state_of layout now s.id)) → AllKeep layout now (map f ends) ends
all_keep_map layout now f [] keeps = tt
all_keep_map layout now f (s ∷ ss) keeps = (keeps s, all_keep_map layout now f ss keeps)

-- the endpoints were followed by one entry more
pub all_next : (layout : Layout) (line next : ℕ) (past xs : List Entry) (x : Entry) (ends : List EndSetting) → next ≡ line + 1 + length xs →
    all_followed layout ((past ++ xs) ++ x ∷ []) next (map (tracked layout line past xs) ends) ends ≡ map (tracked layout line past (xs ++ x ∷ [])) ends
all_next layout line next past xs x ends e =
    all_followed_map layout ((past ++ xs) ++ x ∷ []) next (tracked layout line past xs) ends
    ∙ map_same (λ (s : EndSetting). lane_followed_by (tracked layout line past xs s) (standing layout ((past ++ xs) ++ x ∷ []) s.id) next)
    (tracked layout line past (xs ++ x ∷ [])) ends
    (λ (s : EndSetting). sym (tracked_push layout line next past xs x s e))

-- ---- the lanes

all_ended_map : (line : ℕ) (f : EndSetting → LaneTracked) (ends : List EndLine) →
    all_ended line (map f (map setting_of ends)) ends ≡ map (λ (e : EndLine). lane_ended e (f (setting_of e)) line) ends
all_ended_map line f [] = refl
all_ended_map line f (e ∷ es) = ap (λ (l : List LaneLists). lane_ended e (f (setting_of e)) line ∷ l) (all_ended_map line f es)

pub lanes_are : (layout : Layout) (line until : ℕ) (past xs : List Entry) (ends : List EndLine) → until ≡ line + 1 + length xs →
    all_ended until (map (tracked layout line past xs) (map setting_of ends)) ends ≡ map (λ (e : EndLine). lane_of e line (standings layout e.id past xs)) ends
lanes_are layout line until past xs ends is =
    all_ended_map until (tracked layout line past xs) ends
    ∙ map_same (λ (e : EndLine). lane_ended e (tracked layout line past xs (setting_of e)) until)
    (λ (e : EndLine). lane_of e line (standings layout e.id past xs)) ends
    (λ (e : EndLine).
    let long = length_behind layout e.id past xs in
    lane_is e line until (standing layout past e.id) (standings_behind layout e.id past xs) (omega (arith, is, long)))

-- ---- a journal that is made again, entry by entry

again_at : (layout : Layout) (past entries : List Entry) (i : ℕ) (d : Entry) → i < length entries → EachAfter (IsMadeAgain layout) past entries →
    IsMadeAgain layout (past ++ take i entries) (get_or entries i d)
again_at layout past [] i d less h = absurd (omega (arith, less))
again_at layout past (x ∷ xs) zero d less h = subst (λ (j : List Entry). IsMadeAgain layout j x) (sym (append-nil past)) h.0
again_at layout past (x ∷ xs) (suc i) d less h =
    subst (λ (j : List Entry). IsMadeAgain layout j (get_or xs i d)) (append_assoc past (x ∷ []) (take i xs))
    (again_at layout (past ++ x ∷ []) xs i d (omega (arith, less)) h.1)

pub again_here : (layout now : Layout) (past entries journal : List Entry) (i : ℕ) (d : Entry) → now ≡ layout → journal ≡ past ++ take i entries →
    i < length entries → EachAfter (IsMadeAgain layout) past entries → IsMadeAgain now journal (get_or entries i d)
again_here layout now past entries journal i d same is less h =
    subst (λ (l : Layout). IsMadeAgain l journal (get_or entries i d)) (sym same)
    (subst (λ (j : List Entry). IsMadeAgain layout j (get_or entries i d)) (sym is) (again_at layout past entries i d less h))

pub again_take : (layout : Layout) (past entries : List Entry) (n : ℕ) → EachAfter (IsMadeAgain layout) past entries →
    EachAfter (IsMadeAgain layout) past (take n entries)
again_take layout past [] zero h = tt
again_take layout past [] (suc n) h = tt
again_take layout past (x ∷ xs) zero h = tt
again_take layout past (x ∷ xs) (suc n) h = (h.0, again_take layout (past ++ x ∷ []) xs n h.1)

again_drop : (layout : Layout) (past entries : List Entry) (n : ℕ) → EachAfter (IsMadeAgain layout) past entries →
    EachAfter (IsMadeAgain layout) (past ++ take n entries) (drop n entries)
again_drop layout past entries zero h = subst (λ (j : List Entry). EachAfter (IsMadeAgain layout) j entries) (sym (append-nil past)) h
again_drop layout past [] (suc n) h = tt
again_drop layout past (x ∷ xs) (suc n) h =
    subst (λ (j : List Entry). EachAfter (IsMadeAgain layout) j (drop n xs)) (append_assoc past (x ∷ []) (take n xs))
    (again_drop layout (past ++ x ∷ []) xs n h.1)

pub again_between : (layout : Layout) (entries : List Entry) (n m : ℕ) → EachAfter (IsMadeAgain layout) [] entries →
    EachAfter (IsMadeAgain layout) (take n entries) (take m (drop n entries))
again_between layout entries n m h = again_take layout (take n entries) (drop n entries) m (again_drop layout [] entries n h)

taken_next : (xs : List Entry) (i : ℕ) (d : Entry) → i < length xs → take (i + 1) xs ≡ take i xs ++ get_or xs i d ∷ []
taken_next xs i d below = rw add-one (take-suc xs i d below)

pub journal_next : (past entries journal next : List Entry) (i : ℕ) (d : Entry) → i < length entries → journal ≡ past ++ take i entries →
    next ≡ journal ++ get_or entries i d ∷ [] → next ≡ past ++ take (i + 1) entries
journal_next past entries journal next i d less is step =
    step
    ∙ ap (λ (j : List Entry). j ++ get_or entries i d ∷ []) is
    ∙ append_assoc past (take i entries) (get_or entries i d ∷ [])
    ∙ ap (λ (j : List Entry). past ++ j) (sym (taken_next entries i d less))

pub keep_next : (layout now after : Layout) (past entries journal next : List Entry) (i line : ℕ) (x : Entry) (tracks : List LaneTracked) → now ≡ layout →
    journal ≡ past ++ take i entries → after ≡ now → next ≡ journal ++ x ∷ [] → tracks ≡ map (tracked layout line past (take i entries)) layout.ends →
    IsLawful now → IsHistory now journal → IsMadeAgain now journal x → AllKeep after next tracks after.ends
keep_next layout now after past entries journal next i line x tracks same is still step are lawful history again =
    let to : now ≡ layout = same in
    let end : after ≡ layout = still ∙ same in
    let whole : next ≡ (past ++ take i entries) ++ x ∷ [] = step ∙ ap (λ (j : List Entry). j ++ x ∷ []) is in
    let law : IsLawful layout = subst (λ (l : Layout). IsLawful l) to lawful in
    let story : IsHistory layout (past ++ take i entries) = subst (λ (j : List Entry). IsHistory layout j) is
    (subst (λ (l : Layout). IsHistory l journal) to history) in
    let made : IsMadeAgain layout (past ++ take i entries) x =
    subst (λ (j : List Entry). IsMadeAgain layout j x) is (subst (λ (l : Layout). IsMadeAgain l journal x) to again) in
    subst (λ (l : Layout). AllKeep l next tracks l.ends) (sym end)
    (subst (λ (j : List Entry). AllKeep layout j tracks layout.ends) (sym whole)
    (subst (λ (ts : List LaneTracked). AllKeep layout ((past ++ take i entries) ++ x ∷ []) ts layout.ends) (sym are)
    (all_keep_map layout ((past ++ take i entries) ++ x ∷ []) (tracked layout line past (take i entries)) layout.ends
    (λ (s : EndSetting). keeps_next layout (past ++ take i entries) x s.id (lane_value (tracked layout line past (take i entries) s)) law story
    (may_follow layout (past ++ take i entries) x made)
    (tracked_value layout line past (take i entries) s)))))

pub tracks_next : (layout now after : Layout) (past entries journal next : List Entry) (i line place : ℕ) (d : Entry) (tracks new : List LaneTracked) →
    i < length entries → place ≡ line + 1 + i → now ≡ layout → journal ≡ past ++ take i entries → after ≡ now → next ≡ journal ++ get_or entries i d ∷ [] →
    tracks ≡ map (tracked layout line past (take i entries)) layout.ends → new ≡ all_followed after next place tracks after.ends →
    new ≡ map (tracked layout line past (take (i + 1) entries)) layout.ends
tracks_next layout now after past entries journal next i line place d tracks new less at same is still step are made =
    let x = get_or entries i d in
    let end : after ≡ layout = still ∙ same in
    let whole : next ≡ (past ++ take i entries) ++ x ∷ [] = step ∙ ap (λ (j : List Entry). j ++ x ∷ []) is in
    let long : length (take i entries) ≡ i = length-take-le i entries (omega (arith, less)) in
    made
    ∙ ap (λ (l : Layout). all_followed l next place tracks l.ends) end
    ∙ ap (λ (j : List Entry). all_followed layout j place tracks layout.ends) whole
    ∙ ap (λ (ts : List LaneTracked). all_followed layout ((past ++ take i entries) ++ x ∷ []) place ts layout.ends) are
    ∙ all_next layout line place past (take i entries) x layout.ends (omega (arith, at, long))
    ∙ ap (λ (j : List Entry). map (tracked layout line past j) layout.ends) (sym (taken_next entries i d less))

-- ---- tracks that begin anew

restarted_map : (layout : Layout) (line last : ℕ) (entries : List Entry) (ends : List EndSetting) →
    map (λ (t : LaneTracked). lane_begun (lane_value t) last) (map (tracked layout line [] entries) ends) ≡ map (tracked layout last entries []) ends
restarted_map layout line last entries [] = refl
restarted_map layout line last entries (s ∷ ss) = rw (tracked_value layout line [] entries s, restarted_map layout line last entries ss) refl

pub restarted : (layout : Layout) (line last : ℕ) (journal entries : List Entry) (tracks begun : List LaneTracked) → journal ≡ [] →
    tracks ≡ map (tracked layout line journal entries) layout.ends → begun ≡ map (λ (t : LaneTracked). lane_begun (lane_value t) last) tracks →
    begun ≡ map (tracked layout last entries []) layout.ends
restarted layout line last journal entries tracks begun fresh are made =
    made
    ∙ ap (λ (ts : List LaneTracked). map (λ (t : LaneTracked). lane_begun (lane_value t) last) ts) (are
    ∙ ap (λ (j : List Entry). map (tracked layout line j entries) layout.ends) fresh)
    ∙ restarted_map layout line last entries layout.ends

-- ---- the lanes of some lines

pub lanes_made : (layout now : Layout) (line until start count many : ℕ) (entries journal : List Entry) (ends listed : List EndLine) (tracks : List LaneTracked)
    (made : List LaneLists) → now ≡ layout → layout.ends ≡ map setting_of ends → journal ≡ take start entries → many ≡ count → until ≡ line + 1 + count →
    start + count ≤ length entries → tracks ≡ map (tracked now line journal (take many (drop start entries))) now.ends → listed ≡ ends →
    made ≡ all_ended until tracks listed → made ≡ map (λ (e : EndLine). lane_of e line (standings layout e.id (take start entries)
    (take count (drop start entries)))) ends
lanes_made layout now line until start count many entries journal ends listed tracks made same settings is number last within are list ended =
    let left = length-drop start entries in
    let long : length (take count (drop start entries)) ≡ count = length-take-le count (drop start entries) (omega (arith, within, left)) in
    ended
    ∙ ap (λ (es : List EndLine). all_ended until tracks es) list
    ∙ ap (λ (ts : List LaneTracked). all_ended until ts ends)
    (are
    ∙ ap (λ (l : Layout). map (tracked l line journal (take many (drop start entries))) l.ends) same
    ∙ ap (λ (j : List Entry). map (tracked layout line j (take many (drop start entries))) layout.ends) is
    ∙ ap (λ (n : ℕ). map (tracked layout line (take start entries) (take n (drop start entries))) layout.ends) number
    ∙ ap (λ (ss : List EndSetting). map (tracked layout line (take start entries) (take count (drop start entries))) ss) settings)
    ∙ lanes_are layout line until (take start entries) (take count (drop start entries)) ends (omega (arith, last, long))
