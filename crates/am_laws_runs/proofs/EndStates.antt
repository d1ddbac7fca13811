-- What an entry makes of the work that the lists of the endpoints hold.
use Rattle.std.proofs.Common.{◌≡◌, ℕ, ◌+◌, ◌≤◌, Bool, true, false, ◌||◌, List, [], ◌∷◌, ◌++◌, map, length, length-append, Option, Some, None, refl, sym, ap}
use Rattle.std.proofs.Common.{◌∙◌, subst, arith, true≢false, if◌then◌else◌}
use Rattle.std.specs.Prelude.{sum_by}
use Rattle.std.specs.List.{list_any}
use Rattle.std.proofs.lemmas.List.Sums.{sum_by-cons, sum_by_push, sum_by-le-sum_by}
use Rattle.std.proofs.lemmas.Bool.{or_left}
use Rattle.am_names.specs.declared.EndpointId.{EndpointId}
use Rattle.am_names.specs.declared.Message.{Message}
use Rattle.am_names.specs.declared.Why.{Why}
use Rattle.am_names.specs.Names.{same_end, is_request}
use Rattle.am_office_entries.specs.declared.Entry.{Entry}
use Rattle.am_office_entries.specs.Entries.{ends_touched, touches}
use Rattle.am_model.specs.declared.Flying.{Flying}
use Rattle.am_model.specs.declared.Notice.{Notice}
use Rattle.am_model.specs.declared.Queued.{Queued}
use Rattle.am_model.specs.Endpoint.{State, Body}
use Rattle.am_model.specs.Changes.{changed, appended, notice_of, requeued_flight}
use Rattle.am_model.specs.Layout.{EndSetting, IsLawful, has_id, declared}
use Rattle.am_model.specs.History.{state_of}
use Rattle.am_model.proofs.Each.{state_of_push}
use Rattle.am_model.proofs.Names.{same_end-is, same_end-refl}
use Rattle.am_scenario_types.specs.Lists.{ScenarioLists}
use Rattle.am_model_scripts.specs.Layout.{layout_of}
use Rattle.am_model_scripts.specs.Standings.{standings, standing_in}
use Rattle.am_laws_runs.specs.Turns.Work.{queued_work, received_work, end_work}
use Rattle.am_laws_runs.proofs.Sums.{one_more, ends_one}

-- what an endpoint's lists are still to cause
abbrev pub body_work : ScenarioLists → Body → ℕ
body_work s b = sum_by (queued_work s) b.requests + sum_by (queued_work s) b.replies + length b.notices + sum_by (received_work s) b.received

abbrev pub work_at : ScenarioLists → List Entry → EndpointId → ℕ
work_at s past e = body_work s (state_of (layout_of s) past e).body

abbrev pub ends_work : ScenarioLists → List Entry → ℕ
ends_work s past = sum_by (end_work s) (standings (layout_of s) past)

pub sum_mapped : {X Y : Type 0} (w : Y → ℕ) (f : X → Y) (xs : List X) → sum_by w (map f xs) ≡ sum_by (λ (x : X). w (f x)) xs
sum_mapped w f [] = refl
sum_mapped {X} w f (x ∷ xs) = omega (arith, sum_mapped w f xs, sum_by-cons w (f x) (map f xs), sum_by-cons (λ (y : X). w (f y)) x xs)

ends_mapped : (s : ScenarioLists) (past : List Entry) → ends_work s past ≡ sum_by (λ (x : EndSetting). work_at s past x.id) (layout_of s).ends
ends_mapped s past = sum_mapped (end_work s) (standing_in (layout_of s) past) (layout_of s).ends

-- where the work of one endpoint changes
ends_more : (s : ScenarioLists) (past next : List Entry) (e : EndpointId) (a b : ℕ) → IsLawful (layout_of s) → declared (layout_of s) e ≡ true →
    ((f : EndpointId) → same_end e f ≡ false → work_at s next f ≤ work_at s past f) → work_at s next e + a ≤ work_at s past e + b →
    ends_work s next + a ≤ ends_work s past + b
ends_more s past next e a b ok known others here =
    let one = one_more (λ (x : EndSetting). work_at s past x.id) (λ (x : EndSetting). work_at s next x.id) (has_id e) a b (layout_of s).ends
    (λ (x : EndSetting) is. others x.id is)
    (λ (x : EndSetting) is. subst (λ (i : EndpointId). work_at s next i + a ≤ work_at s past i + b) (same_end-is e x.id is) here)
    (ends_one e (layout_of s).ends ok.ids known) in
    omega (arith, ends_mapped s past, ends_mapped s next, one)

-- where no endpoint's work grows
pub ends_fewer : (s : ScenarioLists) (past next : List Entry) → ((f : EndpointId) → work_at s next f ≤ work_at s past f) → ends_work s next ≤ ends_work s past
ends_fewer s past next h =
    omega (
      arith,
      ends_mapped s past,
      ends_mapped s next,
      sum_by-le-sum_by (λ (x : EndSetting). work_at s next x.id) (λ (x : EndSetting). work_at s past x.id)
          (layout_of s).ends (λ (x : EndSetting). h x.id),
    )

other_end : (e f : EndpointId) → same_end e f ≡ false → (same_end f e || false) ≡ false
other_end e f apart = by_test (same_end f e) refl
  where
    by_test : (b : Bool) → same_end f e ≡ b → (b || false) ≡ false
    by_test true is = absurd (true≢false (sym (same_end-refl e) ∙ (ap (same_end e) (sym (same_end-is f e is)) ∙ apart)))
    by_test false is = refl

-- after an entry that touches the endpoint e alone
pub entry_ends : (s : ScenarioLists) (past : List Entry) (x : Entry) (e : EndpointId) (a b : ℕ) → IsLawful (layout_of s) → declared (layout_of s) e ≡ true →
    ends_touched x.event x.outcome ≡ e ∷ [] → body_work s (changed e (state_of (layout_of s) past e) x.event x.outcome).body + a ≤ work_at s past e + b →
    ends_work s (past ++ x ∷ []) + a ≤ ends_work s past + b
entry_ends s past x e a b ok known touched here = ends_more s past (past ++ x ∷ []) e a b ok known others own
  where
    others : (f : EndpointId) → same_end e f ≡ false → work_at s (past ++ x ∷ []) f ≤ work_at s past f
    others f apart =
        let none : touches f x ≡ false = ap (list_any (same_end f)) touched ∙ other_end e f apart in
        let same : work_at s (past ++ x ∷ []) f ≡ work_at s past f = ap (λ (z : State). body_work s z.body) (state_of_push (layout_of s) past x f false none) in
        omega (arith, same)

    own : work_at s (past ++ x ∷ []) e + a ≤ work_at s past e + b
    own =
        let at : touches e x ≡ true = ap (list_any (same_end e)) touched ∙ or_left (same_end e e) false (same_end-refl e) in
        let same : work_at s (past ++ x ∷ []) e ≡ body_work s (changed e (state_of (layout_of s) past e) x.event x.outcome).body =
        ap (λ (z : State). body_work s z.body) (state_of_push (layout_of s) past x e true at) in
        omega (arith, same, here)

-- after an entry that touches none
pub entry_none : (s : ScenarioLists) (past : List Entry) (x : Entry) → ends_touched x.event x.outcome ≡ [] → ends_work s (past ++ x ∷ []) ≤ ends_work s past
entry_none s past x touched = ends_fewer s past (past ++ x ∷ []) each
  where
    each : (f : EndpointId) → work_at s (past ++ x ∷ []) f ≤ work_at s past f
    each f =
        let same : work_at s (past ++ x ∷ []) f ≡ work_at s past f =
        ap (λ (z : State). body_work s z.body) (state_of_push (layout_of s) past x f false (ap (list_any (same_end f)) touched)) in
        omega (arith, same)

-- ---- a message more

-- a message at the tail of the list that is for it
pub appended_work : (s : ScenarioLists) (m : Message) (n : ℕ) (requests replies : List Queued) (b : Bool) →
    sum_by (queued_work s) (appended b m n requests) + sum_by (queued_work s) (appended (if b then false else true) m n replies) ≡ sum_by (queued_work s)
    requests + sum_by (queued_work s) replies + queued_work s (record { message = m; bounces = n })
appended_work s m n requests replies true = omega (arith, sum_by_push (queued_work s) requests (record { message = m; bounces = n }))
appended_work s m n requests replies false = omega (arith, sum_by_push (queued_work s) replies (record { message = m; bounces = n }))

-- a flight at the tail of its queue
pub requeued_work : (s : ScenarioLists) (m : Message) (n : ℕ) (b : Body) (f : Option Flying) → ((g : Flying) → f ≡ Some g → g.message ≡ m) →
    body_work s (requeued_flight f n b) ≤ body_work s b + queued_work s (record { message = m; bounces = n })
requeued_work s m n b None is = omega arith
requeued_work s m n b (Some g) is =
    let same : queued_work s (record { message = g.message; bounces = n }) ≡ queued_work s (record { message = m; bounces = n }) =
    ap (λ (w : Message). queued_work s (record { message = w; bounces = n })) (is g refl) in
    omega (arith, appended_work s g.message n b.requests b.replies (is_request g.message), same)

-- a flight as a notice
pub notice_one : (why : Why) (f : Option Flying) (ns : List Notice) → length (ns ++ notice_of why f) ≤ length ns + 1
notice_one why None ns = omega (arith, length-append ns [])
notice_one why (Some f) ns = omega (arith, length-append ns (record { message = f.message; bounces = f.bounces; why = why } ∷ []))
