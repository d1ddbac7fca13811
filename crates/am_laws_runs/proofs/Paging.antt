-- An endpoint leaves the disk: no more page calls fail than there are faults left.
use Rattle.std.proofs.Common.{◌≡◌, ℕ, zero, suc, ◌+◌, ◌<◌, ◌≤◌, Bool, true, false, cond, List, [], ◌∷◌, length, None, refl, sym, ap, ◌∙◌, subst, arith}
use Rattle.std.proofs.Common.{true≢false, ltb-true, ltb-false, eqb-true, if◌then◌else◌}
use Rattle.std.specs.Prelude.{◌&&◌, ◌||◌, ◌==◌, not, nat_lt}
use Rattle.std.specs.List.{list_any}
use Rattle.std.proofs.lemmas.List.Sums.{sum_by_push}
use Rattle.am_lemmas.proofs.Options.{cond-None}
use Rattle.am_names.specs.declared.EndpointId.{EndpointId}
use Rattle.am_names.specs.declared.NodeId.{NodeId}
use Rattle.am_names.specs.Names.{same_node}
use Rattle.am_office_entries.specs.declared.Condition.TheVariants as Needs
use Rattle.am_office_entries.specs.declared.Event.TheVariants as Events
use Rattle.am_office_entries.specs.declared.Outcome.TheVariants as Out
use Rattle.am_office_entries.specs.declared.Entry.{Entry}
use Rattle.am_model.specs.Endpoint.{State, is_on_disk}
use Rattle.am_model.specs.Changes.{paged_in}
use Rattle.am_model.specs.Layout.{Layout, Fault}
use Rattle.am_model.specs.History.{IsHistory, state_of, page, is_page_call, is_home, page_calls}
use Rattle.am_model.proofs.Each.{state_of_push}
use Rattle.am_model.proofs.Names.{same_end-refl, same_node-refl}
use Rattle.am_model_drain.specs.Made.{next_entry, after_event, after_event_if}
use Rattle.am_model_drain.specs.Ready.{paged_in as page_ins, off_disk}
use Rattle.am_laws_runs.proofs.Enabled.{event_follows, IsSeated, seat_in_range}

-- ---- the faults that are left

-- how many of these faults are of page calls after so many
abbrev faults_after : NodeId → ℕ → List Fault → ℕ
faults_after node n [] = 0
faults_after node n (f ∷ fs) = cond (same_node node f.node && nat_lt n f.number) 1 0 + faults_after node n fs

abbrev is_fault : NodeId → ℕ → Fault → Bool
is_fault node n f = same_node node f.node && (f.number == n)

few : (node : NodeId) (n : ℕ) (fs : List Fault) → faults_after node n fs ≤ length fs
few node n [] = omega arith
few node n (f ∷ fs) = by_test (same_node node f.node && nat_lt n f.number) (few node n fs)
  where
    by_test : (b : Bool) → faults_after node n fs ≤ length fs → cond b 1 0 + faults_after node n fs ≤ length (f ∷ fs)
    by_test true h = omega (arith, h)
    by_test false h = omega (arith, h)

-- a later call leaves no more
no_more_after : (node : NodeId) (n : ℕ) (fs : List Fault) → faults_after node (n + 1) fs ≤ faults_after node n fs
no_more_after node n [] = omega arith
no_more_after node n (f ∷ fs) = by_tests (same_node node f.node) (nat_lt (n + 1) f.number) (nat_lt n f.number) refl refl (no_more_after node n fs)
  where
    by_tests : (a b c : Bool) → nat_lt (n + 1) f.number ≡ b → nat_lt n f.number ≡ c → faults_after node (n + 1) fs ≤ faults_after node n fs →
        cond (a && b) 1 0 + faults_after node (n + 1) fs ≤ cond (a && c) 1 0 + faults_after node n fs
    by_tests false b c later now h = omega (arith, h)
    by_tests true false false later now h = omega (arith, h)
    by_tests true false true later now h = omega (arith, h)
    by_tests true true true later now h = omega (arith, h)
    by_tests true true false later now h = absurd (omega (arith, ltb-true (n + 1) f.number later, ltb-false n f.number now))

-- a call that fails uses a fault up
one_less : (node : NodeId) (n : ℕ) (fs : List Fault) → list_any (is_fault node (n + 1)) fs ≡ true → faults_after node (n + 1) fs + 1 ≤ faults_after node n fs
one_less node n [] h = absurd (true≢false (sym h))
one_less node n (f ∷ fs) h = by_tests (same_node node f.node) (f.number == n + 1) (nat_lt (n + 1) f.number) (nat_lt n f.number) refl refl refl h
    (one_less node n fs)
  where
    by_tests : (a e b c : Bool) → (f.number == n + 1) ≡ e → nat_lt (n + 1) f.number ≡ b → nat_lt n f.number ≡ c →
        ((a && e) || list_any (is_fault node (n + 1)) fs) ≡ true → (list_any (is_fault node (n + 1)) fs ≡ true →
        faults_after node (n + 1) fs + 1 ≤ faults_after node n fs) →
        cond (a && b) 1 0 + faults_after node (n + 1) fs + 1 ≤ cond (a && c) 1 0 + faults_after node n fs
    by_tests false e b c same later now k less = omega (arith, less k)
    by_tests true false false false same later now k less = omega (arith, less k)
    by_tests true false false true same later now k less = omega (arith, less k)
    by_tests true false true true same later now k less = omega (arith, less k)
    by_tests true false true false same later now k less = absurd (omega (arith, ltb-true (n + 1) f.number later, ltb-false n f.number now))
    by_tests true true true c same later now k less = absurd (omega (arith, eqb-true f.number (n + 1) same, ltb-true (n + 1) f.number later))
    by_tests true true false true same later now k less = omega (arith, no_more_after node n fs)
    by_tests true true false false same later now k less = absurd (omega (arith, eqb-true f.number (n + 1) same, ltb-false n f.number now))

-- ---- one page-in

one_call_more : (layout : Layout) (node : NodeId) (e : EndpointId) (past : List Entry) →
    page_calls node (after_event layout (Events.PageIn node e) past) ≡ page_calls node past + 1
one_call_more layout node e past =
    let x : Entry = next_entry layout past (Events.PageIn node e) in
    let own : ◌≡◌ {A = ℕ} (cond (same_node node node) 1 0) 1 = ap (λ (b : Bool). cond b 1 0) (same_node-refl node) in
    let pushed = sum_by_push (λ (y : Entry). cond (is_page_call node y.event) 1 0) past x in
    omega (arith, own, pushed)

pub after_page_in : (layout : Layout) (node : NodeId) (e : EndpointId) (past : List Entry) →
    state_of layout (after_event layout (Events.PageIn node e) past) e ≡ paged_in (state_of layout past e) (page layout node past)
after_page_in layout node e past =
    state_of_push layout past (next_entry layout past (Events.PageIn node e)) e true (ap (λ (b : Bool). b || false) (same_end-refl e))

-- where an endpoint is on disk, a page-in may happen
page_in_happens : (layout : Layout) (node : NodeId) (e : EndpointId) (past : List Entry) → layout.direct ≡ false → IsHistory layout past →
    IsSeated layout e node → is_on_disk (state_of layout past e).head.place ≡ true → IsHistory layout (after_event layout (Events.PageIn node e) past)
page_in_happens layout node e past packet h seated on_disk =
    event_follows layout past (Events.PageIn node e) h (seat_in_range layout e node seated)
    (cond-None layout.direct Needs.NotPacket _ packet
    (cond-None (not (is_home layout e node)) Needs.OtherNode _ (ap not seated.home)
    (cond-None (not (is_on_disk (state_of layout past e).head.place)) Needs.NotOnDisk None (ap not on_disk) refl)))

-- ---- page-ins until one does not fail

-- a history that is left off disk
pub record IsOffDisk (layout : Layout) (e : EndpointId) (journal : List Entry) : Type 0 where
  pub history : IsHistory layout journal
  pub off : is_on_disk (state_of layout journal e).head.place ≡ false

stays_off : (n : ℕ) (layout : Layout) (node : NodeId) (e : EndpointId) (past : List Entry) → is_on_disk (state_of layout past e).head.place ≡ false →
    page_ins n layout node e past ≡ past
stays_off zero layout node e past off = refl
stays_off (suc n) layout node e past off =
    let same : after_event_if (is_on_disk (state_of layout past e).head.place) layout (Events.PageIn node e) past ≡ past =
    ap (λ (b : Bool). after_event_if b layout (Events.PageIn node e) past) off in
    ap (page_ins n layout node e) same ∙ stays_off n layout node e past off

comes_off : (n : ℕ) (layout : Layout) (node : NodeId) (e : EndpointId) (past : List Entry) → layout.direct ≡ false → IsHistory layout past →
    IsSeated layout e node → faults_after node (page_calls node past) layout.faults < n → IsOffDisk layout e (page_ins n layout node e past)
comes_off zero layout node e past packet h seated most = absurd (omega (arith, most))
comes_off (suc n) layout node e past packet h seated most =
    by_disk (λ next g few. comes_off n layout node e next packet g seated few) (is_on_disk (state_of layout past e).head.place) refl
  where
    by_outcome : ((next : List Entry) → IsHistory layout next → faults_after node (page_calls node next) layout.faults < n →
        IsOffDisk layout e (page_ins n layout node e next)) → is_on_disk (state_of layout past e).head.place ≡ true → (b : Bool) →
        list_any (is_fault node (page_calls node past + 1)) layout.faults ≡ b →
        IsOffDisk layout e (page_ins n layout node e (after_event layout (Events.PageIn node e) past))
    by_outcome more on true fails =
        let less = one_less node (page_calls node past) layout.faults fails in
        let calls = ap (λ (k : ℕ). faults_after node k layout.faults) (one_call_more layout node e past) in
        more (after_event layout (Events.PageIn node e) past) (page_in_happens layout node e past packet h seated on) (omega (arith, less, calls, most))
    by_outcome more on false works =
        let done : page layout node past ≡ Out.Done = ap (λ (b : Bool). if b then Out.Failed else Out.Done) works in
        let off : is_on_disk (state_of layout (after_event layout (Events.PageIn node e) past) e).head.place ≡ false =
        ap (λ (s : State). is_on_disk s.head.place) (after_page_in layout node e past ∙ ap (paged_in (state_of layout past e)) done) in
        subst (λ (xs : List Entry). IsOffDisk layout e xs) (sym (stays_off n layout node e (after_event layout (Events.PageIn node e) past) off))
        (record { history = page_in_happens layout node e past packet h seated on; off = off })

    by_disk : ((next : List Entry) → IsHistory layout next → faults_after node (page_calls node next) layout.faults < n →
        IsOffDisk layout e (page_ins n layout node e next)) → (b : Bool) → is_on_disk (state_of layout past e).head.place ≡ b →
        IsOffDisk layout e (page_ins n layout node e (after_event_if b layout (Events.PageIn node e) past))
    by_disk more true on = by_outcome more on (list_any (is_fault node (page_calls node past + 1)) layout.faults) refl
    by_disk more false off =
        subst (λ (xs : List Entry). IsOffDisk layout e xs) (sym (stays_off n layout node e past off)) (record { history = h; off = off })

-- an endpoint that is taken off the disk leaves it
pub leaves_disk : (layout : Layout) (node : NodeId) (e : EndpointId) (past : List Entry) → layout.direct ≡ false → IsHistory layout past →
    IsSeated layout e node → IsOffDisk layout e (off_disk layout node e past)
leaves_disk layout node e past packet h seated =
    comes_off (length layout.faults + 1) layout node e past packet h seated (omega (arith, few node (page_calls node past) layout.faults))
