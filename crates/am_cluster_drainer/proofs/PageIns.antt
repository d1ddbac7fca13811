-- Page-ins, one after the other.
use Rattle.std.proofs.Common.{◌≡◌, ℕ, suc, ◌-◌, ◌<◌, List, Err, Bool, sym, ◌∙◌, ap, subst, arith}
use Rattle.am_names.specs.declared.EndpointId.{EndpointId}
use Rattle.am_names.specs.declared.NodeId.{NodeId}
use Rattle.am_office_entries.specs.declared.Event.TheVariants as Events
use Rattle.am_office_entries.specs.declared.Entry.{Entry}
use Rattle.am_model.specs.Endpoint.{is_on_disk}
use Rattle.am_model.specs.Layout.{Layout}
use Rattle.am_model.specs.History.{state_of}
use Rattle.am_scenario_types.specs.Lists.{ScenarioLists}
use Rattle.am_model_scripts.specs.Layout.{layout_of}
use Rattle.am_model_drain.specs.Made.{after_event_if}
use Rattle.am_model_drain.specs.Ready.{paged_in}
use Rattle.am_model_drain.proofs.Quiet.{paged_in-quiet}
use Rattle.am_model.specs.declared.EntryFault.{EntryFault}
use Rattle.am_cluster_drainer.specs.Stops.{Reaches, Does, Acts}
use Rattle.am_cluster_drainer.proofs.Acting.{reaches_then, acts_less, quiet_extends}

-- the journal after one page-in of so many
abbrev once : Layout → NodeId → EndpointId → List Entry → List Entry
once layout node e past = after_event_if (is_on_disk (state_of layout past e).head.place) layout (Events.PageIn node e) past

-- the machine's page-in is the planned one
once_is : (s s0 : ScenarioLists) (node : NodeId) (e : EndpointId) (past : List Entry) (on_disk : Bool) → s ≡ s0 →
    on_disk ≡ is_on_disk (state_of (layout_of s) past e).head.place →
    after_event_if on_disk (layout_of s) (Events.PageIn node e) past ≡ once (layout_of s0) node e past
once_is s s0 node e past on_disk same test =
    ap (λ (b : Bool). after_event_if b (layout_of s) (Events.PageIn node e) past) test ∙ ap (λ (x : ScenarioLists). once (layout_of x) node e past) same

step : (n k : ℕ) (layout : Layout) (node : NodeId) (e : EndpointId) (past : List Entry) → n ≡ suc k →
    paged_in n layout node e past ≡ paged_in k layout node e (once layout node e past)
step n k layout node e past number = ap (λ (i : ℕ). paged_in i layout node e past) number

pub left_after : (n k : ℕ) (s s0 : ScenarioLists) (node : NodeId) (e : EndpointId) (past next all : List Entry) (on_disk : Bool) → s ≡ s0 →
    on_disk ≡ is_on_disk (state_of (layout_of s) past e).head.place → n ≡ suc k → paged_in n (layout_of s0) node e past ≡ all →
    next ≡ after_event_if on_disk (layout_of s) (Events.PageIn node e) past → paged_in k (layout_of s0) node e next ≡ all
left_after n k s s0 node e past next all on_disk same test number is_all made =
    ap (λ (xs : List Entry). paged_in k (layout_of s0) node e xs) (made ∙ once_is s s0 node e past on_disk same test)
    ∙ (sym (step n k (layout_of s0) node e past number) ∙ is_all)

pub left_stopped : {U V : Type 0} (n : ℕ) (s s0 : ScenarioLists) (node : NodeId) (e : EndpointId) (first past all journal : List Entry) (fault : EntryFault)
    (on_disk : Bool) → s ≡ s0 → on_disk ≡ is_on_disk (state_of (layout_of s) past e).head.place → 0 < n → paged_in n (layout_of s0) node e past ≡ all →
    Reaches s0 first past → Acts {U = U} s (Err fault) past (after_event_if on_disk (layout_of s) (Events.PageIn node e) past) journal →
    Acts {U = V} s0 (Err fault) first all journal
left_stopped {U} {V} n s s0 node e first past all journal fault on_disk same test some is_all reached acts =
    let k : ℕ = n - 1 in
    let number : n ≡ suc k = omega (arith, some) in
    let one : List Entry = once (layout_of s0) node e past in
    let here : Acts {U = U} s (Err fault) past one journal = subst (λ (xs : List Entry). Acts {U = U} s (Err fault) past xs journal)
    (once_is s s0 node e past on_disk same test) acts in
    let there : Acts {U = U} s0 (Err fault) past one journal = subst (λ (x : ScenarioLists). Acts {U = U} x (Err fault) past one journal) same here in
    let whole : Acts {U = V} s0 (Err fault) past (paged_in k (layout_of s0) node e one) journal =
    acts_less s0 fault past one (paged_in k (layout_of s0) node e one) journal (quiet_extends one (paged_in k (layout_of s0) node e one)
    (paged_in-quiet k (layout_of s0) node e one)) there in
    record {
      does = subst (λ (xs : List Entry). Does {U = V} s0 (Err fault) xs journal) (sym (step n k (layout_of s0) node e past number) ∙ is_all) whole.does;
      reaches = reaches_then s s0 first past journal same reached acts.reaches;
    }
