-- The swaps of a cluster, one entry more.
use Rattle.std.specs.Prelude.{slice_get, slice_set}
use Rattle.std.specs.List.{list_any}
use Rattle.std.proofs.Common.{◌≡◌, ⊎_elim, ℕ, zero, suc, ◌+◌, ◌<◌, ◌^◌, Bool, true, false, ◌||◌, List, [], ◌∷◌, ◌++◌, length, Option, Some, refl, sym, ap, ◌∙◌}
use Rattle.std.proofs.Common.{subst, arith, true≢false, eqb-true, eq-eqb, if◌then◌else◌}
use Rattle.std.proofs.lemmas.Bool.{and_from, or_left}
use Rattle.std.proofs.lemmas.List.{length-set}
use Rattle.am_lemmas.proofs.Lists.{slice_get-set_cases}
use Rattle.am_names.specs.declared.EndpointId.{EndpointId}
use Rattle.am_names.specs.declared.NodeId.{NodeId}
use Rattle.am_names.specs.Names.{same_end, same_node}
use Rattle.am_office_entries.specs.declared.Event.{Event}
use Rattle.am_office_entries.specs.declared.Event.TheVariants as Events
use Rattle.am_office_entries.specs.declared.Outcome.TheVariants as Out
use Rattle.am_office_entries.specs.declared.Entry.{Entry}
use Rattle.am_office_entries.specs.Entries.{ends_touched, touches}
use Rattle.am_model.specs.Changes.{changed, paged_out}
use Rattle.am_model.specs.Endpoint.{Body, State, is_on_disk}
use Rattle.am_model.specs.History.{IsHistory, MayFollow, is_home, is_page_call, state_of, page_calls, is_home_by}
use Rattle.am_model.specs.Layout.{EndSetting, IsLawful, Layout, node_at}
use Rattle.am_model.proofs.Each.{state_of_push}
use Rattle.am_model.proofs.Names.{same_end-is, same_end-refl}
use Rattle.am_model.proofs.Unchanged.{paged_out_body}
use Rattle.am_model.proofs.PlaceKinds.{on_host_not_on_disk}
use Rattle.am_model_parts.proofs.Growing.{calls_push}
use Rattle.am_model_parts.proofs.Homes.{one_home}
use Rattle.am_laws_cluster.specs.Disk.Disk.{StaysOnDisk, pages_out}
use Rattle.am_laws_cluster.proofs.Still.{stays}
use Rattle.am_swap_device.specs.Causes.{fails_after, one_more}
use Rattle.am_swap_device.specs.Memory.{Store, counted, faulted, held_for, with_held}
use Rattle.am_swap_device.proofs.Held.{holds_instead}
use Rattle.am_swap_image.specs.Image.{image}
use Rattle.am_swap_image.specs.Valid.{IsValid}
use Rattle.am_driver_moves.specs.Logs.{EndLog, state_in}
use Rattle.am_driver_moves.specs.Pages.{CanPage, CanPageOut, HoldsBody, IsBodyValid, after_call, after_page, is_page, page_outcome}
use Rattle.am_machine.specs.Swaps.{AreSwaps, IsSwap}
use Rattle.am_driver_moves.proofs.Stores.{call_fails, one_more_is, call_calls, held_other, held_still}

-- ---- an entry that is no call of the swap

unpaged_call : (node : NodeId) (event : Event) → is_page event ≡ false → is_page_call node event ≡ false
unpaged_call node (Events.PageOut at end) h = absurd (true≢false h)
unpaged_call node (Events.PageIn at end) h = absurd (true≢false h)
unpaged_call node event h = refl

unpaged_out : (e : EndpointId) (event : Event) → is_page event ≡ false → pages_out e event ≡ false
unpaged_out e (Events.PageOut at end) h = absurd (true≢false h)
unpaged_out e event h = refl

-- what is held for another body that is the same
holds_same : (s t : Store) (pool : Option ℕ) (e : EndpointId) (a b : Body) → held_for t.held e ≡ held_for s.held e → b ≡ a → HoldsBody s pool e a →
    HoldsBody t pool e b
holds_same s t pool e a b held same h =
    record { held = held ∙ h.held ∙ ap (λ (c : Body). Some (image c)) (sym same); valid = subst (IsValid e pool) (sym same) h.valid }

-- the entry pages out no endpoint of the node
abbrev LeavesEnds : Layout → NodeId → Event → Type 0
LeavesEnds layout node event = (k : ℕ) (end : EndSetting) → slice_get layout.ends k ≡ Some end → end.node ≡ node → pages_out end.id event ≡ false

swap_same : (layout : Layout) (journal : List Entry) (x : Entry) (node : NodeId) (s : Store) → StaysOnDisk layout journal x →
    is_page_call node x.event ≡ false → LeavesEnds layout node x.event → IsSwap layout journal node s → IsSwap layout (journal ++ x ∷ []) node s
swap_same layout journal x node s still uncalled leaves is =
    record {
      fails = is.fails;
      calls = (let none = calls_push node journal x false uncalled in omega (arith, is.calls, none));
      bodies =
          λ k end at here on.
          (let there = still end.id (leaves k end at here) on in
          holds_same s s layout.pool end.id (state_of layout journal end.id).body (state_of layout (journal ++ x ∷ []) end.id).body refl there.body
          (is.bodies k end at here there.there));
    }

none_got : {X : Type 0} (xs : List X) (k : ℕ) (x : X) → length xs ≡ 0 → slice_get xs k ≡ Some x → ⊥
none_got [] k x none at = absurd (cc)
none_got (y ∷ xs) k x none at = absurd (omega (arith, none))

pub swaps_same : (layout : Layout) (journal : List Entry) (x : Entry) (ss : List Store) → IsLawful layout → IsHistory layout journal →
    MayFollow layout journal x → is_page x.event ≡ false → AreSwaps layout journal ss → AreSwaps layout (journal ++ x ∷ []) ss
swaps_same layout journal x ss lawful history may unpaged are = record { each = λ k s at. by_network k s at layout.direct refl; all = are.all }
  where
    by_network : (k : ℕ) (s : Store) → slice_get ss k ≡ Some s → (direct : Bool) → layout.direct ≡ direct → IsSwap layout (journal ++ x ∷ []) (node_at k) s
    by_network k s at true is = absurd (none_got ss k s (are.all ∙ ap (λ (b : Bool). if b then 0 else layout.nodes) is) at)
    by_network k s at false is =
        swap_same layout journal x (node_at k) s (stays layout journal x is lawful history may) (unpaged_call (node_at k) x.event unpaged)
        (λ j end there here. unpaged_out end.id x.event unpaged) (are.each k s at)

-- ---- a page call

page_fails : (s : Store) (e : EndLog) (event : Event) → (after_page s e event).fails ≡ s.fails
page_fails s e (Events.PageOut node end) = call_fails s (with_held s e.settings.id (image (state_in e).body)) refl
page_fails s e event = call_fails s s refl

page_calls_more : (s : Store) (e : EndLog) (event : Event) → (after_page s e event).calls ≡ one_more s.calls
page_calls_more s e (Events.PageOut node end) = call_calls s (with_held s e.settings.id (image (state_in e).body)) refl
page_calls_more s e event = call_calls s s refl

page_held : (s : Store) (e : EndLog) (event : Event) (f : EndpointId) → CanPage s e event → pages_out f event ≡ false →
    held_for (after_page s e event).held f ≡ held_for s.held f
page_held s e (Events.PageOut node end) f can out =
    held_other s e.settings.id (image (state_in e).body) f (ap (same_end f) (sym can.is_end) ∙ out)
page_held s e (Events.PageIn node end) f can out = held_still s f
page_held s e event f can out = absurd can

-- a page call, in the whole cluster
pub record Paging : Type 0 where
  pub layout : Layout
  pub journal : List Entry
  pub node : NodeId
  pub end : EndpointId
  pub x : Entry
  pub e : EndLog
  pub s : Store
  pub t : Store
  pub swaps : List Store
  pub packet : layout.direct ≡ false
  pub lawful : IsLawful layout
  pub history : IsHistory layout journal
  pub may : MayFollow layout journal x
  pub home : is_home layout end node ≡ true
  pub id : e.settings.id ≡ end
  pub pool : e.settings.pool ≡ layout.pool
  pub state : state_in e ≡ state_of layout journal end
  pub outcome : x.outcome ≡ page_outcome s
  pub called : (other : NodeId) → is_page_call other x.event ≡ same_node other node
  pub moved : (f : EndpointId) → pages_out f x.event ≡ true → f ≡ end
  pub can : CanPage s e x.event
  pub after : t ≡ after_page s e x.event
  pub valid : IsBodyValid e x.event
  pub few : page_calls node journal + 1 < 2 ^ 64
  pub at : slice_get swaps node.0 ≡ Some s
  pub are : AreSwaps layout journal swaps

still_of : (p : Paging) → StaysOnDisk p.layout p.journal p.x
still_of p = stays p.layout p.journal p.x p.packet p.lawful p.history p.may

was_swap : (p : Paging) → IsSwap p.layout p.journal p.node p.s
was_swap p = p.are.each p.node.0 p.s p.at

-- the body that was paged out is held
out_held : (p : Paging) (f : EndpointId) (node : NodeId) (end : EndpointId) → p.x.event ≡ Events.PageOut node end → same_end f end ≡ true →
    is_on_disk (state_of p.layout (p.journal ++ p.x ∷ []) f).head.place ≡ true →
    HoldsBody p.t p.layout.pool f (state_of p.layout (p.journal ++ p.x ∷ []) f).body
out_held p f node end ev same on = by_fails (fails_after p.s.fails p.s.calls) refl
  where
    can : CanPageOut node end p.e
    can = subst (λ (v : Event). CanPage p.s p.e v) ev p.can

    image' : List ℕ
    image' = image (state_in p.e).body

    id : f ≡ p.e.settings.id
    id = same_end-is f end same ∙ can.is_end

    touch : touches f p.x ≡ true
    touch = ap (λ (v : Event). list_any (same_end f) (ends_touched v p.x.outcome)) ev ∙ or_left (same_end f end) false same

    now : state_of p.layout (p.journal ++ p.x ∷ []) f ≡ paged_out (state_of p.layout p.journal f) p.x.outcome
    now = state_of_push p.layout p.journal p.x f true touch ∙ ap (λ (v : Event). changed f (state_of p.layout p.journal f) v p.x.outcome) ev

    before : state_of p.layout p.journal f ≡ state_in p.e
    before = ap (state_of p.layout p.journal) (id ∙ p.id) ∙ sym p.state

    body : (state_of p.layout (p.journal ++ p.x ∷ []) f).body ≡ (state_in p.e).body
    body = ap (λ (s : State). s.body) now ∙ paged_out_body (state_of p.layout p.journal f) p.x.outcome ∙ ap (λ (s : State). s.body) before

    valid : IsValid p.e.settings.id p.e.settings.pool (state_in p.e).body
    valid = subst (λ (v : Event). IsBodyValid p.e v) ev p.valid

    told : p.t ≡ after_call p.s (with_held p.s p.e.settings.id image')
    told = p.after ∙ ap (λ (v : Event). after_page p.s p.e v) ev

    by_fails : (b : Bool) → fails_after p.s.fails p.s.calls ≡ b → HoldsBody p.t p.layout.pool f (state_of p.layout (p.journal ++ p.x ∷ []) f).body
    by_fails true is =
        let failed : p.x.outcome ≡ Out.Failed = p.outcome ∙ ap (λ (b : Bool). if b then Out.Failed else Out.Done) is in
        let stayed : state_of p.layout (p.journal ++ p.x ∷ []) f ≡ state_in p.e = now ∙ ap (paged_out (state_of p.layout p.journal f)) failed ∙ before in
        absurd (on_host_not_on_disk (state_in p.e).head.place can.on_host (ap (λ (s : State). is_on_disk s.head.place) (sym stayed) ∙ on))
    by_fails false is =
        let holds : p.t ≡ counted (with_held p.s p.e.settings.id image') = told
        ∙ ap (λ (b : Bool). if b then faulted p.s else counted (with_held p.s p.e.settings.id image')) is in
        record {
          held =
              ap (λ (s : Store). held_for s.held f) holds
              ∙ holds_instead p.e.settings.id image' p.s.held f
              ∙ ap (λ (b : Bool). if b then Some image' else held_for p.s.held f) (ap (same_end f) (sym id) ∙ same_end-refl f)
              ∙ ap (λ (b : Body). Some (image b)) (sym body);
          valid = coe 0 1 (k. IsValid (sym id k) (p.pool k) (sym body k)) valid;
        }

out_found : (p : Paging) (f : EndpointId) (event : Event) → p.x.event ≡ event → pages_out f event ≡ true →
    is_on_disk (state_of p.layout (p.journal ++ p.x ∷ []) f).head.place ≡ true →
    HoldsBody p.t p.layout.pool f (state_of p.layout (p.journal ++ p.x ∷ []) f).body
out_found p f (Events.PageOut node end) ev out on = out_held p f node end ev out on
out_found p f event ev out on = absurd (true≢false (sym out))

-- the swap that was called
swap_called : (p : Paging) → IsSwap p.layout (p.journal ++ p.x ∷ []) p.node p.t
swap_called p =
    record {
      fails = ap (λ (s : Store). s.fails) p.after ∙ page_fails p.s p.e p.x.event ∙ was.fails;
      calls =
          (let called = calls_push p.node p.journal p.x true (p.called p.node ∙ eq-eqb p.node.0 p.node.0 refl) in
          let more : one_more p.s.calls ≡ p.s.calls + 1 = one_more_is p.s.calls (omega (arith, was.calls, p.few)) in
          ap (λ (s : Store). s.calls) p.after ∙ page_calls_more p.s p.e p.x.event ∙ more ∙ ap (λ (n : ℕ). n + 1) was.calls ∙ sym called);
      bodies = λ k end at here on. by_out k end at here on (pages_out end.id p.x.event) refl;
    }
  where
    was : IsSwap p.layout p.journal p.node p.s
    was = was_swap p

    by_out : (k : ℕ) (end : EndSetting) → slice_get p.layout.ends k ≡ Some end → end.node ≡ p.node →
        is_on_disk (state_of p.layout (p.journal ++ p.x ∷ []) end.id).head.place ≡ true → (b : Bool) → pages_out end.id p.x.event ≡ b →
        HoldsBody p.t p.layout.pool end.id (state_of p.layout (p.journal ++ p.x ∷ []) end.id).body
    by_out k end at here on true is = out_found p end.id p.x.event refl is on
    by_out k end at here on false is =
        let there = still_of p end.id is on in
        holds_same p.s p.t p.layout.pool end.id (state_of p.layout p.journal end.id).body (state_of p.layout (p.journal ++ p.x ∷ []) end.id).body
        (ap (λ (s : Store). held_for s.held end.id) p.after ∙ page_held p.s p.e p.x.event end.id p.can is) there.body (was.bodies k end at here there.there)

-- an endpoint lives where it is declared
declared_there : (ss : List EndSetting) (k : ℕ) (end : EndSetting) → slice_get ss k ≡ Some end → list_any (is_home_by end.id end.node) ss ≡ true
declared_there [] k end at = absurd (cc)
declared_there (s ∷ ss) zero end at =
    let same : s ≡ end = cc in
    let here : is_home_by end.id end.node s ≡ true = subst (λ (w : EndSetting). is_home_by end.id end.node w ≡ true) (sym same)
    (and_from (same_end end.id end.id) (same_node end.node end.node) (same_end-refl end.id) (eq-eqb end.node.0 end.node.0 refl)) in
    ap (λ (b : Bool). b || list_any (is_home_by end.id end.node) ss) here
declared_there (s ∷ ss) (suc k) end at = or_more (is_home_by end.id end.node s) (list_any (is_home_by end.id end.node) ss) (declared_there ss k end at)
  where
    or_more : (a b : Bool) → b ≡ true → (a || b) ≡ true
    or_more true b h = refl
    or_more false b h = h

-- the swaps of other nodes
swap_beside : (p : Paging) (k : ℕ) (s : Store) → (k ≡ p.node.0 → ⊥) → slice_get p.swaps k ≡ Some s → IsSwap p.layout (p.journal ++ p.x ∷ []) (node_at k) s
swap_beside p k s apart at =
    swap_same p.layout p.journal p.x (node_at k) s (still_of p) (p.called (node_at k) ∙ other) leaves (p.are.each k s at)
  where
    other : same_node (node_at k) p.node ≡ false
    other = by_test (same_node (node_at k) p.node) refl
      where
        by_test : (t : Bool) → same_node (node_at k) p.node ≡ t → t ≡ false
        by_test true is = absurd (apart (eqb-true k p.node.0 is))
        by_test false is = refl

    leaves : LeavesEnds p.layout (node_at k) p.x.event
    leaves j end there here = by_out (pages_out end.id p.x.event) refl
      where
        by_out : (b : Bool) → pages_out end.id p.x.event ≡ b → b ≡ false
        by_out false is = refl
        by_out true is =
            let home : is_home p.layout end.id (node_at k) ≡ true = ap (is_home p.layout end.id) (sym here) ∙ declared_there p.layout.ends j end there in
            let same : node_at k ≡ p.node = one_home p.layout p.lawful.ids end.id (node_at k) p.node home
            (ap (λ (f : EndpointId). is_home p.layout f p.node) (p.moved end.id is) ∙ p.home) in
            absurd (apart (ap (λ (n : NodeId). n.0) same))

pub swaps_paged : (p : Paging) → AreSwaps p.layout (p.journal ++ p.x ∷ []) (slice_set p.swaps p.node.0 p.t)
swaps_paged p =
    record {
      each = λ k d got. ⊎_elim (here k d) (there k d) (slice_get-set_cases p.swaps p.node.0 k p.t d got);
      all = length-set p.swaps p.node.0 p.t ∙ p.are.all;
    }
  where
    here : (k : ℕ) (d : Store) → (k ≡ p.node.0) × (d ≡ p.t) → IsSwap p.layout (p.journal ++ p.x ∷ []) (node_at k) d
    here k d both =
        subst (λ (n : ℕ). IsSwap p.layout (p.journal ++ p.x ∷ []) (node_at n) d) (sym both.0)
        (subst (IsSwap p.layout (p.journal ++ p.x ∷ []) p.node) (sym both.1) (swap_called p))

    there : (k : ℕ) (d : Store) → (k ≡ p.node.0 → ⊥) × (slice_get p.swaps k ≡ Some d) → IsSwap p.layout (p.journal ++ p.x ∷ []) (node_at k) d
    there k d both = swap_beside p k d both.0 both.1
