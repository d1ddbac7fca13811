-- The links after one entry more.
use Rattle.std.proofs.Common.{◌≡◌, ⊎_elim, ℕ, ◌+◌, ◌*◌, ◌<◌, ◌==◌, Bool, true, false, cond, ◌&&◌, List, [], ◌∷◌, ◌++◌, length, Some, None, refl, sym, ap, ◌∙◌}
use Rattle.std.proofs.Common.{arith, eq-eqb, eqb-true, subst}
use Rattle.std.specs.Prelude.{slice_get, slice_index_or}
use Rattle.std.specs.List.{filter, cons_option}
use Rattle.std.proofs.lemmas.Bool.{and_parts}
use Rattle.std.proofs.lemmas.List.{append-nil, length-set}
use Rattle.am_lemmas.proofs.Lists.{slice_get-set_cases}
use Rattle.std.proofs.lemmas.Option.{slice_get-get_or}
use Rattle.am_names.specs.declared.NodeId.{NodeId}
use Rattle.am_names.specs.declared.Packet.{Packet}
use Rattle.am_names.specs.declared.Packet.TheVariants as Packets
use Rattle.am_office_entries.specs.declared.Entry.{Entry}
use Rattle.am_office_entries.specs.Entries.{emitted_of}
use Rattle.am_model.specs.Channels.{emitted, is_on_link}
use Rattle.am_model.specs.Packets.{receiver_of, from_of}
use Rattle.am_model.specs.Layout.{node_at}
use Rattle.am_model_parts.proofs.Growing.{emitted_append}
use Rattle.am_scenario_plan.specs.declared.plan.PlanLine.{PlanLine}
use Rattle.am_scenario_plan.specs.Shape.{fault_at, number_of}
use Rattle.am_cluster_scripted.specs.Links.{AreFed, Released, fed, fed_at, nothing, released_of}
use Rattle.am_cluster_scripted.specs.Scripted.{fed_by}
use Rattle.am_cluster_scripted.proofs.Feeding.{fed_more}

-- what is on the link of a packet that an entry emits, or doesn't
pub emission : (f t : NodeId) (past : List Entry) (x : Entry) (p : Packet) (b : Bool) → emitted_of x ≡ Some p → is_on_link f t p ≡ b →
    emitted f t (past ++ x ∷ []) ≡ emitted f t past ++ cond b (p ∷ []) []
emission f t past x p b is on =
    emitted_append f t past (x ∷ [])
    ∙ (λ i. emitted f t past ++ filter (is_on_link f t) (cons_option (is i) []))
    ∙ (λ i. emitted f t past ++ cond (on i) (p ∷ []) [])

pub emitted_none : (f t : NodeId) (past : List Entry) (x : Entry) → emitted_of x ≡ None → emitted f t (past ++ x ∷ []) ≡ emitted f t past
emitted_none f t past x is =
    emitted_append f t past (x ∷ []) ∙ (λ i. emitted f t past ++ filter (is_on_link f t) (cons_option (is i) [])) ∙ append-nil (emitted f t past)

link_test : (f t : NodeId) (p : Packet) → is_on_link f t p ≡ ((f.0 == (from_of p).0) && (t.0 == (receiver_of p).0))
link_test f t (Packets.Parcel p) = refl
link_test f t (Packets.Answer p) = refl

own_link : (f t : NodeId) (p : Packet) → f.0 ≡ (from_of p).0 → t.0 ≡ (receiver_of p).0 → is_on_link f t p ≡ true
own_link f t p from to = link_test f t p ∙ (λ i. eq-eqb f.0 (from_of p).0 from i && eq-eqb t.0 (receiver_of p).0 to i)

pub other_link : (f t : NodeId) (p : Packet) → (f.0 ≡ (from_of p).0 → t.0 ≡ (receiver_of p).0 → ⊥) → is_on_link f t p ≡ false
other_link f t p apart = by_test (is_on_link f t p) refl
  where
    by_test : (b : Bool) → is_on_link f t p ≡ b → b ≡ false
    by_test false is = refl
    by_test true is =
        let both = and_parts (f.0 == (from_of p).0) (t.0 == (receiver_of p).0) (sym (link_test f t p) ∙ is) in
        absurd (apart (eqb-true f.0 (from_of p).0 both.0) (eqb-true t.0 (receiver_of p).0 both.1))

-- the links after an entry that emits a packet
pub fed_packet : (plan : List PlanLine) (past : List Entry) (rs : List Released) (x : Entry) (p : Packet) → AreFed plan past rs → emitted_of x ≡ Some p →
    (from_of p).0 < 16 → (receiver_of p).0 < 16
    → AreFed plan (past ++ x ∷ [])
    (fed_at (16 * (from_of p).0 + (receiver_of p).0) (length (emitted (from_of p) (receiver_of p) past) + 1)
    (fault_at plan (from_of p) (receiver_of p) (length (emitted (from_of p) (receiver_of p) past) + 1)) (number_of p) rs)
fed_packet plan past rs x p are is low lower =
    record {
      all = length-set rs k new ∙ are.all;
      each = λ f t r lt h. ⊎_elim (here f t r lt) (there f t r lt) (slice_get-set_cases rs k (16 * f + t) new r h);
    }
  where
    from : NodeId
    from = from_of p

    to : NodeId
    to = receiver_of p

    sent : List Packet
    sent = emitted from to past

    k : ℕ
    k = 16 * from.0 + to.0

    new : Released
    new = fed (length sent + 1) (fault_at plan from to (length sent + 1)) (number_of p) (slice_index_or rs k nothing)

    was : slice_index_or rs k nothing ≡ released_of plan from to sent
    was = are.each from.0 to.0 (slice_index_or rs k nothing) lower (slice_get-get_or rs k nothing (let all = are.all in omega (arith, all, low, lower)))

    now : new ≡ released_of plan from to (emitted from to (past ++ x ∷ []))
    now =
        ap (fed (length sent + 1) (fault_at plan from to (length sent + 1)) (number_of p)) was
        ∙ (fed_more plan from to sent p
        ∙ ap (released_of plan from to) (sym (emission from to past x p true is (own_link from to p refl refl))))

    here : (f t : ℕ) (r : Released) → t < 16 → (16 * f + t ≡ k) × (r ≡ new) →
        r ≡ released_of plan (node_at f) (node_at t) (emitted (node_at f) (node_at t) (past ++ x ∷ []))
    here f t r lt both =
        let one : from.0 ≡ f = omega (arith, both.0, lt, lower) in
        let other : to.0 ≡ t = omega (arith, both.0, lt, lower) in
        both.1 ∙ now ∙ (λ i. released_of plan (node_at (one i)) (node_at (other i)) (emitted (node_at (one i)) (node_at (other i)) (past ++ x ∷ [])))

    there : (f t : ℕ) (r : Released) → t < 16 → ((16 * f + t ≡ k) → ⊥) × (slice_get rs (16 * f + t) ≡ Some r) →
        r ≡ released_of plan (node_at f) (node_at t) (emitted (node_at f) (node_at t) (past ++ x ∷ []))
    there f t r lt both =
        are.each f t r lt both.1
        ∙ ap (released_of plan (node_at f) (node_at t))
        (sym (emission (node_at f) (node_at t) past x p false is (other_link (node_at f) (node_at t) p (λ a b. both.0 (omega (arith, a, b))))
        ∙ append-nil (emitted (node_at f) (node_at t) past)))

-- the same, where the number of the packet is its place
pub fed_numbered : (plan : List PlanLine) (past : List Entry) (rs : List Released) (x : Entry) (p : Packet) → AreFed plan past rs → emitted_of x ≡ Some p →
    (from_of p).0 < 16 → (receiver_of p).0 < 16 → number_of p ≡ length (emitted (from_of p) (receiver_of p) past) + 1 →
    AreFed plan (past ++ x ∷ []) (fed_by plan (Some p) rs)
fed_numbered plan past rs x p fed is low lower numbered =
    subst (λ (n : ℕ). AreFed plan (past ++ x ∷ []) (fed_at (16 * (from_of p).0 + (receiver_of p).0) n (fault_at plan (from_of p) (receiver_of p) n)
    (number_of p) rs)) (sym numbered)
    (fed_packet plan past rs x p fed is low lower)

-- the links after an entry that emits none
pub fed_none : (plan : List PlanLine) (past : List Entry) (rs : List Released) (x : Entry) → AreFed plan past rs → emitted_of x ≡ None →
    AreFed plan (past ++ x ∷ []) rs
fed_none plan past rs x are is =
    record {
      all = are.all;
      each = λ f t r lt h. (are.each f t r lt h ∙ ap (released_of plan (node_at f) (node_at t)) (sym (emitted_none (node_at f) (node_at t) past x is)));
    }
