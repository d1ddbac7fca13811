-- A drain that is cut off after a good phase is stopped for the part.
use Rattle.std.proofs.Common.{◌≡◌, ℕ, ◌≤◌, List, [], ◌∷◌, length, Option, Some, None, Bool, true, false, refl, ◌∙◌, ap, subst, arith, eq-eqb}
use Rattle.std.specs.Prelude.{nat_lt, nat_le, filter, count_by, if◌then◌else◌}
use Rattle.std.specs.List.{list_any}
use Rattle.std.proofs.lemmas.Bool.{leb-true, or_right, or_left}
use Rattle.std.proofs.lemmas.List.Sums.{length-filter}
use Rattle.am_names.specs.declared.EndpointId.{EndpointId}
use Rattle.am_names.specs.declared.NodeId.{NodeId}
use Rattle.am_names.specs.Names.{same_end}
use Rattle.am_office_entries.specs.declared.Part.{Part}
use Rattle.am_office_entries.specs.declared.Part.TheVariants as Parts
use Rattle.am_office_entries.specs.declared.Entry.{Entry}
use Rattle.am_office_entries.specs.Entries.{ends_touched, node_touched, is_node, touches, touches_node}
use Rattle.am_model.specs.Steps.{is_end_full, is_node_full, lesser, least_such, full_by}
use Rattle.am_model.proofs.Names.{same_end-refl}
use Rattle.am_scenario_types.specs.Lists.{ScenarioLists}
use Rattle.am_model_scripts.specs.Layout.{layout_of}
use Rattle.am_model.specs.Parts.{touches_part}
use Rattle.am_model_drain.specs.Cut.{full_for}
use Rattle.am_model_drain.specs.Laws.{CutOffIsStopped}

-- the least of some that pass is one of them, and passes
pub record IsSuch (p : EndpointId → Bool) (es : List EndpointId) (e : EndpointId) : Type 0 where
  pub among : list_any (same_end e) es ≡ true
  pub passes : p e ≡ true

such_first : (p : EndpointId → Bool) (x : EndpointId) (xs : List EndpointId) → p x ≡ true → IsSuch p (x ∷ xs) x
such_first p x xs is = record { among = or_left (same_end x x) (list_any (same_end x) xs) (same_end-refl x); passes = is }

such_later : (p : EndpointId → Bool) (x e : EndpointId) (xs : List EndpointId) → IsSuch p xs e → IsSuch p (x ∷ xs) e
such_later p x e xs h = record { among = or_right (same_end e x) (list_any (same_end e) xs) h.among; passes = h.passes }

lesser_such : (p : EndpointId → Bool) (x : EndpointId) (xs : List EndpointId) (o : Option EndpointId) → least_such p xs ≡ o →
    ((e : EndpointId) → least_such p xs ≡ Some e → IsSuch p xs e) → p x ≡ true → IsSuch p (x ∷ xs) (lesser x o)
lesser_such p x xs None is more here = such_first p x xs here
lesser_such p x xs (Some f) is more here = by_test (nat_lt f.0 x.0)
  where
    by_test : (b : Bool) → IsSuch p (x ∷ xs) (if b then f else x)
    by_test true = such_later p x f xs (more f is)
    by_test false = such_first p x xs here

least_is : (p : EndpointId → Bool) (es : List EndpointId) (e : EndpointId) → least_such p es ≡ Some e → IsSuch p es e
least_is p [] e h = absurd (cc)
least_is p (x ∷ xs) e h = by_test (p x) refl h (λ (d : EndpointId) g. least_is p xs d g)
  where
    by_test : (b : Bool) → p x ≡ b → (if b then Some (lesser x (least_such p xs)) else least_such p xs) ≡ Some e →
        ((d : EndpointId) → least_such p xs ≡ Some d → IsSuch p xs d) → IsSuch p (x ∷ xs) e
    by_test true is f more =
        let same : lesser x (least_such p xs) ≡ e = cc in
        subst (λ (d : EndpointId). IsSuch p (x ∷ xs) d) same (lesser_such p x xs (least_such p xs) refl more is)
    by_test false is f more = such_later p x e xs (more e f)

-- ---- the full log that an entry meets

-- the entry touches the part, and the log of the part has as many entries as it may, or more
pub record MeetsFull (s : ScenarioLists) (past : List Entry) (x : Entry) (part : Part) : Type 0 where
  pub touches : touches_part part x ≡ true
  pub full : s.log ≤ count_by (touches_part part) past

counted : (p : Entry → Bool) (log : ℕ) (past : List Entry) → nat_le log (length (filter p past)) ≡ true → log ≤ count_by p past
counted p log past h =
    let most : log ≤ length (filter p past) = leb-true log (length (filter p past)) h in omega (arith, most, length-filter p past)

meets_node : (s : ScenarioLists) (past : List Entry) (x : Entry) (part : Part) (node : NodeId) (b : Bool) → node_touched x.event ≡ Some node →
    is_node_full (layout_of s) past node ≡ b → (if b then Some (Parts.Interface node) else None) ≡ Some part → MeetsFull s past x part
meets_node s past x part node true at full h =
    let same : Parts.Interface node ≡ part = cc in
    subst (λ (p : Part). MeetsFull s past x p) same
    (record { touches = ap (is_node node) at ∙ eq-eqb node.0 node.0 refl; full = counted (touches_node node) s.log past full })
meets_node s past x part node false at full h = absurd (cc)

meets_by : (s : ScenarioLists) (past : List Entry) (x : Entry) (part : Part) (e : Option EndpointId) (node : Option NodeId) →
    least_such (is_end_full (layout_of s) past) (ends_touched x.event x.outcome) ≡ e → node_touched x.event ≡ node →
    full_by (layout_of s) past e node ≡ Some part → MeetsFull s past x part
meets_by s past x part (Some e) interface least at h =
    let same : Parts.Endpoint e ≡ part = cc in
    let such = least_is (is_end_full (layout_of s) past) (ends_touched x.event x.outcome) e least in
    subst (λ (p : Part). MeetsFull s past x p) same (record { touches = such.among; full = counted (touches e) s.log past such.passes })
meets_by s past x part None (Some node) least at h = meets_node s past x part node (is_node_full (layout_of s) past node) at refl h
meets_by s past x part None None least at h = absurd (cc)

meets_full : (s : ScenarioLists) (past : List Entry) (x : Entry) (part : Part) → full_for s past x ≡ Some part → MeetsFull s past x part
meets_full s past x part h =
    meets_by s past x part (least_such (is_end_full (layout_of s) past) (ends_touched x.event x.outcome)) (node_touched x.event) refl refl h

pub cut_off_is_stopped : CutOffIsStopped
cut_off_is_stopped s phase journal part good within cut =
    let meets = meets_full s journal cut.drained.next part cut.full in
    record {
      phase = phase;
      is_phase = good;
      drained = cut.drained;
      touches = meets.touches;
      full = omega (arith, meets.full, within part);
    }
