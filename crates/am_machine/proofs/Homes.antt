-- The homes of endpoints, as an interface is told.
use Rattle.std.specs.Prelude.{slice_get, slice_set, slice_index_or, replicate, IfSome}
use Rattle.std.specs.List.{All, find}
use Rattle.std.specs.Option.{option_map}
use Rattle.std.proofs.Common.{◌≡◌, ⊎_elim, ℕ, zero, suc, ◌+◌, ◌<◌, ◌≤◌, ◌==◌, Bool, true, false, cond, List, [], ◌∷◌, ◌++◌, map, length, take, Option, Some}
use Rattle.std.proofs.Common.{None, refl, sym, ap, ◌∙◌, subst, arith, eq-eqb, eqb-true}
use Rattle.std.proofs.lemmas.Bool.{ne_eqb}
use Rattle.std.proofs.lemmas.List.{length-set, length_push, take_more}
use Rattle.std.proofs.lemmas.Option.{get_or_from_slice_get, slice_get-get_or}
use Rattle.am_lemmas.proofs.Lists.{slice_get-push_cases, slice_get-set_cases}
use Rattle.am_names.specs.declared.EndpointId.{EndpointId}
use Rattle.am_names.specs.declared.NodeId.{NodeId}
use Rattle.am_model.specs.Endpoint.{entry_at}
use Rattle.am_model.specs.Layout.{has_id, home_by}
use Rattle.am_scenario_types.specs.declared.parts.EndLine.{EndLine}
use Rattle.am_scenario_types.specs.declared.parts.Network.{Network}
use Rattle.am_scenario_types.specs.Lawful.{IsLawfulEnd}
use Rattle.am_model_scripts.specs.Layout.{setting_of}
use Rattle.am_iface.specs.View.{InterfaceView}
use Rattle.am_machine.specs.declared.settings.Settings.{Settings}
use Rattle.am_machine.specs.Homes.{AreFreshUpTo, AreHomes, IsFresh, first_told, home_line}

-- ---- one line more

home_push : (lines : List EndLine) (line : EndLine) (k : ℕ) → (k == line.id.0) ≡ true →
    home_line (lines ++ line ∷ []) k ≡ first_told (home_line lines k) line.node
home_push [] line k is = ap (λ (b : Bool). option_map (λ (l : EndLine). l.node) (cond b (Some line) None)) is
home_push (first ∷ lines) line k is = by_test (k == first.id.0) (home_push lines line k is)
  where
    by_test : (b : Bool) → home_line (lines ++ line ∷ []) k ≡ first_told (home_line lines k) line.node →
        option_map (λ (l : EndLine). l.node) (cond b (Some first) (find (λ (l : EndLine). k == l.id.0) (lines ++ line ∷ []))) ≡ first_told
        (option_map (λ (l : EndLine). l.node) (cond b (Some first) (find (λ (l : EndLine). k == l.id.0) lines))) line.node
    by_test true more = refl
    by_test false more = more

home_other : (lines : List EndLine) (line : EndLine) (k : ℕ) → (k == line.id.0) ≡ false → home_line (lines ++ line ∷ []) k ≡ home_line lines k
home_other [] line k is = ap (λ (b : Bool). option_map (λ (l : EndLine). l.node) (cond b (Some line) None)) is
home_other (first ∷ lines) line k is = by_test (k == first.id.0) (home_other lines line k is)
  where
    by_test : (b : Bool) → home_line (lines ++ line ∷ []) k ≡ home_line lines k →
        option_map (λ (l : EndLine). l.node) (cond b (Some first) (find (λ (l : EndLine). k == l.id.0) (lines ++ line ∷ []))) ≡ option_map
        (λ (l : EndLine). l.node) (cond b (Some first) (find (λ (l : EndLine). k == l.id.0) lines))
    by_test true more = refl
    by_test false more = more

homes_next : (lines : List EndLine) (line : EndLine) (homes : List (Option NodeId)) → AreHomes lines homes → line.id.0 < 256 →
    AreHomes (lines ++ line ∷ []) (slice_set homes line.id.0 (first_told (slice_index_or homes line.id.0 None) line.node))
homes_next lines line homes are low =
    let told = first_told (slice_index_or homes line.id.0 None) line.node in
    let within : line.id.0 < length homes = omega (arith, low, are.all) in
    let was : slice_index_or homes line.id.0 None ≡ home_line lines line.id.0 =
    are.each line.id.0 (slice_index_or homes line.id.0 None) (slice_get-get_or homes line.id.0 None within) in
    record {
      all = length-set homes line.id.0 told ∙ are.all;
      each = λ k home h.
          ⊎_elim
          (λ (here : (k ≡ line.id.0) × (home ≡ told)).
          here.1 ∙ ap (λ (o : Option NodeId). first_told o line.node) (was ∙ ap (home_line lines) (sym here.0))
          ∙ sym (home_push lines line k (eq-eqb k line.id.0 here.0)))
          (λ (there : (k ≡ line.id.0 → ⊥) × (slice_get homes k ≡ Some home)). are.each k home there.1
          ∙ sym (home_other lines line k (ne_eqb k line.id.0 there.0)))
          (slice_get-set_cases homes line.id.0 k told home h);
    }

pub homes_told : (lines : List EndLine) (line : EndLine) (homes : List (Option NodeId)) (home : Option NodeId) → AreHomes lines homes → line.id.0 < 256 →
    home ≡ first_told (slice_index_or homes line.id.0 None) line.node → AreHomes (lines ++ line ∷ []) (slice_set homes line.id.0 home)
homes_told lines line homes home are low told = subst (λ (o : Option NodeId). AreHomes (lines ++ line ∷ []) (slice_set homes line.id.0 o)) (sym told)
    (homes_next lines line homes are low)

pub homes_taken : (lines : List EndLine) (k : ℕ) (one : EndLine) (homes : List (Option NodeId)) → k < length lines →
    AreHomes (take k lines ++ slice_index_or lines k one ∷ []) homes → AreHomes (take (k + 1) lines) homes
homes_taken lines k one homes within are = subst (λ (ls : List EndLine). AreHomes ls homes) (sym (take_more lines k one within)) are

none_told : (n k : ℕ) (home : Option NodeId) → slice_get (replicate n None) k ≡ Some home → home ≡ None
none_told zero k home h = absurd (cc)
none_told (suc n) zero home h = cc
none_told (suc n) (suc k) home h = none_told n k home h

pub homes_none : AreHomes [] (replicate 256 None)
homes_none = record { all = refl; each = λ k home h. none_told 256 k home h }

-- ---- the interfaces so far

pub fresh_begin : (s : Settings) (lines : List EndLine) → AreFreshUpTo s lines 0 []
fresh_begin s lines = record { all = refl; each = λ k i h. absurd (cc) }

pub fresh_more : (s : Settings) (lines : List EndLine) (count : ℕ) (is : List InterfaceView) (i : InterfaceView) → AreFreshUpTo s lines count is →
    IsFresh s lines (record { 0 = count }) i → AreFreshUpTo s lines (count + 1) (is ++ i ∷ [])
fresh_more s lines count is i are fresh =
    record {
      all = length_push is i ∙ ap (λ (n : ℕ). n + 1) are.all;
      each = λ k d h.
          ⊎_elim (are.each k d)
          (λ (last : (k ≡ length is) × (d ≡ i)).
          subst (λ (n : ℕ). IsFresh s lines (record { 0 = n }) d) (sym (last.0 ∙ are.all)) (subst (IsFresh s lines (record { 0 = count })) (sym last.1) fresh))
          (slice_get-push_cases is i k d h);
    }

-- ---- what the homes say

all_rest : (network : Network) (nodes : ℕ) (line : EndLine) (lines : List EndLine) → All (IsLawfulEnd network nodes) (line ∷ lines) →
    All (IsLawfulEnd network nodes) lines
all_rest network nodes line lines all k d lt = all (suc k) d (omega (arith, lt))

home_within : (network : Network) (nodes : ℕ) (lines : List EndLine) (k : ℕ) → All (IsLawfulEnd network nodes) lines →
    IfSome (home_line lines k) (λ (node : NodeId). node.0 < nodes)
home_within network nodes [] k all = tt
home_within network nodes (line ∷ lines) k all = by_test (k == line.id.0) (home_within network nodes lines k (all_rest network nodes line lines all))
  where
    by_test : (b : Bool) → IfSome (home_line lines k) (λ (node : NodeId). node.0 < nodes) →
        IfSome (option_map (λ (l : EndLine). l.node) (cond b (Some line) (find (λ (l : EndLine). k == l.id.0) lines))) (λ (node : NodeId). node.0 < nodes)
    by_test true more = (all zero line (omega arith)).node
    by_test false more = more

pub homes_within : (network : Network) (nodes : ℕ) (lines : List EndLine) (homes : List (Option NodeId)) → All (IsLawfulEnd network nodes) lines →
    AreHomes lines homes → All (λ home. IfSome home (λ (node : NodeId). node.0 < nodes)) homes
homes_within network nodes lines homes all are k d lt =
    subst (λ (home : Option NodeId). IfSome home (λ (node : NodeId). node.0 < nodes)) (sym
    (are.each k (slice_index_or homes k d) (slice_get-get_or homes k d lt)))
    (home_within network nodes lines k all)

-- the home of an endpoint, as the layout has it
line_home : (lines : List EndLine) (e : EndpointId) → home_line lines e.0 ≡ home_by (find (has_id e) (map setting_of lines))
line_home [] e = refl
line_home (line ∷ lines) e = by_test (e.0 == line.id.0) (line_home lines e)
  where
    by_test : (b : Bool) → home_line lines e.0 ≡ home_by (find (has_id e) (map setting_of lines)) →
        option_map (λ (l : EndLine). l.node) (cond b (Some line) (find (λ (l : EndLine). e.0 == l.id.0) lines)) ≡ home_by
        (cond b (Some (setting_of line)) (find (has_id e) (map setting_of lines)))
    by_test true more = refl
    by_test false more = more

none_past : (network : Network) (nodes : ℕ) (lines : List EndLine) (k : ℕ) → All (IsLawfulEnd network nodes) lines → 256 ≤ k → home_line lines k ≡ None
none_past network nodes [] k all far = refl
none_past network nodes (line ∷ lines) k all far = by_test (k == line.id.0) refl (none_past network nodes lines k (all_rest network nodes line lines all) far)
  where
    by_test : (b : Bool) → (k == line.id.0) ≡ b → home_line lines k ≡ None →
        option_map (λ (l : EndLine). l.node) (cond b (Some line) (find (λ (l : EndLine). k == l.id.0) lines)) ≡ None
    by_test true is more =
        let same = eqb-true k line.id.0 is in
        let low = (all zero line (omega arith)).id in
        absurd (omega (arith, same, low, far))
    by_test false is more = more

read_past : {X : Type 0} (xs : List X) (k : ℕ) (d : X) → length xs ≤ k → slice_index_or xs k d ≡ d
read_past [] k d h = refl
read_past (x ∷ xs) zero d h = absurd (omega (arith, h))
read_past (x ∷ xs) (suc k) d h = read_past xs k d (omega (arith, h))

pub home_told : (network : Network) (nodes : ℕ) (lines : List EndLine) (homes : List (Option NodeId)) (e : EndpointId) → All (IsLawfulEnd network nodes) lines →
    AreHomes lines homes → entry_at homes e.0 ≡ home_by (find (has_id e) (map setting_of lines))
home_told network nodes lines homes e all are = by_place (slice_get homes e.0) refl
  where
    far_of : slice_get homes e.0 ≡ None → length homes ≤ e.0
    far_of none = past homes e.0 none
      where
        past : (xs : List (Option NodeId)) (k : ℕ) → slice_get xs k ≡ None → length xs ≤ k
        past [] k h = omega arith
        past (x ∷ xs) zero h = absurd (cc)
        past (x ∷ xs) (suc k) h = let more = past xs k h in omega (arith, more)

    by_place : (o : Option (Option NodeId)) → slice_get homes e.0 ≡ o → entry_at homes e.0 ≡ home_by (find (has_id e) (map setting_of lines))
    by_place (Some home) at = get_or_from_slice_get homes e.0 home None at ∙ are.each e.0 home at ∙ line_home lines e
    by_place None at =
        let far = far_of at in
        let all_there = are.all in
        read_past homes e.0 None far ∙ sym (none_past network nodes lines e.0 all (omega (arith, far, all_there))) ∙ line_home lines e
