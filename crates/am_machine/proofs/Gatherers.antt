-- Endpoints are gathered one by one, each by its line.
use Rattle.std.specs.Prelude.{Contains, slice_get, slice_set, slice_index_or, if◌then◌else◌}
use Rattle.std.specs.List.{filter}
use Rattle.std.specs.Global.{Vec}
use Rattle.std.proofs.Common.{◌≡◌, ◌⊎◌, inl, inr, ⊎_elim, ℕ, zero, suc, ◌+◌, ◌<◌, ◌==◌, Bool, true, false, cond, Some, List, [], ◌∷◌, ◌++◌, map, reverse}
use Rattle.std.proofs.Common.{length, take, drop, get_or, refl, sym, ap, ◌∙◌, subst, arith, eq-eqb, eqb-true}
use Rattle.std.proofs.lemmas.List.{append-nil, reverse-append, map-append, length-set}
use Rattle.std.proofs.lemmas.Option.{slice_get_within, slice_get-get_or}
use Rattle.am_lemmas.proofs.Lists.{slice_get-set_cases}
use Rattle.am_lemmas.proofs.Options.{some_is}
use Rattle.am_names.specs.declared.NodeId.{NodeId}
use Rattle.am_model.specs.Layout.{AllAre, EndSetting, node_at}
use Rattle.am_endpoint.specs.View.{EndpointView}
use Rattle.am_model_scripts.specs.Layout.{setting_of}
use Rattle.am_scenario_types.specs.declared.parts.EndLine.{EndLine}
use Rattle.am_machine_journal.proofs.Standing.{behind, first_or_behind, in_front}
use Rattle.am_machine.specs.Node.Gathered.{AreDeclared, AreOfGroups, HasOne, IsLastOf, is_declared_at, setting_in}

-- the endpoints of the first lines are gathered, and those of the others are still in their groups
pub record AreGathering (lines : List EndLine) (count : ℕ) (groups now : List (Vec EndpointView)) (ends : List EndpointView) : Type 0 where
  pub declared' : AreDeclared (drop count lines) now
  pub made : map setting_in ends ≡ map setting_of (take count lines)
  pub own : AreOfGroups groups ends
  pub left : (k : ℕ) (h : Vec EndpointView) (v : EndpointView) → slice_get now k ≡ Some h → Contains h.items v →
      (g : Vec EndpointView) × ((slice_get groups k ≡ Some g) × Contains g.items v)

pub begins : (lines : List EndLine) (groups : List (Vec EndpointView)) → AreDeclared lines groups → AreGathering lines 0 groups groups []
begins lines groups declared =
    record {
      declared' = declared;
      made = refl;
      own = λ v c. absurd (let lt = c.1 in omega (arith, lt));
      left = λ k h v at c. (h, (at, c));
    }

-- a node of the next line has an endpoint
pub has_one : (line : EndLine) (rest : List EndLine) (now : List (Vec EndpointView)) → AreDeclared (line ∷ rest) now → HasOne now line.node
has_one line rest now d g at = by_items g.items (d.each line.node.0 g at)
  where
    own : is_declared_at (node_at line.node.0) (setting_of line) ≡ true
    own = eq-eqb line.node.0 line.node.0 refl

    by_items : (vs : List EndpointView) → map setting_in (reverse vs) ≡ filter (is_declared_at (node_at line.node.0)) (map setting_of (line ∷ rest)) →
        0 < length vs
    by_items [] e = absurd (none (e ∙ ap (λ (b : Bool). cond b (setting_of line ∷ filter (is_declared_at (node_at line.node.0)) (map setting_of rest))
        (filter (is_declared_at (node_at line.node.0)) (map setting_of rest))) own))
      where
        none : {x : EndSetting} {xs : List EndSetting} → [] ≡ x ∷ xs → ⊥
        none e = (cc)
    by_items (v ∷ vs) e = omega arith

contains_push : (xs : List EndpointView) (x v : EndpointView) → Contains (xs ++ x ∷ []) v → Contains xs v ⊎ (x ≡ v)
contains_push [] x v c = ⊎_elim (λ (here : x ≡ v). inr here) (λ (later : Contains [] v). inl later) (first_or_behind x [] v c)
contains_push (y ∷ xs) x v c =
    ⊎_elim
    (λ (here : y ≡ v). inl (subst (λ (w : EndpointView). Contains (y ∷ xs) w) here (in_front y xs)))
    (λ (later : Contains (xs ++ x ∷ []) v). ⊎_elim (λ (old : Contains xs v). inl (behind y xs v old)) (λ (new : x ≡ v). inr new) (contains_push xs x v later))
    (first_or_behind y (xs ++ x ∷ []) v c)

before_last : (xs : List EndpointView) (x v : EndpointView) → Contains xs v → Contains (xs ++ x ∷ []) v
before_last [] x v c = absurd (let lt = c.1 in omega (arith, lt))
before_last (y ∷ xs) x v c =
    ⊎_elim
    (λ (here : y ≡ v). subst (λ (w : EndpointView). Contains (y ∷ (xs ++ x ∷ [])) w) here (in_front y (xs ++ x ∷ [])))
    (λ (later : Contains xs v). behind y (xs ++ x ∷ []) v (before_last xs x v later))
    (first_or_behind y xs v c)

at_end : (xs : List EndpointView) (x : EndpointView) → Contains (xs ++ x ∷ []) x
at_end [] x = in_front x []
at_end (y ∷ xs) x = behind y (xs ++ x ∷ []) x (at_end xs x)

module _ (line : EndLine) (rest : List EndLine) (groups now new : List (Vec EndpointView)) (x : EndpointView) (declared : AreDeclared (line ∷ rest) now)
    (last : IsLastOf now line.node x new) where
  -- what stood in a group that stands there now
  was : (k : ℕ) (h : Vec EndpointView) → slice_get new k ≡ Some h → (g : Vec EndpointView) × (slice_get now k ≡ Some g)
  was k h at =
      let lt = slice_get_within new k h at in
      let all = last.all in
      some_within now k (omega (arith, lt, all))
    where
      some_within : (gs : List (Vec EndpointView)) (n : ℕ) → n < length gs → (g : Vec EndpointView) × (slice_get gs n ≡ Some g)
      some_within [] n lt = absurd (omega (arith, lt))
      some_within (g ∷ gs) zero lt = (g, refl)
      some_within (g ∷ gs) (suc n) lt = some_within gs n (omega (arith, lt))

  same_group : (k : ℕ) (g h : Vec EndpointView) → slice_get now k ≡ Some g → slice_get new k ≡ Some h → (b : Bool) → (k == line.node.0) ≡ b →
      g.items ≡ h.items ++ (if b then x ∷ [] else [])
  same_group k g h before at b is = last.each k g h before at ∙ ap (λ (t : Bool). h.items ++ (if t then x ∷ [] else [])) is

  -- the endpoint is the line's
  pub is_declared : line.node.0 < length now → setting_in x ≡ setting_of line
  is_declared within =
      let g = some_at now line.node.0 within in
      let h = some_at new line.node.0 (let all = last.all in omega (arith, within, all)) in
      let items = same_group line.node.0 g.0 h.0 g.1 h.1 true (eq-eqb line.node.0 line.node.0 refl) in
      first (map setting_in (reverse h.0.items)) (ap (map setting_in) (sym (reverse-append h.0.items (x ∷ []))
      ∙ ap (λ (l : List EndpointView). reverse l) (sym items)) ∙ declared.each line.node.0 g.0 g.1 ∙ own)
    where
      some_at : (gs : List (Vec EndpointView)) (n : ℕ) → n < length gs → (g : Vec EndpointView) × (slice_get gs n ≡ Some g)
      some_at [] n lt = absurd (omega (arith, lt))
      some_at (g ∷ gs) zero lt = (g, refl)
      some_at (g ∷ gs) (suc n) lt = some_at gs n (omega (arith, lt))

      own : filter (is_declared_at (node_at line.node.0)) (map setting_of (line ∷ rest)) ≡ setting_of line ∷ filter (is_declared_at (node_at line.node.0))
          (map setting_of rest)
      own = ap (λ (b : Bool). cond b (setting_of line ∷ filter (is_declared_at (node_at line.node.0)) (map setting_of rest))
          (filter (is_declared_at (node_at line.node.0)) (map setting_of rest))) (eq-eqb line.node.0 line.node.0 refl)

      first : (ss : List EndSetting) → setting_in x ∷ ss ≡ setting_of line ∷ filter (is_declared_at (node_at line.node.0)) (map setting_of rest) →
          setting_in x ≡ setting_of line
      first ss e = (cc)

  -- the rest is still declared
  pub declared_rest : AreDeclared rest new
  declared_rest =
      record {
        nodes = subst (λ (n : ℕ). AllAre (λ (l : EndLine). l.node.0 < n) rest) (sym last.all) declared.nodes.1;
        each = λ k h at. (let g = was k h at in by_test k g.0 h g.1 at (k == line.node.0) refl);
      }
    where
      by_test : (k : ℕ) (g h : Vec EndpointView) → slice_get now k ≡ Some g → slice_get new k ≡ Some h → (b : Bool) → (k == line.node.0) ≡ b →
          map setting_in (reverse h.items) ≡ filter (is_declared_at (node_at k)) (map setting_of rest)
      by_test k g h before at true is =
          let items = same_group k g h before at true is in
          behind (map setting_in (reverse h.items))
          (ap (map setting_in) (sym (reverse-append h.items (x ∷ [])) ∙ ap (λ (l : List EndpointView). reverse l) (sym items)) ∙ declared.each k g before
          ∙ ap (λ (b : Bool). cond b (setting_of line ∷ filter (is_declared_at (node_at k)) (map setting_of rest))
          (filter (is_declared_at (node_at k)) (map setting_of rest))) is)
        where
          behind : (ss : List EndSetting) → setting_in x ∷ ss ≡ setting_of line ∷ filter (is_declared_at (node_at k)) (map setting_of rest) →
              ss ≡ filter (is_declared_at (node_at k)) (map setting_of rest)
          behind ss e = (cc)
      by_test k g h before at false is =
          let items = same_group k g h before at false is ∙ append-nil h.items in
          ap (λ (l : List EndpointView). map setting_in (reverse l)) (sym items) ∙ declared.each k g before
          ∙ ap (λ (b : Bool). cond b (setting_of line ∷ filter (is_declared_at (node_at k)) (map setting_of rest))
          (filter (is_declared_at (node_at k)) (map setting_of rest))) is

  module _ (left : (k : ℕ) (h : Vec EndpointView) (v : EndpointView) → slice_get now k ≡ Some h → Contains h.items v →
      (g : Vec EndpointView) × ((slice_get groups k ≡ Some g) × Contains g.items v)) where
    left_now : (k : ℕ) (h : Vec EndpointView) (v : EndpointView) → slice_get new k ≡ Some h → Contains h.items v →
        (g : Vec EndpointView) × ((slice_get groups k ≡ Some g) × Contains g.items v)
    left_now k h v at c = let g = was k h at in left k g.0 v g.1 (by_test g.0 g.1 (k == line.node.0) refl)
      where
        by_test : (g : Vec EndpointView) → slice_get now k ≡ Some g → (b : Bool) → (k == line.node.0) ≡ b → Contains g.items v
        by_test g before true is = subst (λ (l : List EndpointView). Contains l v) (sym (same_group k g h before at true is)) (before_last h.items x v c)
        by_test g before false is = subst (λ (l : List EndpointView). Contains l v) (sym (same_group k g h before at false is ∙ append-nil h.items)) c

    of_group : line.node.0 < length now → (k : ℕ) × ((g : Vec EndpointView) × ((slice_get groups k ≡ Some g) × Contains g.items x))
    of_group within =
        let g = some_at now line.node.0 within in
        let h = some_at new line.node.0 (let all = last.all in omega (arith, within, all)) in
        let items = same_group line.node.0 g.0 h.0 g.1 h.1 true (eq-eqb line.node.0 line.node.0 refl) in
        (line.node.0, left line.node.0 g.0 x g.1 (subst (λ (l : List EndpointView). Contains l x) (sym items) (at_end h.0.items x)))
      where
        some_at : (gs : List (Vec EndpointView)) (n : ℕ) → n < length gs → (g : Vec EndpointView) × (slice_get gs n ≡ Some g)
        some_at [] n lt = absurd (omega (arith, lt))
        some_at (g ∷ gs) zero lt = (g, refl)
        some_at (g ∷ gs) (suc n) lt = some_at gs n (omega (arith, lt))

pub goes_on : (lines : List EndLine) (count : ℕ) (line : EndLine) (groups now new : List (Vec EndpointView)) (ends : List EndpointView) (x : EndpointView) →
    drop count lines ≡ line ∷ drop (count + 1) lines → take (count + 1) lines ≡ take count lines ++ line ∷ [] → AreGathering lines count groups now ends →
    IsLastOf now line.node x new → AreGathering lines (count + 1) groups new (ends ++ x ∷ [])
goes_on lines count line groups now new ends x next front a last =
    let declared = subst (λ (l : List EndLine). AreDeclared l now) next a.declared' in
    let within = declared.nodes.0 in
    let is = is_declared line (drop (count + 1) lines) groups now new x declared last within in
    record {
      declared' = declared_rest line (drop (count + 1) lines) groups now new x declared last;
      made =
          map-append setting_in ends (x ∷ [])
          ∙ (λ i. a.made i ++ is i ∷ [])
          ∙ sym (map-append setting_of (take count lines) (line ∷ []))
          ∙ ap (map setting_of) (sym front);
      own = λ v c. ⊎_elim (λ (old : Contains ends v). a.own v old) (λ (new' : x ≡ v). subst
          (λ (w : EndpointView). (k : ℕ) × ((g : Vec EndpointView) × ((slice_get groups k ≡ Some g) × Contains g.items w))) new'
          (of_group line (drop (count + 1) lines) groups now new x declared last a.left within)) (contains_push ends x v c);
      left = left_now line (drop (count + 1) lines) groups now new x declared last a.left;
    }

pub ends_made : (lines : List EndLine) (count : ℕ) (groups now : List (Vec EndpointView)) (ends : List EndpointView) → count ≡ length lines →
    AreGathering lines count groups now ends → map setting_in ends ≡ map setting_of lines
ends_made lines count groups now ends all a = a.made ∙ ap (λ (n : ℕ). map setting_of (take n lines)) all ∙ ap (map setting_of) (take_length lines)
  where
    take_length : (ls : List EndLine) → take (length ls) ls ≡ ls
    take_length [] = refl
    take_length (l ∷ ls) = ap (λ (m : List EndLine). l ∷ m) (take_length ls)

-- the next line
pub line_next : (lines : List EndLine) (count : ℕ) (d : EndLine) → count < length lines → drop count lines ≡ get_or lines count d ∷ drop (count + 1) lines
line_next [] count d lt = absurd (omega (arith, lt))
line_next (l ∷ ls) zero d lt = refl
line_next (l ∷ ls) (suc count) d lt =
    let n : suc count + 1 ≡ suc (count + 1) = omega arith in
    line_next ls count d (omega (arith, lt)) ∙ ap (λ (m : ℕ). get_or ls count d ∷ drop m (l ∷ ls)) (sym n)

pub line_now : (lines : List EndLine) (count : ℕ) (d : EndLine) → count < length lines → take (count + 1) lines ≡ take count lines ++ get_or lines count d ∷ []
line_now [] count d lt = absurd (omega (arith, lt))
line_now (l ∷ ls) zero d lt = refl
line_now (l ∷ ls) (suc count) d lt =
    let n : suc count + 1 ≡ suc (count + 1) = omega arith in
    ap (λ (m : ℕ). take m (l ∷ ls)) n ∙ ap (λ (m : List EndLine). l ∷ m) (line_now ls count d (omega (arith, lt)))

-- what stands past the last line
abbrev pub no_line : EndLine
no_line = record { id = record { 0 = 0 }; node = record { 0 = 0 }; tag = record { 0 = 0 }; disk = false }

-- the last of a group is taken
pub last_taken : (old : List (Vec EndpointView)) (node : NodeId) (x : EndpointView) (d h : Vec EndpointView) → node.0 < length old →
    (slice_index_or old node.0 d).items ≡ h.items ++ x ∷ [] → IsLastOf old node x (slice_set old node.0 h)
last_taken old node x d h within items =
    record {
      all = length-set old node.0 h;
      each = λ k g t before at. ⊎_elim (λ (here : (k ≡ node.0) × (t ≡ h)). at_node k g t before here) (λ (there : (k ≡ node.0 →
          ⊥) × (slice_get old k ≡ Some t)). elsewhere k g t before there) (slice_get-set_cases old node.0 k h t at);
    }
  where
    at_node : (k : ℕ) (g t : Vec EndpointView) → slice_get old k ≡ Some g → (k ≡ node.0) × (t ≡ h) → g.items ≡ t.items ++ (if k == node.0 then x ∷ [] else [])
    at_node k g t before here =
        let same : g ≡ slice_index_or old node.0 d = some_is g (slice_index_or old node.0 d) (sym before ∙ ap (slice_get old) here.0
        ∙ slice_get-get_or old node.0 d within) in
        ap (λ (v : Vec EndpointView). v.items) same ∙ items ∙ ap (λ (v : Vec EndpointView). v.items ++ x ∷ []) (sym here.1)
        ∙ ap (λ (b : Bool). t.items ++ (if b then x ∷ [] else [])) (sym (eq-eqb k node.0 here.0))

    elsewhere : (k : ℕ) (g t : Vec EndpointView) → slice_get old k ≡ Some g → (k ≡ node.0 → ⊥) × (slice_get old k ≡ Some t) →
        g.items ≡ t.items ++ (if k == node.0 then x ∷ [] else [])
    elsewhere k g t before there =
        let same : g ≡ t = some_is g t (sym before ∙ there.1) in
        ap (λ (v : Vec EndpointView). v.items) same ∙ sym (append-nil t.items)
        ∙ ap (λ (b : Bool). t.items ++ (if b then x ∷ [] else [])) (sym (other (k == node.0) refl))
      where
        other : (b : Bool) → (k == node.0) ≡ b → b ≡ false
        other true is = absurd (there.0 (eqb-true k node.0 is))
        other false is = refl
