-- Where an endpoint is declared once, one node is its home.
use Rattle.std.proofs.Common.{◌≡◌, Bool, true, false, cond, ◌||◌, ◌&&◌, List, [], ◌∷◌, map, Option, Some, None, refl, sym, ap, ◌∙◌, true≢false, eqb-true}
use Rattle.std.proofs.Common.{eq-eqb}
use Rattle.std.specs.List.{filter, find, list_any}
use Rattle.std.proofs.lemmas.Bool.{and_parts, and_from, or_right}
use mathlib.Core.Bool.{and_comm}
use Rattle.am_names.specs.declared.EndpointId.{EndpointId}
use Rattle.am_names.specs.declared.NodeId.{NodeId}
use Rattle.am_names.specs.Names.{same_end, same_node}
use Rattle.am_model.specs.Layout.{Layout, EndSetting, AllAre, AreApart, has_id, home, home_by}
use Rattle.am_model.specs.History.{is_home, is_home_by}
use Rattle.am_office_entries.specs.Entries.{is_node}
use Rattle.am_model.proofs.Names.{same_end-is, same_end-refl}
use Rattle.am_model_parts.specs.Together.{AreDeclaredOnce, ends_of}

pub none_such : {X : Type 0} (p q : X → Bool) → ((x : X) → q x ≡ true → p x ≡ true) → (xs : List X) → list_any p xs ≡ false → list_any q xs ≡ false
none_such p q within [] h = refl
none_such p q within (x ∷ xs) h = by_tests (p x) (q x) refl refl h (none_such p q within xs)
  where
    by_tests : (a b : Bool) → p x ≡ a → q x ≡ b → (a || list_any p xs) ≡ false → (list_any p xs ≡ false → list_any q xs ≡ false) → (b || list_any q xs) ≡ false
    by_tests true b is on g more = absurd (true≢false g)
    by_tests false true is on g more = absurd (true≢false (sym (within x on) ∙ is))
    by_tests false false is on g more = more g

home_among : (e : EndpointId) (node : NodeId) (ss : List EndSetting) → AreApart (λ (s t : EndSetting). same_end s.id t.id) ss →
    list_any (is_home_by e node) ss ≡ is_node node (home_by (find (has_id e) ss))
home_among e node [] once = refl
home_among e node (s ∷ ss) once = by_test (same_end e s.id) refl (home_among e node ss once.1)
  where
    others : same_end e s.id ≡ true → list_any (is_home_by e node) ss ≡ false
    others is =
        none_such (λ (t : EndSetting). same_end s.id t.id) (is_home_by e node)
        (λ t h. ap (λ (d : EndpointId). same_end d t.id) (sym (same_end-is e s.id is)) ∙ (and_parts (same_end e t.id) (same_node node t.node) h).0)
        ss once.0

    or_false : (a b : Bool) → b ≡ false → (a || b) ≡ a
    or_false true b h = refl
    or_false false b h = h

    by_test : (b : Bool) → same_end e s.id ≡ b → list_any (is_home_by e node) ss ≡ is_node node (home_by (find (has_id e) ss)) →
        ((b && same_node node s.node) || list_any (is_home_by e node) ss) ≡ is_node node (home_by (cond b (Some s) (find (has_id e) ss)))
    by_test true is more = or_false (same_node node s.node) (list_any (is_home_by e node) ss) (others is)
    by_test false is more = more

-- an endpoint is of the node where it is declared
pub home_is : (layout : Layout) → AreDeclaredOnce layout → (e : EndpointId) (node : NodeId) → is_home layout e node ≡ is_node node (home layout e)
home_is layout once e node = home_among e node layout.ends once

-- and of no other
pub one_home : (layout : Layout) → AreDeclaredOnce layout → (e : EndpointId) (n m : NodeId) → is_home layout e n ≡ true → is_home layout e m ≡ true → n ≡ m
one_home layout once e n m here there =
    by_home (home layout e) (sym (home_is layout once e n) ∙ here) (sym (home_is layout once e m) ∙ there)
  where
    by_home : (h : Option NodeId) → is_node n h ≡ true → is_node m h ≡ true → n ≡ m
    by_home None a b = absurd (true≢false (sym a))
    by_home (Some k) a b = let e : n.0 ≡ k.0 = eqb-true n.0 k.0 a in let f : m.0 ≡ k.0 = eqb-true m.0 k.0 b in λ j. record { 0 = (e ∙ sym f) j }

-- whether something passes that is read off some of the elements
pub any_mapped : {X Y : Type 0} (g : X → Y) (q : X → Bool) (p : Y → Bool) (xs : List X) → list_any p (map g (filter q xs)) ≡ list_any (λ x. q x && p (g x)) xs
any_mapped g q p [] = refl
any_mapped g q p (x ∷ xs) = by_test (q x) (any_mapped g q p xs)
  where
    by_test : (b : Bool) → list_any p (map g (filter q xs)) ≡ list_any (λ y. q y && p (g y)) xs →
        list_any p (map g (cond b (x ∷ filter q xs) (filter q xs))) ≡ ((b && p (g x)) || list_any (λ y. q y && p (g y)) xs)
    by_test true more = ap (λ (b : Bool). p (g x) || b) more
    by_test false more = more

any_same : {X : Type 0} (p q : X → Bool) → ((x : X) → p x ≡ q x) → (xs : List X) → list_any p xs ≡ list_any q xs
any_same p q same [] = refl
any_same p q same (x ∷ xs) = λ i. same x i || any_same p q same xs i

-- the endpoints of a node are those whose home it is
pub ends_home : (layout : Layout) (node : NodeId) (e : EndpointId) → list_any (same_end e) (ends_of layout node) ≡ is_home layout e node
ends_home layout node e =
    any_mapped (λ (s : EndSetting). s.id) (λ (s : EndSetting). same_node node s.node) (same_end e) layout.ends
    ∙ any_same (λ (s : EndSetting). same_node node s.node && same_end e s.id) (is_home_by e node) (λ s. and_comm (same_node node s.node) (same_end e s.id))
    layout.ends

all_imply : {X : Type 0} (P Q : X → Type 0) → ((x : X) → P x → Q x) → (xs : List X) → AllAre P xs → AllAre Q xs
all_imply P Q imply [] h = tt
all_imply P Q imply (x ∷ xs) h = (imply x h.0, all_imply P Q imply xs h.1)

-- the endpoint of a declaration is of its node
abbrev pub IsAmong : List EndSetting → EndSetting → Type 0
IsAmong ss s = list_any (is_home_by s.id s.node) ss ≡ true

pub all_among : (ss : List EndSetting) → AllAre (IsAmong ss) ss
all_among [] = tt
all_among (s ∷ ss) = (
  (λ i. and_from (same_end s.id s.id) (same_node s.node s.node) (same_end-refl s.id) (eq-eqb s.node.0 s.node.0 refl) i || list_any (is_home_by s.id s.node) ss),
  all_imply (IsAmong ss) (IsAmong (s ∷ ss)) (λ t h. or_right (is_home_by t.id t.node s) (list_any (is_home_by t.id t.node) ss) h) ss (all_among ss),
)
