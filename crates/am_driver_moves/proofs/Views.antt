-- Every state can be shown, and the first that passes is the least.
use Rattle.std.proofs.Common.{◌≡◌, ◌<◌, ◌≤◌, Bool, true, false, ◌&&◌, ◌||◌, cond, List, [], ◌∷◌, map, Some, refl, sym, ◌∙◌, ap, subst, arith}
use Rattle.std.specs.Prelude.{filter, find}
use Rattle.std.specs.List.{list_any}
use Rattle.std.proofs.lemmas.Bool.{and_from}
use Rattle.am_names.specs.declared.EndpointId.{EndpointId}
use Rattle.am_names.specs.declared.NodeId.{NodeId}
use Rattle.am_names.specs.Names.{same_end, same_node}
use Rattle.am_office_entries.specs.declared.Entry.{Entry}
use Rattle.am_model.specs.Layout.{Layout, EndSetting, AllAre}
use Rattle.am_model.specs.History.{is_home, state_of}
use Rattle.am_model.proofs.Names.{same_end-refl}
use Rattle.am_driver_moves.specs.declared.choice.EndView.{EndView}
use Rattle.am_driver_moves.specs.Choice.Shown.{ShowsEnd, is_line_of}
use Rattle.am_driver_moves.specs.Choice.Views.{line_of, lines_of, EachStateIsShown, FirstIsLeast}

-- the lines of some settings of the node are right, where each setting stands in the layout
right : (layout : Layout) (past : List Entry) (node : NodeId) (settings : List EndSetting) →
    ((s : EndSetting) → same_node node s.node ≡ true → list_any (λ (t : EndSetting). same_end s.id t.id && same_node node t.node) settings ≡ true →
    is_home layout s.id node ≡ true) → AllAre (ShowsEnd layout past node) (lines_of layout past node settings)
right layout past node [] home = tt
right layout past node (s ∷ more) home = by_test (same_node node s.node) refl (right layout past node more (λ t here among. home t here (later s t among)))
  where
    either : (a b : Bool) → b ≡ true → (a || b) ≡ true
    either true b h = refl
    either false b h = h

    first : (a b : Bool) → a ≡ true → (a || b) ≡ true
    first true b h = refl
    first false b h = absurd (cc)

    later : (s t : EndSetting) → list_any (λ (u : EndSetting). same_end t.id u.id && same_node node u.node) more ≡ true →
        list_any (λ (u : EndSetting). same_end t.id u.id && same_node node u.node) (s ∷ more) ≡ true
    later s t h = either (same_end t.id s.id && same_node node s.node) (list_any (λ (u : EndSetting). same_end t.id u.id && same_node node u.node) more) h

    here : same_node node s.node ≡ true → ShowsEnd layout past node (line_of s.id (state_of layout past s.id))
    here h =
        record {
          home = home s h (first (same_end s.id s.id && same_node node s.node) (list_any (λ (u : EndSetting). same_end s.id u.id && same_node node u.node) more)
              (and_from (same_end s.id s.id) (same_node node s.node) (same_end-refl s.id) h));
          place = refl;
          wanted = refl;
          draining = refl;
          closed = refl;
          in_flight = refl;
        }

    by_test : (b : Bool) → same_node node s.node ≡ b → AllAre (ShowsEnd layout past node) (lines_of layout past node more) →
        AllAre (ShowsEnd layout past node) (lines_of layout past node (s ∷ more))
    by_test true is rest = subst (λ (b : Bool). AllAre (ShowsEnd layout past node) (map (λ (t : EndSetting). line_of t.id (state_of layout past t.id))
        (cond b (s ∷ filter (λ (t : EndSetting). same_node node t.node) more) (filter (λ (t : EndSetting). same_node node t.node) more)))) (sym is) (
          here is,
          rest,
        )
    by_test false is rest = subst (λ (b : Bool). AllAre (ShowsEnd layout past node) (map (λ (t : EndSetting). line_of t.id (state_of layout past t.id))
        (cond b (s ∷ filter (λ (t : EndSetting). same_node node t.node) more) (filter (λ (t : EndSetting). same_node node t.node) more)))) (sym is) rest

neither : (a b c : Bool) → b ≡ false → c ≡ false → (a && b || c) ≡ true → ⊥
neither true true c is has h = cc
neither true false c is has h = cc
neither false b c is has h = cc

-- an endpoint of the node has a line
whole : (layout : Layout) (past : List Entry) (node : NodeId) (e : EndpointId) (settings : List EndSetting) →
    list_any (λ (s : EndSetting). same_end e s.id && same_node node s.node) settings ≡ true →
    list_any (is_line_of e) (lines_of layout past node settings) ≡ true
whole layout past node e [] h = absurd (cc)
whole layout past node e (s ∷ more) h = by_test (same_node node s.node) refl (same_end e s.id) refl
    (list_any (λ (t : EndSetting). same_end e t.id && same_node node t.node) more) refl h (λ has. whole layout past node e more has)
  where
    lines : Bool → Bool
    lines b = list_any (is_line_of e) (map (λ (t : EndSetting). line_of t.id (state_of layout past t.id))
        (cond b (s ∷ filter (λ (t : EndSetting). same_node node t.node) more) (filter (λ (t : EndSetting). same_node node t.node) more)))

    first : (a b : Bool) → a ≡ true → (a || b) ≡ true
    first true b h = refl
    first false b h = absurd (cc)

    later : (a b : Bool) → b ≡ true → (a || b) ≡ true
    later true b h = refl
    later false b h = h

    by_test : (n : Bool) → same_node node s.node ≡ n → (same : Bool) → same_end e s.id ≡ same → (rest : Bool) →
        list_any (λ (t : EndSetting). same_end e t.id && same_node node t.node) more ≡ rest →
        (same_end e s.id && same_node node s.node || list_any (λ (t : EndSetting). same_end e t.id && same_node node t.node) more) ≡ true →
        (list_any (λ (t : EndSetting). same_end e t.id && same_node node t.node) more ≡ true →
        list_any (is_line_of e) (lines_of layout past node more) ≡ true) → list_any (is_line_of e) (lines_of layout past node (s ∷ more)) ≡ true
    by_test true is true same rest has h others = ap lines is ∙ first (same_end e s.id) (list_any (is_line_of e) (lines_of layout past node more)) same
    by_test true is false same true has h others = ap lines is ∙ later (same_end e s.id) (list_any (is_line_of e) (lines_of layout past node more)) (others has)
    by_test true is false same false has h others = absurd (cc)
    by_test false is same same_is true has h others = ap lines is ∙ others has
    by_test false is same same_is false has h others =
        absurd (neither (same_end e s.id) (same_node node s.node) (list_any (λ (t : EndSetting). same_end e t.id && same_node node t.node) more) is has h)

pub each_state_is_shown : EachStateIsShown
each_state_is_shown layout past node keep last packet in_range =
    record {
      packet = packet;
      node_declared = in_range;
      frames = refl;
      right = right layout past node layout.ends (λ s here home. home);
      whole = λ e home. whole layout past node e layout.ends home;
    }

-- those that come after all have greater numbers
above : (p : EndView → Bool) (e : EndView) (more : List EndView) → AllAre (λ (x : EndView). e.id.0 < x.id.0) more →
    AllAre (λ (x : EndView). p x ≡ true → e.id.0 ≤ x.id.0) more
above p e [] h = tt
above p e (x ∷ more) h = (λ t. omega (arith, h.0), above p e more h.1)

pub first_is_least : FirstIsLeast
first_is_least p [] e rise h = tt
first_is_least p (x ∷ more) e rise h = by_test (p x) refl h (λ found. first_is_least p more e rise.1 found)
  where
    here : x ≡ e → AllAre (λ (y : EndView). p y ≡ true → e.id.0 ≤ y.id.0) (x ∷ more)
    here is = subst (λ (d : EndView). AllAre (λ (y : EndView). p y ≡ true → d.id.0 ≤ y.id.0) (x ∷ more)) is (λ t. omega arith, above p x more rise.0)

    by_test : (b : Bool) → p x ≡ b → cond b (Some x) (find p more) ≡ Some e → (find p more ≡ Some e →
        AllAre (λ (y : EndView). p y ≡ true → e.id.0 ≤ y.id.0) more) → AllAre (λ (y : EndView). p y ≡ true → e.id.0 ≤ y.id.0) (x ∷ more)
    by_test true is found rest = here (cc)
    by_test false is found rest = (λ t. absurd (cc), rest found)
