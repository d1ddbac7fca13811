-- The endpoints of a node, and the logs of their books.
use Rattle.std.specs.Prelude.{slice_get}
use Rattle.std.specs.List.{filter, find, list_any}
use Rattle.std.proofs.Common.{◌≡◌, inl, inr, ⊎_elim, ℕ, zero, suc, ◌<◌, Bool, true, false, cond, ◌||◌, ◌&&◌, List, [], ◌∷◌, map, length, Option, Some, None}
use Rattle.std.proofs.Common.{refl, sym, ap, ◌∙◌, subst, arith, eq-eqb, true≢false}
use Rattle.std.proofs.lemmas.Bool.{and_parts, or_right}
use Rattle.am_names.specs.declared.EndpointId.{EndpointId}
use Rattle.am_names.specs.declared.NodeId.{NodeId}
use Rattle.am_names.specs.Names.{same_end, same_node}
use Rattle.am_model.specs.Layout.{AllAre, AreApart, EndSetting, IsSettingLawful, Layout, has_id, home, home_by}
use Rattle.am_model.proofs.Names.{same_end-is, same_end-refl, same_node-is}
use Rattle.am_model_parts.specs.Together.{AreDeclaredOnce, ends_of}
use Rattle.am_model_parts.proofs.Homes.{any_mapped, ends_home, home_is, none_such}
use Rattle.am_office_entries.specs.Entries.{is_node}
use Rattle.am_workers_laws.specs.declared.books.EndBook.{EndBook}
use Rattle.am_workers_laws.specs.Ended.{log_among}
use Rattle.am_workers_laws.proofs.Passes.{IsIn}

pub got_in : {X : Type 0} (xs : List X) (k : ℕ) (x : X) → slice_get xs k ≡ Some x → IsIn xs x
got_in [] k x h = absurd (cc)
got_in (y ∷ ys) zero x h = inl (cc)
got_in (y ∷ ys) (suc k) x h = inr (got_in ys k x h)

pub any_end : (e : EndpointId) (ids : List EndpointId) → IsIn ids e → list_any (same_end e) ids ≡ true
any_end e [] h = absurd h
any_end e (i ∷ is) h =
    ⊎_elim (λ (here : i ≡ e). ap (λ (b : Bool). b || list_any (same_end e) is) (ap (same_end e) here
    ∙ same_end-refl e)) (λ (there : IsIn is e). or_right (same_end e i) (list_any (same_end e) is) (any_end e is there)) h

pub at_home : (layout : Layout) → AreDeclaredOnce layout → (e : EndpointId) (node : NodeId) → list_any (same_end e) (ends_of layout node) ≡ true →
    home layout e ≡ Some node
at_home layout once e node h = by_home (home layout e) (sym (home_is layout once e node) ∙ sym (ends_home layout node e) ∙ h)
  where
    by_home : (o : Option NodeId) → is_node node o ≡ true → o ≡ Some node
    by_home None g = absurd (true≢false (sym g))
    by_home (Some n) g = ap (λ (m : NodeId). Some m) (sym (same_node-is node n g))

pub home_has : (layout : Layout) → AreDeclaredOnce layout → (e : EndpointId) (node : NodeId) → home layout e ≡ Some node →
    list_any (same_end e) (ends_of layout node) ≡ true
home_has layout once e node h = ends_home layout node e ∙ home_is layout once e node ∙ ap (is_node node) h ∙ eq-eqb node.0 node.0 refl

-- ---- the log among those of the node

-- the place of an endpoint, and its book
pub record IsPlaced (ids : List EndpointId) (books : List EndBook) (e : EndpointId) : Type 0 where
  pub place : ℕ
  pub book : EndBook
  pub id : slice_get ids place ≡ Some e
  pub there : slice_get books place ≡ Some book
  pub log : log_among ids books e ≡ book.end.value.log

pub placed : (ids : List EndpointId) (books : List EndBook) (e : EndpointId) → length books ≡ length ids → list_any (same_end e) ids ≡ true →
    IsPlaced ids books e
placed [] bs e all h = absurd (true≢false (sym h))
placed (i ∷ is) [] e all h = absurd (omega (arith, all))
placed (i ∷ is) (b ∷ bs) e all h = by_test (same_end e i) refl h (placed is bs e (omega (arith, all)))
  where
    by_test : (t : Bool) → same_end e i ≡ t → (t || list_any (same_end e) is) ≡ true → (list_any (same_end e) is ≡ true → IsPlaced is bs e) →
        IsPlaced (i ∷ is) (b ∷ bs) e
    by_test true same g rest =
        record {
          place = 0;
          book = b;
          id = ap (λ (d : EndpointId). Some d) (sym (same_end-is e i same));
          there = refl;
          log = ap (λ (t : Bool). cond t b.end.value.log (log_among is bs e)) same;
        }
    by_test false same g rest =
        let more = rest g in
        record {
          place = suc more.place;
          book = more.book;
          id = more.id;
          there = more.there;
          log = ap (λ (t : Bool). cond t b.end.value.log (log_among is bs e)) same ∙ more.log;
        }

pub log_there : (ids : List EndpointId) (books : List EndBook) (k : ℕ) (e : EndpointId) (b : EndBook) → AreApart same_end ids → slice_get ids k ≡ Some e →
    slice_get books k ≡ Some b → log_among ids books e ≡ b.end.value.log
log_there [] bs k e b once h g = absurd (cc)
log_there (i ∷ is) [] k e b once h g = absurd (cc)
log_there (i ∷ is) (c ∷ bs) zero e b once h g =
    let here : i ≡ e = cc in
    let same : c ≡ b = cc in
    ap (λ (t : Bool). cond t c.end.value.log (log_among is bs e)) (ap (same_end e) here ∙ same_end-refl e) ∙ ap (λ (d : EndBook). d.end.value.log) same
log_there (i ∷ is) (c ∷ bs) (suc k) e b once h g = by_test (same_end e i) refl (log_there is bs k e b once.1 h g)
  where
    by_test : (t : Bool) → same_end e i ≡ t → log_among is bs e ≡ b.end.value.log → cond t c.end.value.log (log_among is bs e) ≡ b.end.value.log
    by_test true same more =
        absurd (true≢false (sym (ap (λ (d : EndpointId). list_any (same_end d) is) (sym (same_end-is e i same)) ∙ any_end e is (got_in is k e h)) ∙ once.0))
    by_test false same more = more

pub book_there : (ids : List EndpointId) (books : List EndBook) (k : ℕ) (e : EndpointId) → length books ≡ length ids → slice_get ids k ≡ Some e →
    (b : EndBook) × (slice_get books k ≡ Some b)
book_there [] bs k e all h = absurd (cc)
book_there (i ∷ is) [] k e all h = absurd (omega (arith, all))
book_there (i ∷ is) (b ∷ bs) zero e all h = (b, refl)
book_there (i ∷ is) (b ∷ bs) (suc k) e all h = book_there is bs k e (omega (arith, all)) h

apart_among : (node : NodeId) (ss : List EndSetting) → AreApart (λ (s t : EndSetting). same_end s.id t.id) ss →
    AreApart same_end (map (λ (s : EndSetting). s.id) (filter (λ (s : EndSetting). same_node node s.node) ss))
apart_among node [] once = tt
apart_among node (s ∷ ss) once = by_test (same_node node s.node) (apart_among node ss once.1)
  where
    ids : List EndpointId
    ids = map (λ (t : EndSetting). t.id) (filter (λ (t : EndSetting). same_node node t.node) ss)

    none : list_any (same_end s.id) ids ≡ false
    none =
        any_mapped (λ (t : EndSetting). t.id) (λ (t : EndSetting). same_node node t.node) (same_end s.id) ss
        ∙ none_such (λ (t : EndSetting). same_end s.id t.id) (λ (t : EndSetting). same_node node t.node && same_end s.id t.id)
        (λ t h. (and_parts (same_node node t.node) (same_end s.id t.id) h).1) ss once.0

    by_test : (b : Bool) → AreApart same_end ids → AreApart same_end (map (λ (t : EndSetting). t.id)
        (cond b (s ∷ filter (λ (t : EndSetting). same_node node t.node) ss) (filter (λ (t : EndSetting). same_node node t.node) ss)))
    by_test true more = (none, more)
    by_test false more = more

pub ends_apart : (layout : Layout) → AreDeclaredOnce layout → (node : NodeId) → AreApart same_end (ends_of layout node)
ends_apart layout once node = apart_among node layout.ends once

-- ---- numbers

pub record IsLowHome (layout : Layout) (e : EndpointId) (node : NodeId) : Type 0 where
  pub id : e.0 < 256
  pub node' : node.0 < layout.nodes

low_among : (layout : Layout) (e : EndpointId) (node : NodeId) (ss : List EndSetting) → AllAre (IsSettingLawful layout) ss →
    home_by (find (has_id e) ss) ≡ Some node → IsLowHome layout e node
low_among layout e node [] lawful h = absurd (cc)
low_among layout e node (s ∷ ss) lawful h = by_test (has_id e s) refl h (low_among layout e node ss lawful.1)
  where
    by_test : (b : Bool) → same_end e s.id ≡ b → home_by (cond b (Some s) (find (has_id e) ss)) ≡ Some node →
        (home_by (find (has_id e) ss) ≡ Some node → IsLowHome layout e node) → IsLowHome layout e node
    by_test true is g more =
        let here : s.node ≡ node = cc in
        record {
          id = subst (λ (d : EndpointId). d.0 < 256) (sym (same_end-is e s.id is)) lawful.0.id;
          node' = subst (λ (n : NodeId). n.0 < layout.nodes) here lawful.0.node;
        }
    by_test false is g more = more g

pub low_home : (layout : Layout) (e : EndpointId) (node : NodeId) → AllAre (IsSettingLawful layout) layout.ends → home layout e ≡ Some node →
    IsLowHome layout e node
low_home layout e node lawful h = low_among layout e node layout.ends lawful h
