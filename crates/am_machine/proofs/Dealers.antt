-- Endpoints are dealt out one by one, from the first to the last.
use Rattle.std.specs.Prelude.{slice_get, slice_set, slice_index_or, count_by, vec_len, vec_capacity}
use Rattle.std.specs.List.{filter}
use Rattle.std.proofs.Common.{◌≡◌, ⊎_elim, ℕ, ◌+◌, ◌<◌, ◌≤◌, Bool, true, false, cond, Some, List, [], ◌∷◌, ◌++◌, reverse, length, refl, sym, ap, ◌∙◌, subst}
use Rattle.std.proofs.Common.{arith, append_assoc, eq-eqb, eqb-true}
use Rattle.std.proofs.lemmas.List.{append-nil, reverse-append, reverse-reverse, length-set}
use Rattle.std.proofs.lemmas.List.Sums.{sum_by-cons, sum_by_push}
use Rattle.am_model.specs.Layout.{AllAre, node_at}
use Rattle.am_lemmas.proofs.Lists.{slice_get-set_cases}
use Rattle.std.proofs.lemmas.Option.{slice_get-get_or}
use Rattle.am_endpoint.specs.View.{EndpointView}
use Rattle.am_machine.specs.declared.node.shells.Shell.{Shell}
use Rattle.am_machine.specs.Node.Shells.{is_at}
use Rattle.am_machine.specs.Node.Dealt.{AreDealt, FitsShells, IsFilled, IsPut}

-- the endpoints that a shell got, and those that it is still to get, are its node's
pub record IsGetting (whole rest : List EndpointView) (k : ℕ) (s t : Shell) : Type 0 where
  pub got : List EndpointView
  pub filled : IsFilled s got t
  pub left : got ++ filter (is_at (node_at k)) (reverse rest) ≡ filter (is_at (node_at k)) whole

-- these endpoints are still to be dealt, the last of them first
pub record AreDealing (whole rest : List EndpointView) (old now : List Shell) : Type 0 where
  pub room : FitsShells rest now
  pub all : length now ≡ length old
  pub each : (k : ℕ) (s t : Shell) → slice_get old k ≡ Some s → slice_get now k ≡ Some t → IsGetting whole rest k s t

pub all_front : (P : EndpointView → Type 0) (xs : List EndpointView) (x : EndpointView) → AllAre P (xs ++ x ∷ []) → AllAre P xs
all_front P [] x h = tt
all_front P (y ∷ xs) x h = (h.0, all_front P xs x h.1)

pub all_last : (P : EndpointView → Type 0) (xs : List EndpointView) (x : EndpointView) → AllAre P (xs ++ x ∷ []) → P x
all_last P [] x h = h.0
all_last P (y ∷ xs) x h = all_last P xs x h.1

all_more : (P : EndpointView → Type 0) (xs : List EndpointView) (x : EndpointView) → AllAre P xs → P x → AllAre P (xs ++ x ∷ [])
all_more P [] x h p = (p, tt)
all_more P (y ∷ xs) x h p = (h.0, all_more P xs x h.1 p)

all_reversed : (P : EndpointView → Type 0) (xs : List EndpointView) → AllAre P xs → AllAre P (reverse xs)
all_reversed P [] h = tt
all_reversed P (x ∷ xs) h = subst (AllAre P) (sym (reverse-append (x ∷ []) xs)) (all_more P (reverse xs) x (all_reversed P xs h.1) h.0)

reverse_push : (xs : List EndpointView) (x : EndpointView) → reverse (xs ++ x ∷ []) ≡ x ∷ reverse xs
reverse_push xs x = reverse-append xs (x ∷ [])

-- how many are a node's, where there is one more
count_push : (k : ℕ) (xs : List EndpointView) (x : EndpointView) →
    count_by (is_at (node_at k)) (xs ++ x ∷ []) ≡ count_by (is_at (node_at k)) xs + (cond (is_at (node_at k) x) 1 0)
count_push k xs x = sum_by_push (λ (v : EndpointView). cond (is_at (node_at k) v) 1 0) xs x

count_reversed : (k : ℕ) (xs : List EndpointView) → count_by (is_at (node_at k)) (reverse xs) ≡ count_by (is_at (node_at k)) xs
count_reversed k [] = refl
count_reversed k (x ∷ xs) =
    let e = ap (count_by (is_at (node_at k))) (reverse-append (x ∷ []) xs) in
    let push = count_push k (reverse xs) x in
    let more = count_reversed k xs in
    let first : count_by (is_at (node_at k)) (x ∷ xs) ≡ (cond (is_at (node_at k) x) 1 0) + count_by (is_at (node_at k)) xs =
    sum_by-cons (λ (v : EndpointView). cond (is_at (node_at k) v) 1 0) x xs in
    omega (arith, e, push, more, first)

pub begins : (whole : List EndpointView) (old : List Shell) → FitsShells whole old → AreDealing whole (reverse whole) old old
begins whole old r =
    record {
      room =
          record {
            nodes = all_reversed (λ (v : EndpointView). v.settings.node.0 < length old) whole r.nodes;
            room = λ k s at. (let n = count_reversed k whole in let fits = r.room k s at in omega (arith, n, fits));
          };
      all = refl;
      each = λ k s t a b.
          record {
            got = [];
            filled = record {
              node' = ap (λ (w : Shell). w.node) (same k s t a b);
              emitted' = ap (λ (w : Shell). w.emitted) (same k s t a b);
              received' = ap (λ (w : Shell). w.received) (same k s t a b);
              ends' = ap (λ (w : Shell). w.ends.items) (same k s t a b)
                  ∙ sym (append-nil s.ends.items);
            };
            left = ap (filter (is_at (node_at k))) (reverse-reverse whole);
          };
    }
  where
    same : (k : ℕ) (s t : Shell) → slice_get old k ≡ Some s → slice_get old k ≡ Some t → t ≡ s
    same k s t a b = let e : Some t ≡ Some s = sym b ∙ a in (cc)

-- the shell of the next endpoint has room for it
pub next_fits : (rest : List EndpointView) (now : List Shell) (x : EndpointView) (d : Shell) → FitsShells (rest ++ x ∷ []) now →
    vec_len (slice_index_or now x.settings.node.0 d).ends < vec_capacity (slice_index_or now x.settings.node.0 d).ends
next_fits rest now x d r =
    let j = x.settings.node.0 in
    let within = all_last (λ (v : EndpointView). v.settings.node.0 < length now) rest x r.nodes in
    let fits = r.room j (slice_index_or now j d) (slice_get-get_or now j d within) in
    let push = count_push j rest x in
    let own : ◌≡◌ {A = ℕ} (cond (is_at (node_at j) x) 1 0) 1 = ap (λ (b : Bool). cond b 1 0) (eq-eqb j j refl) in
    omega (arith, fits, push, own)

module _ (whole rest : List EndpointView) (old now : List Shell) (x : EndpointView) (d u : Shell) (a : AreDealing whole (rest ++ x ∷ []) old now)
    (put : IsPut (slice_index_or now x.settings.node.0 d) x u) where
  abbrev at_node : ℕ
  at_node = x.settings.node.0

  abbrev was : Shell
  was = slice_index_or now x.settings.node.0 d

  was_there : slice_get now x.settings.node.0 ≡ Some (slice_index_or now x.settings.node.0 d)
  was_there = slice_get-get_or now x.settings.node.0 d (all_last (λ (v : EndpointView). v.settings.node.0 < length now) rest x a.room.nodes)

  room_here : (k : ℕ) (t : Shell) → (k ≡ x.settings.node.0) × (t ≡ u) → vec_len t.ends + count_by (is_at (node_at k)) rest ≤ vec_capacity t.ends
  room_here k t here =
      let fits = a.room.room x.settings.node.0 (slice_index_or now x.settings.node.0 d) was_there in
      let push = count_push x.settings.node.0 rest x in
      let own : ◌≡◌ {A = ℕ} (cond (is_at (node_at x.settings.node.0) x) 1 0) 1 =
      ap (λ (b : Bool). cond b 1 0) (eq-eqb x.settings.node.0 x.settings.node.0 refl) in
      let len = put.len in
      let room = put.room in
      let fine : vec_len u.ends + count_by (is_at (node_at x.settings.node.0)) rest ≤ vec_capacity u.ends = omega (arith, fits, push, own, len, room) in
      subst (λ (w : Shell). vec_len w.ends + count_by (is_at (node_at k)) rest ≤ vec_capacity w.ends) (sym here.1)
      (subst (λ (m : ℕ). vec_len u.ends + count_by (is_at (node_at m)) rest ≤ vec_capacity u.ends) (sym here.0) fine)

  room_there : (k : ℕ) (t : Shell) → slice_get now k ≡ Some t → vec_len t.ends + count_by (is_at (node_at k)) rest ≤ vec_capacity t.ends
  room_there k t at =
      let fits = a.room.room k t at in
      let push = count_push k rest x in
      omega (arith, fits, push)

  got_here : (k : ℕ) (s t : Shell) → slice_get old k ≡ Some s → (k ≡ x.settings.node.0) × (t ≡ u) → IsGetting whole rest k s t
  got_here k s t before here =
      subst (λ (w : Shell). IsGetting whole rest k s w) (sym here.1)
      (subst (λ (m : ℕ). IsGetting whole rest m s u) (sym here.0)
      (at_j (a.each x.settings.node.0 s (slice_index_or now x.settings.node.0 d) (subst (λ (m : ℕ). slice_get old m ≡ Some s) here.0 before) was_there)))
    where
      at_j : IsGetting whole (rest ++ x ∷ []) x.settings.node.0 s (slice_index_or now x.settings.node.0 d) → IsGetting whole rest x.settings.node.0 s u
      at_j g =
          let j = x.settings.node.0 in
          let own : is_at (node_at j) x ≡ true = eq-eqb j j refl in
          let next : filter (is_at (node_at j)) (reverse (rest ++ x ∷ [])) ≡ x ∷ filter (is_at (node_at j)) (reverse rest) =
          ap (filter (is_at (node_at j))) (reverse_push rest x)
          ∙ ap (λ (b : Bool). cond b (x ∷ filter (is_at (node_at j)) (reverse rest)) (filter (is_at (node_at j)) (reverse rest))) own in
          record {
            got = g.got ++ x ∷ [];
            filled =
                record {
                  node' = put.filled.node' ∙ g.filled.node';
                  emitted' = put.filled.emitted' ∙ g.filled.emitted';
                  received' = put.filled.received' ∙ g.filled.received';
                  ends' = put.filled.ends' ∙ ap (λ (l : List EndpointView). l ++ x ∷ []) g.filled.ends' ∙ append_assoc s.ends.items g.got (x ∷ []);
                };
            left = append_assoc g.got (x ∷ []) (filter (is_at (node_at j)) (reverse rest)) ∙ ap (λ (l : List EndpointView). g.got ++ l) (sym next) ∙ g.left;
          }

  got_there : (k : ℕ) (s t : Shell) → slice_get old k ≡ Some s → (k ≡ x.settings.node.0 → ⊥) × (slice_get now k ≡ Some t) → IsGetting whole rest k s t
  got_there k s t before there =
      let g = a.each k s t before there.1 in
      let next : filter (is_at (node_at k)) (reverse (rest ++ x ∷ [])) ≡ filter (is_at (node_at k)) (reverse rest) =
      ap (filter (is_at (node_at k))) (reverse_push rest x) ∙ ap (λ (b : Bool). cond b (x ∷ filter (is_at (node_at k)) (reverse rest))
      (filter (is_at (node_at k)) (reverse rest))) (other (is_at (node_at k) x) refl) in
      record { got = g.got; filled = g.filled; left = ap (λ (l : List EndpointView). g.got ++ l) (sym next) ∙ g.left }
    where
      other : (b : Bool) → is_at (node_at k) x ≡ b → b ≡ false
      other true is = absurd (there.0 (eqb-true k x.settings.node.0 is))
      other false is = refl

  pub goes_on : AreDealing whole rest old (slice_set now x.settings.node.0 u)
  goes_on =
      record {
        room =
            record {
              nodes = subst (λ (n : ℕ). AllAre (λ (v : EndpointView). v.settings.node.0 < n) rest) (sym (length-set now x.settings.node.0 u))
                  (all_front (λ (v : EndpointView). v.settings.node.0 < length now) rest x a.room.nodes);
              room = λ k t at. ⊎_elim (λ (here : (k ≡ x.settings.node.0) × (t ≡ u)). room_here k t here) (λ (there : (k ≡ x.settings.node.0 →
                  ⊥) × (slice_get now k ≡ Some t)). room_there k t there.1) (slice_get-set_cases now x.settings.node.0 k u t at);
            };
        all = length-set now x.settings.node.0 u ∙ a.all;
        each = λ k s t before at. ⊎_elim (λ (here : (k ≡ x.settings.node.0) × (t ≡ u)). got_here k s t before here) (λ (there : (k ≡ x.settings.node.0 →
            ⊥) × (slice_get now k ≡ Some t)). got_there k s t before there) (slice_get-set_cases now x.settings.node.0 k u t at);
      }

pub ends : (whole : List EndpointView) (old now : List Shell) → AreDealing whole [] old now → AreDealt whole old now
ends whole old now a =
    record {
      all = a.all;
      each = λ k s t before at.
          (let g = a.each k s t before at in
          let same : g.got ≡ filter (is_at (node_at k)) whole = sym (append-nil g.got) ∙ g.left in
          subst (λ (l : List EndpointView). IsFilled s l t) same g.filled);
    }
