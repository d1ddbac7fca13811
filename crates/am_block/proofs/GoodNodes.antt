-- Nodes whose links point to nodes.
use Rattle.std.proofs.Common.{zero, suc, ◌∷◌, replicate, ◌≡◌, ◌≢◌, ℕ, ◌<◌, List, length, map, Option, Some, None, get_or, slice_get, refl, sym, ap, ◌∙◌, subst}
use Rattle.std.proofs.Common.{arith, inl, inr, get_or-set_other, get_or-set_same}
use Rattle.std.proofs.Math.ListN.{set, length-set}
use Rattle.std.proofs.Math.Seq.{map-set_same}
use Rattle.std.proofs.lemmas.List.{map-set, get_or-map, length-map, length-replicate, get_or-replicate}
use Rattle.std.proofs.lemmas.Bool.{cases_order}
use Rattle.std.proofs.lemmas.Option.{slice_get_within, slice_get-get_or, get_or_from_slice_get, slice_get-map}
use Rattle.std.specs.Option.{option_map}
use denote.RawPtr.{Ptr}
use Rattle.am_block_row.specs.Places.{IsFilled}
use Rattle.am_block.specs.Places.{somes}
use Rattle.am_block.specs.Nodes.{IsLink, AreLinked, Good, links_of}
use Rattle.am_block.specs.declared.nodes.Node.{Node}
use Rattle.am_block.specs.declared.nodes.Link.{Link}
use Rattle.am_block.specs.declared.List.{List as Which}
use Rattle.am_block.specs.declared.Descriptor.{Descriptor}
use Rattle.am_block.proofs.Filled.{held, filled, full-set, somes-set, length-somes, somes-map, full-copies}

-- another node with links that point to nodes
pub linked-set : (at : Ptr) (n : ℕ) (ns : List Node) (i : ℕ) (x : Node) → AreLinked at n ns → IsLink at n x.prev → IsLink at n x.next →
    AreLinked at n (set ns i x)
linked-set at n ns i x g kp kn k y e =
    let lt : k < length ns = (let w = slice_get_within (set ns i x) k y e in omega (arith, length-set ns i x)) in
    let here : get_or (set ns i x) k y ≡ y = get_or_from_slice_get (set ns i x) k y y e in
    elim (cases_order k i) as (λ _. IsLink at n y.prev × IsLink at n y.next) [
      | inl same ↦ let b : i < length ns = omega arith in
          let is : x ≡ y = sym (get_or-set_same ns i x y b) ∙ ap (λ m. get_or (set ns i x) m y) (sym same) ∙ here in
          let P : Node → Type 0 = λ z. IsLink at n z.prev × IsLink at n z.next in subst P is (kp, kn)
      | inr o ↦ let ne : k ≢ i = omega arith in g k y (slice_get-get_or ns k y lt ∙ ap Some (sym (get_or-set_other ns i k x y ne) ∙ here))
    ]

module _ (at : Ptr) (n : ℕ) (cs : List (Option Node)) (g : Good at n cs) where
  pub node_here : (s : ℕ) (x : Node) → get_or cs s None ≡ Some x → slice_get (somes cs) s ≡ Some x
  node_here s x e = sym (held cs s g.full) ∙ e

  pub good_filled : (i : ℕ) → i < n → IsFilled cs i
  good_filled i lt = let l = length-somes cs g.full in filled cs i g.full (omega (arith, g.len))

  pub good_set : (i : ℕ) (x : Node) → IsLink at n x.prev → IsLink at n x.next → Good at n (set cs i (Some x))
  good_set i x kp kn = record {
    full = full-set cs i x g.full;
    linked = subst (AreLinked at n) (sym (somes-set cs i x g.full)) (linked-set at n (somes cs) i x g.linked kp kn);
    len = length-set cs i (Some x) ∙ g.len;
  }

-- the view of nodes with another one
module _ (ns : List Node) (i : ℕ) (x : Node) (e : slice_get ns i ≡ Some x) where
  kept : {B : Type 0} (f : Node → B) (y : Node) → f y ≡ f x → map f (set ns i y) ≡ map f ns
  kept f y h = map-set_same f ns i y x (h ∙ ap f (sym (get_or_from_slice_get ns i x x e)))

  pub links-next : (k : Link) → links_of (set ns i (record x { next = k })) ≡ record (links_of ns) { next = set (links_of ns).next i k.slot }
  links-next k =
      let y = record x { next = k } in
      let e1 = map-set (λ z. z.next.slot) ns i y in
      let e2 = kept (λ z. z.prev.slot) y refl in
      let e3 = kept (λ z. z.list) y refl in
      let e4 = kept (λ z. z.descriptor) y refl in
      λ j. record { next = e1 j; prev = e2 j; lists = e3 j; descriptors = e4 j }

  pub links-all : (k m : Link) (l : Which) → links_of (set ns i (record x { prev = k; next = m; list = l }))
      ≡ record (links_of ns) { next = set (links_of ns).next i m.slot; prev = set (links_of ns).prev i k.slot; lists = set (links_of ns).lists i l }
  links-all k m l =
      let y = record x { prev = k; next = m; list = l } in
      let e1 = map-set (λ z. z.next.slot) ns i y in
      let e2 = map-set (λ z. z.prev.slot) ns i y in
      let e3 = map-set (λ z. z.list) ns i y in
      let e4 = kept (λ z. z.descriptor) y refl in
      λ j. record { next = e1 j; prev = e2 j; lists = e3 j; descriptors = e4 j }

  pub links-prev : (k : Link) → links_of (set ns i (record x { prev = k })) ≡ record (links_of ns) { prev = set (links_of ns).prev i k.slot }
  links-prev k =
      let y = record x { prev = k } in
      let e1 = kept (λ z. z.next.slot) y refl in
      let e2 = map-set (λ z. z.prev.slot) ns i y in
      let e3 = kept (λ z. z.list) y refl in
      let e4 = kept (λ z. z.descriptor) y refl in
      λ j. record { next = e1 j; prev = e2 j; lists = e3 j; descriptors = e4 j }

  pub links-descriptor : (d : Descriptor) → links_of (set ns i (record x { descriptor = d })) ≡ record (links_of ns) {
    descriptors =
        set (links_of ns).descriptors i d;
  }
  links-descriptor d =
      let y = record x { descriptor = d } in
      let e1 = kept (λ z. z.next.slot) y refl in
      let e2 = kept (λ z. z.prev.slot) y refl in
      let e3 = kept (λ z. z.list) y refl in
      let e4 = map-set (λ z. z.descriptor) ns i y in
      λ j. record { next = e1 j; prev = e2 j; lists = e3 j; descriptors = e4 j }

pub read : {A B : Type 0} (f : A → B) (xs : List A) (i : ℕ) (x : A) (d : B) → slice_get xs i ≡ Some x → get_or (map f xs) i d ≡ f x
read f xs i x d e = get_or-map f xs i x d (slice_get_within xs i x e) ∙ ap f (get_or_from_slice_get xs i x x e)

-- what is known of a node that was read
module _ (at : Ptr) (n : ℕ) (cs : List (Option Node)) (g : Good at n cs) (s : ℕ) (x : Node) (e : get_or cs s None ≡ Some x) where
  pub next_linked : IsLink at n x.next
  next_linked = (g.linked s x (node_here at n cs g s x e)).1

  pub prev_linked : IsLink at n x.prev
  prev_linked = (g.linked s x (node_here at n cs g s x e)).0

  pub next_read : get_or (links_of (somes cs)).next s 0 ≡ x.next.slot
  next_read = read (λ z. z.next.slot) (somes cs) s x 0 (node_here at n cs g s x e)

  pub prev_read : get_or (links_of (somes cs)).prev s 0 ≡ x.prev.slot
  prev_read = read (λ z. z.prev.slot) (somes cs) s x 0 (node_here at n cs g s x e)

  pub descriptor_read : slice_get (links_of (somes cs)).descriptors s ≡ Some x.descriptor
  descriptor_read = slice_get-map (λ z. z.descriptor) (somes cs) s ∙ ap (option_map (λ z. z.descriptor)) (node_here at n cs g s x e)

  pub list_read : slice_get (links_of (somes cs)).lists s ≡ Some x.list
  list_read = slice_get-map (λ z. z.list) (somes cs) s ∙ ap (option_map (λ z. z.list)) (node_here at n cs g s x e)

  pub next_written : (k : Link) → links_of (somes (set cs s (Some (record x { next = k })))) ≡ record (links_of (somes cs)) {
    next =
        set (links_of (somes cs)).next s k.slot;
  }
  next_written k = ap links_of (somes-set cs s (record x { next = k }) g.full) ∙ links-next (somes cs) s x (node_here at n cs g s x e) k

  pub all_written : (k m : Link) (l : Which) → links_of (somes (set cs s (Some (record x { prev = k; next = m; list = l }))))
      ≡ record (links_of (somes cs)) {
        next = set (links_of (somes cs)).next s m.slot;
        prev = set (links_of (somes cs)).prev s k.slot;
        lists = set (links_of (somes cs)).lists s l;
      }
  all_written k m l = ap links_of (somes-set cs s (record x { prev = k; next = m; list = l }) g.full)
      ∙ links-all (somes cs) s x (node_here at n cs g s x e) k m l

  pub prev_written : (k : Link) → links_of (somes (set cs s (Some (record x { prev = k })))) ≡ record (links_of (somes cs)) {
    prev =
        set (links_of (somes cs)).prev s k.slot;
  }
  prev_written k = ap links_of (somes-set cs s (record x { prev = k }) g.full) ∙ links-prev (somes cs) s x (node_here at n cs g s x e) k

  pub descriptor_written : (d : Descriptor) → links_of (somes (set cs s (Some (record x { descriptor = d })))) ≡ record (links_of (somes cs)) {
    descriptors =
        set (links_of (somes cs)).descriptors s d;
  }
  descriptor_written d = ap links_of (somes-set cs s (record x { descriptor = d }) g.full) ∙ links-descriptor (somes cs) s x (node_here at n cs g s x e) d

  pub next_good : (k : Link) → IsLink at n k → Good at n (set cs s (Some (record x { next = k })))
  next_good k h = good_set at n cs g s (record x { next = k }) prev_linked h

  pub prev_good : (k : Link) → IsLink at n k → Good at n (set cs s (Some (record x { prev = k })))
  prev_good k h = good_set at n cs g s (record x { prev = k }) h next_linked

map-replicate-at : {A B : Type 0} (n : ℕ) (x : A) (f : A → B) → map f (replicate n x) ≡ replicate n (f x)
map-replicate-at zero x f = refl
map-replicate-at (suc n) x f = ap (λ ys. f x ∷ ys) (map-replicate-at n x f)

-- so many nodes are seen
pub seen : (at : Ptr) (n : ℕ) (cs : List (Option Node)) → Good at n cs → length (links_of (somes cs)).next ≡ n
seen at n cs g = length-map (somes cs) (λ z. z.next.slot) ∙ length-somes cs g.full ∙ g.len

-- n copies of a node whose links point to nodes
pub good_copies : (at : Ptr) (n : ℕ) (cs : List (Option Node)) (x : Node) → cs ≡ map Some (replicate n x) → length cs ≡ n → IsLink at n x.prev →
    IsLink at n x.next → Good at n cs
good_copies at n cs x e l kp kn =
    let ns : somes cs ≡ replicate n x = ap somes e ∙ somes-map (replicate n x) in
    record {
      full = full-copies n cs x e;
      linked = subst (AreLinked at n) (sym ns) (λ k y h. let P : Node → Type 0 = λ z. IsLink at n z.prev × IsLink at n z.next in
          let w = slice_get_within (replicate n x) k y h in
          let b : k < n = omega (arith, length-replicate n x) in
          subst P (sym (get_or-replicate n k x y b) ∙ get_or_from_slice_get (replicate n x) k y y h) (kp, kn));
      len = l;
    }

pub view-copies : (n : ℕ) (x : Node) → links_of (replicate n x) ≡ record {
  next = replicate n x.next.slot;
  prev = replicate n x.prev.slot;
  lists = replicate n x.list;
  descriptors = replicate n x.descriptor;
}
view-copies n x =
    let e1 = map-replicate-at n x (λ z. z.next.slot) in
    let e2 = map-replicate-at n x (λ z. z.prev.slot) in
    let e3 = map-replicate-at n x (λ z. z.list) in
    let e4 = map-replicate-at n x (λ z. z.descriptor) in
    λ j. record { next = e1 j; prev = e2 j; lists = e3 j; descriptors = e4 j }
