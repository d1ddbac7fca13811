-- A block that is being filled.
use Rattle.std.proofs.Common.{◌≡◌, ℕ, ◌+◌, ◌<◌, ◌≤◌, List, [], ◌∷◌, ◌++◌, length, get_or, refl, sym, ap, ◌∙◌, subst, arith}
use Rattle.std.specs.List.{range_with_len}
use Rattle.std.proofs.Math.ListN.{set, length-set, length-take}
use Rattle.std.proofs.lemmas.List.FromFn.{length-range_with_len}
use Rattle.am_block.specs.Links.{Links, inserted}
use Rattle.am_block.specs.Lengths.{head, length_of, pools, IsSound}
use Rattle.am_block.specs.Ring.{Ring, chain}
use Rattle.am_block.specs.Pools.{Pools, slots, times, standings, appended, IsFresh}
use Rattle.am_block.specs.declared.lengths.Lengths.{Lengths}
use Rattle.am_block.specs.declared.List.{List as Which}
use Rattle.am_block.specs.declared.List.TheVariants.{Free, Requests, Replies, InFlight, Notices, Received}
use Rattle.am_block.proofs.Fresh.{times-within, times-past, range-more, IsBlock-fresh}
use Rattle.am_block.proofs.Chains.{slots-along}
use Rattle.am_block.proofs.Rings.{ring-chain}
use Rattle.am_block.proofs.Moved.{Fine, put-rings}
use Rattle.am_block.proofs.Shifts.{Tagged, tagged-more}

-- the first i slots stand in the first list
abbrev pub partly : ℕ → Pools
partly i = record { free = range_with_len 0 i; requests = []; replies = []; in_flight = []; notices = []; received = []; descriptors = [] }

pub partly-more : (i : ℕ) (w : Which) → slots (appended (partly i) Free i) w ≡ slots (partly (i + 1)) w
partly-more i Free = sym (range-more 0 i ∙ ap (λ x. range_with_len 0 i ++ x ∷ []) (let e : 0 + i ≡ i = omega arith in e))
partly-more i Requests = refl
partly-more i Replies = refl
partly-more i InFlight = refl
partly-more i Notices = refl
partly-more i Received = refl

pub partly-fine : (n i : ℕ) → i ≤ n → Fine n (partly i)
partly-fine n i le = record {
  once = λ x. grind (arith, times-within x 0 i, times-past x 0 i);
  below = λ x ge. let e = times-past x 0 i (omega arith) in omega arith;
}

pub partly-absent : (i : ℕ) → standings (partly i) i ≡ 0
partly-absent i = let e = times-past i 0 i (omega arith) in omega arith

fits : (n : ℕ) (l : Lengths) → length_of l Free ≡ n → length_of l Requests ≡ 0 → length_of l Replies ≡ 0 → length_of l InFlight ≡ 0 → length_of l Notices ≡ 0 →
    length_of l Received ≡ 0
    → (w : Which) → length_of l w ≡ length (slots (partly n) w)
fits n l l0 l1 l2 l3 l4 l5 Free = l0 ∙ sym (length-range_with_len 0 n)
fits n l l0 l1 l2 l3 l4 l5 Requests = l1
fits n l l0 l1 l2 l3 l4 l5 Replies = l2
fits n l l0 l1 l2 l3 l4 l5 InFlight = l3
fits n l l0 l1 l2 l3 l4 l5 Notices = l4
fits n l l0 l1 l2 l3 l4 l5 Received = l5

-- the lengths of a block with all slots in the first list
pub filled-sound : (k : Links) (n : ℕ) (l : Lengths) → n ≤ 128 → length_of l Free ≡ n → length_of l Requests ≡ 0 → length_of l Replies ≡ 0 →
    length_of l InFlight ≡ 0 → length_of l Notices ≡ 0 → length_of l Received ≡ 0
    → length k.next ≡ n + 6 → length k.prev ≡ n + 6 → length k.lists ≡ n + 6 → length k.descriptors ≡ n + 6
    → ((w : Which) → Ring k.next k.prev (head n w) (slots (partly n) w)) → Tagged k.lists (partly n) → IsFresh (pools k n l) n × IsSound k n l
filled-sound k n l small l0 l1 l2 l3 l4 l5 ln lp ll ld rings tags =
    let same : (w : Which) → slots (pools k n l) w ≡ slots (partly n) w = λ w.
    slots-along k n l w ∙ ap (λ m. chain k.next (get_or k.next (head n w) 0) m) (fits n l l0 l1 l2 l3 l4 l5 w)
    ∙ ring-chain k.next k.prev (head n w) (head n w) (slots (partly n) w) (rings w) in
    let fresh : IsFresh (pools k n l) n = record {
      free = same Free;
      requests = same Requests;
      replies = same Replies;
      in_flight = same InFlight;
      notices = same Notices;
      received = same Received;
      size = length-take n k.descriptors ∙ omega (arith, ld);
    } in (
      fresh,
      record {
        block = IsBlock-fresh (pools k n l) n fresh small;
        nodes = ln;
        prevs = lp;
        lists = ll;
        descriptors = ld;
        rings = λ w. subst (λ (zs : List ℕ). Ring k.next k.prev (head n w) zs) (sym (same w)) (rings w);
        tags = λ w x le. tags w x (subst (λ (zs : List ℕ). 1 ≤ times x zs) (same w) le);
      },
    )

-- one slot more
pub fill-rings : (k m : Links) (n i : ℕ) → m ≡ inserted k i n Free → i < n → length k.next ≡ n + 6 → length k.prev ≡ n + 6 →
    ((w : Which) → Ring k.next k.prev (head n w) (slots (partly i) w))
    → (w : Which) → Ring m.next m.prev (head n w) (slots (partly (i + 1)) w)
fill-rings k m n i e lt ln lp rings w =
    let r = put-rings k.next k.prev n (partly i) (partly-fine n i (omega arith)) rings ln lp i (partly-absent i) lt Free w in
    subst (λ (q : Links). Ring q.next q.prev (head n w) (slots (partly (i + 1)) w)) (sym e)
    (subst (λ (zs : List ℕ). Ring (inserted k i n Free).next (inserted k i n Free).prev (head n w) zs) (partly-more i w) r)

pub fill-tags : (k m : Links) (n i : ℕ) → m ≡ inserted k i n Free → i < n → length k.lists ≡ n + 6 → Tagged k.lists (partly i) → Tagged m.lists (partly (i + 1))
fill-tags k m n i e lt ll tags =
    subst (λ (q : Links). Tagged q.lists (partly (i + 1))) (sym e) (λ w x le.
    tagged-more k.lists (partly i) i Free tags (partly-absent i) (omega arith) w x (subst (λ (zs : List ℕ). 1 ≤ times x zs) (sym (partly-more i w)) le))

pub fill-lengths : (k m : Links) (n i : ℕ) → m ≡ inserted k i n Free →
    (length m.next ≡ length k.next) × (length m.prev ≡ length k.prev) × (length m.lists ≡ length k.lists) × (length m.descriptors ≡ length k.descriptors)
fill-lengths k m n i e =
    let t = get_or k.prev n 0 in (
      ap (λ q. length q.next) e ∙ length-set (set k.next t i) i n ∙ length-set k.next t i,
      ap (λ q. length q.prev) e ∙ length-set (set k.prev i t) n i ∙ length-set k.prev i t,
      ap (λ q. length q.lists) e ∙ length-set k.lists i Free,
      ap (λ q. length q.descriptors) e,
    )
