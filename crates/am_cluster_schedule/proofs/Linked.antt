-- Links that stay, what stands at a place after a write, and an interface that has more turns.
use Rattle.std.specs.Prelude.{slice_get, slice_index_or, slice_set}
use Rattle.std.specs.List.{remove}
use Rattle.std.proofs.Common.{◌≡◌, ◌≢◌, ◌⊎◌, inl, inr, ⊎_elim, ℕ, zero, suc, ◌<◌, ◌≤◌, List, [], ◌∷◌, length, Option, Some, refl, sym, ap, ◌∙◌, subst, arith}
use Rattle.atomic_table.specs.Seated.{TableId}
use Rattle.am_names.specs.declared.NodeId.{NodeId}
use Rattle.am_scenario_types.specs.Lists.{ScenarioLists}
use Rattle.am_wire.specs.Links.{SameEnd, SameLink}
use Rattle.am_wire.specs.declared.receiving.LinkIn.{LinkIn}
use Rattle.am_wire.specs.declared.sending.LinkOut.{LinkOut}
use Rattle.am_workers_laws.specs.Invariants.Seats.{Ids}
use Rattle.am_workers.specs.AtWork.{IsInterfaceAtWork, SameIns, SameOuts}
use Rattle.am_workers.specs.declared.workers.InterfaceWorker.{InterfaceWorker}

pub at_index : {X : Type 0} (xs : List X) (k : ℕ) (x : X) → k < length xs → x ≡ slice_index_or xs k x → slice_get xs k ≡ Some x
at_index [] k x h is = absurd (omega (arith, h))
at_index (y ∷ xs) zero x h is = ap Some (sym is)
at_index (y ∷ xs) (suc k) x h is = at_index xs k x (omega (arith, h)) is

pub got_set : {X : Type 0} (xs : List X) (i k : ℕ) (v x : X) → slice_get (slice_set xs i v) k ≡ Some x →
    ((k ≡ i) × (x ≡ v)) ⊎ ((k ≢ i) × (slice_get xs k ≡ Some x))
got_set [] i k v x h = absurd (cc)
got_set (y ∷ xs) zero zero v x h = inl (refl, cc)
got_set (y ∷ xs) zero (suc k) v x h = inr ((λ q. omega (arith, q)), h)
got_set (y ∷ xs) (suc i) zero v x h = inr ((λ q. omega (arith, q)), h)
got_set (y ∷ xs) (suc i) (suc k) v x h = ⊎_elim (λ here. inl (ap suc here.0, here.1)) (λ there. inr ((λ q. there.0 (omega (arith, q))), there.1))
    (got_set xs i k v x h)

-- where an element stood before one was taken out
abbrev pub place_before : ℕ → ℕ → ℕ
place_before zero k = suc k
place_before (suc at) zero = zero
place_before (suc at) (suc k) = suc (place_before at k)

pub got_removed : {X : Type 0} (xs : List X) (at k : ℕ) (x : X) → slice_get (remove xs at) k ≡ Some x →
    (j : ℕ) × (slice_get xs j ≡ Some x) × (j ≢ at) × (j ≡ place_before at k)
got_removed [] zero k x h = absurd (cc)
got_removed [] (suc at) k x h = absurd (cc)
got_removed (y ∷ xs) zero k x h = (suc k, h, (λ q. omega (arith, q)), refl)
got_removed (y ∷ xs) (suc at) zero x h = (zero, h, (λ q. omega (arith, q)), refl)
got_removed (y ∷ xs) (suc at) (suc k) x h =
    let g = got_removed xs at k x h in (suc g.0, g.1, (λ q. g.2 (omega (arith, q))), ap suc g.3)

before_once : (at j k : ℕ) → place_before at j ≡ place_before at k → j ≡ k
before_once zero j k e = omega (arith, e)
before_once (suc at) zero zero e = refl
before_once (suc at) zero (suc k) e = absurd (omega (arith, e))
before_once (suc at) (suc j) zero e = absurd (omega (arith, e))
before_once (suc at) (suc j) (suc k) e = ap suc (before_once at j k (omega (arith, e)))

pub place_from : (at j k m n : ℕ) → m ≡ place_before at j → n ≡ place_before at k → m ≡ n → j ≡ k
place_from at j k m n is_m is_n e = before_once at j k (sym is_m ∙ e ∙ is_n)

pub same_got : {X : Type 0} (o : Option X) (x y : X) → o ≡ Some x → o ≡ Some y → x ≡ y
same_got o x y a b = cc

pub link_itself : (o : LinkOut) → SameLink o o
link_itself o = record { plan = refl; from = refl; to = refl; ring = ((refl, refl, refl, refl), refl) }

pub end_itself : (i : LinkIn) → SameEnd i i
end_itself i = ((refl, refl, refl, refl), refl)

pub outs_itself : (a : List LinkOut) → SameOuts a a
outs_itself a = record { all = refl; each = λ k o p at there. subst (λ (z : LinkOut). SameLink o z) (same_got (slice_get a k) o p at there) (link_itself o) }

pub ins_itself : (a : List LinkIn) → SameIns a a
ins_itself a = record { all = refl; each = λ k o p at there. subst (λ (z : LinkIn). SameEnd o z) (same_got (slice_get a k) o p at there) (end_itself o) }

pub here_set : {X : Type 0} (xs : List X) (k : ℕ) (o p : X) → slice_get xs k ≡ Some o → slice_get (slice_set xs k p) k ≡ Some p
here_set [] k o p here = absurd (cc)
here_set (x ∷ xs) zero o p here = refl
here_set (x ∷ xs) (suc k) o p here = here_set xs k o p here

module _ (s : ScenarioLists) (table : TableId) (ids : Ids) (node : NodeId) where
  pub at_more : (turns more : ℕ) (w : InterfaceWorker) → turns ≤ more → IsInterfaceAtWork s table ids node turns w → IsInterfaceAtWork s table ids node more w
  at_more turns more w le h =
      record {
        idle = h.idle;
        lawful = h.lawful;
        set = h.set;
        is_node = h.is_node;
        nodes = h.nodes;
        limit = h.limit;
        layout = h.layout;
        ins = h.ins;
        outs = h.outs;
        within_from = h.within_from;
        so_far = h.so_far;
        within = let a : h.so_far ≤ turns = h.within in omega (arith, le);
        works = h.works;
      }
