-- The lowest free channel, and the least endpoint that passes.
use Rattle.std.proofs.Common.{◌≡◌, ℕ, zero, suc, ◌+◌, ◌≤◌, Bool, true, false, List, [], ◌∷◌, Option, Some, None, refl, sym, ◌∙◌, subst, arith, true≢false}
use Rattle.std.proofs.Common.{if◌then◌else◌}
use Rattle.std.specs.Prelude.{nat_lt}
use Rattle.std.specs.List.{list_any}
use Rattle.std.proofs.lemmas.Bool.{ltb-true, ltb-false, or_right, or_left}
use Rattle.am_names.specs.declared.EndpointId.{EndpointId}
use Rattle.am_names.specs.declared.NodeId.{NodeId}
use Rattle.am_names.specs.Names.{same_end}
use Rattle.am_office_entries.specs.declared.Entry.{Entry}
use Rattle.am_model.specs.Layout.{Layout, AllAre}
use Rattle.am_model.specs.History.{channel_to, is_bound, free_from, free_channel}
use Rattle.am_model.specs.Steps.{least_such, lesser}
use Rattle.am_model.proofs.Names.{same_end-refl}
use Rattle.am_laws_cluster.specs.Choices.Choices.{AreBound, IsLowestFrom, IsLowestFree, IsLeast}

-- ---- channels

lowest : (node peer : NodeId) (past : List Entry) (number more : ℕ) → IsLowestFrom node peer past number (number + more) (free_from node peer past number more)
lowest node peer past number zero = λ k from to. absurd (omega (arith, from, to))
lowest node peer past number (suc more) = by_test (is_bound (channel_to node peer number) past) refl (free_from node peer past (number + 1) more)
    (lowest node peer past (number + 1) more)
  where
    bound_on : is_bound (channel_to node peer number) past ≡ true → (to : ℕ) → AreBound node peer past (number + 1) to → AreBound node peer past number to
    bound_on here to rest k from below = by_place (nat_lt number k) refl
      where
        by_place : (b : Bool) → nat_lt number k ≡ b → is_bound (channel_to node peer k) past ≡ true
        by_place true above = rest k (let less = ltb-true number k above in omega (arith, less)) below
        by_place false above = let same : number ≡ k = (let least = ltb-false number k above in omega (arith, least, from)) in
            subst (λ (n : ℕ). is_bound (channel_to node peer n) past ≡ true) same here

    by_test : (b : Bool) → is_bound (channel_to node peer number) past ≡ b → (o : Option ℕ) → IsLowestFrom node peer past (number + 1) (number + 1 + more) o
        → IsLowestFrom node peer past number (number + suc more) (if b then o else Some number)
    by_test false is o rest = (omega arith, omega arith, is, λ k from below. absurd (omega (arith, from, below)))
    by_test true is None rest = λ k from below. bound_on is (number + 1 + more) rest k from (omega (arith, below))
    by_test true is (Some k) rest = (let above = rest.0 in omega (arith, above), let below = rest.1 in omega (arith, below), rest.2, bound_on is k rest.3)

pub lowest_free : (layout : Layout) (node peer : NodeId) (past : List Entry) → IsLowestFree node peer past layout.channels (free_channel layout node peer past)
lowest_free layout node peer past = subst (λ (to : ℕ). IsLowestFrom node peer past 0 to (free_channel layout node peer past))
    (let same : 0 + layout.channels ≡ layout.channels = omega arith in same) (lowest node peer past 0 layout.channels)

-- ---- endpoints

all_more : (P R : EndpointId → Type 0) (es : List EndpointId) → ((e : EndpointId) → P e → R e) → AllAre P es → AllAre R es
all_more P R [] f all = tt
all_more P R (e ∷ es) f all = (f e all.0, all_more P R es f all.1)

pub least : (p : EndpointId → Bool) (es : List EndpointId) → IsLeast p es (least_such p es)
least p [] = tt
least p (e ∷ es) = by_test (p e) refl (least_such p es) (least p es)
  where
    by_order : (b : Bool) (f : EndpointId) → p e ≡ true → nat_lt f.0 e.0 ≡ b → IsLeast p es (Some f) → IsLeast p (e ∷ es) (Some (if b then f else e))
    by_order true f is less rest = (
      or_right (same_end f e) (list_any (same_end f) es) rest.0,
      rest.1,
      ((λ passes. let l = ltb-true f.0 e.0 less in omega (arith, l)), rest.2),
    )
    by_order false f is less rest = (
      or_left (same_end e e) (list_any (same_end e) es) (same_end-refl e),
      is,
      (
        (λ passes. omega arith),
        all_more (λ (g : EndpointId). p g ≡ true → f.0 ≤ g.0) (λ (g : EndpointId). p g ≡ true →
            e.0 ≤ g.0) es (λ g above passes. let l = ltb-false f.0 e.0 less in let a = above passes in omega (arith, l, a)) rest.2,
      ),
    )

    by_test : (b : Bool) → p e ≡ b → (o : Option EndpointId) → IsLeast p es o → IsLeast p (e ∷ es) (if b then Some (lesser e o) else o)
    by_test true is None rest = (
      or_left (same_end e e) (list_any (same_end e) es) (same_end-refl e),
      is,
      (
        (λ passes. omega arith),
        all_more (λ (g : EndpointId). p g ≡ false) (λ (g : EndpointId). p g ≡ true →
            e.0 ≤ g.0) es (λ g fails passes. absurd (true≢false (sym passes ∙ fails))) rest,
      ),
    )
    by_test true is (Some f) rest = by_order (nat_lt f.0 e.0) f is refl rest
    by_test false is None rest = (is, rest)
    by_test false is (Some f) rest = (
      or_right (same_end f e) (list_any (same_end f) es) rest.0,
      rest.1,
      ((λ passes. absurd (true≢false (sym passes ∙ is))), rest.2),
    )
