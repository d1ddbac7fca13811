-- Sums of which one term differs.
use Rattle.std.proofs.Common.{◌≡◌, ℕ, zero, suc, ◌+◌, ◌<◌, ◌≤◌, Bool, true, false, ◌||◌, List, [], ◌∷◌, map, refl, sym, ap, ◌∙◌, subst, arith, true≢false}
use Rattle.std.proofs.Common.{eqb-true, eq-eqb}
use Rattle.std.specs.Prelude.{◌==◌, ◌&&◌, count_by, sum_by}
use Rattle.std.specs.List.{list_any, range_with_len}
use Rattle.std.proofs.lemmas.List.Sums.{sum_by-cons, sum_by-le-sum_by}
use Rattle.std.proofs.lemmas.Bool.{and_right}
use Rattle.am_names.specs.declared.EndpointId.{EndpointId}
use Rattle.am_names.specs.declared.NodeId.{NodeId}
use Rattle.am_names.specs.Names.{same_end, same_node}
use Rattle.am_model.specs.Channels.{Channel, same_channel}
use Rattle.am_model.specs.History.{channel_to}
use Rattle.am_model.specs.Layout.{EndSetting, AreApart, has_id, node_at}
use Rattle.am_model.proofs.Names.{same_end-is, same_node-is}
use Rattle.am_model.proofs.Received.{bit}
use Rattle.am_scenario_types.specs.Lists.{ScenarioLists}
use Rattle.am_model_scripts.specs.Links.{nodes_of}

-- ---- a sum that changes where a test passes, which is once

-- where the test passes nowhere
pub none_more : {X : Type 0} (f g : X → ℕ) (own : X → Bool) (xs : List X) → ((x : X) → own x ≡ false → g x ≤ f x) → count_by own xs ≡ 0 →
    sum_by g xs ≤ sum_by f xs
none_more f g own [] others n = omega arith
none_more f g own (x ∷ xs) others n = by_test (own x) refl (none_more f g own xs others)
  where
    by_test : (b : Bool) → own x ≡ b → (count_by own xs ≡ 0 → sum_by g xs ≤ sum_by f xs) → sum_by g (x ∷ xs) ≤ sum_by f (x ∷ xs)
    by_test true is later = absurd (omega (arith, n, ap bit is, sum_by-cons (λ y. bit (own y)) x xs))
    by_test false is later =
        let rest : count_by own xs ≡ 0 = omega (arith, n, ap bit is, sum_by-cons (λ y. bit (own y)) x xs) in
        omega (arith, others x is, later rest, sum_by-cons f x xs, sum_by-cons g x xs)

-- where it passes once
pub one_more : {X : Type 0} (f g : X → ℕ) (own : X → Bool) (a b : ℕ) (xs : List X) → ((x : X) → own x ≡ false → g x ≤ f x) →
    ((x : X) → own x ≡ true → g x + a ≤ f x + b) → count_by own xs ≡ 1 → sum_by g xs + a ≤ sum_by f xs + b
one_more f g own a b [] others here n = absurd (omega (arith, n))
one_more f g own a b (x ∷ xs) others here n = by_test (own x) refl (one_more f g own a b xs others here)
  where
    by_test : (t : Bool) → own x ≡ t → (count_by own xs ≡ 1 → sum_by g xs + a ≤ sum_by f xs + b) → sum_by g (x ∷ xs) + a ≤ sum_by f (x ∷ xs) + b
    by_test true is later =
        let rest : count_by own xs ≡ 0 = omega (arith, n, ap bit is, sum_by-cons (λ y. bit (own y)) x xs) in
        omega (arith, here x is, none_more f g own xs others rest, sum_by-cons f x xs, sum_by-cons g x xs)
    by_test false is later =
        let rest : count_by own xs ≡ 1 = omega (arith, n, ap bit is, sum_by-cons (λ y. bit (own y)) x xs) in
        omega (arith, others x is, later rest, sum_by-cons f x xs, sum_by-cons g x xs)

-- where it passes at most once
pub most_more : {X : Type 0} (f g : X → ℕ) (own : X → Bool) (b : ℕ) (xs : List X) → ((x : X) → own x ≡ false → g x ≤ f x) →
    ((x : X) → own x ≡ true → g x ≤ f x + b) → count_by own xs ≤ 1 → sum_by g xs ≤ sum_by f xs + b
most_more f g own b [] others here n = omega arith
most_more f g own b (x ∷ xs) others here n = by_test (own x) refl (most_more f g own b xs others here)
  where
    by_test : (t : Bool) → own x ≡ t → (count_by own xs ≤ 1 → sum_by g xs ≤ sum_by f xs + b) → sum_by g (x ∷ xs) ≤ sum_by f (x ∷ xs) + b
    by_test true is later =
        let rest : count_by own xs ≡ 0 = omega (arith, n, ap bit is, sum_by-cons (λ y. bit (own y)) x xs) in
        omega (arith, here x is, none_more f g own xs others rest, sum_by-cons f x xs, sum_by-cons g x xs)
    by_test false is later =
        let rest : count_by own xs ≤ 1 = omega (arith, n, ap bit is, sum_by-cons (λ y. bit (own y)) x xs) in
        omega (arith, others x is, later rest, sum_by-cons f x xs, sum_by-cons g x xs)

-- where it passes somewhere, and nothing grows
pub least_less : {X : Type 0} (f g : X → ℕ) (own : X → Bool) (a : ℕ) (xs : List X) → ((x : X) → g x ≤ f x) → ((x : X) → own x ≡ true → g x + a ≤ f x) →
    list_any own xs ≡ true → sum_by g xs + a ≤ sum_by f xs
least_less f g own a [] all here some = absurd (true≢false (sym some))
least_less f g own a (x ∷ xs) all here some = by_test (own x) refl some (least_less f g own a xs all here)
  where
    by_test : (b : Bool) → own x ≡ b → (b || list_any own xs) ≡ true → (list_any own xs ≡ true → sum_by g xs + a ≤ sum_by f xs) →
        sum_by g (x ∷ xs) + a ≤ sum_by f (x ∷ xs)
    by_test true is h later = omega (arith, here x is, sum_by-le-sum_by g f xs all, sum_by-cons f x xs, sum_by-cons g x xs)
    by_test false is h later = omega (arith, all x, later h, sum_by-cons f x xs, sum_by-cons g x xs)

-- ---- numbers and nodes

range_none : (k a n : ℕ) → k < a → count_by (λ (j : ℕ). j == k) (range_with_len a n) ≡ 0
range_none k a zero low = refl
range_none k a (suc n) low = by_test (a == k) refl (range_none k (a + 1) n (omega (arith, low)))
  where
    by_test : (b : Bool) → (a == k) ≡ b → count_by (λ (j : ℕ). j == k) (range_with_len (a + 1) n) ≡ 0 →
        count_by (λ (j : ℕ). j == k) (range_with_len a (suc n)) ≡ 0
    by_test true is rest = absurd (omega (arith, low, eqb-true a k is))
    by_test false is rest = omega (arith, rest, ap bit is, sum_by-cons (λ (j : ℕ). bit (j == k)) a (range_with_len (a + 1) n))

pub range_one : (k a n : ℕ) → a ≤ k → k < a + n → count_by (λ (j : ℕ). j == k) (range_with_len a n) ≡ 1
range_one k a zero low high = absurd (omega (arith, low, high))
range_one k a (suc n) low high = by_test (a == k) refl (λ (up : a + 1 ≤ k). range_one k (a + 1) n up (omega (arith, high)))
  where
    above : (a == k) ≡ false → a + 1 ≤ k
    above is =
        let apart : (a ≡ k → ⊥) = λ e. true≢false (sym (eq-eqb a k e) ∙ is) in
        omega (arith, low, apart)

    by_test : (b : Bool) → (a == k) ≡ b → (a + 1 ≤ k → count_by (λ (j : ℕ). j == k) (range_with_len (a + 1) n) ≡ 1) →
        count_by (λ (j : ℕ). j == k) (range_with_len a (suc n)) ≡ 1
    by_test true is later =
        omega (arith, ap bit is, range_none k (a + 1) n (omega (arith, eqb-true a k is)), sum_by-cons (λ (j : ℕ). bit (j == k)) a (range_with_len (a + 1) n))
    by_test false is later =
        omega (arith, ap bit is, later (above is), sum_by-cons (λ (j : ℕ). bit (j == k)) a (range_with_len (a + 1) n))

nodes_counted : (node : NodeId) (ns : List ℕ) → count_by (λ (n : NodeId). same_node n node) (map node_at ns) ≡ count_by (λ (j : ℕ). j == node.0) ns
nodes_counted node [] = refl
nodes_counted node (n ∷ ns) =
    omega (
      arith,
      nodes_counted node ns,
      sum_by-cons (λ (j : ℕ). bit (j == node.0)) n ns,
      sum_by-cons (λ (m : NodeId). bit (same_node m node)) (node_at n) (map node_at ns),
    )

-- a node is once among the first so many
pub nodes_one : (node : NodeId) (n : ℕ) → node.0 < n → count_by (λ (m : NodeId). same_node m node) (map node_at (range_with_len 0 n)) ≡ 1
nodes_one node n low = nodes_counted node (range_with_len 0 n) ∙ range_one node.0 0 n (omega arith) (omega (arith, low))

-- ---- pairs of nodes, and channels

off : (a b : Bool) → a ≡ false → (a && b) ≡ false
off true b h = absurd (true≢false h)
off false b h = refl

-- a sum over all pairs of nodes that changes at one pair
pub pairs_more : (s : ScenarioLists) (f g : NodeId → NodeId → ℕ) (a b : ℕ) (from to : NodeId) → from.0 < s.nodes → to.0 < s.nodes →
    ((x y : NodeId) → (same_node x from && same_node y to) ≡ false → g x y ≤ f x y) → g from to + a ≤ f from to + b →
    sum_by (λ (x : NodeId). sum_by (g x) (nodes_of s)) (nodes_of s) + a ≤ sum_by (λ (x : NodeId). sum_by (f x) (nodes_of s)) (nodes_of s) + b
pairs_more s f g a b from to low high others here =
    one_more (λ (x : NodeId). sum_by (f x) (nodes_of s)) (λ (x : NodeId). sum_by (g x) (nodes_of s)) (λ (x : NodeId). same_node x from) a b (nodes_of s)
    (λ (x : NodeId) is. sum_by-le-sum_by (g x) (f x) (nodes_of s) (λ (y : NodeId). others x y (off (same_node x from) (same_node y to) is)))
    (λ (x : NodeId) is. row x (same_node-is x from is))
    (nodes_one from s.nodes low)
  where
    row : (x : NodeId) → x ≡ from → sum_by (g x) (nodes_of s) + a ≤ sum_by (f x) (nodes_of s) + b
    row x same =
        one_more (f x) (g x) (λ (y : NodeId). same_node y to) a b (nodes_of s)
        (λ (y : NodeId) is. others x y (and_right (same_node x from) (same_node y to) is))
        (λ (y : NodeId) is. subst (λ (z : NodeId). g z y + a ≤ f z y + b) (sym same) (subst (λ (z : NodeId). g from z + a ≤ f from z + b)
        (sym (same_node-is y to is)) here))
        (nodes_one to s.nodes high)

-- the sum over all channels
abbrev pub over_channels : ScenarioLists → (Channel → ℕ) → ℕ
over_channels s f =
    sum_by (λ (node : NodeId). sum_by (λ (peer : NodeId). sum_by (λ (number : ℕ). f (channel_to node peer number)) (range_with_len 0 s.channels)) (nodes_of s))
    (nodes_of s)

-- which changes at one channel
pub channels_more : (s : ScenarioLists) (f g : Channel → ℕ) (a b : ℕ) (node peer : NodeId) (number : ℕ) → node.0 < s.nodes → peer.0 < s.nodes →
    number < s.channels → ((d : Channel) → same_channel d node peer number ≡ false → g d ≤ f d) →
    g (channel_to node peer number) + a ≤ f (channel_to node peer number) + b → over_channels s g + a ≤ over_channels s f + b
channels_more s f g a b node peer number n p c others here =
    pairs_more s (λ (x y : NodeId). sum_by (λ (k : ℕ). f (channel_to x y k)) (range_with_len 0 s.channels))
    (λ (x y : NodeId). sum_by (λ (k : ℕ). g (channel_to x y k)) (range_with_len 0 s.channels)) a b node peer n p
    (λ (x y : NodeId) is. sum_by-le-sum_by (λ (k : ℕ). g (channel_to x y k)) (λ (k : ℕ). f (channel_to x y k)) (range_with_len 0 s.channels)
    (λ (k : ℕ). others (channel_to x y k) (off (same_node x node && same_node y peer) (k == number) is)))
    (one_more (λ (k : ℕ). f (channel_to node peer k)) (λ (k : ℕ). g (channel_to node peer k)) (λ (k : ℕ). k == number) a b (range_with_len 0 s.channels)
    (λ (k : ℕ) is. others (channel_to node peer k) (and_right (same_node node node && same_node peer peer) (k == number) is))
    (λ (k : ℕ) is. subst (λ (j : ℕ). g (channel_to node peer j) + a ≤ f (channel_to node peer j) + b) (sym (eqb-true k number is)) here)
    (range_one number 0 s.channels (omega arith) (omega (arith, c))))

-- ---- endpoints

not_there : (e : EndpointId) (xs : List EndSetting) → list_any (has_id e) xs ≡ false → count_by (has_id e) xs ≡ 0
not_there e [] none = refl
not_there e (x ∷ xs) none = by_test (has_id e x) refl none (not_there e xs)
  where
    by_test : (b : Bool) → has_id e x ≡ b → (b || list_any (has_id e) xs) ≡ false → (list_any (has_id e) xs ≡ false → count_by (has_id e) xs ≡ 0) →
        count_by (has_id e) (x ∷ xs) ≡ 0
    by_test true is h later = absurd (true≢false h)
    by_test false is h later = omega (arith, later h, ap bit is, sum_by-cons (λ (y : EndSetting). bit (has_id e y)) x xs)

-- where no two settings have one id, an endpoint has at most one
pub ends_most : (e : EndpointId) (xs : List EndSetting) → AreApart (λ (s t : EndSetting). same_end s.id t.id) xs → count_by (has_id e) xs ≤ 1
ends_most e [] apart = omega arith
ends_most e (x ∷ xs) apart = by_test (has_id e x) refl (ends_most e xs apart.1)
  where
    by_test : (b : Bool) → has_id e x ≡ b → count_by (has_id e) xs ≤ 1 → count_by (has_id e) (x ∷ xs) ≤ 1
    by_test true is later =
        let none : list_any (has_id e) xs ≡ false = ap (λ (i : EndpointId). list_any (has_id i) xs) (same_end-is e x.id is) ∙ apart.0 in
        omega (arith, not_there e xs none, ap bit is, sum_by-cons (λ (y : EndSetting). bit (has_id e y)) x xs)
    by_test false is later = omega (arith, later, ap bit is, sum_by-cons (λ (y : EndSetting). bit (has_id e y)) x xs)

ends_least : (e : EndpointId) (xs : List EndSetting) → list_any (has_id e) xs ≡ true → 1 ≤ count_by (has_id e) xs
ends_least e [] known = absurd (true≢false (sym known))
ends_least e (x ∷ xs) known = by_test (has_id e x) refl known (ends_least e xs)
  where
    by_test : (b : Bool) → has_id e x ≡ b → (b || list_any (has_id e) xs) ≡ true → (list_any (has_id e) xs ≡ true → 1 ≤ count_by (has_id e) xs) →
        1 ≤ count_by (has_id e) (x ∷ xs)
    by_test true is h later = omega (arith, ap bit is, sum_by-cons (λ (y : EndSetting). bit (has_id e y)) x xs)
    by_test false is h later = omega (arith, later h, ap bit is, sum_by-cons (λ (y : EndSetting). bit (has_id e y)) x xs)

-- and one that is declared has one
pub ends_one : (e : EndpointId) (xs : List EndSetting) → AreApart (λ (s t : EndSetting). same_end s.id t.id) xs → list_any (has_id e) xs ≡ true →
    count_by (has_id e) xs ≡ 1
ends_one e xs apart known = omega (arith, ends_most e xs apart, ends_least e xs known)
