-- What the tests on names tell.
use Rattle.std.proofs.Common.{◌≡◌, ◌==◌, ℕ, true, refl, eqb-true, eq-eqb, List, [], ◌∷◌, ap, Bool, ◌||◌, Option, map}
use Rattle.std.proofs.lemmas.Bool.{and_parts, and_from}
use Rattle.std.specs.List.{list_any}
use Rattle.am_names.specs.declared.EndpointId.{EndpointId}
use Rattle.am_names.specs.declared.Serial.{Serial}
use Rattle.am_names.specs.Names.{same_end, same_serial, same_node}
use Rattle.am_names.specs.declared.NodeId.{NodeId}
use Rattle.am_model.specs.Layout.{node_at}
use Rattle.am_model.specs.Channels.{Channel, same_channel}

pub same_end-is : (a b : EndpointId) → same_end a b ≡ true → a ≡ b
same_end-is a b h = let e : a.0 ≡ b.0 = eqb-true a.0 b.0 h in λ i. record { 0 = e i }

pub same_end-refl : (e : EndpointId) → same_end e e ≡ true
same_end-refl e = eq-eqb e.0 e.0 refl

pub same_serial-is : (s t : Serial) → same_serial s t ≡ true → s ≡ t
same_serial-is s t h =
    let parts = and_parts (same_end s.source t.source) (s.count == t.count) h in
    let e : s.source ≡ t.source = same_end-is s.source t.source parts.0 in
    let c : s.count ≡ t.count = eqb-true s.count t.count parts.1 in
    λ i. record { source = e i; count = c i }

pub same_serial-refl : (s : Serial) → same_serial s s ≡ true
same_serial-refl s = and_from (same_end s.source s.source) (s.count == s.count) (same_end-refl s.source) (eq-eqb s.count s.count refl)

pub same_node-is : (a b : NodeId) → same_node a b ≡ true → a ≡ b
same_node-is a b h = let e : a.0 ≡ b.0 = eqb-true a.0 b.0 h in λ i. record { 0 = e i }

pub same_node-refl : (n : NodeId) → same_node n n ≡ true
same_node-refl n = eq-eqb n.0 n.0 refl

pub same_channel-refl : (c : Channel) → same_channel c c.node c.peer c.number ≡ true
same_channel-refl c = and_from _ _ (and_from _ _ (same_node-refl c.node) (same_node-refl c.peer)) (eq-eqb c.number c.number refl)

pub same_end-first : (e : EndpointId) (es : List EndpointId) → list_any (same_end e) (e ∷ es) ≡ true
same_end-first e es = ap (λ (b : Bool). b || list_any (same_end e) es) (same_end-refl e)

-- a reading of nodes by their numbers
pub nodes_fused : {X : Type 0} (f : NodeId → Option X) (ns : List ℕ) → map (λ (k : ℕ). f (node_at k)) ns ≡ map f (map node_at ns)
nodes_fused f [] = refl
nodes_fused f (k ∷ ks) = ap (λ xs. f (node_at k) ∷ xs) (nodes_fused f ks)
