-- What is declared of a scenario's threads and endpoints.
use Rattle.std.proofs.Common.{◌≡◌, ℕ, zero, suc, ◌<◌, Bool, true, false, cond, List, [], ◌∷◌, Option, Some, None, refl, arith, eqb-true, ◌==◌, All, find}
use Rattle.std.proofs.Common.{option_map}
use Rattle.am_names.specs.declared.EndpointId.{EndpointId}
use Rattle.am_names.specs.declared.NodeId.{NodeId}
use Rattle.am_scenario_types.specs.declared.parts.ThreadLine.{ThreadLine}
use Rattle.am_scenario_types.specs.Lawful as lawful
use Rattle.am_scenario_types.specs.Lists.{ScenarioLists}

pub thread_below_64 : (ts : List ThreadLine) (id : ℕ) (node : NodeId) (s : ScenarioLists) → All (lawful.IsLawfulThread s.nodes) ts →
    lawful.thread_node ts id ≡ Some node → id < 64
thread_below_64 [] id node s all h = absurd (cc)
thread_below_64 (t ∷ ts) id node s all h = by_test (t.id == id) refl h (thread_below_64 ts id node s (λ i d lt. all (suc i) d (omega (arith, lt))))
  where
    by_test : (b : Bool) → (t.id == id) ≡ b → option_map (λ (x : ThreadLine). x.node) (cond b (Some t) (find (λ (x : ThreadLine). x.id == id) ts)) ≡ Some node →
        (lawful.thread_node ts id ≡ Some node → id < 64) → id < 64
    by_test true is k later = omega (arith, eqb-true t.id id is, (all zero t (omega arith)).id)
    by_test false is k later = later k

pub is_on_declared : (s : ScenarioLists) (node : NodeId) (e : EndpointId) → lawful.IsOn s.ends node e → lawful.IsDeclared s.ends e
is_on_declared s node e on = rw on refl
