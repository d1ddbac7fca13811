-- One element more in a list that is filtered.
use Rattle.std.specs.Prelude.{filter}
use Rattle.std.proofs.Common.{◌≡◌, ℕ, Bool, true, false, cond, List, [], ◌∷◌, ◌++◌, map, refl, ap, ◌∙◌, append-nil}
use Rattle.std.proofs.lemmas.List.Elements.{filter-append}
use Rattle.am_names.specs.declared.NodeId.{NodeId}
use Rattle.am_names.specs.Names.{same_node}
use Rattle.am_scenario_types.specs.declared.parts.ScriptCall.{ScriptCall}
use Rattle.am_scenario_types.specs.declared.parts.ThreadLine.{ThreadLine}
use Rattle.am_model_scripts.specs.Scripts.{is_of_thread}
use Rattle.am_cluster_opening.specs.Node.Openings.{thread_ids}

ids_push : (node : NodeId) (xs : List ThreadLine) (x : ThreadLine) → thread_ids (xs ++ x ∷ []) node ≡ thread_ids xs node ++ thread_ids (x ∷ []) node
ids_push node [] x = refl
ids_push node (y ∷ ys) x = by_test (same_node node y.node) (ids_push node ys x)
  where
    by_test : (b : Bool) → thread_ids (ys ++ x ∷ []) node ≡ thread_ids ys node ++ thread_ids (x ∷ []) node →
        map (λ (t : ThreadLine). t.id) (cond b (y ∷ filter (λ (t : ThreadLine). same_node node t.node) (ys ++ x ∷ []))
        (filter (λ (t : ThreadLine). same_node node t.node) (ys ++ x ∷ []))) ≡ map (λ (t : ThreadLine). t.id)
        (cond b (y ∷ filter (λ (t : ThreadLine). same_node node t.node) ys) (filter (λ (t : ThreadLine). same_node node t.node) ys)) ++ thread_ids (x ∷ []) node
    by_test true more = ap (λ (l : List ℕ). y.id ∷ l) more
    by_test false more = more

pub ids_in : (node : NodeId) (xs : List ThreadLine) (x : ThreadLine) → same_node node x.node ≡ true →
    thread_ids (xs ++ x ∷ []) node ≡ thread_ids xs node ++ x.id ∷ []
ids_in node xs x is = ids_push node xs x ∙ ap (λ (b : Bool). thread_ids xs node ++ map (λ (t : ThreadLine). t.id) (cond b (x ∷ []) [])) is

pub ids_out : (node : NodeId) (xs : List ThreadLine) (x : ThreadLine) → same_node node x.node ≡ false → thread_ids (xs ++ x ∷ []) node ≡ thread_ids xs node
ids_out node xs x is = ids_push node xs x ∙ ap (λ (b : Bool). thread_ids xs node ++ map (λ (t : ThreadLine). t.id) (cond b (x ∷ []) [])) is
    ∙ append-nil (thread_ids xs node)

pub calls_in : (thread : ℕ) (xs : List ScriptCall) (x : ScriptCall) → is_of_thread thread x ≡ true →
    filter (is_of_thread thread) (xs ++ x ∷ []) ≡ filter (is_of_thread thread) xs ++ x ∷ []
calls_in thread xs x is = filter-append (is_of_thread thread) xs (x ∷ []) ∙ ap (λ (b : Bool). filter (is_of_thread thread) xs ++ cond b (x ∷ []) []) is

pub calls_out : (thread : ℕ) (xs : List ScriptCall) (x : ScriptCall) → is_of_thread thread x ≡ false →
    filter (is_of_thread thread) (xs ++ x ∷ []) ≡ filter (is_of_thread thread) xs
calls_out thread xs x is = filter-append (is_of_thread thread) xs (x ∷ []) ∙ ap (λ (b : Bool). filter (is_of_thread thread) xs ++ cond b (x ∷ []) []) is
    ∙ append-nil (filter (is_of_thread thread) xs)
