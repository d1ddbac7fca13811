-- One member more.
use Rattle.std.proofs.Common.{◌≡◌, ℕ, List, [], ◌∷◌, ◌++◌, length, Some, Result, Ok, Err, false, refl, sym, ap, ◌∙◌, append_assoc, arith}
use Rattle.std.specs.Prelude.{◌==◌, ◌||◌}
use Rattle.std.specs.List.{list_any}
use Rattle.std.proofs.lemmas.List.{append-nil}
use Rattle.am_names.specs.declared.EndpointId.{EndpointId}
use Rattle.am_names.specs.declared.NodeId.{NodeId}
use Rattle.am_lexer.specs.declared.what.What.{What}
use Rattle.am_lexer.specs.Fields.{◌>>=◌}
use Rattle.am_scenario_types.specs.declared.parts.EndLine.{EndLine}
use Rattle.am_scenario.specs.Drafts.Said.{Said}
use Rattle.am_scenario.specs.Lines.Places.{end_word}
use Rattle.am_scenario.specs.Lines.Declarations.{members, has_twice}

-- what is read behind those that were read
abbrev pub behind : List EndpointId → Result (List EndpointId) What → Result (List EndpointId) What
behind front read = read >>= λ ids. Ok (front ++ ids)

behind-push : (front : List EndpointId) (id : EndpointId) (read : Result (List EndpointId) What) →
    behind front (read >>= λ ids. Ok (id ∷ ids)) ≡ behind (front ++ id ∷ []) read
behind-push front id (Ok ids) = ap (λ (l : List EndpointId). Ok l) (sym (append_assoc front (id ∷ []) ids))
behind-push front id (Err what) = refl

pub member_taken : (said : Said) (node : NodeId) (front : List EndpointId) (word : List ℕ) (words : List (List ℕ)) (end : EndLine)
    (all : Result (List EndpointId) What)
    → end_word said (Some node) word ≡ Ok end → behind front (members said node (word ∷ words)) ≡ all →
    behind (front ++ end.id ∷ []) (members said node words) ≡ all
unfolding members
member_taken said node front word words end all e so_far = sym (behind-push front end.id (members said node words)) ∙ (rw e at so_far)

pub member_refused : (said : Said) (node : NodeId) (front : List EndpointId) (word : List ℕ) (words : List (List ℕ)) (what : What)
    (all : Result (List EndpointId) What)
    → end_word said (Some node) word ≡ Err what → behind front (members said node (word ∷ words)) ≡ all → all ≡ Err what
unfolding members
member_refused said node front word words what all e so_far = sym (rw e at so_far)

pub members_taken : (said : Said) (node : NodeId) (front : List EndpointId) (all : Result (List EndpointId) What) → behind front (members said node []) ≡ all →
    all ≡ Ok front
unfolding members
members_taken said node front all so_far = sym so_far ∙ ap (λ (l : List EndpointId). Ok l) (append-nil front)

pub none_twice : (ids : List EndpointId) → length ids ≡ 0 → has_twice ids ≡ false
unfolding has_twice
none_twice [] none = refl
none_twice (id ∷ ids) none = absurd (omega arith)

pub one_twice : (id : EndpointId) (ids : List EndpointId) → has_twice (id ∷ ids) ≡ (list_any (λ other. other.0 == id.0) ids || has_twice ids)
unfolding has_twice
one_twice id ids = refl
