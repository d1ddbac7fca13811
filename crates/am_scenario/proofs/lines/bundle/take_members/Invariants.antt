use Rattle.std.proofs.Common.{◌≡◌, ◌∷◌, List, length}
use Rattle.am_lexer.specs.Text.{words_of}
use Rattle.am_names.specs.declared.EndpointId.{EndpointId}
use Rattle.am_scenario.specs.Drafts.Drafts.{said}
use Rattle.am_scenario.specs.Lines.Declarations.{members}
use Rattle.am_scenario.proofs.Members.{behind}
use Rattle.am_scenario.proofs.lines.bundle.take_members.Given as goal

abbrev pub invariant-loop-word : goal.invariant-loop-word
invariant-loop-word l = (front : List EndpointId) × (l.ids.items ≡ l.fn.first ∷ front) ×
    (behind front (members (said l.draft) l.node (words_of l.rest)) ≡ members (said l.draft) l.node (words_of l.fn.rest))

abbrev pub decreases-loop-word : goal.decreases-loop-word
decreases-loop-word l = length l.rest
