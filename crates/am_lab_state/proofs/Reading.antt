-- The channels of a node are read off the log of its interface.
use Rattle.std.proofs.Common.{◌≡◌, ℕ, List, ◌++◌, Option, ap, ◌∙◌}
use Rattle.std.specs.List.{filter}
use Rattle.am_iface.specs.View.{InterfaceView}
use Rattle.am_machine.specs.Interfaces.{IsInterface}
use Rattle.am_model.specs.Channels.{Mark, attempt, bound_message, decides, last_such, mark, mark_by, sequence}
use Rattle.am_model.specs.History.{channel_to}
use Rattle.am_model.specs.Layout.{Layout}
use Rattle.am_model_parts.proofs.Parts.{attempt_own, bound_own, mark_own, sequence_own}
use Rattle.am_names.specs.declared.Message.{Message}
use Rattle.am_names.specs.declared.NodeId.{NodeId}
use Rattle.am_office_entries.specs.declared.Entry.{Entry}
use Rattle.am_office_entries.specs.Entries.{touches_node}
use Rattle.am_lab_state.specs.Channels.{channel_lines, holds_if, mark_line}

-- what is told of a channel by its four readings
abbrev told_by : (node peer : NodeId) (number seq tried : ℕ) → Option Message → Mark → List ℕ
told_by node peer number seq tried bound m = holds_if (channel_to node peer number) seq tried bound ++ mark_line (channel_to node peer number) m

four_same : (node peer : NodeId) (number a a' b b' : ℕ) (m m' : Option Message) (k k' : Mark) → a ≡ a' → b ≡ b' → m ≡ m' → k ≡ k' →
    told_by node peer number a b m k ≡ told_by node peer number a' b' m' k'
four_same node peer number a a' b b' m m' k k' ea eb em ek =
    ap (λ (x : ℕ). told_by node peer number x b m k) ea
    ∙ ap (λ (x : ℕ). told_by node peer number a' x m k) eb
    ∙ ap (λ (x : Option Message). told_by node peer number a' b' x k) em
    ∙ ap (λ (x : Mark). told_by node peer number a' b' m' x) ek

channel_own : (past : List Entry) (node peer : NodeId) (number : ℕ) →
    channel_lines (filter (touches_node node) past) node peer number ≡ channel_lines past node peer number
channel_own past node peer number =
    let c = channel_to node peer number in
    let log = filter (touches_node node) past in
    four_same node peer number (sequence c log) (sequence c past) (attempt c log) (attempt c past) (bound_message c log) (bound_message c past) (mark c log)
    (mark c past) (sequence_own c past) (attempt_own c past) (bound_own c past) (mark_own c past)

-- the mark that the last verdict in a node's log leaves
pub mark_told : (n n' peer : NodeId) (number : ℕ) (x : Option Entry) (log log' : List Entry) → n ≡ n' → log ≡ log' →
    x ≡ last_such (λ (y : Entry). decides (channel_to n peer number) y.event y.outcome) log →
    mark_line (channel_to n peer number) (mark_by x) ≡ mark_line (channel_to n' peer number) (mark (channel_to n' peer number) log')
mark_told n n' peer number x log log' same logs last =
    ap (λ (y : Option Entry). mark_line (channel_to n peer number) (mark_by y)) last
    ∙ ap (λ (l : List Entry). mark_line (channel_to n peer number) (mark (channel_to n peer number) l)) logs
    ∙ ap (λ (m : NodeId). mark_line (channel_to m peer number) (mark (channel_to m peer number) log')) same

-- an interface of the layout tells of a channel what the journal tells
pub channel_of : (layout : Layout) (journal : List Entry) (node : NodeId) (i : InterfaceView) (peer : NodeId) (number : ℕ) → IsInterface layout journal node i →
    channel_lines i.log i.settings.node peer number ≡ channel_lines journal node peer number
channel_of layout journal node i peer number k =
    ap (λ (log : List Entry). channel_lines log i.settings.node peer number) k.part
    ∙ ap (λ (at : NodeId). channel_lines (filter (touches_node node) journal) at peer number) k.is_node
    ∙ channel_own journal node peer number
