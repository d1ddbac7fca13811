use Rattle.std.proofs.Common.{◌≡◌, List, false, map, refl, ap, ◌∙◌, sym, subst, arith}
use Rattle.am_model.specs.Layout.{node_at}
use Rattle.am_endpoint.specs.View.{EndpointView}
use Rattle.am_machine.specs.Node.Parts.{all_logs, journal_of, parts_of}
use Rattle.am_machine.specs.Node.Shells.{AreShells}
use Rattle.am_machine_journal.specs.Index.View.{received_in, receipts}
use Rattle.am_driver_moves.specs.Logs.{kept}
use Rattle.am_machine.specs.Kept.{journal_by, layout_in}
use Rattle.am_machine.specs.Parts.{AreNodeParts}
use Rattle.am_machine.specs.View.{ClusterView}
use Rattle.am_machine_journal.proofs.Growing.{received_is}
use Rattle.am_machine.proofs.Looks.{receipts_bounded}
use Rattle.am_machine.proofs.PartsMade.{IsTakenApart, are_parts, has_room, same_lengths}
use Rattle.am_machine_journal.proofs.OneJournal.{merged_is}
use Rattle.am_machine.proofs.PartLogs.{have_just}
use Rattle.am_machine.proofs.Cluster.split.Goals as goal

pub open_shells-requires-clause-small : goal.open_shells-requires-clause-small
open_shells-requires-clause-small c =
    let vs = c.self.inside.ends.items in
    let journal = journal_by (map kept vs) c.self.inside.interfaces.items in
    let layout = layout_in c.self.inside.settings c.self.inside.faults.items (map kept vs) in
    let packet : layout.direct ≡ false = ap (λ (w : ClusterView). w.layout.direct) c.self.view_is ∙ c.requires.packet in
    let most = c.self.invariant.kept'.tied.lawful.log.1 in
    let nodes = c.self.invariant.kept'.tied.lawful.nodes.1 in
    λ k lt from below.
    (let few = receipts_bounded layout journal c.self.inside.interfaces.items (node_at from) (node_at k) c.self.invariant.kept'.interfaces' packet lt in
    let is : received_in c.self.inside.index.read (node_at from) (record { 0 = k }) ≡ receipts (node_at from) (node_at k) journal =
    received_is journal c.self.inside.index.read (node_at from) (node_at k) c.self.invariant.index' (omega (arith, below, nodes))
    (omega (arith, lt, nodes)) in
    omega (arith, few, most, is))

pub deal-requires : goal.deal-requires
deal-requires c =
    let vs = c.self.inside.ends.items in
    let layout = layout_in c.self.inside.settings c.self.inside.faults.items (map kept vs) in
    let journal = journal_by (map kept vs) c.self.inside.interfaces.items in
    has_room layout journal vs c.in-Ok.shells.items refl c.self.invariant.kept'.tied.lawful
    (subst (λ (l : List EndpointView). AreShells l journal layout.nodes layout.nodes c.in-Ok.shells.items) c.deref.ensures.value
    (c.in-Ok.ensures (journal_by (map kept c.self.inside.ends.items) c.self.inside.interfaces.items) c.self.invariant.index'))

-- the cluster and its shells
apart : (c : goal.After-deal) → IsTakenApart (layout_in c.self.inside.settings c.self.inside.faults.items (map kept c.self.inside.ends.items))
    (journal_by (map kept c.self.inside.ends.items) c.self.inside.interfaces.items) c.self.inside.ends.items c.in-Ok.shells.items c.deal.result.items
    c.self.inside.interfaces.items c.self.inside.swaps.items
apart c =
    let vs = c.self.inside.ends.items in
    let layout = layout_in c.self.inside.settings c.self.inside.faults.items (map kept vs) in
    let journal = journal_by (map kept vs) c.self.inside.interfaces.items in
    record {
      packet = ap (λ (w : ClusterView). w.layout.direct) c.self.view_is ∙ c.requires.packet;
      ends' = refl;
      own = c.self.invariant.kept'.tied.own;
      interfaces' = c.self.invariant.kept'.interfaces';
      swaps' = c.self.invariant.kept'.swaps';
      opened = subst (λ (l : List EndpointView). AreShells l journal layout.nodes layout.nodes c.in-Ok.shells.items) c.deref.ensures.value
          (c.in-Ok.ensures (journal_by (map kept c.self.inside.ends.items) c.self.inside.interfaces.items) c.self.invariant.index');
      dealt' = c.deal.ensures;
    }

pub assemble-requires : goal.assemble-requires
assemble-requires c =
    let vs = c.self.inside.ends.items in
    let layout = layout_in c.self.inside.settings c.self.inside.faults.items (map kept vs) in
    let a = apart c in
    let lengths = same_lengths layout (journal_by (map kept c.self.inside.ends.items) c.self.inside.interfaces.items) vs c.in-Ok.shells.items
    c.deal.result.items c.self.inside.interfaces.items c.self.inside.swaps.items a in
    let dealt = a.dealt'.all in
    let opened = a.opened.all in
    let room = c.in-Ok-with_capacity.ensures.capacity in
    record { interfaces = lengths.0; swaps = lengths.1; none = c.in-Ok-with_capacity.ensures.items; room = omega (arith, dealt, opened, room) }

-- the same at the end
apart_still : (c : goal.After-drop-self-inside-2) → IsTakenApart (layout_in c.self.inside.settings c.self.inside.faults.items
    (map kept c.self.inside.ends.items)) (journal_by (map kept c.self.inside.ends.items) c.self.inside.interfaces.items) c.self.inside.ends.items
    c.in-Ok.shells.items c.deal.result.items c.self.inside.interfaces.items c.self.inside.swaps.items
apart_still c =
    let vs = c.self.inside.ends.items in
    let layout = layout_in c.self.inside.settings c.self.inside.faults.items (map kept vs) in
    let journal = journal_by (map kept vs) c.self.inside.interfaces.items in
    record {
      packet = ap (λ (w : ClusterView). w.layout.direct) c.self.view_is ∙ c.requires.packet;
      ends' = refl;
      own = c.self.invariant.kept'.tied.own;
      interfaces' = c.self.invariant.kept'.interfaces';
      swaps' = c.self.invariant.kept'.swaps';
      opened = subst (λ (l : List EndpointView). AreShells l journal layout.nodes layout.nodes c.in-Ok.shells.items) c.deref.ensures.value
          (c.in-Ok.ensures (journal_by (map kept c.self.inside.ends.items) c.self.inside.interfaces.items) c.self.invariant.index');
      dealt' = c.deal.ensures;
    }

pub returns-clause-parts : goal.returns-clause-parts
returns-clause-parts c =
    let vs = c.self.inside.ends.items in
    let layout = layout_in c.self.inside.settings c.self.inside.faults.items (map kept vs) in
    let made = are_parts layout (journal_by (map kept c.self.inside.ends.items) c.self.inside.interfaces.items) vs c.in-Ok.shells.items c.deal.result.items
    c.self.inside.interfaces.items c.self.inside.swaps.items (apart_still c) in
    subst (λ (w : ClusterView). AreNodeParts w.layout w.journal c.assemble.result.items) c.self.view_is
    (subst (AreNodeParts layout (journal_by (map kept c.self.inside.ends.items) c.self.inside.interfaces.items)) (sym c.assemble.ensures.parts) made)

pub returns-clause-journal : goal.returns-clause-journal
returns-clause-journal c =
    let vs = c.self.inside.ends.items in
    let layout = layout_in c.self.inside.settings c.self.inside.faults.items (map kept vs) in
    let journal = journal_by (map kept vs) c.self.inside.interfaces.items in
    let parts = parts_of c.deal.result.items c.self.inside.interfaces.items c.self.inside.swaps.items in
    let made = are_parts layout journal vs c.in-Ok.shells.items c.deal.result.items c.self.inside.interfaces.items c.self.inside.swaps.items (apart_still c) in
    let tied = c.self.invariant.kept'.tied in
    ap journal_of c.assemble.ensures.parts ∙ merged_is journal (all_logs parts) tied.ordered (have_just layout journal parts tied.lawful tied.history made)
    ∙ ap (λ (w : ClusterView). w.journal) c.self.view_is
