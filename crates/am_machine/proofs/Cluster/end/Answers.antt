use Rattle.std.specs.List.{position}
use Rattle.std.proofs.Common.{◌≡◌, false, map, None, Some, refl, sym, ap, ◌∙◌, subst}
use Rattle.am_model.specs.Layout.{declared}
use Rattle.am_driver_moves.specs.Logs.{kept}
use Rattle.am_machine.specs.Ends.{is_of}
use Rattle.am_machine.specs.Kept.{journal_by, layout_in}
use Rattle.am_machine.specs.View.{ClusterView}
use Rattle.am_machine.proofs.Looks.{IsFoundAt, end_found, end_unknown, unknown_is}
use Rattle.am_machine.proofs.Apart.{apart_in}
use Rattle.am_machine.proofs.Cluster.end.Goals as goal

pub place_of-requires : goal.place_of-requires
place_of-requires c =
    let vs = c.self.inside.ends.items in
    let journal = journal_by (map kept vs) c.self.inside.interfaces.items in
    let layout = layout_in c.self.inside.settings c.self.inside.faults.items (map kept vs) in
    apart_in layout vs c.deref.result.now journal c.self.invariant.kept'.tied c.deref.ensures.value

pub returns-in-Some-clause-known : goal.returns-in-Some-clause-known
returns-in-Some-clause-known c =
    let vs = c.self.inside.ends.items in
    let journal = journal_by (map kept vs) c.self.inside.interfaces.items in
    let layout = layout_in c.self.inside.settings c.self.inside.faults.items (map kept vs) in
    let one = c.index.result.now in
    let found =
    end_found layout vs journal c.args.id c.in-Some.place one refl c.self.invariant.kept'.tied
    (sym (c.place_of.ensures ∙ ap (position (is_of c.args.id)) c.deref.ensures.value) ∙ c.in-Some.is) c.index.ensures in
    (subst (λ (w : ClusterView). IsFoundAt w.layout w.journal c.args.id one) c.self.view_is found).known

pub returns-in-Some-clause-id : goal.returns-in-Some-clause-id
returns-in-Some-clause-id c =
    let vs = c.self.inside.ends.items in
    let journal = journal_by (map kept vs) c.self.inside.interfaces.items in
    let layout = layout_in c.self.inside.settings c.self.inside.faults.items (map kept vs) in
    let one = c.index.result.now in
    let found =
    end_found layout vs journal c.args.id c.in-Some.place one refl c.self.invariant.kept'.tied
    (sym (c.place_of.ensures ∙ ap (position (is_of c.args.id)) c.deref.ensures.value) ∙ c.in-Some.is) c.index.ensures in
    (subst (λ (w : ClusterView). IsFoundAt w.layout w.journal c.args.id one) c.self.view_is found).id

pub returns-in-Some-clause-settings : goal.returns-in-Some-clause-settings
returns-in-Some-clause-settings c =
    let vs = c.self.inside.ends.items in
    let journal = journal_by (map kept vs) c.self.inside.interfaces.items in
    let layout = layout_in c.self.inside.settings c.self.inside.faults.items (map kept vs) in
    let one = c.index.result.now in
    let found =
    end_found layout vs journal c.args.id c.in-Some.place one refl c.self.invariant.kept'.tied
    (sym (c.place_of.ensures ∙ ap (position (is_of c.args.id)) c.deref.ensures.value) ∙ c.in-Some.is) c.index.ensures in
    (subst (λ (w : ClusterView). IsFoundAt w.layout w.journal c.args.id one) c.self.view_is found).settings

pub returns-in-Some-clause-node : goal.returns-in-Some-clause-node
returns-in-Some-clause-node c =
    let vs = c.self.inside.ends.items in
    let journal = journal_by (map kept vs) c.self.inside.interfaces.items in
    let layout = layout_in c.self.inside.settings c.self.inside.faults.items (map kept vs) in
    let one = c.index.result.now in
    let found =
    end_found layout vs journal c.args.id c.in-Some.place one refl c.self.invariant.kept'.tied
    (sym (c.place_of.ensures ∙ ap (position (is_of c.args.id)) c.deref.ensures.value) ∙ c.in-Some.is) c.index.ensures in
    (subst (λ (w : ClusterView). IsFoundAt w.layout w.journal c.args.id one) c.self.view_is found).node

pub returns-in-Some-clause-log : goal.returns-in-Some-clause-log
returns-in-Some-clause-log c =
    let vs = c.self.inside.ends.items in
    let journal = journal_by (map kept vs) c.self.inside.interfaces.items in
    let layout = layout_in c.self.inside.settings c.self.inside.faults.items (map kept vs) in
    let one = c.index.result.now in
    let found =
    end_found layout vs journal c.args.id c.in-Some.place one refl c.self.invariant.kept'.tied
    (sym (c.place_of.ensures ∙ ap (position (is_of c.args.id)) c.deref.ensures.value) ∙ c.in-Some.is) c.index.ensures in
    (subst (λ (w : ClusterView). IsFoundAt w.layout w.journal c.args.id one) c.self.view_is found).log

pub returns-in-Some-clause-state : goal.returns-in-Some-clause-state
returns-in-Some-clause-state c =
    let vs = c.self.inside.ends.items in
    let journal = journal_by (map kept vs) c.self.inside.interfaces.items in
    let layout = layout_in c.self.inside.settings c.self.inside.faults.items (map kept vs) in
    let one = c.index.result.now in
    let found =
    end_found layout vs journal c.args.id c.in-Some.place one refl c.self.invariant.kept'.tied
    (sym (c.place_of.ensures ∙ ap (position (is_of c.args.id)) c.deref.ensures.value) ∙ c.in-Some.is) c.index.ensures in
    (subst (λ (w : ClusterView). IsFoundAt w.layout w.journal c.args.id one) c.self.view_is found).state

pub returns-in-None-clause-known : goal.returns-in-None-clause-known
returns-in-None-clause-known c =
    let vs = c.self.inside.ends.items in
    let journal = journal_by (map kept vs) c.self.inside.interfaces.items in
    let layout = layout_in c.self.inside.settings c.self.inside.faults.items (map kept vs) in
    subst (λ (w : ClusterView). false ≡ declared w.layout c.args.id) c.self.view_is
    (end_unknown layout vs c.args.id refl (sym (c.place_of.ensures ∙ ap (position (is_of c.args.id)) c.deref.ensures.value) ∙ c.in-None.is))

pub returns-in-Some-clause-none : goal.returns-in-Some-clause-none
returns-in-Some-clause-none c = unknown_is (Some c.index.result) (declared c.args.self.now.layout c.args.id) (returns-in-Some-clause-known c)

pub returns-in-None-clause-none : goal.returns-in-None-clause-none
returns-in-None-clause-none c = unknown_is None (declared c.args.self.now.layout c.args.id) (returns-in-None-clause-known c)
