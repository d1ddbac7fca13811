use Rattle.std.specs.Prelude.{option_map}
use Rattle.std.proofs.Common.{◌≡◌, map, position, Some, None, sym, ap, ◌∙◌}
use Rattle.am_office_entries.specs.declared.Part.TheVariants as Parts
use Rattle.am_model.specs.History.{failing, is_in_range}
use Rattle.am_model.specs.Steps.{LogFull, NotEnabled}
use Rattle.am_driver_moves.specs.Logs.{kept}
use Rattle.am_machine.specs.Ends.{is_of}
use Rattle.am_machine.specs.Kept.{journal_by, layout_in}
use Rattle.am_machine.specs.Refusals.{fault_of}
use Rattle.am_machine.specs.View.{ClusterView}
use Rattle.am_machine.proofs.Moving as moving
use Rattle.am_machine.proofs.Moving.{Move}
use Rattle.am_machine.proofs.Places.{not_found}
use Rattle.am_machine.proofs.Refusing.{failing_stops, told_of}
use Rattle.am_machine.proofs.Apart.{apart_in}
use Rattle.am_machine.proofs.Cluster.refusal_of_move.Goals as goal

pub place_of-requires : goal.place_of-requires
place_of-requires c =
    let vs = c.self.inside.ends.items in
    let journal = journal_by (map kept vs) c.self.inside.interfaces.items in
    let layout = layout_in c.self.inside.settings c.self.inside.faults.items (map kept vs) in
    apart_in layout vs c.deref.result.now journal c.self.invariant.kept'.tied c.deref.ensures.value

pub unreachable-requires : goal.unreachable-requires
unreachable-requires c =
    let vs = c.self.inside.ends.items in
    let journal = journal_by (map kept vs) c.self.inside.interfaces.items in
    let layout = layout_in c.self.inside.settings c.self.inside.faults.items (map kept vs) in
    let range = ap (λ (v : ClusterView). is_in_range v.layout c.args.event) c.self.view_is ∙ c.requires.in_range in
    not_found vs c.args.end (sym (c.place_of.ensures ∙ ap (position (is_of c.args.end)) c.deref.ensures.value)
    ∙ c.in_default-place_of.is) (moving.end_known layout c.args.event c.args.end range c.requires.end)

pub returns-in-Some : goal.returns-in-Some
returns-in-Some c =
    let v = c.args.self.now in
    sym (ap (option_map fault_of) (failing_stops v.layout v.journal c.args.event c.in-Some.condition (sym c.failing_move.ensures ∙ c.in-Some.is)))

pub returns-then-is_full : goal.returns-then-is_full
returns-then-is_full c =
    let vs = c.self.inside.ends.items in
    let journal = journal_by (map kept vs) c.self.inside.interfaces.items in
    let layout = layout_in c.self.inside.settings c.self.inside.faults.items (map kept vs) in
    let move : Move = record {
      settings = c.self.inside.settings;
      faults = c.self.inside.faults.items;
      ends = vs;
      journal = journal;
      event = c.args.event;
      node = c.args.node;
      end = c.args.end;
      place = c.in-Some-place_of.place;
      one = c.index.result.now;
      tied = c.self.invariant.kept'.tied;
      in_range = ap (λ (v : ClusterView). is_in_range v.layout c.args.event) c.self.view_is ∙ c.requires.in_range;
      driver = c.requires.driver;
      moved = c.requires.end;
      enabled = ap (λ (v : ClusterView). failing v.layout v.journal c.args.event) c.self.view_is ∙ sym c.failing_move.ensures ∙ c.in_default.is;
      found = sym (c.place_of.ensures ∙ ap (position (is_of c.args.end)) c.deref.ensures.value) ∙ c.in-Some-place_of.is;
      value = c.index.ensures;
    } in
    told_of layout journal c.args.self.now c.args.event (Some (LogFull (Parts.Endpoint c.args.end))) c.self.view_is
    (moving.move_stopped move (sym c.is_full.ensures ∙ c.if-is_full.true))

pub returns : goal.returns
returns c =
    let vs = c.self.inside.ends.items in
    let journal = journal_by (map kept vs) c.self.inside.interfaces.items in
    let layout = layout_in c.self.inside.settings c.self.inside.faults.items (map kept vs) in
    let move : Move = record {
      settings = c.self.inside.settings;
      faults = c.self.inside.faults.items;
      ends = vs;
      journal = journal;
      event = c.args.event;
      node = c.args.node;
      end = c.args.end;
      place = c.in-Some-place_of.place;
      one = c.index.result.now;
      tied = c.self.invariant.kept'.tied;
      in_range = ap (λ (v : ClusterView). is_in_range v.layout c.args.event) c.self.view_is ∙ c.requires.in_range;
      driver = c.requires.driver;
      moved = c.requires.end;
      enabled = ap (λ (v : ClusterView). failing v.layout v.journal c.args.event) c.self.view_is ∙ sym c.failing_move.ensures ∙ c.in_default.is;
      found = sym (c.place_of.ensures ∙ ap (position (is_of c.args.end)) c.deref.ensures.value) ∙ c.in-Some-place_of.is;
      value = c.index.ensures;
    } in
    told_of layout journal c.args.self.now c.args.event None c.self.view_is
    (moving.move_runs move (sym c.is_full.ensures ∙ c.if-is_full.false))
