use Rattle.std.proofs.Common.{◌≡◌, ℕ, ◌+◌, ◌<◌, List, ◌++◌, get_or, length, take, ap, ◌∙◌}
use Rattle.std.specs.List.{flat_map}
use Rattle.am_model.specs.Layout.{Layout}
use Rattle.am_model_scripts.specs.Layout.{layout_of}
use Rattle.am_office_entries.specs.declared.Entry.{Entry}
use Rattle.am_scenario_types.specs.Lists.{ScenarioLists}
use Rattle.am_scenario_types.specs.declared.parts.EndLine.{EndLine}
use Rattle.am_lab_state.specs.Ends.{end_lines}
use Rattle.am_lab_state.specs.Texts.{declared_lines}
use Rattle.am_lab_arrivals.proofs.Listing.{put_on}
use Rattle.am_lab_state.proofs.states.put_ends.Goals as goal

end_on : (s : ScenarioLists) (layout : Layout) (past : List Entry) (ends : List EndLine) (i : ℕ) (d : EndLine) (old out new : List ℕ) → layout ≡ layout_of s →
    i < length ends → out ≡ old ++ flat_map (declared_lines s past) (take i ends) → new ≡ out ++ end_lines layout past (get_or ends i d).id →
    new ≡ old ++ flat_map (declared_lines s past) (take (i + 1) ends)
end_on s layout past ends i d old out new same below so put =
    put_on (declared_lines s past) ends i d old out new below so (put ∙ ap (λ (l : Layout). out ++ end_lines l past (get_or ends i d).id) same)

pub loop-end-preserved : goal.loop-end-preserved
loop-end-preserved c =
    end_on c.args.scenario.now c.args.cluster.now.layout c.args.cluster.now.journal c.args.ends.now c.loop-end.end-index _ c.args.out.now.items
    c.loop-end.out.items c.put_end_lines.new.out.items c.requires c.loop-end-test.true c.loop-end.invariant c.in_ok-put_end_lines.ensures
