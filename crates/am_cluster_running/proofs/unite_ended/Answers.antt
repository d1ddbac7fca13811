use Rattle.std.proofs.Common.{◌∙◌, ℕ, List, sym, ap, subst}
use Rattle.am_office_entries.specs.declared.Entry.{Entry}
use Rattle.am_model_drain.specs.Follows.{IsGoodPhase}
use Rattle.am_scenario_types.specs.Lists.{ScenarioLists}
use Rattle.am_cluster_running.specs.Parting.{ArePartsOf}
use Rattle.am_cluster_running.proofs.Left.{books_of, crews_are_left}
use Rattle.am_cluster_running.proofs.CrewLinks.{ends_are_linked}
use Rattle.am_cluster_running.proofs.unite_ended.Goals as goal

pub parts_of-requires-clause-linked : goal.parts_of-requires-clause-linked
parts_of-requires-clause-linked c = ends_are_linked c.args.scenario.now c.args.scenario.now.turns c.args.crews.items c.in_ok-ended.ended c.requires.crews
    c.requires.linked c.in_ok-ended.ensures

pub unite-requires-clause-parts : goal.unite-requires-clause-parts
unite-requires-clause-parts c =
    let told = c.in_ok-parts.ensures in
    let left = crews_are_left c.receipts_are_counted.ensures c.args.scenario.now c.args.crews.items c.in_ok-ended.ended told.0 c.in_ok-parts.parts.items
    c.requires.lawful c.requires.packet c.requires.crews c.in_ok-ended.ensures told.1
    (subst (λ (n : ℕ). ArePartsOf n c.in_ok-ended.ended.nodes.items told.0 c.in_ok-parts.parts.items) (ap (λ (s : ScenarioLists). s.nodes) c.scenario.view_is)
    told.2)
    in
    (c.crews_unite.ensures c.args.scenario.now c.args.crews.items (books_of c.in_ok-ended.ended.nodes.items) c.in_ok-parts.parts.items left).can

pub returns-in-Ok-clause-good : goal.returns-in-Ok-clause-good
returns-in-Ok-clause-good c =
    let told = c.in_ok-parts.ensures in
    let left = crews_are_left c.receipts_are_counted.ensures c.args.scenario.now c.args.crews.items c.in_ok-ended.ended told.0 c.in_ok-parts.parts.items
    c.requires.lawful c.requires.packet c.requires.crews c.in_ok-ended.ensures told.1
    (subst (λ (n : ℕ). ArePartsOf n c.in_ok-ended.ended.nodes.items told.0 c.in_ok-parts.parts.items) (ap (λ (s : ScenarioLists). s.nodes) c.scenario.view_is)
    told.2)
    in
    subst (λ (journal : List Entry). IsGoodPhase c.args.scenario.now journal) (sym c.in-Ok.ensures.journal)
    (c.crews_unite.ensures c.args.scenario.now c.args.crews.items (books_of c.in_ok-ended.ended.nodes.items) c.in_ok-parts.parts.items left).good

pub returns-in-Ok-clause-none : goal.returns-in-Ok-clause-none
returns-in-Ok-clause-none c none =
    let told = c.in_ok-parts.ensures in
    let left = crews_are_left c.receipts_are_counted.ensures c.args.scenario.now c.args.crews.items c.in_ok-ended.ended told.0 c.in_ok-parts.parts.items
    c.requires.lawful c.requires.packet c.requires.crews c.in_ok-ended.ensures told.1
    (subst (λ (n : ℕ). ArePartsOf n c.in_ok-ended.ended.nodes.items told.0 c.in_ok-parts.parts.items) (ap (λ (s : ScenarioLists). s.nodes) c.scenario.view_is)
    told.2)
    in
    c.in-Ok.ensures.journal ∙ (c.crews_unite.ensures c.args.scenario.now c.args.crews.items (books_of c.in_ok-ended.ended.nodes.items) c.in_ok-parts.parts.items
    left).none none

pub returns-in-Ok-clause-made : goal.returns-in-Ok-clause-made
returns-in-Ok-clause-made c =
    let told = c.in_ok-parts.ensures in
    let left = crews_are_left c.receipts_are_counted.ensures c.args.scenario.now c.args.crews.items c.in_ok-ended.ended told.0 c.in_ok-parts.parts.items
    c.requires.lawful c.requires.packet c.requires.crews c.in_ok-ended.ensures told.1
    (subst (λ (n : ℕ). ArePartsOf n c.in_ok-ended.ended.nodes.items told.0 c.in_ok-parts.parts.items) (ap (λ (s : ScenarioLists). s.nodes) c.scenario.view_is)
    told.2)
    in
    record { books = books_of c.in_ok-ended.ended.nodes.items; parts = c.in_ok-parts.parts.items; left = left; journal_is = c.in-Ok.ensures.journal }
