use Rattle.std.proofs.Common.{◌≡◌, ℕ, ◌+◌, ◌<◌, ◌≤◌, List, ◌∷◌, Option, drop, get_or, length, sym, ap, ◌∙◌}
use Rattle.std.proofs.lemmas.List.{at_drop_more, drop_all}
use Rattle.std.specs.Prelude.{option_to_list}
use Rattle.am_names.specs.declared.NodeId.{NodeId}
use Rattle.am_model_scripts.specs.Links.{number_received, received}
use Rattle.am_office_entries.specs.declared.Entry.{Entry}
use Rattle.am_lab_state.specs.Links.{without_received}
use Rattle.am_lab_state.proofs.Taking.{taken_more}
use Rattle.am_lab_state.proofs.unreceived.take_received.Goals as goal

took_on : (from to : NodeId) (xs : List Entry) (i : ℕ) (d : Entry) (left new whole : List ℕ) (o : Option ℕ) → i < length xs →
    without_received (received from to (drop i xs)) left ≡ whole → new ≡ without_received (option_to_list o) left →
    o ≡ number_received from to (get_or xs i d).event → without_received (received from to (drop (i + 1) xs)) new ≡ whole
took_on from to xs i d left new whole o below so took is =
    let cut : drop i xs ≡ get_or xs i d ∷ drop (i + 1) xs = at_drop_more (λ (ys : List Entry). ys) xs i d below in
    let rest = received from to (drop (i + 1) xs) in
    ap (without_received rest) (took ∙ ap (λ (p : Option ℕ). without_received (option_to_list p) left) is)
    ∙ taken_more (number_received from to (get_or xs i d).event) rest left
    ∙ ap (λ (ys : List Entry). without_received (received from to ys) left) (sym cut)
    ∙ so

all_took : (from to : NodeId) (xs : List Entry) (i : ℕ) (left whole : List ℕ) → length xs ≤ i →
    without_received (received from to (drop i xs)) left ≡ whole → left ≡ whole
all_took from to xs i left whole ended so = ap (λ (ys : List Entry). without_received (received from to ys) left) (sym (drop_all i xs ended)) ∙ so

pub loop-entry-preserved : goal.loop-entry-preserved
loop-entry-preserved c =
    took_on c.args.from c.args.to c.args.entries.now c.loop-entry.entry-index _ c.loop-entry.left.items c.take_one.new.left.items _
    c.number_received.result c.loop-entry-test.true c.loop-entry.invariant c.take_one.ensures c.number_received.ensures

pub returns : goal.returns
returns c =
    all_took c.args.from c.args.to c.args.entries.now c.loop-entry.entry-index c.loop-entry.left.items _ c.loop-entry-test.false c.loop-entry.invariant
