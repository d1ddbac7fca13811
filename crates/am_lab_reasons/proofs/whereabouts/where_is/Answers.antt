use Rattle.std.proofs.Common.{◌≡◌, ℕ, ◌+◌, ◌<◌, ◌≤◌, List, ◌∷◌, Option, drop, get_or, length, sym, ap, ◌∙◌}
use Rattle.std.proofs.lemmas.List.{at_drop_more, drop_all}
use Rattle.am_names.specs.declared.Serial.{Serial}
use Rattle.am_office_entries.specs.declared.Entry.{Entry}
use Rattle.am_lab_reasons.specs.declared.whereabouts.Whereabouts.{Whereabouts}
use Rattle.am_lab_reasons.specs.Whereabouts.{moved_by, next_place, where_from}
use Rattle.am_lab_reasons.proofs.whereabouts.where_is.Goals as goal

moved_on : (s : Serial) (xs : List Entry) (i : ℕ) (d : Entry) (place next whole : Whereabouts) (moved : Option Whereabouts) → i < length xs →
    where_from s place (drop i xs) ≡ whole → next ≡ next_place place moved → moved ≡ moved_by s (get_or xs i d).outcome →
    where_from s next (drop (i + 1) xs) ≡ whole
unfolding where_from
moved_on s xs i d place next whole moved below so is by =
    let cut : drop i xs ≡ get_or xs i d ∷ drop (i + 1) xs = at_drop_more (λ (ys : List Entry). ys) xs i d below in
    ap (λ (p : Whereabouts). where_from s p (drop (i + 1) xs)) (is ∙ ap (next_place place) by)
    ∙ ap (where_from s place) (sym cut)
    ∙ so

all_moved : (s : Serial) (xs : List Entry) (i : ℕ) (place whole : Whereabouts) → length xs ≤ i → where_from s place (drop i xs) ≡ whole → place ≡ whole
unfolding where_from
all_moved s xs i place whole ended so = ap (where_from s place) (sym (drop_all i xs ended)) ∙ so

pub loop-entry-preserved : goal.loop-entry-preserved
loop-entry-preserved c =
    moved_on c.args.serial c.args.entries.now c.loop-entry.entry-index _ c.loop-entry.place c.next_place-place.result _ c.moved_by.result
    c.loop-entry-test.true c.loop-entry.invariant c.next_place-place.ensures c.moved_by.ensures

pub returns : goal.returns
returns c = all_moved c.args.serial c.args.entries.now c.loop-entry.entry-index c.loop-entry.place _ c.loop-entry-test.false c.loop-entry.invariant
