-- A line that passes makes the journal one entry longer.
use Rattle.std.proofs.Common.{◌≡◌, ◌+◌, List, [], ◌∷◌, ◌++◌, length, map, ℕ, sym, ap, subst, ◌∙◌, append_assoc}
use Rattle.std.proofs.lemmas.List.{map_push, length-append}
use Rattle.am_office_entries.specs.declared.Entry.{Entry}
use Rattle.am_check_lines.specs.Grammar.{printed}
use Rattle.am_model.proofs.Each.{each_push}
use Rattle.am_scenario_types.specs.declared.parts.Form.{Form}
use Rattle.am_scenario_types.specs.Lists.{ScenarioLists}
use Rattle.am_check.specs.Follows.{Comes, IsBegun}
use Rattle.am_check.specs.Lines.{PassesLine}

pub record IsOneOn (form : Form) (s : ScenarioLists) (lines : List (List ℕ)) (past journal : List Entry) (left : List (List ℕ)) : Type 0 where
  pub count : length journal ≡ length past + 1
  pub begun : IsBegun form s journal
  pub lines' : lines ≡ map printed journal ++ left

pub one_on : (form : Form) (s : ScenarioLists) (lines : List (List ℕ)) (past journal : List Entry) (line : List ℕ) (left : List (List ℕ)) →
    IsBegun form s past → lines ≡ map printed past ++ line ∷ left → PassesLine form s past line journal → IsOneOn form s lines past journal left
one_on form s lines past journal line left begun is p =
    let x = p.entry in
    let made : IsOneOn form s lines past (past ++ x ∷ []) left = record {
      count = length-append past (x ∷ []);
      begun = each_push (Comes form s) [] past x begun p.comes;
      lines' =
          is ∙ ap (λ (l : List ℕ). map printed past ++ l ∷ left) p.line'
          ∙ sym (append_assoc (map printed past) (printed x ∷ []) left)
          ∙ ap (λ (l : List (List ℕ)). l ++ left) (sym (map_push printed past x));
    } in
    subst (λ (j : List Entry). IsOneOn form s lines past j left) (sym p.journal') made
