-- The answer of `page`.
use Rattle.std.proofs.Common.{◌≡◌, ◌≢◌, ◌⊎◌, ℕ, ◌≤◌, ◌<◌, Bool, List, ◌++◌, codes, Option, None, Some, Result, Ok, Err, append_assoc, length, inl, inr, refl, sym, ap, ◌∙◌}
use Rattle.std.proofs.lemmas.Bool.{le-leb, lt-leb}
use Rattle.std.specs.Prelude.{IfOk, OnOk, nat_le, if◌then◌else◌}
use Rattle.am_check.specs.Exact.{IsChecked}
use Rattle.am_lab_drawings.specs.Charts.{ChartAnswers}
use Rattle.am_lab_state.specs.Changes.{changes}
use Rattle.am_lab_xml.specs.Escaped.{escaped}
use Rattle.am_main_lines.specs.Lines.{Answer, answer_in}
use Rattle.am_main_lines.specs.declared.outputs.Output.{Output}
use Rattle.am_office_entries.specs.declared.Entry.{Entry}
use Rattle.am_scenario_types.specs.Lists.{ScenarioLists}
use Rattle.am_scenario_types.specs.declared.parts.Form.{Form}
use Rattle.am_lab_page.specs.Json.Answers.{JsonAnswers, WritesJson}
use Rattle.am_lab_page.specs.Page.Pages.{PageAnswers, changes_element, changes_told, page_of, page_with}
use Rattle.am_lab_page.specs.declared.page.back.TheConstants.{BACK}
use Rattle.am_lab_page.specs.declared.page.front.TheConstants.{FRONT}
use Rattle.am_lab_page.specs.declared.page.middle.TheConstants.{MIDDLE}
use Rattle.am_lab_page.specs.declared.page.side.TheConstants.{SIDE}

-- ---- what each entry changes

-- there are more than 2,000 entries
pub many_told : (s : ScenarioLists) (journal : List Entry) (count : ℕ) → length journal ≡ count → 2000 < count → None ≡ changes_told s journal
many_told s journal count long many =
    sym (ap (λ (b : Bool). if b then Some (changes s journal) else None) (ap (λ (n : ℕ). nat_le n 2000) long ∙ lt-leb count 2000 many))

-- there are no more
pub few_told : (s : ScenarioLists) (journal : List Entry) (count : ℕ) (text : List ℕ) → length journal ≡ count → count ≤ 2000 → text ≡ changes s journal →
    Some text ≡ changes_told s journal
few_told s journal count text long few is =
    ap (λ (t : List ℕ). Some t) is
    ∙ sym (ap (λ (b : Bool). if b then Some (changes s journal) else None) (ap (λ (n : ℕ). nat_le n 2000) long ∙ le-leb count 2000 few))

-- the element with them
parts : (out begin text end : List ℕ) → ((out ++ begin) ++ text) ++ end ≡ out ++ ((begin ++ text) ++ end)
parts out begin text end = simp append_assoc

pub element_put : {T E : Type 0} (result : Result T E) (out first second new text : List ℕ) → first ≡ out ++ codes "<template id=\"changes\">" →
    second ≡ first ++ escaped text → OnOk result (new ≡ second ++ codes "</template>\n") → OnOk result (new ≡ out ++ changes_element (Some text))
unfolding changes_element
element_put (Ok x) out first second new text one two put =
    put
    ∙ ap (λ (t : List ℕ). t ++ codes "</template>\n") (two ∙ ap (λ (t : List ℕ). t ++ escaped text) one)
    ∙ parts out (codes "<template id=\"changes\">") (escaped text) (codes "</template>\n")
element_put (Err e) out first second new text one two put = tt

-- ---- the page

-- the changes behind the rest
pub page_put : (journal picture text new : List ℕ) (told : Option (List ℕ)) → text ≡ FRONT.now ++ journal ++ MIDDLE.now ++ picture ++ SIDE.now →
    new ≡ text ++ changes_element told ++ BACK.now → new ≡ page_of journal picture told
unfolding page_of
page_put journal picture text new told is put = put ∙ ap (λ (t : List ℕ). t ++ changes_element told ++ BACK.now) is

-- no journal is told
pub untold : (form : Form) (bytes : List ℕ) (told : Answer) → JsonAnswers form bytes told → told.status ≢ 0 → PageAnswers form bytes told
untold form bytes told tells other = record { told = told; tells = tells; more = inl (other, refl) }

-- no picture is drawn
pub undrawn : (form : Form) (bytes : List ℕ) (told drawn : Answer) → JsonAnswers form bytes told → told.status ≡ 0 → ChartAnswers form bytes None drawn →
    drawn.status ≢ 0 → PageAnswers form bytes drawn
undrawn form bytes told drawn tells right draws other =
    record { told = told; tells = tells; more = inr (record { right = right; drawn = drawn; draws = draws; more = inl (other, refl) }) }

-- where a journal is told, the report is right
pub checked_of : (form : Form) (bytes : List ℕ) (told : Answer) → JsonAnswers form bytes told → told.status ≡ 0 → IsChecked form bytes
checked_of form bytes told tells right = by_more tells.more
  where
    by_more : ((tells.checked.status ≢ 0) × (told ≡ tells.checked)) ⊎ WritesJson form bytes tells.checked told → IsChecked form bytes
    by_more (inl (other, same)) = absurd (other (ap (λ (a : Answer). a.status) (sym same) ∙ right))
    by_more (inr writes) = writes.told

-- the page of this journal and this picture
pub page_is : (journal picture : List ℕ) (told : Option (List ℕ)) (s : ScenarioLists) (entries : List Entry) (text : List ℕ) →
    text ≡ page_of journal picture told → told ≡ changes_told s entries → record { status = 0; text = text } ≡ page_with journal picture s entries
page_is journal picture told s entries text is told' =
    ap (λ (t : List ℕ). page_answer t) (is ∙ ap (page_of journal picture) told')
  where
    page_answer : List ℕ → Answer
    page_answer t = record { status = 0; text = t }

-- both are
pub paged : {E : Type 0} (result : Result Output E) (form : Form) (bytes : List ℕ) (told drawn : Answer) (journal picture : List ℕ) →
    JsonAnswers form bytes told → told.status ≡ 0 → ChartAnswers form bytes None drawn → drawn.status ≡ 0 → journal ≡ told.text → picture ≡ drawn.text →
    ((k : IsChecked form bytes) → IfOk result (λ (o : Output). answer_in o ≡ page_with journal picture k.scenario k.report.journal)) →
    IfOk result (λ (o : Output). PageAnswers form bytes (answer_in o))
paged (Ok o) form bytes told drawn journal picture tells right draws drawn' same same' is =
    let k = checked_of form bytes told tells right in
    record {
      told = told;
      tells = tells;
      more = inr (record {
        right = right;
        drawn = drawn;
        draws = draws;
        more = inr (
          drawn',
          record {
            checked = k;
            answer' = is k
                ∙ ap (λ (j : List ℕ). page_with j picture k.scenario k.report.journal) same
                ∙ ap (λ (p : List ℕ). page_with told.text p k.scenario k.report.journal) same';
          },
        );
      });
    }
paged (Err e) form bytes told drawn journal picture tells right draws drawn' same same' is = tt
