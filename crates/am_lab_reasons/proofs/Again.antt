-- What is left of a journal that is made again from its lines.
use Rattle.std.proofs.Common.{◌≡◌, ℕ, ◌+◌, ◌-◌, ◌<◌, List, [], ◌∷◌, ◌++◌, drop, length, map, true, Option, Some, Result, Ok, Err, refl, sym, ap, ◌∙◌, subst, arith}
use Rattle.std.proofs.Common.{append_assoc}
use Rattle.std.specs.Prelude.{IfOk}
use Rattle.std.proofs.lemmas.List.{append-nil}
use Rattle.am_office_entries.specs.declared.Event.{Event}
use Rattle.am_office_entries.specs.declared.Entry.{Entry}
use Rattle.am_model.specs.Layout.{Layout}
use Rattle.am_model.specs.History.{EachAfter, is_in_range}
use Rattle.am_model_drain.specs.Made.{next_entry}
use Rattle.am_check_lines.specs.Grammar.{printed}
use Rattle.am_check_lines.specs.Reading.{event_of}
use Rattle.am_scenario_types.specs.declared.parts.Form.{Form}
use Rattle.am_scenario_types.specs.Lists.{ScenarioLists}
use Rattle.am_scenario_types.specs.Lawful.{IsLawful}
use Rattle.am_model_scripts.specs.Layout.{layout_of}
use Rattle.am_check.specs.Follows.{Comes}
use Rattle.am_check.specs.Verdict.{Reaches, count_of}
use Rattle.am_lexer.specs.Text.{lines_of}
use Rattle.am_check.proofs.Coming.{in_range, told_by_line}
use Rattle.am_lab_reasons.specs.Journal.Lines.{AreLines, HasEnd, HasLines, IsBehindLines, IsMadeAgain}

-- ---- a journal that follows its scenario is made again by its lines

made_again : (form : Form) (s : ScenarioLists) → IsLawful s → (past : List Entry) (x : Entry) → Comes form s past x → IsMadeAgain (layout_of s) past x
made_again form s lawful past x c =
    record {
      in_range = in_range form s lawful past x.event c.may;
      unstopped = c.unstopped;
      made = c.made;
      told = told_by_line form s lawful past x c;
    }

each_again : (form : Form) (s : ScenarioLists) → IsLawful s → (past journal : List Entry) → EachAfter (Comes form s) past journal →
    EachAfter (IsMadeAgain (layout_of s)) past journal
each_again form s lawful past [] e = tt
each_again form s lawful past (x ∷ xs) e = (made_again form s lawful past x e.0, each_again form s lawful (past ++ x ∷ []) xs e.1)

pub are_lines : (form : Form) (s : ScenarioLists) → IsLawful s → (lines : List (List ℕ)) (journal : List Entry) (left : List (List ℕ)) →
    Reaches form s lines journal left → AreLines (layout_of s) lines journal left
are_lines form s lawful lines journal left r = record { each = each_again form s lawful [] journal r.begun; lines' = r.lines' }

-- ---- what is left after so many entries

pub record IsLeft (layout : Layout) (journal : List Entry) (left : List (List ℕ)) (count place : ℕ) (past : List Entry) (rest : List (List ℕ)) : Type 0 where
  pub more : List Entry
  pub all : past ++ more ≡ journal
  pub each : EachAfter (IsMadeAgain layout) past more
  pub rest' : rest ≡ map printed more ++ left
  pub count' : place + length more ≡ count

pub at_first : (layout : Layout) (lines : List (List ℕ)) (journal : List Entry) (left : List (List ℕ)) (count : ℕ) → AreLines layout lines journal left →
    length journal ≡ count → IsLeft layout journal left count 0 [] lines
at_first layout lines journal left count a long = record { more = journal; all = refl; each = a.each; rest' = a.lines'; count' = omega (arith, long) }

-- one line more: its event is in range, and the entry made of it is the journal's
pub record GoesOn (layout : Layout) (journal : List Entry) (left : List (List ℕ)) (count place : ℕ) (past : List Entry) (event : Event) (after : List (List ℕ))
    : Type 0 where
  pub in_range' : is_in_range layout event ≡ true
  pub next : IsLeft layout journal left count (place + 1) (past ++ next_entry layout past event ∷ []) after

one_event : (x y : Event) (line other : List ℕ) → line ≡ other → event_of line ≡ Some x → event_of other ≡ Some y → y ≡ x
one_event x y line other same e f = cc

line_same : (a b : List ℕ) (ls ks : List (List ℕ)) → a ∷ ls ≡ b ∷ ks → a ≡ b
line_same a b ls ks e = cc

rest_same : (a b : List ℕ) (ls ks : List (List ℕ)) → a ∷ ls ≡ b ∷ ks → ls ≡ ks
rest_same a b ls ks e = cc

pub goes_on : (layout : Layout) (journal : List Entry) (left : List (List ℕ)) (count place : ℕ) (past : List Entry) (rest : List (List ℕ)) (line : List ℕ)
    (after : List (List ℕ)) (event : Event) → IsLeft layout journal left count place past rest → place < count → rest ≡ line ∷ after →
    event_of line ≡ Some event → GoesOn layout journal left count place past event after
goes_on layout journal left count place past rest line after event is below cut told = by_more is.more is.all is.each (sym cut ∙ is.rest') is.count'
  where
    by_more : (more : List Entry) → past ++ more ≡ journal → EachAfter (IsMadeAgain layout) past more → line ∷ after ≡ map printed more ++ left →
        place + length more ≡ count → GoesOn layout journal left count place past event after
    by_more [] all each rest' long = absurd (omega (arith, below, long))
    by_more (x ∷ more) all each rest' long =
        let same : line ≡ printed x = line_same line (printed x) after (map printed more ++ left) rest' in
        let behind : after ≡ map printed more ++ left = rest_same line (printed x) after (map printed more ++ left) rest' in
        let is_event : x.event ≡ event = one_event event x.event line (printed x) same told each.0.told in
        let is_entry : x ≡ next_entry layout past event = each.0.made ∙ ap (next_entry layout past) is_event in
        record {
          in_range' = subst (λ (e : Event). is_in_range layout e ≡ true) is_event each.0.in_range;
          next = subst (λ (y : Entry). IsLeft layout journal left count (place + 1) (past ++ y ∷ []) after) is_entry
              (record { more = more; all = append_assoc past (x ∷ []) more ∙ all; each = each.1; rest' = behind; count' = omega (arith, long) });
        }

-- at the end nothing is left
pub record IsAll (journal past : List Entry) (left rest : List (List ℕ)) : Type 0 where
  pub same : past ≡ journal
  pub rest' : rest ≡ left

pub at_last : (layout : Layout) (journal : List Entry) (left : List (List ℕ)) (count place : ℕ) (past : List Entry) (rest : List (List ℕ)) →
    IsLeft layout journal left count place past rest → place ≡ count → IsAll journal past left rest
at_last layout journal left count place past rest is ended = by_more is.more is.all is.rest' is.count'
  where
    by_more : (more : List Entry) → past ++ more ≡ journal → rest ≡ map printed more ++ left → place + length more ≡ count → IsAll journal past left rest
    by_more [] all rest' long = record { same = sym (append-nil past) ∙ all; rest' = rest' }
    by_more (x ∷ more) all rest' long = absurd (omega (arith, ended, long))

-- ---- the lines of a journal in a report

pub place_lines : (layout : Layout) (bytes : List ℕ) (lines : List (List ℕ)) (number : ℕ) → IsBehindLines layout bytes number → lines ≡ drop 2 (lines_of bytes) →
    HasLines layout lines (number - 3)
place_lines layout bytes lines number h e =
    record {
      journal = h.journal;
      left = h.left;
      are = subst (λ (ls : List (List ℕ)). AreLines layout ls h.journal h.left) (sym e) h.are;
      count' = omega (arith, h.number');
    }

one_count : (a b : ℕ) (o : Option ℕ) → o ≡ Some a → o ≡ Some b → a ≡ b
one_count a b o e f = cc

pub end_lines : (layout : Layout) (bytes : List ℕ) (lines : List (List ℕ)) (count : ℕ) → HasEnd layout bytes → count_of (lines_of bytes) ≡ Some count →
    lines ≡ drop 2 (lines_of bytes) → HasLines layout lines count
end_lines layout bytes lines count h is e =
    record {
      journal = h.journal;
      left = h.left;
      are = subst (λ (ls : List (List ℕ)). AreLines layout ls h.journal h.left) (sym e) h.are;
      count' = one_count (length h.journal) count (count_of (lines_of bytes)) h.count is;
    }

pub count_same : (bytes : List ℕ) (count long : ℕ) → count_of (lines_of bytes) ≡ Some count → count_of (lines_of bytes) ≡ Some long → long ≡ count
count_same bytes count long e f = one_count long count (count_of (lines_of bytes)) f e

-- ---- a journal that is given

pub same_if : {E : Type 0} (r : Result (List Entry) E) (a b : List Entry) → a ≡ b → IfOk r (λ (j : List Entry). j ≡ a) → IfOk r (λ (j : List Entry). j ≡ b)
same_if (Ok j) a b e h = h ∙ e
same_if (Err x) a b e h = tt
