-- The entries of a journal, made again one after the other.
use Rattle.std.proofs.Common.{◌≡◌, ℕ, zero, suc, ◌+◌, ◌-◌, ◌<◌, ◌≤◌, List, [], ◌∷◌, ◌++◌, drop, get_or, length, map, Bool, true, false, eq-eqb, refl, sym, ap, ◌∙◌}
use Rattle.std.proofs.Common.{subst, append_assoc, arith}
use Rattle.std.proofs.lemmas.List.{append-nil, at_drop_more, drop_all}
use Rattle.std.specs.List.{AllByRecursion, flat_map, list_any, range_with_len}
use Rattle.std.specs.Prelude.{◌==◌, ◌||◌, slice_get}
use Rattle.std.proofs.lemmas.Grind.{flat_map-append}
use Rattle.std.proofs.lemmas.List.FromFn.{map-range_with_len_more}
use Rattle.am_names.specs.declared.NodeId.{NodeId}
use Rattle.am_office_entries.specs.declared.Entry.{Entry}
use Rattle.am_model.specs.Layout.{Layout, node_at}
use Rattle.am_model.specs.History.{EachAfter, is_in_range}
use Rattle.am_model_drain.specs.Made.{next_entry}
use Rattle.am_scenario_types.specs.declared.parts.ThreadLine.{ThreadLine}
use Rattle.am_scenario_types.specs.Lists.{ScenarioLists}
use Rattle.am_model_scripts.specs.Follows.{is_thread}
use Rattle.am_lab_reasons.specs.Journal.Lines.{IsMadeAgain}

-- after so many entries the others are still to be made
pub record IsHalfway (layout : Layout) (entries : List Entry) (index : ℕ) (past : List Entry) : Type 0 where
  pub all : past ++ drop index entries ≡ entries
  pub each : EachAfter (IsMadeAgain layout) past (drop index entries)

pub record OneOn (layout : Layout) (entries : List Entry) (index : ℕ) (past : List Entry) (x : Entry) : Type 0 where
  pub in_range' : is_in_range layout x.event ≡ true
  pub next : IsHalfway layout entries (index + 1) (past ++ next_entry layout past x.event ∷ [])

pub one_on : (layout : Layout) (entries : List Entry) (index : ℕ) (past : List Entry) (x d : Entry) → IsHalfway layout entries index past →
    index < length entries → x ≡ get_or entries index d → OneOn layout entries index past x
one_on layout entries index past x d h below is =
    let cut : drop index entries ≡ get_or entries index d ∷ drop (index + 1) entries = at_drop_more (λ (xs : List Entry). xs) entries index d below in
    let left : drop index entries ≡ x ∷ drop (index + 1) entries = cut ∙ ap (λ (y : Entry). y ∷ drop (index + 1) entries) (sym is) in
    let each : EachAfter (IsMadeAgain layout) past (x ∷ drop (index + 1) entries) =
    subst (λ (xs : List Entry). EachAfter (IsMadeAgain layout) past xs) left h.each in
    let all : past ++ x ∷ drop (index + 1) entries ≡ entries = ap (λ (xs : List Entry). past ++ xs) (sym left) ∙ h.all in
    record {
      in_range' = each.0.in_range;
      next = subst (λ (y : Entry). IsHalfway layout entries (index + 1) (past ++ y ∷ [])) each.0.made
          (record { all = append_assoc past (x ∷ []) (drop (index + 1) entries) ∙ all; each = each.1 });
    }

-- in a layout that is this one the next entry's event is in range
pub next_in_range : (layout now : Layout) (entries : List Entry) (index : ℕ) (past : List Entry) (d : Entry) → now ≡ layout → IsHalfway layout entries index past →
    index < length entries → is_in_range now (get_or entries index d).event ≡ true
next_in_range layout now entries index past d same h below =
    ap (λ (l : Layout). is_in_range l (get_or entries index d).event) same ∙ (one_on layout entries index past (get_or entries index d) d h below refl).in_range'

-- one entry more is made of the next one's event
pub one_made : (layout now : Layout) (entries : List Entry) (index : ℕ) (past after : List Entry) (d made : Entry) → now ≡ layout →
    IsHalfway layout entries index past → index < length entries → made ≡ next_entry now past (get_or entries index d).event → after ≡ past ++ made ∷ [] →
    IsHalfway layout entries (index + 1) after
one_made layout now entries index past after d made same h below is on =
    let x = get_or entries index d in
    let e : after ≡ past ++ next_entry layout past x.event ∷ [] =
    on ∙ ap (λ (y : Entry). past ++ y ∷ []) (is ∙ ap (λ (l : Layout). next_entry l past x.event) same) in
    subst (λ (js : List Entry). IsHalfway layout entries (index + 1) js) (sym e) (one_on layout entries index past x d h below refl).next

pub all_made : (layout : Layout) (entries : List Entry) (index : ℕ) (past : List Entry) → IsHalfway layout entries index past → length entries ≤ index →
    past ≡ entries
all_made layout entries index past h ended =
    sym (append-nil past) ∙ ap (λ (xs : List Entry). past ++ xs) (sym (drop_all index entries ended)) ∙ h.all

-- ---- the nodes, one after the other

pub nodes_more : (f : NodeId → List ℕ) (n : ℕ) → flat_map f (map node_at (range_with_len 0 (n + 1))) ≡ flat_map f (map node_at (range_with_len 0 n)) ++ f
    (node_at n)
nodes_more f n =
    ap (flat_map f) (map-range_with_len_more node_at 0 n n (omega arith))
    ∙ flat_map-append f (map node_at (range_with_len 0 n)) (node_at n ∷ [])
    ∙ ap (λ (xs : List ℕ). flat_map f (map node_at (range_with_len 0 n)) ++ xs) (append-nil (f (node_at n)))

pub put_more : (f : NodeId → List ℕ) (n : ℕ) (old out new : List ℕ) → new ≡ out ++ f (node_at n) → out ≡ old ++ flat_map f (map node_at (range_with_len 0 n)) →
    new ≡ old ++ flat_map f (map node_at (range_with_len 0 (n + 1)))
put_more f n old out new put so =
    put
    ∙ ap (λ (o : List ℕ). o ++ f (node_at n)) so
    ∙ append_assoc old (flat_map f (map node_at (range_with_len 0 n))) (f (node_at n))
    ∙ ap (λ (o : List ℕ). old ++ o) (sym (nodes_more f n))

-- ---- the threads of a scenario are declared

or_true : (a b : Bool) → b ≡ true → (a || b) ≡ true
or_true true b h = refl
or_true false b h = h

any_there : (p : ThreadLine → Bool) (front : List ThreadLine) (x : ThreadLine) (xs : List ThreadLine) → p x ≡ true → list_any p (front ++ x ∷ xs) ≡ true
any_there p [] x xs h = ap (λ (b : Bool). b || list_any p xs) h
any_there p (y ∷ front) x xs h = or_true (p y) (list_any p (front ++ x ∷ xs)) (any_there p front x xs h)

declared_from : (s : ScenarioLists) (front xs : List ThreadLine) → s.threads ≡ front ++ xs → AllByRecursion (λ (t : ThreadLine). is_thread s t.id ≡ true) xs
declared_from s front [] e = tt
declared_from s front (x ∷ xs) e = (
  subst (λ (ts : List ThreadLine). list_any (λ (t : ThreadLine). t.id == x.id) ts ≡ true) (sym e)
      (any_there (λ (t : ThreadLine). t.id == x.id) front x xs (eq-eqb x.id x.id refl)),
  declared_from s (front ++ x ∷ []) xs (e ∙ sym (append_assoc front (x ∷ []) xs)),
)

pub all_declared : (s : ScenarioLists) (threads : List ThreadLine) → threads ≡ s.threads → AllByRecursion (λ (t : ThreadLine). is_thread s t.id ≡ true) threads
all_declared s threads same = subst (λ (ts : List ThreadLine). AllByRecursion (λ (t : ThreadLine). is_thread s t.id ≡ true) ts) (sym same)
    (declared_from s [] s.threads refl)

-- ---- a line further on

pub further : (line : List ℕ) (lines : List (List ℕ)) (n : ℕ) → 0 < n → slice_get (line ∷ lines) n ≡ slice_get lines (n - 1)
further line lines zero low = absurd (omega (arith, low))
further line lines (suc n) low = let e : suc n - 1 ≡ n = omega arith in rw e refl
