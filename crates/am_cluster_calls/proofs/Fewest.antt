-- The thread that made the fewest calls, as a loop finds it.
use Rattle.std.specs.Prelude.{IfSome, nat_lt, option_map, slice_get, if◌then◌else◌}
use Rattle.std.proofs.Common.{◌≡◌, ℕ, ◌+◌, ◌<◌, ◌≤◌, Bool, true, false, List, map, Option, Some, None, refl, sym, ap, ◌∙◌, subst, arith, le-ltb, lt-ltb}
use Rattle.std.proofs.Common.{ltb-true, ⊎_elim}
use Rattle.std.proofs.lemmas.Bool.{cases_lt, ltb-false}
use Rattle.am_lemmas.proofs.Lists.{Some-slice_get_map, slice_get-map_Some}
use Rattle.am_office_entries.specs.declared.Entry.{Entry}
use Rattle.am_scenario_types.specs.declared.parts.ThreadLine.{ThreadLine}
use Rattle.am_scenario_types.specs.Lists.{ScenarioLists}
use Rattle.am_model_drain.specs.Rules.{Left, left_after, left_to}
use Rattle.am_model.specs.History.{is_in_range}
use Rattle.am_scenario_types.specs.Lawful as lawful
use Rattle.am_model_scripts.specs.Layout.{layout_of}
use Rattle.am_cluster_drainer.specs.declared.LeftCall.{LeftCall}
use Rattle.am_cluster_drainer.specs.Firsts.{IsFewest}
use Rattle.am_cluster_drainer.specs.Reads.{call_event, left_of}
use Rattle.am_cluster_calls.proofs.Leaving.{left_ranged}
use Rattle.am_scenario_types.specs.declared.parts.ScriptCall.{ScriptCall}
use Rattle.am_cluster_calls.specs.Threads.{Scripted, call_in, fewer_of, left_in, scripted_of}

-- a thread that made no fewer changes nothing
pub fewer_kept : (first : Left) (t : Scripted) → first.after ≤ t.made → fewer_of (Some first) (left_in t) ≡ Some first
fewer_kept first t le = by_call (call_in t)
  where
    by_call : (call : Option ScriptCall) → fewer_of (Some first) (left_after t.made call) ≡ Some first
    by_call None = refl
    by_call (Some c) = ap (λ (b : Bool). Some (if b then record { after = t.made; call = c } else first)) (le-ltb t.made first.after le)

-- what is left to one that made fewer comes in its place
pub fewer_left : (first : Left) (t : Scripted) (l : Left) → left_in t ≡ Some l → t.made < first.after → fewer_of (Some first) (left_in t) ≡ Some l
fewer_left first t l is lt = ap (fewer_of (Some first)) is ∙ ap (λ (b : Bool). Some (if b then l else first))
    (lt-ltb l.after first.after (subst (λ (n : ℕ). n < first.after) (after_is (call_in t) is) lt))
  where
    after_is : (call : Option ScriptCall) → left_after t.made call ≡ Some l → t.made ≡ l.after
    after_is None e = cc
    after_is (Some c) e = (let same : record { after = t.made; call = c } ≡ l = cc in ap (λ (x : Left). x.after) same)

-- of the threads below a place
pub record IsFewestTo (ts : List Scripted) (n : ℕ) (left : Left) : Type 0 where
  pub place : ℕ
  pub thread : Scripted
  pub low : place < n
  pub at_place : slice_get ts place ≡ Some thread
  pub left' : left_in thread ≡ Some left
  pub fewest : (k : ℕ) (t : Scripted) (l : Left) → k < n → slice_get ts k ≡ Some t → left_in t ≡ Some l → left.after ≤ l.after
  pub least : (k : ℕ) (t : Scripted) (l : Left) → k < place → slice_get ts k ≡ Some t → left_in t ≡ Some l → left.after < l.after

abbrev pub FewestTo : List Scripted → ℕ → Option Left → Type 0
FewestTo ts n None = (k : ℕ) (t : Scripted) → k < n → slice_get ts k ≡ Some t → left_in t ≡ None
FewestTo ts n (Some left) = IsFewestTo ts n left

pub fewest_none : (ts : List Scripted) → FewestTo ts 0 None
fewest_none ts k t lt at = absurd (omega (arith, lt))

up_to : (k n : ℕ) → k < n + 1 → (k ≡ n → ⊥) → k < n
up_to k n lt apart = ⊎_elim (λ (less : k < n). less) (λ (le : n ≤ k). absurd (apart (omega (arith, lt, le)))) (cases_lt k n)

pub fewest_more : (ts : List Scripted) (n : ℕ) (best : Option Left) (t : Scripted) → slice_get ts n ≡ Some t → FewestTo ts n best →
    FewestTo ts (n + 1) (fewer_of best (left_in t))
fewest_more ts n best t here to = by_left best (left_in t) refl to
  where
    -- a thread below the next place is the one here or lies below it
    split : (Q : Type 0) (k : ℕ) (u : Scripted) → k < n + 1 → slice_get ts k ≡ Some u → (k < n → Q) → (k ≡ n → u ≡ t → Q) → Q
    split Q k u lt at below same =
        ⊎_elim (λ (less : k < n). below less)
        (λ (le : n ≤ k). (let is : k ≡ n = omega (arith, lt, le) in same is (let both : Some u ≡ Some t = sym at ∙ ap (slice_get ts) is ∙ here in cc)))
        (cases_lt k n)

    by_left : (best left : Option Left) → left_in t ≡ left → FewestTo ts n best → FewestTo ts (n + 1) (fewer_of best left)
    by_left None None is none =
        λ k u lt at. split (left_in u ≡ None) k u lt at (λ less. none k u less at) (λ e same. (ap left_in same ∙ is))
    by_left (Some first) None is few =
        record {
          place = few.place;
          thread = few.thread;
          low = let lt = few.low in omega (arith, lt);
          at_place = few.at_place;
          left' = few.left';
          fewest = λ k u l lt at has. split (first.after ≤ l.after) k u lt at (λ less. few.fewest k u l less at has)
              (λ e same. absurd (let both : None ≡ Some l = sym is ∙ ap left_in (sym same) ∙ has in cc));
          least = few.least;
        }
    by_left None (Some l) is none =
        record {
          place = n;
          thread = t;
          low = omega arith;
          at_place = here;
          left' = is;
          fewest = λ k u m lt at has. split (l.after ≤ m.after) k u lt at (λ less. absurd (let both : None ≡ Some m = sym (none k u less at)
              ∙ has in cc)) (λ e same. own u m same has);
          least = λ k u m lt at has. absurd (let both : None ≡ Some m = sym (none k u lt at) ∙ has in cc);
        }
      where
        own : (u : Scripted) (m : Left) → u ≡ t → left_in u ≡ Some m → l.after ≤ m.after
        own u m same has = let both : Some l ≡ Some m = sym is ∙ ap left_in (sym same) ∙ has in let one : l ≡ m = cc in
            let after = ap (λ (x : Left). x.after) one in omega (arith, after)
    by_left (Some first) (Some l) is few = by_test (nat_lt l.after first.after) refl
      where
        own : (u : Scripted) (m : Left) → u ≡ t → left_in u ≡ Some m → l.after ≡ m.after
        own u m same has = let both : Some l ≡ Some m = sym is ∙ ap left_in (sym same) ∙ has in let one : l ≡ m = cc in ap (λ (x : Left). x.after) one

        by_test : (b : Bool) → nat_lt l.after first.after ≡ b → IsFewestTo ts (n + 1) (if b then l else first)
        by_test true less =
            let lt = ltb-true l.after first.after less in
            record {
              place = n;
              thread = t;
              low = omega arith;
              at_place = here;
              left' = is;
              fewest = λ k u m low at has. split (l.after ≤ m.after) k u low at (λ below. (let more = few.fewest k u m below at has in omega (arith, more, lt)))
                  (λ e same. (let after = own u m same has in omega (arith, after)));
              least = λ k u m below at has. (let more = few.fewest k u m below at has in omega (arith, more, lt));
            }
        by_test false more =
            let le = ltb-false l.after first.after more in
            record {
              place = few.place;
              thread = few.thread;
              low = let low = few.low in omega (arith, low);
              at_place = few.at_place;
              left' = few.left';
              fewest = λ k u m low at has. split (first.after ≤ m.after) k u low at (λ below. few.fewest k u m below at has)
                  (λ e same. (let after = own u m same has in omega (arith, after, le)));
              least = few.least;
            }

pub fewest_all : (ts : List Scripted) (n : ℕ) (o : Option Left) → ((k : ℕ) (t : Scripted) → slice_get ts k ≡ Some t → k < n) → FewestTo ts n o →
    IsFewest left_in ts o
fewest_all ts n None all none = λ k t at. none k t (all k t at) at
fewest_all ts n (Some left) all few =
    record {
      place = few.place;
      thread = few.thread;
      at_place = few.at_place;
      left' = few.left';
      fewest = λ k t l at has. few.fewest k t l (all k t at) at has;
      least = few.least;
    }

-- the threads of a scenario
pub fewest_read : (s : ScenarioLists) (past : List Entry) (ts : List Scripted) (o : Option Left) → ts ≡ map (scripted_of s past) s.threads →
    IsFewest left_in ts o → IsFewest (left_to s past) s.threads o
fewest_read s past ts o is few = by_left o (subst (λ (l : List Scripted). IsFewest left_in l o) is few)
  where
    got : (k : ℕ) (line : ThreadLine) → slice_get s.threads k ≡ Some line → slice_get (map (scripted_of s past) s.threads) k ≡ Some (scripted_of s past line)
    got k line at = slice_get-map_Some (scripted_of s past) s.threads k line at

    by_left : (o : Option Left) → IsFewest left_in (map (scripted_of s past) s.threads) o → IsFewest (left_to s past) s.threads o
    by_left None none = λ k line at. none k (scripted_of s past line) (got k line at)
    by_left (Some left) few =
        let line = Some-slice_get_map (scripted_of s past) s.threads few.place few.thread few.at_place in
        record {
          place = few.place;
          thread = line.0;
          at_place = line.1;
          left' = ap left_in line.2 ∙ few.left';
          fewest = λ k other l at has. few.fewest k (scripted_of s past other) l (got k other at) has;
          least = λ k other l lt at has. few.least k (scripted_of s past other) l lt (got k other at) has;
        }

-- the call that is left is in range
pub fewest_ranged : (s : ScenarioLists) (past : List Entry) (ts : List Scripted) (o : Option LeftCall) → lawful.IsLawful s →
    ts ≡ map (scripted_of s past) s.threads → IsFewest left_in ts (option_map left_of o) →
    IfSome o (λ (l : LeftCall). is_in_range (layout_of s) (call_event l.call) ≡ true)
fewest_ranged s past ts None ok is few = tt
fewest_ranged s past ts (Some l) ok is few = left_ranged s past ts few.place few.thread (Some l) ok is few.at_place (sym few.left')
