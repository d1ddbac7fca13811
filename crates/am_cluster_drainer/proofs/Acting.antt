-- What acts one after the other, and one step more of a drain, whole or stopped.
use Rattle.std.proofs.Common.{◌≡◌, ℕ, suc, List, [], ◌∷◌, ◌++◌, Option, Some, None, Result, Ok, Err, ap, sym, ◌∙◌, subst, refl, append_assoc, append-nil}
use Rattle.std.specs.Prelude.{◌<◌, option_map}
use Rattle.am_office_entries.specs.declared.Entry.{Entry}
use Rattle.am_model.proofs.Each.{each_append}
use Rattle.am_scenario_types.specs.Lists.{ScenarioLists}
use Rattle.am_model_drain.specs.declared.Turn.{Turn}
use Rattle.am_model_drain.specs.Rules.{next_turn}
use Rattle.am_model_drain.specs.Drain.{after_turn, after_next_turn, after_turns}
use Rattle.am_model_drain.specs.Cut.{full_for, MeetsNoFullLog, IsDrainedWithRoom}
use Rattle.am_model_drain.proofs.Determined.{one_turn_more}
use Rattle.am_model_drain.proofs.Quiet.{Quiet}
use Rattle.am_model_drain.proofs.Turns.{Extends}
use Rattle.am_model.specs.declared.EntryFault.{EntryFault}
use Rattle.am_model.specs.declared.EntryFault.TheVariants.{NotEnabled, LogFull, NoMemory}
use Rattle.am_cluster_drainer.specs.Falling.{TurnFalls}
use Rattle.am_cluster_drainer.specs.Stops.{Reaches, IsCutShort, Does, Acts, IsDrainStopped}

-- ---- room

reaches_same : (s : ScenarioLists) (past : List Entry) → Reaches s past past
reaches_same s past = record { added = []; made = sym (append-nil past); room = tt }

reaches_on : (s : ScenarioLists) (past mid next : List Entry) → Reaches s past mid → Reaches s mid next → Reaches s past next
reaches_on s past mid next p q =
    record {
      added = p.added ++ q.added;
      made = q.made ∙ (ap (λ (xs : List Entry). xs ++ q.added) p.made ∙ append_assoc past p.added q.added);
      room = each_append (λ (before : List Entry) (x : Entry). full_for s before x ≡ None) past p.added q.added p.room
          (subst (λ (xs : List Entry). MeetsNoFullLog s xs q.added) p.made q.room);
    }

pub reaches_then : (s s0 : ScenarioLists) (past mid next : List Entry) → s ≡ s0 → Reaches s0 past mid → Reaches s mid next → Reaches s0 past next
reaches_then s s0 past mid next same p q = reaches_on s0 past mid next p (subst (λ (x : ScenarioLists). Reaches x mid next) same q)

-- ---- what stops a part of a plan stops the whole

stopped_further : (s : ScenarioLists) (fault : EntryFault) (planned more made : List Entry) → Extends planned more → IsCutShort s fault planned made →
    IsCutShort s fault more made
stopped_further s (NotEnabled condition) planned more made (a, p) refused =
    record {
      next = refused.next;
      later = refused.later ++ a;
      is_planned = p ∙ (ap (λ (xs : List Entry). xs ++ a) refused.is_planned ∙ append_assoc made (refused.next ∷ refused.later) a);
      failing' = refused.failing';
    }
stopped_further s (LogFull part) planned more made (a, p) cut =
    record {
      next = cut.next;
      later = cut.later ++ a;
      is_planned = p ∙ (ap (λ (xs : List Entry). xs ++ a) cut.is_planned ∙ append_assoc made (cut.next ∷ cut.later) a);
      full = cut.full;
    }
stopped_further s NoMemory planned more made (a, p) starved =
    record {
      next = starved.next;
      later = starved.later ++ a;
      is_planned = p ∙ (ap (λ (xs : List Entry). xs ++ a) starved.is_planned ∙ append_assoc made (starved.next ∷ starved.later) a);
      free = starved.free;
    }

pub quiet_extends : (past next : List Entry) → Quiet past next → Extends past next
quiet_extends past next q = (q.added, q.adds)

pub extends_one : (past : List Entry) (x : Entry) → Extends past (past ++ x ∷ [])
extends_one past x = (x ∷ [], refl)

-- ---- acting

-- nothing is done where nothing is planned
pub acts_not : {U : Type 0} (s : ScenarioLists) (done : U) (past : List Entry) → Acts s (Ok done) past past past
acts_not s done past = record { does = refl; reaches = reaches_same s past }

pub acts_same : {U : Type 0} (s : ScenarioLists) (r : Result U EntryFault) (past planned more made : List Entry) → planned ≡ more → Acts s r past planned made →
    Acts s r past more made
acts_same s r past planned more made same acts = subst (λ (xs : List Entry). Acts s r past xs made) same acts

-- what is stopped is stopped on the way to more
pub acts_less : {U V : Type 0} (s : ScenarioLists) (fault : EntryFault) (past planned more made : List Entry) → Extends planned more →
    Acts {U = U} s (Err fault) past planned made → Acts {U = V} s (Err fault) past more made
acts_less s fault past planned more made extends acts =
    record { does = stopped_further s fault planned more made extends acts.does; reaches = acts.reaches }

does_from : {V : Type 0} (s s0 : ScenarioLists) (r : Result V EntryFault) (plan : ScenarioLists → List Entry → List Entry) (mid planned made : List Entry) →
    s ≡ s0 → mid ≡ planned → Does s r (plan s mid) made → Does s0 r (plan s0 planned) made
does_from s s0 r plan mid planned made same is does =
    subst (λ (xs : List Entry). Does s0 r (plan s0 xs) made) is (subst (λ (x : ScenarioLists). Does x r (plan x mid) made) same does)

-- first one plan, and then another
pub acts_then : {U V : Type 0} (s s0 : ScenarioLists) (done : U) (r : Result V EntryFault) (plan : ScenarioLists → List Entry →
    List Entry) (past planned mid made : List Entry) → s ≡ s0 → Acts {U = U} s0 (Ok done) past planned mid → Acts {U = V} s r mid (plan s mid) made →
    Acts {U = V} s0 r past (plan s0 planned) made
acts_then s s0 done r plan past planned mid made same one next =
    record {
      does = does_from s s0 r plan mid planned made same one.does next.does;
      reaches = reaches_then s s0 past mid made same one.reaches next.reaches;
    }

-- ---- turns

abbrev pub Made : ScenarioLists → List Entry → List Entry → Type 0
Made s past now = (n : ℕ) × (after_turns n s past ≡ Some now)

-- the turn that a rule gives
turn_of : (s : ScenarioLists) (now : List Entry) (t : Turn) → next_turn s now ≡ Some t → after_next_turn s now ≡ Some (after_turn s now t)
turn_of s now t e = ap (option_map (after_turn s now)) e

pub turned : (s s0 : ScenarioLists) (past now next : List Entry) (t : Turn) → s ≡ s0 → Made s0 past now → next_turn s now ≡ Some t → next ≡ after_turn s now t →
    Made s0 past next
turned s s0 past now next t same (n, made) e f =
    let e' : next_turn s0 now ≡ Some t = subst (λ (x : ScenarioLists). next_turn x now ≡ Some t) same e in
    let f' : next ≡ after_turn s0 now t = subst (λ (x : ScenarioLists). next ≡ after_turn x now t) same f in
    (suc n, one_turn_more n s0 past now next made (turn_of s0 now t e' ∙ ap (λ (xs : List Entry). let o : Option (List Entry) = Some xs in o) (sym f')))

stops : (s : ScenarioLists) (past planned journal : List Entry) (n : ℕ) (fault : EntryFault) → after_turns n s past ≡ Some planned → Reaches s past journal →
    IsCutShort s fault planned journal → IsDrainStopped s past fault journal
stops s past planned journal n (NotEnabled condition) made reach refused =
    record {
      drained =
          record {
            added = reach.added;
            made = reach.made;
            next = refused.next;
            later = refused.later;
            turns = n;
            planned = made ∙ ap (λ (xs : List Entry). let o : Option (List Entry) = Some xs in o) refused.is_planned;
          };
      room = reach.room;
      failing' = refused.failing';
    }
stops s past planned journal n (LogFull part) made reach cut =
    record {
      drained =
          record {
            added = reach.added;
            made = reach.made;
            next = cut.next;
            later = cut.later;
            turns = n;
            planned = made ∙ ap (λ (xs : List Entry). let o : Option (List Entry) = Some xs in o) cut.is_planned;
          };
      room = reach.room;
      full = cut.full;
    }
stops s past planned journal n NoMemory made reach starved =
    record {
      drained =
          record {
            added = reach.added;
            made = reach.made;
            next = starved.next;
            later = starved.later;
            turns = n;
            planned = made ∙ ap (λ (xs : List Entry). let o : Option (List Entry) = Some xs in o) starved.is_planned;
          };
      room = reach.room;
      free = starved.free;
    }

pub stopped : (s s0 : ScenarioLists) (past now journal : List Entry) (t : Turn) (fault : EntryFault) → s ≡ s0 → Made s0 past now → Reaches s0 past now →
    next_turn s now ≡ Some t → Reaches s now journal → IsCutShort s fault (after_turn s now t) journal → IsDrainStopped s0 past fault journal
stopped s s0 past now journal t fault same (n, made) reached e reach stop =
    let e' : next_turn s0 now ≡ Some t = subst (λ (x : ScenarioLists). next_turn x now ≡ Some t) same e in
    let stop' : IsCutShort s0 fault (after_turn s0 now t) journal = subst (λ (x : ScenarioLists). IsCutShort x fault (after_turn x now t) journal) same stop in
    stops s0 past (after_turn s0 now t) journal (suc n) fault (one_turn_more n s0 past now (after_turn s0 now t) made (turn_of s0 now t e'))
    (reaches_then s s0 past now journal same reached reach) stop'

pub ended : (s s0 : ScenarioLists) (past now : List Entry) → s ≡ s0 → Made s0 past now → Reaches s0 past now → next_turn s now ≡ None →
    IsDrainedWithRoom s0 past now
ended s s0 past now same (n, made) reached e =
    record {
      drained = (n, record { made = made; ended = subst (λ (x : ScenarioLists). next_turn x now ≡ None) same e });
      added = reached.added;
      made = reached.made;
      room = reached.room;
    }

pub begun : (s : ScenarioLists) (past : List Entry) → Made s past past
begun s past = (0, refl)

-- a turn that was made leaves less work
pub falls : (work : ScenarioLists → List Entry → ℕ) (s s0 : ScenarioLists) (past next : List Entry) (t : Turn) → TurnFalls work s0 past →
    next_turn s0 past ≡ Some t → s ≡ s0 → next ≡ after_turn s0 past t → work s next < work s0 past
falls work s s0 past next t less e same made =
    subst (λ (x : ScenarioLists). work x next < work s0 past) (sym same) (subst (λ (xs : List Entry). work s0 xs < work s0 past) (sym made) (less t e))
