-- Crews that are made one after the other, each with its ends of the links.
use Rattle.std.specs.Prelude.{slice_get}
use Rattle.std.specs.Global.{Vec}
use Rattle.std.proofs.Common.{◌≡◌, ℕ, ◌+◌, ◌*◌, ◌<◌, ◌≤◌, Some, List, [], ◌∷◌, ◌++◌, length, map, refl, sym, ap, ◌∙◌, subst, arith}
use Rattle.std.proofs.lemmas.List.{length_push}
use Rattle.am_names.specs.declared.NodeId.{NodeId}
use Rattle.am_model.specs.Layout.{AllAre, node_at}
use Rattle.am_scenario_types.specs.Lawful as lawful
use Rattle.am_scenario_types.specs.Lists.{ScenarioLists}
use Rattle.am_wire.specs.AllLinks.Links.{AreLinks, IsOutOpened}
use Rattle.am_wire.specs.declared.all_links.Links.{Links}
use Rattle.am_wire.proofs.Lists.{got_low}
use Rattle.am_wire.specs.declared.receiving.LinkIn.{LinkIn}
use Rattle.am_wire.specs.declared.sending.LinkOut.{LinkOut}
use Rattle.am_workers.specs.declared.workers.ThreadWorker.{ThreadWorker}
use Rattle.am_cluster_opening.specs.Node.Openings.{AreOpenings, IsOpening, threads_of}
use Rattle.am_cluster_opening.specs.declared.node.opening.Opening.{Opening}
use Rattle.am_cluster_opening.proofs.Fresh.{few_threads}
use Rattle.am_cluster_opening.proofs.Lists.{AreTaking, each_more, length_map, taking_more, taking_next}
use Rattle.am_cluster_opening.specs.Crews.{AreNumbered, IsCrew, IsUnused, seats_of}
use Rattle.am_cluster_opening.specs.Making.{AreNodeLinks}
use Rattle.am_cluster_opening.specs.declared.crew.NodeCrew.{NodeCrew}

-- ---- numbers

-- how many workers these crews have
abbrev pub workers_of : List NodeCrew → ℕ
workers_of [] = 0
workers_of (c ∷ cs) = seats_of c + workers_of cs

workers_push : (cs : List NodeCrew) (c : NodeCrew) → workers_of (cs ++ c ∷ []) ≡ workers_of cs + seats_of c
workers_push [] c = omega arith
workers_push (d ∷ cs) c = let more = workers_push cs c in omega (arith, more)

numbered_push : (first : ℕ) (cs : List NodeCrew) (c : NodeCrew) → AreNumbered first cs → c.first ≡ first + workers_of cs → AreNumbered first (cs ++ c ∷ [])
numbered_push first [] c are is = ((let same = is in omega (arith, same)), tt)
numbered_push first (d ∷ cs) c are is = (are.0, numbered_push (first + seats_of d) cs c are.1 (let same = is in omega (arith, same)))

-- a crew has at most four threads
pub few_seats : (s : ScenarioLists) (node : NodeId) (c : NodeCrew) → lawful.IsLawful s →
    map (λ (w : ThreadWorker). w.thread) c.threads.items ≡ threads_of s node → length c.threads.items ≤ 4
few_seats s node c ok named =
    let mapped = length_map (λ (w : ThreadWorker). w.thread) c.threads.items in
    let same : length (map (λ (w : ThreadWorker). w.thread) c.threads.items) ≡ length (threads_of s node) = ap length named in
    let few = few_threads s node ok in
    omega (arith, mapped, same, few)

-- ---- crews so far

-- the crew with this place has the ends with that place
pub record HasEnds (outs : List (Vec LinkOut)) (ins : List (Vec LinkIn)) (k : ℕ) (c : NodeCrew) : Type 0 where
  pub outs_at : slice_get outs k ≡ Some c.interface.outs
  pub ins_at : slice_get ins k ≡ Some c.interface.ins

-- so many crews were made, and the rest is still to be made of these
pub record AreMade (s : ScenarioLists) (os : List Opening) (outs : List (Vec LinkOut)) (ins : List (Vec LinkIn)) (first : ℕ) (crews : List NodeCrew)
    (os_left : List Opening) (outs_left : List (Vec LinkOut)) (ins_left : List (Vec LinkIn)) : Type 0 where
  pub os_taking : AreTaking os os_left (length crews)
  pub outs_taking : AreTaking outs outs_left (length crews)
  pub ins_taking : AreTaking ins ins_left (length crews)
  pub outs_all : length outs_left ≡ length os_left
  pub ins_all : length ins_left ≡ length os_left
  pub each : (k : ℕ) (c : NodeCrew) → slice_get crews k ≡ Some c → IsCrew s (node_at k) 0 c
  pub ends : (k : ℕ) (c : NodeCrew) → slice_get crews k ≡ Some c → HasEnds outs ins k c
  pub unused : AllAre IsUnused crews
  pub numbered : AreNumbered 0 crews
  pub counted : first ≡ workers_of crews
  pub low : first ≤ 6 * length crews

pub ends_all : (s : ScenarioLists) (os : List Opening) (l : Links) → AreOpenings s os → AreLinks s.plan s.nodes l →
    (length l.outs.items ≡ length os) × (length l.ins.items ≡ length os)
ends_all s os l are links = (links.rows ∙ sym are.all, links.columns ∙ sym are.all)

all_push : (P : NodeCrew → Type 0) (xs : List NodeCrew) (x : NodeCrew) → AllAre P xs → P x → AllAre P (xs ++ x ∷ [])
all_push P [] x h p = (p, tt)
all_push P (y ∷ xs) x h p = (h.0, all_push P xs x h.1 p)

module _ (s : ScenarioLists) (os : List Opening) (l : Links) (first : ℕ) (crews : List NodeCrew) (os_left : List Opening) (outs_left : List (Vec LinkOut))
    (ins_left : List (Vec LinkIn)) (o : Opening) (out : Vec LinkOut) (inn : Vec LinkIn) (ok : lawful.IsLawful s) (are : AreOpenings s os)
    (links : AreLinks s.plan s.nodes l) (made : AreMade s os l.outs.items l.ins.items first crews (os_left ++ o ∷ []) (outs_left ++ out ∷ [])
    (ins_left ++ inn ∷ [])) where
  os_next : slice_get os (length crews) ≡ Some o
  os_next = taking_next os os_left o (length crews) made.os_taking

  outs_next : slice_get l.outs.items (length crews) ≡ Some out
  outs_next = taking_next l.outs.items outs_left out (length crews) made.outs_taking

  ins_next : slice_get l.ins.items (length crews) ≡ Some inn
  ins_next = taking_next l.ins.items ins_left inn (length crews) made.ins_taking

  pub next_at : o.node ≡ node_at (length crews)
  next_at = (are.each (length crews) o os_next).is_node

  pub next_opening : IsOpening s o.node o
  next_opening = let op = are.each (length crews) o os_next in subst (λ (n : NodeId). IsOpening s n o) (sym op.is_node) op

  pub next_low : length crews < s.nodes
  next_low = let low = got_low os (length crews) o os_next in let all = are.all in omega (arith, low, all)

  pub next_declared : o.node.0 < s.nodes
  next_declared = let low = next_low in let same : o.node.0 ≡ length crews = ap (λ (n : NodeId). n.0) next_at in omega (arith, low, same)

  pub next_links : AreNodeLinks s o.node out.items inn.items
  next_links =
      record {
        all_outs = links.row (length crews) out outs_next;
        all_ins = links.column (length crews) inn ins_next;
        opened = λ k e at. subst (λ (n : NodeId). IsOutOpened s.plan n (node_at k) e) (sym next_at) (links.out (length crews) k out e outs_next at);
        taken = λ k e at. links.taken k (length crews) inn e ins_next at;
      }

  module _ (c : NodeCrew) (crew : IsCrew s o.node 0 c) (is_first : c.first ≡ first) (is_outs : c.interface.outs ≡ out) (is_ins : c.interface.ins ≡ inn)
      (fresh : IsUnused c) where
    pub made_more : AreMade s os l.outs.items l.ins.items (first + seats_of c) (crews ++ c ∷ []) os_left outs_left ins_left
    made_more =
        record {
          os_taking = subst (AreTaking os os_left) (sym (length_push crews c)) (taking_more os os_left o (length crews) made.os_taking);
          outs_taking = subst (AreTaking l.outs.items outs_left) (sym (length_push crews c))
              (taking_more l.outs.items outs_left out (length crews) made.outs_taking);
          ins_taking = subst (AreTaking l.ins.items ins_left) (sym (length_push crews c)) (taking_more l.ins.items ins_left inn (length crews) made.ins_taking);
          outs_all = (let a = length_push outs_left out in let b = length_push os_left o in let all = made.outs_all in omega (arith, a, b, all));
          ins_all = (let a = length_push ins_left inn in let b = length_push os_left o in let all = made.ins_all in omega (arith, a, b, all));
          each = each_more (λ (k : ℕ) (d : NodeCrew). IsCrew s (node_at k) 0 d) crews c (length crews) refl made.each
              (subst (λ (n : NodeId). IsCrew s n 0 c) next_at crew);
          ends =
              each_more (HasEnds l.outs.items l.ins.items) crews c (length crews) refl made.ends
              (record {
                outs_at = outs_next ∙ ap (λ (v : Vec LinkOut). Some v) (sym is_outs);
                ins_at = ins_next
                    ∙ ap (λ (v : Vec LinkIn). Some v) (sym is_ins);
              });
          unused = all_push IsUnused crews c made.unused fresh;
          numbered = numbered_push 0 crews c made.numbered (let same = is_first ∙ made.counted in omega (arith, same));
          counted = ap (λ (n : ℕ). n + seats_of c) made.counted ∙ sym (workers_push crews c);
          low =
              (let e = length_push crews c in
              let few = few_seats s o.node c ok crew.named in
              let low = made.low in
              omega (arith, e, few, low));
        }
