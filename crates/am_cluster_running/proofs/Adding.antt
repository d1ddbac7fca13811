-- One node more whose phase is over.
use Rattle.std.specs.Prelude.{slice_get}
use Rattle.std.specs.Global.{Vec}
use Rattle.std.proofs.Common.{◌≡◌, ⊎_elim, ℕ, suc, ◌+◌, ◌≤◌, List, [], ◌∷◌, ◌++◌, length, length-append, Some, sym, ap, ◌∙◌, subst, arith}
use Rattle.std.proofs.lemmas.Option.{slice_get_within}
use Rattle.am_lemmas.proofs.Lists.{slice_get-push_cases}
use Rattle.am_wire.specs.declared.receiving.LinkIn.{LinkIn}
use Rattle.am_wire.specs.declared.sending.LinkOut.{LinkOut}
use Rattle.am_cluster_opening.specs.declared.crew.NodeCrew.{NodeCrew}
use Rattle.am_cluster_running.specs.Ending.{AreEnded, HasRoom, IsEndedOf, IsNodeEndedOf}
use Rattle.am_cluster_running.specs.declared.ended.AllEnded.{AllEnded}
use Rattle.am_cluster_running.specs.declared.ended.Ended.{Ended}
use Rattle.am_cluster_running.specs.declared.ended.NodeEnded.{NodeEnded}

-- what holds of each two at one place, and of the next
pub pairs_more : {X Y : Type 0} (P : X → Y → Type 0) (xs : List X) (ys : List Y) (x : X) (y : Y) → length ys ≡ length xs →
    ((k : ℕ) (a : X) (b : Y) → slice_get xs k ≡ Some a → slice_get ys k ≡ Some b → P a b) → P x y → (k : ℕ) (a : X) (b : Y) →
    slice_get (xs ++ x ∷ []) k ≡ Some a → slice_get (ys ++ y ∷ []) k ≡ Some b → P a b
pairs_more {X} {Y} P xs ys x y long old new k a b at_a at_b =
    ⊎_elim
    (λ (here : slice_get xs k ≡ Some a).
    ⊎_elim
    (λ (there : slice_get ys k ≡ Some b). old k a b here there)
    (λ (last : (k ≡ length ys) × (b ≡ y)). (let low = slice_get_within xs k a here in let is = last.0 in absurd (omega (arith, low, is, long))))
    (slice_get-push_cases ys y k b at_b))
    (λ (last : (k ≡ length xs) × (a ≡ x)).
    ⊎_elim
    (λ (there : slice_get ys k ≡ Some b). (let low = slice_get_within ys k b there in let is = last.0 in absurd (omega (arith, low, is, long))))
    (λ (end : (k ≡ length ys) × (b ≡ y)). subst (λ (u : X). P u b) (sym last.1) (subst (λ (v : Y). P x v) (sym end.1) new))
    (slice_get-push_cases ys y k b at_b))
    (slice_get-push_cases xs x k a at_a)

long_more : {X Y : Type 0} (xs : List X) (ys : List Y) (x : X) (y : Y) → length ys ≡ length xs → length (ys ++ y ∷ []) ≡ length (xs ++ x ∷ [])
long_more xs ys x y e = length-append ys (y ∷ []) ∙ ap (λ (n : ℕ). n + 1) e ∙ sym (length-append xs (x ∷ []))

pub ended_more : (cs : List NodeCrew) (all next : AllEnded) (c : NodeCrew) (e : Ended) → AreEnded cs all → IsEndedOf c e →
    next.nodes.items ≡ all.nodes.items ++ e.node ∷ [] → next.outs.items ≡ all.outs.items ++ e.outs ∷ [] → next.ins.items ≡ all.ins.items ++ e.ins ∷ [] →
    AreEnded (cs ++ c ∷ []) next
ended_more cs all next c e h is nodes outs ins =
    record {
      all_nodes = ap (λ (xs : List NodeEnded). length xs) nodes ∙ long_more cs all.nodes.items c e.node h.all_nodes;
      all_outs = ap (λ (xs : List (Vec LinkOut)). length xs) outs ∙ long_more cs all.outs.items c e.outs h.all_outs;
      all_ins = ap (λ (xs : List (Vec LinkIn)). length xs) ins ∙ long_more cs all.ins.items c e.ins h.all_ins;
      node = λ k a b at_a at_b. pairs_more (λ (u : NodeCrew) (v : NodeEnded). IsNodeEndedOf u v) cs all.nodes.items c e.node h.all_nodes h.node is.node k a b
          at_a (subst (λ (xs : List NodeEnded). slice_get xs k ≡ Some b) nodes at_b);
      outs = λ k a b at_a at_b. pairs_more (λ (u : NodeCrew) (v : Vec LinkOut). v.items ≡ u.interface.outs.items) cs all.outs.items c e.outs h.all_outs h.outs
          is.outs k a b at_a (subst (λ (xs : List (Vec LinkOut)). slice_get xs k ≡ Some b) outs at_b);
      ins = λ k a b at_a at_b. pairs_more (λ (u : NodeCrew) (v : Vec LinkIn). v.items ≡ u.interface.ins.items) cs all.ins.items c e.ins h.all_ins h.ins is.ins k
          a b at_a (subst (λ (xs : List (Vec LinkIn)). slice_get xs k ≡ Some b) ins at_b);
    }

pub none_ended : (all : AllEnded) → all.nodes.items ≡ [] → all.outs.items ≡ [] → all.ins.items ≡ [] → AreEnded [] all
none_ended all nodes outs ins =
    record {
      all_nodes = ap (λ (xs : List NodeEnded). length xs) nodes;
      all_outs = ap (λ (xs : List (Vec LinkOut)). length xs) outs;
      all_ins = ap (λ (xs : List (Vec LinkIn)). length xs) ins;
      node = λ k c n at_c at_n. absurd (cc);
      outs = λ k c os at_c at_os. absurd (cc);
      ins = λ k c is at_c at_is. absurd (cc);
    }

-- ---- room

pub one_left : {X : Type 0} (rest more : List X) (x : X) → rest ≡ x ∷ more → length rest ≡ length more + 1
one_left {X} rest more x is = let all : length rest ≡ suc (length more) = ap (λ (xs : List X). length xs) is in omega (arith, all)

pub room_less : (m n : ℕ) (all : AllEnded) → n ≤ m → HasRoom m all → HasRoom n all
room_less m n all less h =
    record {
      nodes = (let room = h.nodes in omega (arith, less, room));
      outs = (let room = h.outs in omega (arith, less, room));
      ins = (let room = h.ins in omega (arith, less, room));
    }

pub room_made : {X : Type 0} (xs : List X) (n room : ℕ) → xs ≡ [] → n ≤ room → length xs + n ≤ room
room_made {X} xs n room none few = let all : length xs ≡ 0 = ap (λ (zs : List X). length zs) none in omega (arith, all, few)

pub moved_on : {X : Type 0} (ys : List X) (x : X) (more rest all : List X) → rest ≡ x ∷ more → ys ++ rest ≡ all → (ys ++ x ∷ []) ++ more ≡ all
moved_on {X} [] x more rest all is h = sym is ∙ h
moved_on {X} (y ∷ ys) x more rest [] is h = absurd (cc)
moved_on {X} (y ∷ ys) x more rest (z ∷ zs) is h =
    let head : y ≡ z = cc in
    let tail : ys ++ rest ≡ zs = cc in
    (λ i. head i ∷ moved_on ys x more rest zs is tail i)
