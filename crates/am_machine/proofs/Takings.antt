-- Parts are taken apart one by one, from the first to the last.
use Rattle.std.proofs.Common.{◌≡◌, List, [], ◌∷◌, ◌++◌, map, reverse, sym, ap, ◌∙◌, append_assoc}
use Rattle.std.proofs.lemmas.List.{append-nil, reverse-append, reverse-reverse}
use Rattle.am_machine.specs.declared.node.NodePart.{NodePart}
use Rattle.am_machine.specs.declared.node.taking.TakenParts.{TakenParts}
use Rattle.am_machine.specs.Node.Taken.{IsEmpty, IsTaken, IsTakenFrom, ends_of, iface_of, swap_of, turned}

-- these parts are still to be taken, the last of them first
pub record AreBeingTaken (whole rest : List NodePart) (t : TakenParts) : Type 0 where
  pub ends' : map ends_of t.ends.items ++ map turned (reverse rest) ≡ map turned whole
  pub interfaces' : t.interfaces.items ++ map iface_of (reverse rest) ≡ map iface_of whole
  pub swaps' : t.swaps.items ++ map swap_of (reverse rest) ≡ map swap_of whole

pub begins : (whole : List NodePart) (t : TakenParts) → IsEmpty t → AreBeingTaken whole (reverse whole) t
begins whole t e =
    record {
      ends' = (λ i. map ends_of (e.ends' i) ++ map turned (reverse-reverse whole i));
      interfaces' = (λ i. e.interfaces' i ++ map iface_of (reverse-reverse whole i));
      swaps' = (λ i. e.swaps' i ++ map swap_of (reverse-reverse whole i));
    }

-- one more at the end of what is taken is one fewer at the front of what is left
one_more : {X : Type 0} (f : NodePart → X) (had now : List X) (rest : List NodePart) (p : NodePart) (whole : List X) → now ≡ had ++ f p ∷ [] →
    had ++ map f (reverse (rest ++ p ∷ [])) ≡ whole → now ++ map f (reverse rest) ≡ whole
one_more {X} f had now rest p whole is made =
    ap (λ (l : List X). l ++ map f (reverse rest)) is
    ∙ append_assoc had (f p ∷ []) (map f (reverse rest))
    ∙ ap (λ (ps : List NodePart). had ++ map f ps) (sym (reverse-append rest (p ∷ [])))
    ∙ made

pub goes_on : (whole rest : List NodePart) (p : NodePart) (t u : TakenParts) → AreBeingTaken whole (rest ++ p ∷ []) t → IsTaken t p u → AreBeingTaken whole rest u
goes_on whole rest p t u a took =
    record {
      ends' = one_more turned (map ends_of t.ends.items) (map ends_of u.ends.items) rest p (map turned whole) took.ends' a.ends';
      interfaces' = one_more iface_of t.interfaces.items u.interfaces.items rest p (map iface_of whole) took.interfaces' a.interfaces';
      swaps' = one_more swap_of t.swaps.items u.swaps.items rest p (map swap_of whole) took.swaps' a.swaps';
    }

pub ends : (whole : List NodePart) (t : TakenParts) → AreBeingTaken whole [] t → IsTakenFrom whole t
ends whole t a =
    record {
      ends' = sym (append-nil (map ends_of t.ends.items)) ∙ a.ends';
      interfaces' = sym (append-nil t.interfaces.items) ∙ a.interfaces';
      swaps' = sym (append-nil t.swaps.items) ∙ a.swaps';
    }
