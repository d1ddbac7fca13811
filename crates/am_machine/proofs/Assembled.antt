-- Parts are assembled from the last to the first.
use Rattle.std.proofs.Common.{◌≡◌, List, [], ◌∷◌, ◌++◌, length, reverse, refl, sym, ap, ◌∙◌, append_assoc, arith}
use Rattle.std.proofs.lemmas.List.{reverse-append}
use Rattle.am_iface.specs.View.{InterfaceView}
use Rattle.am_swap_device.specs.Memory.{Store}
use Rattle.am_machine.specs.declared.node.NodePart.{NodePart}
use Rattle.am_machine.specs.declared.node.shells.Shell.{Shell}
use Rattle.am_machine.specs.Node.Parts.{part_of, parts_of}

pub parts_push : (ss : List Shell) (is : List InterfaceView) (ws : List Store) (s : Shell) (i : InterfaceView) (w : Store) → length is ≡ length ss →
    length ws ≡ length ss → parts_of (ss ++ s ∷ []) (is ++ i ∷ []) (ws ++ w ∷ []) ≡ parts_of ss is ws ++ part_of s i w ∷ []
parts_push [] [] [] s i w a b = refl
parts_push [] [] (v ∷ ws) s i w a b = absurd (omega (arith, b))
parts_push [] (j ∷ is) ws s i w a b = absurd (omega (arith, a))
parts_push (t ∷ ss) [] ws s i w a b = absurd (omega (arith, a))
parts_push (t ∷ ss) (j ∷ is) [] s i w a b = absurd (omega (arith, b))
parts_push (t ∷ ss) (j ∷ is) (v ∷ ws) s i w a b = ap (λ (ps : List NodePart). part_of t j v ∷ ps)
    (parts_push ss is ws s i w (omega (arith, a)) (omega (arith, b)))

-- a part more is one fewer to be assembled
pub assembled_more : (ss : List Shell) (is : List InterfaceView) (ws : List Store) (s : Shell) (i : InterfaceView) (w : Store) (parts whole : List NodePart) →
    length is ≡ length ss → length ws ≡ length ss → parts_of (ss ++ s ∷ []) (is ++ i ∷ []) (ws ++ w ∷ []) ++ reverse parts ≡ whole →
    parts_of ss is ws ++ reverse (parts ++ part_of s i w ∷ []) ≡ whole
assembled_more ss is ws s i w parts whole a b made =
    ap (λ (ps : List NodePart). parts_of ss is ws ++ ps) (reverse-append parts (part_of s i w ∷ []))
    ∙ sym (append_assoc (parts_of ss is ws) (part_of s i w ∷ []) (reverse parts))
    ∙ ap (λ (ps : List NodePart). ps ++ reverse parts) (sym (parts_push ss is ws s i w a b))
    ∙ made
