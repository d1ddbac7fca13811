-- A head again on one page more.
use Rattle.std.proofs.Common.{◌≡◌, ℕ, ◌+◌, ◌*◌, List, ◌++◌, codes, refl, ap, sym, ◌∙◌, append_assoc, add-one}
use Rattle.am_lab_picture.specs.Layout.Layout.{top}
use Rattle.am_lab_xml.specs.Trees.{printed}
use Rattle.am_lab_chart.specs.Captions.{Word}
use Rattle.am_lab_picture.specs.Data.{PictureLists}
use Rattle.am_lab_chart.specs.Lanes.{head, node_lane, nodes, repeated}
use Rattle.am_lab_chart.proofs.Each.{two_parts}

pub one_page_more : (x : ℕ) (told words : List Word) (page : ℕ) →
    printed (repeated x told words (page + 1)) ≡ printed (repeated x told words page) ++ printed
    (head (codes "again") x (top + 912 + 918 * page) (codes "9") told words)
one_page_more x told words page = rw add-one refl

-- what is appended behind so many of them
pub again_more : (x : ℕ) (told words : List Word) (page y : ℕ) (before out new : List ℕ) → out ≡ before ++ printed (repeated x told words page) →
    new ≡ out ++ printed (head (codes "again") x y (codes "9") told words) → y ≡ top + 912 + 918 * page →
    new ≡ before ++ printed (repeated x told words (page + 1))
again_more x told words page y before out new e f h =
    let last : List ℕ = printed (head (codes "again") x (top + 912 + 918 * page) (codes "9") told words) in
    f ∙ ap (λ (t : List ℕ). t ++ printed (head (codes "again") x y (codes "9") told words)) e
    ∙ ap (λ (n : ℕ). (before ++ printed (repeated x told words page)) ++ printed (head (codes "again") x n (codes "9") told words)) h
    ∙ append_assoc before (printed (repeated x told words page)) last
    ∙ ap (λ (t : List ℕ). before ++ t) (sym (one_page_more x told words page))

-- the band of one node more
pub node_more : (p : PictureLists) (left node : ℕ) (before out new : List ℕ) → out ≡ before ++ printed (nodes p left node) →
    new ≡ out ++ printed (node_lane p left node) → new ≡ before ++ printed (nodes p left (node + 1))
node_more p left node before out new e f =
    rw add-one (two_parts (printed (nodes p left node)) (printed (node_lane p left node)) before out new e f)
