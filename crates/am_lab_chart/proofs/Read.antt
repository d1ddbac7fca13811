-- What a picture's text is to whoever reads it.
use Rattle.std.proofs.Common.{◌≡◌, ℕ, List, [], ◌++◌, codes, Result, Ok, Err, IfOk, refl, ap, sym, ◌∙◌, subst, append-nil}
use Rattle.std.specs.Global.{Vec}
use Rattle.am_lab_picture.specs.Data.{PictureLists}
use Rattle.am_lab_xml.specs.Grammar.{IsDocument}
use Rattle.am_lab_xml.specs.Reading.{first_texts_in, texts_in}
use Rattle.am_lab_xml.specs.Trees.{Content, printed}
use Rattle.am_lab_xml.specs.Trees.{Content as Contents}
use Rattle.am_lab_xml.proofs.Formed.{document}
use Rattle.am_lab_xml.proofs.Found.{texts_are_found}
use Rattle.am_lab_xml.proofs.Led.{first_texts_are_found}
use Rattle.am_lab_picture.specs.Layout.Layout.{height, left_edge, width}
use Rattle.am_lab_chart.specs.Drawing.{drawing, inside, size_class, svg_attributes, svg_of}
use Rattle.am_lab_chart.specs.Titles.{row_titles, titles_before}
use Rattle.am_lab_chart.proofs.Titled.{Holds, both, break}
use Rattle.am_lab_chart.proofs.Quiet.{drawing_has}

-- ---- a content with a newline behind it

whole : (rows titles : List (List ℕ)) (content : Content) → Holds rows titles content →
    Holds (rows ++ []) (titles ++ []) (Contents.Both content Contents.Break)
whole rows titles content h = both content Contents.Break h break

pub titles_are_found : (rows titles : List (List ℕ)) (content : Content) → Holds rows titles content →
    texts_in (codes "title") (printed (Contents.Both content Contents.Break)) ≡ titles
titles_are_found rows titles content h =
    let all = whole rows titles content h in
    texts_are_found (codes "title") (Contents.Both content Contents.Break) refl all.sound all.plain ∙ all.titles' ∙ append-nil titles

pub rows_are_found : (rows titles : List (List ℕ)) (content : Content) → Holds rows titles content →
    first_texts_in (codes "g") (codes "title") (printed (Contents.Both content Contents.Break)) ≡ rows
rows_are_found rows titles content h =
    let all = whole rows titles content h in
    first_texts_are_found (codes "g") (codes "title") (Contents.Both content Contents.Break) refl refl all.sound all.led ∙ all.rows' ∙ append-nil rows

-- ---- a picture

abbrev pub all_titles : PictureLists → List (List ℕ)
all_titles p = titles_before p ++ row_titles p

is_document : (p : PictureLists) → IsDocument (svg_of p)
unfolding drawing
is_document p =
    let left = left_edge p in
    document (codes "svg") (svg_attributes (size_class p) (width p left) (height p)) (inside p left) (drawing_has p left).sound

pub document_of : {E : Type 0} (p : PictureLists) (r : Result (Vec ℕ) E) → IfOk r (λ (out : Vec ℕ). out.items ≡ svg_of p) →
    IfOk r (λ (out : Vec ℕ). IsDocument out.items)
document_of p (Ok out) e = subst IsDocument (sym e) (is_document p)
document_of p (Err e) h = tt

pub titles_of : {E : Type 0} (p : PictureLists) (r : Result (Vec ℕ) E) → IfOk r (λ (out : Vec ℕ). out.items ≡ svg_of p) →
    IfOk r (λ (out : Vec ℕ). texts_in (codes "title") out.items ≡ all_titles p)
titles_of p (Ok out) e =
    ap (texts_in (codes "title")) e ∙ titles_are_found (row_titles p) (all_titles p) (drawing p (left_edge p)) (drawing_has p (left_edge p))
titles_of p (Err e) h = tt

pub rows_of : {E : Type 0} (p : PictureLists) (r : Result (Vec ℕ) E) → IfOk r (λ (out : Vec ℕ). out.items ≡ svg_of p) →
    IfOk r (λ (out : Vec ℕ). first_texts_in (codes "g") (codes "title") out.items ≡ row_titles p)
rows_of p (Ok out) e =
    ap (first_texts_in (codes "g") (codes "title")) e
    ∙ rows_are_found (row_titles p) (all_titles p) (drawing p (left_edge p)) (drawing_has p (left_edge p))
rows_of p (Err e) h = tt
