-- What a picture's text with a fault below its last row is to whoever reads it.
use Rattle.std.proofs.Common.{◌≡◌, ℕ, List, [], ◌∷◌, codes, Result, Ok, Err, IfOk, refl, ap, sym, ◌∙◌, subst, append-nil}
use Rattle.std.specs.Global.{Vec}
use Rattle.am_lab_picture.specs.Data.{PictureLists}
use Rattle.am_lab_picture.specs.Layout.Layout.{bottom, height, left_edge, width}
use Rattle.am_lab_xml.specs.Grammar.{IsDocument}
use Rattle.am_lab_xml.specs.Reading.{first_texts_in, texts_in}
use Rattle.am_lab_xml.specs.Trees.{Content as Contents}
use Rattle.am_lab_xml.proofs.Formed.{document}
use Rattle.am_lab_chart.specs.Before.{drawing_before, fault_attributes, fault_row, fault_title, svg_before, titles_with}
use Rattle.am_lab_chart.specs.Captions.{joined, title}
use Rattle.am_lab_chart.specs.Drawing.{inside, size_class, svg_attributes}
use Rattle.am_lab_chart.specs.Titles.{row_titles}
use Rattle.am_lab_chart.proofs.Lines.{a_number, joined_is_text, more, none}
use Rattle.am_lab_chart.proofs.Quiet.{inside_has}
use Rattle.am_lab_chart.proofs.Read.{rows_are_found, titles_are_found}
use Rattle.am_lab_chart.proofs.Titled.{Has, Holds, a_text, a_title, both, element}

fault_has : (y line : ℕ) (told : List ℕ) → Has (joined (fault_title line) ∷ []) (fault_row y line told)
unfolding fault_row fault_attributes
fault_has y line told =
    element (codes "text") (fault_attributes y) (Contents.Both (title (joined (fault_title line))) (Contents.Text told)) refl refl refl
    (both (title (joined (fault_title line))) (Contents.Text told)
    (a_title (joined (fault_title line)) (joined_is_text (fault_title line) (more _ _ refl (a_number line _ none)))) (a_text told))

inside_with : (p : PictureLists) (left line : ℕ) (told : List ℕ) →
    Holds (row_titles p) (titles_with p line) (Contents.Both (inside p left) (fault_row (bottom p) line told))
inside_with p left line told =
    subst (λ (rows : List (List ℕ)). Holds rows (titles_with p line) (Contents.Both (inside p left) (fault_row (bottom p) line told)))
    (append-nil (row_titles p))
    (both (inside p left) (fault_row (bottom p) line told) (inside_has p left) (fault_has (bottom p) line told))

drawing_has : (p : PictureLists) (left line : ℕ) (told : List ℕ) → Holds (row_titles p) (titles_with p line) (drawing_before p left line told)
unfolding drawing_before
drawing_has p left line told =
    element (codes "svg") (svg_attributes (size_class p) (width p left) (height p)) (Contents.Both (inside p left) (fault_row (bottom p) line told)) refl refl refl
    (inside_with p left line told)

is_document : (p : PictureLists) (line : ℕ) (told : List ℕ) → IsDocument (svg_before p line told)
unfolding drawing_before
is_document p line told =
    let left = left_edge p in
    document (codes "svg") (svg_attributes (size_class p) (width p left) (height p)) (Contents.Both (inside p left) (fault_row (bottom p) line told))
    (drawing_has p left line told).sound

pub document_of : {E : Type 0} (p : PictureLists) (line : ℕ) (told : List ℕ) (r : Result (Vec ℕ) E) →
    IfOk r (λ (out : Vec ℕ). out.items ≡ svg_before p line told) → IfOk r (λ (out : Vec ℕ). IsDocument out.items)
document_of p line told (Ok out) e = subst IsDocument (sym e) (is_document p line told)
document_of p line told (Err e) h = tt

pub titles_of : {E : Type 0} (p : PictureLists) (line : ℕ) (told : List ℕ) (r : Result (Vec ℕ) E) →
    IfOk r (λ (out : Vec ℕ). out.items ≡ svg_before p line told) → IfOk r (λ (out : Vec ℕ). texts_in (codes "title") out.items ≡ titles_with p line)
titles_of p line told (Ok out) e =
    ap (texts_in (codes "title")) e
    ∙ titles_are_found (row_titles p) (titles_with p line) (drawing_before p (left_edge p) line told) (drawing_has p (left_edge p) line told)
titles_of p line told (Err e) h = tt

pub rows_of : {E : Type 0} (p : PictureLists) (line : ℕ) (told : List ℕ) (r : Result (Vec ℕ) E) →
    IfOk r (λ (out : Vec ℕ). out.items ≡ svg_before p line told) →
    IfOk r (λ (out : Vec ℕ). first_texts_in (codes "g") (codes "title") out.items ≡ row_titles p)
rows_of p line told (Ok out) e =
    ap (first_texts_in (codes "g") (codes "title")) e
    ∙ rows_are_found (row_titles p) (titles_with p line) (drawing_before p (left_edge p) line told) (drawing_has p (left_edge p) line told)
rows_of p line told (Err e) h = tt
