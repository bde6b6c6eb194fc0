-- The rendering of a tree, and then u. Assumes nothing.
use mathlib.Core.Path.{◌≡◌, refl, ◌∙◌, ap}
use mathlib.Core.List.{List, [], ◌∷◌, ◌++◌, append_assoc}
use Prim.Native.Nat.{ℕ}
use Rattle.text_characters.specs.Pieces.{Piece, spell, spells}
use Rattle.xml.specs.House.{mark, Attr, attr, attrs, Tag, tag, Markup, no_more, piece, empty_tag, full, render}
use Rattle.xml.proofs.Lang.{spells_on, attr_on, attrs_on, tag_on, end_on, on}

spells_on_lem : (ps : List Piece) (u : List ℕ) → spells ps ++ u ≡ spells_on ps u
spells_on_lem [] u = refl
spells_on_lem (p ∷ ps) u = append_assoc (spell p) (spells ps) u ∙ ap (λ (l : List ℕ). spell p ++ l) (spells_on_lem ps u)

attr_shape : (g n b c v u : List ℕ) (q : ℕ) → (g ++ (n ++ (b ++ (61 ∷ (c ++ (q ∷ (v ++ (q ∷ [])))))))) ++ u ≡ g ++ (n ++ (b ++ (61 ∷ (c ++ (q ∷ (v ++ (q ∷ u)))))))
attr_shape g n b c v u q = simp append_assoc

attr_on_lem : (a : Attr) (u : List ℕ) → attr a ++ u ≡ attr_on a u
attr_on_lem a u =
    attr_shape a.gap a.name a.before a.after (spells a.value) u (mark a.quote)
    ∙ ap (λ (l : List ℕ). a.gap ++ (a.name ++ (a.before ++ (61 ∷ (a.after ++ (mark a.quote ∷ l)))))) (spells_on_lem a.value (mark a.quote ∷ u))

attrs_on_lem : (l : List Attr) (u : List ℕ) → attrs l ++ u ≡ attrs_on l u
attrs_on_lem [] u = refl
attrs_on_lem (a ∷ l) u = append_assoc (attr a) (attrs l) u ∙ ap (λ (w : List ℕ). attr a ++ w) (attrs_on_lem l u) ∙ attr_on_lem a (attrs_on l u)

tag_on_lem : (t : Tag) (u : List ℕ) → tag t ++ u ≡ tag_on t u
tag_on_lem t u =
    append_assoc t.name (attrs t.attributes ++ t.gap) u
    ∙ ap (λ (w : List ℕ). t.name ++ w) (append_assoc (attrs t.attributes) t.gap u ∙ attrs_on_lem t.attributes (t.gap ++ u))

full_shape : (t i n g k u : List ℕ) → (60 ∷ (t ++ (62 ∷ (i ++ (60 ∷ 47 ∷ (n ++ (g ++ (62 ∷ k)))))))) ++ u ≡ 60 ∷ (t ++ (62 ∷ (i ++ (60 ∷ 47 ∷ (n ++ (g ++ (62 ∷ (k ++ u))))))))
full_shape t i n g k u = simp append_assoc

pub render_on : (c : Markup) (u : List ℕ) → render c ++ u ≡ on c u
render_on no_more u = refl
render_on (piece p k) u = append_assoc (spell p) (render k) u ∙ ap (λ (l : List ℕ). spell p ++ l) (render_on k u)
render_on (empty_tag t k) u =
    ap (λ (l : List ℕ). 60 ∷ l) (append_assoc (tag t) (47 ∷ 62 ∷ render k) u ∙ ap (λ (l : List ℕ). tag t ++ (47 ∷ 62 ∷ l)) (render_on k u) ∙ tag_on_lem t (47 ∷ 62 ∷ on k u))
render_on (full t i g k) u =
    full_shape (tag t) (render i) t.name g (render k) u
    ∙ ap (λ (l : List ℕ). 60 ∷ (tag t ++ (62 ∷ (render i ++ end_on t.name g l)))) (render_on k u)
    ∙ ap (λ (l : List ℕ). 60 ∷ (tag t ++ (62 ∷ l))) (render_on i (end_on t.name g (on k u)))
    ∙ ap (λ (l : List ℕ). 60 ∷ l) (tag_on_lem t (62 ∷ on i (end_on t.name g (on k u))))
