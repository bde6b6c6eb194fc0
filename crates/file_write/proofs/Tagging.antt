-- The tags that the tables say are those that the file is told with, and how many bytes they are at most. Assumes nothing.
use mathlib.Core.Path.{◌≡◌, refl, sym, ◌∙◌, ap, ap₂}
use mathlib.Core.Bool.{Bool, true, false, cond, true≢false}
use mathlib.Core.List.{List, [], ◌∷◌, ◌++◌, append_assoc, append-nil}
use Prim.Native.Nat.{ℕ, zero, suc, ◌+◌, ◌*◌, ◌≤◌, ◌<◌}
use native.Mathlib.Omega.{arith}
use native.Mathlib.Decide.{dec_lt}
use lib.Dec.{eqb}
use lib.ListN.{length, length-append}
use lib.Seq.{slice}
use borrow.Author.Tests.{lt-ltb}
use Rattle.text.specs.Bytes.{ascii, is_unmarked, is_capital}
use Rattle.text.specs.Lists.{Each}
use Rattle.text.proofs.Classes as classes
use Rattle.text_characters.specs.Utf8.{encode}
use Rattle.text_characters.proofs.Unmarked.{unmarked}
use Rattle.text_characters.specs.Pieces.{spells}
use Rattle.list.specs.Listing.{Leaf, Row, Listing, size, row_at}
use Rattle.list.specs.WellFormed.{WellFormed}
use Rattle.list.specs.tables.Table.{cell, name_in, list_of}
use Rattle.list.proofs.rows.Rows.{size_is, name_is}
use Rattle.list.proofs.rows.Next.{row_past}
use Rattle.value.specs.Value.{Value, IsValue}
use Rattle.value.proofs.classes.Classes.{each_all}
use Rattle.file_letter.proofs.tree.Trees.{plainly}
use Rattle.file_letter.specs.Letter.{attr_of, coin_of}
use Rattle.file_letter.specs.mirror.Tell.{opens, shuts, closes}
use Rattle.file_write.specs.mirror.Tags.{start_in, open_in, shut_in, root_in}
use Rattle.file_write.specs.mirror.Emit.{coin_text}
use Rattle.file_write.proofs.Putting.{part_most}

-- ---- attribute values are written as they stand

low_spells : (v : List ℕ) → Each (λ c. c < 128) v → spells (plainly v) ≡ v
unfolding encode
low_spells [] h = refl
low_spells (c ∷ v) h = rw (lt-ltb c 128 h.0) (ap (λ (u : List ℕ). c ∷ u) (low_spells v h.1))

unmarked_low : (x : ℕ) → is_unmarked x ≡ true → x < 128
unmarked_low x e = elim (dec_lt 126 x) [
  | yes h ↦ absurd (true≢false (sym e ∙ sym (classes.no unmarked (omega arith))))
  | no h ↦ omega arith
]

capital_low : (x : ℕ) → is_capital x ≡ true → x < 128
capital_low x e = omega (arith, classes.is_in classes.capital x e)

-- a tag with one attribute
tagged : (n a v : List ℕ) → (60 ∷ n) ++ ((32 ∷ (a ++ (61 ∷ 34 ∷ []))) ++ (v ++ (34 ∷ 62 ∷ []))) ≡ 60 ∷ ((n ++ (((32 ∷ (a ++ (61 ∷ 34 ∷ (v ++ (34 ∷ []))))) ++ []) ++ [])) ++ (62 ∷ []))
tagged n a v = simp (append_assoc, append-nil)

grouped : (a b w c e : List ℕ) → a ++ ((b ++ (w ++ c)) ++ e) ≡ a ++ (b ++ (w ++ (c ++ e)))
grouped a b w c e = simp append_assoc

module _ (t pool : List ℕ) where
  abbrev l : Listing
  l = list_of t pool

  -- ---- how many bytes

  name_most : (r : ℕ) → length (row_at l r).name ≤ length pool
  unfolding row_at
  name_most zero = omega arith
  name_most (suc r) = elim (dec_lt (size l) (suc r)) [
    | yes h ↦ omega (arith, ap (λ (x : Row). length x.name) (row_past l (suc r) h))
    | no h ↦ omega (arith, ap length (name_is t pool (suc r) (omega arith) (omega (arith, size_is t pool))), part_most (cell t (suc r) 4) (cell t (suc r) 5) pool)
  ]

  pub open_most : (x : ℕ) → length (open_in t pool x) ≤ 2 + length pool
  open_most x = omega (arith, length-append (name_in t pool x) (62 ∷ []), part_most (cell t x 4) (cell t x 5) pool)

  pub root_most : length (root_in t pool) ≤ 11 + (length pool + length pool)
  root_most =
      let n = length-append (name_in t pool 1) (ascii " xmlns=\"" ++ (slice (cell t 0 1) (cell t 0 2) pool ++ ascii "\">")) in
      let v = length-append (slice (cell t 0 1) (cell t 0 2) pool) (ascii "\">") in
      omega (arith, n, v, part_most (cell t 1 4) (cell t 1 5) pool, part_most (cell t 0 1) (cell t 0 2) pool)

  pub closes_most : length pool ≤ 65535 → (k g p : ℕ) → length (closes l k g p) ≤ k * 65538
  unfolding closes
  closes_most small zero g p = omega arith
  closes_most small (suc k) g p = go (eqb g p) (eqb g 0) (closes_most small k (row_at l g).parent p)
    where
      u : List ℕ
      u = closes l k (row_at l g).parent p

      go : (a b : Bool) → length u ≤ k * 65538 → length (cond a [] (cond b [] (shuts l g ++ u))) ≤ suc k * 65538
      go true b h = omega arith
      go false true h = omega arith
      go false false h = omega (arith, length-append (shuts l g) u, length-append (row_at l g).name (62 ∷ []), name_most g)

  -- ---- which bytes

  module _ (x : ℕ) (a : 0 < x) (b : x ≤ size l) where
    name_in_lem : name_in t pool x ≡ (row_at l x).name
    name_in_lem = sym (name_is t pool x a (omega (arith, size_is t pool)))

    pub open_is : open_in t pool x ≡ opens l x []
    open_is = rw (name_in_lem, append-nil (row_at l x).name)

    pub shut_is : shut_in t pool x ≡ shuts l x
    shut_is = rw name_in_lem

    -- with an attribute
    attr_is : (n v : List ℕ) → Each (λ c. c < 128) v → start_in t pool x ++ ((32 ∷ (n ++ (61 ∷ 34 ∷ []))) ++ (v ++ (34 ∷ 62 ∷ []))) ≡ opens l x (attr_of n v ∷ [])
    attr_is n v h =
        tagged (name_in t pool x) n v
        ∙ ap₂ (λ (u s : List ℕ). 60 ∷ ((u ++ (((32 ∷ (n ++ (61 ∷ 34 ∷ (s ++ (34 ∷ []))))) ++ []) ++ [])) ++ (62 ∷ []))) name_in_lem (sym (low_spells v h))

  -- the root's tag, with the namespace
  pub root_is : WellFormed l → root_in t pool ≡ opens l 1 (attr_of (ascii "xmlns") l.space ∷ [])
  unfolding list_of
  root_is wf = attr_is 1 (omega arith) wf.root.0 (ascii "xmlns") l.space (each_all is_unmarked (λ c. c < 128) unmarked_low l.space wf.space)

  -- a leaf's, with the attribute that its value has
  pub leaf_open : (x : ℕ) → 0 < x → x ≤ size l → (f : Leaf) (v : Value) → IsValue f v → start_in t pool x ++ (coin_text v ++ ascii ">") ≡ opens l x (coin_of v)
  leaf_open x a b f v (IsValue.reference r) = open_is x a b
  leaf_open x a b f v (IsValue.writing r) = open_is x a b
  leaf_open x a b f v (IsValue.account r) = open_is x a b
  leaf_open x a b f v (IsValue.currency r) = open_is x a b
  leaf_open x a b f v (IsValue.listed h k) = open_is x a b
  leaf_open x a b f v IsValue.either = open_is x a b
  leaf_open x a b f v (IsValue.count h) = open_is x a b
  leaf_open x a b f v (IsValue.money {w = w} c h) =
      grouped (start_in t pool x) (ascii " Ccy=\"") w (ascii "\"") (ascii ">") ∙ attr_is x a b (ascii "Ccy") w (each_all is_capital (λ c. c < 128) capital_low w c.capitals)
  leaf_open x a b f v (IsValue.dated r) = open_is x a b
  leaf_open x a b f v (IsValue.timed p) = open_is x a b
