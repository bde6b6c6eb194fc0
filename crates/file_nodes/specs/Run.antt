-- The lane's run over a text, by nodes: a relation of bytes alone, over any types and any nodes. Assumes nothing.
use Rattle.std.specs.Prelude.{◌≡◌, List, [], ◌∷◌, ◌++◌, ℕ, ◌<◌}
use Rattle.std.proofs.Math.Option.{Option, none, some}
use Rattle.text.specs.Bytes.{is_blank}
use Rattle.text.specs.Lists.{span, All}
use Rattle.text_characters.specs.Pieces.{greater}
use Rattle.list.specs.Listing.{Leaf}
use Rattle.xml.specs.House.{Quote, mark}
use Rattle.value.specs.types.Code.{Ccy}
use Rattle.value_leaf.specs.Took.{TookAs}
use Rattle.file.specs.Instance.{Kinds}

-- what a node's tag is: the root's closing tag, another closing tag, a group's opening tag, a leaf's one, to its end or to the quote before its
-- currency
pub data Sort : Type 0 where
  over shut group : Sort
  leaf : Leaf → Option Quote → Sort

-- a tag that may come: its bytes, its row; the node after it; the node of what else may come here (0: nothing); a leaf's closing tag
pub record Node : Type 0 where
  pub tag : List ℕ
  pub sort : Sort
  pub row : ℕ
  pub next : ℕ
  pub other : ℕ
  pub close : List ℕ

-- how a leaf's opening tag goes on after the node's bytes, and its currency
abbrev pub Head : Option Quote → List ℕ → List ℕ → Type 0
Head none w cur = (w ≡ []) × (cur ≡ [])
Head (some q) w cur = (w ≡ cur ++ (mark q ∷ greater ∷ [])) × Ccy cur

module _ (k : Kinds) (at : ℕ → Node) where
  -- from a node on, over all of the text t: the image's bytes that are still to come; another node only where there is no blank and not this node's
  -- tag
  pub data Run : ℕ → List ℕ → List ℕ → Type 0 where
    blank : {n : ℕ} {t bs : List ℕ} (b u : List ℕ) → All is_blank b → t ≡ b ++ u → Run n u bs → Run n t bs
    else : {n : ℕ} {t bs : List ℕ} → span is_blank t ≡ 0 → ((u : List ℕ) → t ≡ (at n).tag ++ u → ⊥) → 0 < (at n).other → Run (at n).other t bs → Run n t bs
    ends : {n : ℕ} {t bs : List ℕ} (u : List ℕ) → (at n).sort ≡ over → t ≡ (at n).tag ++ u → All is_blank u → bs ≡ 0 ∷ [] → Run n t bs
    closes : {n : ℕ} {t bs : List ℕ} (u : List ℕ) → (at n).sort ≡ shut → t ≡ (at n).tag ++ u → Run (at n).next u bs → Run n t bs
    opens : {n : ℕ} {t bs : List ℕ} (u cs : List ℕ) → (at n).sort ≡ group → t ≡ (at n).tag ++ u → Run (at n).next u cs → bs ≡ (at n).row ∷ cs → Run n t bs
    tells : {n : ℕ} {t bs : List ℕ} (f : Leaf) (h : Option Quote) (w cur raw vs u cs : List ℕ) → (at n).sort ≡ leaf f h
        → t ≡ (at n).tag ++ (w ++ (raw ++ ((at n).close ++ u))) → Head h w cur → TookAs k.types.Spelt k.bytes f cur raw vs → Run (at n).next u cs
        → bs ≡ (at n).row ∷ (vs ++ cs) → Run n t bs
