-- A mirror: where the pass that writes stands, and what it puts. Assumes nothing.
use Rattle.std.specs.Prelude.{◌≡◌, cond, ◌≢◌, List, ◌∷◌, ◌++◌, ℕ, ◌+◌, ◌*◌, ◌/◌, ◌%◌, ◌≤◌, ◌<◌, eqb, length, get_or, drop}
use Rattle.std.proofs.Math.Option.{Option, none}
use Rattle.std.proofs.Math.Seq.{slice}
use Rattle.answer.specs.Table.{limit}
use Rattle.text.specs.Bytes.{is_capital}
use Rattle.text.specs.Lists.{All, span}
use Rattle.text.specs.Puts.{Puts}
use Rattle.text_characters.specs.Pieces.{less}
use Rattle.list.specs.Listing.{Leaf, enum}
use Rattle.xml.specs.House.{Quote}
use Rattle.value.specs.parts.Form.{WordAt}
use Rattle.value.specs.given.Giving.{Written}
use Rattle.value_leaf.specs.Leafed.{is_inside}
use Rattle.value_leaf.specs.Took.{Took}
use Rattle.file.specs.Instance.{house_kinds}
use Rattle.file_nodes.specs.Run.{leaf, Node, Head, Run}
use Rattle.file_nodes.specs.Fitting.{coined, given}
use Rattle.text.specs.Little.{little}
use Rattle.file_nodes.specs.mirror.Fields.{width, info, words_at, more_words, next_field, upper, letters, chunk, coin_long, ending}
use Rattle.file_nodes.specs.mirror.Kept.{leaf_number, In, Tabled}
use Rattle.image_head.specs.Head.{head_of}
use Rattle.file_lane.specs.Seen.{head_size}

-- the number of a node's parts, its kind, the node after it
abbrev pub info_in : List ℕ → ℕ → ℕ
info_in t n = get_or t (width * n + info) 0

abbrev pub kind_in : List ℕ → ℕ → ℕ
kind_in t n = info_in t n / 256 % 256

abbrev pub next_in : List ℕ → ℕ → ℕ
next_in t n = info_in t n / next_field % 256

abbrev third : ℕ
third = 3

abbrev fourth : ℕ
fourth = 4

-- which of the four words of a node the number x is, from 1
abbrev pub word_of : ℕ → ℕ → ℕ → ℕ
word_of a b x = cond (eqb x (a % upper)) 1 (cond (eqb x (a / upper)) 2 (cond (eqb x (b % upper)) third fourth))

abbrev pub word_in : List ℕ → ℕ → ℕ → ℕ
word_in t k x = word_of (get_or t (k + words_at) 0) (get_or t (k + more_words) 0) x

-- every word of a list is where its place says
abbrev pub Placed : List (List ℕ) → List ℕ → ℕ → Type 0
Placed ws t k = (n : ℕ) (w : List ℕ) → WordAt ws n w → (length w ≡ letters) × All is_capital w × (word_in t k (little w) ≡ n)

-- nodes as the pass takes them: the table t has them, each tag begins with `<`, what may come beside another is told by sixteen bytes, and
-- words stand in their order
pub record Ways (t : List ℕ) (at : ℕ → Node) : Type 0 where
  pub tabled : Tabled t at
  pub tags : (n : ℕ) → (v : List ℕ) × ((at n).tag ≡ less ∷ v)
  pub closes : (n : ℕ) → (v : List ℕ) × ((at n).close ≡ less ∷ v)
  pub short : (n : ℕ) → 0 < (at n).other → length (at n).tag ≤ chunk
  pub words : (n : ℕ) (ws : List (List ℕ)) → In t n → (at n).sort ≡ leaf (enum ws) none → Placed ws t (width * n)

-- at node n and place i of s a run begins, whose bytes are bs
pub record StandsAt (t s : List ℕ) (n i : ℕ) (bs : List ℕ) : Type 0 where
  pub at : ℕ → Node
  pub ways : Ways t at
  pub is : In t n
  pub run : Run house_kinds at n (drop i s) bs

-- and the node's tag stands there
pub record Meets (t s : List ℕ) (n i : ℕ) (bs : List ℕ) : Type 0 where
  pub stands : StandsAt t s n i bs
  pub rest : List ℕ
  pub tag : drop i s ≡ (stands.at n).tag ++ rest

-- a leaf whose node's numbers are at place k of t, of the kind with this number: after its node's bytes, at a place of s, the rest of its tag and
-- its raw text up to the `<` at e; its value has the bytes vs
pub record LeafAt (t : List ℕ) (k kind : ℕ) (s : List ℕ) (at : ℕ) (vs : List ℕ) (e : ℕ) : Type 0 where
  pub leaf : Leaf
  pub quote : Option Quote
  pub number : kind ≡ leaf_number leaf quote
  pub coin : coined leaf ≡ given quote
  pub words : (ws : List (List ℕ)) → leaf ≡ enum ws → Placed ws t k
  pub head : List ℕ
  pub currency : List ℕ
  pub raw : List ℕ
  pub rest : List ℕ
  pub is : drop at s ≡ head ++ (raw ++ (less ∷ rest))
  pub heads : Head quote head currency
  pub took : Took leaf currency raw vs
  pub end : e ≡ at + length head + length raw

-- there is one, and room for its value
pub record LeafAsked (t : List ℕ) (k kind : ℕ) (s : List ℕ) (at : ℕ) (d : List ℕ) (to : ℕ) : Type 0 where
  pub table : k + width ≤ length t
  pub small : length s ≤ limit
  pub bytes : List ℕ
  pub end : ℕ
  pub leaf : LeafAt t k kind s at bytes end
  pub room : to + length bytes ≤ length d

-- its value's bytes are put, up to r; and it ends at e
abbrev pub LeafLaid : List ℕ → ℕ → ℕ → List ℕ → ℕ → List ℕ → ℕ → ℕ → ℕ → List ℕ → Type 0
LeafLaid t k kind s at d to r e d' = (vs : List ℕ) (f : ℕ) → LeafAt t k kind s at vs f → (e ≡ f) × Puts d to vs r d'

-- what is neither a text nor a word, by its checker: it ends at the next `<`; the currency goes from c on
abbrev pub OtherLaid : ℕ → List ℕ → ℕ → ℕ → List ℕ → ℕ → ℕ → ℕ → List ℕ → Type 0
OtherLaid kind s c at d to r e d' = (e ≡ at + span is_inside (drop at s)) × ((n : ℕ) × (r ≡ to + n) × Written kind 0 (slice c (c + coin_long) s) (slice at e s) d to n d')

-- what a turn asks: a tag that is not the root's end, and room
pub record TurnAsked (t s : List ℕ) (n i : ℕ) (d : List ℕ) (to : ℕ) : Type 0 where
  pub small : length s ≤ limit
  pub on : kind_in t n ≢ ending
  pub bytes : List ℕ
  pub meets : Meets t s n i bytes
  pub room : to + length bytes ≤ length d

-- a turn from node n at place i of s has put what is done of bs from `to` to r, and goes on at e with what is left
pub record Went (t s : List ℕ) (n i : ℕ) (d : List ℕ) (to : ℕ) (bs : List ℕ) (r e : ℕ) (d' : List ℕ) : Type 0 where
  pub done : List ℕ
  pub left : List ℕ
  pub split : bs ≡ done ++ left
  pub puts : Puts d to done r d'
  pub stands : StandsAt t s (next_in t n) e left
  pub further : i < e

-- what the pass asks
pub record Fillable (t s : List ℕ) (from : ℕ) (d : List ℕ) : Type 0 where
  pub small : length s ≤ limit
  pub bytes : List ℕ
  pub stands : StandsAt t s 1 from bytes
  pub room : head_size + length bytes ≤ length d

-- the header of an image of a list with this kind byte, the root's row byte and the run's bytes, at the start of a buffer
abbrev pub Fills : List ℕ → List ℕ → ℕ → ℕ → List ℕ → List ℕ → Type 0
Fills t s from kind d d' = (bs : List ℕ) → StandsAt t s 1 from bs → Puts d 0 (head_of kind ++ bs) (head_size + length bs) d'
