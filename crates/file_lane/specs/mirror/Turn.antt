-- A mirror: what one turn of the lane meets, in numbers and in bytes. Assumes nothing.
use Rattle.std.specs.Prelude.{◌≡◌, ◌≢◌, ◌⊎◌, List, [], ◌∷◌, ◌++◌, ℕ, suc, ◌+◌, ◌*◌, ◌/◌, ◌%◌, ◌<◌, length, get_or, take, drop}
use Rattle.std.proofs.Math.Option.{Option}
use Rattle.std.specs.Int.Bits.{bit_and}
use Rattle.text.specs.Bytes.{is_blank}
use Rattle.text.specs.Lists.{All}
use Rattle.text_characters.specs.Pieces.{greater}
use Rattle.list.specs.Listing.{Leaf, amt, enum}
use Rattle.xml.specs.House.{Quote}
use Rattle.value.specs.types.Code.{Ccy}
use Rattle.value.specs.Kind.{code, Given}
use Rattle.value_leaf.specs.Took.{Took}
use Rattle.file_nodes.specs.Run.{Sort, over, shut, group, leaf, Node, Head}
use Rattle.text.specs.Little.{Loaded}
use Rattle.file_nodes.specs.mirror.Fields.{width, chunk, second_mask_at, info, end_at, words_at, more_words, other_field, most_field, more_field, upper, letters, coined_long}
use Rattle.file_nodes.specs.mirror.Kept.{Masked, Kept}

-- "16-bit byte length": no item has more bytes, its row byte, a length and a text
abbrev pub longest_item : ℕ
longest_item = 65538

-- two chunks of eight bytes are, under the masks at place k of t, what stands there
pub record Matches (t : List ℕ) (k x y : ℕ) : Type 0 where
  pub first : bit_and x (get_or t (k + 1) 0) ≡ get_or t k 0
  pub second : bit_and y (get_or t (k + second_mask_at) 0) ≡ get_or t (k + 2) 0

-- the number with the fields of a node, whose numbers are at place k of t
abbrev pub fields_at : List ℕ → ℕ → ℕ
fields_at t k = get_or t (k + info) 0

-- the node of what else may come
abbrev pub other_in : List ℕ → ℕ → ℕ
other_in t n = fields_at t (width * n) / other_field % 256

-- from a node on, r is the first whose tag is matched
pub data Sought (t : List ℕ) (x y : ℕ) : ℕ → ℕ → Type 0 where
  here : {n : ℕ} → Matches t (width * n) x y → Sought t x y n n
  beside : {n r : ℕ} → (Matches t (width * n) x y → ⊥) → 0 < other_in t n → Sought t x y (other_in t n) r → Sought t x y n r

-- after the text of a leaf, or after the first sixteen bytes of a longer tag: the number `info` of a node at place k of t has how many bytes w has, which are
-- compared there
pub record Ends (t : List ℕ) (k info : ℕ) (w : List ℕ) : Type 0 where
  pub masked : Masked t (k + end_at) w
  pub long : info / more_field % 256 ≡ length w

-- at a place stands w, and i is the place after it
pub record Closed (t : List ℕ) (k info : ℕ) (s : List ℕ) (end i : ℕ) : Type 0 where
  pub is : (w : List ℕ) → Ends t k info w → drop end s ≡ w ++ drop i s

-- four letters at a place are one of the words of a node
pub record Listed (t : List ℕ) (k : ℕ) (s : List ℕ) (at : ℕ) : Type 0 where
  pub number : ℕ
  pub loaded : Loaded letters s at number
  pub is : (((number ≡ get_or t (k + words_at) 0 % upper) ⊎ (number ≡ get_or t (k + words_at) 0 / upper)) ⊎ (number ≡ get_or t (k + more_words) 0 % upper)) ⊎ (number ≡ get_or t (k + more_words) 0 / upper)

-- a currency, a quote and `>` at a place
pub record Coined (q : ℕ) (s : List ℕ) (at : ℕ) : Type 0 where
  pub currency : List ℕ
  pub ccy : Ccy currency
  pub is : drop at s ≡ currency ++ (q ∷ greater ∷ drop (at + coined_long) s)

-- the text of a leaf at a place, and its closing tag w after it: what is passed ends at i and has n bytes of the image
pub record Texted (f : Leaf) (cur w s : List ℕ) (at i n : ℕ) : Type 0 where
  pub raw : List ℕ
  pub bytes : List ℕ
  pub is : drop at s ≡ raw ++ (w ++ drop i s)
  pub took : Took f cur raw bytes
  pub size : n ≡ suc (length bytes)

-- by the number of its kind, and k of TXTk
abbrev pub Texts : List ℕ → ℕ → ℕ → ℕ → List ℕ → ℕ → ℕ → ℕ → Type 0
Texts t k info kind s at i n =
    (f : Leaf) (cur w : List ℕ) → code f ≡ kind → kind ≢ code (enum []) → Given f (info / most_field % 256) 0 → (kind ≡ code amt → Ccy cur) → Ends t k info w → Texted f cur w s at i n

-- the same with what is left of its opening tag before it
pub record Told (f : Leaf) (h : Option Quote) (w s : List ℕ) (at i n : ℕ) : Type 0 where
  pub rest : List ℕ
  pub currency : List ℕ
  pub head : Head h rest currency
  pub from : ℕ
  pub is : drop at s ≡ rest ++ drop from s
  pub text : Texted f currency w s from i n

-- of the leaf of a node
abbrev pub Tells : List ℕ → ℕ → List ℕ → ℕ → ℕ → ℕ → Type 0
Tells t k s at i n = (x : Node) (f : Leaf) (h : Option Quote) → x.sort ≡ leaf f h → Kept (drop k t) x → Told f h x.close s at i n

-- the first sixteen bytes of a tag, and the tag
abbrev pub Stood : Node → List ℕ → ℕ → Type 0
Stood x s at = drop at s ≡ take chunk x.tag ++ drop (at + length (take chunk x.tag)) s

-- a node's tag stands at a place: what is passed with it ends at i and has n bytes of the image
abbrev pub Turned : Sort → Node → List ℕ → ℕ → ℕ → ℕ → Type 0
Turned over x s at i n = (drop at s ≡ x.tag ++ drop i s) × All is_blank (drop i s) × (n ≡ 1)
Turned shut x s at i n = (drop at s ≡ x.tag ++ drop i s) × (n ≡ 0)
Turned group x s at i n = (drop at s ≡ x.tag ++ drop i s) × (n ≡ 1)
Turned (leaf f h) x s at i n = (a : ℕ) × (drop at s ≡ x.tag ++ drop a s) × Told f h x.close s a i n

abbrev pub Turns : List ℕ → ℕ → List ℕ → ℕ → ℕ → ℕ → Type 0
Turns t k s at i n = (x : Node) → Kept (drop k t) x → Stood x s at → Turned x.sort x s at i n

-- up to a place end, after which comes what is compared last
abbrev pub Goes : List ℕ → ℕ → ℕ → List ℕ → ℕ → ℕ → ℕ → Type 0
Goes t k info s at end m = (i n : ℕ) → Closed t k info s end i → n ≡ m → Turns t k s at i n
