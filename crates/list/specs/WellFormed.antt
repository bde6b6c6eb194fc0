-- What a well-formed list keeps to, rule by rule in document 01's order. Assumes nothing.
use Rattle.std.specs.Prelude.{◌≡◌, true, ◌≢◌, ◌⊎◌, List, [], ◌∷◌, ℕ, ◌≤◌, ◌<◌, length}
use Rattle.text.specs.Bytes.{is_capital, is_name_start, is_name_part, is_unmarked}
use Rattle.text.specs.Lists.{Each, All, Begins}
use Rattle.list.specs.Listing.{Leaf, ref, iban, ccy, bool, num, amt, date, dtm, txt, enum, Kind, group, choice, leaf, one, optional, alternative, Rule, both, Listing, size, row_at, Child, is_group, up}

-- a text that is none of those
abbrev pub Fresh : List ℕ → List (List ℕ) → Type 0
Fresh w vs = Each (λ v. w ≢ v) vs

abbrev pub Different : List (List ℕ) → Type 0
Different [] = Unit {0}
Different (w ∷ ws) = Fresh w ws × Different ws

-- "each ENUM one to 255 different words of capitals"; "k at most 140", and from 1, for TXT0 would have no value
abbrev pub LeafOk : Leaf → Type 0
LeafOk ref = Unit {0}
LeafOk iban = Unit {0}
LeafOk ccy = Unit {0}
LeafOk bool = Unit {0}
LeafOk num = Unit {0}
LeafOk amt = Unit {0}
LeafOk date = Unit {0}
LeafOk dtm = Unit {0}
LeafOk (txt k) = (1 ≤ k) × (k ≤ 140)
LeafOk (enum ws) = ((1 ≤ length ws) × (length ws ≤ 255)) × Each (Begins is_capital is_capital) ws × Different ws

abbrev pub KindOk : Kind → Type 0
KindOk group = Unit {0}
KindOk choice = Unit {0}
KindOk (leaf k) = LeafOk k

-- a rule's two rows are children of its group, a sequence in which both may be absent, and neighbours there
pub record BothOk (l : Listing) (g a b : ℕ) : Type 0 where
  pub left : Child l g a
  pub right : Child l g b
  pub order : a < b
  pub sequence : (row_at l g).kind ≡ group
  pub counts : ((row_at l a).count ≡ optional) × ((row_at l b).count ≡ optional)
  pub next : (s : ℕ) → Child l g s → a < s → s < b → ⊥

abbrev pub RuleOk : Listing → Rule → Type 0
RuleOk l (both g a b) = BothOk l g a b

pub record WellFormed (l : Listing) : Type 0 where
  -- "at most 255 rows and 16 levels"
  pub bytes : size l ≤ 255
  pub levels : (r : ℕ) → r ≤ size l → up l 16 r ≡ 0
  -- "row 1 the only root, a group"; it comes once
  pub root : (0 < size l) × ((row_at l 1).kind ≡ group) × ((row_at l 1).parent ≡ 0) × ((row_at l 1).count ≡ one)
  pub one_root : (r : ℕ) → Child l 0 r → r ≡ 1
  -- "parents before children, the parents exactly the groups and choices"
  pub before : (p r : ℕ) → Child l p r → p < r
  pub parents : (p r : ℕ) → Child l p r → 0 < p → is_group (row_at l p).kind ≡ true
  pub filled : (p r : ℕ) → Child l p r → is_group (row_at l r).kind ≡ true → (q : ℕ) × Child l r q
  -- "names by the XML rules below, different among siblings"; a row that no file may have any more has none, but the root has one
  pub names : (p r : ℕ) → Child l p r → ((row_at l r).name ≡ []) ⊎ Begins is_name_start is_name_part (row_at l r).name
  pub root_name : Begins is_name_start is_name_part (row_at l 1).name
  pub apart : (p r q : ℕ) → Child l p r → Child l p q → (row_at l r).name ≡ (row_at l q).name → r ≡ q
  -- "counts of the four forms used here, none within a choice"
  pub counted : (p r : ℕ) → Child l p r → (row_at l p).kind ≡ group → (row_at l r).count ≢ alternative
  pub uncounted : (p r : ℕ) → Child l p r → (row_at l p).kind ≡ choice → (row_at l r).count ≡ alternative
  pub kinds : (p r : ℕ) → Child l p r → KindOk (row_at l r).kind
  pub rules : Each (RuleOk l) l.rules
  -- the namespace is written in one way only, so that it can be compared as it stands
  pub space : All is_unmarked l.space
  -- "a kind byte": a number of one byte
  pub byte : (1 ≤ l.byte) × (l.byte ≤ 255)
