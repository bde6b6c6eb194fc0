-- The message of the tree that is written for a content has that content. Assumes nothing.
use mathlib.Core.Path.{◌≡◌, refl, sym, ◌∙◌, ap, ap₂, subst}
use mathlib.Core.Bool.{Bool, true, false, cond}
use mathlib.Core.List.{List, [], ◌∷◌}
use Prim.Native.Nat.{ℕ, ◌+◌}
use native.Mathlib.Omega.{arith}
use lib.Dec.{eqb}
use lib.ListN.{length}
use borrow.Author.Tests.{eqb-true}
use Rattle.text.specs.Bytes.{ascii}
use Rattle.text.specs.Lists.{Each, same}
use Rattle.text_characters.specs.Pieces.{char, entity, amp, lt, gt, spell, resolved, resolved_all}
use Rattle.list.specs.Listing.{Leaf, Kind, group, choice, leaf, Listing, row_at, Child}
use Rattle.list.specs.WellFormed.{WellFormed}
use Rattle.list.specs.Content.{Content, end, value, node, rows, Good, Meets, ValueOf}
use Rattle.value.specs.parts.Former.{present}
use Rattle.value.specs.Rules.{InThousandths}
use Rattle.value.specs.Value.{Value, text, place, truth, natural, amount, day, moment, IsValue, Spelt}
use Rattle.xml.specs.Message.{attrs_of, parts_of, message_of}
use Rattle.file_walk.specs.First.{text_of, currency_given}
use Rattle.file_walk.specs.Types.{LeafAttrs, priced, unpriced}
use Rattle.file_walk.specs.Denotes.{Denotes, Has}
use Rattle.file_walk.proofs.violation.Attrs.{root_tag}
use Rattle.file_walk.proofs.violation.Spells.{plain, Spells, of_spells}
use Rattle.file.specs.Instance.{house_types}
use Rattle.value.specs.script.Script.{script_of, currency_of}
use Rattle.value.specs.script.Raw.{piece_of}
use Rattle.file_letter.proofs.tree.Trees.{plainly, tree_of}
use Rattle.file_letter.specs.Letter.{text_in, attr_of, coin_of, words_in, tree_in}
use Rattle.value.specs.Spelled.{Spelled}
use Rattle.value.proofs.script.Scripts.{script_spelt, present_spelt}
use Rattle.file_letter.proofs.Meeting.{said_is}

-- ---- texts

pub one_piece : (c : ℕ) → resolved (piece_of c) ≡ c
one_piece c = go (eqb c 38) refl
  where
    last : (b : Bool) → eqb c 62 ≡ b → resolved (cond b (entity gt) (char c)) ≡ c
    last true e = sym (eqb-true c 62 e)
    last false e = refl

    then : (b : Bool) → eqb c 60 ≡ b → resolved (cond b (entity lt) (cond (eqb c 62) (entity gt) (char c))) ≡ c
    then true e = sym (eqb-true c 60 e)
    then false e = last (eqb c 62) refl

    go : (b : Bool) → eqb c 38 ≡ b → resolved (cond b (entity amp) (cond (eqb c 60) (entity lt) (cond (eqb c 62) (entity gt) (char c)))) ≡ c
    go true e = sym (eqb-true c 38 e)
    go false e = then (eqb c 60) refl

text_is : (cs : List ℕ) (o : ℕ) → text_of (parts_of o (text_in cs)) ≡ cs
text_is [] o = refl
text_is (c ∷ cs) o = ap₂ ◌∷◌ (one_piece c) (text_is cs (o + length (spell (piece_of c))))

plain_is : (cs : List ℕ) (o : ℕ) → plain (parts_of o (text_in cs)) ≡ true
plain_is [] o = refl
plain_is (c ∷ cs) o = plain_is cs (o + length (spell (piece_of c)))

plainly_is : (cs : List ℕ) → resolved_all (plainly cs) ≡ cs
plainly_is [] = refl
plainly_is (c ∷ cs) = ap (λ (u : List ℕ). c ∷ u) (plainly_is cs)

-- the characters of the currency that is written
abbrev pub coin : Value → List ℕ
coin v = currency_given (attrs_of (coin_of v))

coin_is : (v : Value) → coin v ≡ currency_of v
coin_is (text cs) = refl
coin_is (place n) = refl
coin_is (truth b) = refl
coin_is (natural n) = refl
coin_is (amount w k c) = plainly_is w
coin_is (day y m d) = refl
coin_is (moment y mo d h mi s u z) = refl

-- the text that is written for a value spells it, with the attributes that are written
pub written_spelt : (f : Leaf) (v : Value) → IsValue f v → InThousandths v → Spelt f (coin v) (script_of f v) v
written_spelt f v h q = subst (λ (w : List ℕ). Spelt f w (script_of f v) v) (sym (coin_is v)) (script_spelt f v h q)

-- an amount has the one attribute Ccy, of type CCY, another leaf has none
attrs_ok_lem : (f : Leaf) (v : Value) → IsValue f v → LeafAttrs house_types f (attrs_of (coin_of v))
attrs_ok_lem f v (IsValue.reference r) = unpriced (λ e. let z : ◌≡◌ {A = ℕ} 0 1 = cc in omega arith) refl
attrs_ok_lem f v (IsValue.writing r) = unpriced (λ e. let z : ◌≡◌ {A = ℕ} 0 1 = cc in omega arith) refl
attrs_ok_lem f v (IsValue.account r) = unpriced (λ e. let z : ◌≡◌ {A = ℕ} 0 1 = cc in omega arith) refl
attrs_ok_lem f v (IsValue.currency r) = unpriced (λ e. let z : ◌≡◌ {A = ℕ} 0 1 = cc in omega arith) refl
attrs_ok_lem f v (IsValue.listed a b) = unpriced (λ e. let z : ◌≡◌ {A = ℕ} 0 1 = cc in omega arith) refl
attrs_ok_lem f v IsValue.either = unpriced (λ e. let z : ◌≡◌ {A = ℕ} 0 1 = cc in omega arith) refl
attrs_ok_lem f v (IsValue.count h) = unpriced (λ e. let z : ◌≡◌ {A = ℕ} 0 1 = cc in omega arith) refl
attrs_ok_lem f v (IsValue.money {w = w} c b) =
    priced refl w (text w) (record { is = IsValue.currency c; wording = refl }) (ap (λ (u : List ℕ). (ascii "Ccy", u) ∷ []) (plainly_is w))
attrs_ok_lem f v (IsValue.dated r) = unpriced (λ e. let z : ◌≡◌ {A = ℕ} 0 1 = cc in omega arith) refl
attrs_ok_lem f v (IsValue.timed p) = unpriced (λ e. let z : ◌≡◌ {A = ℕ} 0 1 = cc in omega arith) refl

-- a whole content is a root with what is in it
pub record Rooted (c : Content Value) : Type 0 where
  pub kids : Content Value
  pub is : c ≡ node 1 kids end

none_behind : (k : Content Value) → rows k ≡ [] → k ≡ end
none_behind end e = refl
none_behind (value r v k) e = absurd (omega (arith, ap length e))
none_behind (node r c k) e = absurd (omega (arith, ap length e))

-- what the first of two equal lists is
first_of_lem : (x y : ℕ) (s t : List ℕ) → x ∷ s ≡ y ∷ t → x ≡ y
first_of_lem x y s t e = cc

rest_of : (x y : ℕ) (s t : List ℕ) → x ∷ s ≡ y ∷ t → s ≡ t
rest_of x y s t e = cc

module _ (l : Listing) (wf : WellFormed l) where
  rooted_by_lem : (c : Content Value) → rows c ≡ 1 ∷ [] → Good IsValue l c → Rooted c
  rooted_by_lem end e g = absurd (omega (arith, ap length e))
  rooted_by_lem (value r v k) e g =
      let i = first_of_lem r 1 (rows k) [] e in
      absurd (subst (λ (x : Kind). ValueOf IsValue l x v) (ap (λ (x : ℕ). (row_at l x).kind) i ∙ wf.root.1) g.0)
  rooted_by_lem (node r c k) e g =
      let i = first_of_lem r 1 (rows k) [] e in
      let j = none_behind k (rest_of r 1 (rows k) [] e) in
      record { kids = c; is = ap₂ (λ (x : ℕ) (z : Content Value). node x c z) i j }

  pub rooted : (c : Content Value) → Meets IsValue l c → Rooted c
  rooted c m = rooted_by_lem c m.root m.good

  spells : (k : Kind) (v : Value) (o : ℕ) → ValueOf (Spelled present) l k v → Spells house_types l k (attrs_of (coin_of v)) (parts_of o (text_in (words_in k v))) v
  spells group v o h = absurd h
  spells choice v o h = absurd h
  spells (leaf f) v o h =
      let i = (present_spelt f v).1 h in
      (plain_is (script_of f v) o, attrs_ok_lem f v i.0, subst (λ (u : List ℕ). Spelt f (coin v) u v) (sym (text_is (script_of f v) o)) (written_spelt f v i.0 i.1))

  denotes : (c : Content Value) (p o : ℕ) → Each (Child l p) (rows c) → Good (Spelled present) l c → Denotes house_types l p (parts_of o (tree_in l [] c)) c
  denotes end p o a g = tt
  denotes (value r v k) p o a g =
      ((a.0, refl), of_spells house_types l r (attrs_of (coin_of v)) (parts_of _ (text_in (words_in (row_at l r).kind v))) v (row_at l r).kind refl (spells (row_at l r).kind v _ g.0), denotes k p _ a.1 g.1)
  denotes (node r c k) p o a g =
      ((a.0, refl), (g.0.0, refl), denotes c r _ g.0.1.theirs g.1, denotes k p _ a.1 g.2)

  -- the message of the written tree has the content
  pub letter_has : (c : Content Value) → Meets (Spelled present) l c → Has house_types l (message_of (tree_of l c)) c
  unfolding same
  letter_has c m =
      let w = rooted c (said_is l c m) in
      let kids = w.kids in
      subst (λ (x : Content Value). Has house_types l (message_of (tree_of l x)) x) (sym w.is) (
      let g : Good (Spelled present) l (node 1 kids end) = subst (Good (Spelled present) l) w.is m.good in
      record {
        root = (root_tag l (row_at l 1).name (attrs_of (attr_of (ascii "xmlns") l.space ∷ []))).1 (record { name = refl; attrs = record { besides = ap (λ (u : List ℕ). (ascii "xmlns", u) ∷ []) (plainly_is l.space); tied = refl } });
        alone = refl;
        kids = kids;
        is = refl;
        parts = denotes kids 1 _ g.0.1.theirs g.1;
      })
