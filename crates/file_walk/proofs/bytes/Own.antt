-- The attributes of a tag, by the places of its token, are judged as the definition judges them. Assumes nothing.
use mathlib.Core.Path.{◌≡◌, refl, sym, ◌∙◌, ap, ap₂, subst}
use mathlib.Core.Bool.{Bool, true, cond, ◌&&◌, false≢true}
use mathlib.Core.List.{List, [], ◌∷◌}
use Prim.Native.Nat.{ℕ, zero, suc, ◌≤◌, ◌<◌}
use native.Mathlib.Omega.{arith}
use lib.Dec.{eqb}
use lib.ListN.{length}
use lib.Seq.{slice}
use borrow.Author.Tests.{eq-eqb, ne_eqb}
use Rattle.text.specs.Bytes.{ascii, is_capital, is_unmarked}
use Rattle.text.specs.Lists.{All, same}
use Rattle.text_characters.specs.Pieces.{Spells}
use Rattle.text.proofs.Classes.{and_is, capital, is_in, yes}
use Rattle.text_characters.proofs.Unmarked.{unmarked, unmarked_is, unmarked_same}
use Rattle.list.specs.Listing.{ccy, row_at}
use Rattle.list.specs.tables.Table.{cell, kind_of, words_in, list_of}
use Rattle.list.proofs.rows.Rows.{kind_is}
use Rattle.value.specs.mirror.Judges.{is_currency}
use Rattle.value.proofs.stored.texts.Codes.{currency_exactly}
use Rattle.xml.specs.Message.{Attrs}
use Rattle.xml_tags.specs.declared.attribute.Attribute.{Attribute}
use Rattle.xml_tags.specs.declared.token.Token.{Token}
use Rattle.xml_tags.specs.Story.{attribute_in, Finds, Tagged}
use Rattle.file_walk.specs.Types.{Judge}
use Rattle.file_walk.specs.First.{is_empty, currency_given, attrs_ok}
use Rattle.file_walk.specs.mirror.Machine.{Verdict, one_currency, judge_by}
use Rattle.file_walk.proofs.violation.Answers.{iff_same}
use Rattle.file_walk.specs.mirror.Stride.{named, own_in}

-- a currency by its raw bytes: three capitals spell themselves
pub record Coins (j : Judge) : Type 0 where
  pub ccy : (s w : List ℕ) → Spells s w → is_currency s ≡ j.value ccy [] w

module _ (j : Verdict) where
  -- AMT alone has one
  attrs_code : (c k : ℕ) (ws : List (List ℕ)) (ats : Attrs) → attrs_ok (judge_by j) (kind_of c k ws) ats ≡ cond (eqb c 9) (one_currency j ats) (is_empty ats)
  attrs_code zero k ws ats = refl
  attrs_code (suc zero) k ws ats = refl
  attrs_code (suc (suc zero)) k ws ats = refl
  attrs_code (suc (suc (suc zero))) k ws ats = refl
  attrs_code (suc (suc (suc (suc zero)))) k ws ats = refl
  attrs_code (suc (suc (suc (suc (suc zero))))) k ws ats = refl
  attrs_code (suc (suc (suc (suc (suc (suc zero)))))) k ws ats = refl
  attrs_code (suc (suc (suc (suc (suc (suc (suc zero))))))) k ws ats = refl
  attrs_code (suc (suc (suc (suc (suc (suc (suc (suc zero)))))))) k ws ats = refl
  attrs_code (suc (suc (suc (suc (suc (suc (suc (suc (suc zero))))))))) k ws ats = refl
  attrs_code (suc (suc (suc (suc (suc (suc (suc (suc (suc (suc zero)))))))))) k ws ats = refl
  attrs_code (suc (suc (suc (suc (suc (suc (suc (suc (suc (suc (suc zero))))))))))) k ws ats = refl
  attrs_code (suc (suc (suc (suc (suc (suc (suc (suc (suc (suc (suc (suc c)))))))))))) k ws ats =
      ap (λ (b : Bool). cond b (one_currency j ats) (is_empty ats)) (sym (ne_eqb (suc (suc (suc (suc (suc (suc (suc (suc (suc (suc (suc (suc c)))))))))))) 9 (λ e. omega arith)))

  none_by : (ats : Attrs) (n : ℕ) → n ≡ length ats → eqb n 0 ≡ is_empty ats
  none_by [] n e = eq-eqb n 0 e
  none_by (a ∷ ats) n e = ne_eqb n 0 (λ z. omega arith)

  module _ (m : Coins (judge_by j)) (s : List ℕ) (o : ℕ) where
    one_by : (ats : Attrs) (n : ℕ) → n ≡ length ats → Finds s o ats
        → (eqb n 1 && (named (ascii "Ccy") s (attribute_in s o).name (attribute_in s o).stop && is_currency (slice (attribute_in s o).value (attribute_in s o).quote s))) ≡ one_currency j ats
    unfolding named
    one_by [] n e f = rw (ne_eqb n 1 (λ z. omega arith))
    one_by (a ∷ []) n e f =
        rw (eq-eqb n 1 e) (ap₂ ◌&&◌ (ap (same (ascii "Ccy")) f.0) (m.ccy (slice (attribute_in s o).value (attribute_in s o).quote s) a.1 f.1))
    one_by (a ∷ b ∷ ats) n e f = rw (ne_eqb n 1 (λ z. omega arith))

  -- for a row of the tables
  pub own_is : (t pool s : List ℕ) (r : ℕ) → 0 < r → r ≤ cell t 0 0 → Coins (judge_by j) → (k : Token) (n : List ℕ) (ats : Attrs) → Tagged s k n ats
      → own_in t s r k.attributes k.first ≡ attrs_ok (judge_by j) (row_at (list_of t pool) r).kind ats
  unfolding own_in
  own_is t pool s r a b m k n ats g =
      ap (λ (x : Attribute). cond (eqb (cell t r 2) 9) (eqb k.attributes 1 && (named (ascii "Ccy") s x.name x.stop && is_currency (slice x.value x.quote s))) (eqb k.attributes 0)) g.first
      ∙ ap₂ (λ (x y : Bool). cond (eqb (cell t r 2) 9) x y) (one_by m s k.stop ats k.attributes g.count g.attributes) (none_by ats k.attributes g.count)
      ∙ sym (attrs_code (cell t r 2) (cell t r 3) (words_in t pool r) ats)
      ∙ ap (λ x. attrs_ok (judge_by j) x ats) (sym (kind_is t pool r a b))

-- ---- three capitals

capital_own : (x : ℕ) → is_capital x ≡ true → is_unmarked x ≡ true
capital_own x e = let w = is_in capital x e in sym (yes unmarked 65 26 refl w.0 (omega (arith, w.1)))

all_own : (cs : List ℕ) → All is_capital cs → All is_unmarked cs
all_own [] a = tt
all_own (x ∷ cs) a = (capital_own x a.0, all_own cs a.1)

currency_unmarked : (cs : List ℕ) → is_currency cs ≡ true → All is_unmarked cs
currency_unmarked cs e = all_own cs ((currency_exactly cs).0 e).capitals

-- an amount's one attribute: its raw bytes are three capitals, and its characters are those
pub coined : (j : Verdict) (m : Coins (judge_by j)) (s : List ℕ) (k : Token) (n : List ℕ) (ats : Attrs) → Tagged s k n ats → one_currency j ats ≡ true
    → (is_currency (slice k.first.value k.first.quote s) ≡ true) × (currency_given ats ≡ slice k.first.value k.first.quote s)
coined j m s k n [] g e = absurd (false≢true e)
coined j m s k n (a ∷ []) g e =
    let w : Spells (slice k.first.value k.first.quote s) a.1 =
    subst (λ (x : Attribute). Spells (slice x.value x.quote s) a.1) (sym g.first) g.attributes.1 in
    let c : is_currency (slice k.first.value k.first.quote s) ≡ true = m.ccy _ a.1 w ∙ (and_is (same (ascii "Ccy") a.0) _ e).1 in
    (c, (unmarked_same (slice k.first.value k.first.quote s) (slice k.first.value k.first.quote s) a.1 (currency_unmarked _ c) w).0 refl)
coined j m s k n (a ∷ b ∷ ats) g e = absurd (false≢true e)

-- three capitals are written in one way only, so it is enough to know which characters are a currency
pub coins_of : (j : Judge) → ((w : List ℕ) → is_currency w ≡ j.value ccy [] w) → Coins j
coins_of j f = record { ccy = λ s w x. same_as s w x ∙ f w }
  where
    same_as : (s w : List ℕ) → Spells s w → is_currency s ≡ is_currency w
    same_as s w x = iff_same (is_currency s) (is_currency w)
        (λ e. subst (λ (cs : List ℕ). is_currency cs ≡ true) (sym ((unmarked_same s s w (currency_unmarked s e) x).0 refl)) e)
        (λ e. subst (λ (cs : List ℕ). is_currency cs ≡ true) (sym (unmarked_is s w x (currency_unmarked w e))) e)
