-- Values in quotes, piece by piece, and words that stand for themselves. Assumes nothing.
use mathlib.Core.Path.{◌≡◌, refl, sym, ◌∙◌, ap, subst}
use mathlib.Core.Bool.{true, false, true≢false}
use mathlib.Core.Logic.{◌≢◌}
use mathlib.Core.List.{List, [], ◌∷◌, ◌++◌, head-eq_of_cons-eq}
use Prim.Native.Nat.{ℕ, suc, ◌+◌, ◌<◌}
use native.Mathlib.Omega.{arith}
use lib.ListN.{length, get_or, drop, take-append-drop}
use lib.Seq.{drop-drop, drop-cons}
use Rattle.text.specs.Bytes.{ascii, is_unmarked}
use Rattle.text.specs.Lists.{Each, All}
use Rattle.text.specs.Words.{starts}
use Rattle.text.proofs.Parts.{starts_is}
use Rattle.text_characters.specs.Pieces.{Piece, char, GoodPiece, spell, spells, resolved, resolved_all}
use Rattle.text_characters.proofs.Decoding.{encode1}
use Rattle.text_characters.proofs.Resolving.{XmlChar, xml_char_yes, piece_some}
use Rattle.text_characters.proofs.Unmarked.{unmarked_own}
use Rattle.list.specs.Listing.{Listing}
use Rattle.list.specs.Within.{Among}
use Rattle.list_house.specs.House.{house, report, stored_house, stored_report}
use Rattle.list_house.specs.Lists.{asked}
use Rattle.list_house.proofs.Lists.{asked_well}
use Rattle.xml.specs.House.{Quote, single_quote, double, mark, GoodValue}
use Rattle.xml_pieces.specs.Over.{Over}
use Rattle.xml_pieces.specs.Kinds.{IsPiece}
use Rattle.std.specs.Prelude.{Option, Some, None, is_some, IfSome, Result, Ok, Err}
use Rattle.std.specs.Result.{result_ok}
use Rattle.xml_pieces.specs.declared.Stopped.{Stopped}
use Rattle.file_front.specs.declared.attributes.Carried.{Carried}
use Rattle.file_front.specs.mirror.Spaces.{house_space, report_space}
use Rattle.file_front.specs.mirror.Values.{Quotes, Worded, Plain, Pieced, Passed, Valued, Quoted}
use Rattle.file_front.specs.mirror.Attributes.{spaced, Gains}
use Rattle.file_front.proofs.Joining.{joined_more, each_more, stands_on}

pub quotes_double : (x : ℕ) → x ≡ 34 → Quotes x
quotes_double x e = record { quote = double; is = e }

pub quotes_single : (x : ℕ) → x ≡ 39 → Quotes x
quotes_single x e = record { quote = single_quote; is = e }

low : (q : Quote) → mark q < 128
low single_quote = omega arith
low double = omega arith

-- ---- one piece

pub plain_piece : (s : List ℕ) (i : ℕ) → i < length s → Plain (get_or s i 0) → Pieced s i (i + 1)
plain_piece s i h p =
    let x : ℕ = get_or s i 0 in
    let n : suc i ≡ i + 1 = omega arith in
    record {
      piece = char x;
      good = (xml_char_yes x (XmlChar.low (omega (arith, p.low)) (omega (arith, p.high))), p.marks.1, p.marks.0);
      is = drop-cons s i 0 h ∙ ap (λ (k : ℕ). x ∷ drop k s) n ∙ ap (λ (y : List ℕ). y ++ drop (i + 1) s) (sym (encode1 x (omega (arith, p.high))));
    }

pub over_piece : (s : List ℕ) (i : ℕ) (r : Result ℕ Stopped) → Over IsPiece (drop i s) i r → (j : ℕ) → r ≡ Ok j → Pieced s i j
over_piece s i r g j t =
    let over : Over IsPiece (drop i s) i (Ok j) = subst (λ (z : Result ℕ Stopped). Over IsPiece (drop i s) i z) t g in
    let x = over.2.is in
    record {
      piece = x.piece;
      good = x.good;
      is = sym (take-append-drop over.0 (drop i s)) ∙ ap (λ (y : List ℕ). y ++ drop over.0 (drop i s)) x.is
          ∙ ap (λ (y : List ℕ). spell x.piece ++ y) (drop-drop over.0 i s ∙ ap (λ (k : ℕ). drop k s) (sym over.1));
    }

-- where it is one
pub over_ok : (s : List ℕ) (i : ℕ) (r : Result ℕ Stopped) → Over IsPiece (drop i s) i r → IfSome (result_ok r) (λ j. Pieced s i j)
over_ok s i (Ok j) g = over_piece s i (Ok j) g j refl
over_ok s i (Err e) g = tt

pub piece_on : (s : List ℕ) (i j : ℕ) → Pieced s i j → i < j
piece_on s i j x = (stands_on s i j (spell x.piece) x.is (piece_some x.piece)).0

-- ---- the loop over a value

pub passed_none : (s : List ℕ) (at m : ℕ) → Passed s at m at
passed_none s at m = record { value = []; good = tt; is = refl }

module _ (s : List ℕ) (at m i : ℕ) (q : Quotes m) (w : Passed s at m i) (h : i < length s) where
  pub passed_end : get_or s i 0 ≡ m → Valued s at m (i + 1)
  passed_end e =
      let n : suc i ≡ i + 1 = omega arith in
      record {
        value = w.value;
        good = w.good;
        is = w.is ∙ ap (λ (d : List ℕ). spells w.value ++ d) (drop-cons s i 0 h ∙ ap (λ (x : ℕ). x ∷ drop (suc i) s) e ∙ ap (λ (k : ℕ). m ∷ drop k s) n);
      }

  pub passed_more : get_or s i 0 ≢ m → (j : ℕ) → Pieced s i j → Passed s at m j
  passed_more f j x =
      let v : List Piece = w.value in
      let p : Piece = x.piece in
      let other : p ≢ char m =
      λ z. f (head-eq_of_cons-eq (sym (drop-cons s i 0 h) ∙ x.is ∙ ap (λ (y : Piece). spell y ++ drop j s) z
      ∙ ap (λ (y : List ℕ). y ++ drop j s) (encode1 m (omega (arith, q.is, low q.quote)))))
      in
      record {
        value = v ++ (p ∷ []);
        good = each_more (λ (y : Piece). GoodPiece y × (y ≢ char m)) v p w.good (x.good, other);
        is = w.is ∙ ap (λ (d : List ℕ). spells v ++ d) x.is ∙ sym (joined_more spell spells refl (λ y ys. refl) v p (drop j s));
      }

-- ---- with its quotes

pub quoted_by : (s : List ℕ) (at r : ℕ) → at < length s → Quotes (get_or s at 0) → Valued s (at + 1) (get_or s at 0) r → Quoted s at r
quoted_by s at r h q v =
    let n : suc at ≡ at + 1 = omega arith in
    record {
      quote = q.quote;
      value = v.value;
      good = subst (λ (x : ℕ). Each (λ (p : Piece). GoodPiece p × (p ≢ char x)) v.value) q.is v.good;
      is = drop-cons s at 0 h ∙ ap (λ (k : ℕ). get_or s at 0 ∷ drop k s) n ∙ ap (λ (d : List ℕ). get_or s at 0 ∷ d) v.is
          ∙ ap (λ (x : ℕ). x ∷ (spells v.value ++ (x ∷ drop r s))) q.is;
    }

-- ---- a word, whose characters are written in one way only

marked : (q : Quote) → is_unmarked (mark q) ≡ false
unfolding is_unmarked
marked single_quote = refl
marked double = refl

own_good : (q : Quote) (ps : List Piece) → Each GoodPiece ps → All is_unmarked (resolved_all ps) → GoodValue q ps
own_good q [] g h = tt
own_good q (p ∷ ps) g h = ((g.0, λ e. true≢false (sym h.0 ∙ ap (λ (x : Piece). is_unmarked (resolved x)) e ∙ marked q)), own_good q ps g.1 h.1)

pub worded_by : (w s : List ℕ) (at from end : ℕ) → at < length s → Quotes (get_or s at 0) → from ≡ at + 1 → starts w (drop from s) ≡ true → end ≡ from + length w → end < length s
    → get_or s end 0 ≡ get_or s at 0 → Worded w s at (end + 1)
worded_by w s at from end h q a z e i k =
    let f : suc at ≡ from = omega (arith, a) in
    let g : suc end ≡ end + 1 = omega arith in
    let m : ℕ = mark q.quote in
    let first : drop at s ≡ m ∷ drop from s = drop-cons s at 0 h ∙ ap (λ (x : ℕ). x ∷ drop (suc at) s) q.is ∙ ap (λ (j : ℕ). m ∷ drop j s) f in
    let last : drop end s ≡ m ∷ drop (end + 1) s = drop-cons s end 0 i ∙ ap (λ (x : ℕ). x ∷ drop (suc end) s) (k ∙ q.is) ∙ ap (λ (j : ℕ). m ∷ drop j s) g in
    record {
      quote = q.quote;
      is = first ∙ ap (λ (d : List ℕ). m ∷ d)
          (starts_is w (drop from s) z ∙ ap (λ (d : List ℕ). w ++ d) (drop-drop (length w) from s ∙ ap (λ (j : ℕ). drop j s) (sym e) ∙ last));
    }

pub none_is : (o : Option ℕ) → is_some o ≡ false → o ≡ None
none_is (Some x) e = absurd (true≢false e)
none_is None e = refl

-- the namespace of a list
pub space_puts : (l : Listing) → Among l asked → (h s : List ℕ) → h ≡ l.space → (at : ℕ) (c d : Carried) → Worded h s at d.at → c.kind ≡ None → (b : ℕ) → d.kind ≡ Some b → b ≡ l.byte
    → d.prefix ≡ c.prefix → d.location ≡ c.location → Gains (ascii "xmlns") s at c d
space_puts l i h s e at c d w z b y k p o =
    let u : All is_unmarked h = subst (All is_unmarked) (sym e) (asked_well l i).space in
    let own = unmarked_own h u in
    let m : ℕ = mark w.quote in
    record {
      quoted = record {
        quote = w.quote;
        value = own.pieces;
        good = own_good w.quote own.pieces own.good (subst (All is_unmarked) own.chars u);
        is = w.is ∙ ap (λ (x : List ℕ). m ∷ (x ++ (m ∷ drop d.at s))) own.is;
      };
      notes = spaced refl z b y (record { list = l; among = i; kind = k; is = sym e ∙ own.chars }) p o;
    }

-- ---- the namespaces of the code

pub house_space_lem : house_space ≡ house.space
unfolding house_space house stored_house
house_space_lem = refl

pub report_space_lem : report_space ≡ report.space
unfolding report_space report stored_report
report_space_lem = refl
