-- Text between tags. Assumes nothing.
use mathlib.Core.Path.{◌≡◌, refl, sym, ◌∙◌, ap, subst}
use mathlib.Core.Bool.{Bool, true, false, cond, not, ◌&&◌}
use mathlib.Core.Logic.{◌≢◌}
use mathlib.Core.List.{List, [], ◌∷◌, ◌++◌}
use Prim.Native.Nat.{ℕ, suc, ◌+◌, ◌-◌, ◌≤◌, ◌<◌}
use native.Mathlib.Decide.{dec_lt}
use native.Mathlib.Omega.{arith}
use lib.Dec.{leb, eqb}
use lib.ListN.{length, get_or, drop, length-append}
use lib.Seq.{length-take-le}
use borrow.Author.Tests.{eq-eqb, ne_eqb, le-leb, leb-true, eqb-true}
use Rattle.text.specs.Lists.{span}
use Rattle.text.proofs.Classes.{and_is}
use Rattle.text.proofs.Spans.{span_le, span_go}
use Rattle.xml.specs.mirror.Auto.{Read, bad, all, more, lead, go_on, content, part, less, dead, at, content_next, next}
use Rattle.xml.proofs.Jump.{easy_next}
use Rattle.xml_scan.specs.mirror.Classes.{above}
use Rattle.xml_scan.specs.mirror.Goes.{fate, GoesOther, GoesText}
use Rattle.xml_pieces.specs.Over.{Over}
use Rattle.xml_pieces.specs.Kinds.{IsPiece, is_bracket, goes_on, over_row}
use Rattle.xml_scan.proofs.Classes.{above_easy}
use Rattle.xml_scan.proofs.Fate.{fate_end, fate_dead, fate_byte, fate_alike, fate_grow, run_within, run_behind, run_over}
use Rattle.xml_pieces.proofs.Rows.{row_is, row_next, row_end}
use Rattle.xml_scan.proofs.Passed.{hosted, Hosts, piece_goes}
use Rattle.xml_scan.proofs.Goes.{goes_stop}
use Rattle.std.specs.Prelude.{Result, Ok}
use Rattle.xml_pieces.specs.declared.Stopped.{Stopped}
use Rattle.xml_pieces.specs.Over.{stop}

and_no : (u : Bool) → (u && false) ≡ false
and_no true = refl
and_no false = refl

-- ---- the automaton at a byte of text

module _ (d : ℕ) (n : List ℕ) (ns : List (List ℕ)) where
  content_less : (x : ℕ) → x ≡ 60 → next (content 0 d n ns) x ≡ at (less d n ns)
  unfolding next
  content_less x e = rw e refl

  content_greater : (x : ℕ) → x ≡ 62 → next (content 0 d n ns) x ≡ at (content 0 d n ns)
  unfolding next lead
  content_greater x e = rw e refl

  content_bracket : (r x : ℕ) → is_bracket x ≡ true → next (content r d n ns) x ≡ at (content (suc r) d n ns)
  unfolding next lead
  content_bracket r x e = rw (eqb-true x 93 e) refl

  content_cut : (r x : ℕ) → 1 < r → x ≡ 62 → next (content r d n ns) x ≡ dead
  unfolding next
  content_cut r x h e = rw (e, le-leb 2 r h) refl

  -- brackets before a byte that ends their row without harm
  content_same : (r x : ℕ) → is_bracket x ≡ false → (eqb x 62 && leb 2 r) ≡ false → next (content r d n ns) x ≡ next (content 0 d n ns) x
  unfolding next
  content_same r x e f = rw (f, e, and_no (eqb x 62)) refl

  content_next_lem : (r : Read) → content_next r 0 d n ns ≡ hosted r (λ p. part p d n ns) (content 0 d n ns)
  content_next_lem bad = refl
  content_next_lem all = refl
  content_next_lem (more p) = refl

  content_hosts : Hosts (λ p. part p d n ns) (content 0 d n ns)
  unfolding next
  content_hosts = record { waits = λ p. refl; steps = λ p y. content_next_lem (go_on p y) }

  content_piece : (x : ℕ) → x ≢ 60 → x ≢ 62 → x ≢ 93 → next (content 0 d n ns) x ≡ hosted (lead x) (λ p. part p d n ns) (content 0 d n ns)
  unfolding next
  content_piece x e f g = rw (ne_eqb x 60 e, ne_eqb x 62 f, ne_eqb x 93 g) (content_next_lem (lead x))

-- ---- a row of brackets, and the other bytes that need thought

module _ (s : List ℕ) (i e : ℕ) (is : e ≡ i + span is_bracket (drop i s)) (h : i ≤ length s) where
  row : (d : ℕ) (n : List ℕ) (ns : List (List ℕ)) → fate s i (content 0 d n ns) ≡ fate s e (content (e - i) d n ns)
  row d n ns =
      fate_grow is_bracket (λ m. content (length m) d n ns) grows s [] i
      ∙ ap (λ (k : ℕ). fate s (i + span is_bracket (drop i s)) (content k d n ns)) (length-take-le (span is_bracket (drop i s)) (drop i s) (span_le is_bracket (drop i s)))
      ∙ ap (λ (k : ℕ). fate s k (content (span is_bracket (drop i s)) d n ns)) (sym is)
      ∙ ap (λ (k : ℕ). fate s e (content k d n ns)) count
    where
      count : span is_bracket (drop i s) ≡ e - i
      count = omega arith

      grows : (m : List ℕ) (x : ℕ) → is_bracket x ≡ true → next (content (length m) d n ns) x ≡ at (content (length (m ++ (x ∷ []))) d n ns)
      grows m x t =
          let l : suc (length m) ≡ length (m ++ (x ∷ [])) = omega (arith, length-append m (x ∷ [])) in
          content_bracket d n ns (length m) x t ∙ ap (λ (k : ℕ). at (content k d n ns)) l

  row_cut : length s ≤ e → GoesOther s i (stop e)
  row_cut k = λ d n ns. row d n ns ∙ fate_end s e (content (e - i) d n ns) k refl

  row_greater : e < length s → (eqb (get_or s e 0) 62 && leb 2 (e - i)) ≡ true → GoesOther s i (stop e)
  row_greater k l =
      let w = and_is (eqb (get_or s e 0) 62) (leb 2 (e - i)) l in
      λ d n ns. row d n ns ∙ fate_dead s e (content (e - i) d n ns) k (content_cut d n ns (e - i) (get_or s e 0) (leb-true 2 (e - i) w.1) (eqb-true (get_or s e 0) 62 w.0))

  row_on : i < e → e < length s → (eqb (get_or s e 0) 62 && leb 2 (e - i)) ≡ false → GoesOther s i (Ok e)
  row_on j k l =
      λ d n ns. (
        j,
        omega arith,
        row d n ns ∙ fate_alike s e (content (e - i) d n ns) (content 0 d n ns) refl
            (λ t. content_same d n ns (e - i) (get_or s e 0) (run_behind is_bracket s i e is h t) l),
      )

  row_over : i < e → GoesOther s i (over_row (drop i s) i)
  row_over j = subst (GoesOther s i) (sym (row_is s i e is)) (go (dec_lt e (length s)))
    where
      by : (k : e < length s) (b : Bool) → (eqb (get_or s e 0) 62 && leb 2 (e - i)) ≡ b → GoesOther s i (cond (not b) (Ok e) (stop e))
      by k true l = row_greater k l
      by k false l = row_on j k l

      go : Dec (e < length s) → GoesOther s i (cond (goes_on (e - i) (drop e s)) (Ok e) (stop e))
      go (yes k) = subst (λ (b : Bool). GoesOther s i (cond b (Ok e) (stop e))) (sym (row_next s i e is k)) (by k (eqb (get_or s e 0) 62 && leb 2 (e - i)) refl)
      go (no k) = subst (λ (b : Bool). GoesOther s i (cond b (Ok e) (stop e))) (sym (row_end s i e is (omega arith))) (row_cut (omega arith))

module _ (s : List ℕ) (i : ℕ) (h : i < length s) where
  pub other_greater : get_or s i 0 ≡ 62 → GoesOther s i (Ok (i + 1))
  other_greater e = λ d n ns. (omega arith, omega arith, fate_byte s i (content 0 d n ns) (content 0 d n ns) h (content_greater d n ns (get_or s i 0) e))

  pub other_row : get_or s i 0 ≡ 93 → (r : Result ℕ Stopped) → r ≡ over_row (drop i s) i → GoesOther s i r
  other_row e r f =
      subst (GoesOther s i) (sym f) (row_over s i (i + span is_bracket (drop i s)) refl (omega arith) (omega (arith, span_go is_bracket s i h (eq-eqb (get_or s i 0) 93 e))))

  pub other_piece : get_or s i 0 ≢ 60 → get_or s i 0 ≢ 62 → get_or s i 0 ≢ 93 → (r : Result ℕ Stopped) → Over IsPiece (drop i s) i r → GoesOther s i r
  other_piece e f g r k =
      λ d n ns. piece_goes s i r h k (content 0 d n ns) (λ p. part p d n ns) (content 0 d n ns) (content_hosts d n ns) (content_piece d n ns (get_or s i 0) e f g)

-- ---- the loop over text

pub record Texting (s : List ℕ) (at i : ℕ) : Type 0 where
  pub from : at ≤ i
  pub within : i ≤ length s
  pub so : (d : ℕ) (n : List ℕ) (ns : List (List ℕ)) → fate s at (content 0 d n ns) ≡ fate s i (content 0 d n ns)

pub texting_none : (s : List ℕ) (i : ℕ) → i ≤ length s → Texting s i i
texting_none s i h = record { from = omega arith; within = h; so = λ d n ns. refl }

module _ (s : List ℕ) (o i : ℕ) (t : Texting s o i) where
  pub texting_run : (j : ℕ) → j ≡ i + span (above 0) (drop i s) → Texting s o j
  texting_run j e =
      record {
        from = omega (arith, t.from);
        within = run_within (above 0) s i j e t.within;
        so = λ d n ns. t.so d n ns ∙ run_over (above 0) s i j e (content 0 d n ns) (λ x f. easy_next 0 d n ns x (above_easy x f));
      }

  pub text_cut : length s ≤ i → GoesText s o (stop i)
  text_cut h = λ d n ns. t.so d n ns ∙ fate_end s i (content 0 d n ns) h refl

  pub text_less : i < length s → get_or s i 0 ≡ 60 → GoesText s o (Ok (i + 1))
  text_less h e =
      λ d n ns. (omega (arith, t.from), omega arith, t.so d n ns ∙ fate_byte s i (content 0 d n ns) (less d n ns) h (content_less d n ns (get_or s i 0) e))

  module _ (q : Result ℕ Stopped) (g : GoesOther s i q) where
    pub text_stop : (n : ℕ) → q ≡ stop n → GoesText s o (stop n)
    text_stop n e = λ d m ns. t.so d m ns ∙ goes_stop s i (content 0 d m ns) (content 0 d m ns) q n (g d m ns) e

    pub other_on : (j : ℕ) → q ≡ Ok j → (i < j) × (j ≤ length s)
    other_on j e = let w : GoesOther s i (Ok j) = subst (GoesOther s i) e g in let v = w 0 [] [] in (v.0, v.1)

    pub texting_on : (j : ℕ) → q ≡ Ok j → Texting s o j
    texting_on j e =
        let w : GoesOther s i (Ok j) = subst (GoesOther s i) e g in
        let v = other_on j e in
        record { from = omega (arith, t.from, v.0); within = v.1; so = λ d n ns. t.so d n ns ∙ (w d n ns).2 }
