-- Each turn of the lane's loop keeps its invariant. Assumes nothing.
use mathlib.Core.Path.{◌≡◌, refl, sym, ◌∙◌, ap, subst}
use mathlib.Core.List.{List, [], ◌∷◌, ◌++◌}
use mathlib.Core.Option.{Option}
use Prim.Native.Nat.{ℕ, suc, ◌+◌, ◌<◌}
use mathlib.Core.Bool.{false}
use native.Mathlib.Omega.{arith}
use native.Mathlib.Decide.{dec_lt}
use lib.ListN.{length, get_or, take, drop, take-append-drop, length-append, length-drop}
use lib.Seq.{drop-drop, get_or-drop}
use Rattle.text.specs.Bytes.{is_blank}
use Rattle.text.specs.Lists.{span, All}
use Rattle.text.proofs.Spans.{span_all, span_next, span_stop, span_end}
use Rattle.list.specs.Listing.{Leaf}
use Rattle.xml.specs.House.{Quote}
use Rattle.value_leaf.specs.Took.{TookAs}
use Rattle.file.specs.Instance.{Kinds}
use Rattle.file_nodes.specs.Run.{over, shut, group, leaf, Node, Head, blank, else, ends, closes, opens, tells}
use Rattle.file_lane.specs.mirror.Leads.{Comes, Leads}

-- after blanks there is none
pub after_blanks : (s : List ℕ) (i j : ℕ) → j ≡ i + span is_blank (drop i s) → span is_blank (drop j s) ≡ 0
after_blanks s i j e = elim (dec_lt j (length s)) [
  | yes h ↦
      let n : ℕ = span is_blank (drop i s) in
      let g : is_blank (get_or (drop i s) n 0) ≡ false = span_next is_blank (drop i s) (omega (arith, length-drop i s)) in
      span_stop is_blank s j h (ap (λ (x : ℕ). is_blank (get_or s x 0)) e ∙ ap is_blank (sym (get_or-drop i s n 0)) ∙ g)
  | no h ↦ span_end is_blank s j (omega arith)
]

module _ (k : Kinds) (at : ℕ → Node) (s : List ℕ) (start o : ℕ) where
  abbrev On : ℕ → ℕ → ℕ → Type 0
  On n i sum = Leads k at s start o n i sum

  come : {a b : ℕ} → a ≡ b → Comes k at s start o a → Comes k at s start o b
  come e c = subst (λ (n : ℕ). Comes k at s start o n) e c

  pub begin : On start o 7
  begin = record { go = λ bs r. record { bytes = bs; run = r; is = refl } }

  pub over_blanks : (n i j sum : ℕ) → j ≡ i + span is_blank (drop i s) → On n i sum → On n j sum
  over_blanks n i j sum e l =
      let m : ℕ = span is_blank (drop i s) in
      let f : drop i s ≡ take m (drop i s) ++ drop j s = sym (take-append-drop m (drop i s)) ∙ ap (λ (z : List ℕ). take m (drop i s) ++ z) (drop-drop m i s ∙ ap (λ (x : ℕ). drop x s) (sym e)) in
      record { go = λ bs r. l.go bs (blank (take m (drop i s)) (drop j s) (span_all is_blank (drop i s)) f r) }

  pub beside : (n i sum : ℕ) → span is_blank (drop i s) ≡ 0 → ((u : List ℕ) → drop i s ≡ (at n).tag ++ u → ⊥) → 0 < (at n).other → On n i sum → On (at n).other i sum
  beside n i sum z never h l = record { go = λ bs r. l.go bs (else z never h r) }

  pub shutting : (n i j sum : ℕ) → (at n).sort ≡ shut → drop i s ≡ (at n).tag ++ drop j s → On n i sum → On (at n).next j sum
  shutting n i j sum z e l = record { go = λ bs r. l.go bs (closes (drop j s) z e r) }

  pub opening : (n i j sum : ℕ) → (at n).sort ≡ group → drop i s ≡ (at n).tag ++ drop j s → On n i sum → On (at n).next j (1 + sum)
  opening n i j sum z e l = record { go = λ bs r. let m : sum + suc (length bs) ≡ 1 + sum + length bs = omega arith in come m (l.go ((at n).row ∷ bs) (opens (drop j s) bs z e r refl)) }

  -- after the tag's bytes at a, the rest of the tag to b, the raw text and the closing tag to j
  pub telling : (n i a b j sum : ℕ) (f : Leaf) (h : Option Quote) (w cur raw vs : List ℕ) → (at n).sort ≡ leaf f h → drop i s ≡ (at n).tag ++ drop a s → drop a s ≡ w ++ drop b s
      → drop b s ≡ raw ++ ((at n).close ++ drop j s) → Head h w cur → TookAs k.types.Spelt k.bytes f cur raw vs → On n i sum → On (at n).next j (1 + sum + length vs)
  telling n i a b j sum f h w cur raw vs z p q r hd tk l = record {
    go = λ bs y.
        let g : drop i s ≡ (at n).tag ++ (w ++ (raw ++ ((at n).close ++ drop j s))) = p ∙ ap (λ (x : List ℕ). (at n).tag ++ x) (q ∙ ap (λ (x : List ℕ). w ++ x) r) in
        let d = length-append vs bs in
        let m : sum + suc (length (vs ++ bs)) ≡ 1 + sum + length vs + length bs = omega (arith, d) in
        come m (l.go ((at n).row ∷ (vs ++ bs)) (tells f h w cur raw vs (drop j s) bs z g hd tk y refl));
  }

  pub ending : (n i sum : ℕ) (u : List ℕ) → (at n).sort ≡ over → drop i s ≡ (at n).tag ++ u → All is_blank u → On n i sum → Comes k at s start o (sum + 1)
  ending n i sum u z e w l = l.go (0 ∷ []) (ends u z e w refl)
