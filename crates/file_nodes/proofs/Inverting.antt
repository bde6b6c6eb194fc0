-- A run taken apart by what stands in the text: the pass that writes needs no more of it. Assumes nothing.
use mathlib.Core.Path.{◌≡◌, refl, sym, ◌∙◌, ap, subst}
use mathlib.Core.Bool.{Bool, cond}
use mathlib.Core.List.{List, [], ◌∷◌, ◌++◌}
use mathlib.Core.Option.{Option}
use Prim.Native.Nat.{ℕ, zero, suc, ◌<◌}
use native.Mathlib.Omega.{arith}
use lib.ListN.{length, drop}
use lib.Seq.{drop-append_seam}
use Rattle.text.specs.Bytes.{is_blank}
use Rattle.text.specs.Lists.{span, All}
use Rattle.text_characters.specs.Pieces.{less}
use Rattle.list.specs.Listing.{Leaf}
use Rattle.xml.specs.House.{Quote}
use Rattle.value_leaf.specs.Took.{TookAs}
use Rattle.file.specs.Instance.{Kinds}
use Rattle.file_nodes.specs.Run.{over, shut, group, leaf, Node, Head, Run, blank, else, ends, closes, opens, tells}

-- every tag begins with `<`
abbrev pub Tagged : (ℕ → Node) → Type 0
Tagged at = (n : ℕ) → (v : List ℕ) × ((at n).tag ≡ less ∷ v)

same_rest : (a u v : List ℕ) → a ++ u ≡ a ++ v → u ≡ v
same_rest a u v e = sym (drop-append_seam a u) ∙ ap (drop (length a)) e ∙ drop-append_seam a v

-- after the blanks
past : (b u : List ℕ) → All is_blank b → drop (span is_blank (b ++ u)) (b ++ u) ≡ drop (span is_blank u) u
unfolding span
past [] u h = refl
past (x ∷ b) u h = rw h.0 (past b u h.1)

pub no_blank : (b u : List ℕ) → All is_blank b → span is_blank (b ++ u) ≡ 0 → b ≡ []
unfolding span
no_blank [] u h e = refl
no_blank (x ∷ b) u h e =
    let z : suc (span is_blank (b ++ u)) ≡ 0 = sym (ap (λ (c : Bool). cond c (suc (span is_blank (b ++ u))) zero) h.0) ∙ e in
    absurd (omega arith)

less_first : (t v : List ℕ) → t ≡ less ∷ v → span is_blank t ≡ 0
unfolding span is_blank
less_first t v e = ap (span is_blank) e

module _ (k : Kinds) (at : ℕ → Node) (tagged : Tagged at) where
  tag_first : (n : ℕ) (t u : List ℕ) → t ≡ (at n).tag ++ u → span is_blank t ≡ 0
  tag_first n t u e = less_first t ((tagged n).0 ++ u) (e ∙ ap (λ (z : List ℕ). z ++ u) (tagged n).1)

  still : (n : ℕ) (t bs : List ℕ) → span is_blank t ≡ 0 → Run k at n t bs → Run k at n (drop (span is_blank t) t) bs
  still n t bs e r = subst (λ (i : ℕ). Run k at n (drop i t) bs) (sym e) r

  -- the blanks passed
  pub unblanked : {n : ℕ} {t bs : List ℕ} → Run k at n t bs → Run k at n (drop (span is_blank t) t) bs
  unblanked {n} {t} {bs} (blank b u w e run) =
      subst (λ (z : List ℕ). Run k at n z bs) (sym (past b u w) ∙ ap (λ (z : List ℕ). drop (span is_blank z) z) (sym e)) (unblanked run)
  unblanked {n} {t} {bs} (else z never h run) = still n t bs z (else z never h run)
  unblanked {n} {t} {bs} (ends u s e w z) = still n t bs (tag_first n t u e) (ends u s e w z)
  unblanked {n} {t} {bs} (closes u s e run) = still n t bs (tag_first n t u e) (closes u s e run)
  unblanked {n} {t} {bs} (opens u cs s e run z) = still n t bs (tag_first n t u e) (opens u cs s e run z)
  unblanked {n} {t} {bs} (tells f h w cur raw vs u cs s e hd o run z) = still n t bs (tag_first n t (w ++ (raw ++ ((at n).close ++ u))) e) (tells f h w cur raw vs u cs s e hd o run z)

  -- the tag does not stand here: what else may come
  pub record Other (n : ℕ) (t bs : List ℕ) : Type 0 where
    pub some : 0 < (at n).other
    pub run : Run k at (at n).other t bs

  pub passed : {n : ℕ} {t bs : List ℕ} → Run k at n t bs → span is_blank t ≡ 0 → ((u : List ℕ) → t ≡ (at n).tag ++ u → ⊥) → Other n t bs
  passed {n} {t} {bs} (blank b u w e run) z never =
      let i : b ≡ [] = no_blank b u w (ap (span is_blank) (sym e) ∙ z) in
      let j : t ≡ u = e ∙ ap (λ (x : List ℕ). x ++ u) i in
      let f = passed run (ap (span is_blank) (sym j) ∙ z) (λ v g. never v (j ∙ g)) in
      subst (λ (x : List ℕ). Other n x bs) (sym j) f
  passed (else y not h run) z never = record { some = h; run = run }
  passed (ends u s e w y) z never = absurd (never u e)
  passed (closes u s e run) z never = absurd (never u e)
  passed (opens u cs s e run y) z never = absurd (never u e)
  passed {n} (tells f h w cur raw vs u cs s e hd o run y) z never = absurd (never (w ++ (raw ++ ((at n).close ++ u))) e)

  -- it stands here, and u is what follows it
  pub data Met (n : ℕ) (u bs : List ℕ) : Type 0 where
    ended : (at n).sort ≡ over → All is_blank u → bs ≡ 0 ∷ [] → Met n u bs
    closed : (at n).sort ≡ shut → Run k at (at n).next u bs → Met n u bs
    opened : (at n).sort ≡ group → (cs : List ℕ) → Run k at (at n).next u cs → bs ≡ (at n).row ∷ cs → Met n u bs
    told : (f : Leaf) (h : Option Quote) (w cur raw vs v cs : List ℕ) → (at n).sort ≡ leaf f h → u ≡ w ++ (raw ++ ((at n).close ++ v)) → Head h w cur → TookAs k.types.Spelt k.bytes f cur raw vs
        → Run k at (at n).next v cs → bs ≡ (at n).row ∷ (vs ++ cs) → Met n u bs

  pub met : {n : ℕ} {t bs : List ℕ} → Run k at n t bs → (u : List ℕ) → t ≡ (at n).tag ++ u → Met n u bs
  met {n} {t} {bs} (blank b u w e run) v i =
      let z : b ≡ [] = no_blank b u w (ap (span is_blank) (sym e) ∙ tag_first n t v i) in
      met run v (sym (e ∙ ap (λ (x : List ℕ). x ++ u) z) ∙ i)
  met (else y not h run) v i = absurd (not v i)
  met {n} (ends u s e w y) v i = ended s (subst (All is_blank) (same_rest (at n).tag u v (sym e ∙ i)) w) y
  met {n} {t} {bs} (closes u s e run) v i = closed s (subst (λ (x : List ℕ). Run k at (at n).next x bs) (same_rest (at n).tag u v (sym e ∙ i)) run)
  met {n} (opens u cs s e run y) v i = opened s cs (subst (λ (x : List ℕ). Run k at (at n).next x cs) (same_rest (at n).tag u v (sym e ∙ i)) run) y
  met {n} (tells f h w cur raw vs u cs s e hd o run y) v i = told f h w cur raw vs u cs s (sym (same_rest (at n).tag (w ++ (raw ++ ((at n).close ++ u))) v (sym e ∙ i))) hd o run y
