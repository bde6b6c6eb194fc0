-- The characters that a text spells, one after the other, and the laws of loops over them. Assumes nothing.
use mathlib.Core.Path.{◌≡◌, refl, sym, ◌∙◌, ap, subst}
use mathlib.Core.Bool.{Bool, true, false, true≢false}
use mathlib.Core.List.{List, [], ◌∷◌, ◌++◌}
use mathlib.Core.Logic.{◌≢◌}
use Prim.Native.Nat.{ℕ, zero, suc, ◌+◌, ◌≤◌, ◌<◌, zero-le, suc-le-suc}
use native.Mathlib.Omega.{arith}
use lib.ListN.{length, drop, drop_of_length-le, length-drop, length-append}
use lib.Seq.{drop-drop, drop-append_seam}
use Rattle.text.specs.Lists.{Each}
use Rattle.text_characters.specs.Pieces.{Piece, spell, spells, resolved, resolved_all, GoodPiece, Spells}
use Rattle.text_characters.specs.Chars.{char_of, Begun, NextChar}
use Rattle.text_characters.specs.Passing.{Passes}
use Rattle.text_characters.specs.mirror.Resolving.{char_at}
use Rattle.text_characters.specs.declared.utf8.Char.{Char}
use Rattle.text_characters.proofs.Chars as chars
use Rattle.text_characters.proofs.Resolving.{complete, sound, piece_some, next_is, next_one}

abbrev pub Begins : List ℕ → Char → Type 0
Begins = Begun GoodPiece spell resolved

-- a character that was found begins there
pub next_begins : (l : List ℕ) (r : Char) → NextChar l r → 0 < r.len → Begins l r
next_begins = chars.first_begun GoodPiece spell resolved char_at complete sound piece_some

-- ---- none

pub spells_none : Spells [] []
spells_none = record { pieces = []; good = tt; is = refl; chars = refl }

pub none_spells : (cs : List ℕ) → Spells [] cs → cs ≡ []
none_spells cs w = go w.pieces w.is w.chars
  where
    go : (ps : List Piece) → [] ≡ spells ps → cs ≡ resolved_all ps → cs ≡ []
    go [] e f = f
    go (p ∷ ps) e f = absurd (let h = piece_some p in omega (arith, ap length e, length-append (spell p) (spells ps)))

-- ---- by the first character

-- l spells cs, r is its first character, and the rest spells the rest
pub record Leads (l cs : List ℕ) (r : Char) : Type 0 where
  pub rest : List ℕ
  pub is : cs ≡ r.code ∷ rest
  pub spells : Spells (drop r.len l) rest
  pub some : 0 < r.len

leads_go : (l cs : List ℕ) (ps : List Piece) → Each GoodPiece ps → l ≡ spells ps → cs ≡ resolved_all ps → 0 < length l
    → Leads l cs (char_at l)
leads_go l cs [] g e f h = absurd (omega (arith, ap length e))
leads_go l cs (p ∷ ps) g e f h =
    let a : char_at l ≡ char_of (length (spell p)) (resolved p) = ap char_at e ∙ complete p (spells ps) g.0 in
    let d : drop (length (spell p)) l ≡ spells ps = ap (drop (length (spell p))) e ∙ drop-append_seam (spell p) (spells ps) in
    subst (Leads l cs) (sym a)
    (record { rest = resolved_all ps; is = f; spells = record { pieces = ps; good = g.1; is = d; chars = refl }; some = piece_some p })

pub leads : (l cs : List ℕ) (r : Char) → NextChar l r → Spells l cs → 0 < length l → Leads l cs r
leads l cs r n w h = subst (Leads l cs) (sym (next_one l r n)) (leads_go l cs w.pieces w.good w.is w.chars h)

pub spells_more : (l cs : List ℕ) (r : Char) → Begins l r → Spells (drop r.len l) cs → Spells l (r.code ∷ cs)
spells_more l cs r b w =
    record {
      pieces = b.sign ∷ w.pieces;
      good = (b.good, w.good);
      is = b.is ∙ ap (λ (u : List ℕ). spell b.sign ++ u) (sym (chars.rest_is GoodPiece spell resolved l r b) ∙ w.is);
      chars = ap (λ (x : Char). x.code ∷ cs) b.found ∙ ap (λ (u : List ℕ). resolved b.sign ∷ u) w.chars;
    }

-- ---- a text spells one list of characters

one_step : (l cs ds : List ℕ) → ((k cs' ds' : List ℕ) → length k < length l → Spells k cs' → Spells k ds' → cs' ≡ ds')
    → Spells l cs → Spells l ds → cs ≡ ds
one_step [] cs ds f v w = none_spells cs v ∙ sym (none_spells ds w)
one_step (x ∷ l) cs ds f v w =
    let r : Char = char_at (x ∷ l) in
    let a = leads (x ∷ l) cs r (next_is (x ∷ l)) v (suc-le-suc zero-le) in
    let b = leads (x ∷ l) ds r (next_is (x ∷ l)) w (suc-le-suc zero-le) in
    a.is
    ∙ ap (λ (u : List ℕ). r.code ∷ u)
    (f (drop r.len (x ∷ l)) a.rest b.rest (omega (arith, length-drop r.len (x ∷ l), a.some)) a.spells b.spells)
    ∙ sym b.is

one_go : (n : ℕ) (l cs ds : List ℕ) → length l < n → Spells l cs → Spells l ds → cs ≡ ds
one_go zero l cs ds h v w = absurd (omega arith)
one_go (suc n) l cs ds h v w = one_step l cs ds (λ k cs' ds' j. one_go n k cs' ds' (omega arith)) v w

pub one_text : (l cs ds : List ℕ) → Spells l cs → Spells l ds → cs ≡ ds
one_text l cs ds v w = one_go (suc (length l)) l cs ds (omega arith) v w

-- ---- a loop over the characters of s: that the rest passes g is that s passes g₀

pub record Here (g₀ : List ℕ → Bool) (s : List ℕ) (i : ℕ) (g : List ℕ → Bool) : Type 0 where
  pub within : i ≤ length s
  pub to : Passes g (drop i s) → Passes g₀ s
  pub from : Passes g₀ s → Passes g (drop i s)

pub here_none : (g : List ℕ → Bool) (s : List ℕ) → Here g s 0 g
here_none g s = record { within = zero-le; to = λ p. p; from = λ p. p }

module _ (g₀ : List ℕ → Bool) (s : List ℕ) (i : ℕ) (g : List ℕ → Bool) (w : Here g₀ s i g) (h : i < length s) (r : Char) (n : NextChar (drop i s) r) where
  at_lead : (cs : List ℕ) → Spells (drop i s) cs → Leads (drop i s) cs r
  at_lead cs v = leads (drop i s) cs r n v (omega (arith, length-drop i s))

  -- the character here is refused
  pub here_bad : ((cs : List ℕ) → g (r.code ∷ cs) ≡ false) → Passes g₀ s → ⊥
  here_bad b p =
      let q = w.from p in
      let f = at_lead q.chars q.spells in
      true≢false (sym q.passes ∙ ap g f.is ∙ b f.rest)

  pub here_room : r.len ≢ 0 → i + r.len ≤ length s
  here_room z =
      omega (arith, length-drop i s, chars.begun_within GoodPiece spell resolved (drop i s) r (next_begins (drop i s) r n (omega arith)))

  pub here_more : (g' : List ℕ → Bool) → r.len ≢ 0 → ((cs : List ℕ) → g (r.code ∷ cs) ≡ g' cs) → Here g₀ s (i + r.len) g'
  here_more g' z b =
      record {
        within = here_room z;
        to = λ p.
            let q : Passes g' (drop r.len (drop i s)) = rw drop-drop p in
            w.to (record { chars = r.code ∷ q.chars; spells = spells_more (drop i s) q.chars r (next_begins (drop i s) r n (omega arith)) q.spells; passes = b q.chars ∙ q.passes });
        from = λ p. rw drop-drop at (passed (w.from p));
      }
    where
      passed : (o : Passes g (drop i s)) → Passes g' (drop r.len (drop i s))
      passed o =
          let f = at_lead o.chars o.spells in
          record { chars = f.rest; spells = f.spells; passes = sym (b f.rest) ∙ ap g (sym f.is) ∙ o.passes }

-- the end
pub here_end : (g₀ : List ℕ → Bool) (s : List ℕ) (i : ℕ) (g : List ℕ → Bool) (r : Bool) → Here g₀ s i g → length s ≤ i → g [] ≡ r
    → (r ≡ true → Passes g₀ s) × (Passes g₀ s → r ≡ true)
here_end g₀ s i g r w h e =
    let d : drop i s ≡ [] = drop_of_length-le s h in (
      λ t. w.to (rw d (record { chars = []; spells = spells_none; passes = e ∙ t })),
      λ p. let q : Passes g [] = rw d at (w.from p) in sym e ∙ ap g (sym (none_spells q.chars q.spells)) ∙ q.passes,
    )
