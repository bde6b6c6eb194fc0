-- Where the reader has an answer, the picker has one, with a part: what is not missing is found. Assumes nothing.
use mathlib.Core.Path.{◌≡◌, refl, ◌∙◌, ap, subst}
use mathlib.Core.Logic.{inl, inr}
use mathlib.Core.Bool.{Bool, true, false, cond}
use mathlib.Core.List.{List, [], ◌∷◌, ◌++◌}
use mathlib.Core.Option.{Option}
use Prim.Native.Nat.{ℕ, zero, suc, ◌+◌, ◌<◌}
use native.Mathlib.Omega.{arith}
use native.Mathlib.Decide.{dec_lt, ℕ_discrete}
use lib.Dec.{eqb}
use lib.ListN.{length, drop}
use borrow.Author.Tests.{eqb-true}
use Rattle.answer.specs.declared.Answer.{Answer}
use Rattle.answer.specs.Table.{picked, no_such_leaf}
use Rattle.list.specs.Listing.{Listing, row_at, is_group}
use Rattle.list.specs.WellFormed.{WellFormed}
use Rattle.list.specs.Content.{Content, items, Meets}
use Rattle.image.specs.Image.{Values, Lawful, Item, items_bytes}
use Rattle.image.specs.Place.{Among, Reads}
use Rattle.image.specs.Pick.{Selects, none_such, one_such, Picks, refused, missing, found}
use Rattle.image.specs.mirror.Follow.{ItemOk}
use Rattle.image.proofs.content.Begins.{content_whole}
use Rattle.image.proofs.content.Prefix.{Oks, whole_oks}
use Rattle.image.proofs.answers.One.{accepting, many}
use Rattle.image.proofs.loops.Picker.{leaf_value}

module _ (vs : Values) (l : Listing) where
  -- the n-th item of row r
  record Nth (r n : ℕ) (is : List (Item vs)) : Type 0 where
    before : List (Item vs)
    value : Option vs.Value
    behind : List (Item vs)
    at : is ≡ before ++ ((r, value) ∷ behind)
    nth : many vs l r before ≡ n

  later : (r n m : ℕ) (i : Item vs) (is : List (Item vs)) → many vs l r (i ∷ []) + m ≡ n → Nth r m is → Nth r n (i ∷ is)
  later r n m i is e o = record { before = i ∷ o.before; value = o.value; behind = o.behind; at = ap (λ (x : List (Item vs)). i ∷ x) o.at; nth = go (eqb i.0 r) e o.nth }
    where
      go : (b : Bool) → cond b 1 0 + m ≡ n → many vs l r o.before ≡ m → cond b (suc (many vs l r o.before)) (many vs l r o.before) ≡ n
      go true e h = omega arith
      go false e h = omega arith

  nth_some : (r n : ℕ) (is : List (Item vs)) → n < many vs l r is → Nth r n is
  nth_some r n [] h = absurd (omega arith)
  nth_some r n (i ∷ is) h = go (eqb i.0 r) refl n h (λ m g. nth_some r m is g)
    where
      go : (b : Bool) → eqb i.0 r ≡ b → (n : ℕ) → n < cond b (suc (many vs l r is)) (many vs l r is) → ((m : ℕ) → m < many vs l r is → Nth r m is) → Nth r n (i ∷ is)
      go true e zero h f = record { before = []; value = i.1; behind = is; at = ap (λ (x : ℕ). (x, i.1) ∷ is) (eqb-true i.0 r e); nth = refl }
      go true e (suc n) h f = later r (suc n) n i is (rw e (omega arith)) (f n (omega arith))
      go false e n h f = later r n n i is (rw e (omega arith)) (f n h)

  module _ (lw : Lawful vs) (wf : WellFormed l) where
    ok_at : (a : List (Item vs)) (i : Item vs) (b : List (Item vs)) → Oks vs lw l wf (a ++ (i ∷ b)) → ItemOk vs l i.0 i.1
    ok_at [] i b h = h.1
    ok_at (j ∷ a) i b h = ok_at a i b h.2

    -- of a content that meets the list, some answer and some part, wherever its items begin
    pub record Selected (from : ℕ) (c : Content vs.Value) (r n : ℕ) : Type 0 where
      pub answer : Answer
      pub part : List ℕ
      pub selects : Selects vs l from c r n answer part

    pub selects_some : (from : ℕ) (c : Content vs.Value) → Meets vs.Is l c → (r n : ℕ) → Selected from c r n
    selects_some from c m r n = go (is_group (row_at l r).kind) refl
      where
        go : (b : Bool) → is_group (row_at l r).kind ≡ b → Selected from c r n
        go true e = record { answer = no_such_leaf; part = []; selects = none_such (inl e) refl refl }
        go false e = elim (dec_lt n (many vs l r (items c))) [
          | no g ↦ record { answer = no_such_leaf; part = []; selects = none_such (inr (omega arith)) refl refl }
          | yes g ↦
              let o = nth_some r n (items c) g in
              let is = whole_oks vs lw l wf (items c) (content_whole vs lw l wf c m) in
              let v = leaf_value vs l (row_at l r).kind o.value (ok_at o.before (r, o.value) o.behind (subst (Oks vs lw l wf) o.at is)) e in
              let place = from + length (items_bytes vs l o.before) + 1 + vs.head v.0 in
              record {
                answer = picked r place;
                part = drop (vs.head v.0) (vs.bytes v.0 v.2.0);
                selects = one_such place
                    (record {
                      type = v.0;
                      kind = v.1;
                      before = o.before;
                      value = v.2.0;
                      after = o.behind;
                      at = o.at ∙ ap (λ (x : Option vs.Value). o.before ++ ((r, x) ∷ o.behind)) v.2.1;
                      nth = o.nth;
                      starts = refl;
                      holds = refl;
                    }) refl;
              }
        ]

module _ (vs : Values) (ls : List Listing) (lw : Lawful vs) (wells : (l : Listing) → Among l ls → WellFormed l) where
  -- an answer and a part
  pub record Some (run : List ℕ) (r n : ℕ) : Type 0 where
    pub answer : Answer
    pub part : List ℕ
    pub picks : Picks vs ls run r n answer part

  -- where the reader has an answer, so has the picker
  pub picks_some : (run : List ℕ) (r n : ℕ) (a : Answer) → Reads vs ls run a → Some run r n
  picks_some run r n a x = elim (ℕ_discrete a.code 0) [
    | no z ↦ record { answer = a; part = []; picks = refused x z refl }
    | yes z ↦
        let w = accepting vs ls run a x z in
        let k = w.1 in
        let o = selects_some vs k.list lw (wells k.list k.among) (length k.head) k.holds.content k.holds.meets r n in
        record {
          answer = o.answer;
          part = o.part;
          picks = elim o.selects [
            | none_such m e f ↦ missing w.0 a.place k m e f
            | one_such place g e ↦ found w.0 a.place k place g e
          ];
        }
  ]
