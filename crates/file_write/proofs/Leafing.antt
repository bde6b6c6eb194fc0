-- A leaf's element: the parts that are put are those of its value, and how many bytes they are. Assumes nothing.
use mathlib.Core.Path.{◌≡◌, refl, sym, ◌∙◌, ap, ap₂, subst}
use mathlib.Core.Logic.{◌≢◌}
use mathlib.Core.Bool.{Bool, true, false, cond, true≢false, false≢true}
use mathlib.Core.List.{List, [], ◌++◌, append_assoc}
use Prim.Native.Nat.{ℕ, suc, ◌+◌, ◌≤◌}
use native.Mathlib.Omega.{arith}
use lib.Dec.{eqb}
use lib.ListN.{length, take, drop, length-append}
use lib.Seq.{slice}
use borrow.Author.Tests.{eq-eqb, ne_eqb}
use Rattle.text.specs.Bytes.{ascii}
use Rattle.text.specs.Pasting.{pasted}
use Rattle.text.specs.Puts.{Puts}
use Rattle.text.proofs.Parts.{part_take, part_length}
use Rattle.text.proofs.Puts.{puts_then, puts_as}
use Rattle.list.specs.Listing.{Leaf, ref, iban, ccy, bool, num, amt, date, dtm, txt, enum, Kind, group, choice, leaf}
use Rattle.list.specs.tables.Table.{cell, kind_of, name_in, words_in}
use Rattle.value.specs.Value.{Value, IsValue, bytes}
use Rattle.value.specs.script.Script.{script_of}
use Rattle.value.specs.script.Raw.{raw_of}
use Rattle.value.specs.mirror.Stored.{raw_at}
use Rattle.value.proofs.script.Meaning.{currency_first, put_value}
use Rattle.value.proofs.stored.Numbered.{by_kind}
use Rattle.file_letter.proofs.tree.Good.{text_raw_lem}
use Rattle.file_write.specs.mirror.Tags.{start_in, open_in, shut_in, coin_in}
use Rattle.file_write.specs.mirror.Emit.{coin_text, coin_at, ValueAt, leaf_in}
use Rattle.file_write.proofs.Putting.{part_most}

spread : (a b c e : List ℕ) → (a ++ (b ++ c)) ++ e ≡ a ++ (b ++ (c ++ e))
spread a b c e = simp append_assoc

-- ---- which leaves are amounts

abbrev is_amt : Leaf → Bool
is_amt ref = false
is_amt iban = false
is_amt ccy = false
is_amt bool = false
is_amt num = false
is_amt amt = true
is_amt date = false
is_amt dtm = false
is_amt (txt k) = false
is_amt (enum ws) = false

abbrev amt_kind : Kind → Bool
amt_kind group = false
amt_kind choice = false
amt_kind (leaf f) = is_amt f

amt_code : (k : ℕ) (ws : List (List ℕ)) (c : ℕ) → eqb c 9 ≡ amt_kind (kind_of c k ws)
amt_code k ws =
    by_kind (λ c. eqb c 9 ≡ amt_kind (kind_of c k ws)) refl refl refl refl refl refl refl refl refl refl refl refl
    (λ c. ne_eqb (suc (suc (suc (suc (suc (suc (suc (suc (suc (suc (suc (suc c)))))))))))) 9 (λ e. omega arith))

-- ---- the attribute

coin_none : (f : Leaf) (v : Value) → IsValue f v → is_amt f ≡ false → [] ≡ coin_text v
coin_none f v (IsValue.reference r) e = refl
coin_none f v (IsValue.writing r) e = refl
coin_none f v (IsValue.account r) e = refl
coin_none f v (IsValue.currency r) e = refl
coin_none f v (IsValue.listed a b) e = refl
coin_none f v IsValue.either e = refl
coin_none f v (IsValue.count h) e = refl
coin_none f v (IsValue.money c b) e = absurd (true≢false e)
coin_none f v (IsValue.dated r) e = refl
coin_none f v (IsValue.timed p) e = refl

coin_some : (f : Leaf) (v : Value) → IsValue f v → is_amt f ≡ true → (s u : List ℕ) → s ≡ bytes v ++ u → coin_in (take 3 s) ≡ coin_text v
coin_some f v (IsValue.reference r) e s u h = absurd (false≢true e)
coin_some f v (IsValue.writing r) e s u h = absurd (false≢true e)
coin_some f v (IsValue.account r) e s u h = absurd (false≢true e)
coin_some f v (IsValue.currency r) e s u h = absurd (false≢true e)
coin_some f v (IsValue.listed a b) e s u h = absurd (false≢true e)
coin_some f v IsValue.either e s u h = absurd (false≢true e)
coin_some f v (IsValue.count a) e s u h = absurd (false≢true e)
coin_some f v (IsValue.money {w = w} {k = k} {c = c} r b) e s u h =
    ap coin_in (ap (take 3) h ∙ currency_first w k c u r)
coin_some f v (IsValue.dated r) e s u h = absurd (false≢true e)
coin_some f v (IsValue.timed p) e s u h = absurd (false≢true e)

coin_most : (run : List ℕ) (i : ℕ) → length (coin_in (slice i (i + 3) run)) ≤ 10
coin_most run i = omega (arith, length-append (slice i (i + 3) run) (ascii "\""), part_length i (i + 3) run)

pub coin_end : (run d : List ℕ) (i at r : ℕ) (d' : List ℕ) → Puts d at (coin_in (slice i (i + 3) run)) r d' → r ≤ at + 10
coin_end run d i at r d' p = omega (arith, p.behind, coin_most run i)

module _ (t pool run : List ℕ) (x i : ℕ) where
  -- as the code finds it
  module _ (k : ℕ) (e : k ≡ cell t x 2) where
    coin_amount : k ≡ 9 → coin_in (slice i (i + 3) run) ≡ coin_at t run x i
    coin_amount n = rw (eq-eqb (cell t x 2) 9 (sym e ∙ n))

    coin_other : k ≢ 9 → [] ≡ coin_at t run x i
    coin_other n = rw (ne_eqb (cell t x 2) 9 (λ z. n (e ∙ z)))

    pub open_other : k ≢ 9 → (d : List ℕ) (at r : ℕ) (d' : List ℕ) → Puts d at (open_in t pool x) r d' → Puts d at (start_in t pool x ++ (coin_at t run x i ++ ascii ">")) r d'
    open_other n d at r d' p = subst (λ (u : List ℕ). Puts d at (start_in t pool x ++ (u ++ ascii ">")) r d') (coin_other n) p

    pub open_amount : k ≡ 9 → (d : List ℕ) (at r : ℕ) (d' : List ℕ) → Puts d at (start_in t pool x ++ (coin_in (slice i (i + 3) run) ++ ascii ">")) r d' → Puts d at (start_in t pool x ++ (coin_at t run x i ++ ascii ">")) r d'
    open_amount n d at r d' p = subst (λ (u : List ℕ). Puts d at (start_in t pool x ++ (u ++ ascii ">")) r d') (coin_amount n) p

  module _ (f : Leaf) (v : Value) (w : ValueAt t pool run x i f v) where
    coin_is : coin_at t run x i ≡ coin_text v
    coin_is = go (eqb (cell t x 2) 9) (amt_code (cell t x 3) (words_in t pool x) (cell t x 2) ∙ ap amt_kind w.kind)
      where
        go : (b : Bool) → b ≡ is_amt f → cond b (coin_in (slice i (i + 3) run)) [] ≡ coin_text v
        go true e = ap coin_in (part_take i 3 run) ∙ coin_some f v w.is (sym e) (drop i run) w.behind w.holds
        go false e = coin_none f v w.is (sym e)

-- ---- the whole element: its text is n bytes

module _ (t pool run : List ℕ) (x i : ℕ) (small : length pool ≤ 65535) (d : List ℕ) (at a₁ : ℕ) (d₁ : List ℕ) (p : Puts d at (start_in t pool x ++ (coin_at t run x i ++ ascii ">")) a₁ d₁) (n : ℕ) (few : n ≤ 327675 + length pool) where
  pub leaf_text_end : a₁ + n ≤ at + 470000
  leaf_text_end =
      omega (arith, p.behind, length-append (name_in t pool x) (coin_at t run x i ++ ascii ">"), length-append (coin_at t run x i) (ascii ">"), short (eqb (cell t x 2) 9), part_most (cell t x 4) (cell t x 5) pool)
    where
      short : (b : Bool) → length (cond b (coin_in (slice i (i + 3) run)) []) ≤ 10
      short true = coin_most run i
      short false = omega arith

  module _ (d₂ : List ℕ) (r : ℕ) (d₃ : List ℕ) (s : Puts d₂ (a₁ + n) (shut_in t pool x) r d₃) where
    pub leaf_end_lem : r ≤ at + 1000000
    leaf_end_lem = omega (arith, s.behind, leaf_text_end, length-append (name_in t pool x) (ascii ">"), part_most (cell t x 4) (cell t x 5) pool)

    -- by what `put` promises
    abbrev raw : List ℕ
    raw = raw_at t pool x run i

    pub leaf_puts : (n ≡ length raw) × ((n ≤ 327675 + length pool) × (d₂ ≡ pasted d₁ a₁ raw)) → (f : Leaf) (v : Value) → ValueAt t pool run x i f v → Puts d at (leaf_in t pool run x f v) r d₃
    leaf_puts o f v w =
        let open' = start_in t pool x ++ (coin_at t run x i ++ ascii ">") in
        let text = raw_of (script_of f v) in
        puts_as d at (open' ++ (text ++ shut_in t pool x)) (leaf_in t pool run x f v) r d₃
        (spread (start_in t pool x) (coin_at t run x i) (ascii ">") (text ++ shut_in t pool x)
        ∙ ap₂ (λ (a b : List ℕ). start_in t pool x ++ (a ++ (ascii ">" ++ (b ++ shut_in t pool x)))) (coin_is t pool run x i f v w) (sym (text_raw_lem (script_of f v))))
        (puts_then d at open' a₁ d₁ (text ++ shut_in t pool x) r d₃ p
        (puts_then d₁ a₁ text (a₁ + n) d₂ (shut_in t pool x) r d₃ (put_value t pool run x i f v w.behind d₁ a₁ n (327675 + length pool) d₂ w.kind w.ok w.is w.holds o) s))
