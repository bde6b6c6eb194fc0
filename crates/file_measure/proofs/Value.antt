-- The bytes of a leaf's value, from what the code's calls told, with document 01's types. Assumes nothing.
use Rattle.std.specs.Prelude.{Option as Told, None, Some, IfSome, IsSomeAnd}
use Rattle.std.proofs.lemmas.Option.{IfSome_then}
use Rattle.std.specs.Bool.{then_some}
use lib.Dec.{eqb}
use borrow.Author.Tests.{eq-eqb, ne_eqb}
use mathlib.Core.Path.{◌≡◌, refl, sym, ◌∙◌, ap, subst}
use mathlib.Core.Logic.{◌≢◌}
use mathlib.Core.Bool.{Bool, true, false, not, true≢false}
use mathlib.Core.List.{List, [], ◌∷◌}
use mathlib.Core.Option.{Option, none, some}
use Prim.Native.Nat.{ℕ, zero, suc, ◌+◌, ◌≤◌, ◌<◌}
use native.Mathlib.Omega.{arith}
use native.Mathlib.Decide.{ℕ_discrete}
use lib.ListN.{length, get_or}
use Rattle.text.specs.Bytes.{in_range}
use Rattle.text.specs.Pasting.{pasted}
use Rattle.text.specs.Puts.{Puts}
use Rattle.text_characters.specs.Pieces.{Spells}
use Rattle.text_characters.specs.Utf8.{encode_all}
use Rattle.text.proofs.Classes.{in_range_is}
use Rattle.text.proofs.Pasting.{length_pasted}
use Rattle.text.proofs.Puts.{puts_none, puts_pasted}
use Rattle.text_characters.proofs.Spelling.{one_text}
use Rattle.list.specs.Listing.{Leaf, ref, enum, Kind, group, choice, leaf, is_group}
use Rattle.list.proofs.rows.Codes.{group_is}
use Rattle.list.specs.WellFormed.{LeafOk}
use Rattle.list.specs.tables.Table.{cell, byte_of, place_in, kind_of, words_in}
use Rattle.list.proofs.words.Places.{place_found, place_none, byte_near}
use Rattle.value.specs.types.Code.{Ccy}
use Rattle.value.specs.parts.Form.{WordAt}
use Rattle.value.specs.Kind.{code, Given}
use Rattle.value.specs.Value.{Value, text, place, IsValue, reference, writing, account, currency, listed, either, count, money, dated, timed, Spelt, bytes}
use Rattle.value.proofs.types.Rights.{word_spelt, spelt_word}
use Rattle.value.proofs.types.Values.{value_laws}
use Rattle.list.specs.tables.Numbers.{is_group_in}
use Rattle.value.specs.given.Giving.{Counted, Gives, Sized, Written}
use Rattle.value.specs.given.Giving as giving
use Rattle.value.proofs.given.Putting.{text_long, natural_long, amount_long, day_long, moment_long}
use Rattle.value.proofs.given.Unique.{spelt_any, euro, euro_is}
use Rattle.value.proofs.given.Theorems.{bytes_some, write_is, write_none, size_is, size_none}
use Rattle.file.specs.Instance.{house_kinds}
use Rattle.value.specs.Places.{longest_value}
use Rattle.file_measure.specs.Pass.{Worded, Shut, Yields, ValuePut, Valued}

-- ---- no value has many bytes

text_few : (cs : List ℕ) → Counted (text cs) → length (bytes (text cs)) ≤ 65537
text_few cs h = omega (arith, h, text_long (length (encode_all cs)) cs refl)

value_few : (l : Leaf) (v : Value) → IsValue l v → Counted v → length (bytes v) ≤ 65537
value_few l v (reference {cs = cs} r) h = text_few cs h
value_few l v (writing {cs = cs} r) h = text_few cs h
value_few l v (account {cs = cs} r) h = text_few cs h
value_few l v (currency {cs = cs} r) h = text_few cs h
value_few l v (listed a b) h = omega arith
value_few l v either h = omega arith
value_few l v (count {n = n} a) h = omega (arith, natural_long n)
value_few l v (money {w = u} {k = k} {c = c} a b) h = omega (arith, amount_long u k c a.three)
value_few l v (dated {y = y} {m = m} {d = d} a) h = omega (arith, day_long y m d)
value_few l v (timed {y = y} {mo = mo} {d = d} {h = ho} {mi = mi} {s = s} {u = u} {z = z} a) h = omega (arith, moment_long y mo d ho mi s u z)

pub gives_few : (kind k : ℕ) (cur s bs : List ℕ) → Gives kind k cur s bs → length bs ≤ 65537
gives_few kind k cur s bs (giving.some v t c e) = omega (arith, ap length e, value_few t.leaf v t.spelt.is c)
gives_few kind k cur s bs (giving.none f e) = omega (arith, ap length e)

-- ---- the numbers of kinds

abbrev unleaf : Kind → Leaf
unleaf group = ref
unleaf choice = ref
unleaf (leaf f) = f

record Coded (c k : ℕ) (f : Leaf) : Type 0 where
  number : code f ≡ c
  given : c ≢ 6 → Given f k 0

coded : (c k : ℕ) (ws : List (List ℕ)) → is_group (kind_of c k ws) ≡ false → Coded c k (unleaf (kind_of c k ws))
coded zero k ws h = absurd (true≢false h)
coded (suc zero) k ws h = absurd (true≢false h)
coded (suc (suc zero)) k ws h = record { number = refl; given = λ o. tt }
coded (suc (suc (suc zero))) k ws h = record { number = refl; given = λ o. refl }
coded (suc (suc (suc (suc zero)))) k ws h = record { number = refl; given = λ o. tt }
coded (suc (suc (suc (suc (suc zero))))) k ws h = record { number = refl; given = λ o. tt }
coded (suc (suc (suc (suc (suc (suc zero)))))) k ws h = record { number = refl; given = λ o. absurd (o refl) }
coded (suc (suc (suc (suc (suc (suc (suc zero))))))) k ws h = record { number = refl; given = λ o. tt }
coded (suc (suc (suc (suc (suc (suc (suc (suc zero)))))))) k ws h = record { number = refl; given = λ o. tt }
coded (suc (suc (suc (suc (suc (suc (suc (suc (suc zero))))))))) k ws h = record { number = refl; given = λ o. tt }
coded (suc (suc (suc (suc (suc (suc (suc (suc (suc (suc zero)))))))))) k ws h = record { number = refl; given = λ o. tt }
coded (suc (suc (suc (suc (suc (suc (suc (suc (suc (suc (suc zero))))))))))) k ws h = record { number = refl; given = λ o. tt }
coded (suc (suc (suc (suc (suc (suc (suc (suc (suc (suc (suc (suc c)))))))))))) k ws h = absurd (true≢false h)

-- what is no group's number is at most 11
pub leaf_kind : (q : ℕ) (g : Bool) → g ≡ is_group_in q → g ≡ false → q ≤ 11
unfolding is_group_in
leaf_kind q g e f = (in_range_is 2 11 q (go (in_range 2 11 q) (sym (group_is 0 [] q) ∙ sym e ∙ f))).1
  where
    go : (b : Bool) → not b ≡ false → b ≡ true
    go true h = refl
    go false h = absurd (true≢false h)

-- ---- the text spells a value, or none

no_other : (f : Leaf) (w raw cs : List ℕ) → Spells raw cs → Yields house_kinds f w cs none → (ds : List ℕ) (v : Value) → Spells raw ds → Spelt f w ds v → ⊥
no_other f w raw cs sp n ds v sp' st = n v (subst (λ (z : List ℕ). Spelt f w z v) (one_text raw ds cs sp' sp) st)

-- the bytes of the value that is spelt; none where there is none
abbrev given : Leaf → Option Value → List ℕ
given f none = []
given f (some v) = bytes v

-- how many bytes a value has, as the code tells: none for 0, which no value has
abbrev pub told : ℕ → Told ℕ
told n = then_some (not (eqb n 0)) n

told_none : (n : ℕ) → n ≡ 0 → told n ≡ None
told_none n z = ap (λ (b : Bool). then_some (not b) n) (eq-eqb n 0 z)

told_some : (n : ℕ) → n ≢ 0 → told n ≡ Some n
told_some n z = ap (λ (b : Bool). then_some (not b) n) (ne_eqb n 0 z)

told_most : (n m : ℕ) → n ≤ m → IfSome (told n) (λ i. i ≤ m)
told_most n m h = elim (ℕ_discrete n 0) [
  | yes z ↦ subst (λ (r : Told ℕ). IfSome r (λ i. i ≤ m)) (sym (told_none n z)) tt
  | no z ↦ subst (λ (r : Told ℕ). IfSome r (λ i. i ≤ m)) (sym (told_some n z)) h
]

told_put : (f : Leaf) (u : Option Value) (d : List ℕ) (at n : ℕ) (d' : List ℕ) → Puts d at (given f u) (at + n) d' → ValuePut house_kinds f u d at (told n) d'
told_put f none d at n d' p =
    let z : n ≡ 0 = omega (arith, p.behind) in
    let e : at + n ≡ at = omega (arith, z) in
    (told_none n z, subst (λ (m : ℕ). Puts d at [] m d') e p)
told_put f (some v) d at n d' p =
    let z : n ≢ 0 = λ e. absurd (omega (arith, e, p.behind, bytes_some v)) in
    subst (λ (r : Told ℕ). IsSomeAnd r (λ m. Puts d at (bytes v) (at + m) d')) (sym (told_some n z)) p

module _ (t pool : List ℕ) (row q : ℕ) (e : q ≡ cell t row 2) (cur raw d : List ℕ) (at : ℕ) where
  abbrev ws : List (List ℕ)
  ws = words_in t pool row

  module _ (f : Leaf) (w cs : List ℕ) (sh : Shut t pool row cur raw f w cs) where
    kind_q : kind_of q (cell t row 3) ws ≡ leaf f
    kind_q = ap (λ (c : ℕ). kind_of c (cell t row 3) ws) e ∙ sh.kind

    its : Coded q (cell t row 3) f
    its = subst (Coded q (cell t row 3)) (ap unleaf kind_q) (coded q (cell t row 3) ws (ap is_group kind_q))

    money_q : q ≡ 9 → (w ≡ cur) × Ccy cur
    money_q n = sh.money (ap unleaf (sym kind_q) ∙ ap (λ (c : ℕ). unleaf (kind_of c (cell t row 3) ws)) n)

    enum_q : q ≡ 6 → f ≡ enum ws
    enum_q n = ap unleaf (sym kind_q) ∙ ap (λ (c : ℕ). unleaf (kind_of c (cell t row 3) ws)) n

  -- ---- ENUM

  module _ (n : Told ℕ) (d' : List ℕ) (o : Worded ws raw d at n d') where
    word_none : (w cs : List ℕ) → LeafOk (enum ws) → Spells raw cs → place_in ws raw ≡ 0 → (u : Option Value) → Yields house_kinds (enum ws) w cs u → ValuePut house_kinds (enum ws) u d at n d'
    word_none w cs ok sp z none y = o.none z
    word_none w cs ok sp z (some v) y =
        let p = spelt_word ws w raw cs v ok.1 sp y in
        absurd (place_none raw ws z p.word.before p.word.within p.word.is)

    word_some : (w cs : List ℕ) → LeafOk (enum ws) → Spells raw cs → (p : ℕ) → place_in ws raw ≡ suc p → (u : Option Value) → Yields house_kinds (enum ws) w cs u → ValuePut house_kinds (enum ws) u d at n d'
    word_some w cs ok sp p z = go
      where
        h : (p < length ws) × (get_or ws p [] ≡ raw)
        h = place_found raw ws p z

        found : Spelt (enum ws) w cs (place (suc p))
        found =
            let at_p : WordAt ws (suc p) raw = record { before = p; from = refl; within = h.0; is = h.1 } in
            let r = word_spelt ws w raw (suc p) ok.1 at_p in
            subst (λ (c : List ℕ). Spelt (enum ws) w c (place (suc p))) (one_text raw raw cs r.0 sp) r.1

        go : (u : Option Value) → Yields house_kinds (enum ws) w cs u → ValuePut house_kinds (enum ws) u d at n d'
        go none y = absurd (y (place (suc p)) found)
        go (some v) y =
            subst (λ (bs : List ℕ). IsSomeAnd n (λ m. Puts d at bs (at + m) d')) (ap bytes (value_laws.one (enum ws) w cs (place (suc p)) v ok found y))
            (o.some p z (omega (arith, h.0, ok.0.1)))

    word_put : (w cs : List ℕ) → LeafOk (enum ws) → Spells raw cs → (p : ℕ) → place_in ws raw ≡ p → (u : Option Value) → Yields house_kinds (enum ws) w cs u → ValuePut house_kinds (enum ws) u d at n d'
    word_put w cs ok sp zero z = word_none w cs ok sp z
    word_put w cs ok sp (suc p) z = word_some w cs ok sp p z

    as_enum : (f : Leaf) (w cs : List ℕ) → f ≡ enum ws → LeafOk f → Spells raw cs → (u : Option Value) → Yields house_kinds f w cs u → ValuePut house_kinds f u d at n d'
    as_enum f w cs i ok sp =
        subst (λ (m : Leaf). (u : Option Value) → Yields house_kinds m w cs u → ValuePut house_kinds m u d at n d') (sym i) (word_put w cs (subst LeafOk i ok) sp (place_in ws raw) refl)

    pub valued_word : q ≡ 6 → Valued house_kinds t pool row cur raw d at n d'
    valued_word z = record {
      most = IfSome_then n o.most (λ m h. omega (arith, h));
      long = o.long;
      value = λ f w cs sh. as_enum f w cs (enum_q f w cs sh z) sh.ok sh.chars;
    }

  -- ---- the others, written

  module _ (other : q ≢ 6) (n : ℕ) where
    module _ (d' : List ℕ) (p : Written q (cell t row 3) cur raw d at n d') where
      written_put : (f : Leaf) (w cs : List ℕ) → Shut t pool row cur raw f w cs → (u : Option Value) → Yields house_kinds f w cs u → Puts d at (given f u) (at + n) d'
      written_put f w cs sh none u =
          let i = its f w cs sh in
          let r = write_none f q (cell t row 3) i.number other (i.given other) sh.ok w cur (λ z. (money_q f w cs sh z).0) raw d at n d' p (no_other f w raw cs sh.chars u) in
          record { behind = omega (arith, r.0); long = ap length r.1; is = λ h. r.1 ∙ (puts_none d at).is h }
      written_put f w cs sh (some v) u =
          let i = its f w cs sh in
          let r = write_is f q (cell t row 3) i.number other (i.given other) sh.ok w cur (λ z. (money_q f w cs sh z).0) raw d at n d' p cs v sh.chars u in
          puts_pasted d at (bytes v) n d' r.0 r.1

      written_is : Valued house_kinds t pool row cur raw d at (told n) d'
      written_is = record {
        most = told_most n longest_value (omega (arith, p.count, gives_few q (cell t row 3) cur raw p.found p.gives));
        long = ap length p.is ∙ length_pasted d at p.found;
        value = λ f w cs sh u y. told_put f u d at n d' (written_put f w cs sh u y);
      }

    -- ---- and counted, with no buffer

    module _ (no_buffer : length d ≡ 0) (p : Sized q (cell t row 3) raw n) where
      counted : (f : Leaf) (w cs : List ℕ) → Coded q (cell t row 3) f → LeafOk f → Spells raw cs → Ccy w → (u : Option Value) → Yields house_kinds f w cs u → Puts d at (given f u) (at + n) d
      counted f w cs i ok sp cw none u =
          let r : n ≡ 0 = size_none f q (cell t row 3) i.number other (i.given other) ok w cw raw n p (no_other f w raw cs sp u) in
          record { behind = omega (arith, r); long = refl; is = λ h. (puts_none d at).is h }
      counted f w cs i ok sp cw (some v) u =
          let r : n ≡ length (bytes v) = size_is f q (cell t row 3) i.number other (i.given other) ok w cw raw n p cs v sp u in
          record { behind = omega (arith, r); long = refl; is = λ h. absurd (omega (arith, h, no_buffer, bytes_some v)) }

      -- of another than an amount, with any currency
      any_currency : (f : Leaf) (w cs : List ℕ) → code f ≢ 9 → (u : Option Value) → Yields house_kinds f w cs u → Yields house_kinds f euro cs u
      any_currency f w cs c none y = λ v st. y v (spelt_any f euro w cs v c st)
      any_currency f w cs c (some v) y = spelt_any f w euro cs v c y

      counted_any : (f : Leaf) (w cs : List ℕ) → Shut t pool row cur raw f w cs → (u : Option Value) → Yields house_kinds f w cs u → Puts d at (given f u) (at + n) d
      counted_any f w cs sh u y = elim (ℕ_discrete q 9) [
        | yes z ↦ let m = money_q f w cs sh z in counted f w cs (its f w cs sh) sh.ok sh.chars (subst Ccy (sym m.0) m.1) u y
        | no z ↦ let c : code f ≢ 9 = λ x. z (sym (its f w cs sh).number ∙ x) in
            counted f euro cs (its f w cs sh) sh.ok sh.chars euro_is u (any_currency f w cs c u y)
      ]

      counted_is : Valued house_kinds t pool row cur raw d at (told n) d
      counted_is = record {
        most = let x = p euro euro_is in told_most n longest_value (omega (arith, x.count, gives_few q (cell t row 3) euro raw x.found x.gives));
        long = refl;
        value = λ f w cs sh u y. told_put f u d at n d (counted_any f w cs sh u y);
      }

    -- ---- both, as the code has k, and tells how many

    module _ (k : ℕ) (g : k ≡ cell t row 3) (r : Told ℕ) (i : r ≡ told n) where
      pub valued_written : (d' : List ℕ) → Written q k cur raw d at n d' → Valued house_kinds t pool row cur raw d at r d'
      valued_written d' p =
          subst (λ (m : Told ℕ). Valued house_kinds t pool row cur raw d at m d') (sym i)
          (written_is d' (subst (λ (m : ℕ). Written q m cur raw d at n d') g p))

      pub valued_counted : length d ≡ 0 → Sized q k raw n → Valued house_kinds t pool row cur raw d at r d
      valued_counted h p =
          subst (λ (m : Told ℕ). Valued house_kinds t pool row cur raw d at m d) (sym i)
          (counted_is h (subst (λ (m : ℕ). Sized q m raw n) g p))

-- ---- a word

module _ (wl : List (List ℕ)) (raw d : List ℕ) (at word : ℕ) (e : word ≡ byte_of (place_in wl raw)) where
  -- a place that a byte has is that byte
  word_is : (p : ℕ) → place_in wl raw ≡ p → p ≤ 255 → word ≡ p
  word_is p h l = e ∙ sym (byte_near p (place_in wl raw) (sym h) l)

  pub worded_none : word ≡ 0 → Worded wl raw d at None d
  worded_none z = record {
    most = tt;
    long = refl;
    none = λ h. (refl, puts_none d at);
    some = λ p h l. absurd (omega (arith, z, word_is (suc p) h (omega (arith, l))));
  }

  pub worded_some : word ≢ 0 → (d' : List ℕ) → d' ≡ pasted d at (word ∷ []) → Worded wl raw d at (Some 1) d'
  worded_some z d' f = record {
    most = let one : 1 ≤ 1 = omega arith in one;
    long = ap length f ∙ length_pasted d at (word ∷ []);
    none = λ h. absurd (z (word_is 0 h (omega arith)));
    some = λ p h l. puts_pasted d at (suc p ∷ []) 1 d' refl (f ∙ ap (λ (n : ℕ). pasted d at (n ∷ [])) (word_is (suc p) h (omega (arith, l))));
  }

  -- where nothing is written
  pub worded_size : d ≡ pasted d at (word ∷ []) → (r : Told ℕ) → r ≡ then_some (not (eqb word 0)) 1 → Worded wl raw d at r d
  worded_size f r i = elim (ℕ_discrete word 0) [
    | yes z ↦ subst (λ (m : Told ℕ). Worded wl raw d at m d) (sym (i ∙ ap (λ (b : Bool). then_some (not b) 1) (eq-eqb word 0 z))) (worded_none z)
    | no z ↦ subst (λ (m : Told ℕ). Worded wl raw d at m d) (sym (i ∙ ap (λ (b : Bool). then_some (not b) 1) (ne_eqb word 0 z))) (worded_some z d f)
  ]
