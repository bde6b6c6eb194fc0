-- A pass with document 01's types, from what the code's calls told. Assumes nothing.
use Rattle.std.specs.Prelude.{Option as Told, None, Some, Result, Ok, Err, MatchResult, IfOk, IfErr, IsErrAnd, is_ok, ok_or}
use mathlib.Core.Path.{◌≡◌, refl, sym, ◌∙◌, ap, subst}
use mathlib.Core.Bool.{true≢false}
use mathlib.Core.List.{List, [], ◌∷◌, ◌++◌}
use Prim.Native.Nat.{ℕ, ◌+◌, ◌-◌, ◌≤◌, ◌<◌}
use native.Mathlib.Omega.{arith}
use lib.ListN.{length}
use lib.Seq.{slice}
use Rattle.answer.specs.declared.Answer.{Answer}
use Rattle.answer.specs.Table.{bad_value}
use Rattle.text.specs.Pasting.{pasted}
use Rattle.text.specs.Puts.{Puts}
use Rattle.list.specs.tables.Table.{list_of}
use Rattle.list.specs.tables.Sound.{Sound}
use Rattle.xml.specs.House.{HouseXml}
use Rattle.xml.specs.Message.{message_of}
use Rattle.file_walk.specs.declared.step.Here.{Here}
use Rattle.file_walk.specs.declared.step.Refusal.{Refusal}
use Rattle.file_walk.specs.declared.level.Level.{Level}
use Rattle.file_walk.specs.declared.step.Turn.TheVariants.{Opened, Closed, Ended}
use Rattle.file_walk.specs.mirror.Stride.{Stepped, step_in, stack_in}
use Rattle.file_walk.specs.mirror.Begin.{Rooted, begin_in}
use Rattle.image.specs.Image.{header}
use Rattle.file.specs.Instance.{house_kinds}
use Rattle.file_measure.specs.Measured.{Measured}
use Rattle.file_measure.specs.Pass.{Opens, Shuts, Ready}
use Rattle.value.specs.decided.Spell.{spell}
use Rattle.file.proofs.answers.House.{spelling, computing}
use Rattle.file_measure.proofs.Coin.{coins}
use Rattle.file_measure.proofs.End.{says_of}
use Rattle.file_measure.proofs.Going.{Computed, Going, begun, begin_refused, begin_opened, goes_first, at_most, step_refused, step_enters, step_leaves, step_ends, goes_in, goes_out, bad_value_lem, ends_in}

-- document 01's types, and `spell`
abbrev pub house_computed : Computed
house_computed = record { kinds = house_kinds; spell = spell; computes = computing }

-- what is handed on of the root's tag: of a refusal its answer alone
module _ (y : Result Here Answer) where
  abbrev pub Handed : Rooted → Type 0
  Handed x = MatchResult x (λ h. y ≡ Ok h) (λ r. IsErrAnd y (λ a. a ≡ r.answer))

  same_root : (a b : Here) → ◌≡◌ {A = Result Here Answer} (Ok a) (Ok b) → a ≡ b
  same_root a b e = cc

  pub handed_root : (x : Rooted) → Handed x → (h : Here) → y ≡ Ok h → x ≡ Ok h
  handed_root (Ok k) m h i = ap Ok (same_root k h (sym m ∙ i))
  handed_root (Err r) m h i = absurd (subst (λ z. IsErrAnd z (λ a. a ≡ r.answer)) i m)

  handed_answer : (x : Rooted) → Handed x → (a : Answer) → y ≡ Err a → (r : Refusal) × (x ≡ Err r) × (a ≡ r.answer)
  handed_answer (Ok k) m a i = absurd (true≢false (sym (ap is_ok m) ∙ ap is_ok i))
  handed_answer (Err r) m a i = (r, refl, subst (λ z. IsErrAnd z (λ b. b ≡ r.answer)) i m)

module _ (t pool s : List ℕ) where
  -- where the pass stands, whatever says that the tables are sound and the text is house XML
  abbrev pub GoingOn : List ℕ → ℕ → List ℕ → List Level → Here → ℕ → Type 0
  GoingOn d₁ a₁ d st here at = (sd : Sound t pool) (x : HouseXml s) → Going house_computed t pool s sd x d₁ a₁ d st here at

  -- what is promised of the whole pass
  abbrev Says : Result ℕ Answer → Type 0
  Says r = Measured house_kinds (list_of t pool) s r

  module _ (pre : Ready t pool s) where
    -- ---- the root's tag

    module _ (tried : Rooted) (e : tried ≡ begin_in t pool s) where
      pub begins_refused : (r : Refusal) → tried ≡ Err r → Says (Err r.answer)
      begins_refused r m x = begin_refused house_computed t pool s pre.sound x tried (begun house_computed t pool s pre.sound x tried e) [] r m

      pub begins_handed : (y : Result Here Answer) → Handed y tried → (a : Answer) → y ≡ Err a → Says (Err a)
      begins_handed y m a i =
          let h = handed_answer y tried m a i in
          subst (λ (b : Answer). Says (Err b)) (sym h.2) (begins_refused h.0 h.1)

      pub begins : (here : Here) → tried ≡ Ok here → (st : List Level) → length st ≡ 16 → (d₀ d₁ : List ℕ) (a₁ : ℕ) → Puts d₀ 0 (header (list_of t pool) ++ (1 ∷ [])) a₁ d₁
          → GoingOn d₁ a₁ d₁ st here a₁
      begins here m st h d₀ d₁ a₁ p sd x =
          goes_first house_computed t pool s sd x d₁ a₁ d₀ here (begin_opened house_computed t pool s sd x tried (begun house_computed t pool s sd x tried e) here m) st h p

    -- ---- a step

    module _ (d₁ : List ℕ) (a₁ : ℕ) (d : List ℕ) (st : List Level) (here : Here) (at : ℕ) (g : GoingOn d₁ a₁ d st here at) where
      abbrev gone : Going house_computed t pool s pre.sound pre.xml d₁ a₁ d st here at
      gone = g pre.sound pre.xml

      pub at_low : at ≤ 1000000000000
      at_low = at_most house_computed t pool s pre.sound pre.xml d₁ a₁ d st here at gone pre.small

      module _ (step : Stepped) (e : step ≡ step_in t pool s st here) (st' : List Level) (f : st' ≡ stack_in t pool s st here) where
        pub loop_refused : (a : Answer) → step ≡ Err a → Says (Err a)
        loop_refused a m x = step_refused house_computed t pool s pre.sound x d₁ a₁ d st here at (g pre.sound x) coins step st' e f [] a m

        module _ (to : Here) (m : step ≡ Ok (Opened to)) where
          pub group_less : length s - to.at < length s - here.at
          group_less =
              let w = step_enters house_computed t pool s pre.sound pre.xml d₁ a₁ d st here at gone coins step st' e f to m in
              omega (arith, w.on, w.stands.within)

          pub group_on : (r : ℕ) (d' : List ℕ) → Opens house_kinds t to.level.row d at r d' → GoingOn d₁ a₁ d' st' to r
          group_on r d' o sd x =
              goes_in house_computed t pool s sd x d₁ a₁ d st here at (g sd x) st' to
              (step_enters house_computed t pool s sd x d₁ a₁ d st here at (g sd x) coins step st' e f to m) r d' o

        pub root_end : (less : ℕ) → step ≡ Ok (Ended less) → (d₀ : List ℕ) → Puts d₀ 0 (header (list_of t pool) ++ (1 ∷ [])) a₁ d₁ → (d' : List ℕ) → d' ≡ pasted d at (0 ∷ [])
            → Says (Ok (at + 1))
        root_end less m d₀ p d' i x =
            says_of house_kinds (list_of t pool) (message_of x.tree) d₀ (Ok (at + 1)) d'
            (ends_in house_computed t pool s pre.sound x d₁ a₁ d st here at (g pre.sound x) spelling d₀ p st'
            (step_ends house_computed t pool s pre.sound x d₁ a₁ d st here at (g pre.sound x) coins step st' e f less m) d' i)

        module _ (to : Here) (less : ℕ) (m : step ≡ Ok (Closed to less)) where
          pub leaf_less : length s - to.at < length s - here.at
          leaf_less =
              let w = step_leaves house_computed t pool s pre.sound pre.xml d₁ a₁ d st here at gone coins step st' e f to less m in
              omega (arith, w.on, w.stands.within)

          abbrev Shutting : Told ℕ → List ℕ → Type 0
          Shutting r d' = Shuts house_kinds t pool here.level.row (slice here.value here.quote s) (slice here.at less s) d at r d'

          leaf_goes : (n : ℕ) (d' : List ℕ) → Shutting (Some n) d' → GoingOn d₁ a₁ d' st' to n
          leaf_goes n d' o sd x =
              goes_out house_computed t pool s sd x d₁ a₁ d st here at (g sd x) st' to less
              (step_leaves house_computed t pool s sd x d₁ a₁ d st here at (g sd x) coins step st' e f to less m) n d' o

          leaf_stops : (d' : List ℕ) → Shutting None d' → Says (Err (bad_value here.level.row here.level.place))
          leaf_stops d' o x =
              says_of house_kinds (list_of t pool) (message_of x.tree) [] (Err (bad_value here.level.row here.level.place)) d'
              (bad_value_lem house_computed t pool s pre.sound x d₁ a₁ d st here at (g pre.sound x) st' to less
              (step_leaves house_computed t pool s pre.sound x d₁ a₁ d st here at (g pre.sound x) coins step st' e f to less m) d' o [])

          -- as the code goes on, or says code 12
          module _ (d' : List ℕ) (a : Answer) where
            pub leaf_on : (r : Told ℕ) → Shutting r d' → (n : ℕ) → ok_or r a ≡ Ok n → GoingOn d₁ a₁ d' st' to n
            leaf_on None o n q = absurd (true≢false (sym (ap is_ok q)))
            leaf_on (Some i) o n q = subst (λ (z : Result ℕ Answer). IfOk z (GoingOn d₁ a₁ d' st' to)) q (leaf_goes i d' o)

            pub leaf_bad : (r : Told ℕ) → Shutting r d' → a ≡ bad_value here.level.row here.level.place → (v : Answer) → ok_or r a ≡ Err v → Says (Err v)
            leaf_bad None o q v i = subst (λ (z : Result ℕ Answer). IfErr z (λ u. Says (Err u))) i (subst (λ (u : Answer). Says (Err u)) (sym q) (leaf_stops d' o))
            leaf_bad (Some n) o q v i = absurd (true≢false (ap is_ok i))
