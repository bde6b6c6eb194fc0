-- How many items the reader counts: one number, some number, and on acceptance fewer than the image has bytes. Assumes nothing.
use mathlib.Core.Path.{◌≡◌, refl, sym, ◌∙◌, ap, subst}
use mathlib.Core.Logic.{◌≢◌}
use mathlib.Core.List.{List}
use Prim.Native.Nat.{ℕ, suc, ◌+◌, ◌≤◌}
use native.Mathlib.Omega.{arith}
use lib.ListN.{length, take}
use Rattle.answer.specs.declared.Answer.{Answer}
use Rattle.list.specs.Listing.{Listing}
use Rattle.list.specs.WellFormed.{WellFormed}
use Rattle.list.specs.Content.{items}
use Rattle.image.specs.Image.{Values, Lawful, versioned}
use Rattle.image.specs.Place.{Among, Apart, Accepts, Reads, over, foreign, version, kindless, broken, whole_image}
use Rattle.image.specs.Count.{Taken, closed, unclosed, CountsItems, counted, headless, uncounted}
use Rattle.image.proofs.content.Taken.{taken_one, body_few}
use Rattle.image.proofs.answers.Heads.{front_size}
use Rattle.image.proofs.answers.One.{not_kindless, accepting}

module _ (vs : Values) (ls : List Listing) where
  -- of a run that begins with an image, its items and the closing 0
  accepts_counts : (run : List ℕ) (k : ℕ) (w : Accepts vs ls run k) (a : Answer) → a.code ≡ 0 → CountsItems vs ls run a (suc (length (items w.holds.content)))
  accepts_counts run k w a z = counted w.list w.among w.head w.after w.front w.at (closed w.size w.holds z refl)

  -- some number, whatever is answered
  pub counts_some : (run : List ℕ) (a : Answer) → Reads vs ls run a → (n : ℕ) × CountsItems vs ls run a n
  counts_some run a (over h e) = let c = ap (λ (x : Answer). x.code) e in (0, uncounted (λ z. omega (arith, c)) (λ z. omega (arith, c)) refl)
  counts_some run a (foreign h x e) = let c = ap (λ (x : Answer). x.code) e in (0, uncounted (λ z. omega (arith, c)) (λ z. omega (arith, c)) refl)
  counts_some run a (version h x y w v e) = let c = ap (λ (x : Answer). x.code) e in (0, uncounted (λ z. omega (arith, c)) (λ z. omega (arith, c)) refl)
  counts_some run a (kindless h x y e) = (0, headless (λ l i g s f at. not_kindless run l g s f at x (y l i)) refl)
  counts_some run a (broken h l i g f s at n b e) = (length b.most.whole, counted l i g s f at (unclosed n b (ap (λ (x : Answer). x.code) e) refl))
  counts_some run a (whole_image h n w e) = (suc (length (items w.holds.content)), accepts_counts run n w a (ap (λ (x : Answer). x.code) e))

  module _ (lw : Lawful vs) (wf : (l : Listing) → Among l ls → WellFormed l) (apart : Apart ls) (run : List ℕ) (a : Answer) where
    not_counted : (l : Listing) (s : List ℕ) (n : ℕ) → Taken vs l s a n → a.code ≢ 0 → a.code ≢ 17 → ⊥
    not_counted l s n (closed k w z e) x y = x z
    not_counted l s n (unclosed k b z e) x y = y z

    -- and only one
    pub counts_one : (m n : ℕ) → CountsItems vs ls run a m → CountsItems vs ls run a n → m ≡ n
    counts_one m n (counted l i h s f at t) (counted l' i' h' s' f' at' t') =
        let o = apart.one l l' i i' h h' s s' f f' (sym at ∙ at') in
        taken_one vs lw l (wf l i) s a m n t (subst (λ (x : Listing). Taken vs x s a n) (sym o.0) (subst (λ (x : List ℕ). Taken vs l' x a n) (sym o.2) t'))
    counts_one m n (counted l i h s f at t) (headless x e) = absurd (x l i h s f at)
    counts_one m n (counted l i h s f at t) (uncounted x y e) = absurd (not_counted l s m t x y)
    counts_one m n (headless x e) (counted l i h s f at t) = absurd (x l i h s f at)
    counts_one m n (headless x e) (headless y d) = e ∙ sym d
    counts_one m n (headless x e) (uncounted y z d) = e ∙ sym d
    counts_one m n (uncounted x y e) (counted l i h s f at t) = absurd (not_counted l s n t x y)
    counts_one m n (uncounted x y e) (headless z d) = e ∙ sym d
    counts_one m n (uncounted x y e) (uncounted z u d) = e ∙ sym d

    -- "On acceptance it is at most the image's length less four": less five in version 1, less six in version 2, for the header has as many
    -- bytes, every item one at least, and the closing 0 one
    pub few_items : (n : ℕ) → Reads vs ls run a → CountsItems vs ls run a n → a.code ≡ 0
        → (n + 4 ≤ a.place) × (take 5 run ≡ versioned 1 → n + 5 ≤ a.place) × (take 5 run ≡ versioned 2 → n + 6 ≤ a.place)
    few_items n r c z = (omega (arith, few, sized.0), (λ v. omega (arith, few, sized.1 v)), (λ v. omega (arith, few, sized.2 v)))
      where
        w : Accepts vs ls run a.place
        w = (accepting vs ls run a r z).1

        few : n + length w.head ≤ a.place
        few = omega (arith, counts_one n (suc (length (items w.holds.content))) c (accepts_counts run a.place w a z), body_few vs w.list w.after w.size w.holds, w.long)

        sized : (5 ≤ length w.head) × (take 5 run ≡ versioned 1 → length w.head ≡ 5) × (take 5 run ≡ versioned 2 → length w.head ≡ 6)
        sized = subst (λ (x : List ℕ). (5 ≤ length w.head) × (take 5 x ≡ versioned 1 → length w.head ≡ 5) × (take 5 x ≡ versioned 2 → length w.head ≡ 6)) (sym w.at) (front_size w.list w.head w.front w.after)
