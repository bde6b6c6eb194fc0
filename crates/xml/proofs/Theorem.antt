-- The automaton takes house XML, and its first dead step is where no house XML text goes on. Assumes nothing.
use mathlib.Core.Path.{◌≡◌, refl, sym, ◌∙◌, ap, subst}
use mathlib.Core.Bool.{Bool, true, false, cond, true≢false}
use mathlib.Core.List.{List, [], ◌∷◌, ◌++◌, append-nil}
use Prim.Native.Nat.{ℕ, zero, suc, ◌≤◌, zero-le, suc-le-suc}
use native.Mathlib.Nat.{le_of_suc-le-suc}
use native.Mathlib.Omega.{arith}
use lib.ListN.{length, take}
use Rattle.xml.specs.House.{no_more, empty_tag, full, declaration, HouseXml, Viable}
use Rattle.xml.specs.mirror.Auto.{done, start, St, dead, at, step, run, is_dead, live_len}
use Rattle.xml.proofs.Runs.{to_after, from_after}
use Rattle.xml.proofs.Lang.{Rest, StartL, BeforeL, RootL, ElementL, e_empty, e_full, element, LS, back, live}
use Rattle.xml.proofs.Forward.{start_run}
use Rattle.xml.proofs.Render.{render_on}
use Rattle.text.specs.Lists.{LongestBeginning}

house : (s : List ℕ) → StartL s → HouseXml s
house s o = go (element 15 [] ro.head ro.rest ro.starts ro.then)
  where
    be : BeforeL o.rest
    be = o.then

    ro : RootL be.rest
    ro = be.then

    go : ElementL 15 (Rest 16 []) (60 ∷ ro.head ∷ ro.rest) → HouseXml s
    go (e_empty g good u et h) =
        record {
          tree = record { declared = o.declared; before = be.gap; root = empty_tag g no_more; after = u };
          good = record { before = be.blanks; one = refl; root = from_after (empty_tag g no_more) 16 (good, tt); after = h };
          is = o.is ∙ ap (λ (l : List ℕ). declaration o.declared ++ l) (be.is ∙ ap (λ (l : List ℕ). be.gap ++ l) (ap (λ (l : List ℕ). 60 ∷ l) ro.is ∙ et ∙ sym (render_on (empty_tag g no_more) u)));
        }
    go (e_full g good i gi b bs u et h) =
        record {
          tree = record { declared = o.declared; before = be.gap; root = full g i b no_more; after = u };
          good = record { before = be.blanks; one = refl; root = from_after (full g i b no_more) 16 (good, gi, bs, tt); after = h };
          is = o.is ∙ ap (λ (l : List ℕ). declaration o.declared ++ l) (be.is ∙ ap (λ (l : List ℕ). be.gap ++ l) (ap (λ (l : List ℕ). 60 ∷ l) ro.is ∙ et ∙ sym (render_on (full g i b no_more) u)));
        }

back_step : (st : St) (x : ℕ) (t : List ℕ) → LS (step st x) t → LS st (x ∷ t)
unfolding step
back_step dead x t h = record { is = h.is }
back_step (at s) x t h = record { is = back s x t h }

run_back : (p : List ℕ) (st : St) (t : List ℕ) → LS (run st p) t → LS st (p ++ t)
unfolding run
run_back [] st t h = h
run_back (x ∷ p) st t h = back_step st x (p ++ t) (run_back p (step st x) t h)

-- a text is house XML exactly where the automaton ends in `done`
pub accepts : (s : List ℕ) → HouseXml s → run (at start) s ≡ at done
accepts s o =
    let t = o.tree in
    let g = o.good in
    ap (run (at start)) (o.is ∙ ap (λ (l : List ℕ). declaration t.declared ++ (t.before ++ l)) (render_on t.root t.after))
    ∙ start_run t.declared t.before t.root t.after g.before g.one (to_after t.root 16 g.root) g.after

pub accepted : (s : List ℕ) → run (at start) s ≡ at done → HouseXml s
accepted s e = house s (subst (λ (l : List ℕ). LS (at start) l) (append-nil s) (run_back s (at start) [] (subst (λ (st : St). LS st []) (sym e) (record { is = tt })))).is

pub dead_run : (p : List ℕ) → run dead p ≡ dead
unfolding run step
dead_run [] = refl
dead_run (x ∷ p) = dead_run p

run_append : (p : List ℕ) (st : St) (t : List ℕ) → run st (p ++ t) ≡ run (run st p) t
unfolding run
run_append [] st t = refl
run_append (x ∷ p) st t = run_append p (step st x) t

dead_done : {A : Type 0} → dead ≡ at done → A
dead_done e = let z : ◌≡◌ {A = ℕ} 0 1 = cc in absurd (omega arith)

lives : (st : St) (t : List ℕ) → run st t ≡ at done → is_dead st ≡ false
lives dead t e = dead_done (sym (dead_run t) ∙ e)
lives (at s) t e = refl

-- a beginning is viable exactly where the automaton lives
viable_live : (p : List ℕ) → Viable p → is_dead (run (at start) p) ≡ false
unfolding Viable
viable_live p v = lives (run (at start) p) v.0 (sym (run_append p (at start) v.0) ∙ accepts (p ++ v.0) v.1)

some : (st : St) → is_dead st ≡ false → (t : List ℕ) × LS st t
some dead e = absurd (true≢false e)
some (at s) e = let w = live s in (w.0, record { is = w.1 })

live_viable : (p : List ℕ) → is_dead (run (at start) p) ≡ false → Viable p
unfolding Viable
live_viable p e = let w = some (run (at start) p) e in (w.0, house (p ++ w.0) (run_back p (at start) w.0 w.1).is)

pub dead_is : (st : St) → is_dead st ≡ true → st ≡ dead
dead_is dead e = refl
dead_is (at s) e = absurd (true≢false (sym e))

-- the facts of `live_len` from any state that lives
record Live (st : St) (s : List ℕ) (n : ℕ) : Type 0 where
  within : n ≤ length s
  alive : is_dead (run st (take n s)) ≡ false
  most : (k : ℕ) → k ≤ length s → is_dead (run st (take k s)) ≡ false → k ≤ n

live_len_lem : (s : List ℕ) (st : St) → is_dead st ≡ false → Live st s (live_len st s)
unfolding run live_len
live_len_lem [] st e = record { within = zero-le; alive = e; most = λ k h w. h }
live_len_lem (x ∷ s) st e = go (is_dead (step st x)) refl (live_len_lem s (step st x))
  where
    go : (b : Bool) → is_dead (step st x) ≡ b → (is_dead (step st x) ≡ false → Live (step st x) s (live_len (step st x) s)) → Live st (x ∷ s) (cond b zero (suc (live_len (step st x) s)))
    go false d ih = let l = ih d in record { within = suc-le-suc l.within; alive = l.alive; most = m l }
      where
        m : Live (step st x) s (live_len (step st x) s) → (k : ℕ) → k ≤ length (x ∷ s) → is_dead (run st (take k (x ∷ s))) ≡ false → k ≤ suc (live_len (step st x) s)
        m l zero h w = zero-le
        m l (suc k) h w = suc-le-suc (l.most k (le_of_suc-le-suc h) w)
    go true d ih = record { within = zero-le; alive = e; most = m }
      where
        m : (k : ℕ) → k ≤ length (x ∷ s) → is_dead (run st (take k (x ∷ s))) ≡ false → k ≤ zero
        m zero h w = zero-le
        m (suc k) h w = absurd (true≢false (ap is_dead (sym (ap (λ (z : St). run z (take k s)) (dead_is (step st x) d) ∙ dead_run (take k s))) ∙ w))

-- the longest viable beginning is what stands before the automaton dies
pub longest : (s : List ℕ) → LongestBeginning Viable s (live_len (at start) s)
longest s =
    let l = live_len_lem s (at start) refl in
    record { within = l.within; begins = live_viable (take (live_len (at start) s) s) l.alive; most = λ k h v. l.most k h (viable_live (take k s) v) }

-- what is not taken is no house XML
pub refused : (s : List ℕ) → (run (at start) s ≡ at done → ⊥) → HouseXml s → ⊥
refused s n o = n (accepts s o)
