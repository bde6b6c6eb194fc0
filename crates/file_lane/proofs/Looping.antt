-- The lane's loop over a table, turn by turn: what comes from here on comes from the start. Assumes nothing.
use mathlib.Core.Path.{◌≡◌, refl, sym, ◌∙◌, ap, subst}
use mathlib.Core.Logic.{◌≢◌}
use mathlib.Core.List.{List, ◌++◌, append_assoc}
use Prim.Native.Nat.{ℕ, ◌+◌, ◌*◌, ◌/◌, ◌%◌, ◌≤◌, ◌<◌}
use native.Mathlib.Omega.{arith}
use lib.ListN.{length, get_or, take, drop, take-append-drop}
use Rattle.text.specs.Bytes.{is_blank}
use Rattle.text.specs.Lists.{span}
use Rattle.file.specs.Instance.{house_kinds}
use Rattle.file_nodes.specs.Run.{Sort, over, shut, group, leaf, Node}
use Rattle.text.specs.Little.{Loaded}
use Rattle.file_nodes.specs.mirror.Kept.{Masked, In, Tabled}
use Rattle.file_lane.specs.mirror.Turn.{Sought, here, beside, Stood, Turned, Turns}
use Rattle.file_lane.specs.mirror.Leads.{Comes, Leads}
use Rattle.file_lane.proofs.Masking.{masked_at, stands, stood}
use Rattle.file_lane.proofs.Seeking.{info_at, other_at}
use Rattle.file_lane.proofs.Going as going

-- ---- a node that is found

module _ (t : List ℕ) (at : ℕ → Node) (b : Tabled t at) where
  pub tag_masked : (n : ℕ) → In t n → Masked t (11 * n) (take 16 (at n).tag)
  tag_masked n h =
      let e : 11 * n + 0 ≡ 11 * n = omega arith in
      subst (λ (i : ℕ). Masked t i (take 16 (at n).tag)) e (masked_at t (11 * n) 0 (take 16 (at n).tag) (b.kept n h).tag)

  -- r is one of the table's, and the tag's first bytes stand there
  pub record Found (s : List ℕ) (i r : ℕ) : Type 0 where
    pub is : In t r
    pub tag : Stood (at r) s i

  module _ (s : List ℕ) (start o i x y : ℕ) (lx : Loaded 8 s i x) (ly : Loaded 8 s (i + 8) y) where
    pub found : {n r : ℕ} → Sought t x y n r → In t n → Found s i r
    found {n} {r} (here m) h = record { is = h; tag = stands t (11 * n) (take 16 (at n).tag) s i x y (tag_masked n h) lx ly m }
    found {n} {r} (beside f g z) h =
        let e = other_at t at n b h in
        found z (subst (In t) (sym e) ((b.leads n h).other (subst (λ (j : ℕ). 0 < j) e g)).1)

    pub led : (sum : ℕ) → span is_blank (drop i s) ≡ 0 → {n r : ℕ} → Sought t x y n r → In t n → Leads house_kinds at s start o n i sum → Leads house_kinds at s start o r i sum
    led sum z {n} {r} (here m) h l = l
    led sum z {n} {r} (beside f g w) h l =
        let e = other_at t at n b h in
        let p : 0 < (at n).other = subst (λ (j : ℕ). 0 < j) e g in
        let never : (u : List ℕ) → drop i s ≡ (at n).tag ++ u → ⊥ = λ u j.
        f (stood t (11 * n) (take 16 (at n).tag) s i x y (drop 16 (at n).tag ++ u) (tag_masked n h) lx ly
        (j ∙ ap (λ (v : List ℕ). v ++ u) (sym (take-append-drop 16 (at n).tag)) ∙ append_assoc (take 16 (at n).tag) (drop 16 (at n).tag) u)) in
        led sum z w (subst (In t) (sym e) ((b.leads n h).other p).1)
        (subst (λ (j : ℕ). Leads house_kinds at s start o j i sum) (sym e) (going.beside house_kinds at s start o n i sum z never p l))

  -- ---- what is passed

  module _ (s : List ℕ) (r i j m : ℕ) (h : In t r) (w : Turned (at r).sort (at r) s i j m) where
    module _ (start o sum : ℕ) (l : Leads house_kinds at s start o r i sum) where
      -- the root's end
      pub turn_ends : (at r).next ≡ 0 → Comes house_kinds at s start o (sum + m)
      turn_ends e =
          let z = (b.leads r h).over.0 e in
          let v = subst (λ (y : Sort). Turned y (at r) s i j m) z w in
          subst (λ (n : ℕ). Comes house_kinds at s start o (sum + n)) (sym v.2) (going.ending house_kinds at s start o r i sum (drop j s) z v.0 v.1 l)

      -- any other tag
      pub turn_goes : (at r).next ≢ 0 → Leads house_kinds at s start o (at r).next j (sum + m)
      turn_goes e = go (at r).sort refl w
        where
          to : (p : ℕ) → p ≡ sum + m → Leads house_kinds at s start o (at r).next j p → Leads house_kinds at s start o (at r).next j (sum + m)
          to p g y = subst (λ (n : ℕ). Leads house_kinds at s start o (at r).next j n) g y

          go : (y : Sort) → (at r).sort ≡ y → Turned y (at r) s i j m → Leads house_kinds at s start o (at r).next j (sum + m)
          go over z v = absurd (e ((b.leads r h).over.1 z))
          go shut z v = to sum (omega (arith, v.1)) (going.shutting house_kinds at s start o r i j sum z v.0 l)
          go group z v = to (1 + sum) (omega (arith, v.1)) (going.opening house_kinds at s start o r i j sum z v.0 l)
          go (leaf f q) z v =
              let u = v.2 in
              let x = u.text in
              to (1 + sum + length x.bytes) (omega (arith, x.size))
              (going.telling house_kinds at s start o r i v.0 u.from j sum f q u.rest u.currency x.raw x.bytes z v.1 u.is x.is u.head x.took l)

-- ---- the loop's invariant

-- at node n and place i, with this sum so far
pub record Loop (t s : List ℕ) (o n i sum : ℕ) : Type 0 where
  pub some : 0 < n
  pub few : sum ≤ 7 + 65538 * i
  pub leads : (at : ℕ → Node) → Tabled t at → In t n × Leads house_kinds at s 1 o n i sum

pub loop_start : (t s : List ℕ) (o : ℕ) → length t ≡ 1045 → Loop t s o 1 o 7
loop_start t s o h = record { some = omega arith; few = omega arith; leads = λ at b. ((omega arith, omega arith), going.begin house_kinds at s 1 o) }

module _ (t s : List ℕ) (o n i sum j x y r : ℕ) (v : Loop t s o n i sum) (e : j ≡ i + span is_blank (drop i s)) (lx : Loaded 8 s j x) (ly : Loaded 8 s (j + 8) y) (f : Sought t x y n r) where
  no_blank : span is_blank (drop j s) ≡ 0
  no_blank = going.after_blanks s i j e

  module _ (i' m : ℕ) (w : Turns t (11 * r) s j i' m) where
    module _ (at : ℕ → Node) (b : Tabled t at) where
      here_found : Found t at b s j r
      here_found = found t at b s 1 o j x y lx ly f (v.leads at b).0

      turned : Turned (at r).sort (at r) s j i' m
      turned = w (at r) (b.kept r here_found.is) here_found.tag

      here_leads : Leads house_kinds at s 1 o r j sum
      here_leads = let z = v.leads at b in led t at b s 1 o j x y lx ly sum no_blank f z.0 (going.over_blanks house_kinds at s 1 o n i j sum e z.1)

      next_is : (d : ℕ) → d ≡ get_or t (11 * r + 4) 0 / 65536 % 256 → d ≡ (at r).next
      next_is d z = z ∙ ap (λ (c : ℕ). c / 65536 % 256) (sym (info_at t r)) ∙ (b.kept r here_found.is).next

    pub loop_ends : (d : ℕ) → d ≡ get_or t (11 * r + 4) 0 / 65536 % 256 → d ≡ 0 → (at : ℕ → Node) → Tabled t at → Comes house_kinds at s 1 o (sum + m)
    loop_ends d z c at b = turn_ends t at b s r j i' m (here_found at b).is (turned at b) 1 o sum (here_leads at b) (sym (next_is at b d z) ∙ c)

    -- the next turn is further on
    pub loop_again : m ≤ 65538 → j < i' → (d : ℕ) → d ≡ get_or t (11 * r + 4) 0 / 65536 % 256 → d ≢ 0 → Loop t s o d i' (sum + m)
    loop_again k g d z c = record {
      some = omega arith;
      few = omega (arith, k, v.few, e, g);
      leads = λ at b.
          let h = (here_found at b).is in
          let a = next_is at b d z in
          subst (λ (n : ℕ). In t n × Leads house_kinds at s 1 o n i' (sum + m)) (sym a)
          ((b.leads r h).next (subst (λ (n : ℕ). 0 < n) a (omega arith)), turn_goes t at b s r j i' m h (turned at b) 1 o sum (here_leads at b) (λ p. c (a ∙ p)));
    }
