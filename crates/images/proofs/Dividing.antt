-- A run divided: an image's line, a loop that has written the lines of the first images, and that nothing else fits. Assumes nothing.
use mathlib.Core.Path.{◌≡◌, refl, sym, ◌∙◌, ap, ap₂, subst}
use mathlib.Core.Logic.{◌≢◌}
use mathlib.Core.List.{List, [], ◌∷◌, ◌++◌, append_assoc, append-nil}
use Prim.Native.Nat.{ℕ, ◌+◌, ◌-◌, ◌*◌, ◌≤◌, ◌<◌}
use native.Mathlib.Decide.{dec_lt}
use native.Mathlib.Omega.{arith}
use lib.ListN.{length, take, drop, length-append, length-drop}
use lib.Seq.{take_all}
use Rattle.io.specs.Counts.{IsPrefixLen}
use Rattle.text.specs.Digits.{in_digits}
use Rattle.text.specs.Pasting.{pasted}
use Rattle.text.proofs.Digits.{length_most}
use Rattle.text.proofs.Pasting.{pasted_then, head_pasted, length_pasted}
use Rattle.answer.specs.declared.Answer.{Answer}
use Rattle.answer.specs.Table.{limit}
use Rattle.program_line.specs.Line.{refusal}
use Rattle.program_line.proofs.Lines.{counts}
use Rattle.list.specs.Content.{items}
use Rattle.image.specs.Image.{items_bytes}
use Rattle.image.specs.Kinds.{values}
use Rattle.image.proofs.answers.Heads.{front_long}
use Rattle.image.proofs.answers.One.{accepting, accepts_in}
use Rattle.image_reading.specs.Reads.{stored, HouseReads, HouseCounts}
use Rattle.image_reading.specs.Forms.{Reading, Begun}
use Rattle.image_reading.proofs.House.{house_reads_one, begun_reads, begun_counts, house_counts_one, house_few_items}
use Rattle.image_hold.specs.Held.{Steps}
use Rattle.image_hold.specs.declared.held.Step.{Step}
use Rattle.images.specs.Divides.{Taken, image_line, Divides, at_end, another, left_over}

-- ---- an image's line

behind : (d u v : List ℕ) (to k : ℕ) → k ≡ to + length u → k + length v ≤ length d → pasted (pasted d to u) k v ≡ pasted d to (u ++ v)
behind d u v to k e h = ap (λ (m : ℕ). pasted (pasted d to u) m v) e ∙ pasted_then d to u v (omega arith)

module _ (place size count : ℕ) where
  abbrev p : List ℕ
  p = in_digits place

  abbrev q : List ℕ
  q = in_digits size

  abbrev c : List ℕ
  c = in_digits count

  pub length_line : length (image_line place size count) ≡ length p + 1 + length q + 1 + length c + 1
  unfolding image_line
  length_line = simp length-append (omega arith)

  -- of numbers below ten million
  pub line_most : place < 10000000 → size < 10000000 → count < 10000000 → length (image_line place size count) ≤ 24
  line_most f g h = omega (arith, length_line, length_most 6 place f, length_most 6 size g, length_most 6 count h)

  -- written piece by piece
  -- its first pieces, and how long they are
  abbrev one : List ℕ
  one = p ++ (32 ∷ [])

  abbrev two : List ℕ
  two = one ++ q

  abbrev three : List ℕ
  three = two ++ (32 ∷ [])

  abbrev four : List ℕ
  four = three ++ c

  pieces : (length one ≡ length p + 1) × (length two ≡ length one + length q) × (length three ≡ length two + 1) × (length four ≡ length three + length c)
  pieces = (length-append p (32 ∷ []), length-append one q, length-append two (32 ∷ []), length-append three c)

  pub line_put : (d : List ℕ) (to b f e : ℕ) → b ≡ to + length p → f ≡ b + 1 + length q → e ≡ f + 1 + length c → e + 1 ≤ length d →
      pasted (pasted (pasted (pasted (pasted (pasted d to p) b (32 ∷ [])) (b + 1) q) f (32 ∷ [])) (f + 1) c) e (10 ∷ []) ≡ pasted d to (image_line place size count)
  unfolding image_line
  line_put d to b f e g h i k =
      ap (λ (x : List ℕ). pasted (pasted (pasted (pasted x (b + 1) q) f (32 ∷ [])) (f + 1) c) e (10 ∷ [])) (behind d p (32 ∷ []) to b g (omega arith))
      ∙ ap (λ (x : List ℕ). pasted (pasted (pasted x f (32 ∷ [])) (f + 1) c) e (10 ∷ [])) (behind d one q to (b + 1) (omega (arith, pieces)) (omega arith))
      ∙ ap (λ (x : List ℕ). pasted (pasted x (f + 1) c) e (10 ∷ [])) (behind d two (32 ∷ []) to f (omega (arith, pieces)) (omega arith))
      ∙ ap (λ (x : List ℕ). pasted x e (10 ∷ [])) (behind d three c to (f + 1) (omega (arith, pieces)) (omega arith))
      ∙ behind d four (10 ∷ []) to e (omega (arith, pieces)) (omega arith)
      ∙ ap (pasted d to)
      (append_assoc three c (10 ∷ []) ∙ append_assoc two (32 ∷ []) (c ++ (10 ∷ [])) ∙ append_assoc one q (32 ∷ (c ++ (10 ∷ []))) ∙ append_assoc p (32 ∷ []) (q ++ (32 ∷ (c ++ (10 ∷ [])))))

-- ---- no image is shorter than its header and the closing 0

pub image_least : (s : List ℕ) (a : Answer) → HouseReads s a → a.code ≡ 0 → 6 ≤ a.place
image_least s a r z =
    let w = (accepting values stored s a r z).1 in
    omega (arith, w.long, front_long w.list w.head w.front, w.holds.long, length-append (items_bytes values w.list (items w.holds.content)) (0 ∷ []))

-- what is told of a run, and of its rest, as it is lent
pub told_taken : (run : List ℕ) (x : Reading) → Begun run x → Taken run x.count
told_taken run x b = record { answer = x.answer; reads = begun_reads run x b; counts = begun_counts run x b }

pub rest_taken : (run : List ℕ) (at n : ℕ) → Taken (take (length run - at) (drop at run)) n → Taken (drop at run) n
rest_taken run at n b = subst (λ (s : List ℕ). Taken s n) (take_all (length run - at) (drop at run) (omega (arith, length-drop at run))) b

-- ---- a loop that has written what stands before a place

pub record Dividing (run d : List ℕ) (at n : ℕ) : Type 0 where
  pub upto : at ≤ length run
  -- after an image the run is known to be no longer than a run may be
  pub short : 0 < at → length run ≤ limit
  pub room : n ≤ 4 * at
  pub long : length d ≡ 4194375
  pub here : (said : List ℕ) → Divides run at said → Divides run 0 (take n d ++ said)

pub dividing_start : (run d : List ℕ) → length d ≡ 4194375 → Dividing run d 0 0
dividing_start run d e = record { upto = omega arith; short = λ h. absurd (omega arith); room = omega arith; long = e; here = λ said w. w }

module _ (run d : List ℕ) (at n : ℕ) (w : Dividing run d at n) where
  pub dividing_room : n ≤ 4194304
  dividing_room = go (dec_lt 0 at)
    where
      go : Dec (0 < at) → n ≤ 4194304
      go (yes h) = omega (arith, w.short h, w.room, w.upto)
      go (no h) = omega (arith, w.room)

  -- the run's end
  pub dividing_end : length run ≤ at → Divides run 0 (take n d)
  dividing_end h = subst (Divides run 0) (append-nil (take n d)) (w.here [] (at_end h))

  pub dividing_counts : IsPrefixLen n d
  dividing_counts = counts n d (omega (arith, w.long, dividing_room))

  -- with the line of a refusal in it the buffer is as long as before
  pub refused_long : (b : Answer) (d' : List ℕ) → d' ≡ pasted d n (refusal b) → length d' ≡ 4194375
  refused_long b d' f = ap length f ∙ length_pasted d n (refusal b) ∙ w.long

  module _ (h : at < length run) (r : Step) (s : Steps run at r) where
    abbrev a : Answer
    a = r.answer

    -- a refusal
    module _ (z : a.code ≢ 0) (k : ℕ) (d' : List ℕ) (e : k ≡ length (refusal a)) (m : k ≤ 71) (f : d' ≡ pasted d n (refusal a)) where
      fits : n + length (refusal a) ≤ length d
      fits = omega (arith, w.long, dividing_room)

      pub dividing_refused : Divides run 0 (take (n + k) d')
      dividing_refused =
          subst (Divides run 0)
          (sym (ap₂ (λ (i : ℕ) (x : List ℕ). take (n + i) x) e f ∙ head_pasted d n (refusal a) fits))
          (w.here (refusal a) (left_over h a s.reads z))

      pub refused_counts : IsPrefixLen (n + k) d'
      refused_counts = counts (n + k) d' (omega (arith, ap length f, length_pasted d n (refusal a), fits))

    -- an image
    module _ (z : a.code ≡ 0) where
      least : 6 ≤ a.place
      least = image_least (drop at run) a s.reads z

      most : a.place ≤ length run - at
      most = omega (arith, accepts_in values stored (drop at run) a.place (accepting values stored (drop at run) a s.reads z).1, length-drop at run)

      -- "1 for a run over the same limit": what is left is not, so if nothing stands before it neither is the run
      within : length run ≤ limit
      within = go (dec_lt 0 at)
        where
          go : Dec (0 < at) → length run ≤ limit
          go (yes k) = w.short k
          go (no k) = omega (arith, (accepting values stored (drop at run) a s.reads z).0, length-drop at run)

      on : r.at ≡ at + a.place
      on = s.moves.on z

      pub dividing_less : length run - r.at < length run - at
      dividing_less = omega (arith, on, least, most)

      -- with the items that are counted for it
      module _ (c : ℕ) (v : HouseCounts (drop at run) a c) where
        abbrev line : List ℕ
        line = image_line at a.place c

        line_short : length line ≤ 24
        line_short = line_most at a.place c (omega (arith, within)) (omega (arith, within, most)) (omega (arith, within, most, (house_few_items (drop at run) a c s.reads v z).0))

        pub dividing_again : (k : ℕ) (d' : List ℕ) → k ≡ n + length line → d' ≡ pasted d n line → Dividing run d' r.at k
        dividing_again k d' e f = record {
          upto = omega (arith, on, most);
          short = λ k. within;
          room = omega (arith, e, on, least, line_short, w.room);
          long = ap length f ∙ length_pasted d n line ∙ w.long;
          here = λ said x.
              subst (Divides run 0)
              (sym (append_assoc (take n d) line said) ∙ ap (λ (y : List ℕ). y ++ said) (sym (ap₂ take e f ∙ head_pasted d n line (omega (arith, w.long, dividing_room, line_short)))))
              (w.here (line ++ said) (another h a s.reads z c v (subst (λ (i : ℕ). Divides run i said) on x)));
        }

      -- as the plain reader counts them
      pub told_counts : (n : ℕ) → Taken (drop at run) n → HouseCounts (drop at run) a n
      told_counts n b = subst (λ (y : Answer). HouseCounts (drop at run) y n) (house_reads_one (drop at run) b.answer a b.reads s.reads) b.counts

-- ---- only one output fits

pub divides_one : (run : List ℕ) {at : ℕ} {u v : List ℕ} → Divides run at u → Divides run at v → u ≡ v
divides_one run (at_end h) (at_end k) = refl
divides_one run (at_end h) (another k b q w m c y) = absurd (omega arith)
divides_one run (at_end h) (left_over k b q w) = absurd (omega arith)
divides_one run (another h a p z n c x) (at_end k) = absurd (omega arith)
divides_one run {at} (another {said = u} h a p z n c x) (another {said = said} k b q w m f y) =
    let e : a ≡ b = house_reads_one (drop at run) a b p q in
    let o : n ≡ m = house_counts_one (drop at run) b n m (subst (λ (i : Answer). HouseCounts (drop at run) i n) e c) f in
    ap₂ (λ (i k : ℕ). image_line at i k ++ u) (ap (λ (c : Answer). c.place) e) o ∙ ap (λ (s : List ℕ). image_line at b.place m ++ s) (divides_one run x (subst (λ (c : Answer). Divides run (at + c.place) said) (sym e) y))
divides_one run {at} (another h a p z n c x) (left_over k b q w) = absurd (w (ap (λ (c : Answer). c.code) (sym (house_reads_one (drop at run) a b p q)) ∙ z))
divides_one run (left_over h a p z) (at_end k) = absurd (omega arith)
divides_one run {at} (left_over h a p z) (another k b q w m c y) = absurd (z (ap (λ (c : Answer). c.code) (house_reads_one (drop at run) a b p q) ∙ w))
divides_one run {at} (left_over h a p z) (left_over k b q w) = ap refusal (house_reads_one (drop at run) a b p q)
