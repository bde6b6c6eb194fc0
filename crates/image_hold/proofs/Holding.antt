-- The reader that holds its run: only one answer fits, the run's end, and how a run is divided. Assumes nothing.
use mathlib.Core.Path.{◌≡◌, refl, sym, ◌∙◌, ap, ap₂, subst}
use mathlib.Core.Logic.{◌≢◌, inl}
use mathlib.Core.List.{List, [], ◌∷◌, ◌++◌, append_assoc}
use Prim.Native.Nat.{ℕ, ◌+◌, ◌-◌, ◌≤◌}
use native.Mathlib.Omega.{arith}
use native.Mathlib.Decide.{ℕ_discrete, dec_lt}
use lib.ListN.{length, drop, length-append, length-drop, drop_of_length-le}
use lib.Seq.{drop_at, drop-drop}
use denote.Ref.{Bor}
use Rattle.text.specs.Lists.{Each}
use Rattle.answer.specs.declared.Answer.{Answer}
use Rattle.answer.specs.Table.{limit, accepted, no_header}
use Rattle.image.specs.Kinds.{values}
use Rattle.image.specs.Place.{foreign, whole_image}
use Rattle.image.specs.Pick.{Lies, refused}
use Rattle.image_hold.specs.Held.{left, Moves, Steps, HeldPicked, Next, Calls, rested, called}
use Rattle.image_hold.specs.declared.held.Held.{Held}
use Rattle.image_hold.specs.declared.held.Step.{Step}
use Rattle.image.proofs.answers.One.{accepting, accepts_in}
use Rattle.image_reading.specs.Reads.{stored, HouseAccepts, HouseReads, HouseAnswers, HousePicked}
use Rattle.image_reading.proofs.House.{house_reads_one, house_reads_some, house_answers_one}
use Rattle.image_hold.proofs.Division.{IsImage, joined, begins_with}

-- ---- one step

module _ (run : List ℕ) (at : ℕ) (a : Answer) (r : HouseReads (drop at run) a) where
  pub step_stays : a.code ≢ 0 → Steps run at (record { answer = a; at = at })
  step_stays z = record { reads = r; moves = record { on = λ e. absurd (z e); stays = λ e. refl } }

  pub step_on : a.code ≡ 0 → Steps run at (record { answer = a; at = at + a.place })
  step_on z = record { reads = r; moves = record { on = λ e. refl; stays = λ e. absurd (e z) } }

  pub step_room : a.code ≡ 0 → a.place ≤ length run - at
  step_room z = omega (arith, accepts_in values stored (drop at run) a.place (accepting values stored (drop at run) a r z).1, length-drop at run)

-- ---- no second answer fits, and no second place

moves_one : (a : Answer) (from m n : ℕ) → Moves a from m → Moves a from n → m ≡ n
moves_one a from m n p q = go (ℕ_discrete a.code 0)
  where
    go : Dec (a.code ≡ 0) → m ≡ n
    go (yes z) = p.on z ∙ sym (q.on z)
    go (no z) = p.stays z ∙ sym (q.stays z)

pub next_one : (h : Held) (a b : Answer) (p q : Held) → Next h a p → Next h b q → (a ≡ b) × (p ≡ q)
next_one h a b p q x y =
    let e : a ≡ b = house_reads_one (left h) a b x.reads y.reads in
    let f : p.at ≡ q.at = moves_one b h.at p.at q.at (subst (λ (c : Answer). Moves c h.at p.at) e x.moves) y.moves in
    let g : p.run ≡ q.run = x.holds ∙ sym y.holds in
    (e, λ i. record { run = g i; at = f i })

pub steps_one : (run : List ℕ) (at : ℕ) (x y : Step) → Steps run at x → Steps run at y → x ≡ y
steps_one run at x y p q =
    let e : x.answer ≡ y.answer = house_reads_one (drop at run) x.answer y.answer p.reads q.reads in
    let f : x.at ≡ y.at = moves_one y.answer at x.at y.at (subst (λ (c : Answer). Moves c at x.at) e p.moves) q.moves in
    λ i. record { answer = e i; at = f i }

-- wherever it stands, some answer and some place fit
pub next_some : (h : Held) → (a : Answer) × (p : Held) × Next h a p
next_some h = let x = house_reads_some (left h) in go x.0 x.1 (ℕ_discrete x.0.code 0)
  where
    go : (a : Answer) → HouseReads (left h) a → Dec (a.code ≡ 0) → (b : Answer) × (p : Held) × Next h b p
    go a r (yes z) = (a, record { run = h.run; at = h.at + a.place }, record { reads = r; moves = record { on = λ e. refl; stays = λ e. absurd (e z) }; holds = refl })
    go a r (no z) = (a, h, record { reads = r; moves = record { on = λ e. absurd (z e); stays = λ e. refl }; holds = refl })

-- ---- at the run's end and past it

pub next_end : (h : Held) (a : Answer) (p : Held) → left h ≡ [] → Next h a p → (a ≡ no_header) × (p.at ≡ h.at)
next_end h a p z x =
    let e : a ≡ no_header = house_reads_one (left h) a no_header x.reads (subst (λ (s : List ℕ). HouseReads s no_header) (sym z) (foreign (omega arith) (inl (omega arith)) refl)) in
    (e, x.moves.stays (λ c. omega (arith, ap (λ (y : Answer). y.code) e)))

pub next_past : (h : Held) (a : Answer) (p : Held) → length h.run.now ≤ h.at → Next h a p → (a ≡ no_header) × (p.at ≡ h.at)
next_past h a p past x = next_end h a p (drop_of_length-le h.run.now past) x

-- ---- dividing a run

-- where an image stands, it is accepted, and what stands after it is left
pub next_takes : (h : Held) (a : Answer) (p : Held) (s u : List ℕ) → IsImage s → length (left h) ≤ limit → left h ≡ s ++ u → Next h a p → (a ≡ accepted (length s)) × (left p ≡ u)
next_takes h a p s u w short at x =
    let e : a ≡ accepted (length s) = house_reads_one (left h) a (accepted (length s)) x.reads (whole_image short (length s) (subst (λ (z : List ℕ). HouseAccepts z (length s)) (sym at) (begins_with s u w)) refl) in
    let f : p.at ≡ h.at + length s = x.moves.on (ap (λ (y : Answer). y.code) e) ∙ ap (λ (y : Answer). h.at + y.place) e in
    (e, behind f)
  where
    behind : p.at ≡ h.at + length s → left p ≡ u
    behind f =
        ap (λ (r : List ℕ). drop p.at r) (ap (λ x. x.now) x.holds)
        ∙ ap (λ (k : ℕ). drop k h.run.now) f
        ∙ sym (drop-drop (length s) h.at h.run.now)
        ∙ ap (drop (length s)) at
        ∙ drop_at s u (length s) refl

-- what reading images laid end to end answers
abbrev pub lengths : List (List ℕ) → List Answer
lengths [] = []
lengths (s ∷ ss) = accepted (length s) ∷ lengths ss

-- and as many calls as there are images accept each of them, of whatever version and kind, and stand after the last
pub divides : (ss : List (List ℕ)) (u : List ℕ) {h p : Held} {answers : List Answer} → Each IsImage ss → length (left h) ≤ limit → left h ≡ joined ss ++ u → length answers ≡ length ss → Calls h answers p
    → (answers ≡ lengths ss) × (left p ≡ u)
divides [] u w short at n rested = (refl, at)
divides [] u w short at n (called x y) = absurd (omega arith)
divides (s ∷ ss) u w short at n rested = absurd (omega arith)
divides (s ∷ ss) u {h} w short at n (called {p = p} {a = a} x y) =
    let at' : left h ≡ s ++ (joined ss ++ u) = at ∙ append_assoc s (joined ss) u in
    let t = next_takes h a p s (joined ss ++ u) w.0 short at' x in
    let r = divides ss u w.1 (omega (arith, ap length at', ap length t.1, length-append s (joined ss ++ u))) t.1 (omega arith) y in
    (ap₂ ◌∷◌ t.0 r.0, r.1)

-- ---- a part picked from the rest of a run lies in the run

-- nothing is picked from nothing
picks_nothing : (r n : ℕ) (a : Answer) → HouseAnswers [] r n a → a.code ≡ 0 → ⊥
picks_nothing r n a h e =
    let fits : HouseAnswers [] r n no_header = ([], refused (foreign (omega arith) (inl (omega arith)) refl) (λ z. omega (arith, z)) refl) in
    let d : 15 ≡ a.code = ap (λ (y : Answer). y.code) (house_answers_one [] r n no_header a fits h) in
    omega (arith, d, e)

pub picked_rest : (run rest : Bor (List ℕ)) (at r n : ℕ) (s : Bor (List ℕ)) → rest.now ≡ drop at run.now → (at ≤ length run.now → Lies run at rest) → HousePicked rest r n s → HeldPicked run at r n s
picked_rest run rest at r n s e l p = record {
  hands = rw (sym e) p.hands;
  lies = λ a h z. elim (dec_lt (length run.now) at) [
    | yes k ↦
        let past : length run.now ≤ at = omega (arith, k) in
        absurd (picks_nothing r n a (subst (λ (y : List ℕ). HouseAnswers y r n a) (drop_of_length-le run.now past) h) z)
    | no k ↦
        let within : at ≤ length run.now = omega (arith, k) in
        let m = l within in
        let q = p.lies a (subst (λ (y : List ℕ). HouseAnswers y r n a) (sym e) h) z in
        (q.0 ∙ m.0, omega (arith, q.1, m.1))
  ];
}
