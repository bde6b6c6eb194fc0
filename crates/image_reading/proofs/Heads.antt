-- A run's first bytes against the header. Assumes nothing.
use mathlib.Core.Path.{◌≡◌, refl, sym, ◌∙◌, ap, ap₂}
use mathlib.Core.Logic.{◌≢◌, ◌⊎◌, inl, inr}
use mathlib.Core.Bool.{Bool, true, false, true≢false, false≢true}
use Rattle.std.specs.Prelude.{Option, None, Some}
use mathlib.Core.List.{List, [], ◌∷◌, ◌++◌, head-eq_of_cons-eq, tail-eq_of_cons-eq}
use Prim.Native.Nat.{ℕ, ◌≤◌, ◌<◌}
use native.Mathlib.Omega.{arith}
use native.Mathlib.Decide.{dec_lt, ℕ_discrete}
use lib.Dec.{eqb}
use lib.ListN.{length, get_or, take, get_or-eq_default}
use lib.Seq.{get_or-take}
use borrow.Author.Tests.{eqb-true, eqb-false}
use Rattle.text.specs.Bytes.{ascii}
use Rattle.list.specs.Listing.{Listing}
use Rattle.list.specs.Within.{Among}
use Rattle.list_house.specs.House.{stored_house, stored_report}
use Rattle.list_house.specs.Lists.{stored}
use Rattle.list_house.proofs.Lists.{each_stored, stored_house_byte, stored_report_byte, house_stored, report_stored}
use Rattle.image.specs.Image.{versioned, header}
use Rattle.image.proofs.answers.Heads.{first_is, second_is, header_is, header_bytes}
use Rattle.image_reading.specs.mirror.Front.{Kto, Named, version_of, KindByte}

first_three : (s : List ℕ) → 5 ≤ length s → take 3 s ≡ get_or s 0 0 ∷ get_or s 1 0 ∷ get_or s 2 0 ∷ []
first_three [] h = absurd (omega arith)
first_three (a ∷ []) h = absurd (omega arith)
first_three (a ∷ b ∷ []) h = absurd (omega arith)
first_three (a ∷ b ∷ c ∷ s) h = refl

first_five : (s : List ℕ) → 5 ≤ length s → take 5 s ≡ get_or s 0 0 ∷ get_or s 1 0 ∷ get_or s 2 0 ∷ get_or s 3 0 ∷ get_or s 4 0 ∷ []
first_five [] h = absurd (omega arith)
first_five (a ∷ []) h = absurd (omega arith)
first_five (a ∷ b ∷ []) h = absurd (omega arith)
first_five (a ∷ b ∷ c ∷ []) h = absurd (omega arith)
first_five (a ∷ b ∷ c ∷ d ∷ []) h = absurd (omega arith)
first_five (a ∷ b ∷ c ∷ d ∷ e ∷ s) h = refl

module _ (s : List ℕ) where
  refuse : (length s < 5) ⊎ (take 3 s ≢ ascii "KTO") → Named s false
  refuse h = record { yes' = λ e. absurd (false≢true e); no' = λ e. h }

  pub short : length s < 5 → Named s false
  short h = refuse (inl h)

  letters : 5 ≤ length s → take 3 s ≡ ascii "KTO" → get_or s 0 0 ∷ get_or s 1 0 ∷ get_or s 2 0 ∷ [] ≡ 75 ∷ 84 ∷ 79 ∷ []
  letters h e = sym (first_three s h) ∙ e

  pub not_k : 5 ≤ length s → get_or s 0 0 ≢ 75 → Named s false
  not_k h n = refuse (inr (λ e. n (head-eq_of_cons-eq (letters h e))))

  pub not_t : 5 ≤ length s → get_or s 1 0 ≢ 84 → Named s false
  not_t h n = refuse (inr (λ e. n (head-eq_of_cons-eq (tail-eq_of_cons-eq (letters h e)))))

  pub last_letter : 5 ≤ length s → get_or s 0 0 ≡ 75 → get_or s 1 0 ≡ 84 → Named s (eqb (get_or s 2 0) 79)
  last_letter h a b = go (eqb (get_or s 2 0) 79) refl
    where
      go : (r : Bool) → eqb (get_or s 2 0) 79 ≡ r → Named s r
      go true e = record { yes' = λ z. (h, first_three s h ∙ rw (a, b, eqb-true (get_or s 2 0) 79 e)); no' = λ z. absurd (true≢false z) }
      go false e = refuse (inr (λ k. eqb-false (get_or s 2 0) 79 e (head-eq_of_cons-eq (tail-eq_of_cons-eq (tail-eq_of_cons-eq (letters h k))))))

  -- ---- the version

  abbrev begin : List ℕ
  begin = get_or s 0 0 ∷ get_or s 1 0 ∷ get_or s 2 0 ∷ get_or s 3 0 ∷ get_or s 4 0 ∷ []

  -- after the name, a version below 256
  of_version : Kto s → (n : ℕ) → get_or s 3 0 ≡ 0 → get_or s 4 0 ≡ n → take 5 s ≡ 75 ∷ 84 ∷ 79 ∷ 0 ∷ n ∷ []
  of_version k n z e =
      let t = letters k.0 k.1 in
      let a = head-eq_of_cons-eq t in
      let b = head-eq_of_cons-eq (tail-eq_of_cons-eq t) in
      let c = head-eq_of_cons-eq (tail-eq_of_cons-eq (tail-eq_of_cons-eq t)) in
      first_five s k.0 ∙ rw (a, b, c, z, e) refl

  its_version : 5 ≤ length s → (n : ℕ) → take 5 s ≡ 75 ∷ 84 ∷ 79 ∷ 0 ∷ n ∷ [] → version_of s ≡ n
  its_version h n e =
      let w = tail-eq_of_cons-eq (tail-eq_of_cons-eq (tail-eq_of_cons-eq (sym (first_five s h) ∙ e))) in
      omega (arith, head-eq_of_cons-eq w, head-eq_of_cons-eq (tail-eq_of_cons-eq w))

  pub version_first : Kto s → version_of s ≡ 1 → take 5 s ≡ versioned 1
  version_first k v = of_version k 1 (omega (arith, v)) (omega (arith, v)) ∙ sym first_is

  pub version_second : Kto s → version_of s ≡ 2 → take 5 s ≡ versioned 2
  version_second k v = of_version k 2 (omega (arith, v)) (omega (arith, v)) ∙ sym second_is

  pub not_first : 5 ≤ length s → version_of s ≢ 1 → take 5 s ≢ versioned 1
  not_first h n e = n (its_version h 1 (e ∙ first_is))

  pub not_second : 5 ≤ length s → version_of s ≢ 2 → take 5 s ≢ versioned 2
  not_second h n e = n (its_version h 2 (e ∙ second_is))

  -- ---- the kind byte

  pub no_kind : length s < 6 → KindByte s None
  no_kind h = inl (get_or-eq_default s 0 {n = 5} (omega (arith, h)))

  pub bad_kind : (k : ℕ) → k ≡ get_or s 5 0 → 2 < k → KindByte s None
  bad_kind k e h = inr (omega (arith, e, h))

  pub good_kind : (k : ℕ) → k ≢ 0 → k ≡ get_or s 5 0 → k ≤ 2 → KindByte s (Some k)
  good_kind k n e h = (n, h, e)

  -- ---- what is told is told of every run

  pub named_some : (b : Bool) × Named s b
  named_some = go (dec_lt (length s) 5) (ℕ_discrete (get_or s 0 0) 75) (ℕ_discrete (get_or s 1 0) 84)
    where
      go : Dec (length s < 5) → Dec (get_or s 0 0 ≡ 75) → Dec (get_or s 1 0 ≡ 84) → (b : Bool) × Named s b
      go (yes h) a b = (false, short h)
      go (no h) (no a) b = (false, not_k (omega arith) a)
      go (no h) (yes a) (no b) = (false, not_t (omega arith) b)
      go (no h) (yes a) (yes b) = (eqb (get_or s 2 0) 79, last_letter (omega arith) a b)

  pub kind_told : (k : Option ℕ) × KindByte s k
  kind_told = go (dec_lt 2 (get_or s 5 0)) (ℕ_discrete (get_or s 5 0) 0)
    where
      go : Dec (2 < get_or s 5 0) → Dec (get_or s 5 0 ≡ 0) → (k : Option ℕ) × KindByte s k
      go (yes h) d = (None, inr h)
      go (no h) (yes z) = (None, inl z)
      go (no h) (no n) = (Some (get_or s 5 0), good_kind (get_or s 5 0) n refl (omega arith))

-- ---- the kind bytes of the lists

byte_low : (l : Listing) → Among l stored → (1 ≤ l.byte) × (l.byte ≤ 2)
byte_low =
    each_stored (λ l. (1 ≤ l.byte) × (l.byte ≤ 2))
    (omega (arith, stored_house_byte), omega (arith, stored_house_byte))
    (omega (arith, stored_report_byte), omega (arith, stored_report_byte))

-- a kind byte is a list's
pub record Kinded (k : ℕ) : Type 0 where
  pub list : Listing
  pub among : Among list stored
  pub byte : k ≡ list.byte

kinded : (k : ℕ) → k ≢ 0 → k ≤ 2 → Kinded k
kinded k n h = elim (ℕ_discrete k 1) [
  | yes e ↦ record { list = stored_house; among = house_stored; byte = e ∙ sym stored_house_byte }
  | no d ↦ let e : k ≡ 2 = omega arith in record { list = stored_report; among = report_stored; byte = e ∙ sym stored_report_byte }
]

-- a sixth byte stands after five
six : (s : List ℕ) → get_or s 5 0 ≢ 0 → take 6 s ≡ take 5 s ++ (get_or s 5 0 ∷ [])
six [] n = absurd (n refl)
six (a ∷ []) n = absurd (n refl)
six (a ∷ b ∷ []) n = absurd (n refl)
six (a ∷ b ∷ c ∷ []) n = absurd (n refl)
six (a ∷ b ∷ c ∷ d ∷ []) n = absurd (n refl)
six (a ∷ b ∷ c ∷ d ∷ e ∷ []) n = absurd (n refl)
six (a ∷ b ∷ c ∷ d ∷ e ∷ f ∷ s) n = refl

sixth : (s : List ℕ) (b : ℕ) → take 6 s ≡ 75 ∷ 84 ∷ 79 ∷ 0 ∷ 2 ∷ b ∷ [] → get_or s 5 0 ≡ b
sixth s b e = sym (get_or-take 6 s 5 0 (omega arith)) ∙ ap (λ (u : List ℕ). get_or u 5 0) e

-- a missing or bad one is none's
pub kind_none : (s : List ℕ) → KindByte s None → (l : Listing) → Among l stored → take 6 s ≢ header l
kind_none s k l i e = go k (sixth s l.byte (e ∙ header_bytes l)) (byte_low l i)
  where
    go : (get_or s 5 0 ≡ 0) ⊎ (2 < get_or s 5 0) → get_or s 5 0 ≡ l.byte → (1 ≤ l.byte) × (l.byte ≤ 2) → ⊥
    go (inl z) d h = omega (arith, h.0)
    go (inr z) d h = omega (arith, h.1)

-- any other is of a list, whose header the run begins with
pub kind_some : (s : List ℕ) (k : ℕ) → KindByte s (Some k) → Kinded k
kind_some s k b = kinded k b.0 b.1

pub kind_header : (s : List ℕ) → take 5 s ≡ versioned 2 → (k : ℕ) → KindByte s (Some k) → (l : Listing) → k ≡ l.byte → take 6 s ≡ header l
kind_header s v k b l e =
    let g : get_or s 5 0 ≡ k = sym b.2 in
    six s (λ z. b.0 (sym g ∙ z)) ∙ ap₂ (λ (h : List ℕ) (x : ℕ). h ++ (x ∷ [])) v (g ∙ e) ∙ sym (header_is l)
