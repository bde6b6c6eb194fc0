-- Examples of document 01 on values that are not starred, two that it calls easy to get wrong, and date-times by document 02, shown for the definitions themselves. The
-- starred ones stand in one table, that of `file`. Assumes nothing.
use mathlib.Core.Path.{◌≡◌, refl, sym, ◌∙◌}
use mathlib.Core.List.{List, [], ◌∷◌, ◌++◌}
use mathlib.Core.Option.{Option, some, none}
use Prim.Native.Nat.{ℕ, zero, suc}
use native.Mathlib.Omega.{arith}
use Rattle.text.specs.Bytes.{ascii, is_blank, is_capital, is_digit}
use Rattle.text.specs.Lists.{same}
use Rattle.list.specs.Listing.{Leaf, ref, amt, dtm, txt}
use Rattle.list.specs.WellFormed.{LeafOk}
use Rattle.value.specs.types.Text.{is_ref, is_txt}
use Rattle.value.specs.mirror.Texts.{text_from}
use Rattle.value.specs.mirror.Reading.{read_of, signed_of, point_of, whole_of, frac_of, answer}
use Rattle.value.specs.Value.{Value, text, amount, moment, Spelt}
use Rattle.value.specs.decided.Spell.{front_off, back_off, passes_from, fraction_of, zone_of, moment_of, spell}
use Rattle.value.proofs.types.Spell.{spell_sound, spell_complete}

-- a type, characters, and the value that they spell
pub record Example : Type 0 where
  pub type : Leaf
  pub chars : List ℕ
  pub value : Option Value

abbrev euro : List ℕ
euro = ascii "EUR"

-- an amount in euros
abbrev is : List ℕ → ℕ → ℕ → Example
is cs c k = record { type = amt; chars = cs; value = some (amount euro k c) }

abbrev no_amount_lem : List ℕ → Example
no_amount_lem cs = record { type = amt; chars = cs; value = none }

abbrev good : Leaf → List ℕ → Example
good k cs = record { type = k; chars = cs; value = some (text cs) }

abbrev bad : Leaf → List ℕ → Example
bad k cs = record { type = k; chars = cs; value = none }

-- noon of 2024-02-28, and so many microseconds
abbrev noon : List ℕ → ℕ → Example
noon cs u = record { type = dtm; chars = ascii "2024-02-28T12:00:00" ++ cs; value = some (moment 2024 2 28 12 0 0 u 840) }

abbrev no_noon : List ℕ → Example
no_noon cs = bad dtm (ascii "2024-02-28T12:00:00" ++ cs)

-- a day, what stands after its `T24:00:00`, and midnight of the next
abbrev late : List ℕ → List ℕ → ℕ → ℕ → ℕ → ℕ → Example
late cs ds y m d z = record { type = dtm; chars = cs ++ (ascii "T24:00:00" ++ ds); value = some (moment y m d 0 0 0 0 z) }

-- n times `€`
abbrev euros : ℕ → List ℕ
euros zero = []
euros (suc n) = 0x20AC ∷ euros n

abbrev pub examples : List Example
examples =
    -- "`7.`"; "holding `5.0` and `5.00` different"; "Refused with 12: .. `-0.01`"
    is (ascii "7.") 7 0 ∷ is (ascii " 5.0 ") 5 0 ∷ is (ascii "5.00") 5 0 ∷ no_amount_lem (ascii "-0.01")
    -- "35 good, 36 bad"; "Nm of 140 `€` (420 bytes) good, 141 bad"
    ∷ good ref (ascii "12345678901234567890123456789012345") ∷ bad ref (ascii "123456789012345678901234567890123456")
    ∷ good (txt 140) (euros 140) ∷ bad (txt 140) (euros 141) ∷ []

-- "a point and one to three digits, the last not zero"; "24:00:00, without fraction"; "on 9999-12-31 it is refused"
abbrev pub moments : List Example
moments =
    noon (ascii "Z") 0 ∷ noon (ascii ".1Z") 100000 ∷ noon (ascii ".01+00:00") 10000 ∷ noon (ascii ".123Z") 123000
    ∷ no_noon (ascii ".0Z") ∷ no_noon (ascii ".10Z") ∷ no_noon (ascii ".100Z") ∷ no_noon (ascii ".000Z") ∷ no_noon (ascii ".1234Z") ∷ no_noon (ascii ".123456Z") ∷ no_noon (ascii ".Z") ∷ no_noon (ascii "+01")
    ∷ late (ascii "2024-02-28") (ascii "Z") 2024 2 29 840 ∷ late (ascii "2023-02-28") (ascii "-01:00") 2023 3 1 780 ∷ late (ascii "2023-12-31") (ascii "+14:00") 2024 1 1 1680
    ∷ bad dtm (ascii "9999-12-31T24:00:00Z") ∷ bad dtm (ascii "2024-02-28T24:00:00.1Z") ∷ bad dtm (ascii "2024-02-28T24:00:00.0Z") ∷ bad dtm (ascii "2024-02-28T24:00:01Z") ∷ bad dtm (ascii "2024-02-28T25:00:00Z") ∷ []

-- by the definition: this value and no other, or none
abbrev pub Shown : Leaf → List ℕ → Option Value → Type 0
Shown k cs (some v) = Spelt k euro cs v × ((v' : Value) → Spelt k euro cs v' → v ≡ v')
Shown k cs none = (v : Value) → Spelt k euro cs v → ⊥

same_some : (v v' : Value) → some v ≡ some v' → v ≡ v'
same_some v v' e = cc

none_some : (v : Value) → none ≡ some v → ⊥
none_some v e = let z : ◌≡◌ {A = ℕ} 0 1 = cc in omega arith

shown : (k : Leaf) → LeafOk k → (cs : List ℕ) (o : Option Value) → spell k euro cs ≡ o → Shown k cs o
shown k ok cs (some v) e = (spell_sound k euro cs v e, λ v' s. same_some v v' (sym e ∙ spell_complete k euro cs v' ok s))
shown k ok cs none e = λ v s. none_some v (sym e ∙ spell_complete k euro cs v ok s)

abbrev pub AllShown : List Example → Type 0
AllShown [] = Unit {0}
AllShown (x ∷ xs) = Shown x.type x.chars x.value × AllShown xs

-- what the decision computes of each is what the table says
infixr 20 ◌then◌
data Computed : List Example → Type 0 where
  done : Computed []
  ◌then◌ : {x : Example} {xs : List Example} → spell x.type euro x.chars ≡ x.value → Computed xs → Computed (x ∷ xs)

abbrev AllOk : List Example → Type 0
AllOk [] = Unit {0}
AllOk (x ∷ xs) = LeafOk x.type × AllOk xs

all_of : (xs : List Example) → AllOk xs → Computed xs → AllShown xs
all_of [] k done = tt
all_of (x ∷ xs) k (e then c) = (shown x.type k.0 x.chars x.value e, all_of xs k.1 c)

computed : Computed examples
unfolding spell front_off back_off passes_from read_of signed_of point_of whole_of frac_of answer text_from is_blank is_capital is_digit is_ref is_txt
computed = refl then refl then refl then refl then refl then refl then refl then refl then done

pub all_shown : AllShown examples
all_shown = all_of examples (omega arith) computed

computed_moments : Computed moments
unfolding spell front_off back_off moment_of fraction_of zone_of is_blank is_digit same
computed_moments =
    refl then refl then refl then refl then refl then refl then refl then refl then refl then refl then refl then refl then refl then refl then refl then refl then refl then refl then refl then refl then done

pub moments_shown : AllShown moments
moments_shown = all_of moments (omega arith) computed_moments
