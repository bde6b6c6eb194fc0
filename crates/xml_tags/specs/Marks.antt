-- Bytes that mark something: whether one stands next, up to the next one, past it. What stands at a place o and after it is given as o and
-- the list of those bytes. Assumes nothing.
use Rattle.std.specs.Prelude.{Bool, false, not, List, [], ◌∷◌, ℕ, ◌+◌, eqb, drop}
use Rattle.text.specs.Lists.{span}

-- any byte but this
abbrev pub but : ℕ → ℕ → Bool
but b x = not (eqb x b)

-- from o, over all bytes that pass the test, and then f
unfoldable pub pass : {A : Type 0} → (ℕ → Bool) → (ℕ → List ℕ → A) → ℕ → List ℕ → A
pass p f o l = f (o + span p l) (drop (span p l) l)

-- over one byte, where there is one
abbrev pub one : List ℕ → ℕ
one [] = 0
one (x ∷ l) = 1

-- the next byte is this
abbrev pub head_is : ℕ → List ℕ → Bool
head_is b [] = false
head_is b (x ∷ l) = eqb x b

-- after the first such byte
unfoldable pub behind : ℕ → ℕ → List ℕ → ℕ
behind b = pass (but b) (λ o l. o + one l)
