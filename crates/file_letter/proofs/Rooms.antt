-- What the programs need of writing's answers: the file fits, in a buffer of the limit's length always, and does not depend on what stood there. Assumes nothing.
use mathlib.Core.Path.{◌≡◌, refl, sym, ◌∙◌, ap}
use mathlib.Core.Logic.{◌≢◌}
use mathlib.Core.List.{List, ◌++◌}
use Prim.Native.Nat.{ℕ, ◌≤◌}
use native.Mathlib.Omega.{arith}
use lib.ListN.{length, take, drop}
use Rattle.answer.specs.declared.Answer.{Answer}
use Rattle.answer.specs.Table.{limit}
use Rattle.image.specs.Place.{over, foreign, version, kindless, broken, whole_image as read}
use Rattle.image_reading.specs.Reads.{HouseReads}
use Rattle.file_letter.specs.Writes.{letter_in, Delivers, large, short, delivered, Writes, unread, withdrawn, finer, begun}
use Rattle.file_letter.proofs.Writing.{writes_one, written_file}

delivers_fits : (s d : List ℕ) (a : Answer) (d' : List ℕ) → Delivers s d a d' → a.code ≡ 0 → a.place ≤ length d
delivers_fits s d a d' (large h e f) z = absurd (omega (arith, ap (λ (x : Answer). x.code) e, z))
delivers_fits s d a d' (short h k e f) z = absurd (omega (arith, ap (λ (x : Answer). x.code) e, z))
delivers_fits s d a d' (delivered h k e f) z = omega (arith, ap (λ (x : Answer). x.place) e, k)

pub written_fits : (run d : List ℕ) (a : Answer) (d' : List ℕ) → Writes run d a d' → a.code ≡ 0 → a.place ≤ length d
written_fits run d a d' (unread r k e) z = absurd (k z)
written_fits run d a d' (withdrawn h n w r p f e q) z = absurd (omega (arith, ap (λ (x : Answer). x.code) e, z))
written_fits run d a d' (finer h n w c r p f e q) z = absurd (omega (arith, ap (λ (x : Answer). x.code) e, z))
written_fits run d a d' (begun h n w c t p) z = delivers_fits (letter_in w) d a d' p z

-- ---- with room for every file that may be written 14 is not answered

read_code : (run : List ℕ) (a : Answer) → HouseReads run a → a.code ≢ 14
read_code run a (over h e) z = omega (arith, ap (λ (x : Answer). x.code) e, z)
read_code run a (foreign h k e) z = omega (arith, ap (λ (x : Answer). x.code) e, z)
read_code run a (version h i k m o e) z = omega (arith, ap (λ (x : Answer). x.code) e, z)
read_code run a (kindless h k m e) z = omega (arith, ap (λ (x : Answer). x.code) e, z)
read_code run a (broken h l m t f s g n b e) z = omega (arith, ap (λ (x : Answer). x.code) e, z)
read_code run a (read h n w e) z = omega (arith, ap (λ (x : Answer). x.code) e, z)

delivers_code : (s d : List ℕ) (a : Answer) (d' : List ℕ) → limit ≤ length d → Delivers s d a d' → a.code ≢ 14
delivers_code s d a d' r (large h e f) z = omega (arith, ap (λ (x : Answer). x.code) e, z)
delivers_code s d a d' r (short h k e f) z = omega (arith, h, k, r)
delivers_code s d a d' r (delivered h k e f) z = omega (arith, ap (λ (x : Answer). x.code) e, z)

pub limit_enough : (run d : List ℕ) (a : Answer) (d' : List ℕ) → limit ≤ length d → Writes run d a d' → a.code ≢ 14
limit_enough run d a d' r (unread q k e) z = read_code run a q z
limit_enough run d a d' r (withdrawn h n w q i f e g) z = omega (arith, ap (λ (x : Answer). x.code) e, z)
limit_enough run d a d' r (finer h n w c q i f e g) z = omega (arith, ap (λ (x : Answer). x.code) e, z)
limit_enough run d a d' r (begun h n w c t p) z = delivers_code (letter_in w) d a d' r p z

-- ---- another buffer of the same length: the same answer and the same file

module _ (d e : List ℕ) (n : length d ≡ length e) where
  delivers_moved : (s : List ℕ) (a : Answer) (d' : List ℕ) → Delivers s d a d' → (x : List ℕ) × Delivers s e a x
  delivers_moved s a d' (large h q r) = (e, large h q refl)
  delivers_moved s a d' (short h k q r) = (e, short h (omega (arith, n)) q refl)
  delivers_moved s a d' (delivered h k q r) = (s ++ drop (length s) e, delivered h (omega (arith, n)) q refl)

  module _ (run : List ℕ) where
    moved : (a : Answer) (d' : List ℕ) → Writes run d a d' → (x : List ℕ) × Writes run e a x
    moved a d' (unread r k q) = (e, unread r k refl)
    moved a d' (withdrawn h m w r p f q s) = (e, withdrawn h m w r p f q refl)
    moved a d' (finer h m w c r p f q s) = (e, finer h m w c r p f q refl)
    moved a d' (begun h m w c t p) = let x = delivers_moved (letter_in w) a d' p in (x.0, begun h m w c t x.1)

    pub written_alike : (a b : Answer) (d' e' : List ℕ) → Writes run d a d' → Writes run e b e' → (a ≡ b) × (a.code ≡ 0 → take a.place d' ≡ take b.place e')
    written_alike a b d' e' p q = (same, λ z. same_file z p)
      where
        same : a ≡ b
        same = let x = moved a d' p in (writes_one run e a b x.0 e' x.1 q).0

        same_file : a.code ≡ 0 → Writes run d a d' → take a.place d' ≡ take b.place e'
        same_file z (unread r k f) = absurd (k z)
        same_file z (withdrawn h m w r i f q s) = absurd (omega (arith, ap (λ (x : Answer). x.code) q, z))
        same_file z (finer h m w c r i f q s) = absurd (omega (arith, ap (λ (x : Answer). x.code) q, z))
        same_file z (begun h m w c t f) =
            (written_file run d a d' p z m w).3 ∙ sym (written_file run e b e' q (sym (ap (λ (x : Answer). x.code) same) ∙ z) m w).3
