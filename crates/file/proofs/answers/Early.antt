-- Codes 1 and 2, from what is known of the bytes. Assumes nothing.
use mathlib.Core.Path.{◌≡◌, refl, subst}
use mathlib.Core.List.{List}
use Prim.Native.Nat.{ℕ, ◌≤◌, ◌<◌}
use native.Mathlib.Omega.{arith}
use lib.ListN.{length}
use Rattle.answer.specs.declared.Answer.{Answer}
use Rattle.answer.specs.Table.{limit, too_long, not_utf8}
use Rattle.text_characters.specs.Utf8.{Utf8}
use Rattle.text_characters.proofs.Longest.{utf8_whole, whole_utf8}
use Rattle.list.specs.Listing.{Listing}
use Rattle.file.specs.Instance.{Kinds}
use Rattle.file.specs.Checks.{Answers, long, bad_bytes}
use Rattle.text.specs.Lists.{LongestBeginning}

module _ (k : Kinds) (l : Listing) (s d : List ℕ) (a : Answer) where
  pub says_long : limit < length s → a ≡ too_long → Answers k l s d a d
  says_long h e = long h e refl

  pub says_bytes : length s ≤ limit → (n : ℕ) → LongestBeginning Utf8 s n → n < length s → a ≡ not_utf8 n → Answers k l s d a d
  says_bytes h n p i e = bad_bytes h (λ u. omega (arith, whole_utf8 s n p u)) n p e refl

-- the longest beginning that is UTF-8 is all
pub all_utf8 : (s : List ℕ) (n : ℕ) → LongestBeginning Utf8 s n → length s ≤ n → Utf8 s
all_utf8 s n p h = utf8_whole s (subst (LongestBeginning Utf8 s) (omega (arith, p.within)) p)
