-- How many items the reader takes of a run. Assumes nothing.
use Rattle.std.specs.Prelude.{◌≡◌, ◌≢◌, List, ◌++◌, ℕ, suc, length}
use Rattle.answer.specs.declared.Answer.{Answer}
use Rattle.list.specs.Listing.{Listing}
use Rattle.list.specs.Content.{items}
use Rattle.image.specs.Image.{Values}
use Rattle.image.specs.Place.{Holds, Breaks, Among, Front}

-- after the header, of a body s for which a is answered; the definition goes over a body by items, so each of these is one of its steps
module _ (vs : Values) (l : Listing) where
  pub data Taken (s : List ℕ) (a : Answer) (n : ℕ) : Type 0 where
    -- "The reader returns the number of items it took, the closing 0 among them"
    closed : (k : ℕ) (w : Holds vs l s k) → a.code ≡ 0 → n ≡ suc (length (items w.content)) → Taken s a n
    -- "on code 17 it is the number of whole items before the place"
    unclosed : (k : ℕ) (b : Breaks vs l s k) → a.code ≡ 17 → n ≡ length b.most.whole → Taken s a n

-- of a run
module _ (vs : Values) (ls : List Listing) where
  pub data CountsItems (run : List ℕ) (a : Answer) (n : ℕ) : Type 0 where
    counted : (l : Listing) → Among l ls → (h s : List ℕ) → Front l h → run ≡ h ++ s → Taken vs l s a n → CountsItems run a n
    -- "a missing or bad kind byte is 17, place 5", where no item has come
    headless : ((l : Listing) → Among l ls → (h s : List ℕ) → Front l h → run ≡ h ++ s → ⊥) → n ≡ 0 → CountsItems run a n
    -- "on other refusals 0"
    uncounted : a.code ≢ 0 → a.code ≢ 17 → n ≡ 0 → CountsItems run a n
