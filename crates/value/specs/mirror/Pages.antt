-- A mirror: the characters of REF and of TXTk looked up, as bits of words, a word for each page of code points. Assumes nothing.
use Rattle.std.specs.Prelude.{Bool, cond, List, [], ◌∷◌, ℕ, ◌/◌, ◌%◌, ◌^◌, eqb, ltb, get_or}
use Prim.Native.Char.{code}

-- the code points of a page, one for each bit of a word, and those of the first four pages
abbrev pub page : ℕ
page = 64

abbrev pub low_pages : ℕ
low_pages = 256

-- whether bit k of a word is 1
unfoldable pub bit_of : ℕ → ℕ → Bool
bit_of w k = eqb (w / 2 ^ k % 2) 1

-- the word of a page
unfoldable pub word_in : List ℕ → ℕ → ℕ
word_in ws p = get_or ws p 0

-- the first four pages: bit k of a page's word is 1 where the page's k-th code point, from 0, is a character of a text
abbrev pub words : List ℕ
words = 0xFFFFFFFF00000000 ∷ 0x7FFFFFFEFFFFFFFF ∷ 0x0001008000000000 ∷ 0x1040001090400010 ∷ []

-- beyond them the euro's page alone has a word that is not 0
unfoldable pub word_of : ℕ → ℕ
word_of c = cond (ltb c low_pages) (word_in words (c / page)) (cond (eqb (c / page) (code "€" / page)) (2 ^ (code "€" % page)) 0)

unfoldable pub looked : ℕ → Bool
looked c = bit_of (word_of c) (c % page)

-- the same of bytes that stand for themselves: of a text, ASCII, and neither `&` nor `<`
abbrev pub quiet_words : List ℕ
quiet_words = 0xEFFFFFBF00000000 ∷ 0x7FFFFFFEFFFFFFFF ∷ 0 ∷ 0 ∷ []

-- of a reference, and no slash
abbrev pub ref_words : List ℕ
ref_words = 0x87FF7B8100000000 ∷ 0x07FFFFFE07FFFFFE ∷ 0 ∷ 0 ∷ []

unfoldable pub looked_in : List ℕ → ℕ → Bool
looked_in ws x = bit_of (word_in ws (x / page)) (x % page)
