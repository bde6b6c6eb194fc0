-- A mirror: a node in its table, and the fields of eight bits in one of its numbers. Assumes nothing.
use Rattle.std.specs.Prelude.{ℕ}

-- how many numbers a node has, and which of them holds the fields, where what is compared last begins, and which two an ENUM's words
abbrev pub width : ℕ
width = 11

abbrev pub info : ℕ
info = 4

abbrev pub end_at : ℕ
end_at = 5

abbrev pub words_at : ℕ
words_at = 9

abbrev pub more_words : ℕ
more_words = 10

-- the node after this one, the node of what else may come
abbrev pub next_field : ℕ
next_field = 65536

abbrev pub other_field : ℕ
other_field = 16777216

-- k of TXTk, the row byte
abbrev pub most_field : ℕ
most_field = 4294967296

abbrev pub row_field : ℕ
row_field = 1099511627776

-- how many bytes come after the tag's first sixteen, or as a leaf's closing tag; how many of an item the tag has
abbrev pub more_field : ℕ
more_field = 281474976710656

abbrev pub item_field : ℕ
item_field = 72057594037927936

-- the upper of two words in one number; how many letters a word has
abbrev pub upper : ℕ
upper = 4294967296

abbrev pub letters : ℕ
letters = 4

-- the bytes of a tag that are compared at once, as many of them as are one number, and how many numbers they are, each half with its mask after it
abbrev pub chunk : ℕ
chunk = 16

abbrev pub half : ℕ
half = 8

abbrev pub masked_long : ℕ
masked_long = 4

-- the mask of the second half; so many bytes there are: a mask of n of them is one less than the n-th power
abbrev pub second_mask_at : ℕ
second_mask_at = 3

abbrev pub base : ℕ
base = 256

-- the letters of a currency; with its closing quote and `>`, what stands between a node's bytes and an amount
abbrev pub coin_long : ℕ
coin_long = 3

abbrev pub coined_long : ℕ
coined_long = 5

-- the kinds that are no type's: an amount in single quotes, and the root's end
abbrev pub single : ℕ
single = 12

abbrev pub ending : ℕ
ending = 13

-- no place that a pass meets is so far, so that none is added to beyond what a number holds
abbrev pub too_far : ℕ
too_far = 10000000
