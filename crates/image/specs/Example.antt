-- "A whole one": the content of document 01's example, its image as printed, and taken apart. Assumes nothing.
use Rattle.std.specs.Prelude.{List, [], ◌∷◌, ℕ, ◌+◌, length}
use Rattle.text.specs.Bytes.{ascii}
use Rattle.list.specs.Listing.{Listing}
use Rattle.list.specs.Content.{Content, end, value, node}
use Rattle.value.specs.Value.{Value, text, place, amount, day, moment}
use Rattle.image.specs.Image.{Item, item_bytes}
use Rattle.image.specs.Kinds.{values}

-- "MsgId M1, CreDtTm 2024-03-01T06:00:00Z, one Stmt with Id S1, account Othr Id 9, one Bal CLBD, EUR 5.00, CRDT, 2024-02-29"
unfoldable pub whole : Content Value
whole =
    node 1 (node 2
    (node 3 (value 4 (text (ascii "M1")) (value 5 (moment 2024 3 1 6 0 0 0 840) end))
    (node 6
    (value 7 (text (ascii "S1"))
    (node 9 (node 10 (node 12 (value 13 (text (ascii "9")) end) end) end)
    (node 15
    (node 16 (node 17 (value 18 (place 2) end) end)
    (value 19 (amount (ascii "EUR") 0 5)
    (value 20 (place 1)
    (node 21 (value 22 (day 2024 2 29) end)
    end))))
    end)))
    end))
    end) end

-- "Image, 67 bytes, hexadecimal": its items and the closing 0, which stand after the header in either version
unfoldable pub printed_body : List ℕ
printed_body =
    0x01 ∷ 0x02 ∷ 0x03 ∷ 0x04 ∷ 0x00 ∷ 0x02 ∷ 0x4D ∷ 0x31 ∷
    0x05 ∷ 0x07 ∷ 0xE8 ∷ 0x03 ∷ 0x01 ∷ 0x06 ∷ 0x00 ∷ 0x00 ∷ 0x00 ∷ 0x00 ∷ 0x00 ∷ 0x00 ∷ 0x03 ∷ 0x48 ∷
    0x06 ∷ 0x07 ∷ 0x00 ∷ 0x02 ∷ 0x53 ∷ 0x31 ∷ 0x09 ∷ 0x0A ∷ 0x0C ∷ 0x0D ∷ 0x00 ∷ 0x01 ∷ 0x39 ∷
    0x0F ∷ 0x10 ∷ 0x11 ∷ 0x12 ∷ 0x02 ∷ 0x13 ∷ 0x45 ∷ 0x55 ∷ 0x52 ∷ 0x00 ∷ 0x00 ∷ 0x00 ∷ 0x00 ∷ 0x00 ∷ 0x00 ∷ 0x00 ∷ 0x00 ∷ 0x05 ∷
    0x14 ∷ 0x01 ∷ 0x15 ∷ 0x16 ∷ 0x07 ∷ 0xE8 ∷ 0x02 ∷ 0x1D ∷ 0x00 ∷ []

-- as document 01 printed it, version 1; and "written as 68 bytes, version 2 and kind byte 1"
unfoldable pub printed : List ℕ
unfolding printed_body
printed = 0x4B ∷ 0x54 ∷ 0x4F ∷ 0x00 ∷ 0x01 ∷ printed_body

unfoldable pub written : List ℕ
unfolding printed_body
written = 0x4B ∷ 0x54 ∷ 0x4F ∷ 0x00 ∷ 0x02 ∷ 0x01 ∷ printed_body

-- each item's bytes with their place, the first at `at`, and the closing 0
abbrev pub placed : Listing → ℕ → List (Item values) → List (ℕ × List ℕ)
placed l at [] = (at, 0 ∷ []) ∷ []
placed l at (i ∷ is) = (at, item_bytes values l i) ∷ placed l (at + length (item_bytes values l i)) is

-- the items of the example in version 2, as docs/IMAGE.md has them
unfoldable pub apart : List (ℕ × List ℕ)
apart =
    (6, 0x01 ∷ []) ∷ (7, 0x02 ∷ []) ∷ (8, 0x03 ∷ []) ∷ (9, 0x04 ∷ 0x00 ∷ 0x02 ∷ 0x4D ∷ 0x31 ∷ []) ∷
    (14, 0x05 ∷ 0x07 ∷ 0xE8 ∷ 0x03 ∷ 0x01 ∷ 0x06 ∷ 0x00 ∷ 0x00 ∷ 0x00 ∷ 0x00 ∷ 0x00 ∷ 0x00 ∷ 0x03 ∷ 0x48 ∷ []) ∷
    (28, 0x06 ∷ []) ∷ (29, 0x07 ∷ 0x00 ∷ 0x02 ∷ 0x53 ∷ 0x31 ∷ []) ∷
    (34, 0x09 ∷ []) ∷ (35, 0x0A ∷ []) ∷ (36, 0x0C ∷ []) ∷ (37, 0x0D ∷ 0x00 ∷ 0x01 ∷ 0x39 ∷ []) ∷
    (41, 0x0F ∷ []) ∷ (42, 0x10 ∷ []) ∷ (43, 0x11 ∷ []) ∷ (44, 0x12 ∷ 0x02 ∷ []) ∷
    (46, 0x13 ∷ 0x45 ∷ 0x55 ∷ 0x52 ∷ 0x00 ∷ 0x00 ∷ 0x00 ∷ 0x00 ∷ 0x00 ∷ 0x00 ∷ 0x00 ∷ 0x00 ∷ 0x05 ∷ []) ∷
    (59, 0x14 ∷ 0x01 ∷ []) ∷ (61, 0x15 ∷ []) ∷ (62, 0x16 ∷ 0x07 ∷ 0xE8 ∷ 0x02 ∷ 0x1D ∷ []) ∷ (67, 0x00 ∷ []) ∷ []
