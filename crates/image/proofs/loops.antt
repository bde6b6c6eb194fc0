-- Of `image`: the loops of the reader and the picker, turn by turn.
-- where an item ends
pub mod Ends
-- each turn of the loop
pub mod ReaderTurn
-- the turns of the reader and the picker
pub mod Reader
-- each turn of its loop
pub mod PickerTurn
-- the turns of the picker
pub mod Picker
