-- The laws of `program_line`.
-- an answer's line, piece by piece
pub mod Lines
-- hexadecimal, byte by byte, and back
pub mod Hexadecimal
