-- A mirror: what a writer puts. Assumes nothing.
use Rattle.std.specs.Prelude.{◌≡◌, List, ℕ}
use Rattle.text.specs.Puts.{Puts}
use Rattle.file_write.specs.declared.put.Writer.{Writer}

-- these bytes, from its place on; the buffer is still the one that it was lent
abbrev pub Put : Writer → List ℕ → Writer → Type 0
Put w bs w' = Puts w.out.now w.at bs w'.at w'.out.now × (w'.out.ghost_name ≡ w.out.ghost_name)
