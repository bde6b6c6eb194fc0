-- `from_bytes::is_spaced` meets its contract. Assumes nothing.
use Rattle.std.proofs.Common.{◌≡◌, true, ◌&&◌, drop}
use Rattle.value.specs.types.Text.{is_ref}
use Rattle.value.specs.mirror.Tests.{every, apart}
use Rattle.value_texts_stored.proofs.from_bytes.is_spaced.Given as goal

abbrev pub invariant-loop-x : goal.invariant-loop-x
invariant-loop-x l = (every is_ref (drop l.x-index l.b) && apart l.slash (drop l.x-index l.b)) ≡ (every is_ref l.b && apart true l.b)
