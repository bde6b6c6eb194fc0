-- `measured` meets its contract: codes 1, 2 and 3 in turn, then the message. Assumes nothing.
use native.Mathlib.Omega.{arith}
use Rattle.file.proofs.answers.Early.{all_utf8}
use Rattle.file_measure.proofs.Finds.{tells_long, tells_bytes, tells_markup, is_whole}
use Rattle.file_measure.proofs.measured.Goals as goal

pub returns-then-input-gt-LIMIT : goal.returns-then-input-gt-LIMIT
returns-then-input-gt-LIMIT c =
    tells_long _ _ (omega (arith, c.if-input-gt-LIMIT.true)) c.too_long.ensures

pub returns-then-good-input : goal.returns-then-good-input
returns-then-good-input c =
    tells_bytes _ _ (omega (arith, c.if-input-gt-LIMIT.false)) _ c.utf8_end-good.ensures
    (omega (arith, c.if-good-input.true)) c.not_utf8.ensures

pub message-requires : goal.message-requires
message-requires c =
    is_whole _ (omega (arith, c.if-input-gt-LIMIT.false)) (all_utf8 _ _ c.utf8_end-good.ensures (omega (arith, c.if-good-input.false))) c.in-Ok.ensures

pub returns-in-Err : goal.returns-in-Err
returns-in-Err c =
    tells_markup _ _ (omega (arith, c.if-input-gt-LIMIT.false)) (all_utf8 _ _ c.utf8_end-good.ensures (omega (arith, c.if-good-input.false)))
    _ c.in-Err.ensures c.not_house_xml.ensures
