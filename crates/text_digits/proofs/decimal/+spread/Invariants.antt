-- `decimal::spread` calls itself for a tenth of the number: the number falls. Assumes nothing.
use Rattle.text_digits.proofs.decimal.+spread.Given as goal

abbrev pub decreases-spread : goal.decreases-spread
decreases-spread l = l.n
