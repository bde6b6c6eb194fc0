-- `span::blanks_end` meets its contract: eight spaces, then what is left of the blanks. Assumes nothing.
use Rattle.std.proofs.Common.{◌≡◌, ℕ, ◌<◌, false, refl, ◌∙◌, arith, rules}
use Rattle.text.specs.Bytes.{is_blank}
use Rattle.text.proofs.Classes.{no, blank}
use Rattle.text.proofs.Spans.{span_over, span_found}
use Rattle.text.proofs.Eights.{tells_blanks}
use Rattle.text.proofs.span.blanks_end.Goals as goal

-- the blanks end with the space
above : (x : ℕ) → 32 < x → false ≡ is_blank x
above x h = no blank (((λ e. omega arith, λ e. omega arith), λ e. omega arith), λ e. omega arith)

pub returns-then-s-at : goal.returns-then-s-at
returns-then-s-at c = span_over is_blank _ _ _ refl c.if-s-at.true

pub returns-then-s-at-gt32 : goal.returns-then-s-at-gt32
returns-then-s-at-gt32 c = span_found is_blank _ _ _ refl (omega (arith, c.if-s-at.false)) (above _ c.if-s-at-gt32.true) refl

pub returns : goal.returns
returns c =
    c.run_end.ensures is_blank (λ b r e. e)
    ∙ c.eights_end-i.ensures is_blank (λ i n d h l q. tells_blanks _ i n l h d (search rules))
    ∙ c.line_end.ensures
