-- What measuring a file told, and what the pass that writes leaves, is one of check's answers. Assumes nothing.
use Rattle.std.specs.Prelude.{Ok, Err}
use mathlib.Core.Path.{◌≡◌, refl, sym, ◌∙◌, ap, subst}
use mathlib.Core.Logic.{◌≢◌}
use mathlib.Core.List.{List, ◌++◌}
use Prim.Native.Nat.{ℕ, ◌+◌, ◌≤◌, ◌<◌}
use native.Mathlib.Omega.{arith}
use lib.ListN.{length, drop}
use Rattle.answer.specs.declared.Answer.{Answer}
use Rattle.answer.specs.Table.{accepted, no_room}
use Rattle.text.specs.Pasting.{pasted}
use Rattle.text.proofs.Pasting.{pasted_yes}
use Rattle.list.specs.Listing.{Listing}
use Rattle.list.specs.Within.{Among}
use Rattle.list.specs.tables.Table.{list_of}
use Rattle.list.specs.Content.{Content}
use Rattle.list_house.specs.Lists.{asked}
use Rattle.list_house.specs.mirror.HouseTable.{house_pool}
use Rattle.list_house.specs.mirror.Rows.{asked_rows}
use Rattle.list_house.proofs.Lists.{asked_well}
use Rattle.value.specs.Value.{Value}
use Rattle.file.specs.Instance.{house_kinds}
use Rattle.file.specs.File.{File, image_of}
use Rattle.file.specs.Checks.{Answers, Checks, Finds, long, bad_bytes, markup, violation, room, imaged}
use Rattle.file.proofs.Chosen.{filed_chosen}
use Rattle.file.proofs.answers.House.{image_no_longer, good_fine}
use Rattle.file_measure.specs.declared.Good.{Good}
use Rattle.file_measure.specs.Measured.{Faultless}
use Rattle.file_measure.specs.Measures.{Measures}
use Rattle.file_measure.proofs.Finds.{list_is, ready}
use Rattle.file_check.specs.Fill.{Fillable, FilledIn}

-- a list written at the start of a buffer that it fits in
start_pasted : (d vs : List ℕ) → length vs ≤ length d → pasted d 0 vs ≡ vs ++ drop (length vs) d
start_pasted d vs h = let e : 0 + length vs ≡ length vs = omega arith in pasted_yes d 0 vs (omega arith) ∙ ap (λ (n : ℕ). vs ++ drop n d) e

-- a refusal of the file alone is one whatever the buffer
finds_refused : (s : List ℕ) (a : Answer) → Finds s a → a.code ≢ 0 → (d : List ℕ) → Checks s d a d
finds_refused s a p n d = let r = p.roomy s (omega arith) in go r.0 r.1
  where
    answers : (l : Listing) → ((c : Content Value) → File house_kinds l s c → length (image_of house_kinds l c) ≤ length s) → (d' : List ℕ) → Answers house_kinds l s s a d' → Answers house_kinds l s d a d
    answers l fits d' (long h e f) = long h e refl
    answers l fits d' (bad_bytes h u m q e f) = bad_bytes h u m q e refl
    answers l fits d' (markup h u x m q e f) = markup h u x m q e refl
    answers l fits d' (violation w q f) = violation w q refl
    answers l fits d' (room c f h e g) = absurd (omega (arith, h, fits c f))
    answers l fits d' (imaged c f h e g) = absurd (n (ap (λ (x : Answer). x.code) e))

    go : (d' : List ℕ) → Checks s s a d' → Checks s d a d
    go d' q = record {
      list = q.list;
      among = q.among;
      chosen = q.chosen;
      answers = answers q.list (λ c f. image_no_longer s q.list c (record { among = q.among; file = f })) d' q.answers;
    }

-- a refusal, as it was measured
pub refused : (s : List ℕ) (a : Answer) → Measures s (Err a) → (d : List ℕ) → Checks s d a d
refused s a p d = finds_refused s a p.0 p.1 d

-- a good file
module _ (s : List ℕ) (g : Good) (p : Measures s (Ok g)) where
  abbrev l : Listing
  l = p.list

  abbrev c : Content Value
  c = p.content

  among : Among l asked
  among = p.filed.among

  by_list : (d : List ℕ) (b : Answer) (d' : List ℕ) → Answers house_kinds l s d b d' → Checks s d b d'
  by_list d b d' x = record { list = l; among = among; chosen = filed_chosen s l c p.filed; answers = x }

  pub no_room_lem : (d : List ℕ) (b : Answer) → length d < g.size → b ≡ no_room g.size → Checks s d b d
  no_room_lem d b h e = by_list d b d (room c p.filed.file (omega (arith, h, p.size)) (e ∙ ap no_room p.size) refl)

  -- the kind byte is one
  pub kind_low : g.kind ≤ 255
  kind_low = omega (arith, p.kind, (asked_well l among).byte.1)

  module _ (t pool : List ℕ) (et : t ≡ asked_rows g.kind) (ep : pool ≡ house_pool) where
    tables_are : list_of t pool ≡ l
    tables_are = list_is g.kind t pool et ep l among p.kind

    -- what the pass that writes asks
    pub may_fill : Fillable house_kinds t pool s g.kind
    may_fill = record {
      ready = ready g.kind t pool et ep s p.filed.file.whole;
      none = subst (λ (x : Listing). Faultless house_kinds x s) (sym tables_are) none;
      kind = ap (λ (x : Listing). x.byte) tables_are ∙ sym p.kind;
    }
      where
        none : Faultless house_kinds l s
        none x =
            good_fine s l c p.filed (record { size = p.filed.file.whole.size; utf8 = p.filed.file.whole.utf8; xml = x })

    pub filled : (d d' : List ℕ) (b : Answer) → g.size ≤ length d → FilledIn house_kinds (list_of t pool) s d d' → b ≡ accepted g.size → Checks s d b d'
    filled d d' b h f e =
        let w : File house_kinds l s c = p.filed.file in
        let n : length (image_of house_kinds l c) ≤ length d = omega (arith, h, p.size) in
        let i : FilledIn house_kinds l s d d' = subst (λ (x : Listing). FilledIn house_kinds x s d d') tables_are f in
        by_list d b d' (imaged c w n (e ∙ ap accepted p.size)
        (i c (record { xml = w.whole.xml; none = good_fine s l c p.filed w.whole; has = w.has }) n ∙ start_pasted d (image_of house_kinds l c) n))
