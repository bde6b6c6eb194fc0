-- What the pass leaves in a buffer is the image of a good file: for each list. Assumes nothing.
use Rattle.std.specs.Prelude.{Option, Some, None}
use mathlib.Core.Path.{◌≡◌, sym, ◌∙◌, ap, ap₂, subst}
use mathlib.Core.List.{List, ◌∷◌, ◌++◌}
use Prim.Native.Nat.{ℕ, ◌+◌, ◌≤◌, ◌<◌}
use native.Mathlib.Omega.{arith}
use lib.ListN.{length, drop}
use Rattle.answer.specs.declared.Answer.{Answer}
use Rattle.answer.specs.Table.{accepted, no_room}
use Rattle.text.specs.Numbers.{big_endian}
use Rattle.text.specs.Pasting.{pasted}
use Rattle.text.proofs.Pasting.{pasted_no, pasted_yes, length_pasted}
use Rattle.list.specs.Listing.{Listing}
use Rattle.list.specs.Content.{Content}
use Rattle.list.specs.Within.{Among}
use Rattle.list_house.specs.House.{house, report}
use Rattle.list_house.specs.Lists.{asked}
use Rattle.list_house.proofs.Lists.{each_asked, asked_well, house_byte, report_byte, house_asked, report_asked}
use Rattle.value.specs.Value.{Value}
use Rattle.image.specs.Image.{header}
use Rattle.file.specs.Instance.{house_kinds}
use Rattle.file.specs.File.{image_of}
use Rattle.file.specs.Checks.{Checks}
use Rattle.file.specs.Checks as checks
use Rattle.file.proofs.Chosen.{filed_chosen}
use Rattle.file.proofs.answers.House.{one_content}
use Rattle.file_nodes.specs.Entries.{node_at}
use Rattle.file_nodes.specs.mirror.ByKind.{entries_of, table_of, nodes_of}
use Rattle.file_nodes.specs.mirror.Kept.{Tabled}
use Rattle.file_nodes.proofs.House.{ran_content, ran_filed, ran_image, ran_long, lists_tabled, nodes_start}
use Rattle.file_lane.specs.Seen.{Seen}
use Rattle.file_lane.proofs.Knowing.{seen_ran}
use Rattle.file_fill.specs.Laned.{Laned, unknown, imaged}
use Rattle.file_fill.specs.mirror.Fills.{Ways, StandsAt, Fillable, Fills}
use Rattle.file_fill.proofs.Ways.{house_ways, report_ways}

-- ---- the nodes of every list are as the pass that writes takes them

house_ways_at : (b : ℕ) → b ≡ 1 → Tabled (table_of b) (node_at house (entries_of b)) → Ways (table_of b) (node_at house (entries_of b))
house_ways_at b e t =
    subst (λ (i : ℕ). Ways (table_of i) (node_at house (entries_of i))) (sym e) (house_ways (subst (λ (i : ℕ). Tabled (table_of i) (node_at house (entries_of i))) e t))

report_ways_at : (b : ℕ) → b ≡ 2 → Tabled (table_of b) (node_at report (entries_of b)) → Ways (table_of b) (node_at report (entries_of b))
report_ways_at b e t =
    subst (λ (i : ℕ). Ways (table_of i) (node_at report (entries_of i))) (sym e) (report_ways (subst (λ (i : ℕ). Tabled (table_of i) (node_at report (entries_of i))) e t))

pub lists_ways : (l : Listing) → Among l asked → Ways (table_of l.byte) (nodes_of l)
lists_ways = each_asked (λ l. Ways (table_of l.byte) (nodes_of l))
    (house_ways_at house.byte house_byte (lists_tabled house house_asked))
    (report_ways_at report.byte report_byte (lists_tabled report report_asked))

-- ---- what is put is the image

head_is_lem : (l : Listing) (b : ℕ) (bs : List ℕ) → b ≡ l.byte → (75 ∷ 84 ∷ 79 ∷ 0 ∷ 2 ∷ b ∷ 1 ∷ bs) ≡ header l ++ (1 ∷ bs)
unfolding header big_endian
head_is_lem l b bs e = ap (λ (x : ℕ). 75 ∷ 84 ∷ 79 ∷ 0 ∷ 2 ∷ x ∷ 1 ∷ bs) e

module _ (s : List ℕ) (n b from : ℕ) (w : Seen s n b from) where
  -- the kind byte is one
  pub seen_low : b ≤ 255
  seen_low = omega (arith, w.opens.kind, (asked_well w.opens.list w.opens.among).byte.1)

  image_is : image_of house_kinds w.opens.list (ran_content w.opens.list w.opens.among s w.bytes (seen_ran s n b from w)) ≡ 75 ∷ 84 ∷ 79 ∷ 0 ∷ 2 ∷ b ∷ 1 ∷ w.bytes
  image_is = ran_image w.opens.list w.opens.among s w.bytes (seen_ran s n b from w) ∙ sym (head_is_lem w.opens.list b w.bytes w.opens.kind)

  -- the image in a buffer
  laned_as : (d d' : List ℕ) → d' ≡ pasted d 0 (75 ∷ 84 ∷ 79 ∷ 0 ∷ 2 ∷ b ∷ 1 ∷ w.bytes) → Laned s d (Some n) d'
  laned_as d d' e =
      let r = seen_ran s n b from w in
      imaged w.opens.list (ran_content w.opens.list w.opens.among s w.bytes r) (ran_filed w.opens.list w.opens.among s w.bytes r)
      (ap Some (w.size ∙ sym (ran_long w.opens.list w.opens.among s w.bytes r))) (e ∙ ap (pasted d 0) (sym image_is))

  module _ (t d : List ℕ) (e : t ≡ table_of b) (h : n ≤ length d) where
    stands : StandsAt t s 1 from w.bytes
    stands =
        let z : table_of w.opens.list.byte ≡ t = sym (e ∙ ap table_of w.opens.kind) in
        subst (λ (x : List ℕ). StandsAt x s 1 from w.bytes) z
        (record { at = nodes_of w.opens.list; ways = lists_ways w.opens.list w.opens.among; is = nodes_start w.opens.list.byte; run = w.run })

    pub seen_fillable : Fillable t s from d
    seen_fillable = record { small = w.small; bytes = w.bytes; stands = stands; room = omega (arith, h, w.size) }

    pub seen_filled : (k : ℕ) → k ≡ b → (d' : List ℕ) → Fills t s from k d d' → Laned s d (Some n) d'
    seen_filled k z d' f =
        laned_as d d'
        ((f w.bytes stands).is (omega (arith, h, w.size)) ∙ ap (λ (x : ℕ). pasted d 0 (75 ∷ 84 ∷ 79 ∷ 0 ∷ 2 ∷ x ∷ 1 ∷ w.bytes)) z)

-- there is no room
pub laned_left : (s d : List ℕ) (n b from : ℕ) → Seen s n b from → length d < n → Laned s d (Some n) d
laned_left s d n b from w h = laned_as s n b from w d d (sym (pasted_no d 0 (75 ∷ 84 ∷ 79 ∷ 0 ∷ 2 ∷ b ∷ 1 ∷ w.bytes) (omega (arith, h, w.size))))

-- ---- and what `check` answers

module _ (s d : List ℕ) (r : Option ℕ) (d' : List ℕ) where
  pub laned_long : Laned s d r d' → length d' ≡ length d
  laned_long (unknown z e) = ap length e
  laned_long (imaged l c f e g) = ap length g ∙ length_pasted d 0 (image_of house_kinds l c)

  -- where nothing is told the buffer stays
  pub laned_still : Laned s d r d' → r ≡ None → (a : Answer) (d'' : List ℕ) → Checks s d' a d'' → Checks s d a d''
  laned_still (unknown z e) h a d'' w = subst (λ (x : List ℕ). Checks s x a d'') e w
  laned_still (imaged l c f e g) h a d'' w = absurd (cc)

module _ (s d : List ℕ) (r : Option ℕ) (n : ℕ) (d' : List ℕ) (a : Answer) (some : r ≡ Some n) where
  long : {i : ℕ} → r ≡ Some i → n ≡ i
  long e = cc

  pub laned_checks : Laned s d r d' → n ≤ length d' → a ≡ accepted n → Checks s d a d'
  laned_checks (unknown z e) h w = absurd (cc)
  laned_checks (imaged l c f e g) h' w =
      let q = long e in
      let h : n ≤ length d = omega (arith, h', laned_long s d r d' (imaged l c f e g)) in
      let i : List ℕ = image_of house_kinds l c in
      let z : 0 + length i ≡ length i = omega arith in
      record {
        list = l;
        among = f.among;
        chosen = filed_chosen s l c f;
        answers = checks.imaged c f.file (omega (arith, h, q)) (w ∙ ap accepted q) (g ∙ pasted_yes d 0 i (omega (arith, h, q)) ∙ ap (λ (m : ℕ). i ++ drop m d) z);
      }

  pub laned_room : Laned s d r d' → length d' < n → a ≡ no_room n → Checks s d a d'
  laned_room (unknown z e) h w = absurd (cc)
  laned_room (imaged l c f e g) h' w =
      let q = long e in
      let h : length d < n = omega (arith, h', laned_long s d r d' (imaged l c f e g)) in
      record {
        list = l;
        among = f.among;
        chosen = filed_chosen s l c f;
        answers = checks.room c f.file (omega (arith, h, q)) (w ∙ ap no_room q) (g ∙ pasted_no d 0 (image_of house_kinds l c) (omega (arith, h, q)));
      }

-- ---- only one answer is told of a file

pub laned_one : (s d : List ℕ) (n : ℕ) (x : List ℕ) (m : ℕ) (y : List ℕ) → Laned s d (Some n) x → Laned s d (Some m) y → (n ≡ m) × (x ≡ y)
laned_one s d n x m y (unknown e f) q = absurd (cc)
laned_one s d n x m y (imaged l u f e g) (unknown o q) = absurd (cc)
laned_one s d n x m y (imaged l u f e g) (imaged h v q i r) =
    let o = one_content s l h u v f q in
    let p : image_of house_kinds l u ≡ image_of house_kinds h v = ap₂ (λ (t : Listing) (a : Content Value). image_of house_kinds t a) o.0 o.1 in
    let k : length (image_of house_kinds l u) ≡ length (image_of house_kinds h v) = ap length p in
    (cc, g ∙ ap (pasted d 0) p ∙ sym r)
