-- Demand 3, and reading back, for what check writes: the images of two accepted files tell their lists and contents, and the reader takes each with the
-- same length and content. Assumes nothing.
use mathlib.Core.Path.{◌≡◌, refl, sym, ◌∙◌, ap}
use mathlib.Core.List.{List, ◌++◌, append_assoc}
use Prim.Native.Nat.{ℕ, ◌≤◌}
use lib.ListN.{length, take, length-append}
use Rattle.answer.specs.declared.Answer.{Answer}
use Rattle.answer.specs.Table.{accepted, limit}
use Rattle.list.specs.Listing.{Listing}
use Rattle.list.specs.WellFormed.{WellFormed}
use Rattle.list.specs.Content.{Content}
use Rattle.list.specs.Within.{Among, Kept}
use Rattle.list.proofs.Within.{meets_within}
use Rattle.image.specs.Image.{Lawful, header, body, image}
use Rattle.image.specs.Place.{current, Apart, Accepts, Reads, whole_image}
use Rattle.image.proofs.content.Within.{image_within}
use Rattle.image.proofs.answers.One.{told_kinds}
use Rattle.file.specs.Instance.{Kinds, values_of}
use Rattle.file.specs.File.{image_of}
use Rattle.file.proofs.answers.Accepted.{Taken, written}

-- an image is the same over the list that its list lies within
kept_image : (k : Kinds) (l : Listing) (ls : List Listing) (w : Kept l ls) (c : Content k.types.A) → image_of k l c ≡ image_of k w.list c
kept_image k l ls w c = image_within (values_of k) l w.list w.within c

-- over lists of images, in each of which the list of a file lies
module _ (k : Kinds) (ls : List Listing) (lw : Lawful (values_of k)) (wf : (l : Listing) → Among l ls → WellFormed l) (apart : Apart ls)
    (l : Listing) (w : Kept l ls) (s d : List ℕ) (a : Answer) (d' : List ℕ) (t : Taken k l s d a d')
    (m : Listing) (w₂ : Kept m ls) (s₂ d₂ : List ℕ) (a₂ : Answer) (e' : List ℕ) (t₂ : Taken k m s₂ d₂ a₂ e') where
  -- what was written for two accepted files tells their kinds and their contents, and is no shorter beginning
  pub written_tell : (u v : List ℕ) → take a.place d' ++ u ≡ take a₂.place e' ++ v → (l.byte ≡ m.byte) × (t.content ≡ t₂.content) × (u ≡ v)
  unfolding image
  written_tell u v e =
      let x = written k l s d a d' t ∙ kept_image k l ls w t.content in
      let y = written k m s₂ d₂ a₂ e' t₂ ∙ kept_image k m ls w₂ t₂.content in
      let o =
      told_kinds (values_of k) ls lw wf apart w.list w₂.list w.among w₂.among (header w.list) (header w₂.list) (current refl) (current refl) t.content t₂.content
      (meets_within l w.list w.within k.types.Is t.content t.file.meets) (meets_within m w₂.list w₂.within k.types.Is t₂.content t₂.file.meets) u v
      (ap (λ (z : List ℕ). z ++ u) (sym x) ∙ e ∙ ap (λ (z : List ℕ). z ++ v) y) in
      (w.within.byte ∙ ap (λ (z : Listing). z.byte) o.0 ∙ sym w₂.within.byte, o.2, o.3)

module _ (k : Kinds) (l : Listing) where
  module _ (s d : List ℕ) (a : Answer) (d' : List ℕ) (t : Taken k l s d a d') where
    long_is : a.place ≡ length (image_of k l t.content)
    long_is = ap (λ (x : Answer). x.place) t.is

    -- over lists of images, in one of which the file's list lies
    module _ (ls : List Listing) (w : Kept l ls) (u : List ℕ) where
      abbrev body_of : List ℕ
      body_of = body (values_of k) w.list t.content

      same_image : image_of k l t.content ≡ image_of k w.list t.content
      same_image = kept_image k l ls w t.content

      -- a run that begins with what check wrote begins with an image of the answer's length, and of the file's content
      pub reads_back : Accepts (values_of k) ls (take a.place d' ++ u) a.place
      unfolding image
      reads_back = record {
        list = w.list;
        among = w.among;
        head = header w.list;
        front = current refl;
        after = body_of ++ u;
        at = ap (λ (x : List ℕ). x ++ u) (written k l s d a d' t ∙ same_image) ∙ append_assoc (header w.list) body_of u;
        size = length body_of;
        holds = record { content = t.content; meets = meets_within l w.list w.within k.types.Is t.content t.file.meets; rest = u; at = refl; long = refl };
        long = long_is ∙ ap length same_image ∙ length-append (header w.list) body_of;
      }

      pub same_content : reads_back.holds.content ≡ t.content
      unfolding reads_back
      same_content = refl

      -- and of its kind
      pub same_kind : reads_back.list.byte ≡ l.byte
      unfolding reads_back
      same_kind = sym w.within.byte

      -- the reader's answer for it is check's, whatever follows within the limit
      pub read_alike : length (take a.place d' ++ u) ≤ limit → Reads (values_of k) ls (take a.place d' ++ u) a
      read_alike h = whole_image h a.place reads_back (t.is ∙ ap accepted (sym long_is))
