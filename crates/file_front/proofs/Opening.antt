-- The root's tag after what stands before it. Assumes nothing.
use mathlib.Core.Path.{◌≡◌, refl, sym, ◌∙◌, ap, subst}
use mathlib.Core.Bool.{Bool, true, false, ◌||◌, not, true≢false}
use mathlib.Core.List.{List, [], ◌∷◌, ◌++◌, append_assoc, append-nil}
use Prim.Native.Nat.{ℕ, ◌+◌, ◌<◌}
use native.Mathlib.Omega.{arith}
use lib.ListN.{length, take, drop, take-append-drop, length-drop}
use lib.Seq.{drop-drop}
use Rattle.std.specs.Prelude.{Option, Some, unwrap_or, is_some}
use Rattle.text.specs.Bytes.{ascii, is_blank}
use Rattle.text.specs.Lists.{span}
use Rattle.text.specs.Words.{starts}
use Rattle.text.proofs.Parts.{starts_is}
use Rattle.text.proofs.Spans.{span_all}
use Rattle.text_characters.specs.Pieces.{less, greater}
use Rattle.list.specs.Listing.{row_at}
use Rattle.list_house.proofs.Lists.{asked_well, roots_alike}
use Rattle.xml.specs.House.{IsName, Attr, attrs, declaration}
use Rattle.xml.specs.Message.{Attrs, attrs_of}
use Rattle.file_walk.specs.First.{unhinted}
use Rattle.file_walk.proofs.violation.Attrs.{root_tag}
use Rattle.file_front.specs.Opens.{Opens}
use Rattle.file_front.specs.declared.attributes.Carried.{Carried}
use Rattle.file_front.specs.mirror.Attributes.{Fronted, Space, Spaced, none, one, Carries, Shut}

pub front_none : (s : List ℕ) (r : ℕ) → r ≡ 0 + span is_blank (drop 0 s) → Fronted s r
front_none s r e =
    let n : ℕ = span is_blank s in
    let i : n ≡ r = omega arith in
    record { declared = false; before = take n s; blanks = span_all is_blank s; is = sym (take-append-drop n s) ∙ ap (λ (j : ℕ). take n s ++ drop j s) i }

pub front_declared : (s : List ℕ) (r : ℕ) → starts (declaration true) s ≡ true → r ≡ 38 + span is_blank (drop 38 s) → Fronted s r
front_declared s r z e =
    let n : ℕ = span is_blank (drop 38 s) in
    record {
      declared = true;
      before = take n (drop 38 s);
      blanks = span_all is_blank (drop 38 s);
      is = starts_is (declaration true) s z
          ∙ ap (λ (d : List ℕ). declaration true ++ d) (sym (take-append-drop n (drop 38 s)) ∙ ap (λ (d : List ℕ). take n (drop 38 s) ++ d) (drop-drop n 38 s ∙ ap (λ (j : ℕ). drop j s) (sym e)));
    }

-- ---- the tag's end

pub shut_by : (s : List ℕ) (at : ℕ) → starts (greater ∷ []) (drop at s) ≡ true → Shut s at
shut_by s at z = record { is = starts_is (greater ∷ []) (drop at s) z ∙ ap (λ (d : List ℕ). greater ∷ d) (drop-drop 1 at s) }

pub shut_room : (s : List ℕ) (at : ℕ) → Shut s at → at < length s
shut_room s at e = omega (arith, ap length e.is, length-drop at s)

-- ---- all of the tag

-- which list's root it is
spaced_so : (kind : Option ℕ) (ats : Attrs) (k : ℕ) → Spaced kind ats k → (b : ℕ) → kind ≡ Some b → (w : List ℕ) × Space w b × (unhinted ats ≡ (ascii "xmlns", w) ∷ [])
spaced_so kind ats k (none z e f g) b h = absurd (true≢false (ap is_some (sym h ∙ z)))
spaced_so kind ats k (one n z w sp e g) b h = (w, subst (Space w) (ap (λ (o : Option ℕ). unwrap_or o 0) (sym z ∙ h)) sp, e)

-- "An xsi attribute without its `xmlns:xsi` gives code 4"
bound_so : (p l : Bool) → (l ≡ true → p ≡ true) → (not l || p) ≡ true
bound_so p false h = refl
bound_so p true h = h refl

tag_bytes : (n : List ℕ) (bs : List Attr) (t : List ℕ) → (n ++ (attrs bs ++ [])) ++ (greater ∷ t) ≡ n ++ (attrs bs ++ (greater ∷ t))
tag_bytes n bs t = append_assoc n (attrs bs ++ []) (greater ∷ t) ∙ ap (λ (z : List ℕ). n ++ (z ++ (greater ∷ t))) (append-nil (attrs bs))

pub opens_by : (s w : List ℕ) (at : ℕ) (c : Carried) → w ≡ less ∷ ascii "Document" → Fronted s at → starts w (drop at s) ≡ true → Carries s (at + length w) c → Shut s c.at
    → (b : ℕ) → c.kind ≡ Some b → (c.location ≡ true → c.prefix ≡ true) → Opens s b (c.at + 1)
opens_by s w at c e f z k x b n h =
    let bs : List Attr = k.attributes in
    let y = spaced_so c.kind (attrs_of bs) k.spaces k.space b n in
    let l = y.1.list in
    let among = y.1.among in
    let name : (row_at l 1).name ≡ ascii "Document" = roots_alike l among in
    let rest : List ℕ = drop (c.at + 1) s in
    let after : drop (at + length w) s ≡ attrs bs ++ (greater ∷ rest) = k.is ∙ ap (λ (d : List ℕ). attrs bs ++ d) x.is in
    record {
      list = l;
      among = among;
      kind = y.1.kind;
      opened = record {
        declared = f.declared;
        before = f.before;
        blanks = f.blanks;
        root = record { name = ascii "Document"; attributes = bs; gap = [] };
        good = record { name = subst IsName name (asked_well l among).root_name; attributes = k.good; gap = tt };
        keeps = (root_tag l (ascii "Document") (attrs_of bs)).1 (record {
          name = name;
          attrs = record {
            besides = y.2 ∙ ap (λ (u : List ℕ). (ascii "xmlns", u) ∷ []) (sym y.1.is);
            tied = rw (k.location, k.prefix) (bound_so c.prefix c.location h);
          };
        });
        is = f.is ∙ ap (λ (d : List ℕ). declaration f.declared ++ (f.before ++ d))
            (starts_is w (drop at s) z ∙ ap (λ (d : List ℕ). w ++ d) (drop-drop (length w) at s ∙ after) ∙ ap (λ (u : List ℕ). u ++ (attrs bs ++ (greater ∷ rest))) e
            ∙ ap (λ (d : List ℕ). less ∷ d) (sym (tag_bytes (ascii "Document") bs rest)));
      };
    }
