-- What is left after the root's tag makes the file a good one, and its image is known. Assumes nothing.
use mathlib.Core.Path.{◌≡◌, refl, sym, ◌∙◌, ap, subst}
use mathlib.Core.List.{List, [], ◌∷◌, ◌++◌, append_assoc, append-nil}
use Prim.Native.Nat.{ℕ, ◌+◌, ◌≤◌}
use native.Mathlib.Omega.{arith}
use lib.ListN.{length}
use Rattle.text.specs.Bytes.{is_blank}
use Rattle.text.specs.Lists.{All}
use Rattle.answer.specs.Table.{limit}
use Rattle.text.specs.Numbers.{big_endian}
use Rattle.list.specs.Listing.{Listing}
use Rattle.list.specs.WellFormed.{WellFormed}
use Rattle.list.specs.Content.{Content, end, node, rows}
use Rattle.xml.specs.House.{GoodMarkup, Tree, HouseXml}
use Rattle.xml.specs.House as X
use Rattle.xml.proofs.Coded.{house_utf8}
use Rattle.xml.specs.Message.{attrs_of}
use Rattle.file_walk.specs.Types.{Spelling}
use Rattle.file_walk.proofs.violation.Attrs.{root_tag}
use Rattle.image.specs.Image.{header, image}
use Rattle.image.proofs.content.Levels.{chain_children}
use Rattle.image.proofs.content.Begins.{of_after}
use Rattle.file.specs.Instance.{Kinds, values_of}
use Rattle.file.specs.File.{File, image_of}
use Rattle.file_front.specs.Opens.{RootOpened}
use Rattle.file_nodes.specs.Run.{Node}
use Rattle.file_nodes.specs.Fitting.{NodesFit}
use Rattle.file_nodes.specs.Ran.{Ran}
use Rattle.file_nodes.proofs.Rooms.{room, root_room}
use Rattle.file_nodes.proofs.Running.{Money, left}
use Rattle.file_nodes.proofs.Laning.{Left, Up, root, more, put, put_node}

module _ (k : Kinds) (l : Listing) (wf : WellFormed l) where
  -- the root is over
  last : (u m : List ℕ) → Up k l (room l) 1 u m → All is_blank u × (m ≡ 0 ∷ [])
  last u m (root e b z) = (b, z)
  last u m (more h x c s v n e up z) = absurd (omega arith)

  image_is : (c : Content k.types.A) (m : List ℕ) → m ≡ put k l c ++ (0 ∷ []) → image_of k l (node 1 c end) ≡ header l ++ (1 ∷ m)
  unfolding image
  image_is c m e =
      ap (λ (z : List ℕ). header l ++ (z ++ (0 ∷ []))) (put_node k l 1 c end ∙ ap (λ (z : List ℕ). 1 ∷ z) (append-nil (put k l c)))
      ∙ ap (λ (z : List ℕ). header l ++ (1 ∷ z)) (sym e)

  -- a good file, whose image is the header, the root's row byte and m
  pub record GoodFile (s m : List ℕ) : Type 0 where
    pub content : Content k.types.A
    pub file : File k l s content
    pub image_is : image_of k l content ≡ header l ++ (1 ∷ m)

  pub file_is : (s u m : List ℕ) → length s ≤ limit → RootOpened l s u → Left k l (room l) 1 0 u m → GoodFile s m
  file_is s u m size r f =
      let z = last f.rest f.few f.up in
      let o = of_after (values_of k) l wf f.content 1 0 f.stands.after in
      let name = ((root_tag l r.root.name (attrs_of r.root.attributes)).0 r.keeps).name in
      let t : Tree = record { declared = r.declared; before = r.before; root = X.full r.root f.tree [] X.no_more; after = f.rest } in
      let xml : HouseXml s = record {
        tree = t;
        good = record { before = r.blanks; one = refl; root = (r.good, subst (λ (n : ℕ). GoodMarkup n f.tree) (root_room l wf) f.stands.good, tt, tt); after = z.0 };
        is = r.is ∙ rw (f.is, name) (simp append_assoc);
      } in
      record {
        content = node 1 f.content end;
        file = record {
          whole = record { size = size; utf8 = house_utf8 xml; xml = xml };
          has = record { root = r.keeps; alone = refl; kids = f.content; is = refl; parts = f.stands.denotes _ };
          meets = record { root = refl; good = ((rw wf.root.1, chain_children l wf 1 (rows f.content) o.0), o.1, tt) };
        };
        image_is = image_is f.content m (f.size ∙ ap (λ (n : List ℕ). put k l f.content ++ n) z.1);
      }

  pub image_long : (s m : List ℕ) (g : GoodFile s m) → length (image_of k l g.content) ≡ 7 + length m
  unfolding header big_endian
  image_long s m g = let e = ap length g.image_is in omega (arith, e)

  -- a run after the root's tag
  pub ran_file : (y : Spelling k.types) (money : Money k) (May : ℕ → ℕ → ℕ → Type 0) (at : ℕ → Node) (nodes : NodesFit l May at) (start : ℕ) → May start 1 0
      → (s bs : List ℕ) → Ran k l at start s bs → GoodFile s bs
  ran_file y money May at nodes start m s bs r = file_is s r.rest bs r.size r.opened (left k y money l wf May at nodes r.run 1 0 m)
