-- The root's tag over bytes and tables, from what the code's calls told. Assumes nothing.
use Rattle.std.specs.Prelude.{Err}
use mathlib.Core.Path.{◌≡◌, sym, ◌∙◌, ap, ap₂}
use mathlib.Core.Bool.{Bool}
use mathlib.Core.List.{List}
use Prim.Native.Nat.{ℕ}
use lib.ListN.{drop}
use Rattle.answer.specs.declared.Answer.{Answer}
use Rattle.answer.specs.Table as table
use Rattle.xml_tags.specs.declared.token.Kind.{Kind}
use Rattle.xml_tags.specs.declared.token.Kind.TheVariants.{Open, Empty, Close, End}
use Rattle.xml_tags.specs.declared.token.Token.{Token}
use Rattle.xml_tags.specs.mirror.Tokens.{open_at, start_of}
use Rattle.file_walk.specs.declared.level.Level.{Level}
use Rattle.file_walk.specs.mirror.Tables.{fresh_in}
use Rattle.file_walk.specs.declared.step.Here.{Here}
use Rattle.file_walk.specs.mirror.Begin.{is_root_in, root_at, Rooted, refused_at, rooted_in, hollow_in, found_in, begin_by, begin_in}

-- the tag is the one where the root begins
module _ (t pool s : List ℕ) (o : ℕ) (begins : o ≡ start_of s) (k : Token) (is : k ≡ open_at o (drop o s)) where
  by_kind : (kind : Kind) → k.kind ≡ kind → (x : Rooted) → x ≡ found_in t pool s kind k → x ≡ begin_in t pool s
  unfolding begin_by
  by_kind kind e x f = f ∙ ap (λ z. found_in t pool s z k) (sym e) ∙ ap (λ z. found_in t pool s z.kind z) (is ∙ ap (λ (n : ℕ). open_at n (drop n s)) begins)

  module _ (lv : Level) (level : lv ≡ fresh_in t 1 k.less) where
    abbrev root : Here
    root = record { level = lv; depth = 0; at = k.end; value = 0; quote = 0 }

    there : root ≡ root_at t k.less k.end
    there = ap (λ (z : Level). record { level = z; depth = 0; at = k.end; value = 0; quote = 0 }) level

    refuses : (a b : Answer) → a ≡ b → ◌≡◌ {A = Rooted} (Err (refused_at root a)) (Err (refused_at (root_at t k.less k.end) b))
    refuses a b f = ap₂ (λ (z : Here) (y : Answer). Err (refused_at z y)) there f

    pub begin_close : (a : Answer) → k.kind ≡ Close → a ≡ table.not_house_xml k.less → Err (refused_at root a) ≡ begin_in t pool s
    begin_close a e f = by_kind Close e (Err (refused_at root a)) (refuses a (table.not_house_xml k.less) f)

    pub begin_end : (a : Answer) → k.kind ≡ End → a ≡ table.not_house_xml k.less → Err (refused_at root a) ≡ begin_in t pool s
    begin_end a e f = by_kind End e (Err (refused_at root a)) (refuses a (table.not_house_xml k.less) f)

    module _ (b : Bool) (own : b ≡ is_root_in t pool s k.less k.stop k.attributes) where
      pub begin_open : (x : Rooted) → k.kind ≡ Open → x ≡ rooted_in b root k.less → x ≡ begin_in t pool s
      begin_open x e f = by_kind Open e x (f ∙ ap₂ (λ (y : Bool) (z : Here). rooted_in y z k.less) own there)

      pub begin_empty : (a : Answer) → k.kind ≡ Empty → a ≡ hollow_in b k.less → Err (refused_at root a) ≡ begin_in t pool s
      begin_empty a e f =
          by_kind Empty e (Err (refused_at root a)) (refuses a (hollow_in (is_root_in t pool s k.less k.stop k.attributes) k.less) (f ∙ ap (λ z. hollow_in z k.less) own))
