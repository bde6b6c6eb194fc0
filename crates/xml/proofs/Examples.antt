-- Examples: how many bytes begin some house XML text, computed. Assumes nothing.
use mathlib.Core.Path.{subst}
use mathlib.Core.Bool.{Bool, true, false, ◌&&◌}
use mathlib.Core.List.{List, [], ◌∷◌, ◌++◌}
use Prim.Native.Nat.{ℕ, zero, suc}
use Prim.Native.String.{String}
use lib.Dec.{eqb, T, eqb→eq}
use Rattle.text.specs.Bytes.{ascii, is_blank, is_name_start, is_name_part}
use Rattle.text.specs.Lists.{same, LongestBeginning}
use Rattle.xml.specs.House.{Viable}
use Rattle.xml.specs.mirror.Auto.{at, start, step, next, lead, live_len}
use Rattle.xml.proofs.Theorem.{longest}

pub record Example : Type 0 where
  pub bytes : List ℕ
  pub place : ℕ

abbrev stops : String → ℕ → Example
stops s n = record { bytes = ascii s; place = n }

abbrev deep : ℕ → List ℕ
deep zero = []
deep (suc k) = ascii "<a>" ++ deep k

unfoldable pub examples : List Example
examples =
    stops "" 0 ∷ stops "<a></b>" 5 ∷ stops "<a/>" 4 ∷ stops " <?xml" 2 ∷ stops "<?xml version='" 14 ∷
    stops "<?xml version=\"1.0\" encoding=\"UTF-8\"?>\n<a b = 'x' c=\"y\"/>\n" 58 ∷
    stops "<a b='1' b='2'/>" 10 ∷ stops "<a b='1' bc='2'/>" 17 ∷ stops "<a b='1'c='2'/>" 8 ∷
    stops "<a b='' c='' d='' e='' f=''/>" 23 ∷ stops "<a>]]></a>" 5 ∷ stops "<a>]]&gt;</a>" 13 ∷ stops "<a>]]<b/>></a>" 14 ∷
    stops "<a b=']]>'/>" 12 ∷ stops "<a>&nbsp;" 4 ∷ stops "<a>&apas;" 6 ∷ stops "<a></a >" 8 ∷ stops "<a></ a>" 5 ∷ stops "<a / >" 4 ∷ stops "< a>" 1 ∷
    stops "<a/><b/>" 4 ∷ stops "<a/>x" 4 ∷ stops "<a b='<'/>" 6 ∷
    record { bytes = ascii "<a>" ++ (239 ∷ 191 ∷ 190 ∷ []); place = 5 } ∷
    record { bytes = ascii "<a>" ++ (239 ∷ 191 ∷ 189 ∷ []); place = 6 } ∷
    record { bytes = ascii "<a>" ++ (237 ∷ 160 ∷ 128 ∷ []); place = 4 } ∷
    record { bytes = ascii "<a>" ++ (244 ∷ 143 ∷ 191 ∷ 191 ∷ []); place = 7 } ∷
    record { bytes = ascii "<a>" ++ (244 ∷ 144 ∷ []); place = 4 } ∷
    record { bytes = ascii "<a>" ++ (127 ∷ 194 ∷ 128 ∷ 194 ∷ 159 ∷ 31 ∷ []); place = 8 } ∷
    record { bytes = 239 ∷ 187 ∷ 191 ∷ []; place = 0 } ∷
    stops "<a b:c=''/>" 11 ∷ stops "<a b:=''/>" 5 ∷ stops "<a :b=''/>" 3 ∷ stops "<a b:c:d=''/>" 6 ∷ stops "<a b:1=''/>" 5 ∷ stops "<a:b/>" 2 ∷ stops "<a b:" 5 ∷
    stops "<a b:c='' b:c=''/>" 13 ∷ stops "<a b='' b:c='' x:c=''/>" 23 ∷ stops "<a b:c='' d='' e:f='' g='' h:i=''/>" 27 ∷
    record { bytes = deep 16; place = 48 } ∷ record { bytes = deep 17; place = 49 } ∷
    []

abbrev test : List Example → Bool
test [] = true
test (e ∷ es) = eqb (live_len (at start) e.bytes) e.place && test es

abbrev pub Each : List Example → Type 0
Each [] = Unit {0}
Each (e ∷ es) = LongestBeginning Viable e.bytes e.place × Each es

both : (a b : Bool) → T (a && b) → T a × T b
both true b t = (tt, t)
both false b t = absurd t

shown : (es : List Example) → T (test es) → Each es
shown [] t = tt
shown (e ∷ es) t =
    let w = both (eqb (live_len (at start) e.bytes) e.place) (test es) t in
    (subst (λ (k : ℕ). LongestBeginning Viable e.bytes k) (eqb→eq (live_len (at start) e.bytes) e.place w.0) (longest e.bytes), shown es w.1)

pub all_examples : Each examples
unfolding examples live_len step next lead is_blank is_name_start is_name_part same
all_examples = shown examples tt
