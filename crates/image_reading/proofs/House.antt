-- What the reader and the picker answer over the lists of images: the defined answers, and no other. Assumes nothing.
use mathlib.Core.Path.{◌≡◌, refl, sym, ◌∙◌, ap, ap₂, subst}
use mathlib.Core.Logic.{◌≢◌, ◌⊎◌, ◌↔◌, inl}
use mathlib.Core.Bool.{Bool, true, false}
use Rattle.std.specs.Prelude.{Option, None, Some, IfSome, Result, Ok, Err}
use Rattle.std.specs.Result.{result_ok}
use mathlib.Core.List.{List, [], ◌++◌, append_assoc}
use Prim.Native.Nat.{ℕ, ◌+◌, ◌≤◌, ◌<◌}
use native.Mathlib.Omega.{arith}
use native.Mathlib.Decide.{dec_lt, ℕ_discrete}
use lib.ListN.{length, take, drop, take-append-drop, length-append}
use lib.Seq.{length-take-le, drop_at}
use Rattle.answer.specs.declared.Answer.{Answer}
use Rattle.answer.specs.Table.{limit, accepted, too_long, no_header, wrong_version, broken_image, no_such_leaf}
use Rattle.text.specs.Bytes.{ascii}
use Rattle.list.specs.Listing.{Listing, row_at}
use Rattle.list.specs.Content.{Content, Meets}
use Rattle.list.specs.tables.Table.{list_of}
use Rattle.list.specs.tables.Sound.{Sound}
use Rattle.list.specs.tables.Laid.{laid}
use Rattle.list_house.specs.House.{stored_house}
use Rattle.list_house.specs.mirror.HouseTable.{house_pool}
use Rattle.list_house.specs.mirror.Rows.{kept_rows}
use Rattle.list_house.specs.Kind.{house_kind}
use Rattle.list_house.proofs.HouseKind.{stored_kind, low_group}
use Rattle.list_house.proofs.Lists.{house_stored, stored_house_byte, kept_is, kept_sound, kept_well, bytes_tell}
use Rattle.value.specs.Value.{Value, IsValue}
use Rattle.image.specs.Image.{versioned, body}
use Rattle.image.specs.Kinds.{values}
use Rattle.image.specs.Place.{Holds, Tells, held, broke, Front, current, earlier, Among, Apart, over, foreign, version, kindless, broken, whole_image}
use Rattle.image.specs.Count.{Taken, counted, headless, uncounted}
use Rattle.image.specs.Pick.{Selects, none_such, one_such, refused, missing, found}
use Rattle.image.specs.mirror.Ends.{item_end}
use Rattle.image.specs.mirror.Run.{Behind, Chooses, Answered, Handed}
use Rattle.image.proofs.answers.Heads.{header_length, apart}
use Rattle.image.proofs.answers.One.{not_headed, not_version, not_kindless, accepts_one, accepts_list, accepts_head, accepts_content, reads_one, reads_exactly, picks_one, answers_one, hands_one}
use Rattle.image.proofs.answers.Count.{counts_one, counts_some, few_items}
use Rattle.image.proofs.types.Lawful.{lawful}
use Rattle.image.proofs.Meaning.{body_means, body_some, pick_means}
use Rattle.image.proofs.answers.Some.{picks_some}
use Rattle.image_reading.specs.Reads.{stored, HouseAccepts, HouseReads, HouseCounts, HousePicks, HouseAnswers, HouseHands}
use Rattle.image_reading.specs.Forms.{Reading, told, told_of_head, kind_in, from_in, Headed, bare, leads, Fronts, nothing, headed, Begun, refuses, accepts}
use Rattle.image_reading.specs.declared.front.Head.{Head}
use Rattle.image_reading.specs.declared.front.Image.{Image}
use Rattle.image_reading.specs.declared.front.Refusal.{Refusal}
use Rattle.image_reading.specs.mirror.Front.{Kto, Named, version_of, KindByte, Starts}
use Rattle.image_reading.proofs.Heads.{version_first, version_second, not_first, not_second, named_some, kind_told, kind_none, kind_some, kind_header}

lists_apart : Apart stored
lists_apart = apart stored bytes_tell

-- ---- how a run begins

-- a reading that refuses, after n items
abbrev pub Refused : Reading → Answer → ℕ → Type 0
Refused x a n = (x.answer ≡ a) × (x.kind ≡ 0) × (x.from ≡ 0) × (x.count ≡ n)

module _ (run : List ℕ) where
  -- as no image does
  abbrev Bare : Type 0
  Bare = (l : Listing) → Among l stored → (h s : List ℕ) → Front l h → run ≡ h ++ s → ⊥

  module _ (x : Reading) (a : Answer) (n : ℕ) (t : Refused x a n) where
    refused_reads : HouseReads run a → HouseReads run x.answer
    refused_reads h = subst (λ (z : Answer). HouseReads run z) (sym t.0) h

    refused_counts : HouseCounts run a n → HouseCounts run x.answer x.count
    refused_counts h = subst (λ (z : Answer). HouseCounts run z x.count) (sym t.0) (subst (HouseCounts run a) (sym t.3) h)

    refused_code : a.code ≢ 0 → x.answer.code ≢ 0
    refused_code n z = n (sym (ap (λ (y : Answer). y.code) t.0) ∙ z)

  -- before any item
  module _ (x : Reading) (a : Answer) (t : Refused x a 0) where
    no_start : Bare → (length run ≤ limit → HouseReads run a) → a.code ≢ 0 → Starts run x
    no_start b h n = record { head = bare b t.1 t.2; so = λ z. absurd (z t.1); why = λ z. (refused_code x a 0 t n, (λ l. refused_reads x a 0 t (h l)), headless b t.3) }

    pub starts_foreign : (length run < 5) ⊎ (take 3 run ≢ ascii "KTO") → a ≡ no_header → Starts run x
    starts_foreign k e =
        no_start (λ l i h s f at. not_headed run l h s f at k) (λ lim. foreign lim k e) (λ z. omega (arith, ap (λ (y : Answer). y.code) e))

    pub starts_version : Kto run → version_of run ≢ 1 → version_of run ≢ 2 → a ≡ wrong_version → Starts run x
    starts_version k u v e =
        let u' = not_first run k.0 u in
        let v' = not_second run k.0 v in
        no_start (λ l i h s f at. not_version run l h s f at u' v') (λ lim. version lim k.0 k.1 u' v' e) (λ z. omega (arith, ap (λ (y : Answer). y.code) e))

    pub starts_kindless : Kto run → version_of run ≡ 2 → KindByte run None → a ≡ broken_image 5 → Starts run x
    starts_kindless k v b e =
        let v' = version_second run k v in
        let n = kind_none run b in
        no_start (λ l i h s f at. not_kindless run l h s f at v' (n l i)) (λ lim. kindless lim v' n e) (λ z. omega (arith, ap (λ (y : Answer). y.code) e))

    pub front_long : limit < length run → a ≡ too_long → Fronts run x
    front_long h e =
        let c = ap (λ (y : Answer). y.code) e in
        nothing (λ lim l i g s f at. omega (arith, h, lim)) (refused_reads x a 0 t (over h e)) (refused_code x a 0 t (λ z. omega (arith, c))) t.1 t.2 (refused_counts x a 0 t (uncounted (λ z. omega (arith, c)) (λ z. omega (arith, c)) refl))

  -- as one does
  module _ (x : Reading) where
    starts : (l : Listing) → Among l stored → (h s : List ℕ) → Front l h → run ≡ h ++ s → x.kind ≡ l.byte → x.from ≡ length h
        → (x.answer ≡ accepted x.from) × (x.count ≡ 0) → Starts run x
    starts l i h s f at k e o = record { head = leads l i h s f at k e; so = λ z. o; why = λ z. absurd (omega (arith, k, z, (kept_well l i).byte.0)) }

    pub starts_former : Kto run → version_of run ≡ 1 → x.kind ≡ 1 → x.from ≡ 5 → (x.answer ≡ accepted 5) × (x.count ≡ 0) → Starts run x
    starts_former k v e f o =
        starts stored_house house_stored (take 5 run) (drop 5 run) (earlier stored_house_byte (version_first run k v)) (sym (take-append-drop 5 run)) (e ∙ sym stored_house_byte)
        (f ∙ sym (length-take-le 5 run k.0)) (o.0 ∙ ap accepted (sym f), o.1)

    pub starts_current : Kto run → version_of run ≡ 2 → (k : ℕ) → KindByte run (Some k) → x.kind ≡ k → x.from ≡ 6 → (x.answer ≡ accepted 6) × (x.count ≡ 0) → Starts run x
    starts_current k v b j e f u =
        let o = kind_some run b j in
        let w = kind_header run (version_second run k v) b j o.list o.byte in
        starts o.list o.among (take 6 run) (drop 6 run) (current w) (sym (take-append-drop 6 run)) (e ∙ o.byte) (f ∙ sym (ap length w ∙ header_length o.list))
        (u.0 ∙ ap accepted (sym f), u.1)

    -- within the limit
    pub front_starts : length run ≤ limit → Starts run x → Fronts run x
    front_starts lim s = go s.head
      where
        go : Headed run x.kind x.from → Fronts run x
        go (bare n k f) = let w = s.why k in nothing (λ z. n) (w.1 lim) w.0 k f w.2
        go (leads l i h u f at k e) =
            let o = s.so (λ z. omega (arith, k, z, (kept_well l i).byte.0)) in headed lim l i h u f at k e (o.0 ∙ ap accepted e) o.1

  -- the header alone
  pub head_told : (r : Result Head Answer) (o : Option Head) → o ≡ result_ok r → Starts run (told_of_head r) → Headed run (kind_in o) (from_in o)
  head_told r o e s = subst (λ (o : Option Head). Headed run (kind_in o) (from_in o)) (sym e) (go r s.head)
    where
      go : (r : Result Head Answer) → Headed run (told_of_head r).kind (told_of_head r).from → Headed run (kind_in (result_ok r)) (from_in (result_ok r))
      go (Ok h) w = w
      go (Err a) w = w

  pub head_known : (r : Result Head Answer) (o : Option Head) → o ≡ result_ok r → Starts run (told_of_head r) → IfSome o (λ h. h.kind ≢ 0)
  head_known r o e s = subst (λ (o : Option Head). IfSome o (λ h. h.kind ≢ 0)) (sym e) (go r s)
    where
      go : (r : Result Head Answer) → Starts run (told_of_head r) → IfSome (result_ok r) (λ h. h.kind ≢ 0)
      go (Ok h) s = λ z. (s.why z).0 refl
      go (Err a) s = tt

  -- every run begins somehow
  pub starts_some : (x : Reading) × Starts run x
  starts_some = let n = named_some run in named n.0 n.1
    where
      of_kind_lem : Kto run → version_of run ≡ 2 → (b : Option ℕ) → KindByte run b → (x : Reading) × Starts run x
      of_kind_lem k v None j =
          let x : Reading = record { answer = broken_image 5; kind = 0; from = 0; count = 0 } in
          (x, starts_kindless x (broken_image 5) (refl, refl, refl, refl) k v j refl)
      of_kind_lem k v (Some b) j =
          let x : Reading = record { answer = accepted 6; kind = b; from = 6; count = 0 } in
          (x, starts_current x k v b j refl refl (refl, refl))

      of_version : Kto run → Dec (version_of run ≡ 1) → Dec (version_of run ≡ 2) → (x : Reading) × Starts run x
      of_version k (yes v) d =
          let x : Reading = record { answer = accepted 5; kind = 1; from = 5; count = 0 } in
          (x, starts_former x k v refl refl (refl, refl))
      of_version k (no u) (yes v) = let b = kind_told run in of_kind_lem k v b.0 b.1
      of_version k (no u) (no v) =
          let x : Reading = record { answer = wrong_version; kind = 0; from = 0; count = 0 } in
          (x, starts_version x wrong_version (refl, refl, refl, refl) k u v refl)

      named : (b : Bool) → Named run b → (x : Reading) × Starts run x
      named false n =
          let x : Reading = record { answer = no_header; kind = 0; from = 0; count = 0 } in
          (x, starts_foreign x no_header (refl, refl, refl, refl) (n.no' refl) refl)
      named true n = of_version (n.yes' refl) (ℕ_discrete (version_of run) 1) (ℕ_discrete (version_of run) 2)

  -- in one way only
  pub headed_one : (k j from start : ℕ) → Headed run k from → Headed run j start → (k ≡ j) × (from ≡ start)
  headed_one k j from start (bare n a b) (bare m c d) = (a ∙ sym c, b ∙ sym d)
  headed_one k j from start (bare n a b) (leads l i h s f at c d) = absurd (n l i h s f at)
  headed_one k j from start (leads l i h s f at a b) (bare m c d) = absurd (m l i h s f at)
  headed_one k j from start (leads l i h s f at a b) (leads m v g u w to c d) =
      let o = lists_apart.one l m i v h g s u f w (sym at ∙ to) in
      (a ∙ ap (λ (z : Listing). z.byte) o.0 ∙ sym c, b ∙ ap length o.1 ∙ sym d)

  -- so only one result keeps the promise of `head_of`: none is 0 and 0, and the kind byte of a header is not 0
  pub headed_result_one : (q r : Option Head) → Headed run (kind_in q) (from_in q) → IfSome q (λ h. h.kind ≢ 0)
      → Headed run (kind_in r) (from_in r) → IfSome r (λ h. h.kind ≢ 0) → q ≡ r
  headed_result_one None None a m b n = refl
  headed_result_one None (Some j) a m b n = absurd (n (sym (headed_one 0 j.kind 0 j.from a b).0))
  headed_result_one (Some h) None a m b n = absurd (m (headed_one h.kind 0 h.from 0 a b).0)
  headed_result_one (Some h) (Some j) a m b n =
      let o = headed_one h.kind j.kind h.from j.from a b in ap₂ (λ (k f : ℕ). Some (record { kind = k; from = f })) o.0 o.1

  -- as its first image does, where it begins with one
  pub accepts_headed : (n : ℕ) (w : HouseAccepts run n) → Headed run w.list.byte (length w.head)
  accepts_headed n w = leads w.list w.among w.head w.after w.front w.at refl refl

-- ---- reading

-- the table of a kind byte is that of its list
pub kept_list : (k : ℕ) (l : Listing) → Among l stored → k ≡ l.byte → list_of (laid (kept_rows k)) house_pool ≡ l
kept_list k l i b = ap (λ (n : ℕ). list_of (laid (kept_rows n)) house_pool) b ∙ kept_is l i

-- a table says the list of this kind byte
pub record Says (t : List ℕ) (k : ℕ) : Type 0 where
  pub sound : Sound t house_pool
  pub is : (l : Listing) → Among l stored → k ≡ l.byte → list_of t house_pool ≡ l

-- laid over zeros it does
pub laid_says : (t : List ℕ) (k : ℕ) → t ≡ laid (kept_rows k) → Says t k
laid_says t k e = subst (λ (u : List ℕ). Says u k) (sym e) (record { sound = kept_sound k; is = kept_list k })

module _ (run : List ℕ) where
  -- after a header
  module _ (lim : length run ≤ limit) (l : Listing) (i : Among l stored) (h s : List ℕ) (f : Front l h) (at : run ≡ h ++ s) where
    -- what the items are told to be, by a table of the list
    module _ (t : List ℕ) (k : ℕ) (y : Says t k) (b : k ≡ l.byte) (from : ℕ) (e : from ≡ length h) where
      home : (P : Listing → List ℕ → ℕ → Type 0) → P (list_of t house_pool) (drop from run) from → P l s (length h)
      home P w =
          subst (λ (u : List ℕ). P l u (length h)) (ap (drop (length h)) at ∙ drop_at h s (length h) refl)
          (subst (λ (n : ℕ). P l (drop n run) n) e
          (subst (λ (m : Listing). P m (drop from run) from) (y.is l i b) w))

      behind_tells : (a : Answer) (n : ℕ) → Behind t (item_end t run) run from a n → Tells values l s (length h) a × Taken values l s a n
      behind_tells a n w = home (λ m u from. Tells values m u from a × Taken values m u a n) (body_means t house_pool y.sound run from a n w)

      behind_some : (a : Answer) × Tells values l s (length h) a
      behind_some = let o = body_some t house_pool y.sound run from in (o.0, home (λ m u from. Tells values m u from o.0) o.1)

    accepting_here : (n : ℕ) → Holds values l s n → HouseAccepts run (length h + n)
    accepting_here n w = record { list = l; among = i; head = h; front = f; after = s; at = at; size = n; holds = w; long = refl }

    tells_reads : (a : Answer) → Tells values l s (length h) a → HouseReads run a
    tells_reads a (held n w d) = whole_image lim (length h + n) (accepting_here n w) d
    tells_reads a (broke n w d) = broken lim l i h f s at n w d

    taken_counts : (a : Answer) (n : ℕ) → Taken values l s a n → HouseCounts run a n
    taken_counts a n u = counted l i h s f at u

    tells_begun : (a : Answer) (k from c : ℕ) → k ≡ l.byte → from ≡ length h → Tells values l s (length h) a → Taken values l s a c → a.code ≡ 0 → Begun run (record { answer = a; kind = k; from = from; count = c })
    unfolding accepting_here
    tells_begun a k from c b e (held n w d) u z = accepts lim (length h + n) (accepting_here n w) d b e (taken_counts a c u)
    tells_begun a k from c b e (broke n w d) u z = absurd (omega (arith, ap (λ (y : Answer). y.code) d))

  -- where no image begins
  pub begins_none : (x : Reading) → Fronts run x → x.kind ≡ 0 → Begun run x × (x.answer.code ≢ 0)
  begins_none x (nothing b h n f g c) z = (refuses h n f g c, n)
  begins_none x (headed lim l i h s f at k e u v) z = absurd (omega (arith, k, z, (kept_well l i).byte.0))

  -- where an answer so far accepts, one may
  pub fronts_kind : (x : Reading) → Fronts run x → x.answer.code ≡ 0 → x.kind ≢ 0
  fronts_kind x (nothing b h n f g c) z = absurd (n z)
  fronts_kind x (headed lim l i h s f at k e u v) z = λ y. omega (arith, k, y, (kept_well l i).byte.0)

  -- where one may, by what its items say
  module _ (x : Reading) (g : Fronts run x) (z : x.kind ≢ 0) (t : List ℕ) (y : Says t x.kind) where
    module _ (a : Answer) (m : ℕ) (b : Behind t (item_end t run) run x.from a m) where
      pub begins_with : a.code ≡ 0 → Begun run (record { answer = a; kind = x.kind; from = x.from; count = m })
      begins_with c = go g
        where
          go : Fronts run x → Begun run (record { answer = a; kind = x.kind; from = x.from; count = m })
          go (nothing p h n f e u) = absurd (z f)
          go (headed lim l i h s f at k e u v) =
              let o = behind_tells lim l i h s f at t x.kind y k x.from e a m b in
              tells_begun lim l i h s f at a x.kind x.from m k e o.0 o.1 c

      pub begins_not : a.code ≢ 0 → (v : Reading) → Refused v a m → Begun run v × (v.answer.code ≢ 0)
      begins_not c v r =
          let n = refused_code run v a m r c in
          let o = go g in
          (refuses (refused_reads run v a m r o.0) n r.1 r.2 (refused_counts run v a m r o.1), n)
        where
          go : Fronts run x → HouseReads run a × HouseCounts run a m
          go (nothing p h n f e u) = absurd (z f)
          go (headed lim l i h s f at k e u v) =
              let o = behind_tells lim l i h s f at t x.kind y k x.from e a m b in
              (tells_reads lim l i h s f at a o.0, taken_counts lim l i h s f at a m o.1)

    begins_some : (a : Answer) × HouseReads run a
    begins_some = go g
      where
        go : Fronts run x → (a : Answer) × HouseReads run a
        go (nothing p h n f e u) = absurd (z f)
        go (headed lim l i h s f at k e u v) =
            let o = behind_some lim l i h s f at t x.kind y k x.from e in
            (o.0, tells_reads lim l i h s f at o.0 o.1)

  pub begun_reads : (x : Reading) → Begun run x → HouseReads run x.answer
  begun_reads x (refuses h n f g c) = h
  begun_reads x (accepts lim n w e f g c) = whole_image lim n w e

  -- where no kind is told the answer refuses
  pub begun_refuses : (x : Reading) → Begun run x → x.kind ≡ 0 → x.answer.code ≢ 0
  begun_refuses x (refuses h n f g c) z = n
  begun_refuses x (accepts lim n w e f g c) z = λ y. omega (arith, f, z, (kept_well w.list w.among).byte.0)

  pub begun_counts : (x : Reading) → Begun run x → HouseCounts run x.answer x.count
  begun_counts x (refuses h n f g c) = c
  begun_counts x (accepts lim n w e f g c) = c

-- ---- picking

module _ (run t : List ℕ) (k : ℕ) (y : Says t k) where
  module _ (from m : ℕ) (w : HouseAccepts run m) (b : k ≡ w.list.byte) (e : from ≡ length w.head) where
    abbrev content : Content Value
    content = w.holds.content

    its : w.list ≡ list_of t house_pool
    its = sym (y.is w.list w.among b)

    there : Holds values (list_of t house_pool) (drop from run) w.size
    there = record {
      content = content;
      meets = subst (λ (l : Listing). Meets IsValue l content) its w.holds.meets;
      rest = w.holds.rest;
      at = ap (drop from) w.at ∙ drop_at w.head w.after from (sym e) ∙ w.holds.at ∙ ap (λ (l : Listing). body values l content ++ w.holds.rest) its;
      long = w.holds.long ∙ ap (λ (l : Listing). length (body values l content)) its;
    }

    selects_picks : length run ≤ limit → (r n : ℕ) (a : Answer) (part : List ℕ) → Chooses t (item_end t run) run from r n a part → HousePicks run r n a part
    unfolding there
    selects_picks lim r n a part h =
        go (subst (λ (l : Listing). Selects values l (length w.head) content r n a part) (sym its)
        (subst (λ (z : ℕ). Selects values (list_of t house_pool) z content r n a part) e (pick_means t house_pool y.sound run from w.size there r n a part h)))
      where
        go : Selects values w.list (length w.head) content r n a part → HousePicks run r n a part
        go (none_such m q p) = missing lim _ w m q p
        go (one_such place g q) = found lim _ w place g q

module _ (run t : List ℕ) (x : Reading) (y : Says t x.kind) where
  -- what is chosen after what was begun
  pub begun_picks : Begun run x → x.answer.code ≡ 0 → (r n : ℕ) (a : Answer) (part : List ℕ) → Chooses t (item_end t run) run x.from r n a part → HousePicks run r n a part
  begun_picks (refuses h c f g u) z r n a part k = absurd (c z)
  begun_picks (accepts lim m w e f g u) z r n a part k = selects_picks run t x.kind y x.from m w f g lim r n a part k

  module _ (b : Begun run x) (r n : ℕ) where
    pub begun_answers : x.answer.code ≡ 0 → (a : Answer) → Answered t (item_end t run) run x.from r n a → HouseAnswers run r n a
    begun_answers z a h = (h.part, begun_picks b z r n a h.part h.chooses)

    pub begun_hands : x.answer.code ≡ 0 → (part : List ℕ) → Handed t (item_end t run) run x.from r n part → HouseHands run r n part
    begun_hands z part h = (h.answer, begun_picks b z r n h.answer part h.chooses)

module _ (run : List ℕ) where
  pub begun_none : (x : Reading) → Begun run x → (r n : ℕ) → x.answer.code ≢ 0 → HousePicks run r n x.answer []
  begun_none x b r n z = refused (begun_reads run x b) z refl

  -- a row whose kind is no leaf's has no value
  pub begun_group : (x : Reading) → Begun run x → (r n : ℕ) → x.answer.code ≡ 0 → house_kind r < 2 → HousePicks run r n no_such_leaf []
  begun_group x (refuses k c f g u) r n z h = absurd (c z)
  begun_group x (accepts lim m w e f g u) r n z h =
      missing lim m w (inl (low_group (row_at w.list r).kind (omega (arith, stored_kind w.list w.among r, h)))) refl refl

  -- the first image has one length and one content
  pub house_accepts_one : (m n : ℕ) (a : HouseAccepts run m) (b : HouseAccepts run n) → (m ≡ n) × (a.holds.content ≡ b.holds.content)
  house_accepts_one m n a b = (accepts_one values stored lawful kept_well lists_apart run m n a b, accepts_content values stored lawful kept_well lists_apart run m n a b)

  -- one list and one header
  pub house_list_one : (m n : ℕ) (a : HouseAccepts run m) (b : HouseAccepts run n) → a.list ≡ b.list
  house_list_one = accepts_list values stored lawful kept_well lists_apart run

  pub house_head_one : (m n : ℕ) (a : HouseAccepts run m) (b : HouseAccepts run n) → a.head ≡ b.head
  house_head_one = accepts_head values stored lawful kept_well lists_apart run

  -- which stands at the start of the run
  pub house_begins : (n : ℕ) (w : HouseAccepts run n) → Meets IsValue w.list w.holds.content
      × (run ≡ (w.head ++ body values w.list w.holds.content) ++ w.holds.rest) × (n ≡ length (w.head ++ body values w.list w.holds.content))
  house_begins n w = (
    w.holds.meets,
    w.at ∙ ap (λ (z : List ℕ). w.head ++ z) w.holds.at ∙ sym (append_assoc w.head b w.holds.rest),
    w.long ∙ ap (λ (k : ℕ). length w.head + k) w.holds.long ∙ sym (length-append w.head b),
  )
    where
      b : List ℕ
      b = body values w.list w.holds.content

  -- no second answer fits
  pub house_reads_one : (a b : Answer) → HouseReads run a → HouseReads run b → a ≡ b
  house_reads_one = reads_one values stored lawful kept_well lists_apart run

  pub house_picks_one : (r n : ℕ) (a b : Answer) (s t : List ℕ) → HousePicks run r n a s → HousePicks run r n b t → (a ≡ b) × (s ≡ t)
  house_picks_one = picks_one values stored lawful kept_well lists_apart run

  pub house_answers_one : (r n : ℕ) (a b : Answer) → HouseAnswers run r n a → HouseAnswers run r n b → a ≡ b
  house_answers_one = answers_one values stored lawful kept_well lists_apart run

  -- nor a second part
  pub house_hands_one : (r n : ℕ) (s t : List ℕ) → HouseHands run r n s → HouseHands run r n t → s ≡ t
  house_hands_one = hands_one values stored lawful kept_well lists_apart run

  -- so a run that is refused, and a row of no leaf, have no answer that accepts
  pub begun_nowhere : (x : Reading) → Begun run x → (r n : ℕ) → x.answer.code ≢ 0 → (a : Answer) → HouseAnswers run r n a → a.code ≡ 0 → ⊥
  begun_nowhere x b r n z a h e =
      z (ap (λ (y : Answer). y.code) (house_answers_one r n x.answer a ([], begun_none x b r n z) h) ∙ e)

  pub group_nowhere : (x : Reading) → Begun run x → (r n : ℕ) → x.answer.code ≡ 0 → house_kind r < 2 → (a : Answer) → HouseAnswers run r n a → a.code ≡ 0 → ⊥
  group_nowhere x b r n z k a h e =
      let d : 18 ≡ a.code = ap (λ (y : Answer). y.code) (house_answers_one r n no_such_leaf a ([], begun_group x b r n z k) h) in
      omega (arith, d, e)

  -- nor a second count; some fits; and of an image that is accepted, it is at most the image's length less four
  pub house_counts_one : (a : Answer) (m n : ℕ) → HouseCounts run a m → HouseCounts run a n → m ≡ n
  house_counts_one = counts_one values stored lawful kept_well lists_apart run

  pub house_counts_some : (a : Answer) → HouseReads run a → (n : ℕ) × HouseCounts run a n
  house_counts_some = counts_some values stored run

  pub house_few_items : (a : Answer) (n : ℕ) → HouseReads run a → HouseCounts run a n → a.code ≡ 0
      → (n + 4 ≤ a.place) × (take 5 run ≡ versioned 1 → n + 5 ≤ a.place) × (take 5 run ≡ versioned 2 → n + 6 ≤ a.place)
  house_few_items = few_items values stored lawful kept_well lists_apart run

  -- nor a second way up to the items
  pub fronts_one : (x y : Reading) → Fronts run x → Fronts run y → x ≡ y
  fronts_one x y (nothing b h n k f c) (nothing b' h' n' k' f' c') =
      let e = house_reads_one x.answer y.answer h h' in
      let m = house_counts_one y.answer x.count y.count (subst (λ (a : Answer). HouseCounts run a x.count) e c) c' in
      λ i. record { answer = e i; kind = (k ∙ sym k') i; from = (f ∙ sym f') i; count = m i }
  fronts_one x y (nothing b h n k f c) (headed lim l i g s w at k' f' a m) = absurd (b lim l i g s w at)
  fronts_one x y (headed lim l i g s w at k f a m) (nothing b h n k' f' c) = absurd (b lim l i g s w at)
  fronts_one x y (headed lim l i g s w at k f a m) (headed lim' l' i' g' s' w' at' k' f' a' m') =
      let o = lists_apart.one l l' i i' g g' s s' w w' (sym at ∙ at') in
      let e = a ∙ ap (λ (z : List ℕ). accepted (length z)) o.1 ∙ sym a' in
      let b = k ∙ ap (λ (z : Listing). z.byte) o.0 ∙ sym k' in
      let d = f ∙ ap length o.1 ∙ sym f' in
      λ j. record { answer = e j; kind = b j; from = d j; count = (m ∙ sym m') j }

  -- so only one result keeps the promise of `front`: a refusal tells no kind byte, so that its code is not 0
  pub fronts_result_one : (q r : Result Head Answer) → Fronts run (told_of_head q) → Fronts run (told_of_head r) → q ≡ r
  fronts_result_one q r f g = go q r f g (fronts_one (told_of_head q) (told_of_head r) f g)
    where
      go : (q r : Result Head Answer) → Fronts run (told_of_head q) → Fronts run (told_of_head r) → told_of_head q ≡ told_of_head r → q ≡ r
      go (Ok h) (Ok j) f g e = ap (λ (x : Reading). Ok (record { kind = x.kind; from = x.from })) e
      go (Ok h) (Err b) f g e = absurd (fronts_kind run (told_of_head (Err b)) g (sym (ap (λ (x : Reading). x.answer.code) e)) refl)
      go (Err a) (Ok j) f g e = absurd (fronts_kind run (told_of_head (Err a)) f (ap (λ (x : Reading). x.answer.code) e) refl)
      go (Err a) (Err b) f g e = ap (λ (x : Reading). Err x.answer) e

  -- nor a second kind byte, or a second place of the items
  pub begun_one : (x y : Reading) → Begun run x → Begun run y → x ≡ y
  begun_one x y b c = go (house_reads_one x.answer y.answer (begun_reads run x b) (begun_reads run y c)) b c
    where
      alike : x.answer ≡ y.answer → x.kind ≡ y.kind → x.from ≡ y.from → x ≡ y
      alike e f g = λ i. record { answer = e i; kind = f i; from = g i; count = many i }
        where
          many : x.count ≡ y.count
          many = house_counts_one y.answer x.count y.count (subst (λ (a : Answer). HouseCounts run a x.count) e (begun_counts run x b)) (begun_counts run y c)

      code : (n : ℕ) (a b : Answer) → a ≡ b → a.code ≢ 0 → b ≡ accepted n → ⊥
      code n a b e z d = z (ap (λ (u : Answer). u.code) (e ∙ d))

      go : x.answer ≡ y.answer → Begun run x → Begun run y → x ≡ y
      go e (refuses h n f g u) (refuses h' n' f' g' u') = alike e (f ∙ sym f') (g ∙ sym g')
      go e (refuses h n f g u) (accepts l k w d f' g' u') = absurd (code k x.answer y.answer e n d)
      go e (accepts l k w d f g u) (refuses h n f' g' u') = absurd (code k y.answer x.answer (sym e) n d)
      go e (accepts l k w d f g u) (accepts l' k' w' d' f' g' u') =
          alike e (f ∙ ap (λ (m : Listing). m.byte) (house_list_one k k' w w') ∙ sym f') (g ∙ ap length (house_head_one k k' w w') ∙ sym g')

  -- so only one result keeps the promise of `image_first::reading`
  pub begun_result_one : (q r : Result Image Refusal) → Begun run (told q) → Begun run (told r) → q ≡ r
  begun_result_one q r b c = go q r b c (begun_one (told q) (told r) b c)
    where
      go : (q r : Result Image Refusal) → Begun run (told q) → Begun run (told r) → told q ≡ told r → q ≡ r
      go (Ok i) (Ok j) b c e = ap (λ (x : Reading). Ok (record { length = x.answer.place; kind = x.kind; from = x.from; count = x.count })) e
      go (Ok i) (Err s) b c e = absurd (begun_refuses run (told (Err s)) c refl (sym (ap (λ (x : Reading). x.answer.code) e)))
      go (Err t) (Ok j) b c e = absurd (begun_refuses run (told (Err t)) b refl (ap (λ (x : Reading). x.answer.code) e))
      go (Err t) (Err s) b c e = ap (λ (x : Reading). Err (record { answer = x.answer; count = x.count })) e

  -- some answer fits: how the run begins tells it, or what stands after its header
  pub house_reads_some : (a : Answer) × HouseReads run a
  house_reads_some = elim (dec_lt limit (length run)) [
    | yes h ↦ (too_long, over h refl)
    | no h ↦ let o = starts_some run in go o.0 (front_starts run o.0 (omega arith) o.1) (ℕ_discrete o.0.kind 0)
  ]
    where
      go : (x : Reading) → Fronts run x → Dec (x.kind ≡ 0) → (a : Answer) × HouseReads run a
      go x f (yes z) = (x.answer, begun_reads run x (begins_none run x f z).0)
      go x f (no z) = begins_some run x f z (laid (kept_rows x.kind)) (laid_says (laid (kept_rows x.kind)) x.kind refl)

  -- and of the picker, with some part
  pub house_picks_some : (r n : ℕ) → (a : Answer) × (part : List ℕ) × HousePicks run r n a part
  house_picks_some r n =
      let x = house_reads_some in
      let o = picks_some values stored lawful kept_well run r n x.0 x.1 in
      (o.answer, o.part, o.picks)

  -- code 0 and place n exactly of a run within the limit that begins with an image of n bytes
  pub house_reads_exactly : (a : Answer) → HouseReads run a → (n : ℕ) → ((a.code ≡ 0) × (a.place ≡ n)) ↔ ((length run ≤ limit) × HouseAccepts run n)
  house_reads_exactly = reads_exactly values stored lawful kept_well lists_apart run

-- what `pick` answers is what `pick_from` answers after what was begun
module _ (run t : List ℕ) (x : Reading) (y : Says t x.kind) (b : Begun run x) (r n : ℕ) where
  pub begun_answered : x.answer.code ≡ 0 → (part : List ℕ) → Handed t (item_end t run) run x.from r n part → (a : Answer) → HouseAnswers run r n a → Answered t (item_end t run) run x.from r n a
  begun_answered z part h a k =
      let d : h.answer ≡ a = house_answers_one run r n h.answer a (part, begun_picks run t x y b z r n h.answer part h.chooses) k in
      subst (Answered t (item_end t run) run x.from r n) d (record { part = part; chooses = h.chooses })
