-- What holds after every legal journal, and how one allowed move goes on from there.
use Rattle.std.proofs.Common.{◌≡◌, ◌≢◌, ◌⊎◌, inl, inr, ℕ, ◌+◌, ◌*◌, ◌<◌, ◌≤◌, ◌^◌, List, [], ◌∷◌, ◌++◌, Option, Some, None, Bool, true, false, cond, refl, sym, ap, ◌∙◌, subst, ⊎_elim, arith, length}
use Rattle.std.specs.Prelude.{◌==◌, nat_lt, Contains, not}
use Rattle.std.proofs.lemmas.Bool.Decides.{nat_tests}
use Rattle.delos_types.specs.declared.entry.Entry.{Entry}
use Rattle.delos_types.specs.declared.chain.Segment.{Segment}
use Rattle.delos_types.specs.declared.chain.Chain.{Chain}
use Rattle.chain_map.specs.Chain.{last_of_segments}
use Rattle.chain_map.specs.Step.{extended_segments}
use Rattle.legal_journal.specs.Law.{Law}
use Rattle.legal_journal.specs.Shown.{entry_of, entry_in, end_of}
use Rattle.legal_journal.specs.Told.{put, cut_begun}
use Rattle.legal_journal.specs.Journal.{CellState, RegisterState, State, make, answered_by, log_of, log_at, trim_of, tail_of, last_segment, reach, entries, ends, now_or_before, Extends, Raises, known, register_after, cell_after, after, start, IsCurrent, MayFollow, CellAllowed, RegisterAllowed, IsAllowed}
use Rattle.legal_journal.specs.Laws.{Goes, Continues}
use Rattle.legal_journal.proofs.Log.{kept, next, ends_by, Joined, Joined-more, Joined-extended_segments, HasStart, HasStart-was, HasStart-kept_was, IsIn, IsIn-extended, IsIn-kept, Grows, entry_in-grows, entry_in-extended_segments, entry_in-kept, last_open, last_of_segments-extended_segments, last_starts, rest_of, end_open}
use Rattle.legal_journal.specs.Moves.{CellMove, Begins, Carries, Answers, Drops, Misses, RegisterMove, Gives, Conflicts, Writes, Faults, Fails, Mends, Move, OnCell, OnRegister, Nothing, Never}
use Rattle.loglet_api.specs.declared.call.Op.TheVariants.{Append, Settle, Tail, Seal, Read, Trim}
use Rattle.legal_journal.proofs.Cells.{CellOk, put_cases, put_same, begins_ok, drops_ok, answers_ok}

-- a chain that closes its last segment, and one that raises its trim, field by field
pub record Extending (ends : ℕ → List ℕ) (cells : ℕ) (old new : Chain) : Type 0 where
  pub at : ℕ
  pub told : Contains (ends (last_of_segments old.segments).id) at
  pub spare : (last_of_segments old.segments).id + 1 < cells
  pub trim : new.trim ≡ old.trim
  pub segments : new.segments ≡ extended_segments old.segments at

pub record Raising (old new : Chain) : Type 0 where
  pub above : old.trim < new.trim
  pub small : new.trim ≤ 2 ^ 38
  pub segments : new.segments ≡ kept new.trim old.segments

extending : (es : ℕ → List ℕ) (cells : ℕ) (old new : Chain) → Extends es cells old new → Extending es cells old new
extending es cells old new x = record {
  at = x.at;
  told = x.told;
  spare = x.spare;
  trim = ap (λ (c : Chain). c.trim) x.is;
  segments = ap (λ (c : Chain). c.segments) x.is;
}

raising : (old new : Chain) → Raises old new → Raising old new
raising old new x =
    let trim : new.trim ≡ x.trim = ap (λ (c : Chain). c.trim) x.is in record {
      above = omega (arith, x.above);
      small = omega (arith, x.small);
      segments = subst (λ n. new.segments ≡ kept n old.segments) (sym trim) (ap (λ (c : Chain). c.segments) x.is);
    }

-- a step of the chain, the floor aside
abbrev pub Follows : (ℕ → List ℕ) → ℕ → Chain → Chain → Type 0
Follows es cells old new = Extending es cells old new ⊎ Raising old new

-- all of the segment that starts at s lies below n
abbrev pub IsBelow : List ℕ → ℕ → ℕ → Type 0
IsBelow es s n = (t : ℕ) × Contains es t × (s + t ≤ n)

-- What holds of a chain that was given, by the current chain, the starts and the sealed tails: its segments join, they
-- started, and a closed one is the current chain's, or lies below its trim.
pub record Given (es : ℕ → List ℕ) (starts : ℕ → Option ℕ) (now c : Chain) : Type 0 where
  pub id : ℕ
  pub from : ℕ
  pub joined : Joined es id from c.segments
  pub low : from ≤ c.trim
  pub start : (i s : ℕ) → HasStart c.segments i s → starts i ≡ Some s
  pub closed : (x : Segment) (n : ℕ) → IsIn x c.segments → x.end ≡ Some n → IsIn x now.segments ⊎ (n ≤ now.trim)
  pub trim : c.trim ≤ now.trim
  pub last : (last_of_segments c.segments).id ≤ (last_of_segments now.segments).id

-- nothing of a cell is cut but what lies below the trim
abbrev pub CutBelow : (ℕ → Option ℕ) → ℕ → ℕ → ℕ → Type 0
CutBelow starts trim i cut = (cut ≡ 0) ⊎ ((s : ℕ) × (starts i ≡ Some s) × (s + cut ≤ trim))

pub record StateOk (cells : ℕ) (w : State) : Type 0 where
  pub few : cells ≤ 64
  pub cell : (i : ℕ) → CellOk (w.cells i)
  pub spare : (i : ℕ) → 0 < (w.cells i).told.seals → i + 1 < cells
  pub id : ℕ
  pub from : ℕ
  pub joined : Joined (ends w.cells) id from w.register.chain.segments
  pub low : from ≤ trim_of w
  pub asked : (c : Chain) → w.register.asked ≡ Some c → Follows (ends w.cells) cells w.register.chain c
  pub given : w.register.given w.register.version ≡ Some w.register.chain
  pub unborn : (v : ℕ) → w.register.version < v → w.register.given v ≡ None
  pub start : (i s : ℕ) → w.starts i ≡ Some s → HasStart w.register.chain.segments i s ⊎ IsBelow (ends w.cells i) s (trim_of w)
  pub order : (i j s u : ℕ) → i < j → w.starts i ≡ Some s → w.starts j ≡ Some u → IsBelow (ends w.cells i) s u
  pub last : w.starts (last_segment w).id ≡ Some (last_segment w).start
  pub ids : (i s : ℕ) → w.starts i ≡ Some s → i ≤ (last_segment w).id
  pub shelf : (last_segment w).id < cells
  pub rooms : (i s : ℕ) → w.starts i ≡ Some s → s ≤ i * 2 ^ 32
  pub version : w.register.version ≤ 1 + (last_segment w).id + trim_of w
  pub trim : trim_of w ≤ 2 ^ 38
  pub olds : (v : ℕ) (c : Chain) → w.register.given v ≡ Some c → Given (ends w.cells) w.starts w.register.chain c
  pub cuts : (i : ℕ) → CutBelow w.starts (trim_of w) i (w.cells i).told.cut
  pub was_shown : (pos : ℕ) (e : Entry) → w.shown pos ≡ Some e → (pos < trim_of w) ⊎ (log_at w pos ≡ Some e)

-- The log by its parts

pub log_from : (r : ℕ → ℕ) (es : ℕ → List Entry) (c : Chain) (pos : ℕ) (e : Entry) → entry_of r es c pos ≡ Some e → (c.trim ≤ pos) × (entry_in r es c.segments pos ≡ Some e)
log_from r es c pos e h = by_test (nat_lt pos c.trim) refl h
  where
    by_test : (b : Bool) → nat_lt pos c.trim ≡ b → cond b None (entry_in r es c.segments pos) ≡ Some e → (c.trim ≤ pos) × (entry_in r es c.segments pos ≡ Some e)
    by_test true t h = absurd (cc)
    by_test false t h = (grind (arith, nat_tests), h)

pub log_to : (r : ℕ → ℕ) (es : ℕ → List Entry) (c : Chain) (pos : ℕ) (x : Option Entry) → c.trim ≤ pos → entry_in r es c.segments pos ≡ x → entry_of r es c pos ≡ x
log_to r es c pos x h k =
    let t : nat_lt pos c.trim ≡ false = grind (arith, nat_tests) in
    subst (λ b. cond b None (entry_in r es c.segments pos) ≡ x) (sym t) k

-- What is shown

now : (o b : Option Entry) (e : Entry) → o ≡ Some e → now_or_before o b ≡ Some e
now o b e h = ap (λ x. now_or_before x b) h

before : (o b : Option Entry) (e : Entry) → o ≡ None → now_or_before o b ≡ b
before o b e h = ap (λ x. now_or_before x b) h

-- from a trim and a log to later ones
module _ (trim trim' : ℕ) (log log' shown : ℕ → Option Entry) (later : trim ≤ trim') (stays : (pos : ℕ) (e : Entry) → log pos ≡ Some e → trim' ≤ pos → log' pos ≡ Some e) (above : (pos : ℕ) (e : Entry) → log' pos ≡ Some e → trim' ≤ pos) (was : (pos : ℕ) (e : Entry) → shown pos ≡ Some e → (pos < trim) ⊎ (log pos ≡ Some e)) where
  shown_stays : (pos : ℕ) (e : Entry) → shown pos ≡ Some e → now_or_before (log' pos) (shown pos) ≡ Some e
  shown_stays pos e h = cases (log' pos) refl
    where
      cases : (o : Option Entry) → log' pos ≡ o → now_or_before o (shown pos) ≡ Some e
      cases None _ = h
      cases (Some x) k = ⊎_elim
          (λ (w : pos < trim). absurd (omega (arith, above pos x k)))
          (λ (w : log pos ≡ Some e). sym k ∙ stays pos e w (above pos x k))
          (was pos e h)

  shown_is : (pos : ℕ) (e : Entry) → now_or_before (log' pos) (shown pos) ≡ Some e → (pos < trim') ⊎ (log' pos ≡ Some e)
  shown_is pos e h = cases (log' pos) refl h
    where
      cases : (o : Option Entry) → log' pos ≡ o → now_or_before o (shown pos) ≡ Some e → (pos < trim') ⊎ (log' pos ≡ Some e)
      cases (Some x) k g = inr (k ∙ g)
      cases None k g = ⊎_elim
          (λ (w : pos < trim). inl (omega arith))
          (λ (w : log pos ≡ Some e). below w)
          (was pos e g)
        where
          below : log pos ≡ Some e → (pos < trim') ⊎ (log' pos ≡ Some e)
          below w = by_test (nat_lt pos trim') refl
            where
              by_test : (b : Bool) → nat_lt pos trim' ≡ b → (pos < trim') ⊎ (log' pos ≡ Some e)
              by_test true t = inl (grind (arith, nat_tests))
              by_test false t = let up : trim' ≤ pos = grind (arith, nat_tests) in inr (stays pos e w up)

pub reach_le_end : (c : CellState) (t : ℕ) → CellOk c → Contains c.ends t → c.told.reach ≤ t
reach_le_end c t ok h = let w = ok.ends t h in omega (arith, (ok.cap w.0 w.1).0, w.2)

pub open_tail : (cells : ℕ) (w : State) → StateOk cells w → tail_of w ≡ (last_segment w).start + reach w.cells (last_segment w).id
open_tail cells w ok = end_open (reach w.cells) (last_segment w) (last_open (ends w.cells) ok.id ok.from w.register.chain.segments ok.joined)

-- A move of a cell

more_ends : (es es' : ℕ → List ℕ) (cells : ℕ) (a b : Chain) → ((i t : ℕ) → Contains (es i) t → Contains (es' i) t) → Follows es cells a b → Follows es' cells a b
more_ends es es' cells a b f (inl x) = inl (record { at = x.at; told = f _ x.at x.told; spare = x.spare; trim = x.trim; segments = x.segments })
more_ends es es' cells a b f (inr x) = inr x

given_more : (es es' : ℕ → List ℕ) (starts : ℕ → Option ℕ) (now c : Chain) → ((i t : ℕ) → Contains (es i) t → Contains (es' i) t) → Given es starts now c → Given es' starts now c
given_more es es' starts now c f g = record {
  id = g.id;
  from = g.from;
  joined = Joined-more es es' g.id g.from c.segments f g.joined;
  low = g.low;
  start = g.start;
  closed = g.closed;
  trim = g.trim;
  last = g.last;
}

pub cells_ok : (cells : ℕ) (w : State) (now : ℕ → CellState) → StateOk cells w → ((i : ℕ) → CellOk (now i) × Goes (w.cells i) (now i)) → ((i : ℕ) → 0 < (now i).told.seals → i + 1 < cells) → ((i : ℕ) → CutBelow w.starts (trim_of w) i (now i).told.cut) → StateOk cells (make now w.register w.starts w.shown) × Continues w (make now w.register w.starts w.shown)
cells_ok cells w now ok each spare cuts =
    let chain = w.register.chain in
    let grows : Grows (reach w.cells) (reach now) (entries w.cells) (entries now) = record { further = λ i. (each i).1.reach; longer = λ i. (each i).1.longer } in
    let more : (i t : ℕ) → Contains (ends w.cells i) t → Contains (ends now i) t = λ i t h. (each i).1.ends t h in
    let stays : (pos : ℕ) (e : Entry) → log_at w pos ≡ Some e → chain.trim ≤ pos → log_of now chain pos ≡ Some e =
    λ pos e h up. log_to (reach now) (entries now) chain pos (Some e) up (entry_in-grows (reach w.cells) (reach now) (entries w.cells) (entries now) (ends w.cells) ok.id ok.from chain.segments pos e grows ok.joined (log_from (reach w.cells) (entries w.cells) chain pos e h).1) in
    let above : (pos : ℕ) (e : Entry) → log_of now chain pos ≡ Some e → chain.trim ≤ pos = λ pos e h. (log_from (reach now) (entries now) chain pos e h).0 in
    let is_last = last_open (ends w.cells) ok.id ok.from chain.segments ok.joined in (
      record {
        few = ok.few;
        cell = λ i. (each i).0;
        spare = spare;
        id = ok.id;
        from = ok.from;
        joined = Joined-more (ends w.cells) (ends now) ok.id ok.from chain.segments more ok.joined;
        low = ok.low;
        asked = λ c h. more_ends (ends w.cells) (ends now) cells chain c more (ok.asked c h);
        given = ok.given;
        unborn = ok.unborn;
        start = λ i s h. ⊎_elim (λ (x : HasStart chain.segments i s). inl x) (λ (x : IsBelow (ends w.cells i) s chain.trim). inr (x.0, more i x.0 x.1, x.2)) (ok.start i s h);
        order = λ i j s u l h k. let x = ok.order i j s u l h k in (x.0, more i x.0 x.1, x.2);
        last = ok.last;
        ids = ok.ids;
        shelf = ok.shelf;
        rooms = ok.rooms;
        version = ok.version;
        trim = ok.trim;
        olds = λ v c h. given_more (ends w.cells) (ends now) w.starts chain c more (ok.olds v c h);
        cuts = cuts;
        was_shown = shown_is chain.trim chain.trim (log_at w) (log_of now chain) w.shown (omega arith) stays above ok.was_shown;
      },
      record {
        trim = omega arith;
        entries = stays;
        tail = omega (arith, end_open (reach w.cells) (last_segment w) is_last, end_open (reach now) (last_segment w) is_last, (each (last_segment w).id).1.reach);
        shown = shown_stays chain.trim chain.trim (log_at w) (log_of now chain) w.shown (omega arith) stays above ok.was_shown;
        cell = λ i. (each i).1;
        starts = λ i s h. h;
        version = omega arith;
        given = λ v c h. h;
        last = omega arith;
      },
    )

-- A move of the register

HasStart-extended_segments : (es : ℕ → List ℕ) (k a : ℕ) (ss : List Segment) (t i s : ℕ) → Joined es k a ss → HasStart ss i s → HasStart (extended_segments ss t) i s
HasStart-extended_segments es k a [] t i s j h = absurd j
HasStart-extended_segments es k a (x ∷ []) t i s j (inl h) = inl h
HasStart-extended_segments es k a (x ∷ []) t i s j (inr h) = absurd h
HasStart-extended_segments es k a (x ∷ r ∷ rs) t i s j (inl h) = inl h
HasStart-extended_segments es k a (x ∷ r ∷ rs) t i s j (inr h) = inr (HasStart-extended_segments es (k + 1) (a + j.2.0) (r ∷ rs) t i s j.2.3 h)

kept_start : (n : ℕ) (x : Segment) (rest : List Segment) (b : Bool) → ends_by n x.end ≡ b → (i s : ℕ) → (es : List ℕ) → (ended : (m : ℕ) → x.end ≡ Some m → (x.id ≡ i) × (x.start ≡ s) → (t : ℕ) × Contains es t × (s + t ≡ m)) → HasStart (x ∷ rest) i s → (HasStart rest i s → HasStart (kept n rest) i s ⊎ IsBelow es s n) → HasStart (cond (not b) (x ∷ kept n rest) (kept n rest)) i s ⊎ IsBelow es s n
kept_start n x rest false is i s es ended (inl h) f = inl (inl h)
kept_start n x rest false is i s es ended (inr h) f = ⊎_elim (λ (w : HasStart (kept n rest) i s). inl (inr w)) (λ (w : IsBelow es s n). inr w) (f h)
kept_start n x rest true is i s es ended (inr h) f = f h
kept_start n x rest true is i s es ended (inl h) f = at_end x.end refl is
  where
    at_end : (o : Option ℕ) → x.end ≡ o → ends_by n o ≡ true → HasStart (kept n rest) i s ⊎ IsBelow es s n
    at_end None e k = absurd (cc)
    at_end (Some m) e k =
        let low : m ≤ n = grind (arith, nat_tests) in
        let w = ended m e h in inr (w.0, w.1, omega arith)

HasStart-kept : (es : ℕ → List ℕ) (n k a : ℕ) (ss : List Segment) (i s : ℕ) → Joined es k a ss → HasStart ss i s → HasStart (kept n ss) i s ⊎ IsBelow (es i) s n
HasStart-kept es n k a [] i s j h = absurd j
HasStart-kept es n k a (x ∷ []) i s j h =
    kept_start n x [] (ends_by n x.end) refl i s (es i) (λ m e w. let no : None ≡ Some m = sym j.2 ∙ e in absurd (cc)) h (λ w. absurd w)
HasStart-kept es n k a (x ∷ r ∷ rs) i s j h =
    kept_start n x (r ∷ rs) (ends_by n x.end) refl i s (es i)
    (λ m e w.
    let same : Some (a + j.2.0) ≡ Some m = sym j.2.1 ∙ e in
    let at : a + j.2.0 ≡ m = cc in
    (j.2.0, subst (λ y. Contains (es y) j.2.0) (sym j.0 ∙ w.0) j.2.2, omega arith))
    h (HasStart-kept es n (k + 1) (a + j.2.0) (r ∷ rs) i s j.2.3)

-- what a chain that follows brings
pub record Turned (cells : ℕ) (w : State) (c : Chain) (starts : ℕ → Option ℕ) : Type 0 where
  pub id : ℕ
  pub from : ℕ
  pub joined : Joined (ends w.cells) id from c.segments
  pub low : from ≤ c.trim
  pub trim : trim_of w ≤ c.trim
  pub stays : (pos : ℕ) (e : Entry) → log_at w pos ≡ Some e → c.trim ≤ pos → log_of w.cells c pos ≡ Some e
  pub tail : tail_of w ≤ end_of (reach w.cells) (last_of_segments c.segments)
  pub start : (i s : ℕ) → starts i ≡ Some s → HasStart c.segments i s ⊎ IsBelow (ends w.cells i) s c.trim
  pub order : (i j s u : ℕ) → i < j → starts i ≡ Some s → starts j ≡ Some u → IsBelow (ends w.cells i) s u
  pub last : starts (last_of_segments c.segments).id ≡ Some (last_of_segments c.segments).start
  pub ids : (i s : ℕ) → starts i ≡ Some s → i ≤ (last_of_segments c.segments).id
  pub later : (last_segment w).id ≤ (last_of_segments c.segments).id
  pub shelf : (last_of_segments c.segments).id < cells
  pub rooms : (i s : ℕ) → starts i ≡ Some s → s ≤ i * 2 ^ 32
  pub keeps : (i s : ℕ) → w.starts i ≡ Some s → starts i ≡ Some s
  pub small : c.trim ≤ 2 ^ 38
  pub placed : (i s : ℕ) → HasStart c.segments i s → starts i ≡ Some s
  pub closed : (x : Segment) (n : ℕ) → IsIn x w.register.chain.segments → x.end ≡ Some n → IsIn x c.segments ⊎ (n ≤ c.trim)

abbrev pub starts_with : (ℕ → Option ℕ) → Segment → ℕ → Option ℕ
starts_with starts s = put starts s.id (Some s.start)

-- where it starts already, nothing changes
starts_same : (starts : ℕ → Option ℕ) (s : Segment) (i : ℕ) → starts s.id ≡ Some s.start → starts_with starts s i ≡ starts i
starts_same starts s i h = put_cases (λ x. x ≡ starts i) starts s.id (Some s.start) i (λ e. sym h ∙ ap starts (sym e)) (λ _. refl)

module _ (cells : ℕ) (w : State) (ok : StateOk cells w) where
  -- the current chain was given
  pub current : Given (ends w.cells) w.starts w.register.chain w.register.chain
  current = ok.olds w.register.version w.register.chain ok.given

  turned_by : (c : Chain) → c.trim ≤ 2 ^ 38 → (last_of_segments c.segments) ≡ last_segment w → (id from : ℕ) → Joined (ends w.cells) id from c.segments → from ≤ c.trim → trim_of w ≤ c.trim → ((pos : ℕ) (e : Entry) → log_at w pos ≡ Some e → c.trim ≤ pos → log_of w.cells c pos ≡ Some e) → ((i s : ℕ) → w.starts i ≡ Some s → HasStart c.segments i s ⊎ IsBelow (ends w.cells i) s c.trim) → ((i s : ℕ) → HasStart c.segments i s → HasStart w.register.chain.segments i s) → ((x : Segment) (n : ℕ) → IsIn x w.register.chain.segments → x.end ≡ Some n → IsIn x c.segments ⊎ (n ≤ c.trim)) → Turned cells w c (starts_with w.starts (last_of_segments c.segments))
  turned_by c small same id from joined low trim stays start sub closed =
      let at : w.starts (last_of_segments c.segments).id ≡ Some (last_of_segments c.segments).start = subst (λ (s : Segment). w.starts s.id ≡ Some s.start) (sym same) ok.last in
      let was : (i s : ℕ) → starts_with w.starts (last_of_segments c.segments) i ≡ Some s → w.starts i ≡ Some s = λ i s h. sym (starts_same w.starts (last_of_segments c.segments) i at) ∙ h in
      record {
        id = id;
        from = from;
        joined = joined;
        low = low;
        trim = trim;
        stays = stays;
        tail = subst (λ (s : Segment). tail_of w ≤ end_of (reach w.cells) s) (sym same) (omega arith);
        start = λ i s h. start i s (was i s h);
        order = λ i j s u l h k. ok.order i j s u l (was i s h) (was j u k);
        last = put_same w.starts (last_of_segments c.segments).id (Some (last_of_segments c.segments).start);
        ids = λ i s h. subst (λ (x : Segment). i ≤ x.id) (sym same) (ok.ids i s (was i s h));
        later = omega (arith, ap (λ (s : Segment). s.id) same);
        shelf = omega (arith, ap (λ (s : Segment). s.id) same, ok.shelf);
        rooms = λ i s h. ok.rooms i s (was i s h);
        keeps = λ i s h. starts_same w.starts (last_of_segments c.segments) i at ∙ h;
        small = small;
        placed = λ i s h. starts_same w.starts (last_of_segments c.segments) i at ∙ current.start i s (sub i s h);
        closed = closed;
      }

  turned_same : (c : Chain) → c ≡ w.register.chain → Turned cells w c (starts_with w.starts (last_of_segments c.segments))
  turned_same c is = subst (λ (x : Chain). Turned cells w x (starts_with w.starts (last_of_segments x.segments))) (sym is)
      (turned_by w.register.chain ok.trim refl ok.id ok.from ok.joined ok.low (omega arith) (λ pos e h up. h) ok.start (λ i s h. h) (λ x n h e. inl h))

  turned_raise : (c : Chain) → Raising w.register.chain c → Turned cells w c (starts_with w.starts (last_of_segments c.segments))
  turned_raise c r =
      let old = w.register.chain in
      let rest = rest_of (ends w.cells) c.trim ok.id ok.from old.segments ok.joined in
      let P : List Segment → Type 0 = λ ss. (last_of_segments ss ≡ last_segment w) × Joined (ends w.cells) rest.id rest.from ss in
      let at = subst P (sym r.segments) (rest.last, rest.joined) in
      turned_by c r.small at.0 rest.id rest.from at.1 (rest.low (omega (arith, ok.low, r.above))) (omega (arith, r.above))
      (λ pos e h up. log_to (reach w.cells) (entries w.cells) c pos (Some e) up
      (subst (λ ss. entry_in (reach w.cells) (entries w.cells) ss pos ≡ Some e) (sym r.segments)
      (entry_in-kept (reach w.cells) (entries w.cells) c.trim pos old.segments e up (log_from (reach w.cells) (entries w.cells) old pos e h).1)))
      (λ i s h. ⊎_elim
      (λ (x : HasStart old.segments i s). subst (λ ss. HasStart ss i s ⊎ IsBelow (ends w.cells i) s c.trim) (sym r.segments) (HasStart-kept (ends w.cells) c.trim ok.id ok.from old.segments i s ok.joined x))
      (λ (x : IsBelow (ends w.cells i) s (trim_of w)). inr (x.0, x.1, omega (arith, x.2, r.above)))
      (ok.start i s h))
      (λ i s h. HasStart-kept_was c.trim old.segments i s (subst (λ ss. HasStart ss i s) r.segments h))
      (λ x n h e. subst (λ ss. IsIn x ss ⊎ (n ≤ c.trim)) (sym r.segments) (IsIn-kept c.trim n old.segments x e h))

  turned_extend : (c : Chain) → Extending (ends w.cells) cells w.register.chain c → Turned cells w c (starts_with w.starts (last_of_segments c.segments))
  turned_extend c x =
      let old = w.register.chain in
      let s = last_segment w in
      let t = x.at in
      let is_next : last_of_segments c.segments ≡ next s t = ap last_of_segments x.segments ∙ last_of_segments-extended_segments (ends w.cells) ok.id ok.from old.segments t ok.joined in
      let id_is : (last_of_segments c.segments).id ≡ s.id + 1 = ap (λ (y : Segment). y.id) is_next in
      let start_is : (last_of_segments c.segments).start ≡ s.start + t = ap (λ (y : Segment). y.start) is_next in
      let far = reach_le_end (w.cells s.id) t (ok.cell s.id) x.told in
      let joined = subst (Joined (ends w.cells) ok.id ok.from) (sym x.segments) (Joined-extended_segments (ends w.cells) ok.id ok.from old.segments t ok.joined x.told) in
      let new_last = last_of_segments c.segments in
      let was : (i v : ℕ) → starts_with w.starts new_last i ≡ Some v → ((i ≡ new_last.id) × (v ≡ new_last.start)) ⊎ (w.starts i ≡ Some v) =
      λ i v. put_cases (λ o. o ≡ Some v → ((i ≡ new_last.id) × (v ≡ new_last.start)) ⊎ (w.starts i ≡ Some v)) w.starts new_last.id (Some new_last.start) i
      (λ e h. let at : new_last.start ≡ v = cc in inl (e, sym at))
      (λ _ h. inr h) in
      let new_starts = last_starts (ends w.cells) ok.id ok.from c.segments joined in
      let length_of = ok.cell s.id in
      let end = (ok.cell s.id).ends t x.told in
      let small = ok.rooms s.id s.start ok.last in
      record {
        id = ok.id;
        from = ok.from;
        joined = joined;
        low = omega (arith, ok.low, x.trim);
        trim = omega (arith, x.trim);
        stays = λ pos e h up.
            log_to (reach w.cells) (entries w.cells) c pos (Some e) up
            (subst (λ ss. entry_in (reach w.cells) (entries w.cells) ss pos ≡ Some e) (sym x.segments)
            (entry_in-extended_segments (reach w.cells) (entries w.cells) (ends w.cells) ok.id ok.from old.segments t pos e ok.joined far (log_from (reach w.cells) (entries w.cells) old pos e h).1));
        tail = omega (arith, open_tail cells w ok, end_open (reach w.cells) new_last (last_open (ends w.cells) ok.id ok.from c.segments joined), start_is, far);
        start = λ i v h. ⊎_elim
            (λ (y : (i ≡ new_last.id) × (v ≡ new_last.start)). inl (subst (λ (p : ℕ × ℕ). HasStart c.segments p.0 p.1) (λ k. (sym y.0 k, sym y.1 k)) new_starts))
            (λ (y : w.starts i ≡ Some v). ⊎_elim
            (λ (z : HasStart old.segments i v). inl (subst (λ ss. HasStart ss i v) (sym x.segments) (HasStart-extended_segments (ends w.cells) ok.id ok.from old.segments t i v ok.joined z)))
            (λ (z : IsBelow (ends w.cells i) v (trim_of w)). inr (z.0, z.1, omega (arith, z.2, x.trim)))
            (ok.start i v y))
            (was i v h);
        order = λ i j v u l h k. order_of is_next id_is start_is i j v u l (was i v h) (was j u k);
        last = put_same w.starts new_last.id (Some new_last.start);
        ids = λ i v h. ⊎_elim
            (λ (y : (i ≡ new_last.id) × (v ≡ new_last.start)). omega arith)
            (λ (y : w.starts i ≡ Some v). omega (arith, ok.ids i v y, id_is))
            (was i v h);
        later = omega (arith, id_is);
        shelf = omega (arith, id_is, x.spare);
        rooms = λ i v h. ⊎_elim
            (λ (y : (i ≡ new_last.id) × (v ≡ new_last.start)). omega (arith, y.0, y.1, id_is, start_is, small, end.3, length_of.firm, length_of.room))
            (λ (y : w.starts i ≡ Some v). ok.rooms i v y)
            (was i v h);
        keeps = λ i v h. put_cases (λ o. o ≡ Some v) w.starts new_last.id (Some new_last.start) i
            (λ e. absurd (omega (arith, ok.ids i v h, id_is)))
            (λ _. h);
        small = omega (arith, x.trim, ok.trim);
        placed = λ i v h. ⊎_elim
            (λ (y : HasStart old.segments i v). put_cases (λ o. o ≡ Some v) w.starts new_last.id (Some new_last.start) i
            (λ e. absurd (omega (arith, ok.ids i v (current.start i v y), id_is)))
            (λ _. current.start i v y))
            (λ (y : (i ≡ s.id + 1) × (v ≡ s.start + t)).
            let i_is : i ≡ new_last.id = omega (arith, y.0, id_is) in
            let v_is : v ≡ new_last.start = omega (arith, y.1, start_is) in
            subst (λ k. starts_with w.starts new_last k ≡ Some v) (sym i_is) (put_same w.starts new_last.id (Some new_last.start) ∙ ap (λ n. Some n) (sym v_is)))
            (HasStart-was (ends w.cells) ok.id ok.from old.segments t i v ok.joined (subst (λ ss. HasStart ss i v) x.segments h));
        closed = λ y n h e. inl (subst (λ ss. IsIn y ss) (sym x.segments) (IsIn-extended (ends w.cells) ok.id ok.from old.segments t n y ok.joined e h));
      }
    where
      order_of : last_of_segments c.segments ≡ next (last_segment w) x.at → (last_of_segments c.segments).id ≡ (last_segment w).id + 1 → (last_of_segments c.segments).start ≡ (last_segment w).start + x.at → (i j v u : ℕ) → i < j → ((i ≡ (last_of_segments c.segments).id) × (v ≡ (last_of_segments c.segments).start)) ⊎ (w.starts i ≡ Some v) → ((j ≡ (last_of_segments c.segments).id) × (u ≡ (last_of_segments c.segments).start)) ⊎ (w.starts j ≡ Some u) → IsBelow (ends w.cells i) v u
      order_of n id_is start_is i j v u l (inl a) (inl b) = absurd (omega arith)
      order_of n id_is start_is i j v u l (inl a) (inr b) = absurd (omega (arith, ok.ids j u b, id_is))
      order_of n id_is start_is i j v u l (inr a) (inr b) = ok.order i j v u l a b
      order_of n id_is start_is i j v u l (inr a) (inl b) = at_last (i == (last_segment w).id) refl
        where
          at_last : (y : Bool) → (i == (last_segment w).id) ≡ y → IsBelow (ends w.cells i) v u
          at_last true e =
              let same : i ≡ (last_segment w).id = grind (arith, nat_tests) in
              let start_of : Some v ≡ Some (last_segment w).start = sym a ∙ (ap w.starts same ∙ ok.last) in
              let v_is : v ≡ (last_segment w).start = cc in
              (x.at, subst (λ k. Contains (ends w.cells k) x.at) (sym same) x.told, omega (arith, v_is, b.1, start_is))
          at_last false e =
              let apart : i ≢ (last_segment w).id = grind (arith, nat_tests) in
              let y = ok.order i (last_segment w).id v (last_segment w).start (omega (arith, ok.ids i v a)) a ok.last in
              (y.0, y.1, omega (arith, y.2, b.1, start_is))

pub goes_refl : (c : CellState) → Goes c c
goes_refl c = record { reach = omega arith; firm = omega arith; begun = omega arith; owner = λ t h. refl; longer = ([], nil c.entries); ends = λ t h. h; sealed = λ h. h }
  where
    nil : (xs : List Entry) → xs ≡ xs ++ []
    nil [] = refl
    nil (x ∷ xs) = ap (λ l. x ∷ l) (nil xs)

module _ (cells : ℕ) (w : State) (ok : StateOk cells w) where
  given_now : (c : Chain) → Turned cells w c (starts_with w.starts (last_of_segments c.segments)) → Given (ends w.cells) (starts_with w.starts (last_of_segments c.segments)) c c
  given_now c t = record { id = t.id; from = t.from; joined = t.joined; low = t.low; start = t.placed; closed = λ x n h e. inl h; trim = omega arith; last = omega arith }

  given_turned : (c : Chain) → Turned cells w c (starts_with w.starts (last_of_segments c.segments)) → (d : Chain) → Given (ends w.cells) w.starts w.register.chain d → Given (ends w.cells) (starts_with w.starts (last_of_segments c.segments)) c d
  given_turned c t d g = record {
    id = g.id;
    from = g.from;
    joined = g.joined;
    low = g.low;
    start = λ i s h. t.keeps i s (g.start i s h);
    closed = λ x n h e. ⊎_elim (λ (y : IsIn x w.register.chain.segments). t.closed x n y e) (λ (y : n ≤ trim_of w). inr (omega (arith, t.trim))) (g.closed x n h e);
    trim = omega (arith, g.trim, t.trim);
    last = omega (arith, g.last, t.later);
  }

  cut_turned : (c : Chain) → Turned cells w c (starts_with w.starts (last_of_segments c.segments)) → (i : ℕ) → CutBelow w.starts (trim_of w) i (w.cells i).told.cut → CutBelow (starts_with w.starts (last_of_segments c.segments)) c.trim i (w.cells i).told.cut
  cut_turned c t i (inl x) = inl x
  cut_turned c t i (inr x) = inr (x.0, t.keeps i x.0 x.1, omega (arith, x.2, t.trim))

  register_ok : (r : RegisterState) → r.version ≤ 1 + (last_of_segments r.chain.segments).id + r.chain.trim → Turned cells w r.chain (starts_with w.starts (last_of_segments r.chain.segments)) → ((c : Chain) → r.asked ≡ Some c → Follows (ends w.cells) cells r.chain c) → r.given r.version ≡ Some r.chain → ((v : ℕ) → r.version < v → r.given v ≡ None) → w.register.version ≤ r.version → ((v : ℕ) (c : Chain) → w.register.given v ≡ Some c → r.given v ≡ Some c) → ((v : ℕ) (c : Chain) → r.given v ≡ Some c → (w.register.given v ≡ Some c) ⊎ (c ≡ r.chain)) → StateOk cells (make w.cells r (starts_with w.starts (last_of_segments r.chain.segments)) w.shown) × Continues w (make w.cells r (starts_with w.starts (last_of_segments r.chain.segments)) w.shown)
  register_ok r counts t asked given unborn later keeps olds =
      let above : (pos : ℕ) (e : Entry) → log_of w.cells r.chain pos ≡ Some e → r.chain.trim ≤ pos = λ pos e h. (log_from (reach w.cells) (entries w.cells) r.chain pos e h).0 in (
        record {
          few = ok.few;
          cell = ok.cell;
          spare = ok.spare;
          id = t.id;
          from = t.from;
          joined = t.joined;
          low = t.low;
          asked = asked;
          given = given;
          unborn = unborn;
          start = t.start;
          order = t.order;
          last = t.last;
          ids = t.ids;
          shelf = t.shelf;
          rooms = t.rooms;
          version = counts;
          trim = t.small;
          olds = λ v c h. ⊎_elim (λ (x : w.register.given v ≡ Some c). given_turned r.chain t c (ok.olds v c x)) (λ (x : c ≡ r.chain). subst (Given (ends w.cells) (starts_with w.starts (last_of_segments r.chain.segments)) r.chain) (sym x) (given_now r.chain t)) (olds v c h);
          cuts = λ i. cut_turned r.chain t i (ok.cuts i);
          was_shown = shown_is (trim_of w) r.chain.trim (log_at w) (log_of w.cells r.chain) w.shown t.trim t.stays above ok.was_shown;
        },
        record {
          trim = t.trim;
          entries = t.stays;
          tail = t.tail;
          shown = shown_stays (trim_of w) r.chain.trim (log_at w) (log_of w.cells r.chain) w.shown t.trim t.stays above ok.was_shown;
          cell = λ i. goes_refl (w.cells i);
          starts = t.keeps;
          version = later;
          given = keeps;
          last = t.later;
        },
      )

  turned_follow : (c : Chain) → Follows (ends w.cells) cells w.register.chain c → Turned cells w c (starts_with w.starts (last_of_segments c.segments))
  turned_follow c (inl x) = turned_extend cells w ok c x
  turned_follow c (inr x) = turned_raise cells w ok c x

  rises : (c : Chain) → Follows (ends w.cells) cells w.register.chain c → 1 + (last_segment w).id + trim_of w < 1 + (last_of_segments c.segments).id + c.trim
  rises c (inl x) =
      let is_next = ap last_of_segments x.segments ∙ last_of_segments-extended_segments (ends w.cells) ok.id ok.from w.register.chain.segments x.at ok.joined in
      omega (arith, ap (λ (y : Segment). y.id) is_next, x.trim)
  rises c (inr x) =
      let rest = rest_of (ends w.cells) c.trim ok.id ok.from w.register.chain.segments ok.joined in
      omega (arith, ap (λ ss. (last_of_segments ss).id) x.segments, ap (λ (y : Segment). y.id) rest.last, x.above)

  counts_of : (v : ℕ) (c : Chain) → ((v ≡ w.register.version) × (c ≡ w.register.chain)) ⊎ ((v ≡ w.register.version + 1) × Follows (ends w.cells) cells w.register.chain c) → v ≤ 1 + (last_of_segments c.segments).id + c.trim
  counts_of v c (inl x) = subst (λ (y : Chain). v ≤ 1 + (last_of_segments y.segments).id + y.trim) (sym x.1) (omega (arith, ok.version, x.0))
  counts_of v c (inr x) = omega (arith, ok.version, rises c x.1, x.0)

  known_ok : (v : ℕ) (c : Chain) → ((v ≡ w.register.version) × (c ≡ w.register.chain)) ⊎ ((v ≡ w.register.version + 1) × Follows (ends w.cells) cells w.register.chain c) → StateOk cells (make w.cells (known w.register v c) (starts_with w.starts (last_of_segments c.segments)) w.shown) × Continues w (make w.cells (known w.register v c) (starts_with w.starts (last_of_segments c.segments)) w.shown)
  known_ok v c h =
      let turned : Turned cells w c (starts_with w.starts (last_of_segments c.segments)) = ⊎_elim (λ (x : (v ≡ w.register.version) × (c ≡ w.register.chain)). turned_same cells w ok c x.1) (λ (x : (v ≡ w.register.version + 1) × Follows (ends w.cells) cells w.register.chain c). turned_follow c x.1) h in
      let later : w.register.version ≤ v = ⊎_elim (λ (x : (v ≡ w.register.version) × (c ≡ w.register.chain)). omega arith) (λ (x : (v ≡ w.register.version + 1) × Follows (ends w.cells) cells w.register.chain c). omega arith) h in
      register_ok (known w.register v c) (counts_of v c h)
      turned
      (λ d e. absurd (cc))
      (put_same w.register.given v (Some c))
      (λ u l. put_cases (λ o. o ≡ None) w.register.given v (Some c) u (λ e. absurd (omega arith)) (λ _. ok.unborn u (omega arith)))
      later
      (λ u d k. put_cases (λ o. o ≡ Some d) w.register.given v (Some c) u
      (λ e. at u d k e h)
      (λ _. k))
      (λ u d. put_cases (λ o. o ≡ Some d → (w.register.given u ≡ Some d) ⊎ (d ≡ c)) w.register.given v (Some c) u
      (λ _ k. let same : d ≡ c = cc in inr same)
      (λ _ k. inl k))
    where
      at : (u : ℕ) (d : Chain) → w.register.given u ≡ Some d → u ≡ v → ((v ≡ w.register.version) × (c ≡ w.register.chain)) ⊎ ((v ≡ w.register.version + 1) × Follows (ends w.cells) cells w.register.chain c) → Some c ≡ Some d
      at u d k e (inl x) = let same : u ≡ w.register.version = e ∙ x.0 in ap (λ y. Some y) x.1 ∙ (sym ok.given ∙ (ap w.register.given (sym same) ∙ k))
      at u d k e (inr x) = let no : w.register.given u ≡ None = ok.unborn u (omega arith) in absurd (cc)

  current_ok : (v : ℕ) (c : Chain) → IsCurrent w.register v c → ((v ≡ w.register.version) × (c ≡ w.register.chain)) ⊎ ((v ≡ w.register.version + 1) × Follows (ends w.cells) cells w.register.chain c)
  current_ok v c (inl x) = inl x
  current_ok v c (inr x) = inr (x.0, ok.asked c x.1)

  follow_of : (floor : List Entry → ℕ → Type 0) (c : Chain) → MayFollow w floor cells w.register.chain c → Follows (ends w.cells) cells w.register.chain c
  follow_of floor c (inl x) = inl (extending (ends w.cells) cells w.register.chain c x)
  follow_of floor c (inr x) = inr (raising w.register.chain c x.0)

  same_ok : (r : RegisterState) → r.chain ≡ w.register.chain → r.version ≡ w.register.version → r.given ≡ w.register.given → ((c : Chain) → r.asked ≡ Some c → Follows (ends w.cells) cells w.register.chain c) → StateOk cells (make w.cells r (starts_with w.starts (last_of_segments r.chain.segments)) w.shown) × Continues w (make w.cells r (starts_with w.starts (last_of_segments r.chain.segments)) w.shown)
  same_ok r is version given asked =
      register_ok r (subst (λ (y : Chain). r.version ≤ 1 + (last_of_segments y.segments).id + y.trim) (sym is) (omega (arith, ok.version, version))) (turned_same cells w ok r.chain is) (λ c h. subst (λ (x : Chain). Follows (ends w.cells) cells x c) (sym is) (asked c h))
      (ap (λ (f : ℕ → Option Chain). f r.version) given ∙ (ap w.register.given version ∙ (ok.given ∙ ap (λ x. Some x) (sym is))))
      (λ v h. ap (λ (f : ℕ → Option Chain). f v) given ∙ ok.unborn v (omega arith)) (omega arith)
      (λ v c h. ap (λ (f : ℕ → Option Chain). f v) given ∙ h)
      (λ v c h. inl (sym (ap (λ (f : ℕ → Option Chain). f v) given) ∙ h))

  turns_ok : (floor : List Entry → ℕ → Type 0) (who : ℕ) (m : RegisterMove) → RegisterAllowed w floor cells m → StateOk cells (after w who (OnRegister m)) × Continues w (after w who (OnRegister m))
  turns_ok floor who (Gives v c) a = known_ok v c (current_ok v c a.1)
  turns_ok floor who (Conflicts x v c) a = known_ok v c (current_ok v c a.1)
  turns_ok floor who (Writes x c v) a = known_ok v c (inr (omega arith, follow_of floor c a.2))
  turns_ok floor who (Faults x c) a = same_ok (register_after w.register (Faults x c)) refl refl refl (λ d e. let at : c ≡ d = cc in subst (λ (y : Chain). Follows (ends w.cells) cells w.register.chain y) at (follow_of floor c a.2))
  turns_ok floor who Fails a = same_ok w.register refl refl refl ok.asked
  turns_ok floor who (Mends b) a = same_ok (register_after w.register (Mends b)) refl refl refl ok.asked

  seals_of : (may : ℕ → Entry → Type 0) (who i : ℕ) (m : CellMove) → CellAllowed w may cells who i m → 0 < (cell_after who (w.cells i) m).told.seals → i + 1 < cells
  seals_of may who i (Begins (Append e) t) a h = ok.spare i (omega arith)
  seals_of may who i (Begins (Settle n) t) a h = ok.spare i (omega arith)
  seals_of may who i (Begins Tail t) a h = ok.spare i (omega arith)
  seals_of may who i (Begins Seal t) a h = a.0
  seals_of may who i (Begins (Read p) t) a h = ok.spare i (omega arith)
  seals_of may who i (Begins (Trim n) t) a h = ok.spare i (omega arith)
  seals_of may who i (Carries t) a h = ok.spare i h
  seals_of may who i (Answers t x) a h = ok.spare i (subst (λ o. 0 < (answered_by (w.cells i).told t x o).seals) a.1.is_open h)
  seals_of may who i (Drops t) a h = ok.spare i h
  seals_of may who i (Misses t) a h = ok.spare i h

  cut_same : (i cut : ℕ) → cut ≡ (w.cells i).told.cut → CutBelow w.starts (trim_of w) i cut
  cut_same i cut e = subst (CutBelow w.starts (trim_of w) i) (sym e) (ok.cuts i)

  cut_trimmed : (i n s : ℕ) → w.starts i ≡ Some s → s + n ≤ trim_of w → CutBelow w.starts (trim_of w) i (w.cells i).told.cut → CutBelow w.starts (trim_of w) i (cut_begun (w.cells i).told (Trim n))
  cut_trimmed i n s at low (inl x) = inr (s, at, omega (arith, x))
  cut_trimmed i n s at low (inr x) =
      let both : Some s ≡ Some x.0 = sym at ∙ x.1 in
      let same : s ≡ x.0 = cc in inr (s, at, omega (arith, x.2))

  cuts_of : (may : ℕ → Entry → Type 0) (who i : ℕ) (m : CellMove) → CellAllowed w may cells who i m → CutBelow w.starts (trim_of w) i (cell_after who (w.cells i) m).told.cut
  cuts_of may who i (Begins (Append e) t) a = ok.cuts i
  cuts_of may who i (Begins (Settle n) t) a = ok.cuts i
  cuts_of may who i (Begins Tail t) a = ok.cuts i
  cuts_of may who i (Begins Seal t) a = ok.cuts i
  cuts_of may who i (Begins (Read p) t) a = ok.cuts i
  cuts_of may who i (Begins (Trim n) t) a = cut_trimmed i n a.0.0 a.0.1 a.0.2 (ok.cuts i)
  cuts_of may who i (Carries t) a = ok.cuts i
  cuts_of may who i (Answers t x) a = cut_same i _ (ap (λ o. (answered_by (w.cells i).told t x o).cut) a.1.is_open)
  cuts_of may who i (Drops t) a = ok.cuts i
  cuts_of may who i (Misses t) a = ok.cuts i

  move_ok : (may : ℕ → Entry → Type 0) (who i : ℕ) (m : CellMove) → CellAllowed w may cells who i m → CellOk (cell_after who (w.cells i) m) × Goes (w.cells i) (cell_after who (w.cells i) m)
  move_ok may who i (Begins op t) a = begins_ok who (w.cells i) op t (ok.cell i) a.1 a.2
  move_ok may who i (Carries t) a = (
    record {
      size = (ok.cell i).size;
      log = (ok.cell i).log;
      cut = (ok.cell i).cut;
      reach = (ok.cell i).reach;
      firm = (ok.cell i).firm;
      room = (ok.cell i).room;
      cap = (ok.cell i).cap;
      ends = (ok.cell i).ends;
      seals = (ok.cell i).seals;
      ops = (ok.cell i).ops;
    },
    record { reach = omega arith; firm = omega arith; begun = omega arith; owner = λ t h. refl; longer = (goes_refl (w.cells i)).longer; ends = λ t h. h; sealed = λ h. h },
  )
  move_ok may who i (Answers t x) a = answers_ok who (w.cells i) t x a.0 (ok.cell i) a.1.is_open a.2
  move_ok may who i (Drops t) a = drops_ok who (w.cells i) t (ok.cell i)
  move_ok may who i (Misses t) a = (ok.cell i, goes_refl (w.cells i))

pub continues_refl : (w : State) → Continues w w
continues_refl w = record {
  trim = omega arith;
  entries = λ pos e h _. h;
  tail = omega arith;
  shown = λ pos e h. h;
  cell = λ i. goes_refl (w.cells i);
  starts = λ i s h. h;
  version = omega arith;
  given = λ v c h. h;
  last = omega arith;
}

-- Each allowed move keeps what holds, and the log goes on.
pub step_ok : (law : Law) (w : State) (who : ℕ) (m : Move) → StateOk (length law.shelf) w → IsAllowed w law who m → StateOk (length law.shelf) (after w who m) × Continues w (after w who m)
step_ok law w who (OnCell i m) ok a =
    let new = cell_after who (w.cells i) m in
    cells_ok (length law.shelf) w (put w.cells i new) ok
    (λ j. put_cases (λ (x : CellState). CellOk x × Goes (w.cells j) x) w.cells i new j
    (λ e. subst (λ k. CellOk new × Goes (w.cells k) new) (sym e) (move_ok (length law.shelf) w ok law.may who i m a))
    (λ _. (ok.cell j, goes_refl (w.cells j))))
    (λ j. put_cases (λ (x : CellState). 0 < x.told.seals → j + 1 < length law.shelf) w.cells i new j
    (λ e h. let far = seals_of (length law.shelf) w ok law.may who i m a h in omega arith)
    (λ _ h. ok.spare j h))
    (λ j. put_cases (λ (x : CellState). CutBelow w.starts (trim_of w) j x.told.cut) w.cells i new j
    (λ e. subst (λ k. CutBelow w.starts (trim_of w) k new.told.cut) (sym e) (cuts_of (length law.shelf) w ok law.may who i m a))
    (λ _. ok.cuts j))
step_ok law w who (OnRegister m) ok a = turns_ok (length law.shelf) w ok law.floor who m a
step_ok law w who Nothing ok a = (ok, continues_refl w)
step_ok law w who Never ok a = absurd a
