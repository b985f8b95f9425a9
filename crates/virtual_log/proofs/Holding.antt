-- What a chain that was given has at a position, and that it has it for good.
use Rattle.std.proofs.Common.{◌≡◌, ◌⊎◌, inl, inr, ℕ, ◌+◌, ◌-◌, ◌<◌, ◌≤◌, max, List, [], ◌∷◌, ◌++◌, length, Option, Some, None, Bool, true, false, cond, refl, sym, ap, ◌∙◌, subst, ⊎_elim, arith, IfSome}
use Rattle.std.specs.Prelude.{slice_get, nat_lt, Contains, unwrap_or}
use Rattle.std.proofs.lemmas.Bool.Decides.{nat_tests}
use Rattle.delos_types.specs.declared.entry.Entry.{Entry}
use Rattle.delos_types.specs.declared.chain.Segment.{Segment}
use Rattle.delos_types.specs.declared.chain.Chain.{Chain}
use Rattle.chain_map.specs.Chain.{last_segment, last_of_segments}
use Rattle.loglet_api.specs.declared.call.Op.TheVariants.{Read}
use Rattle.loglet_api.specs.declared.call.Answer.TheVariants.{Got}
use Rattle.legal_journal.specs.Law.{Law}
use Rattle.legal_journal.specs.declared.events.Event.{Event}
use Rattle.legal_journal.specs.Told.{started}
use Rattle.legal_journal.specs.Shown.{is_within, entry_in, end_of}
use Rattle.legal_journal.specs.Journal.{State, state_of, IsLegal, entries, reach, ends}
use Rattle.legal_journal.specs.Laws.{Continues, Stands}
use Rattle.legal_journal.proofs.Log.{Joined, IsIn, HasStart-in, within_cases, slice_get_front, entry_in-inside, entry_in-grows, closed_or_last, last_open, end_closed, end_open}
use Rattle.legal_journal.proofs.Sound.{StateOk}
use Rattle.legal_journal.proofs.Legal.{sound, legal_front, goes_on, clears_on, continues_trans}
use Rattle.virtual_log.specs.Turning.{Later, Opened, Answered, IsAbove}
use Rattle.virtual_log.specs.Log.{GoesBy}
use Rattle.virtual_log.specs.Holding.{Holds, IsTrimmed}
use Rattle.virtual_log.proofs.Appending.{moments}
use Rattle.virtual_log.proofs.Replacing.{last_started}
use Rattle.virtual_log.proofs.Reading.{Place, entry_of_cell, below_end, there}

-- what a segment of a chain that was given has, the chain has
pub has_at : (cells : ℕ) (w : State) (v pos id index : ℕ) (c : Chain) (e : Entry) (x : Segment) → StateOk cells w → w.register.given v ≡ Some c → IsIn x c.segments → x.id ≡ id → x.start + index ≡ pos → pos < end_of (reach w.cells) x → slice_get (entries w.cells id) index ≡ Some e → entry_in (reach w.cells) (entries w.cells) c.segments pos ≡ Some e
has_at cells w v pos id index c e x ok was inside id_is at low h =
    let given = ok.olds v c was in
    let place : pos - x.start ≡ index = omega (arith, at) in
    entry_in-inside (reach w.cells) (entries w.cells) (ends w.cells) given.id given.from c.segments x pos given.joined inside (omega (arith, at)) low
    ∙ (ap (λ n. slice_get (entries w.cells x.id) n) place ∙ (ap (λ k. slice_get (entries w.cells k) index) id_is ∙ h))

pub last_in : (es : ℕ → List ℕ) (i a : ℕ) (ss : List Segment) → Joined es i a ss → IsIn (last_of_segments ss) ss
last_in es i a [] j = absurd j
last_in es i a (s ∷ []) j = inl refl
last_in es i a (s ∷ r ∷ rs) j = inr (last_in es (i + 1) (a + j.2.0) (r ∷ rs) j.2.3)

-- the segment that has an entry
pub record Found (r : ℕ → ℕ) (es : ℕ → List Entry) (ss : List Segment) (pos : ℕ) (e : Entry) : Type 0 where
  pub segment : Segment
  pub inside : IsIn segment ss
  pub above : segment.start ≤ pos
  pub below : pos < end_of r segment
  pub entry : slice_get (es segment.id) (pos - segment.start) ≡ Some e

pub found_in : (r : ℕ → ℕ) (es : ℕ → List Entry) (ss : List Segment) (pos : ℕ) (e : Entry) → entry_in r es ss pos ≡ Some e → Found r es ss pos e
found_in r es [] pos e h = absurd (cc)
found_in r es (s ∷ ss) pos e h =
    ⊎_elim
    (λ (w : (is_within s.start (end_of r s) pos ≡ true) × ((s.start ≤ pos) × (pos < end_of r s))).
    record { segment = s; inside = inl refl; above = w.1.0; below = w.1.1; entry = subst (λ t. cond t (slice_get (es s.id) (pos - s.start)) (entry_in r es ss pos) ≡ Some e) w.0 h })
    (λ (w : (is_within s.start (end_of r s) pos ≡ false) × ((pos < s.start) ⊎ (end_of r s ≤ pos))).
    let f = found_in r es ss pos e (subst (λ t. cond t (slice_get (es s.id) (pos - s.start)) (entry_in r es ss pos) ≡ Some e) w.0 h) in
    record { segment = f.segment; inside = inr f.inside; above = f.above; below = f.below; entry = f.entry })
    (within_cases s.start (end_of r s) pos)

some_below : (o : Option ℕ) (d pos : ℕ) → pos < unwrap_or o d → IfSome o (λ end. pos < end)
some_below None d pos h = tt
some_below (Some n) d pos h = h

module _ (law : Law) where
  -- what is held stays held
  pub holds_later : (a b : List Event) (pos : ℕ) (e : Entry) → IsLegal law a → Continues (state_of a) (state_of b) → Holds a pos e → Holds b pos e
  holds_later a b pos e legal on h =
      let w = state_of a in
      let given = (sound law a legal).olds h.version h.chain h.given in
      record {
        version = h.version;
        chain = h.chain;
        given = on.given h.version h.chain h.given;
        entry = entry_in-grows (reach w.cells) (reach (state_of b).cells) (entries w.cells) (entries (state_of b).cells) (ends w.cells) given.id given.from h.chain.segments pos e
            (record { further = λ i. (on.cell i).reach; longer = λ i. (on.cell i).longer }) given.joined h.entry;
      }

  -- what is held stands in the log
  pub holds_stands : (es : List Event) (pos : ℕ) (e : Entry) → IsLegal law es → Holds es pos e → Stands (state_of es) pos e
  holds_stands es pos e legal h =
      let w = state_of es in
      let ok = sound law es legal in
      let given = ok.olds h.version h.chain h.given in
      let f = found_in (reach w.cells) (entries w.cells) h.chain.segments pos e h.entry in
      let x = f.segment in
      let p : Place w h.chain pos x.id (pos - x.start) = record {
        segment = x;
        in_chain = f.inside;
        holds = record { above = f.above; below = some_below x.end (x.start + reach w.cells x.id) pos f.below };
        id_is = refl;
        at = omega (arith, f.above);
        started = given.start x.id x.start (HasStart-in x h.chain.segments f.inside);
      } in
      there (length law.shelf) w h.version pos x.id (pos - x.start) h.chain e ok h.given p
      (λ y. omega (arith, f.above, f.below, end_open (reach w.cells) x (ap (λ (s : Segment). s.end) y ∙ last_open (ends w.cells) given.id given.from h.chain.segments given.joined)))
      (λ _. f.entry)

  -- an entry that was read is held
  pub got_held : (who : ℕ) (old mid new : List Event) (v known pos id index t : ℕ) (c : Chain) (e : Entry) → IsLegal law old → GoesBy (state_of old) v c known → pos < known → Place (state_of old) c pos id index → (first : Later law old mid) → Later law mid new → (o : Opened who old id (Read index) t mid) → Answered who mid id t (started ((state_of (old ++ o.first.others)).cells id).told (Read index)) (Got e) new → Holds new pos e
  got_held who old mid new v known pos id index t c e legal g low p first second o x =
      let m = moments law who old mid new id p.segment.start t (Read index) (Got e) (started ((state_of (old ++ o.first.others)).cells id).told (Read index)) legal first second o x p.started in
      let on = continues_trans (state_of old) (state_of (old ++ o.first.others)) (state_of new) m.to_begin m.to_new in
      let w = state_of new in
      let cell = m.answer_ok.cell id in
      let got = entry_of_cell ((state_of x.moment).cells id).told.log (entries (state_of x.moment).cells id) ((state_of x.moment).cells id).told.cut index e cell.log x.may.0 x.may.2 in
      let more = (m.to_last.cell id).longer in
      let now : slice_get (entries w.cells id) index ≡ Some e = ap (λ l. slice_get l index) more.1 ∙ slice_get_front (entries (state_of x.moment).cells id) more.0 index e got in
      let given = on.given v c g.given in
      let joined = m.new_ok.olds v c given in
      let far : pos < end_of (reach w.cells) p.segment =
      ⊎_elim
      (λ (y : p.segment ≡ last_of_segments c.segments).
      let is_open = ap (λ (s : Segment). s.end) y ∙ last_open (ends w.cells) joined.id joined.from c.segments joined.joined in
      let start_is = ap (λ (s : Segment). s.start) y in
      let id_is = ap (λ (s : Segment). s.id) y in
      omega (arith, g.reached, low, start_is, ap (reach w.cells) id_is, (on.cell (last_segment c).id).reach, end_open (reach w.cells) p.segment is_open))
      (λ (y : (t : ℕ) × (p.segment.end ≡ Some (p.segment.start + t)) × Contains (ends w.cells p.segment.id) t).
      let end = below_end pos (p.segment.start + y.0) p.segment.end y.1 p.holds.below in
      omega (arith, end, end_closed (reach w.cells) p.segment (p.segment.start + y.0) y.1))
      (closed_or_last (ends w.cells) joined.id joined.from c.segments p.segment joined.joined p.in_chain) in
      record {
        version = v;
        chain = c;
        given = given;
        entry = has_at (length law.shelf) w v pos id index c e p.segment m.new_ok given p.in_chain p.id_is p.at far now;
      }

  -- an entry that was placed in the last loglet of a chain that was given is held
  pub placed_held : (es : List Event) (v known pos : ℕ) (c : Chain) (s : Segment) (e : Entry) → IsLegal law es → GoesBy (state_of es) v c known → s ≡ last_segment c → s.start ≤ pos → pos + 1 ≤ s.start + ((state_of es).cells s.id).told.reach → slice_get (entries (state_of es).cells s.id) (pos - s.start) ≡ Some e → Holds es pos e
  placed_held es v known pos c s e legal g is up low h =
      let w = state_of es in
      let ok = sound law es legal in
      let given = ok.olds v c g.given in
      let at : s.start + (pos - s.start) ≡ pos = omega (arith, up) in
      let is_open = ap (λ (x : Segment). x.end) is ∙ last_open (ends w.cells) given.id given.from c.segments given.joined in
      record {
        version = v;
        chain = c;
        given = g.given;
        entry = has_at (length law.shelf) w v pos s.id (pos - s.start) c e s ok g.given
            (subst (λ (x : Segment). IsIn x c.segments) (sym is) (last_in (ends w.cells) given.id given.from c.segments given.joined))
            refl at (omega (arith, low, end_open (reach w.cells) s is_open)) h;
      }

  -- what was answered before is known, so a later tail isn't below it
  pub above_known : (who : ℕ) (old new : List Event) (v known pos : ℕ) (c : Chain) → IsLegal law old → IsLegal law new → GoesBy (state_of old) v c known → IsAbove who old pos new → known ≤ pos
  above_known who old new v known pos c legal now g x =
      let ok = sound law old legal in
      let begin_legal = legal_front law (old ++ x.first.others) (x.first.event ∷ x.first.rest) (subst (IsLegal law) x.first.seen now) in
      let clear = clears_on (state_of old) (state_of (old ++ x.first.others)) pos (goes_on law old x.first.others begin_legal) x.clears in
      omega (arith, g.reached, clear (last_segment c).id (last_segment c).start (last_started (length law.shelf) (state_of old) v c ok g.given))

  -- where the trim of a chain that was given is above a position, that is trimmed
  pub reads_found : (es : List Event) (v known least pos : ℕ) (c : Chain) → GoesBy (state_of es) v c known → pos ≡ max least c.trim → IsTrimmed es least ⊎ (pos ≡ least)
  reads_found es v known least pos c g is = by_test (nat_lt least c.trim) refl
    where
      by_test : (b : Bool) → nat_lt least c.trim ≡ b → IsTrimmed es least ⊎ (pos ≡ least)
      by_test true b = inl (record { version = v; chain = c; given = g.given; below = grind (arith, nat_tests) })
      by_test false b =
          let low : c.trim ≤ least = grind (arith, nat_tests) in
          inr (omega (arith, is, low))
