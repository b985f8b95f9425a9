-- A read of a position of a chain that was given.
use Rattle.std.proofs.Common.{◌≡◌, inl, inr, ℕ, zero, suc, ◌+◌, ◌-◌, ◌<◌, ◌≤◌, List, [], ◌∷◌, ◌++◌, length, drop, get_or, Option, Some, Bool, true, false, refl, sym, ap, ◌∙◌, subst, ⊎_elim, arith, IfSome}
use Rattle.std.specs.Prelude.{slice_get, nat_lt, Contains}
use Rattle.std.proofs.lemmas.Bool.Decides.{nat_tests}
use Rattle.delos_types.specs.declared.entry.Entry.{Entry}
use Rattle.delos_types.specs.declared.chain.Segment.{Segment}
use Rattle.delos_types.specs.declared.chain.Chain.{Chain}
use Rattle.chain_map.specs.Chain.{last_segment, last_of_segments}
use Rattle.chain_map.specs.Place.{Holds, Locates}
use Rattle.chain_map.specs.declared.place.Located.TheVariants.{Inside}
use Rattle.loglet_api.specs.declared.call.Op.TheVariants.{Read}
use Rattle.loglet_api.specs.declared.call.Answer.TheVariants.{Got, CutAt}
use Rattle.legal_journal.specs.Law.{Law}
use Rattle.legal_journal.specs.declared.events.Event.{Event}
use Rattle.legal_journal.specs.Told.{started}
use Rattle.legal_journal.specs.Journal.{State, state_of, IsLegal, trim_of, entries, reach, ends}
use Rattle.legal_journal.specs.Laws.{Stands}
use Rattle.legal_journal.proofs.Log.{IsIn, HasStart-in, entry_in-inside, closed_or_last, end_closed}
use Rattle.legal_journal.proofs.Sound.{StateOk, Given, log_to}
use Rattle.legal_journal.proofs.Legal.{sound, reached_stands, continues_trans}
use Rattle.virtual_log.specs.Turning.{Later, Opened, Answered}
use Rattle.virtual_log.specs.Log.{GoesBy}
use Rattle.virtual_log.proofs.Appending.{moments}

in_at : (xs : List Segment) (k : ℕ) (x : Segment) → k < length xs → get_or xs k x ≡ x → IsIn x xs
in_at [] k x l h = absurd (omega arith)
in_at (y ∷ ys) zero x l h = inl (sym h)
in_at (y ∷ ys) (suc k) x l h = inr (in_at ys k x (omega arith) h)

-- the place of a position
pub record Place (w : State) (c : Chain) (pos id index : ℕ) : Type 0 where
  pub segment : Segment
  pub in_chain : IsIn segment c.segments
  pub holds : Holds segment pos
  pub id_is : segment.id ≡ id
  pub at : segment.start + index ≡ pos
  pub started : w.starts id ≡ Some segment.start

pub place_of : (cells : ℕ) (w : State) (v pos id index : ℕ) (c : Chain) → StateOk cells w → w.register.given v ≡ Some c → Locates c pos (Inside id index) → Place w c pos id index
place_of cells w v pos id index c ok given l =
    let a = l.1 in
    let x = a.1 in
    let here = in_at c.segments a.0 x a.2 a.3 in record {
      segment = x;
      in_chain = here;
      holds = a.4.0;
      id_is = a.4.1;
      at = a.4.2;
      started = subst (λ k. w.starts k ≡ Some x.start) a.4.1 ((ok.olds v c given).start x.id x.start (HasStart-in x c.segments here));
    }

get_drop : (xs : List Entry) (n k : ℕ) → slice_get (drop n xs) k ≡ slice_get xs (n + k)
get_drop xs zero k = let z : 0 + k ≡ k = omega arith in sym (ap (slice_get xs) z)
get_drop [] (suc n) k = refl
get_drop (x ∷ xs) (suc n) k = let z : suc n + k ≡ suc (n + k) = omega arith in get_drop xs n k ∙ sym (ap (slice_get (x ∷ xs)) z)

-- an entry that isn't cut is the cell's
pub entry_of_cell : (log es : List Entry) (cut p : ℕ) (e : Entry) → log ≡ drop cut es → cut ≤ p → slice_get log (p - cut) ≡ Some e → slice_get es p ≡ Some e
entry_of_cell log es cut p e is low h =
    let at : cut + (p - cut) ≡ p = omega arith in
    sym (ap (slice_get es) at) ∙ (sym (get_drop es cut (p - cut)) ∙ (ap (λ l. slice_get l (p - cut)) (sym is) ∙ h))

get_back : (xs ys : List Entry) (k : ℕ) → k < length xs → slice_get (xs ++ ys) k ≡ slice_get xs k
get_back [] ys k l = absurd (omega arith)
get_back (x ∷ xs) ys zero l = refl
get_back (x ∷ xs) ys (suc k) l = get_back xs ys k (omega arith)

pub below_end : (pos n : ℕ) (o : Option ℕ) → o ≡ Some n → IfSome o (λ end. pos < end) → pos < n
below_end pos n o e h = subst (λ x. IfSome x (λ end. pos < end)) e h

-- a known position is one that the answers of the last loglet reach
pub reached_by : (w : State) (v known pos id index : ℕ) (c : Chain) → GoesBy w v c known → pos < known → (p : Place w c pos id index) → p.segment ≡ last_of_segments c.segments → index < reach w.cells id
reached_by w v known pos id index c g low p y =
    let start_is = ap (λ (s : Segment). s.start) y in
    let id_now : (last_segment c).id ≡ id = sym (ap (λ (s : Segment). s.id) y) ∙ p.id_is in
    omega (arith, g.reached, start_is, p.at, ap (reach w.cells) id_now)

-- what a cell holds at the place of a position of a chain that was given stands in the log
pub there : (cells : ℕ) (w : State) (v pos id index : ℕ) (c : Chain) (e : Entry) → StateOk cells w → w.register.given v ≡ Some c → (p : Place w c pos id index) → (p.segment ≡ last_of_segments c.segments → index < reach w.cells id) → (index < length (entries w.cells id) → slice_get (entries w.cells id) index ≡ Some e) → Stands w pos e
there cells w v pos id index c e ok was p far h =
    ⊎_elim
    (λ (y : x ≡ last_of_segments c.segments).
    let cell = ok.cell id in
    let low = far y in
    subst (λ n. Stands w n e) p.at (reached_stands cells w id x.start index e ok p.started low (h (omega (arith, cell.reach, cell.firm)))))
    (λ (y : (t : ℕ) × (x.end ≡ Some (x.start + t)) × Contains (ends w.cells x.id) t). closed y)
    (closed_or_last (ends w.cells) given.id given.from c.segments x given.joined p.in_chain)
  where
    x : Segment
    x = p.segment

    given : Given (ends w.cells) w.starts w.register.chain c
    given = ok.olds v c was

    closed : (t : ℕ) × (p.segment.end ≡ Some (p.segment.start + t)) × Contains (ends w.cells p.segment.id) t → Stands w pos e
    closed y = by_test (nat_lt pos (trim_of w)) refl
      where
        by_test : (b : Bool) → nat_lt pos (trim_of w) ≡ b → Stands w pos e
        by_test true b = inl (grind (arith, nat_tests))
        by_test false b =
            let up : trim_of w ≤ pos = grind (arith, nat_tests) in
            let end = below_end pos (p.segment.start + y.0) p.segment.end y.1 p.holds.below in
            ⊎_elim
            (λ (z : IsIn p.segment w.register.chain.segments).
            let cell = ok.cell p.segment.id in
            let told = cell.ends y.0 y.2 in
            let short : index < length (entries w.cells id) = omega (arith, end, p.at, told.3, cell.firm, ap (λ k. length (entries w.cells k)) p.id_is) in
            let ends_at = end_closed (reach w.cells) p.segment (p.segment.start + y.0) y.1 in
            let place : pos - p.segment.start ≡ index = omega (arith, p.at) in
            inr (log_to (reach w.cells) (entries w.cells) w.register.chain pos (Some e) up
            (entry_in-inside (reach w.cells) (entries w.cells) (ends w.cells) ok.id ok.from w.register.chain.segments p.segment pos ok.joined z p.holds.above (omega (arith, end, ends_at))
            ∙ (ap (λ n. slice_get (entries w.cells p.segment.id) n) place ∙ (ap (λ k. slice_get (entries w.cells k) index) p.id_is ∙ h short)))))
            (λ (z : p.segment.start + y.0 ≤ trim_of w). absurd (omega (arith, end, up)))
            (given.closed p.segment (p.segment.start + y.0) p.in_chain y.1)

module _ (law : Law) where
  pub got_ok : (who : ℕ) (old mid new : List Event) (v known pos id index t : ℕ) (c : Chain) (e : Entry) → IsLegal law old → GoesBy (state_of old) v c known → pos < known → Place (state_of old) c pos id index → (first : Later law old mid) → Later law mid new → (o : Opened who old id (Read index) t mid) → Answered who mid id t (started ((state_of (old ++ o.first.others)).cells id).told (Read index)) (Got e) new → Stands (state_of old) pos e
  got_ok who old mid new v known pos id index t c e legal g low p first second o x =
      let m = moments law who old mid new id p.segment.start t (Read index) (Got e) (started ((state_of (old ++ o.first.others)).cells id).told (Read index)) legal first second o x p.started in
      let on = continues_trans (state_of old) (state_of (old ++ o.first.others)) (state_of x.moment) m.to_begin m.from_begin in
      let cell = m.answer_ok.cell id in
      let got = entry_of_cell ((state_of x.moment).cells id).told.log (entries (state_of x.moment).cells id) ((state_of x.moment).cells id).told.cut index e cell.log x.may.0 x.may.2 in
      let more = (on.cell id).longer in
      there (length law.shelf) (state_of old) v pos id index c e (sound law old legal) g.given p (reached_by (state_of old) v known pos id index c g low p)
      (λ short. sym (get_back (entries (state_of old).cells id) more.0 index short) ∙ (ap (λ l. slice_get l index) (sym more.1) ∙ got))

  pub cut_ok : (who : ℕ) (old mid new : List Event) (pos id index t n : ℕ) (c : Chain) → IsLegal law old → Place (state_of old) c pos id index → (first : Later law old mid) → Later law mid new → (o : Opened who old id (Read index) t mid) → Answered who mid id t (started ((state_of (old ++ o.first.others)).cells id).told (Read index)) (CutAt n) new → pos < trim_of (state_of new)
  cut_ok who old mid new pos id index t n c legal p first second o x =
      let m = moments law who old mid new id p.segment.start t (Read index) (CutAt n) (started ((state_of (old ++ o.first.others)).cells id).told (Read index)) legal first second o x p.started in
      let at = m.from_begin.starts id p.segment.start m.at_begin in
      ⊎_elim
      (λ (y : ((state_of x.moment).cells id).told.cut ≡ 0). absurd (omega (arith, x.may.0)))
      (λ (y : (s : ℕ) × ((state_of x.moment).starts id ≡ Some s) × (s + ((state_of x.moment).cells id).told.cut ≤ trim_of (state_of x.moment))).
      let both : Some p.segment.start ≡ Some y.0 = sym at ∙ y.1 in
      let same : p.segment.start ≡ y.0 = cc in
      omega (arith, x.may.0, y.2, p.at, m.to_last.trim))
      (m.answer_ok.cuts id)
