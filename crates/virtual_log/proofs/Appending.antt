-- An operation on a loglet of the chain.
use Rattle.std.proofs.Common.{◌≡◌, ◌≢◌, ℕ, ◌+◌, ◌-◌, ◌<◌, ◌≤◌, ◌^◌, List, ◌∷◌, ◌++◌, length, Some, Bool, true, false, refl, sym, ap, ◌∙◌, subst, arith, append_assoc}
use Rattle.std.specs.Prelude.{Contains, slice_get, ◌==◌}
use Rattle.std.proofs.lemmas.Bool.Decides.{nat_tests}
use Rattle.std.proofs.lemmas.List.Elements.{Contains-push}
use Rattle.delos_types.specs.declared.entry.Entry.{Entry}
use Rattle.delos_types.specs.Spelling.{IsSpellable}
use Rattle.loglet_api.specs.declared.call.Op.{Op}
use Rattle.loglet_api.specs.declared.call.Op.TheVariants.{Append, Tail, Read}
use Rattle.loglet_api.specs.declared.call.Answer.{Answer}
use Rattle.loglet_api.specs.declared.call.Answer.TheVariants.{Placed, SealedTail, SealDone, OpenTail, Sealed}
use Rattle.legal_journal.specs.Law.{Law}
use Rattle.legal_journal.specs.Told.{Told, Running, started, begun}
use Rattle.legal_journal.specs.declared.events.Event.{Event}
use Rattle.legal_journal.specs.declared.events.FabricCall.TheVariants.{Begin}
use Rattle.legal_journal.specs.Journal.{CellState, State, state_of, IsLegal, last_segment, tail_of, entries, reach}
use Rattle.legal_journal.specs.Laws.{Continues, Stands}
use Rattle.legal_journal.specs.Turns.{MayTurn}
use Rattle.legal_journal.proofs.Cells.{put_same}
use Rattle.legal_journal.proofs.Log.{slice_get_front}
use Rattle.legal_journal.proofs.Sound.{StateOk, open_tail}
use Rattle.legal_journal.proofs.Legal.{sound, continues_trans, legal_front, reached_stands, goes_on, clears_on, last_clears}
use Rattle.virtual_log.specs.Turning.{OnlyOwn, Later, FirstTurn, Opened, Answered, IsAbove}
use Rattle.virtual_log.proofs.Owning.{own_split}
use Rattle.virtual_log.proofs.OneTurn.{later_continues, first_later}

-- a started cell that no answer told sealed is the last
pub unsealed_last : (cells : ℕ) (w : State) (i s : ℕ) → StateOk cells w → w.starts i ≡ Some s → (w.cells i).told.sealed ≡ false → tail_of w ≡ s + (w.cells i).told.reach
unsealed_last cells w i s ok at unsealed = by_test (i == (last_segment w).id) refl
  where
    by_test : (b : Bool) → (i == (last_segment w).id) ≡ b → tail_of w ≡ s + (w.cells i).told.reach
    by_test true b =
        let same : i ≡ (last_segment w).id = grind (arith, nat_tests) in
        let both : Some s ≡ Some (last_segment w).start = sym at ∙ (ap w.starts same ∙ ok.last) in
        let start_is : s ≡ (last_segment w).start = cc in
        omega (arith, open_tail cells w ok, start_is, ap (reach w.cells) same)
    by_test false b =
        let apart : i ≢ (last_segment w).id = grind (arith, nat_tests) in
        let x = ok.order i (last_segment w).id s (last_segment w).start (omega (arith, ok.ids i s at)) at ok.last in
        let cell = ok.cell i in
        let end = cell.ends x.0 x.1 in
        let told = (cell.cap end.0 end.1).1 in
        let no : true ≡ false = sym told ∙ unsealed in absurd (cc)

-- what the answers of a started cell reach is below the tail
pub reach_below : (cells : ℕ) (w : State) (i s : ℕ) → StateOk cells w → w.starts i ≡ Some s → s + (w.cells i).told.reach ≤ tail_of w
reach_below cells w i s ok at = last_clears cells w (tail_of w) ok (omega arith) i s at

module _ (law : Law) where
  pub may_append : (who : ℕ) (old : List Event) (i : ℕ) (e : Entry) → i < length law.shelf → law.may who e → IsSpellable e → MayTurn law who old (Begin i (Append e))
  may_append who old i e l m s others apart now = record { there = l; asks = (s, m) }

  pub may_tail : (who : ℕ) (old : List Event) (i : ℕ) → i < length law.shelf → MayTurn law who old (Begin i Tail)
  may_tail who old i l others apart now = record { there = l; asks = tt }

  pub may_read : (who : ℕ) (old : List Event) (i p : ℕ) → i < length law.shelf → MayTurn law who old (Begin i (Read p))
  may_read who old i p l others apart now = record { there = l; asks = tt }

  -- a started cell is in the shelf
  pub started_within : (old : List Event) (i s : ℕ) → IsLegal law old → (state_of old).starts i ≡ Some s → i < length law.shelf
  started_within old i s legal at = let ok = sound law old legal in omega (arith, ok.ids i s at, ok.shelf)

  -- the moments of an operation: as it begins, as its answer comes, and now
  pub record Moments (who : ℕ) (old new : List Event) (i s : ℕ) (begin answer : List Event) : Type 0 where
    pub old_ok : StateOk (length law.shelf) (state_of old)
    pub begin_ok : StateOk (length law.shelf) (state_of begin)
    pub answer_ok : StateOk (length law.shelf) (state_of answer)
    pub new_ok : StateOk (length law.shelf) (state_of new)
    pub to_begin : Continues (state_of old) (state_of begin)
    pub to_new : Continues (state_of begin) (state_of new)
    pub to_last : Continues (state_of answer) (state_of new)
    pub from_begin : Continues (state_of begin) (state_of answer)
    pub at_begin : (state_of begin).starts i ≡ Some s
    pub at_new : (state_of new).starts i ≡ Some s
    pub few : length law.shelf ≤ 64

  pub moments : (who : ℕ) (old mid new : List Event) (i s t : ℕ) (op : Op) (a : Answer) (r : Running) → IsLegal law old → Later law old mid → Later law mid new → (o : Opened who old i op t mid) → (x : Answered who mid i t r a new) → (state_of old).starts i ≡ Some s → Moments who old new i s (old ++ o.first.others) x.moment
  moments who old mid new i s t op a r legal first second o x at =
      let begin = old ++ o.first.others in
      let mid_legal = subst (IsLegal law) o.first.seen first.legal in
      let begin_legal = legal_front law begin (o.first.event ∷ o.first.rest) mid_legal in
      let new_legal = subst (IsLegal law) x.rest.1 second.legal in
      let answer_legal = legal_front law x.moment x.rest.0 new_legal in
      let to_begin = goes_on law old o.first.others begin_legal in
      let to_last = subst (λ es. Continues (state_of x.moment) (state_of es)) (sym x.rest.1) (goes_on law x.moment x.rest.0 new_legal) in
      let is : x.moment ≡ begin ++ ((o.first.event ∷ o.first.rest) ++ x.since.0) = x.since.1 ∙ (ap (λ es. es ++ x.since.0) o.first.seen ∙ append_assoc begin (o.first.event ∷ o.first.rest) x.since.0) in
      let from = subst (λ es. Continues (state_of begin) (state_of es)) (sym is) (goes_on law begin ((o.first.event ∷ o.first.rest) ++ x.since.0) (subst (IsLegal law) is answer_legal)) in
      let at_begin = to_begin.starts i s at in record {
        old_ok = sound law old legal;
        begin_ok = sound law begin begin_legal;
        answer_ok = sound law x.moment answer_legal;
        new_ok = sound law new second.legal;
        to_begin = to_begin;
        to_new = continues_trans (state_of begin) (state_of x.moment) (state_of new) from to_last;
        to_last = to_last;
        from_begin = from;
        at_begin = at_begin;
        at_new = to_last.starts i s (from.starts i s at_begin);
        few = legal.most;
      }

  -- a position that is no lower than the tail at the begin is above all that was answered before it
  pub above_begin : (who : ℕ) (old mid new : List Event) (i t pos : ℕ) (op : Op) → IsLegal law old → Later law old mid → Later law mid new → (o : Opened who old i op t mid) → tail_of (state_of (old ++ o.first.others)) ≤ pos → IsAbove who old pos new
  above_begin who old mid new i t pos op legal first second o up =
      let begin = old ++ o.first.others in
      let begin_legal = legal_front law begin (o.first.event ∷ o.first.rest) (subst (IsLegal law) o.first.seen first.legal) in record {
        first = first_later who old mid new second.more second.seen o.first;
        clears = last_clears (length law.shelf) (state_of begin) pos (sound law begin begin_legal) up;
      }

  -- what a placed append brings
  pub record Placing (who : ℕ) (old new : List Event) (i s : ℕ) (e : Entry) (pos : ℕ) : Type 0 where
    pub stands : Stands (state_of new) pos e
    pub above : IsAbove who old pos new
    pub there : slice_get ((state_of new).cells i).entries (pos - s) ≡ Some e
    pub reached : pos + 1 ≤ s + ((state_of new).cells i).told.reach
    pub fits : pos < 2 ^ 64

  pub placed_ok : (who : ℕ) (old mid new : List Event) (i s t p : ℕ) (e : Entry) → IsLegal law old → (state_of old).starts i ≡ Some s → (first : Later law old mid) → Later law mid new → (o : Opened who old i (Append e) t mid) → Answered who mid i t (started ((state_of (old ++ o.first.others)).cells i).told (Append e)) (Placed p) new → Placing who old new i s e (s + p)
  placed_ok who old mid new i s t p e legal at first second o x =
      let begin = old ++ o.first.others in
      let cell = (state_of begin).cells i in
      let r = started cell.told (Append e) in
      let m = moments who old mid new i s t (Append e) (Placed p) r legal first second o x at in
      let tail = unsealed_last (length law.shelf) (state_of begin) i s m.begin_ok m.at_begin x.may.1.unsealed in
      let begin_cell = m.begin_ok.cell i in
      let ok_mid = sound law mid first.legal in
      let placed = ((ok_mid.cell i).ops t r o.own.is_open).place e refl in
      let to_new = later_continues law mid new second in
      let more = (to_new.cell i).longer in
      let there : slice_get (entries (state_of new).cells i) p ≡ Some e =
      subst (λ l. slice_get l p ≡ Some e) (sym more.1) (slice_get_front (entries (state_of mid).cells i) more.0 p e (subst (λ k. slice_get (entries (state_of mid).cells i) k ≡ Some e) (sym x.may.0) placed)) in
      let reach_is : ((state_of new).cells i).told.reach ≡ _ = ap (λ (y : Told). y.reach) x.told in
      let new_cell = m.new_ok.cell i in
      record {
        stands = reached_stands (length law.shelf) (state_of new) i s p e m.new_ok m.at_new (omega (arith, reach_is)) there;
        there = let at : s + p - s ≡ p = omega arith in ap (slice_get (entries (state_of new).cells i)) at ∙ there;
        above = above_begin who old mid new i t (s + p) (Append e) legal first second o (omega (arith, tail, x.may.0, begin_cell.size, begin_cell.reach, begin_cell.firm));
        reached = omega (arith, reach_is);
        fits = omega (arith, m.new_ok.rooms i s m.at_new, m.new_ok.ids i s m.at_new, m.new_ok.shelf, m.few, new_cell.reach, new_cell.firm, new_cell.room, reach_is);
      }

  pub sealed_ok : (who : ℕ) (mid new : List Event) (i t : ℕ) (r : Running) → Answered who mid i t r Sealed new → ((state_of new).cells i).told.sealed ≡ true
  sealed_ok who mid new i t r a = ap (λ (x : Told). x.sealed) a.told

  pub sealing_ok : (who : ℕ) (mid new : List Event) (i t : ℕ) (r : Running) → Answered who mid i t r SealDone new → ((state_of new).cells i).told.sealed ≡ true
  sealing_ok who mid new i t r a = ap (λ (x : Told). x.sealed) a.told

  -- what an open tail brings
  pub record Finding (who : ℕ) (old new : List Event) (i s : ℕ) (pos : ℕ) : Type 0 where
    pub within : pos ≤ tail_of (state_of new)
    pub above : IsAbove who old pos new
    pub reached : pos ≤ s + ((state_of new).cells i).told.reach
    pub exact : OnlyOwn who old new → tail_of (state_of new) ≤ pos
    pub fits : pos < 2 ^ 64

  pub tail_ok : (who : ℕ) (old mid new : List Event) (i s t n : ℕ) → IsLegal law old → (state_of old).starts i ≡ Some s → (first : Later law old mid) → Later law mid new → (o : Opened who old i Tail t mid) → Answered who mid i t (started ((state_of (old ++ o.first.others)).cells i).told Tail) (OpenTail n) new → Finding who old new i s (s + n)
  tail_ok who old mid new i s t n legal at first second o x =
      let begin = old ++ o.first.others in
      let m = moments who old mid new i s t Tail (OpenTail n) (started ((state_of begin).cells i).told Tail) legal first second o x at in
      let tail = unsealed_last (length law.shelf) (state_of begin) i s m.begin_ok m.at_begin x.may.1.unsealed in
      let reach_is : ((state_of new).cells i).told.reach ≡ _ = ap (λ (y : Told). y.reach) x.told in
      let new_cell = m.new_ok.cell i in
      record {
        within = omega (arith, reach_below (length law.shelf) (state_of new) i s m.new_ok m.at_new, reach_is);
        above = above_begin who old mid new i t (s + n) Tail legal first second o (omega (arith, tail, x.may.0));
        reached = omega (arith, reach_is);
        exact = λ alone.
            let parts = own_split who old mid new first.more second.more first.seen second.seen alone in
            let still = x.still (own_split who mid x.moment new x.since.0 x.rest.0 x.since.1 x.rest.1 parts.1).0 in
            let mid_is : ((state_of mid).cells i).told ≡ begun ((state_of begin).cells i).told Tail t = ap (λ (w : State). (w.cells i).told) o.now ∙ ap (λ (c : CellState). c.told) (put_same (state_of begin).cells i _) in
            let told = still.told i ∙ mid_is in
            let same_reach : ((state_of x.moment).cells i).told.reach ≡ ((state_of begin).cells i).told.reach = ap (λ (y : Told). y.reach) told in
            let sealed_is : ((state_of new).cells i).told.sealed ≡ ((state_of x.moment).cells i).told.sealed = ap (λ (y : Told). y.sealed) x.told in
            let unsealed = sealed_is ∙ (ap (λ (y : Told). y.sealed) told ∙ x.may.1.unsealed) in
            let last = unsealed_last (length law.shelf) (state_of new) i s m.new_ok m.at_new unsealed in
            omega (arith, last, reach_is, same_reach, x.may.0);
        fits = omega (arith, m.new_ok.rooms i s m.at_new, m.new_ok.ids i s m.at_new, m.new_ok.shelf, m.few, new_cell.reach, new_cell.firm, new_cell.room, reach_is);
      }

  pub end_ok : (who : ℕ) (mid new : List Event) (i t n : ℕ) (r : Running) → Answered who mid i t r (SealedTail n) new → Contains ((state_of new).cells i).ends n
  end_ok who mid new i t n r a = subst (λ l. Contains l n) (sym a.ends) (Contains-push ((state_of a.moment).cells i).ends n)

  pub shut_ok : (who : ℕ) (mid new : List Event) (i t n : ℕ) (r : Running) → Answered who mid i t r (SealedTail n) new → ((state_of new).cells i).told.sealed ≡ true
  shut_ok who mid new i t n r a = ap (λ (x : Told). x.sealed) a.told

  -- a loglet that was told sealed before has no open tail
  pub never_open : (who : ℕ) (old mid new : List Event) (i t n : ℕ) → IsLegal law old → (first : Later law old mid) → (o : Opened who old i Tail t mid) → Answered who mid i t (started ((state_of (old ++ o.first.others)).cells i).told Tail) (OpenTail n) new → ((state_of old).cells i).told.sealed ≡ true → ⊥
  never_open who old mid new i t n legal first o x shut =
      let begin = old ++ o.first.others in
      let begin_legal = legal_front law begin (o.first.event ∷ o.first.rest) (subst (IsLegal law) o.first.seen first.legal) in
      let now = ((goes_on law old o.first.others begin_legal).cell i).sealed shut in
      let no : true ≡ false = sym now ∙ x.may.1.unsealed in absurd (cc)

  -- a position above what an attempt found before its first event is above what the call did before its own
  pub above_since : (who pos : ℕ) (a b c new : List Event) → FirstTurn who a b → Later law b c → Later law c new → IsAbove who c pos new → IsAbove who a pos new
  above_since who pos a b c new f second third x =
      let front = a ++ f.others in
      let start = f.event ∷ f.rest in
      let c_is : c ≡ front ++ (start ++ second.more) = second.seen ∙ (ap (λ es. es ++ second.more) f.seen ∙ append_assoc front start second.more) in
      let at = c ++ x.first.others in
      let at_is : at ≡ front ++ ((start ++ second.more) ++ x.first.others) = ap (λ es. es ++ x.first.others) c_is ∙ append_assoc front (start ++ second.more) x.first.others in
      let at_legal = legal_front law at (x.first.event ∷ x.first.rest) (subst (IsLegal law) x.first.seen third.legal) in
      let goes = subst (λ es. Continues (state_of front) (state_of es)) (sym at_is) (goes_on law front ((start ++ second.more) ++ x.first.others) (subst (IsLegal law) at_is at_legal)) in record {
        first = first_later who a b new (second.more ++ third.more) (third.seen ∙ (ap (λ es. es ++ third.more) second.seen ∙ append_assoc b second.more third.more)) f;
        clears = clears_on (state_of front) (state_of at) pos goes x.clears;
      }
