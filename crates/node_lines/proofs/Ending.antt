-- What has acted once all was carried to its end and played.
use Rattle.std.proofs.Common.{◌≡◌, refl, sym, ap, ◌∙◌, subst, ⊎_elim, inl, inr, ℕ, zero, suc, ◌+◌, ◌-◌, ◌<◌, ◌≤◌, List, [], ◌∷◌, Option, Some, None, length, arith}
use Rattle.delos_types.specs.Spaces.{SpaceMap}
use Rattle.delos_types.specs.declared.entry.Entry.{Entry}
use Rattle.delos_types.specs.declared.item.Item.{Item}
use Rattle.table_core.specs.Find.{find_in}
use Rattle.table_core.specs.declared.command.Query.{Query}
use Rattle.table_core.specs.declared.command.Found.{Found}
use Rattle.legal_journal.specs.Law.{Law}
use Rattle.legal_journal.specs.declared.events.Event.{Event}
use Rattle.legal_journal.specs.Journal.{state_of, tail_of, trim_of, IsLegal}
use Rattle.legal_journal.proofs.Legal.{goes_on, sound}
use Rattle.virtual_log.specs.Holding.{Holds, IsTrimmed}
use Rattle.virtual_log.specs.Turning.{IsAbove, OnlyOwn}
use Rattle.virtual_log.proofs.Owning.{own_split}
use Rattle.engine_api.specs.Acted.{asked_in}
use Rattle.engine_api.specs.Order.{gap_from, numbers}
use Rattle.log_laws.specs.State.{IsStateOf}
use Rattle.replica_api.specs.Replica.{saved_in}
use Rattle.base_engine.specs.Following.{IsAt, IsStateAt, EndsBy}
use Rattle.base_engine.specs.Querying.{found_in}
use Rattle.base_engine.specs.Reading.{IsFront}
use Rattle.base_engine.specs.Settling.{cause_in}
use Rattle.base_engine.specs.Node.{NodeView}
use Rattle.node_lines.specs.declared.desk.Desk.{Desk}
use Rattle.engine_steps.specs.declared.layout.Kept.{Kept}
use Rattle.engine_api.specs.Items.{content_of}
use Rattle.node_lines.specs.Answered.{InFront, AreAllAnswers}
use Rattle.node_lines.specs.UnderWay.{IsGiven, HasLanded, ranks_in, rank_under}
use Rattle.node_lines.proofs.Proposed.{found_acted, above_tail}
use Rattle.node_lines.proofs.Catching.{acted_sent}
use Rattle.node_lines.proofs.Reading.{state_table}
use Rattle.node_lines.specs.declared.lines.Looked.TheVariants as looked
use Rattle.node_lines.specs.declared.steps.Synced.{Synced}
use Rattle.node_lines.specs.declared.steps.Synced.TheVariants as synced'
use Rattle.node_lines.specs.Moving.{Moves, CarriesFirst, failure_of}
use Rattle.node_lines.specs.Desks.{DeskOk, IsBound, KeepsFrom}
use Rattle.node_lines.specs.Measuring.{StandsAt}
use Rattle.node_lines.specs.Lines.{LooksSo, Looks, HasActedTo, EndsPhase, stopped_by}
use Rattle.node_lines.proofs.Moving.{moves-both, none-before}

none_queued : (a n : ℕ) → [] ≡ numbers a n → n ≡ 0
none_queued a zero h = refl
none_queued a (suc n) h = absurd (cc)

-- where nothing waits and nothing is outstanding, all that a session's node was given has landed
pub given_landed : (seen : List Event) (s sent : ℕ) → IsGiven seen [] [] s sent → (r : ℕ) → 1 ≤ r → r ≤ sent → HasLanded seen s r
given_landed seen s sent g r first last =
    let none : g.queued ≡ 0 = none_queued (sent - g.queued + 1) g.queued g.waiting in
    ⊎_elim (λ (h : HasLanded seen s r). h) (λ w. absurd w.among) (g.under_way r first (omega (arith, last, none)))

-- All was packed and settled, and then a tail was found and played to.
pub record Ended (law : Law) (old packed settled new : NodeView) (tail : ℕ) : Type 0 where
  pub first : Moves law old packed []
  pub next : Moves law packed settled []
  pub none : settled.outbox.entries ≡ []
  pub kept : settled.replica.kept ≡ []
  pub last : Moves law settled new []
  pub above : IsAbove settled.who settled.seen tail new.seen
  pub at : IsAt tail new.replica new.seen

-- no chain was given whose trim is above the log's
pub never_above : (law : Law) (seen : List Event) (pos : ℕ) → IsLegal law seen → trim_of (state_of seen) ≤ pos → IsTrimmed seen pos → ⊥
never_above law seen pos legal low t =
    let ok = sound law seen legal in
    let upto = (ok.olds t.version t.chain t.given).trim in
    omega (arith, upto, t.below, low)

module _ (law : Law) (low : (log : List Entry) (n : ℕ) → law.floor log n → n ≤ length log) where
  module _ (old packed settled new : NodeView) (tail : ℕ) (e : Ended law old packed settled new tail) where
    both : Moves law old settled []
    both = moves-both law low old packed settled [] [] e.first e.next

    pub all : Moves law old new []
    all = moves-both law low old settled new [] [] both e.last

    legal : IsLegal law new.seen
    legal = all.goes.keeps.later.legal

    -- all was carried to its end, and then a tail was found
    pub carried_first : CarriesFirst law old new []
    carried_first = record { settled = settled; carries = record { moves = both; none = e.none; kept = e.kept }; since = e.last }

    pub landed : (s sent : ℕ) → cause_in s new.outbox.given ≡ None → IsGiven old.seen old.outbox.entries old.replica.kept s sent → (r : ℕ) → 1 ≤ r → r ≤ sent → HasLanded settled.seen s r
    landed s sent none g = given_landed settled.seen s sent (subst (λ (k : List Item). IsGiven settled.seen [] k s sent) e.kept (subst (λ (x : List Entry). IsGiven settled.seen x settled.replica.kept s sent) e.none
        (both.stays s sent (none-before law low settled new [] s e.last.goes none) g)))

    -- a tail that was found isn't below that of the beginning
    pub upward : tail_of (state_of old.seen) ≤ tail
    upward =
        let l = both.goes.keeps.later in
        let on = goes_on law old.seen l.more (subst (IsLegal law) l.seen l.legal) in
        let up : tail_of (state_of old.seen) ≤ tail_of (state_of settled.seen) = subst (λ es. tail_of (state_of old.seen) ≤ tail_of (state_of es)) (sym l.seen) on.tail in
        let found = above_tail law settled.who tail settled.seen new.seen legal e.above in
        omega (arith, up, found)

    -- where each event is its own, the log ends there
    exact : settled.replica.cursor ≡ old.replica.cursor → EndsBy settled.who settled.replica.cursor settled.seen tail new.seen → EndsBy old.who old.replica.cursor old.seen new.replica.cursor new.seen
    exact still by trim alone =
        let k = both.goes.keeps in
        let parts = own_split old.who old.seen settled.seen new.seen k.later.more e.last.goes.keeps.later.more k.later.seen e.last.goes.keeps.later.seen alone in
        let ends = by (omega (arith, trim, still)) (subst (λ w. OnlyOwn w settled.seen new.seen) (sym k.who) parts.1) in
        ⊎_elim
        (λ (same : new.replica.cursor ≡ tail). omega (arith, ends, same))
        (λ (k : IsTrimmed new.seen new.replica.cursor). absurd (never_above law new.seen new.replica.cursor legal (omega (arith, trim, all.goes.keeps.forward)) k))
        e.at

    -- what was given has acted where the node has applied all up to that tail
    acted_at : new.replica.cursor ≡ tail → (s sent : ℕ) → cause_in s new.outbox.given ≡ None → IsGiven old.seen old.outbox.entries old.replica.kept s sent → InFront new.seen new.replica.cursor (HasActedTo s sent)
    acted_at is s sent none g = λ log size front. found_acted law settled.who s sent tail settled.seen new.seen log legal e.above (size ∙ is) front (landed s sent none g)

    -- Under rules by which nothing is trimmed where the node was, or above

    module _ (keeps : KeepsFrom law old.replica.cursor) where
      pub cursor_is : new.replica.cursor ≡ tail
      cursor_is = ⊎_elim (λ (k : new.replica.cursor ≡ tail). k) (λ (k : IsTrimmed new.seen new.replica.cursor). absurd (omega (arith, keeps new.seen new.replica.cursor legal k, all.goes.keeps.forward))) e.at

      -- what was given has acted, and nothing else has
      pub whole : (s sent : ℕ) → cause_in s new.outbox.given ≡ None → IsGiven old.seen old.outbox.entries old.replica.kept s sent → IsBound law.may s sent
          → (log : List Entry) → length log ≡ new.replica.cursor → IsFront Holds new.seen log → gap_from (asked_in 0 log) s 1 ≡ sent + 1
      whole s sent none g bound log size front =
          let least : sent < gap_from (asked_in 0 log) s 1 = acted_at cursor_is s sent none g log size front in
          let most = acted_sent law new.seen log s sent legal front bound in
          omega (arith, least, most)

      -- the node has the state of a front then
      pub stands_at : (state : List Entry → SpaceMap → Type 0) → ((log : List Entry) (m : SpaceMap) → state log m → IsStateOf log m) → IsStateAt Holds state new.seen (saved_in new.replica) → StandsAt old new
      stands_at state means at = record {
        log = at.log;
        front = at.front;
        from = omega (arith, upward, cursor_is, at.size);
        size = at.size;
        led = means at.log new.replica.contents at.led;
      }

      -- what a read answers then
      pub looks_at : (state : List Entry → SpaceMap → Type 0) (d : Desk) (query : Query) (found : Found) → ((log : List Entry) (m : SpaceMap) → state log m → IsStateOf log m)
          → DeskOk old d.session d → d.stopped ≡ None → cause_in d.session new.outbox.given ≡ None → IsBound law.may d.session d.sent
          → IsStateAt Holds state new.seen (saved_in new.replica) → found ≡ found_in new.replica.contents query → Looks law old new d query (looked.Found tail found)
      looks_at state d query found means ok free none bound at shows =
          let none_then = none-before law low old new [] d.session all.goes none in
          let given = (ok.given free none_then).1 in
          let told : LooksSo old new d query [] (looked.Found tail found) = (
            refl,
            (free, none),
            upward,
            record {
              log = at.log;
              front = at.front;
              size = at.size ∙ cursor_is;
              sees = whole d.session d.sent none given bound at.log at.size at.front;
              shows = shows ∙ ap (λ t. find_in t query) (state_table at.log new.replica.contents (means at.log new.replica.contents at.led));
            },
            sym cursor_is,
          ) in
          record { others = []; moves = all; looks = told }

    pub ends_at : new.outbox.entries ≡ [] → new.outbox.unsettled ≡ None → new.replica.kept ≡ [] → settled.replica.cursor ≡ old.replica.cursor → EndsBy settled.who settled.replica.cursor settled.seen tail new.seen → EndsPhase law old new None
    ends_at none unsettled kept still by = record {
      moves = all;
      first = carried_first;
      none = none;
      unsettled = unsettled;
      kept = kept;
      acted = λ f. ⊎_elim (λ (k : new.replica.cursor ≡ tail). inr (acted_at k)) (λ (k : IsTrimmed new.seen new.replica.cursor). inl k) e.at;
      exact = λ f. exact still by;
    }

ranks-few : (s : ℕ) (items : List Item) → length (ranks_in s items) ≤ length items
ranks-few s [] = omega arith
ranks-few s (i ∷ is) = by (rank_under s (content_of i)) refl (ranks-few s is)
  where
    by : (o : Option ℕ) → rank_under s (content_of i) ≡ o → length (ranks_in s is) ≤ length is → length (ranks_in s (i ∷ is)) ≤ suc (length is)
    by None e few = rw e (let k : length (ranks_in s is) ≤ suc (length is) = omega (arith, few) in k)
    by (Some r) e few = rw e (let k : suc (length (ranks_in s is)) ≤ suc (length is) = omega (arith, few) in k)

length-numbers : (a n : ℕ) → length (numbers a n) ≡ n
length-numbers a zero = refl
length-numbers a (suc n) = ap suc (length-numbers (a + 1) n)

-- All was settled, and then a tail was found and played to.
pub record CaughtUp (law : Law) (old settled new : NodeView) (tail : ℕ) : Type 0 where
  pub first : Moves law old settled []
  pub none : settled.outbox.entries ≡ []
  pub few : length settled.replica.kept ≤ 15
  pub last : Moves law settled new []
  pub above : IsAbove settled.who settled.seen tail new.seen
  pub at : IsAt tail new.replica new.seen
  pub keeps : KeepsFrom law old.replica.cursor

module _ (law : Law) (low : (log : List Entry) (n : ℕ) → law.floor log n → n ≤ length log) where
  -- the next command of a session that has no cause is near
  pub near_after : (state : List Entry → SpaceMap → Type 0) (old settled new : NodeView) (tail s sent : ℕ) (answers : List Kept) → CaughtUp law old settled new tail
      → IsStateAt Holds state new.seen (saved_in new.replica) → cause_in s new.outbox.given ≡ None → IsGiven old.seen old.outbox.entries old.replica.kept s sent
      → InFront new.seen new.replica.cursor (λ log. AreAllAnswers log s answers) → sent + 1 ≤ length answers + 64
  near_after state old settled new tail s sent answers e at none g all =
      let whole = moves-both law low old settled new [] [] e.first e.last in
      let legal = whole.goes.keeps.later.legal in
      let there : IsGiven settled.seen [] settled.replica.kept s sent = subst (λ (x : List Entry). IsGiven settled.seen x settled.replica.kept s sent) e.none (e.first.stays s sent (none-before law low settled new [] s e.last.goes none) g) in
      let landed : (r : ℕ) → 1 ≤ r → r ≤ sent - there.queued → HasLanded settled.seen s r = λ r first last.
      ⊎_elim (λ (h : HasLanded settled.seen s r). h) (λ w. absurd w.among) (there.under_way r first (omega (arith, last, there.few))) in
      let here : new.replica.cursor ≡ tail = ⊎_elim (λ (k : new.replica.cursor ≡ tail). k) (λ (k : IsTrimmed new.seen new.replica.cursor). absurd (omega (arith, e.keeps new.seen new.replica.cursor legal k, whole.goes.keeps.forward))) e.at in
      let acted = found_acted law settled.who s (sent - there.queued) tail settled.seen new.seen at.log legal e.above (at.size ∙ here) at.front landed in
      let told = (all at.log at.size at.front).all in
      let waits : there.queued ≤ 15 = let k = ranks-few s settled.replica.kept in omega (arith, k, e.few, ap length there.waiting, length-numbers (sent - there.queued + 1) there.queued) in
      omega (arith, acted, told, waits, there.few)

  -- so where a sync didn't fail
  pub caught_near : (state : List Entry → SpaceMap → Type 0) (old settled new : NodeView) (s sent : ℕ) (answers : List Kept) (synced : Synced) → Moves law old settled [] → settled.outbox.entries ≡ [] → length settled.replica.kept ≤ 15
      → Moves law settled new (failure_of synced) → ((tail : ℕ) → synced ≡ synced'.At tail → IsAbove settled.who settled.seen tail new.seen × IsAt tail new.replica new.seen) → KeepsFrom law old.replica.cursor
      → IsStateAt Holds state new.seen (saved_in new.replica) → stopped_by synced None ≡ None → cause_in s new.outbox.given ≡ None → IsGiven old.seen old.outbox.entries old.replica.kept s sent
      → InFront new.seen new.replica.cursor (λ log. AreAllAnswers log s answers) → sent + 1 ≤ length answers + 64
  caught_near state old settled new s sent answers (synced'.At tail) first none few last found keeps at free n g all =
      let f = found tail refl in
      near_after state old settled new tail s sent answers (record { first = first; none = none; few = few; last = last; above = f.0; at = f.1; keeps = keeps }) at n g all
  caught_near state old settled new s sent answers (synced'.Failed c) first none few last found keeps at free n g all = absurd (cc)
