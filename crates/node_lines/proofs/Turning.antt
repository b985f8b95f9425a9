-- A desk once a phase has ended.
use Rattle.std.proofs.Common.{◌≡◌, refl, sym, ap, ◌∙◌, subst, ⊎_elim, inl, inr, ◌⊎◌, ℕ, zero, suc, ◌+◌, ◌<◌, ◌≤◌, List, [], ◌∷◌, Option, Some, None, length, arith}
use Rattle.std.specs.Prelude.{slice_get, All}
use Rattle.std.proofs.lemmas.Bool.{cases_lt}
use Rattle.std.proofs.lemmas.List.Elements.{All-nil}
use Rattle.delos_types.specs.declared.entry.Entry.{Entry}
use Rattle.delos_types.specs.declared.item.Item.{Item}
use Rattle.delos_types.specs.declared.cause.Cause.{Cause}
use Rattle.legal_journal.specs.Law.{Law}
use Rattle.legal_journal.specs.declared.events.Event.{Event}
use Rattle.legal_journal.specs.Journal.{IsLegal}
use Rattle.virtual_log.specs.Holding.{Holds, IsTrimmed}
use Rattle.virtual_log.proofs.Holding.{holds_stands}
use Rattle.turn_scopes.proofs.Bounds.{stands_below}
use Rattle.engine_api.specs.Acted.{asked_in}
use Rattle.engine_api.specs.Order.{gap_from, top_rank}
use Rattle.engine_api.proofs.Gaps.{gap-run}
use Rattle.base_engine.specs.Following.{IsStateAt}
use Rattle.base_engine.specs.Reading.{IsFront}
use Rattle.base_engine.specs.Settling.{cause_in}
use Rattle.replica_api.specs.Replica.{saved_in}
use Rattle.delos_types.specs.Spaces.{SpaceMap}
use Rattle.base_engine.specs.Node.{NodeView}
use Rattle.node_lines.specs.declared.desk.Desk.{Desk}
use Rattle.node_lines.specs.UnderWay.{HasLanded, IsGiven, ranks_in}
use Rattle.node_lines.proofs.Catching.{appears_in, acted_sent}
use Rattle.node_lines.specs.Moving.{HasNoneOf, IsQuiet}
use Rattle.node_lines.specs.Answered.{InFront}
use Rattle.node_lines.specs.Desks.{DeskOk, DesksOk, IsBound, KeepsFrom}
use Rattle.node_lines.specs.Lines.{EndsPhase, HasActedTo, IsFree, Stopped, failure_in}
use Rattle.node_lines.specs.Turns.{AllAnswered, ClosesIt, EndsTurn, IsAnswered, TakesAll, TakesIt}
use Rattle.node_lines.proofs.Fronts.{answers_at}
use Rattle.node_lines.proofs.Desks.{desk_moves}
use Rattle.node_lines.proofs.Moving.{none-before}

module _ (law : Law) (low : (log : List Entry) (n : ℕ) → law.floor log n → n ≤ length log) where
  -- what has acted in a front of the log has landed
  pub acted_landed : (seen : List Event) (log : List Entry) (s r : ℕ) → IsLegal law seen → IsFront Holds seen log → 1 ≤ r → r < gap_from (asked_in 0 log) s 1 → HasLanded seen s r
  acted_landed seen log s r legal front first high =
      let x = appears_in law s r 0 log (gap-run (asked_in 0 log) s 1 (top_rank (asked_in 0 log) + 1) r first high) in
      let held = front x.0 x.1 x.2 in
      record { entry = x.1; held = record { pos = x.0; held = held; below = stands_below law low seen x.0 x.1 legal (holds_stands law seen x.0 x.1 legal held) }; rank = x.3 }

  -- so all of a session's commands are given, where nothing waits
  pub acted_given : (seen : List Event) (log : List Entry) (s sent : ℕ) → IsLegal law seen → IsFront Holds seen log → sent < gap_from (asked_in 0 log) s 1 → IsGiven seen [] [] s sent
  acted_given seen log s sent legal front high = record {
    queued = 0;
    few = omega arith;
    waiting = refl;
    under_way = λ r first last. inl (acted_landed seen log s r legal front first (omega (arith, last, high)));
  }

  pub none_given : (seen : List Event) (s : ℕ) → IsGiven seen [] [] s 0
  none_given seen s = record { queued = 0; few = omega arith; waiting = refl; under_way = λ r first last. absurd (omega (arith, first, last)) }

  -- the causes were forgotten: a desk that was closed is as it was, and so is one of a session that asked nothing
  pub desk_forgotten : (mid new : NodeView) (failed : Option Cause) (s : ℕ) (old d : Desk) → IsLegal law mid.seen → new ≡ record mid { outbox = record mid.outbox { given = [] } } → mid.outbox.entries ≡ [] → mid.replica.kept ≡ []
      → (log : List Entry) → length log ≡ mid.replica.cursor → IsFront Holds mid.seen log → DeskOk mid s old → DeskOk mid s d → ClosesIt mid failed old d → (0 < old.asked → IsBound law.may s old.sent) → DeskOk new s d
  desk_forgotten mid new failed s old d legal is none kept log size front was ok closes bound =
      subst (λ (n : NodeView). DeskOk n s d) (sym is) (record {
        session = ok.session;
        known = ok.known;
        few = ok.few;
        near = ok.near;
        acted = ok.acted;
        ended = ok.ended;
        given = λ free x. by_asked free (cases_lt 0 old.asked);
      })
    where
      there : (sent : ℕ) → IsGiven mid.seen [] [] s sent → IsGiven mid.seen mid.outbox.entries mid.replica.kept s sent
      there sent g = subst (λ (k : List Item). IsGiven mid.seen mid.outbox.entries k s sent) (sym kept) (subst (λ (e : List Entry). IsGiven mid.seen e [] s sent) (sym none) g)

      by_asked : d.stopped ≡ None → (0 < old.asked) ⊎ (old.asked ≤ 0) → (d.sent ≡ d.asked) × IsGiven mid.seen mid.outbox.entries mid.replica.kept s d.sent
      by_asked free (inr zero_asked) =
          let z : old.asked ≡ 0 = omega (arith, zero_asked) in
          let same = closes.none z in
          let a : d.asked ≡ 0 = ap (λ (x : Desk). x.asked) same ∙ z in
          let b : d.sent ≡ 0 = omega (arith, ok.few, a) in
          (b ∙ sym a, there d.sent (subst (IsGiven mid.seen [] [] s) (sym b) (none_given mid.seen s)))
      by_asked free (inl some) =
          let c = closes.asked some in
          let own : old.session ≡ s = was.session in
          let all = c.all log size front in
          let gap : gap_from (asked_in 0 log) s 1 ≡ length d.answers.items + 1 = subst (λ q. gap_from (asked_in 0 log) q 1 ≡ length d.answers.items + 1) own all.all in
          let most = acted_sent law mid.seen log s old.sent legal front (bound some) in
          let sent : d.sent ≡ old.sent = ap (λ (x : Desk). x.sent) c.rest in
          let asked : d.asked ≡ old.asked = ap (λ (x : Desk). x.asked) c.rest in
          let whole : old.asked ≤ length d.answers.items = unstopped free c.ends in
          let same : d.sent ≡ d.asked = omega (arith, gap, most, whole, sent, asked, ok.few) in
          (same, there d.sent (acted_given mid.seen log s d.sent legal front (omega (arith, gap, whole, same, asked))))
        where
          unstopped : d.stopped ≡ None → Stopped mid failed old d ⊎ ((d.stopped ≡ old.stopped) × (d.answered ≡ old.answered) × (old.answered ≡ None → old.asked ≤ length d.answers.items)) → old.asked ≤ length d.answers.items
          unstopped f (inl x) = absurd (let t : Some x.cause ≡ None = sym x.stopped ∙ f in cc)
          unstopped f (inr x) = x.2 (was.ended (sym x.0 ∙ f))

-- once a phase has ended nothing of any session is on its way
pub ends_quiet : (law : Law) (old new : NodeView) (was is : List Desk) (failed : Option Cause) → EndsTurn law old new was is failed → (s : ℕ) → IsQuiet new s
ends_quiet law old new was is failed h s = subst (λ (n : NodeView). IsQuiet n s) (sym h.forgets) (record {
  outstanding = subst (All (HasNoneOf s)) (sym h.ends.none) (All-nil (HasNoneOf s));
  waiting = ap (ranks_in s) h.ends.kept;
  free = refl;
})

-- where a list of the same length has an element, so has this one
pub was_at : (old new : List Desk) (s : ℕ) (d : Desk) → length new ≡ length old → slice_get new s ≡ Some d → (x : Desk) × (slice_get old s ≡ Some x)
was_at [] [] s d size at = absurd (cc)
was_at [] (y ∷ ys) s d size at = absurd (omega (arith, size))
was_at (x ∷ xs) [] s d size at = absurd (cc)
was_at (x ∷ xs) (y ∷ ys) zero d size at = (x, refl)
was_at (x ∷ xs) (y ∷ ys) (suc s) d size at = was_at xs ys s d (omega (arith, size)) at

pub same_at : (xs : List Desk) (s : ℕ) (x y : Desk) → slice_get xs s ≡ Some x → slice_get xs s ≡ Some y → x ≡ y
same_at xs s x y h k = some_same x y (sym h ∙ k)
  where
    some_same : (x y : Desk) → Some x ≡ Some y → x ≡ y
    some_same x y e = cc

-- where all of a session's commands are answered they have acted
pub answered_acted : (law : Law) (n : NodeView) (s : ℕ) (d : Desk) → IsLegal law n.seen → DeskOk n s d → d.asked ≤ length d.answers.items → InFront n.seen n.replica.cursor (HasActedTo s d.sent)
answered_acted law n s d legal ok all = λ log size front.
    let are = answers_at law n.seen n.replica.cursor s d.answers.items legal ok.acted log size front in
    omega (arith, are.below, ok.few, all)

-- Where nothing was trimmed where the node was, or above, what was given has acted as a phase ends.
pub kept_acted : (law : Law) (old new : NodeView) (failed : Option Cause) → EndsPhase law old new failed → KeepsFrom law old.replica.cursor → failed ≡ None
    → (s sent : ℕ) → cause_in s new.outbox.given ≡ None → IsGiven old.seen old.outbox.entries old.replica.kept s sent → InFront new.seen new.replica.cursor (HasActedTo s sent)
kept_acted law old new failed e keeps none s sent free given = by (e.acted none)
  where
    by : IsTrimmed new.seen new.replica.cursor ⊎ ((s sent : ℕ) → cause_in s new.outbox.given ≡ None → IsGiven old.seen old.outbox.entries old.replica.kept s sent → InFront new.seen new.replica.cursor (HasActedTo s sent)) → InFront new.seen new.replica.cursor (HasActedTo s sent)
    by (inl t) = let k = e.moves.goes.keeps in absurd (omega (arith, keeps new.seen new.replica.cursor k.later.legal t, k.forward))
    by (inr acted) = acted s sent free given

-- Where a tail was found, and all answers were taken, each session that has no cause has them all.
pub answers_whole : (law : Law) → ((log : List Entry) (n : ℕ) → law.floor log n → n ≤ length log) → (state : List Entry → SpaceMap → Type 0) (n m : NodeView) (failed : Option Cause) (old new : List Desk)
    → EndsPhase law n m failed → failed ≡ None → KeepsFrom law n.replica.cursor → DesksOk n old → IsStateAt Holds state m.seen (saved_in m.replica) → TakesAll m old new → DesksOk m new → IsAnswered old new × AllAnswered m new
answers_whole law low state n m failed old new e none keeps were at takes are = (
  λ s d there. let w = was s d there in (w.0, w.1, w.2.rest, more s d there),
  λ s d there free. whole s d there free,
)
  where
    was : (s : ℕ) (d : Desk) → slice_get new s ≡ Some d → (x : Desk) × (slice_get old s ≡ Some x) × TakesIt m x d
    was s d there =
        let x = was_at old new s d takes.size there in
        let one = takes.each s x.0 x.1 in
        (x.0, x.1, subst (TakesIt m x.0) (same_at new s one.desk d one.is there) one.takes)

    -- none is lost: those of before are among all
    more : (s : ℕ) (d : Desk) (there : slice_get new s ≡ Some d) → length (was s d there).0.answers.items ≤ length d.answers.items
    more s d there = ⊎_elim some (λ (zero_asked : x.asked ≤ 0). let same = t.none (omega (arith, zero_asked)) in omega (arith, ap (λ (y : Desk). length y.answers.items) same)) (cases_lt 0 x.asked)
      where
        x : Desk
        x = (was s d there).0

        t : TakesIt m x d
        t = (was s d there).2

        some : 0 < x.asked → length x.answers.items ≤ length d.answers.items
        some up =
            let old_ok = were s x (was s d there).1 in
            let ok = desk_moves law low n m (failure_in failed) s x e.moves old_ok in
            let had = answers_at law m.seen m.replica.cursor s x.answers.items e.moves.goes.keeps.later.legal ok.acted at.log at.size at.front in
            let all = (t.all up at.log at.size at.front).all in
            let gap : gap_from (asked_in 0 at.log) s 1 ≡ length d.answers.items + 1 = subst (λ q. gap_from (asked_in 0 at.log) q 1 ≡ length d.answers.items + 1) old_ok.session all in
            omega (arith, had.below, gap)

    whole : (s : ℕ) (d : Desk) → slice_get new s ≡ Some d → IsFree m d → d.asked ≤ length d.answers.items
    whole s d there free = ⊎_elim some (λ (zero_asked : x.asked ≤ 0). omega (arith, zero_asked, asked)) (cases_lt 0 x.asked)
      where
        x : Desk
        x = (was s d there).0

        t : TakesIt m x d
        t = (was s d there).2

        asked : d.asked ≡ x.asked
        asked = ap (λ (y : Desk). y.asked) t.rest

        sent : d.sent ≡ x.sent
        sent = ap (λ (y : Desk). y.sent) t.rest

        ok : DeskOk m s d
        ok = are s d there

        old_ok : DeskOk n s x
        old_ok = were s x (was s d there).1

        some : 0 < x.asked → d.asked ≤ length d.answers.items
        some up =
            let cause : cause_in s m.outbox.given ≡ None = subst (λ q. cause_in q m.outbox.given ≡ None) ok.session free.1 in
            let stopped : x.stopped ≡ None = sym (ap (λ (y : Desk). y.stopped) t.rest) ∙ free.0 in
            let before = none-before law low n m (failure_in failed) s e.moves.goes cause in
            let given = old_ok.given stopped before in
            let acted = kept_acted law n m failed e keeps none s x.sent cause given.1 at.log at.size at.front in
            let all = (t.all up at.log at.size at.front).all in
            let gap : gap_from (asked_in 0 at.log) s 1 ≡ length d.answers.items + 1 = subst (λ q. gap_from (asked_in 0 at.log) q 1 ≡ length d.answers.items + 1) old_ok.session all in
            omega (arith, acted, gap, given.0, asked)
