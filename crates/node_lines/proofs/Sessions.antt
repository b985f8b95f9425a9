-- What comes of a session's desk.
use Rattle.std.proofs.Common.{◌≡◌, refl, sym, ap, ◌∙◌, subst, inl, inr, ℕ, ◌+◌, ◌<◌, ◌≤◌, List, Option, Some, None, length, arith}
use Rattle.std.specs.Prelude.{is_none, ◌==◌, nat_lt, Bool, true, false}
use Rattle.std.specs.Option.{option_or}
use Rattle.std.proofs.lemmas.Bool.Decides.{nat_tests}
use Rattle.delos_types.specs.Spaces.{SpaceMap}
use Rattle.delos_types.specs.declared.entry.Entry.{Entry}
use Rattle.delos_types.specs.declared.item.Item.{Item}
use Rattle.delos_types.specs.declared.cause.Cause.{Cause}
use Rattle.table_core.specs.declared.command.Command.{Command}
use Rattle.legal_journal.specs.Law.{Law}
use Rattle.legal_journal.specs.Journal.{IsLegal}
use Rattle.virtual_log.specs.Holding.{Holds}
use Rattle.engine_api.specs.declared.content.Content.{Content}
use Rattle.engine_api.specs.declared.content.Content.TheVariants as content
use Rattle.engine_api.specs.Acted.{asked_in}
use Rattle.engine_api.specs.Order.{gap_from}
use Rattle.engine_steps.specs.declared.layout.Kept.{Kept}
use Rattle.engine_steps.specs.Layout.{last_of}
use Rattle.engine_steps.specs.Words.{under}
use Rattle.log_laws.specs.State.{IsStateOf}
use Rattle.replica_api.specs.Replica.{saved_in}
use Rattle.base_engine.specs.Following.{IsStateAt}
use Rattle.base_engine.specs.Proposing.{IsNear, IsNearAt}
use Rattle.base_engine.specs.Settling.{cause_in}
use Rattle.base_engine.specs.Node.{NodeView}
use Rattle.node_lines.specs.declared.desk.Desk.{Desk}
use Rattle.node_lines.specs.Answered.{AreAnswers, AreAllAnswers, InFront}
use Rattle.node_lines.specs.UnderWay.{IsGiven, rank_under}
use Rattle.node_lines.specs.Moving.{HandsIn}
use Rattle.node_lines.specs.Desks.{HasAnswers, DeskOk}
use Rattle.node_lines.specs.Lines.{IsFree, HasActedTo, stopped_unanswered, Closes}
use Rattle.node_lines.proofs.Fronts.{answers_at}
use Rattle.node_lines.proofs.Desks.{answers_later}

-- all answers are answers
pub some-of-all : (log : List Entry) (s : ℕ) (answers : List Kept) → AreAllAnswers log s answers → AreAnswers log s answers
some-of-all log s answers h = record { each = h.each; below = omega (arith, h.all) }

-- the answers that were collected are those in a front of the log
pub collected : (state : List Entry → SpaceMap → Type 0) (n : NodeView) (s : ℕ) (answers : List Kept) → IsStateAt Holds state n.seen (saved_in n.replica)
    → InFront n.seen n.replica.cursor (λ log. AreAllAnswers log s answers) → HasAnswers n.seen n.replica.cursor s answers
collected state n s answers at h = record { log = at.log; front = at.front; upto = omega (arith, at.size); are = some-of-all at.log s answers (h at.log at.size at.front) }

module _ (law : Law) (low : (log : List Entry) (n : ℕ) → law.floor log n → n ≤ length log) where
  -- so many commands acted as there are answers
  pub answers_low : (state : List Entry → SpaceMap → Type 0) (n : NodeView) (s : ℕ) (answers : List Kept) → ((log : List Entry) (m : SpaceMap) → state log m → IsStateOf log m) → IsLegal law n.seen
      → s ≤ 63 → IsStateAt Holds state n.seen (saved_in n.replica) → HasAnswers n.seen n.replica.cursor s answers → length answers ≤ last_of n.replica.contents s
  answers_low state n s answers means legal known at h =
      let are = answers_at law n.seen n.replica.cursor s answers legal h at.log at.size at.front in
      let gap = ((means at.log n.replica.contents at.led).sessions.sessions s known).gap in
      omega (arith, are.below, gap)

  -- the session's next command is near
  pub next_near : (state : List Entry → SpaceMap → Type 0) (n : NodeView) (s r : ℕ) (answers : List Kept) (item : Item) (w : Option Content) → ((log : List Entry) (m : SpaceMap) → state log m → IsStateOf log m) → IsLegal law n.seen
      → s ≤ 63 → IsStateAt Holds state n.seen (saved_in n.replica) → HasAnswers n.seen n.replica.cursor s answers → r ≤ length answers + 64 → (c : _) → w ≡ Some (content.Session s r c) → under 2 item ≡ w → IsNear n.replica.contents item
  next_near state n s r answers item w means legal known at h near c says is =
      let acted = answers_low state n s answers means legal known at h in
      subst (IsNearAt n.replica.contents) (sym (is ∙ says)) (let t : r ≤ last_of n.replica.contents s + 64 = omega (arith, acted, near) in t)

-- a command of a session is one of it
pub own_under : (s r : ℕ) (c : Option Command) → rank_under s (Some (content.Session s r c)) ≡ Some r
own_under s r c = rw (same s) refl
  where
    same : (s : ℕ) → (s == s) ≡ true
    same s = grind (arith, nat_tests)

module _ (law : Law) (low : (log : List Entry) (n : ℕ) → law.floor log n → n ≤ length log) where
  -- no answer is lost
  pub answers_more : (state : List Entry → SpaceMap → Type 0) (n : NodeView) (s : ℕ) (before after : List Kept) → IsLegal law n.seen → IsStateAt Holds state n.seen (saved_in n.replica)
      → HasAnswers n.seen n.replica.cursor s before → InFront n.seen n.replica.cursor (λ log. AreAllAnswers log s after) → length before ≤ length after
  answers_more state n s before after legal at h all =
      let are = answers_at law n.seen n.replica.cursor s before legal h at.log at.size at.front in
      let whole = all at.log at.size at.front in
      omega (arith, are.below, whole.all)

  -- the desk of a session whose answers were collected
  pub desk_collected : (state : List Entry → SpaceMap → Type 0) (n : NodeView) (s : ℕ) (d : Desk) (answers : List Kept) (d' : Desk) → IsLegal law n.seen → IsStateAt Holds state n.seen (saved_in n.replica) → DeskOk n s d
      → InFront n.seen n.replica.cursor (λ log. AreAllAnswers log s answers) → d'.answers.items ≡ answers → d'.session ≡ d.session → d'.asked ≡ d.asked → d'.sent ≡ d.sent → (d'.stopped ≡ None → d.stopped ≡ None) → (d'.stopped ≡ None → d'.answered ≡ d.answered) → DeskOk n s d'
  desk_collected state n s d answers d' legal at ok all are session asked sent stopped answered =
      let more = answers_more state n s d.answers.items answers legal at ok.acted all in
      record {
        session = session ∙ ok.session;
        known = ok.known;
        few = omega (arith, ok.few, asked, sent);
        near = omega (arith, ok.near, sent, more, ap length are);
        acted = subst (λ xs. HasAnswers n.seen n.replica.cursor s xs) (sym are) (collected state n s answers at all);
        ended = λ free. answered free ∙ ok.ended (stopped free);
        given = λ free none. let g = ok.given (stopped free) none in (sent ∙ g.0 ∙ sym asked, subst (IsGiven n.seen n.outbox.entries n.replica.kept s) (sym sent) g.1);
      }

  -- the desk of a session whose next command went down
  pub desk_logged : (state : List Entry → SpaceMap → Type 0) (old new : NodeView) (s : ℕ) (d d' : Desk) (answers : List Kept) → IsStateAt Holds state new.seen (saved_in new.replica) → DeskOk old s d → d.stopped ≡ None → cause_in s old.outbox.given ≡ None
      → d.sent + 1 ≤ length d.answers.items + 64 → HandsIn law old new s d.sent → InFront new.seen new.replica.cursor (λ log. AreAllAnswers log s answers)
      → d'.answers.items ≡ answers → d'.session ≡ d.session → d'.asked ≡ d.asked + 1 → d'.sent ≡ d.sent + 1 → d'.answered ≡ d.answered → DeskOk new s d'
  desk_logged state old new s d d' answers at ok free none near h all are session asked sent answered =
      let k = h.goes.keeps in
      let earlier = answers_later law low old.seen new.seen old.replica.cursor new.replica.cursor s d.answers.items k.later.legal (k.later.more, k.later.seen) k.forward ok.acted in
      let more = answers_more state new s d.answers.items answers k.later.legal at earlier all in
      let g = ok.given free none in
      record {
        session = session ∙ ok.session;
        known = ok.known;
        few = omega (arith, ok.few, asked, sent);
        near = omega (arith, near, sent, more, ap length are);
        acted = subst (λ xs. HasAnswers new.seen new.replica.cursor s xs) (sym are) (collected state new s answers at all);
        ended = λ f. answered ∙ ok.ended free;
        given = λ f n. (sent ∙ ap (λ k. k + 1) g.0 ∙ sym asked, subst (IsGiven new.seen new.outbox.entries new.replica.kept s) (sym sent) (h.own n g.1));
      }

  some_or : (o p : Option Cause) → (o ≡ None → p ≡ None → ⊥) → (c : Cause) × (option_or o p ≡ Some c)
  some_or (Some c) p h = (c, refl)
  some_or None (Some c) h = (c, refl)
  some_or None None h = absurd (h refl refl)

  none_or : (o p : Option Cause) → option_or o p ≡ None → (o ≡ None) × (p ≡ None)
  none_or None p h = (refl, h)
  none_or (Some c) p h = absurd (cc)

  -- a session whose answers were collected at the end of a phase, by its desk as it was then
  pub closes : (state : List Entry → SpaceMap → Type 0) (n : NodeView) (failed : Option Cause) (old mid : Desk) → IsLegal law n.seen → IsStateAt Holds state n.seen (saved_in n.replica) → DeskOk n old.session old
      → mid ≡ record old { answers = mid.answers } → InFront n.seen n.replica.cursor (λ log. AreAllAnswers log old.session mid.answers.items)
      → (failed ≡ None → IsFree n old → InFront n.seen n.replica.cursor (HasActedTo old.session old.sent))
      → DeskOk n old.session (stopped_unanswered (option_or (option_or old.stopped (cause_in old.session n.outbox.given)) failed) mid)
      × Closes n failed old (stopped_unanswered (option_or (option_or old.stopped (cause_in old.session n.outbox.given)) failed) mid)
  closes state n failed old mid legal at ok is all found = by (is_none mid.answered) (nat_lt (length mid.answers.items) mid.asked) refl refl
    where
      asked : mid.asked ≡ old.asked
      asked = ap (λ (d : Desk). d.asked) is

      stopped : mid.stopped ≡ old.stopped
      stopped = ap (λ (d : Desk). d.stopped) is

      answered : mid.answered ≡ old.answered
      answered = ap (λ (d : Desk). d.answered) is

      -- it stays as it was
      stays : (old.answered ≡ None → old.asked ≤ length mid.answers.items) → DeskOk n old.session mid × Closes n failed old mid
      stays low = (
        desk_collected state n old.session old mid.answers.items mid legal at ok all refl (ap (λ (d : Desk). d.session) is) asked (ap (λ (d : Desk). d.sent) is) (λ none. sym stopped ∙ none) (λ none. answered),
        record {
          rest = is ∙ ap (λ s. record old { answers = mid.answers; stopped = s; answered = old.answered }) (sym stopped) ∙ ap (λ a. record old { answers = mid.answers; stopped = mid.stopped; answered = a }) (sym answered);
          all = all;
          ends = inr (stopped, answered, low);
        },
      )

      fewer : (x y z : ℕ) → nat_lt x y ≡ true → y ≡ z → x < z
      fewer x y z h e = grind (arith, nat_tests, h, e)

      no_fewer : (x y z : ℕ) → nat_lt x y ≡ false → y ≡ z → z ≤ x
      no_fewer x y z h e = grind (arith, nat_tests, h, e)

      -- a session that lacks an answer has a cause
      has_cause : nat_lt (length mid.answers.items) mid.asked ≡ true → (c : Cause) × (option_or (option_or old.stopped (cause_in old.session n.outbox.given)) failed ≡ Some c)
      has_cause f = some_or (option_or old.stopped (cause_in old.session n.outbox.given)) failed (λ none lost.
          let free = none_or old.stopped (cause_in old.session n.outbox.given) none in
          let acted : old.sent < gap_from (asked_in 0 at.log) old.session 1 = found lost free at.log at.size at.front in
          let told = (all at.log at.size at.front).all in
          let whole = (ok.given free.0 free.1).0 in
          let lacks = fewer (length mid.answers.items) mid.asked old.asked f asked in
          absurd (omega (arith, acted, told, whole, lacks)))

      by : (a b : Bool) → is_none mid.answered ≡ a → nat_lt (length mid.answers.items) mid.asked ≡ b
          → DeskOk n old.session (stopped_unanswered (option_or (option_or old.stopped (cause_in old.session n.outbox.given)) failed) mid)
          × Closes n failed old (stopped_unanswered (option_or (option_or old.stopped (cause_in old.session n.outbox.given)) failed) mid)
      by true true e f =
          let why = has_cause f in
          let r = option_or (option_or old.stopped (cause_in old.session n.outbox.given)) failed in
          let d : Desk = record mid { stopped = r; answered = Some (length mid.answers.items) } in
          rw (e, f) (
            desk_collected state n old.session old mid.answers.items d legal at ok all refl (ap (λ (d : Desk). d.session) is) asked (ap (λ (d : Desk). d.sent) is)
                (λ none. (none_or old.stopped (cause_in old.session n.outbox.given) (none_or (option_or old.stopped (cause_in old.session n.outbox.given)) failed none).0).0)
                (λ none. absurd (let t : Some why.0 ≡ None = sym why.1 ∙ none in cc)),
            record {
              rest = ap (λ (d : Desk). record d { stopped = r; answered = Some (length mid.answers.items) }) is;
              all = all;
              ends = inl (record {
                first = sym answered ∙ is_none_of mid.answered e;
                cause = why.0;
                stopped = why.1;
                why = why.1;
                answered = refl;
                more = fewer (length mid.answers.items) mid.asked old.asked f asked;
              });
            },
          )
        where
          is_none_of : (o : Option ℕ) → is_none o ≡ true → o ≡ None
          is_none_of None e = refl
          is_none_of (Some x) e = absurd (cc)
      by true false e f = rw (e, f) (stays (λ none. no_fewer (length mid.answers.items) mid.asked old.asked f asked))
      by false b e f = rw e (stays (λ none. absurd (let t : false ≡ true = sym e ∙ ap is_none (answered ∙ none) in cc)))

  none_of : (old : Desk) (n : NodeView) → (old.stopped ≡ None) × (cause_in old.session n.outbox.given ≡ None) → option_or old.stopped (cause_in old.session n.outbox.given) ≡ None
  none_of old n free = ap (λ o. option_or o (cause_in old.session n.outbox.given)) free.0 ∙ free.1

  -- a session that has a cause isn't free
  pub not_free : (n : NodeView) (d : Desk) (c : Cause) → Some c ≡ option_or d.stopped (cause_in d.session n.outbox.given) → IsFree n d → ⊥
  not_free n d c has free = absurd (let t : Some c ≡ None = has ∙ none_of d n free in cc)
