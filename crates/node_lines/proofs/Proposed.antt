-- A command that a node is given isn't left out, and a tail that is found after all has landed has all of it below it.
use Rattle.std.proofs.Common.{◌≡◌, refl, ap, ◌∙◌, subst, inl, inr, ⊎_elim, ℕ, zero, suc, ◌+◌, ◌-◌, ◌<◌, ◌≤◌, List, [], ◌∷◌, ◌++◌, Option, Some, None, length, arith}
use Rattle.std.specs.Prelude.{All}
use Rattle.std.specs.List.{cons_option}
use Rattle.delos_types.specs.declared.entry.Entry.{Entry}
use Rattle.delos_types.specs.declared.item.Item.{Item}
use Rattle.table_core.specs.declared.command.Command.{Command}
use Rattle.legal_journal.specs.Law.{Law}
use Rattle.legal_journal.specs.declared.events.Event.{Event}
use Rattle.legal_journal.specs.Journal.{State, last_segment, state_of, tail_of, IsLegal}
use Rattle.legal_journal.specs.Laws.{Clears}
use Rattle.legal_journal.proofs.Sound.{StateOk, open_tail}
use Rattle.legal_journal.proofs.Legal.{sound, legal_front, goes_on}
use Rattle.virtual_log.specs.Holding.{Holds, IsTrimmed}
use Rattle.virtual_log.specs.Turning.{IsAbove}
use Rattle.engine_api.specs.declared.content.Content.TheVariants.{Session}
use Rattle.engine_api.specs.Items.{content_of}
use Rattle.engine_api.specs.Acted.{asked_in}
use Rattle.engine_api.specs.Order.{gap_from, numbers}
use Rattle.engine_api.specs.Packing.{IsProposable}
use Rattle.engine_steps.specs.Layout.{last_of}
use Rattle.engine_steps.specs.Words.{under}
use Rattle.log_laws.specs.State.{IsStateOf}
use Rattle.replica_api.specs.Replica.{ReplicaView}
use Rattle.base_engine.specs.Reading.{IsFront}
use Rattle.base_engine.specs.Settling.{OutboxView, cause_in}
use Rattle.base_engine.specs.Proposing.{CaughtUp, Proposed, IsFar, IsFarAt}
use Rattle.node_lines.specs.UnderWay.{HasLanded, rank_under, ranks_in, IsGiven}
use Rattle.node_lines.proofs.Settling.{Extends, settled_landed, landed_later, front_of}
use Rattle.node_lines.proofs.Queueing.{sent_given}
use Rattle.node_lines.proofs.Catching.{landed_acted}

-- how many of them wait
ranks-few : (s : ℕ) (items : List Item) → length (ranks_in s items) ≤ length items
ranks-few s [] = omega arith
ranks-few s (i ∷ is) = by (rank_under s (content_of i)) (ranks-few s is)
  where
    by : (o : Option ℕ) → length (ranks_in s is) ≤ length is → length (cons_option o (ranks_in s is)) ≤ length (i ∷ is)
    by None h = omega (arith, h)
    by (Some r) h = omega (arith, h)

length-numbers : (a n : ℕ) → length (numbers a n) ≡ n
length-numbers a zero = refl
length-numbers a (suc n) = ap suc (length-numbers (a + 1) n)

-- what clears a moment isn't below its tail
pub clears_tail : (cells : ℕ) (w : State) (pos : ℕ) → StateOk cells w → Clears w pos → tail_of w ≤ pos
clears_tail cells w pos ok h =
    let x = h (last_segment w).id (last_segment w).start ok.last in
    omega (arith, x, open_tail cells w ok)

module _ (law : Law) where
  -- a tail that was found isn't below that of the moment before
  pub above_tail : (who pos : ℕ) (old new : List Event) → IsLegal law new → IsAbove who old pos new → tail_of (state_of old) ≤ pos
  above_tail who pos old new legal h =
      let f = h.first in
      let before : IsLegal law (old ++ f.others) = legal_front law (old ++ f.others) (f.event ∷ f.rest) (subst (IsLegal law) f.seen legal) in
      let clear = clears_tail (length law.shelf) (state_of (old ++ f.others)) pos (sound law (old ++ f.others) before) h.clears in
      let on = goes_on law old f.others before in
      omega (arith, clear, on.tail)

  pub above_extends : (who pos : ℕ) (old new : List Event) → IsAbove who old pos new → Extends old new
  above_extends who pos old new h = let f = h.first in (f.others ++ f.event ∷ f.rest, f.seen ∙ more old f.others (f.event ∷ f.rest))
    where
      more : (a b c : List Event) → (a ++ b) ++ c ≡ a ++ (b ++ c)
      more [] b c = refl
      more (x ∷ a) b c = ap (λ l. x ∷ l) (more a b c)

  -- What had landed at a moment has acted in the state at a tail that was found later.
  pub found_acted : (who s n tail : ℕ) (early seen : List Event) (log : List Entry) → IsLegal law seen → IsAbove who early tail seen → length log ≡ tail → IsFront Holds seen log
      → ((r : ℕ) → 1 ≤ r → r ≤ n → HasLanded early s r) → n < gap_from (asked_in 0 log) s 1
  found_acted who s n tail early seen log legal above size front all =
      let reached = above_tail who tail early seen legal above in
      landed_acted law early seen log s n legal (above_extends who tail early seen above) (omega (arith, reached, size)) front all

module _ (law : Law) (low : (log : List Entry) (n : ℕ) → law.floor log n → n ≤ length log) where
  -- The next command of a session isn't left out.
  not_far : (who s sent : ℕ) (old new : List Event) (was is : OutboxView) (v v' : ReplicaView) (item : Item) (log : List Entry) (c : Option Command) → IsLegal law new → cause_in s is.given ≡ None → s ≤ 63
      → length v.kept ≤ 15 → under 2 item ≡ Some (Session s (sent + 1) c) → IsGiven old was.entries v.kept s sent
      → length log ≡ v'.cursor → IsFront Holds new log → IsStateOf log v'.contents → (IsTrimmed new v'.cursor → ⊥)
      → CaughtUp Holds who old was new is v' → IsFar v'.contents item → ⊥
  not_far who s sent old new was is v v' item log c legal none small few says g size front state here h far =
      let m = h.settled.moment in
      let landed_then : (r : ℕ) → 1 ≤ r → r ≤ sent - g.queued → HasLanded h.mid s r = λ r first last.
      landed_later law low m h.mid s r (front_of law low h.mid new legal (above_extends law who h.tail h.mid new h.above)) h.since
      (settled_landed law low who s r old m was is (front_of law low m new legal h.settled.rest) none h.none
      (record { done = h.settled.done; given = h.settled.given; all = h.settled.all; gained = h.settled.gained; moment = m; fates = h.settled.fates; rest = ([], nil m) }) (g.under_way r first (omega (arith, last, g.few)))) in
      let at : v'.cursor ≡ h.tail = ⊎_elim (λ (k : v'.cursor ≡ h.tail). k) (λ (k : IsTrimmed new v'.cursor). absurd (here k)) h.at in
      let acted = found_acted law who s (sent - g.queued) h.tail h.mid new log legal h.above (size ∙ at) front landed_then in
      let gap = (state.sessions.sessions s small).gap in
      let waits : g.queued ≤ 15 = let k = ranks-few s v.kept in omega (arith, k, few, ap length g.waiting, length-numbers (sent - g.queued + 1) g.queued) in
      let high : last_of v'.contents s + 64 < sent + 1 = subst (IsFarAt v'.contents) says far in
      omega (arith, acted, gap, waits, high, g.few)
    where
      nil : (xs : List Event) → xs ≡ xs ++ []
      nil [] = refl
      nil (x ∷ xs) = ap (λ l. x ∷ l) (nil xs)

  -- A session's next command was proposed, and the session was given no cause.
  pub proposed_given : (who s sent : ℕ) (old new : List Event) (was is : OutboxView) (v v' : ReplicaView) (item : Item) (log : List Entry) (c : Option Command) → IsLegal law new → cause_in s is.given ≡ None → s ≤ 63
      → All IsProposable v.kept → length v.kept ≤ 15 → IsProposable item → under 2 item ≡ Some (Session s (sent + 1) c) → rank_under s (content_of item) ≡ Some (sent + 1)
      → length log ≡ v'.cursor → IsFront Holds new log → IsStateOf log v'.contents → (IsTrimmed new v'.cursor → ⊥)
      → Proposed Holds who old was v item new is v' → IsGiven old was.entries v.kept s sent → IsGiven new is.entries v'.kept s (sent + 1)
  proposed_given who s sent old new was is v v' item log c legal none small all few fine says own size front state here h g = by h
    where
      by : Proposed Holds who old was v item new is v' → IsGiven new is.entries v'.kept s (sent + 1)
      by (inl k) = sent_given law low who v.origin s sent old new was is v.kept v'.kept item legal none all fine own k.0 g
      by (inr k) = absurd (not_far who s sent old new was is v v' item log c legal none small few says g size front state here k.0 k.1)
