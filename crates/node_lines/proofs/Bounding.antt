-- What a tail and a front tell of what was sent and has acted.
use Rattle.std.proofs.Common.{◌≡◌, subst, inl, inr, ◌⊎◌, ℕ, ◌<◌, ◌≤◌, List, ◌++◌, length, drop, arith}
use Rattle.std.proofs.lemmas.Bool.{cases_lt}
use Rattle.delos_types.specs.declared.entry.Entry.{Entry}
use Rattle.legal_journal.specs.Law.{Law}
use Rattle.legal_journal.specs.declared.events.Event.{Event}
use Rattle.legal_journal.specs.Journal.{IsLegal, state_of, tail_of}
use Rattle.virtual_log.specs.Holding.{Holds}
use Rattle.virtual_log.proofs.Agreeing.{holds_agree}
use Rattle.engine_api.specs.Acted.{asked_in}
use Rattle.engine_api.specs.Order.{gap_from}
use Rattle.engine_steps.specs.declared.layout.Kept.{Kept}
use Rattle.base_engine.specs.Holding.{held_stays}
use Rattle.base_engine.specs.Reading.{IsFront}
use Rattle.turn_scopes.proofs.Moments.{held_before, held_sent}
use Rattle.node_lines.specs.Answered.{AreAnswers}
use Rattle.node_lines.specs.UnderWay.{HasRank}
use Rattle.node_lines.proofs.Fronts.{splits, gap-longer, answers-longer}
use Rattle.node_lines.specs.Workers.{Within, sent_of}
use Rattle.node_lines.proofs.Cleaning.{front_within}

module _ (law : Law) where
  -- what is held below an early tail was held then, so it was sent within the counts of then
  pub tail_bounds : ((log : List Entry) (n : ℕ) → law.floor log n → n ≤ length log) → (counts : List ℕ) (early late : List Event) (s r pos : ℕ) (e : Entry) → IsLegal (record law { may = Within law.may counts }) early → IsLegal law (early ++ late)
      → Holds (early ++ late) pos e → HasRank s r e → sent_of counts s < r → tail_of (state_of early) ≤ pos
  tail_bounds low counts early late s r pos e within legal held has above = by (cases_lt pos (tail_of (state_of early)))
    where
      by : (pos < tail_of (state_of early)) ⊎ (tail_of (state_of early) ≤ pos) → tail_of (state_of early) ≤ pos
      by (inr h) = h
      by (inl h) =
          let sent = held_sent (record law { may = Within law.may counts }) early pos e within (held_before law low early late pos e legal h held) in
          absurd (omega (arith, sent.1.1 s r has, above))

  -- each entry of a front stands in the log, below its tail
  pub front_below : ((log : List Entry) (n : ℕ) → law.floor log n → n ≤ length log) → (seen : List Event) (log : List Entry) → IsLegal law seen → IsFront Holds seen log → length log ≤ tail_of (state_of seen)
  front_below low seen log legal front = front_within law low seen log legal front

  -- an early front is the beginning of each later one that isn't shorter
  begins : (early late : List Event) (front log : List Entry) → IsLegal law (early ++ late) → IsFront Holds early front → IsFront Holds (early ++ late) log → length front ≤ length log → front ++ drop (length front) log ≡ log
  begins early late front log legal was is longer =
      splits front log longer (λ p x y i j. holds_agree law (early ++ late) p x y legal (held_stays law early late p x legal (was p x i)) (is p y j))

  pub acted_stays : (early late : List Event) (s n : ℕ) (front log : List Entry) → IsLegal law (early ++ late) → IsFront Holds early front → IsFront Holds (early ++ late) log → length front ≤ length log
      → n < gap_from (asked_in 0 front) s 1 → n < gap_from (asked_in 0 log) s 1
  acted_stays early late s n front log legal was is longer h =
      subst (λ l. n < gap_from (asked_in 0 l) s 1) (begins early late front log legal was is longer) (gap-longer front (drop (length front) log) s n h)

  pub answers_stay : (early late : List Event) (s : ℕ) (front log : List Entry) (answers : List Kept) → IsLegal law (early ++ late) → IsFront Holds early front → IsFront Holds (early ++ late) log → length front ≤ length log
      → AreAnswers front s answers → AreAnswers log s answers
  answers_stay early late s front log answers legal was is longer h =
      subst (λ l. AreAnswers l s answers) (begins early late front log legal was is longer) (answers-longer front (drop (length front) log) s answers h)
