-- What is known of a front of the log is known of each longer one.
use Rattle.std.proofs.Common.{◌≡◌, refl, sym, ap, ◌∙◌, subst, ℕ, zero, suc, ◌+◌, ◌<◌, ◌≤◌, Bool, true, false, List, [], ◌∷◌, ◌++◌, Option, Some, None, is_some, length, drop, arith}
use Rattle.std.specs.Prelude.{◌==◌, ◌&&◌, nat_lt, slice_get, find}
use Rattle.std.specs.Option.{option_or}
use Rattle.std.specs.FinMap as finmap
use Rattle.std.proofs.lemmas.Bool.Decides.{nat_tests}
use Rattle.std.proofs.lemmas.List.Folds.{find-append}
use Rattle.delos_types.specs.declared.entry.Entry.{Entry}
use Rattle.legal_journal.specs.Law.{Law}
use Rattle.legal_journal.specs.declared.events.Event.{Event}
use Rattle.legal_journal.specs.Journal.{IsLegal}
use Rattle.virtual_log.proofs.Agreeing.{holds_agree}
use Rattle.engine_api.specs.declared.act.Act.{Act}
use Rattle.engine_api.specs.Acted.{asked_in, replied, table_after}
use Rattle.engine_api.specs.Order.{gap_from, top_rank, acted_after}
use Rattle.engine_api.proofs.Appends.{acted_log-append}
use Rattle.engine_api.proofs.Gaps.{gap-low}
use Rattle.log_laws.specs.State.{acts_in}
use Rattle.log_laws.proofs.Replies.{InTurn, log_turn}
use Rattle.engine_steps.specs.declared.layout.Kept.{Kept}
use Rattle.node_lines.specs.Answered.{ActedSo, AreAnswers, InFront}
use Rattle.node_lines.specs.Desks.{HasAnswers}

abbrev of_rank : ℕ → ℕ → Act → Bool
of_rank s r a = (a.session == s) && (a.rank == r)

turns : (log : List Entry) → InTurn (acts_in log) (λ s. gap_from (asked_in 0 log) s 1)
turns log = log_turn finmap.empty (asked_in 0 log)

-- a shorter list that agrees with a longer one wherever it has an element is its beginning
pub splits : (a b : List Entry) → length a ≤ length b → ((p : ℕ) (x y : Entry) → slice_get a p ≡ Some x → slice_get b p ≡ Some y → x ≡ y) → a ++ drop (length a) b ≡ b
splits [] b h f = refl
splits (x ∷ xs) [] h f = absurd (omega (arith, h))
splits (x ∷ xs) (y ∷ ys) h f = ap (λ z. z ∷ (xs ++ drop (length xs) ys)) (f 0 x y refl refl) ∙ ap (λ l. y ∷ l) (splits xs ys (omega (arith, h)) (λ p u v i j. f (suc p) u v i j))

-- what acted is found in a longer log
found-longer : (log more : List Entry) (s r : ℕ) (a : Act) → find (of_rank s r) (acts_in log) ≡ Some a → find (of_rank s r) (acts_in (log ++ more)) ≡ Some a
found-longer log more s r a h =
    let rest : List Act = replied (table_after finmap.empty (acts_in log)) (acted_after (λ t. 1) (asked_in 0 log) (asked_in (0 + length log) more)) in
    ap (find (of_rank s r)) (acted_log-append finmap.empty (λ t. 1) 0 log more)
    ∙ find-append (of_rank s r) (acts_in log) rest
    ∙ ap (λ o. option_or o (find (of_rank s r) rest)) h

pub acted-longer : (log more : List Entry) (s r : ℕ) (k : Kept) → ActedSo log s r k → ActedSo (log ++ more) s r k
acted-longer log more s r k h = record { act = h.act; found = found-longer log more s r h.act h.found; is = h.is }

-- the ranks that acted have acted
pub gap-longer : (log more : List Entry) (s n : ℕ) → n < gap_from (asked_in 0 log) s 1 → n < gap_from (asked_in 0 (log ++ more)) s 1
gap-longer log more s zero h = omega (arith, gap-low (asked_in 0 (log ++ more)) s 1 (top_rank (asked_in 0 (log ++ more)) + 1))
gap-longer log more s (suc m) h = by_find (find (of_rank s (suc m)) (acts_in log)) refl
  where
    acted : is_some (find (of_rank s (suc m)) (acts_in log)) ≡ true
    acted = (turns log).acted s (suc m) (omega arith) ∙ (let t : nat_lt (suc m) (gap_from (asked_in 0 log) s 1) ≡ true = grind (arith, nat_tests, h) in t)

    by_find : (o : Option Act) → find (of_rank s (suc m)) (acts_in log) ≡ o → suc m < gap_from (asked_in 0 (log ++ more)) s 1
    by_find None e = absurd (let t : false ≡ true = sym (ap is_some e) ∙ acted in cc)
    by_find (Some a) e =
        let t : nat_lt (suc m) (gap_from (asked_in 0 (log ++ more)) s 1) ≡ true = sym ((turns (log ++ more)).acted s (suc m) (omega arith)) ∙ ap is_some (found-longer log more s (suc m) a e) in
        grind (arith, nat_tests, t)

pub answers-longer : (log more : List Entry) (s : ℕ) (answers : List Kept) → AreAnswers log s answers → AreAnswers (log ++ more) s answers
answers-longer log more s answers h = record {
  each = λ i k at. acted-longer log more s (i + 1) k (h.each i k at);
  below = gap-longer log more s (length answers) h.below;
}

-- in each front of the log that is long enough
pub answers_at : (law : Law) (seen : List Event) (c s : ℕ) (answers : List Kept) → IsLegal law seen → HasAnswers seen c s answers
    → InFront seen c (λ log. AreAnswers log s answers)
answers_at law seen c s answers legal h = λ log size front.
    subst (λ l. AreAnswers l s answers)
    (splits h.log log (omega (arith, h.upto, size)) (λ p x y i j. holds_agree law seen p x y legal (h.front p x i) (front p y j)))
    (answers-longer h.log (drop (length h.log) log) s answers h.are)
