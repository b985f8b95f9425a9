-- What the desks have asked and sent, by the lines.
use Rattle.std.proofs.Common.{◌≡◌, refl, sym, ap, ◌∙◌, ℕ, zero, suc, ◌+◌, ◌<◌, ◌≤◌, cond, Bool, true, false, List, [], ◌∷◌, Option, Some, length, arith}
use Rattle.std.specs.Prelude.{◌==◌, ◌&&◌, nat_lt, count_by, take, slice_get}
use Rattle.std.proofs.lemmas.Bool.{and_parts, and_from, lt-ltb}
use Rattle.std.proofs.lemmas.Option.{slice_get_within}
use Rattle.std.proofs.lemmas.List.Sums.{count_by-le-length, sum_by-cons}
use Rattle.std.proofs.lemmas.List.{length-take-le}
use Rattle.legal_journal.specs.Law.{Law}
use Rattle.replica_api.specs.Replica.{Meaning}
use Rattle.script_text.specs.declared.asks.NamedLine.{NamedLine}
use Rattle.script_text.specs.declared.asks.Asks.{Asks}
use Rattle.script_text.specs.declared.asks.Asks.TheVariants as asks
use Rattle.fitting_run.specs.Lines.{logs_for}
use Rattle.turn_scopes.specs.Seats.{SeatView}
use Rattle.node_lines.specs.declared.desk.Desk.{Desk}
use Rattle.node_lines.specs.declared.lines.Looked.{Looked}
use Rattle.node_course.specs.Script.{AreLines, BeginsAt, logs_at, asked_by, asked_before}
use Rattle.node_course.specs.Moments.{NodeCourse}
use Rattle.node_course.specs.Workers.{NodeAt, IsNext}
use Rattle.node_course.proofs.Lines.{rank_is}

-- fewer than there are lines
few_asked : (lines : List NamedLine) (n s i : ℕ) (l : NamedLine) → slice_get lines i ≡ Some l → length lines ≤ 20000 → asked_by lines n s i < 20000
few_asked lines n s i l at few =
    let low = slice_get_within lines i l at in
    let most = count_by-le-length (logs_at n s) (take i lines) in
    let size = length-take-le i lines (omega (arith, low)) in
    omega (arith, low, few, most, size)

-- the first lines are of earlier phases
pub asked_early : (lines : List NamedLine) (n s from phase : ℕ) → BeginsAt lines from phase → asked_by lines n s from ≤ asked_before lines s phase
asked_early lines n s from phase b = go lines from b.before
  where
    one : (l : NamedLine) → (logs_at n s l ≡ true → (logs_for s l && nat_lt l.phase phase) ≡ true) → cond (logs_at n s l) 1 0 ≤ cond (logs_for s l && nat_lt l.phase phase) 1 0
    one l h = by (logs_at n s l) (logs_for s l && nat_lt l.phase phase) h
      where
        by : (p q : Bool) → (p ≡ true → q ≡ true) → cond p 1 0 ≤ cond q 1 0
        by false q h = omega arith
        by true q h = let e : ◌≡◌ {A = ℕ} (cond q 1 0) 1 = ap (λ b. cond b 1 0) (h refl) in omega (arith, e)

    go : (ls : List NamedLine) (k : ℕ) → ((i : ℕ) (l : NamedLine) → slice_get ls i ≡ Some l → i < k → l.phase < phase) → count_by (logs_at n s) (take k ls) ≤ count_by (λ l. logs_for s l && nat_lt l.phase phase) ls
    go ls zero h = omega arith
    go [] (suc k) h = omega arith
    go (l ∷ ls) (suc k) h =
        let rest = go ls k (λ i m is low. h (suc i) m is (omega (arith, low))) in
        let here = one l (λ yes'. and_from (logs_for s l) (nat_lt l.phase phase) (and_parts (l.node == n) (logs_for s l) yes').1 (lt-ltb l.phase phase (h zero l refl (omega arith)))) in
        omega (arith, rest, here, sum_by-cons (λ (m : NamedLine). cond (logs_at n s m) 1 0) l (take k ls), sum_by-cons (λ (m : NamedLine). cond (logs_for s m && nat_lt m.phase phase) 1 0) l ls)

module _ (law : Law) (meaning : Meaning) (lines : List NamedLine) (home : ℕ → ℕ) (nodes : ℕ) (c : NodeCourse) (looks : List (Option Looked)) where
  pub line_next : (n from i done : ℕ) (line : NamedLine) (seat : SeatView) (desks : List Desk) → AreLines lines home nodes → slice_get lines i ≡ Some line → line.node ≡ n
      → NodeAt law meaning lines home nodes c looks n from i done seat desks → IsNext desks line.asks
  line_next n from i done line seat desks are at own w = by line.asks refl
    where
      by : (a : Asks) → line.asks ≡ a → IsNext desks a
      by (asks.Logged s r command) is = λ d there.
          let h = w.each s.id d there in
          let few = few_asked lines n s.id i line at are.few in
          record {
            few = omega (arith, h.asked, few);
            rank = rank_is lines home nodes are n i line s r command at own is ∙ ap (λ k. k + 1) (sym h.asked);
          }
      by (asks.Look s query) is = tt
      by (asks.Admin a) is = tt
