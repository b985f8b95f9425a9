-- The acts of a log, counted: those of a session have its first ranks, in order.
use Rattle.std.proofs.Common.{◌≡◌, refl, ap, ◌∙◌, ℕ, ◌+◌, ◌<◌, ◌≤◌, true, cond, List, [], ◌∷◌, arith, nat_le, ◌==◌, ◌&&◌, le-leb, eq-eqb}
use Rattle.std.specs.List.{AllByRecursion, list_all}
use Rattle.std.specs.FinMap as finmap
use Rattle.std.proofs.lemmas.Bool.{and_from}
use Rattle.std.proofs.lemmas.List.Sums.{sum_by-cons}
use Rattle.delos_types.specs.declared.entry.Entry.{Entry}
use Rattle.engine_api.specs.declared.act.Act.{Act}
use Rattle.engine_api.specs.Acted.{asked_in}
use Rattle.engine_api.specs.Order.{gap_from, acted_after}
use Rattle.log_laws.specs.State.{acts_in}
use Rattle.log_laws.proofs.Replies.{NextTo, after, gaps, replied_next, acted_follow}
use Rattle.log_laws.specs.Order.{EachPair}
use Rattle.log_laws.proofs.Pairs.{all-imply}
use Rattle.fitting_run.specs.Turns.{number_of, next_rank, has_first_ranks}

-- of a session the earlier act has the lower rank
abbrev pub RanksRise : Act → Act → Type 0
RanksRise a b = a.session ≡ b.session → a.rank < b.rank

-- where the acts that follow have each the next rank of its session
module _ (next' : ℕ → ℕ) where
  counted : (next : ℕ → ℕ) (acts : List Act) → NextTo next acts next' → (s : ℕ) → next' s ≡ next s + number_of s acts
  counted next [] n s = n s ∙ (let e : next s ≡ next s + 0 = omega arith in e)
  counted next (a ∷ acts) n s =
      let rest = counted (after next a.session) acts n.1 s in
      omega (arith, sum_by-cons (λ (b : Act). cond (b.session == s) 1 0) a acts)

  from_next : (next : ℕ → ℕ) (acts : List Act) → NextTo next acts next' → AllByRecursion (λ a. next a.session ≤ a.rank) acts
  from_next next [] n = tt
  from_next next (a ∷ acts) n =
      (omega (arith, n.0), all-imply (λ (b : Act). after next a.session b.session ≤ b.rank) (λ (b : Act). next b.session ≤ b.rank) acts (λ b low. omega (arith, low)) (from_next (after next a.session) acts n.1))

  own-one : (s t : ℕ) → s ≡ t → ◌≡◌ {A = ℕ} (cond (s == t) 1 0) 1
  own-one s t e = ap (λ b. cond b 1 0) (eq-eqb s t e)

  below_next : (next : ℕ → ℕ) (acts : List Act) → NextTo next acts next' → AllByRecursion (λ a. a.rank < next' a.session) acts
  below_next next [] n = tt
  below_next next (a ∷ acts) n =
      let up = counted (after next a.session) acts n.1 a.session in
      let own = own-one a.session a.session refl in
      (omega (arith, n.0), below_next (after next a.session) acts n.1)

  rising : (next : ℕ → ℕ) (acts : List Act) → NextTo next acts next' → EachPair RanksRise acts
  rising next [] n = tt
  rising next (a ∷ acts) n =
      (all-imply (λ (b : Act). after next a.session b.session ≤ b.rank) (RanksRise a) acts above (from_next (after next a.session) acts n.1), rising (after next a.session) acts n.1)
    where
      above : (b : Act) → after next a.session b.session ≤ b.rank → RanksRise a b
      above b low same =
          let own = own-one a.session b.session same in
          let here : a.rank ≡ next b.session = n.0 ∙ ap next same in
          omega (arith, low)

log_next : (log : List Entry) → NextTo (λ s. 1) (acts_in log) (gaps (asked_in 0 log))
log_next log = replied_next finmap.empty (gaps []) (gaps (asked_in 0 log)) (acted_after (λ s. 1) [] (asked_in 0 log)) (acted_follow [] (asked_in 0 log))

pub ranks-rise : (log : List Entry) → EachPair RanksRise (acts_in log)
ranks-rise log = rising (gaps (asked_in 0 log)) (λ s. 1) (acts_in log) (log_next log)

-- the next rank of each session is the one that is missing
pub next-is_gap : (log : List Entry) (s : ℕ) → next_rank (acts_in log) s ≡ gap_from (asked_in 0 log) s 1
next-is_gap log s =
    let all = counted (gaps (asked_in 0 log)) (λ s. 1) (acts_in log) (log_next log) s in
    omega arith

pub first-ranks : (log : List Entry) → has_first_ranks (acts_in log) ≡ true
first-ranks log = tests (acts_in log) (from_next to (λ s. 1) (acts_in log) (log_next log)) (below_next to (λ s. 1) (acts_in log) (log_next log))
  where
    to : ℕ → ℕ
    to = gaps (asked_in 0 log)

    tests : (xs : List Act) → AllByRecursion (λ a. 1 ≤ a.rank) xs → AllByRecursion (λ (a : Act). a.rank < gap_from (asked_in 0 log) a.session 1) xs → list_all (λ a. nat_le 1 a.rank && nat_le a.rank (number_of a.session (acts_in log))) xs ≡ true
    tests [] low high = refl
    tests (a ∷ xs) low high =
        let all = next-is_gap log a.session in
        let upto : a.rank ≤ number_of a.session (acts_in log) = omega (arith, high.0) in
        and_from _ _ (and_from _ _ (le-leb _ _ low.0) (le-leb _ _ upto)) (tests xs low.1 high.1)
