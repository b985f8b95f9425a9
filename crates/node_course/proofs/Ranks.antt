-- Which line logs a rank of a session.
use Rattle.std.proofs.Common.{◌≡◌, refl, sym, ap, ◌∙◌, ⊎_elim, ℕ, zero, suc, ◌+◌, ◌<◌, ◌≤◌, ◌==◌, Bool, true, false, cond, List, [], ◌∷◌, Some, take, count_by, slice_get, arith, eqb-true, eq-eqb}
use Rattle.std.proofs.lemmas.Bool.{and_parts, and_from, cases_lt}
use Rattle.script_text.specs.declared.asks.NamedLine.{NamedLine}
use Rattle.script_text.specs.declared.asks.Asks.{Asks}
use Rattle.script_text.specs.declared.asks.Asks.TheVariants as asks
use Rattle.fitting_run.specs.Lines.{is_of, logs_for}
use Rattle.run_laws.specs.Ended.{IsAtHome, rank_in}
use Rattle.node_course.specs.Script.{AreLines, asked_by, logs_at}
use Rattle.node_course.specs.Desks.{LogsIn}
use Rattle.node_course.proofs.Script.{asked-yes}
use Rattle.node_course.proofs.Lines.{asked_more, at_get, count-cons, of_home, of_session, phase_before, rank_is}

module _ {A : Type 0} (p : A → Bool) where
  -- one that is counted, behind so many others
  pub record Reached (xs : List A) (to k : ℕ) : Type 0 where
    pub at : ℕ
    pub one : A
    pub is : slice_get xs at ≡ Some one
    pub most : at < to
    pub counted : p one ≡ true
    pub before : count_by p (take at xs) ≡ k

  one_later : (x : A) (xs : List A) (to j k : ℕ) → k ≡ cond (p x) 1 0 + j → Reached xs to j → Reached (x ∷ xs) (suc to) k
  one_later x xs to j k more r = record {
    at = suc r.at;
    one = r.one;
    is = r.is;
    most = omega (arith, r.most);
    counted = r.counted;
    before = let a = count-cons p x (take r.at xs) in omega (arith, a, r.before, more);
  }

  pub reaches : (xs : List A) (to k : ℕ) → k < count_by p (take to xs) → Reached xs to k
  reaches [] to k low = absurd (let z = none to in omega (arith, low, z))
    where
      none : (j : ℕ) → count_by p (take j []) ≡ 0
      none zero = refl
      none (suc j) = refl
  reaches (x ∷ xs) zero k low = absurd (omega (arith, low))
  reaches (x ∷ xs) (suc to) k low = by k low (p x) refl (λ j below. reaches xs to j below)
    where
      by : (k : ℕ) → k < count_by p (take (suc to) (x ∷ xs)) → (b : Bool) → p x ≡ b → ((j : ℕ) → j < count_by p (take to xs) → Reached xs to j) → Reached (x ∷ xs) (suc to) k
      by zero low true e rest = record { at = zero; one = x; is = refl; most = omega arith; counted = e; before = refl }
      by (suc j) low true e rest =
          let a = count-cons p x (take to xs) in
          let one : cond (p x) 1 0 ≡ 1 = ap {B = ℕ} (λ b. cond b 1 0) e in
          one_later x xs to j (suc j) (omega (arith, one)) (rest j (omega (arith, a, one, low)))
      by k low false e rest =
          let a = count-cons p x (take to xs) in
          let none : cond (p x) 1 0 ≡ 0 = ap {B = ℕ} (λ b. cond b 1 0) e in
          one_later x xs to k k (omega (arith, none)) (rest k (omega (arith, a, none, low)))

module _ (lines : List NamedLine) (home : ℕ → ℕ) (nodes : ℕ) (are : AreLines lines home nodes) where
  -- a line that logs has its rank by those before it
  pub rank_counts : (n i s : ℕ) (l : NamedLine) → slice_get lines i ≡ Some l → l.node ≡ n → logs_for s l ≡ true → rank_in l.asks ≡ asked_by lines n s i + 1
  rank_counts n i s l at node logs = by l.asks refl
    where
      by : (a : Asks) → l.asks ≡ a → rank_in l.asks ≡ asked_by lines n s i + 1
      by (asks.Logged t r c) is =
          let same : t.id ≡ s = of_session s (asks.Logged t r c) (ap (is_of s) (sym is) ∙ logs) in
          ap rank_in is ∙ rank_is lines home nodes are n i l t r c at node is ∙ ap (λ u. asked_by lines n u i + 1) same
      by (asks.Look t q) is = absurd (let none : false ≡ true = ap (is_of s) (sym is) ∙ logs in cc)
      by (asks.Admin a) is = absurd (let none : false ≡ true = ap (is_of s) (sym is) ∙ logs in cc)

  -- a session's logged lines are at its home
  pub node_is_home : (i s : ℕ) (l : NamedLine) → slice_get lines i ≡ Some l → logs_for s l ≡ true → l.node ≡ home s
  node_is_home i s l at logs = of_home home l.node s l.asks (at_get (λ (m : NamedLine). IsAtHome home m.node m.asks) lines i l are.at_home at) logs

  -- where the session asked something, there is its home
  pub home_is : (n s to : ℕ) → 0 < asked_by lines n s to → home s ≡ n
  home_is n s to some =
      let r = reaches (logs_at n s) lines to 0 some in
      let own = and_parts (r.one.node == n) (logs_for s r.one) r.counted in
      sym (node_is_home r.at s r.one r.is own.1) ∙ eqb-true r.one.node n own.0

  -- each rank that was asked is some line's
  pub logs_rank : (n s to k phase : ℕ) → k < asked_by lines n s to → ((i : ℕ) (l : NamedLine) → slice_get lines i ≡ Some l → i < to → l.phase ≤ phase) → LogsIn lines s (k + 1) phase
  logs_rank n s to k phase low early =
      let r = reaches (logs_at n s) lines to k low in
      let own = and_parts (r.one.node == n) (logs_for s r.one) r.counted in
      record {
        at = r.at;
        line = r.one;
        is = r.is;
        logs = own.1;
        rank = rank_counts n r.at s r.one r.is (eqb-true r.one.node n own.0) own.1 ∙ ap (λ j. j + 1) r.before;
        early = early r.at r.one r.is r.most;
      }

  -- no line's rank is above what was asked with it
  pub rank_low : (n i to s : ℕ) (l : NamedLine) → slice_get lines i ≡ Some l → i < to → l.node ≡ n → logs_for s l ≡ true → rank_in l.asks ≤ asked_by lines n s to
  rank_low n i to s l at low node logs =
      let one = asked-yes lines n s i l at (and_from (l.node == n) (logs_for s l) (eq-eqb l.node n node) logs) in
      let more = asked_more lines n s (i + 1) to (omega (arith, low)) in
      let rank = rank_counts n i s l at node logs in
      omega (arith, one, more, rank)

  -- a line of a later phase logs a higher rank
  pub rank_later : (s k phase i : ℕ) (l : NamedLine) → LogsIn lines s k phase → slice_get lines i ≡ Some l → logs_for s l ≡ true → phase < l.phase → k < rank_in l.asks
  rank_later s k phase i l h at logs later = ⊎_elim
      (λ (before : h.at < i).
      let low = rank_low (home s) h.at i s h.line h.is before (node_is_home h.at s h.line h.is h.logs) h.logs in
      let rank = rank_counts (home s) i s l at (node_is_home i s l at logs) logs in
      omega (arith, low, rank, h.rank))
      (λ (behind : i ≤ h.at).
      let up = phase_before lines home nodes are i h.at l h.line at h.is behind in
      absurd (omega (arith, up, later, h.early)))
      (cases_lt h.at i)
