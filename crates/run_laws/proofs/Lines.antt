-- A session's logged lines have rising ranks, so two that log one rank are one line.
use Rattle.std.proofs.Common.{◌≡◌, refl, sym, ap, ◌∙◌, subst, inl, inr, ℕ, ◌+◌, ◌<◌, ◌≤◌, true, cond, List, [], ◌∷◌, ◌++◌, arith, count_by, eqb-true, eq-eqb}
use Rattle.std.specs.List.{AllByRecursion}
use Rattle.std.proofs.lemmas.Bool.{and_parts}
use Rattle.std.proofs.lemmas.List.Sums.{sum_by_push}
use Rattle.table_core.specs.declared.command.Command.{Command}
use Rattle.script_text.specs.declared.line.Session.{Session}
use Rattle.script_text.specs.declared.asks.NamedLine.{NamedLine}
use Rattle.script_text.specs.declared.asks.Asks.{Asks}
use Rattle.script_text.specs.declared.asks.Asks.TheVariants as asks
use Rattle.fitting_run.specs.Lines.{is_of, logs_for, has_rank, are_ranked}
use Rattle.log_laws.specs.Order.{EachPair}
use Rattle.log_laws.proofs.Pairs.{all-imply}
use Rattle.run_laws.proofs.Members.{Among}
use Rattle.run_laws.proofs.Pairs.{pair-at}

-- its rank is above this number of its session's
abbrev IsAbove : (ℕ → ℕ) → Asks → Type 0
IsAbove logged (asks.Logged s r c) = logged s.id < r
IsAbove logged (asks.Look s q) = Unit {0}
IsAbove logged (asks.Admin a) = Unit {0}

-- of two lines that log for one session the later has the higher rank
abbrev pub RankRises : Asks → Asks → Type 0
RankRises (asks.Logged s r c) (asks.Logged t u d) = s.id ≡ t.id → r < u
RankRises a b = Unit {0}

abbrev logged_in : List NamedLine → ℕ → ℕ
logged_in before s = count_by (logs_for s) before

above-fewer : (few many : ℕ → ℕ) (a : Asks) → ((s : ℕ) → few s ≤ many s) → IsAbove many a → IsAbove few a
above-fewer few many (asks.Logged s r c) le h = let l = le s.id in omega (arith, h)
above-fewer few many (asks.Look s q) le h = tt
above-fewer few many (asks.Admin a) le h = tt

ranked-above : (before : List NamedLine) (a : Asks) → has_rank before a ≡ true → IsAbove (logged_in before) a
ranked-above before (asks.Logged s r c) e = let is = eqb-true r (logged_in before s.id + 1) e in omega arith
ranked-above before (asks.Look s q) e = tt
ranked-above before (asks.Admin a) e = tt

ranks-above : (before ls : List NamedLine) → are_ranked before ls ≡ true → AllByRecursion (λ l. IsAbove (logged_in before) l.asks) ls
ranks-above before [] e = tt
ranks-above before (l ∷ ls) e =
    let h = and_parts (has_rank before l.asks) (are_ranked (before ++ l ∷ []) ls) e in (
      ranked-above before l.asks h.0,
      all-imply (λ (m : NamedLine). IsAbove (logged_in (before ++ l ∷ [])) m.asks) (λ (m : NamedLine). IsAbove (logged_in before) m.asks) ls
          (λ m k. above-fewer (logged_in before) (logged_in (before ++ l ∷ [])) m.asks more k) (ranks-above (before ++ l ∷ []) ls h.1),
    )
  where
    more : (s : ℕ) → logged_in before s ≤ logged_in (before ++ l ∷ []) s
    more s = omega (arith, sum_by_push (λ m. cond (logs_for s m) 1 0) before l)

-- a line, and one behind it
rank-rises : (before : List NamedLine) (l : NamedLine) (a b : Asks) → l.asks ≡ a → has_rank before a ≡ true → IsAbove (logged_in (before ++ l ∷ [])) b → RankRises a b
rank-rises before l (asks.Logged s r c) (asks.Logged t u d) is e h = λ same.
    let rank = eqb-true r (logged_in before s.id + 1) e in
    let count = sum_by_push (λ m. cond (logs_for t.id m) 1 0) before l in
    let own : ◌≡◌ {A = ℕ} (cond (logs_for t.id l) 1 0) 1 = ap (λ a. cond (is_of t.id a) 1 0) is ∙ ap (λ b. cond b 1 0) (eq-eqb s.id t.id same) in
    let here : logged_in before s.id ≡ logged_in before t.id = ap (logged_in before) same in
    omega (arith, h)
rank-rises before l (asks.Logged s r c) (asks.Look t q) is e h = tt
rank-rises before l (asks.Logged s r c) (asks.Admin a) is e h = tt
rank-rises before l (asks.Look s q) b is e h = tt
rank-rises before l (asks.Admin a) b is e h = tt

pub ranks-rise_in : (before ls : List NamedLine) → are_ranked before ls ≡ true → EachPair (λ l m. RankRises l.asks m.asks) ls
ranks-rise_in before [] e = tt
ranks-rise_in before (l ∷ ls) e =
    let h = and_parts (has_rank before l.asks) (are_ranked (before ++ l ∷ []) ls) e in (
      all-imply (λ (m : NamedLine). IsAbove (logged_in (before ++ l ∷ [])) m.asks) (λ (m : NamedLine). RankRises l.asks m.asks) ls
          (λ m k. rank-rises before l l.asks m.asks refl h.0 k) (ranks-above (before ++ l ∷ []) ls h.1),
      ranks-rise_in (before ++ l ∷ []) ls h.1,
    )

same-command : (a : Asks) (s t : Session) (r u : ℕ) (c d : Command) → a ≡ asks.Logged s r c → a ≡ asks.Logged t u d → c ≡ d
same-command a s t r u c d e f = let same : asks.Logged s r c ≡ asks.Logged t u d = sym e ∙ f in cc

-- two lines that log one rank log one command
pub one-line : (ls : List NamedLine) (l m : NamedLine) (s t : Session) (r u : ℕ) (c d : Command) → are_ranked [] ls ≡ true → Among ls l → Among ls m
    → l.asks ≡ asks.Logged s r c → m.asks ≡ asks.Logged t u d → s.id ≡ t.id → r ≡ u → c ≡ d
one-line ls l m s t r u c d e p q is it session rank =
    elim (pair-at (λ l m. RankRises l.asks m.asks) ls l m (ranks-rise_in [] ls e) p q) [
      | inl same ↦ same-command m.asks s t r u c d (ap (λ (n : NamedLine). n.asks) (sym same) ∙ is) it
      | inr apart ↦ elim apart [
        | inl low ↦ absurd (let less : r < u = subst (RankRises (asks.Logged s r c)) it (subst (λ a. RankRises a m.asks) is low) session in omega arith)
        | inr high ↦ absurd (let less : u < r = subst (RankRises (asks.Logged t u d)) is (subst (λ a. RankRises a l.asks) it high) (sym session) in omega arith)
      ]
    ]
