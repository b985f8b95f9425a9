-- The lines of a run: how many of a session's were logged before each, and in which phases.
use Rattle.std.proofs.Common.{◌≡◌, refl, sym, ap, ◌∙◌, subst, ℕ, zero, suc, ◌+◌, ◌<◌, ◌≤◌, ◌==◌, ◌&&◌, Bool, true, false, cond, List, [], ◌∷◌, ◌++◌, Some, take, count_by, slice_get, nat_le, arith, append_assoc, append-nil, eqb-true, eq-eqb, leb-true}
use Rattle.std.specs.List.{AllByRecursion, list_any}
use Rattle.std.proofs.lemmas.Bool.{and_parts, and_from, and_right, or_left, or_right}
use Rattle.std.proofs.lemmas.List.Sums.{sum_by-cons}
use Rattle.table_core.specs.declared.command.Command.{Command}
use Rattle.script_text.specs.declared.line.Session.{Session}
use Rattle.script_text.specs.declared.asks.NamedLine.{NamedLine}
use Rattle.script_text.specs.declared.asks.Asks.{Asks}
use Rattle.script_text.specs.declared.asks.Asks.TheVariants as asks
use Rattle.fitting_run.specs.Lines.{is_of, logs_for, has_rank, are_ranked, are_in_phase}
use Rattle.run_laws.specs.Ended.{session_in, IsAtHome}
use Rattle.node_course.specs.Script.{AreLines, BeginsAt, asked_by, logs_at}
use Rattle.node_course.specs.Desks.{LogsBefore}

-- Counting the first of a list

module _ {A : Type 0} (p : A → Bool) where
  pub count-cons : (x : A) (xs : List A) → count_by p (x ∷ xs) ≡ cond (p x) 1 0 + count_by p xs
  count-cons x xs = sum_by-cons (λ y. cond (p y) 1 0) x xs

  count-suc : (xs : List A) (i : ℕ) (x : A) → slice_get xs i ≡ Some x → count_by p (take (suc i) xs) ≡ count_by p (take i xs) + cond (p x) 1 0
  count-suc [] i x at = absurd (cc)
  count-suc (y ∷ ys) zero x at =
      let same : y ≡ x = cc in
      let e : cond (p y) 1 0 ≡ cond (p x) 1 0 = ap {B = ℕ} (λ z. cond (p z) 1 0) same in
      let a = count-cons y [] in
      omega (arith, a, e)
  count-suc (y ∷ ys) (suc i) x at =
      let a = count-cons y (take (suc i) ys) in
      let b = count-cons y (take i ys) in
      let rest = count-suc ys i x at in
      omega (arith, a, b, rest)

  -- one more
  pub count_next : (xs : List A) (i : ℕ) (x : A) → slice_get xs i ≡ Some x → count_by p (take (i + 1) xs) ≡ count_by p (take i xs) + cond (p x) 1 0
  count_next xs i x at = let e : i + 1 ≡ suc i = omega arith in ap (λ k. count_by p (take k xs)) e ∙ count-suc xs i x at

  pub count_more : (xs : List A) (i j : ℕ) → i ≤ j → count_by p (take i xs) ≤ count_by p (take j xs)
  count_more [] i j low = let a : count_by p (take i []) ≡ 0 = none i in let b : count_by p (take j []) ≡ 0 = none j in omega arith
    where
      none : (k : ℕ) → count_by p (take k []) ≡ 0
      none zero = refl
      none (suc k) = refl
  count_more (x ∷ xs) zero j low = omega arith
  count_more (x ∷ xs) (suc i) zero low = absurd (omega arith)
  count_more (x ∷ xs) (suc i) (suc j) low =
      let a = count-cons x (take i xs) in
      let b = count-cons x (take j xs) in
      let rest = count_more xs i j (omega arith) in
      omega (arith, a, b, rest)

  -- one that is counted behind the first ones
  pub record Between (xs : List A) (from to : ℕ) : Type 0 where
    pub at : ℕ
    pub one : A
    pub is : slice_get xs at ≡ Some one
    pub least : from ≤ at
    pub most : at < to
    pub counted : p one ≡ true

  behind : (x : A) (xs : List A) (from from' to : ℕ) → from' ≤ suc from → Between xs from to → Between (x ∷ xs) from' (suc to)
  behind x xs from from' to low b = record {
    at = suc b.at;
    one = b.one;
    is = b.is;
    least = omega (arith, b.least, low);
    most = omega (arith, b.most);
    counted = b.counted;
  }

  pub counted_between : (xs : List A) (from to : ℕ) → count_by p (take from xs) < count_by p (take to xs) → Between xs from to
  counted_between [] from to more = absurd (let a = none from in let b = none to in omega arith)
    where
      none : (k : ℕ) → count_by p (take k []) ≡ 0
      none zero = refl
      none (suc k) = refl
  counted_between (x ∷ xs) from zero more = absurd (omega arith)
  counted_between (x ∷ xs) zero (suc to) more = by (p x) refl (λ low. counted_between xs zero to low)
    where
      by : (b : Bool) → p x ≡ b → (count_by p (take zero xs) < count_by p (take to xs) → Between xs zero to) → Between (x ∷ xs) zero (suc to)
      by true e rest = record { at = zero; one = x; is = refl; least = omega arith; most = omega arith; counted = e }
      by false e rest =
          let a = count-cons x (take to xs) in
          let no = ap {B = ℕ} (λ b. cond b 1 0) e in
          behind x xs zero zero to (omega arith) (rest (omega (arith, a, no, more)))
  counted_between (x ∷ xs) (suc from) (suc to) more =
      let a = count-cons x (take from xs) in
      let b = count-cons x (take to xs) in
      behind x xs from (suc from) to (omega arith) (counted_between xs from to (omega (arith, a, b, more)))

  pub any_before : (xs : List A) (i j : ℕ) (x : A) → slice_get xs j ≡ Some x → j < i → p x ≡ true → list_any p (take i xs) ≡ true
  any_before [] i j x at low yes' = absurd (cc)
  any_before (y ∷ ys) zero j x at low yes' = absurd (omega arith)
  any_before (y ∷ ys) (suc i) zero x at low yes' = let same : y ≡ x = cc in or_left (p y) (list_any p (take i ys)) (ap p same ∙ yes')
  any_before (y ∷ ys) (suc i) (suc j) x at low yes' = or_right (p y) (list_any p (take i ys)) (any_before ys i j x at (omega arith) yes')

pub at_get : {A : Type 0} (P : A → Type 0) (xs : List A) (i : ℕ) (x : A) → AllByRecursion P xs → slice_get xs i ≡ Some x → P x
at_get P [] i x h at = absurd (cc)
at_get P (y ∷ ys) zero x h at = let same : y ≡ x = cc in subst P same h.0
at_get P (y ∷ ys) (suc i) x h at = at_get P ys i x h.1 at

-- Sessions

pub of_session : (s : ℕ) (a : Asks) → is_of s a ≡ true → session_in a ≡ s
of_session s (asks.Logged t r c) e = eqb-true t.id s e
of_session s (asks.Look t q) e = absurd (cc)
of_session s (asks.Admin a) e = absurd (cc)

-- a line of the session is at its home
pub of_home : (home : ℕ → ℕ) (node s : ℕ) (a : Asks) → IsAtHome home node a → is_of s a ≡ true → node ≡ home s
of_home home node s (asks.Logged t r c) at e = at ∙ ap home (eqb-true t.id s e)
of_home home node s (asks.Look t q) at e = absurd (cc)
of_home home node s (asks.Admin a) at e = absurd (cc)

-- a session's lines are logged at its home
logs_home : (home : ℕ → ℕ) (s : ℕ) (l : NamedLine) → IsAtHome home l.node l.asks → logs_at (home s) s l ≡ logs_for s l
logs_home home s l at = by (logs_for s l) refl
  where
    by : (b : Bool) → logs_for s l ≡ b → logs_at (home s) s l ≡ logs_for s l
    by true e = and_from (l.node == home s) (logs_for s l) (eq-eqb l.node (home s) (of_home home l.node s l.asks at e)) e ∙ sym e
    by false e = and_right (l.node == home s) (logs_for s l) e ∙ sym e

count_home : (home : ℕ → ℕ) (s : ℕ) (lines : List NamedLine) (i : ℕ) → AllByRecursion (λ l. IsAtHome home l.node l.asks) lines → asked_by lines (home s) s i ≡ count_by (logs_for s) (take i lines)
count_home home s [] zero h = refl
count_home home s [] (suc i) h = refl
count_home home s (l ∷ lines) zero h = refl
count_home home s (l ∷ lines) (suc i) h =
    let a = count-cons (logs_at (home s) s) l (take i lines) in
    let b = count-cons (logs_for s) l (take i lines) in
    let e : cond (logs_at (home s) s l) 1 0 ≡ cond (logs_for s l) 1 0 = ap {B = ℕ} (λ b. cond b 1 0) (logs_home home s l h.0) in
    let rest = count_home home s lines i h.1 in
    omega (arith, a, b, e, rest)

rank_at : (before : List NamedLine) (a : Asks) (s : Session) (r : ℕ) (c : Command) → a ≡ asks.Logged s r c → has_rank before a ≡ true → r ≡ count_by (logs_for s.id) before + 1
rank_at before a s r c is e = eqb-true r (count_by (logs_for s.id) before + 1) (ap (has_rank before) (sym is) ∙ e)

ranked_at : (before lines : List NamedLine) (i : ℕ) (l : NamedLine) (s : Session) (r : ℕ) (c : Command) → are_ranked before lines ≡ true → slice_get lines i ≡ Some l → l.asks ≡ asks.Logged s r c
    → r ≡ count_by (logs_for s.id) (before ++ take i lines) + 1
ranked_at before [] i l s r c e at is = absurd (cc)
ranked_at before (m ∷ lines) zero l s r c e at is =
    let h = and_parts (has_rank before m.asks) (are_ranked (before ++ m ∷ []) lines) e in
    let same : m ≡ l = cc in
    rank_at before m.asks s r c (ap (λ (x : NamedLine). x.asks) same ∙ is) h.0 ∙ ap (λ xs. count_by (logs_for s.id) xs + 1) (sym (append-nil before))
ranked_at before (m ∷ lines) (suc i) l s r c e at is =
    let h = and_parts (has_rank before m.asks) (are_ranked (before ++ m ∷ []) lines) e in
    ranked_at (before ++ m ∷ []) lines i l s r c h.1 at is ∙ ap (λ xs. count_by (logs_for s.id) xs + 1) (append_assoc before (m ∷ []) (take i lines))

-- Phases

phase_low : (phase : ℕ) (lines : List NamedLine) (i : ℕ) (l : NamedLine) → are_in_phase phase lines ≡ true → slice_get lines i ≡ Some l → phase ≤ l.phase
phase_low phase [] i l e at = absurd (cc)
phase_low phase (m ∷ lines) zero l e at =
    let h = and_parts (nat_le phase m.phase) (are_in_phase m.phase lines) e in
    let same : m ≡ l = cc in
    let low = leb-true phase m.phase h.0 in
    omega (arith, low, ap (λ (x : NamedLine). x.phase) same)
phase_low phase (m ∷ lines) (suc i) l e at =
    let h = and_parts (nat_le phase m.phase) (are_in_phase m.phase lines) e in
    let low = leb-true phase m.phase h.0 in
    let rest = phase_low m.phase lines i l h.1 at in
    omega arith

phases_rise : (phase : ℕ) (lines : List NamedLine) (i j : ℕ) (l m : NamedLine) → are_in_phase phase lines ≡ true → slice_get lines i ≡ Some l → slice_get lines j ≡ Some m → i ≤ j → l.phase ≤ m.phase
phases_rise phase [] i j l m e at then' low = absurd (cc)
phases_rise phase (k ∷ lines) zero zero l m e at then' low =
    let a : k ≡ l = cc in
    let b : k ≡ m = cc in
    omega (arith, ap (λ (x : NamedLine). x.phase) a, ap (λ (x : NamedLine). x.phase) b)
phases_rise phase (k ∷ lines) zero (suc j) l m e at then' low =
    let a : k ≡ l = cc in
    let h = and_parts (nat_le phase k.phase) (are_in_phase k.phase lines) e in
    let rest = phase_low k.phase lines j m h.1 then' in
    omega (arith, ap (λ (x : NamedLine). x.phase) a, rest)
phases_rise phase (k ∷ lines) (suc i) zero l m e at then' low = absurd (omega arith)
phases_rise phase (k ∷ lines) (suc i) (suc j) l m e at then' low =
    let h = and_parts (nat_le phase k.phase) (are_in_phase k.phase lines) e in
    phases_rise k.phase lines i j l m h.1 at then' (omega arith)

module _ (lines : List NamedLine) (home : ℕ → ℕ) (nodes : ℕ) (are : AreLines lines home nodes) where
  -- no line's phase is below that of a line before it
  pub phase_before : (i j : ℕ) (l m : NamedLine) → slice_get lines i ≡ Some l → slice_get lines j ≡ Some m → i ≤ j → l.phase ≤ m.phase
  phase_before i j l m at then' low = phases_rise 0 lines i j l m are.phases at then' low

  pub asked_home : (s i : ℕ) → asked_by lines (home s) s i ≡ count_by (logs_for s) (take i lines)
  asked_home s i = count_home home s lines i are.at_home

  -- so many of the session's lines before it are logged
  pub asked_there : (n i s : ℕ) (l : NamedLine) (a : Asks) → slice_get lines i ≡ Some l → l.node ≡ n → l.asks ≡ a → (IsAtHome home l.node a → l.node ≡ home s) → asked_by lines n s i ≡ count_by (logs_for s) (take i lines)
  asked_there n i s l a at node is home_is =
      let there : n ≡ home s = sym node ∙ home_is (subst (IsAtHome home l.node) is (at_get (λ (m : NamedLine). IsAtHome home m.node m.asks) lines i l are.at_home at)) in
      ap (λ m. asked_by lines m s i) there ∙ asked_home s i

  -- a command's rank is their number and one
  pub rank_is : (n i : ℕ) (l : NamedLine) (s : Session) (r : ℕ) (c : Command) → slice_get lines i ≡ Some l → l.node ≡ n → l.asks ≡ asks.Logged s r c → r ≡ asked_by lines n s.id i + 1
  rank_is n i l s r c at node is =
      ranked_at [] lines i l s r c are.ranked at is ∙ ap (λ k. k + 1) (sym (asked_there n i s.id l (asks.Logged s r c) at node is (λ own. own)))

  -- where the session logged a line since the phase began, it did so in the phase
  pub logs_before : (n from i s phase : ℕ) (l : NamedLine) → BeginsAt lines from phase → slice_get lines i ≡ Some l → l.phase ≡ phase → asked_by lines n s from < asked_by lines n s i → LogsBefore lines i s phase
  logs_before n from i s phase l begins at own more =
      let b = counted_between (logs_at n s) lines from i more in
      let low = begins.behind b.at b.one b.is b.least in
      let high = phase_before b.at i b.one l b.is at (omega (arith, b.most)) in
      let same : b.one.phase ≡ phase = omega (arith, low, high, own) in
      let logs = and_parts (b.one.node == n) (logs_for s b.one) b.counted in
      any_before (λ (m : NamedLine). logs_for s m && (m.phase == phase)) lines i b.at b.one b.is b.most (and_from (logs_for s b.one) (b.one.phase == phase) logs.1 (eq-eqb b.one.phase phase same))

-- One more line

pub asked_next : (lines : List NamedLine) (n s i : ℕ) (l : NamedLine) → slice_get lines i ≡ Some l → asked_by lines n s (i + 1) ≡ asked_by lines n s i + cond (logs_at n s l) 1 0
asked_next lines n s i l at = count_next (logs_at n s) lines i l at

pub asked_more : (lines : List NamedLine) (n s i j : ℕ) → i ≤ j → asked_by lines n s i ≤ asked_by lines n s j
asked_more lines n s i j low = count_more (logs_at n s) lines i j low

-- a command of the session is asked by its line
pub asked_one : (lines : List NamedLine) (n i : ℕ) (l : NamedLine) (s : Session) (r : ℕ) (c : Command) → slice_get lines i ≡ Some l → l.node ≡ n → l.asks ≡ asks.Logged s r c → asked_by lines n s.id (i + 1) ≡ asked_by lines n s.id i + 1
asked_one lines n i l s r c at node is =
    let own = and_from (l.node == n) (logs_for s.id l) (eq-eqb l.node n node) (ap (is_of s.id) is ∙ eq-eqb s.id s.id refl) in
    asked_next lines n s.id i l at ∙ ap (λ b. asked_by lines n s.id i + cond b 1 0) own

-- none is by a line that isn't of the session, or looks
pub asked_none : (lines : List NamedLine) (n s i : ℕ) (l : NamedLine) → slice_get lines i ≡ Some l → logs_for s l ≡ false → asked_by lines n s (i + 1) ≡ asked_by lines n s i
asked_none lines n s i l at other =
    let e = ap {B = ℕ} (λ b. cond b 1 0) (and_right (l.node == n) (logs_for s l) other) in
    let next = asked_next lines n s i l at in
    omega (arith, e, next)
