-- Each command acts once: the placed rows are what the log lets act, below the trim and from it on.
use Rattle.std.proofs.Common.{◌≡◌, refl, sym, ap, ◌∙◌, subst, inl, inr, ℕ, ◌+◌, ◌-◌, ◌<◌, ◌≤◌, Bool, true, false, cond, List, [], ◌∷◌, ◌++◌, arith, length, map, take, drop, nat_lt, nat_le, ◌==◌, take-append-drop, length-take-le, ltb-true, ltb-false, lt-ltb, le-leb, eqb-true, eq-eqb, ne_eqb, append-nil, zero, suc, Option, Some, None, filter_map}
use Rattle.std.specs.List.{AllByRecursion, cons_option, list_all}
use Rattle.std.specs.FinMap as finmap
use Rattle.std.proofs.lemmas.Bool.{and_from, and_left, and_right}
use Rattle.std.proofs.lemmas.Bool.Decides.{nat_tests}
use Rattle.std.proofs.lemmas.List.{append_cancel_left}
use Rattle.std.proofs.lemmas.List.Elements.{filter-append}
use Rattle.delos_types.specs.declared.chain.Chain.{Chain}
use Rattle.delos_types.specs.declared.entry.Entry.{Entry}
use Rattle.loglet_api.specs.View.{LogletView}
use Rattle.script_text.specs.declared.asks.NamedLine.{NamedLine}
use Rattle.table_core.specs.Table.{TableMap}
use Rattle.engine_api.specs.declared.act.Act.{Act}
use Rattle.engine_api.specs.Acted.{Asked, act_on, replied, table_after, asked_in, acted_log}
use Rattle.engine_api.specs.Order.{acted_after, is_clean}
use Rattle.engine_api.proofs.Appends.{acted_log-append}
use Rattle.log_laws.specs.State.{acts_in}
use Rattle.fabric_core.specs.Log.{numbers, virtual_log, virtual_log_at, virtual_tail}
use Rattle.script_text.specs.declared.faults.FaultLine.{FaultLine}
use Rattle.fitting_run.specs.declared.told.Told.{Told}
use Rattle.fitting_run.specs.Yard.{Shown}
use Rattle.fitting_run.specs.Tests.{◌⇒◌, each_pair}
use Rattle.fitting_run.specs.declared.answered.Answered.{Answered}
use Rattle.fitting_run.specs.Acts.{ActsOnce, HoldsLines, acts_below, placed_acts}
use Rattle.fitting_run.specs.Fits.{told_of}
use Rattle.fitting_run.specs.Turns.{ActsAreShown, acts_from, asked, next_rank, rises_in_rank, stand_apart}
use Rattle.log_laws.specs.Order.{EachPair, ActsBefore}
use Rattle.log_laws.proofs.Pairs.{all-append, all-imply, filter-all, filter-none}
use Rattle.log_laws.proofs.Acting.{in_order, front}
use Rattle.run_laws.specs.Ended.{Played, RunEnded}
use Rattle.run_laws.proofs.Fronts.{front-acts}
use Rattle.run_laws.proofs.Ranks.{RanksRise, next-is_gap, first-ranks, ranks-rise}
use Rattle.run_laws.proofs.Splitting.{acted-from_clean}
use Rattle.run_laws.proofs.Telling.{tell, told-is}
use Rattle.run_laws.proofs.Placing.{placed-are_acts}
use Rattle.run_laws.proofs.Tests.{implies-from}

-- Two sessions act at different places

apart : (a b : Act) → ActsBefore a b → stand_apart a b ≡ true
apart a b h =
    elim h [
      | inl earlier ↦ elim earlier [
        | inl low ↦ ap (λ t. t ⇒ (a.session == b.session)) (and_left (a.place.pos == b.place.pos) (a.place.sub == b.place.sub) (ne_eqb a.place.pos b.place.pos (λ e. absurd (omega arith))))
        | inr here ↦ ap (λ t. t ⇒ (a.session == b.session)) (and_right (a.place.pos == b.place.pos) (a.place.sub == b.place.sub) (ne_eqb a.place.sub b.place.sub (λ e. absurd (omega (arith, here.1)))))
      ]
      | inr same ↦ implied _ _ (eq-eqb a.session b.session same.1)
    ]
  where
    implied : (t u : Bool) → u ≡ true → (t ⇒ u) ≡ true
    implied true u e = e
    implied false u e = refl

each-apart : (acts : List Act) → EachPair ActsBefore acts → each_pair stand_apart acts ≡ true
each-apart [] h = refl
each-apart (a ∷ acts) h = and_from _ _ (from_one acts h.0) (each-apart acts h.1)
  where
    from_one : (bs : List Act) → AllByRecursion (ActsBefore a) bs → list_all (stand_apart a) bs ≡ true
    from_one [] k = refl
    from_one (b ∷ bs) k = and_from _ _ (apart a b k.0) (from_one bs k.1)

-- The acts below a position, and those from it on

below-filtered : (n : ℕ) (acts : List Act) → AllByRecursion (λ a. nat_lt a.place.pos n ≡ true) (acts_below n acts)
below-filtered n [] = tt
below-filtered n (a ∷ acts) =
    elim (nat_lt a.place.pos n) as (λ t. nat_lt a.place.pos n ≡ t → AllByRecursion (λ b. nat_lt b.place.pos n ≡ true) (cond t (a ∷ acts_below n acts) (acts_below n acts))) [
      | true ↦ λ e. (e, below-filtered n acts)
      | false ↦ λ e. below-filtered n acts
    ] refl

none-below : (n : ℕ) (acts : List Act) → acts_below n acts ≡ [] → AllByRecursion (λ a. nat_lt a.place.pos n ≡ false) acts
none-below n [] e = tt
none-below n (a ∷ acts) e =
    elim (nat_lt a.place.pos n) as (λ t. nat_lt a.place.pos n ≡ t → cond t (a ∷ acts_below n acts) (acts_below n acts) ≡ [] → AllByRecursion (λ b. nat_lt b.place.pos n ≡ false) (a ∷ acts)) [
      | true ↦ λ is f. absurd (let no : a ∷ acts_below n acts ≡ [] = f in cc)
      | false ↦ λ is f. (is, none-below n acts f)
    ] refl e

not-from : (n m : ℕ) → nat_lt n m ≡ true → nat_le m n ≡ false
not-from n m e = lt-leb' m n (ltb-true n m e)
  where
    lt-leb' : (a b : ℕ) → b < a → nat_le a b ≡ false
    lt-leb' a b h = grind (arith, nat_tests)

is-from : (n m : ℕ) → nat_lt n m ≡ false → nat_le m n ≡ true
is-from n m e = le-leb m n (ltb-false n m e)

not_from-all : (n : ℕ) (acts : List Act) → AllByRecursion (λ a. nat_lt a.place.pos n ≡ true) acts → AllByRecursion (λ a. nat_le n a.place.pos ≡ false) acts
not_from-all n acts h = all-imply (λ (a : Act). nat_lt a.place.pos n ≡ true) (λ (a : Act). nat_le n a.place.pos ≡ false) acts (λ a e. not-from a.place.pos n e) h

-- acts of which the first part is all that stands below a position: the other part is all from it on
from-rest : (n : ℕ) (low high : List Act) → low ≡ acts_below n (low ++ high) → acts_from n (low ++ high) ≡ high
from-rest n low high is =
    let below : AllByRecursion (λ (a : Act). nat_lt a.place.pos n ≡ true) low = subst (AllByRecursion (λ (a : Act). nat_lt a.place.pos n ≡ true)) (sym is) (below-filtered n (low ++ high)) in
    let kept : acts_below n low ≡ low = filter-all (λ (a : Act). nat_lt a.place.pos n) low below in
    let split : low ++ acts_below n high ≡ low ++ [] =
    ap (λ l. l ++ acts_below n high) (sym kept) ∙ sym (filter-append (λ (a : Act). nat_lt a.place.pos n) low high) ∙ sym is ∙ sym (append-nil low) in
    let above = none-below n high (append_cancel_left low (acts_below n high) [] split) in
    filter-append (λ (a : Act). nat_le n a.place.pos) low high
    ∙ ap (λ l. l ++ acts_from n high) (filter-none (λ (a : Act). nat_le n a.place.pos) low (not_from-all n low below))
    ∙ filter-all (λ (a : Act). nat_le n a.place.pos) high (all-imply (λ (a : Act). nat_lt a.place.pos n ≡ false) (λ (a : Act). nat_le n a.place.pos ≡ true) high (λ a e. is-from a.place.pos n e) above)

asked-replied : (m : TableMap) (xs : List Asked) → map asked (replied m xs) ≡ xs
asked-replied m [] = refl
asked-replied m (x ∷ xs) = ap (λ l. x ∷ l) (asked-replied (act_on m x.command).0 xs)

-- A log of which the front is clean

-- what acts behind the front is what the rest lets act, from the table and the next ranks that the front leaves
acts-behind : (log more : List Entry) → is_clean (λ s. 1) (asked_in 0 log) ≡ true
    → acts_in (log ++ more) ≡ acts_in log ++ acted_log (table_after finmap.empty (acts_in log)) (next_rank (acts_in log)) (length log) more
acts-behind log more clean =
    acted_log-append finmap.empty (λ s. 1) 0 log more
    ∙ ap (λ n. acts_in log ++ replied (table_after finmap.empty (acts_in log)) (acted_after (λ s. 1) (asked_in 0 log) (asked_in n more))) (let z : 0 + length log ≡ length log = omega arith in z)
    ∙ ap (λ xs. acts_in log ++ replied (table_after finmap.empty (acts_in log)) xs) (acted-from_clean (asked_in 0 log) (asked_in (length log) more) (next_rank (acts_in log)) clean (next-is_gap log))

from-trim : (log more : List Entry) → is_clean (λ s. 1) (asked_in 0 log) ≡ true
    → acts_from (length log) (acts_in (log ++ more)) ≡ acted_log (table_after finmap.empty (acts_in log)) (next_rank (acts_in log)) (length log) more
from-trim log more clean =
    let high = acted_log (table_after finmap.empty (acts_in log)) (next_rank (acts_in log)) (length log) more in
    let split = acts-behind log more clean in
    ap (acts_from (length log)) split
    ∙ from-rest (length log) (acts_in log) high (front log more ∙ ap (acts_below (length log)) split)

-- what is known of a log that is trimmed at a position
record IsTrimmed (log : List Entry) (trim : ℕ) (rest : List Entry) : Type 0 where
  below : acts_below trim (acts_in log) ≡ replied finmap.empty (map asked (acts_below trim (acts_in log)))
  from : acts_from trim (acts_in log) ≡ acted_log (table_after finmap.empty (acts_below trim (acts_in log))) (next_rank (acts_below trim (acts_in log))) trim rest

trimmed-at : (log : List Entry) (trim : ℕ) → trim ≤ length log → is_clean (λ s. 1) (asked_in 0 (take trim log)) ≡ true → IsTrimmed log trim (drop trim log)
trimmed-at log trim short clean =
    let low = take trim log in
    let rest = drop trim log in
    let long : length low ≡ trim = length-take-le trim log short in
    let whole : low ++ rest ≡ log = take-append-drop trim log in
    let below : acts_below trim (acts_in log) ≡ acts_in low = front-acts log trim short in
    let from : acts_from trim (acts_in log) ≡ acted_log (table_after finmap.empty (acts_in low)) (next_rank (acts_in low)) trim rest =
    ap (λ n. acts_from n (acts_in log)) (sym long) ∙ ap (λ l. acts_from (length low) (acts_in l)) (sym whole) ∙ from-trim low rest clean
    ∙ ap (λ n. acted_log (table_after finmap.empty (acts_in low)) (next_rank (acts_in low)) n rest) long in
    record {
      below = below ∙ ap (replied finmap.empty) (sym (asked-replied finmap.empty (acted_after (λ s. 1) [] (asked_in 0 low)))) ∙ ap (λ l. replied finmap.empty (map asked l)) (sym below);
      from = from ∙ ap (λ l. acted_log (table_after finmap.empty l) (next_rank l) trim rest) (sym below);
    }

-- Ranks

rises : (a b : Act) → RanksRise a b → rises_in_rank a b ≡ true
rises a b h = implies-from (a.session == b.session) (nat_lt a.rank b.rank) (λ same. lt-ltb a.rank b.rank (h (eqb-true a.session b.session same)))

each-rises : (acts : List Act) → EachPair RanksRise acts → each_pair rises_in_rank acts ≡ true
each-rises [] h = refl
each-rises (a ∷ acts) h = and_from _ _ (from_one acts h.0) (each-rises acts h.1)
  where
    from_one : (bs : List Act) → AllByRecursion (RanksRise a) bs → list_all (rises_in_rank a) bs ≡ true
    from_one [] k = refl
    from_one (b ∷ bs) k = and_from _ _ (rises a b k.0) (from_one bs k.1)

-- The one log

all-drop : {A : Type 0} (P : A → Type 0) (n : ℕ) (xs : List A) → AllByRecursion P xs → AllByRecursion P (drop n xs)
all-drop P zero xs h = h
all-drop P (suc n) [] h = tt
all-drop P (suc n) (x ∷ xs) h = all-drop P n xs h.1

all-left : {A : Type 0} (P : A → Type 0) (xs ys : List A) → AllByRecursion P (xs ++ ys) → AllByRecursion P xs
all-left P [] ys h = tt
all-left P (x ∷ xs) ys h = (h.0, all-left P xs ys h.1)

all-right : {A : Type 0} (P : A → Type 0) (xs ys : List A) → AllByRecursion P (xs ++ ys) → AllByRecursion P ys
all-right P [] ys h = h
all-right P (x ∷ xs) ys h = all-right P xs ys h.1

-- what is read up to a position, and from it on
read-split : (f : ℕ → Option Entry) (a b k n m : ℕ) → k ≡ n + m → b ≡ a + n → filter_map f (numbers a k) ≡ filter_map f (numbers a n) ++ filter_map f (numbers b m)
read-split f a b k zero m size at =
    let same_size : k ≡ m = omega (arith, size) in
    let same : a ≡ b = omega (arith, at) in
    ap (λ i. filter_map f (numbers a i)) same_size ∙ ap (λ c. filter_map f (numbers c m)) same
read-split f a b zero (suc n) m size at = absurd (omega (arith, size))
read-split f a b (suc k) (suc n) m size at = by (f a) (read-split f (a + 1) b k n m (omega (arith, size)) (omega (arith, at)))
  where
    by : (o : Option Entry) → filter_map f (numbers (a + 1) k) ≡ filter_map f (numbers (a + 1) n) ++ filter_map f (numbers b m)
        → cons_option o (filter_map f (numbers (a + 1) k)) ≡ cons_option o (filter_map f (numbers (a + 1) n)) ++ filter_map f (numbers b m)
    by None e = e
    by (Some x) e = ap (λ l. x ∷ l) e

split-log : (chain : Chain) (cells : List LogletView) (a b c : ℕ) → a ≤ b → b ≤ c → virtual_log chain cells a c ≡ virtual_log chain cells a b ++ virtual_log chain cells b c
split-log chain cells a b c low high = read-split (virtual_log_at chain cells) a b (c - a) (b - a) (c - b) (omega (arith, low, high)) (omega (arith, low))

-- what a log lets act is told by the part of it that isn't trimmed
pub shown-acts : (lines : List NamedLine) (told : List Answered) (chain : Chain) (cells : List LogletView) (end : ℕ) → ActsOnce lines told chain cells end → chain.trim ≤ end → ActsAreShown lines told chain cells end
shown-acts lines told chain cells end h low =
    let size = h.size in
    let cut = trimmed-at h.log chain.trim (omega (arith, low, size)) h.clean in
    let acts : placed_acts told ≡ acts_in h.log = h.acts in
    let shown : virtual_log chain cells chain.trim end ≡ drop chain.trim h.log = h.shown in
    let within : end ≤ virtual_tail chain cells = h.within in
    let behind = virtual_log chain cells end (virtual_tail chain cells) in
    record {
      whole = h.whole;
      within = le-leb _ _ h.within;
      holds = rw (split-log chain cells chain.trim end (virtual_tail chain cells) low within, shown)
          (all-append (HoldsLines lines) (drop chain.trim h.log) behind (all-drop (HoldsLines lines) chain.trim h.log (all-left (HoldsLines lines) h.log behind h.holds)) (all-right (HoldsLines lines) h.log behind h.holds));
      first_ranks = rw acts (first-ranks h.log);
      ranks_rise = rw acts (each-rises (acts_in h.log) (ranks-rise h.log));
      apart = rw acts (each-apart (acts_in h.log) (in_order h.log));
      trimmed = rw acts cut.below;
      shown = rw (acts, shown) cut.from;
    }

pub acts-once : (played : List Played) (fault_lines : List FaultLine) (o : Told) (yard : Shown) → RunEnded played fault_lines o yard → ActsOnce (map (λ t. t.line) played) (told_of (map (λ t. t.line) played) o) o.chain yard.cells o.end
acts-once played fault_lines o yard e =
    let told : told_of (map (λ (t : Played). t.line) played) o ≡ map tell played = told-is played o e.rows in
    record {
      log = e.log;
      size = sym e.end;
      holds = rw e.end e.asked;
      acts = ap placed_acts told ∙ placed-are_acts played fault_lines o yard e;
      shown = ap (virtual_log o.chain yard.cells o.chain.trim) e.end ∙ e.stands.entries;
      clean = e.stands.clean;
      whole = e.stands.whole;
      within = rw e.end e.stands.within;
    }
