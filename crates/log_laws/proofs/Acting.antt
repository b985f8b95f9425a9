-- What acts, place by place.
use Rattle.std.proofs.Common.{◌≡◌, refl, sym, ap, ◌∙◌, subst, inl, inr, ℕ, zero, suc, ◌+◌, ◌<◌, ◌≤◌, true, false, List, [], ◌∷◌, ◌++◌, Option, Some, None, length, arith, append_assoc, append-nil}
use Rattle.std.specs.Prelude.{nat_lt, filter_map}
use Rattle.std.specs.List.{AllByRecursion, cons_option}
use Rattle.std.specs.Option.{option_map, option_or}
use Rattle.std.specs.FinMap as finmap
use Rattle.std.proofs.lemmas.Bool.Decides.{nat_tests}
use Rattle.std.proofs.lemmas.List.Elements.{filter-append}
use Rattle.std.proofs.lemmas.List.Folds.{find-append}
use Rattle.delos_types.specs.declared.entry.Entry.{Entry}
use Rattle.delos_types.specs.declared.place.Place.{Place}
use Rattle.table_core.specs.Table.{TableMap}
use Rattle.engine_api.specs.declared.act.Act.{Act}
use Rattle.engine_api.specs.Acted.{Asked, act_on, replied, table_after, asked_in}
use Rattle.engine_api.specs.Order.{first_of, act_at, numbers, acts_of, acted_after}
use Rattle.engine_api.proofs.Appends.{acted_log-append}
use Rattle.log_laws.specs.State.{acts_in}
use Rattle.log_laws.specs.Order.{Precedes, Before, ActsBefore, EachPair, acts_below}
use Rattle.log_laws.specs.Appearing.{IsNotAfter, HasAppeared}
use Rattle.log_laws.proofs.Pairs.{all-imply, all-append, pairs-append, pairs-to, found-has, filter-all, filter-none}
use Rattle.log_laws.proofs.Places.{asked-from, asked-rises}

abbrev ones : ℕ → ℕ
ones s = 1

abbrev AskedBefore : Asked → Asked → Type 0
AskedBefore a b = Before a.place a.session a.rank b.place b.session b.rank

abbrev Rises : Asked → Asked → Type 0
Rises x y = Precedes x.place y.place

-- What acts at the place of one appearance

-- of these ranks that act at the place of x, each is of the session of x, from a number on
abbrev IsActOf : Asked → ℕ → Asked → Type 0
IsActOf x low a = (a.place ≡ x.place) × (a.session ≡ x.session) × (low ≤ a.rank)

made-all : (xs : List Asked) (x : Asked) (low from n : ℕ) → low ≤ from → AllByRecursion (IsActOf x low) (filter_map (act_at xs x) (numbers from n))
made-all xs x low from zero h = tt
made-all xs x low from (suc n) h = by_first (first_of xs x.session from) (made-all xs x low (from + 1) n (omega arith))
  where
    by_first : (o : Option Asked) → AllByRecursion (IsActOf x low) (filter_map (act_at xs x) (numbers (from + 1) n)) → AllByRecursion (IsActOf x low) (cons_option (option_map (λ (f : Asked). record { place = x.place; session = x.session; rank = from; command = f.command }) o) (filter_map (act_at xs x) (numbers (from + 1) n)))
    by_first None rest = rest
    by_first (Some f) rest = ((refl, refl, h), rest)

made-pairs : (xs : List Asked) (x : Asked) (from n : ℕ) → EachPair AskedBefore (filter_map (act_at xs x) (numbers from n))
made-pairs xs x from zero = tt
made-pairs xs x from (suc n) = by_first (first_of xs x.session from) (made-pairs xs x (from + 1) n)
  where
    later : List Asked
    later = filter_map (act_at xs x) (numbers (from + 1) n)

    by_first : (o : Option Asked) → EachPair AskedBefore later → EachPair AskedBefore (cons_option (option_map (λ (f : Asked). record { place = x.place; session = x.session; rank = from; command = f.command }) o) later)
    by_first None rest = rest
    by_first (Some f) rest = (all-imply _ _ later (λ (a : Asked) h. inr (sym h.0, sym h.1, omega (arith, h.2))) (made-all xs x (from + 1) (from + 1) n (omega arith)), rest)

-- each has the command of the first appearance of its rank
record Appears (xs : List Asked) (x a : Asked) : Type 0 where
  pub first : Asked
  pub found : first_of xs a.session a.rank ≡ Some first
  pub command : a.command ≡ first.command
  pub place : a.place ≡ x.place

made-appear : (xs : List Asked) (x : Asked) (from n : ℕ) → AllByRecursion (Appears xs x) (filter_map (act_at xs x) (numbers from n))
made-appear xs x from zero = tt
made-appear xs x from (suc n) = by_first (first_of xs x.session from) refl (made-appear xs x (from + 1) n)
  where
    by_first : (o : Option Asked) → first_of xs x.session from ≡ o → AllByRecursion (Appears xs x) (filter_map (act_at xs x) (numbers (from + 1) n)) → AllByRecursion (Appears xs x) (cons_option (option_map (λ (f : Asked). record { place = x.place; session = x.session; rank = from; command = f.command }) o) (filter_map (act_at xs x) (numbers (from + 1) n)))
    by_first None e rest = rest
    by_first (Some f) e rest = (record { first = f; found = e; command = refl; place = refl }, rest)

-- All places

acted-places : (P : Place → Type 0) (before xs : List Asked) → AllByRecursion (λ x. P x.place) xs → AllByRecursion (λ a. P a.place) (acted_after ones before xs)
acted-places P before [] h = tt
acted-places P before (x ∷ xs) h =
    all-append _ (acts_of ones before x) (acted_after ones (before ++ x ∷ []) xs)
    (all-imply _ _ (acts_of ones before x) (λ (a : Asked) k. subst P (sym k.0) h.0) (made-all (before ++ x ∷ []) x 0 _ _ (omega arith)))
    (acted-places P (before ++ x ∷ []) xs h.1)

acted-pairs : (before xs : List Asked) → EachPair Rises xs → EachPair AskedBefore (acted_after ones before xs)
acted-pairs before [] h = tt
acted-pairs before (x ∷ xs) h =
    pairs-append AskedBefore (acts_of ones before x) (acted_after ones (before ++ x ∷ []) xs) (made-pairs (before ++ x ∷ []) x _ _) (acted-pairs (before ++ x ∷ []) xs h.1)
    (all-imply _ _ (acts_of ones before x) (λ (a : Asked) k. all-imply _ _ (acted_after ones (before ++ x ∷ []) xs) (λ (b : Asked) l. inl (subst (λ p. Precedes p b.place) (sym k.0) l)) (acted-places (Precedes x.place) (before ++ x ∷ []) xs h.0))
    (made-all (before ++ x ∷ []) x 0 _ _ (omega arith)))

-- among all these ranks, that of the act appeared first there
record AskedAppeared (asked : List Asked) (a : Asked) : Type 0 where
  pub first : Asked
  pub found : first_of asked a.session a.rank ≡ Some first
  pub command : a.command ≡ first.command
  pub place : IsNotAfter first.place a.place

found-front : (xs ys : List Asked) (s r : ℕ) (f : Asked) → first_of xs s r ≡ Some f → first_of (xs ++ ys) s r ≡ Some f
found-front xs ys s r f e = find-append _ xs ys ∙ ap (λ o. option_or o (first_of ys s r)) e

acted-appeared : (all before xs : List Asked) → all ≡ before ++ xs → EachPair Rises all → AllByRecursion (AskedAppeared all) (acted_after ones before xs)
acted-appeared all before [] is h = tt
acted-appeared all before (x ∷ xs) is h =
    all-append _ (acts_of ones before x) (acted_after ones (before ++ x ∷ []) xs)
    (all-imply _ _ (acts_of ones before x) here (made-appear (before ++ x ∷ []) x _ _))
    (acted-appeared all (before ++ x ∷ []) xs (is ∙ sym (append_assoc before (x ∷ []) xs)) h)
  where
    up_to : AllByRecursion (λ y. IsNotAfter y.place x.place) (before ++ x ∷ [])
    up_to = all-append _ before (x ∷ []) (all-imply _ _ before (λ (y : Asked) k. inl k) (pairs-to Rises before x xs (subst (EachPair Rises) is h))) (inr refl, tt)

    here : (a : Asked) → Appears (before ++ x ∷ []) x a → AskedAppeared all a
    here a k = record {
      first = k.first;
      found = ap (λ l. first_of l a.session a.rank) (is ∙ sym (append_assoc before (x ∷ []) xs)) ∙ found-front (before ++ x ∷ []) xs a.session a.rank k.first k.found;
      command = k.command;
      place = subst (IsNotAfter k.first.place) (sym k.place) (found-has (λ (y : Asked). IsNotAfter y.place x.place) _ (before ++ x ∷ []) k.first up_to k.found);
    }

-- With their replies

replied-all : (P : Place → ℕ → ℕ → Type 0) (m : TableMap) (xs : List Asked) → AllByRecursion (λ x. P x.place x.session x.rank) xs → AllByRecursion (λ a. P a.place a.session a.rank) (replied m xs)
replied-all P m [] h = tt
replied-all P m (x ∷ xs) h = (h.0, replied-all P (act_on m x.command).0 xs h.1)

replied-pairs : (m : TableMap) (xs : List Asked) → EachPair AskedBefore xs → EachPair ActsBefore (replied m xs)
replied-pairs m [] h = tt
replied-pairs m (x ∷ xs) h = (replied-all (Before x.place x.session x.rank) (act_on m x.command).0 xs h.0, replied-pairs (act_on m x.command).0 xs h.1)

replied-appeared : (asked : List Asked) (m : TableMap) (xs : List Asked) → AllByRecursion (AskedAppeared asked) xs → AllByRecursion (HasAppeared asked) (replied m xs)
replied-appeared asked m [] h = tt
replied-appeared asked m (x ∷ xs) h = (record { first = h.0.first; found = h.0.found; command = h.0.command; place = h.0.place }, replied-appeared asked (act_on m x.command).0 xs h.1)

-- The laws

pub in_order : (log : List Entry) → EachPair ActsBefore (acts_in log)
in_order log = replied-pairs finmap.empty (acted_after ones [] (asked_in 0 log)) (acted-pairs [] (asked_in 0 log) (asked-rises 0 log))

pub appeared : (log : List Entry) → AllByRecursion (HasAppeared (asked_in 0 log)) (acts_in log)
appeared log = replied-appeared (asked_in 0 log) finmap.empty (acted_after ones [] (asked_in 0 log)) (acted-appeared (asked_in 0 log) [] (asked_in 0 log) refl (asked-rises 0 log))

pub front : (log more : List Entry) → acts_in log ≡ acts_below (length log) (acts_in (log ++ more))
front log more =
    let behind = replied (table_after finmap.empty (acts_in log)) (acted_after ones (asked_in 0 log) (asked_in (0 + length log) more)) in
    let low : AllByRecursion (λ (a : Act). nat_lt a.place.pos (length log) ≡ true) (acts_in log) =
    replied-all (λ p s r. nat_lt p.pos (length log) ≡ true) finmap.empty (acted_after ones [] (asked_in 0 log))
    (acted-places (λ p. nat_lt p.pos (length log) ≡ true) [] (asked_in 0 log) (all-imply _ _ (asked_in 0 log) (λ (x : Asked) h. let l : x.place.pos < length log = omega (arith, h.1) in let t : nat_lt x.place.pos (length log) ≡ true = grind (arith, nat_tests) in t) (asked-from 0 log))) in
    let high : AllByRecursion (λ (a : Act). nat_lt a.place.pos (length log) ≡ false) behind =
    replied-all (λ p s r. nat_lt p.pos (length log) ≡ false) (table_after finmap.empty (acts_in log)) (acted_after ones (asked_in 0 log) (asked_in (0 + length log) more))
    (acted-places (λ p. nat_lt p.pos (length log) ≡ false) (asked_in 0 log) (asked_in (0 + length log) more) (all-imply _ _ (asked_in (0 + length log) more) (λ (x : Asked) h. let l : length log ≤ x.place.pos = omega (arith, h.0) in let t : nat_lt x.place.pos (length log) ≡ false = grind (arith, nat_tests) in t) (asked-from (0 + length log) more))) in
    sym (ap (acts_below (length log)) (acted_log-append finmap.empty ones 0 log more)
    ∙ filter-append (λ (a : Act). nat_lt a.place.pos (length log)) (acts_in log) behind
    ∙ ap (λ l. l ++ acts_below (length log) behind) (filter-all _ (acts_in log) low)
    ∙ ap (λ l. acts_in log ++ l) (filter-none _ behind high)
    ∙ append-nil (acts_in log))
