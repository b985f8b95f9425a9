-- What tests of rows say besides: of places and reads on either side of a barrier, of the versions of two lines, of the causes of a
-- session that was stopped, and of how often causes came.
use Rattle.std.proofs.Common.{◌≡◌, refl, ap, ap₂, subst, ℕ, ◌+◌, Bool, true, false, not, ◌&&◌, ◌||◌, ◌==◌, nat_lt, nat_le, if◌then◌else◌, List, [], ◌∷◌, Option, Some, None, is_some, length, eq-eqb, arith}
use Rattle.std.proofs.Math.Path.{fun_ext}
use Rattle.std.specs.List.{list_all, list_any, filter_map, cons_option}
use Rattle.std.proofs.lemmas.Bool.{and_from, and_parts, false≢true, or_left}
use Rattle.std.proofs.lemmas.Bool.Decides.{nat_tests}
use Rattle.delos_types.specs.declared.cause.Cause.{Cause}
use Rattle.delos_types.specs.declared.place.Place.{Place}
use Rattle.loglet_api.specs.View.{LogletView}
use Rattle.row_text.specs.declared.row.Outcome.{Outcome}
use Rattle.row_text.specs.declared.row.Outcome.TheVariants as out
use Rattle.script_text.specs.declared.line.Session.{Session}
use Rattle.fitting_run.specs.declared.answered.Answered.{Answered}
use Rattle.fitting_run.specs.Tests.{◌⇒◌, each_pair, some_is, where_some}
use Rattle.fitting_run.specs.Answered.{cause_of, is_late, is_logged, is_open, on_read, on_time, same_cause, same_session, session_of}
use Rattle.fitting_run.specs.Faults.{is_alone, is_broken, is_opened, lacked, logs_beside, occasions, picked, stops, turns_of}
use Rattle.fitting_run.specs.Outcomes.{begins_upto, comes_below, stop_cause}
use Rattle.fitting_run.specs.Replacements.{make_in_order}

-- what this row says came after the place p
abbrev is_above : Place → Outcome → Bool
is_above p later = on_time later (λ q. nat_lt p.pos q.pos) && on_read later (λ after. nat_lt p.pos after)

-- what this row says came not before a read that looked at `after`
abbrev is_not_below : ℕ → Outcome → Bool
is_not_below after later = on_time later (λ q. nat_le after q.pos) && on_read later (λ at. nat_le after at)

-- behind a barrier places and reads come after places, and not before reads
pub passed : (a b : Outcome) → where_some (begins_upto b) (comes_below a) ≡ true → (on_time a (λ p. is_above p b) && on_read a (λ after. is_not_below after b)) ≡ true
passed (out.Placed p reply true) b h = refl
passed (out.Placed p reply false) (out.Placed q answer true) h = refl
passed (out.Placed p reply false) (out.Placed q answer false) h = and_from (nat_lt p.pos q.pos && true) true (and_from (nat_lt p.pos q.pos) true h refl) refl
passed (out.Placed p reply false) (out.Read after found) h = and_from (nat_lt p.pos after) true h refl
passed (out.Placed p reply false) b h = refl
passed (out.Read at found) (out.Placed q answer true) h = refl
passed (out.Read at found) (out.Placed q answer false) h = and_from (nat_le at q.pos) true h refl
passed (out.Read at found) (out.Read after answer) h = h
passed (out.Read at found) b h = refl
passed a b h = refl

-- two lines made two versions
pub apart : (v s w t : ℕ) → make_in_order (out.Extended v s) (out.Extended w t) ≡ true → not (v == w) ≡ true
apart v s w t h = grind (arith, nat_tests, h)

-- who wasn't reached was counted
pub counted : (unreached : ℕ) (v : LogletView) → lacked unreached v ≡ true → (nat_le 1 unreached && nat_le 1 v.lacks && nat_le 1 v.faults) ≡ true
counted unreached v h =
    let four = and_parts (nat_le 1 unreached && nat_le v.quorum unreached && nat_le unreached v.servers && nat_le 1 v.lacks) (nat_le 1 v.faults) h in
    let three = and_parts (nat_le 1 unreached && nat_le v.quorum unreached && nat_le unreached v.servers) (nat_le 1 v.lacks) four.0 in
    let two = and_parts (nat_le 1 unreached && nat_le v.quorum unreached) (nat_le unreached v.servers) three.0 in
    let one = and_parts (nat_le 1 unreached) (nat_le v.quorum unreached) two.0 in
    and_from (nat_le 1 unreached && nat_le 1 v.lacks) (nat_le 1 v.faults) (and_from (nat_le 1 unreached) (nat_le 1 v.lacks) one.0 three.1) four.1

-- What holds of the values that a function gives holds of the elements to which it gives one

all_given : {A B : Type 0} (q : B → Bool) (f : A → Option B) (xs : List A) → list_all q (filter_map f xs) ≡ list_all (λ x. where_some (f x) q) xs
all_given q f [] = refl
all_given {A} {B} q f (x ∷ xs) = step (f x) (all_given q f xs)
  where
    step : (o : Option B) → list_all q (filter_map f xs) ≡ list_all (λ x. where_some (f x) q) xs → list_all q (cons_option o (filter_map f xs)) ≡ (where_some o q && list_all (λ x. where_some (f x) q) xs)
    step None later = later
    step (Some y) later = ap (λ b. q y && b) later

all_true : {A : Type 0} (xs : List A) → list_all (λ x. true) xs ≡ true
all_true [] = refl
all_true (x ∷ xs) = all_true xs

pub pairs_given : {A B : Type 0} (r : B → B → Bool) (f : A → Option B) (xs : List A) → each_pair r (filter_map f xs) ≡ each_pair (λ x y. where_some (f x) (λ c. where_some (f y) (r c))) xs
pairs_given r f [] = refl
pairs_given {A} {B} r f (x ∷ xs) = step (f x) (pairs_given r f xs)
  where
    step : (o : Option B) → each_pair r (filter_map f xs) ≡ each_pair (λ x y. where_some (f x) (λ c. where_some (f y) (r c))) xs
        → each_pair r (cons_option o (filter_map f xs)) ≡ (list_all (λ y. where_some o (λ c. where_some (f y) (r c))) xs && each_pair (λ x y. where_some (f x) (λ c. where_some (f y) (r c))) xs)
    step None later = rw (all_true xs) later
    step (Some c) later = ap₂ (λ a b. a && b) (all_given (r c) f xs) later

-- Causes of a session that was stopped

all_weaker : {A : Type 0} (p q : A → Bool) (xs : List A) → ((x : A) → p x ≡ true → q x ≡ true) → list_all p xs ≡ true → list_all q xs ≡ true
all_weaker p q [] f h = refl
all_weaker p q (x ∷ xs) f h = let both = and_parts (p x) (list_all p xs) h in and_from (q x) (list_all q xs) (f x both.0) (all_weaker p q xs f both.1)

pairs_weaker : {A : Type 0} (r s : A → A → Bool) (xs : List A) → ((x y : A) → r x y ≡ true → s x y ≡ true) → each_pair r xs ≡ true → each_pair s xs ≡ true
pairs_weaker r s [] f h = refl
pairs_weaker r s (x ∷ xs) f h =
    let both = and_parts (list_all (r x) xs) (each_pair r xs) h in
    and_from (list_all (s x) xs) (each_pair s xs) (all_weaker (r x) (s x) xs (f x) both.0) (pairs_weaker r s xs f both.1)

-- what each element says of all pairs, it says of itself and a later one
of_itself : {A : Type 0} (r : A → A → A → Bool) (xs : List A) → list_all (λ a. each_pair (r a) xs) xs ≡ true → each_pair (λ x y. r x x y) xs ≡ true
of_itself r [] h = refl
of_itself r (x ∷ xs) h =
    let both = and_parts (each_pair (r x) (x ∷ xs)) (list_all (λ a. each_pair (r a) (x ∷ xs)) xs) h in
    let own = and_parts (list_all (r x x) xs) (each_pair (r x) xs) both.0 in
    and_from (list_all (r x x) xs) (each_pair (λ x y. r x x y) xs) own.0
    (of_itself r xs (all_weaker (λ a. each_pair (r a) (x ∷ xs)) (λ a. each_pair (r a) xs) xs (λ a k. (and_parts (list_all (r a x) xs) (each_pair (r a) xs) k).1) both.1))

-- a row tells why its session was stopped, if it is open: it is a command's, or of a later phase than one that stopped it
abbrev pub tells_why : List Answered → Answered → Bool
tells_why told b = is_logged b || list_any (stops b) told

-- open rows of one session that tell why it was stopped tell one cause
abbrev pub shares_cause : List Answered → Answered → Answered → Bool
shares_cause told a b =
    (same_session a b && tells_why told a && tells_why told b)
    ⇒ where_some (cause_of a.row.outcome) (λ c. where_some (cause_of b.row.outcome) (same_cause c))

implied : (t u : Bool) → (t ≡ true → u ≡ true) → (t ⇒ u) ≡ true
implied true u f = f refl
implied false u f = refl

itself : (o p : Option Session) → some_is o (λ s. some_is p (λ t. s.id == t.id)) ≡ true → some_is o (λ s. some_is o (λ t. s.id == t.id)) ≡ true
itself None p h = h
itself (Some s) p h = eq-eqb s.id s.id refl

where_both : (t u : Bool) (o p : Option Cause) → t ≡ true → u ≡ true → where_some (if t then o else None) (λ c. where_some (if u then p else None) (same_cause c)) ≡ true
    → where_some o (λ c. where_some p (same_cause c)) ≡ true
where_both true true o p i j h = h
where_both true false o p i j h = absurd (false≢true j)
where_both false u o p i j h = absurd (false≢true i)

-- what one row of a session and a later one say of its stop
tell_one : (told : List Answered) (a b : Answered) → where_some (stop_cause told a a) (λ c. where_some (stop_cause told a b) (same_cause c)) ≡ true → shares_cause told a b ≡ true
tell_one told a b h =
    implied (same_session a b && tells_why told a && tells_why told b) (where_some (cause_of a.row.outcome) (λ c. where_some (cause_of b.row.outcome) (same_cause c))) (λ all.
    let two = and_parts (same_session a b && tells_why told a) (tells_why told b) all in
    let one = and_parts (same_session a b) (tells_why told a) two.0 in
    where_both (same_session a a && tells_why told a) (same_session a b && tells_why told b) (cause_of a.row.outcome) (cause_of b.row.outcome)
    (and_from (same_session a a) (tells_why told a) (itself (session_of a) (session_of b) one.0) one.1) (and_from (same_session a b) (tells_why told b) one.0 two.1) h)

pub causes_shared : (told : List Answered) → list_all (λ a. each_pair same_cause (filter_map (stop_cause told a) told)) told ≡ true → each_pair (shares_cause told) told ≡ true
causes_shared told h =
    let r : Answered → Answered → Answered → Bool = λ a x y. where_some (stop_cause told a x) (λ c. where_some (stop_cause told a y) (same_cause c)) in
    pairs_weaker (λ x y. r x x y) (shares_cause told) told (tell_one told)
    (of_itself r told (all_weaker (λ a. each_pair same_cause (filter_map (stop_cause told a) told)) (λ a. each_pair (r a) told) told (λ a k. subst (λ t. t ≡ true) (pairs_given same_cause (stop_cause told a) told) k) h))

-- How often causes came

-- open or late, by such a cause, and its session wasn't stopped before its phase
abbrev pub is_opened_by : (ℕ → Cause → Bool) → List Answered → Answered → Bool
is_opened_by by before b = (is_broken b && not (list_any (stops b) before)) && some_is (cause_of b.row.outcome) (by b.line.node)

abbrev pub is_first_look : List Answered → Answered → Bool
is_first_look before b = not (is_logged b) && not (list_any (logs_beside b) before)

opened_same : (b s c : Bool) → (c ≡ true → b ≡ true) → ((b && not s) && c) ≡ (c && not s)
opened_same true true true f = refl
opened_same true true false f = refl
opened_same true false true f = refl
opened_same true false false f = refl
opened_same false s true f = absurd (false≢true (f refl))
opened_same false s false f = refl

alone_same : (l g : Bool) → (not l && not g) ≡ not (l || g)
alone_same true g = refl
alone_same false g = refl

cause_open : (o : Option Cause) (by : Cause → Bool) → some_is o by ≡ true → is_some o ≡ true
cause_open None by h = h
cause_open (Some c) by h = refl

is_opened_same : (by : ℕ → Cause → Bool) (before : List Answered) (b : Answered) → is_opened_by by before b ≡ is_opened by before b
is_opened_same by before b =
    opened_same (is_broken b) (list_any (stops b) before) (some_is (cause_of b.row.outcome) (by b.line.node))
    (λ h. or_left (is_open b.row.outcome) (is_late b.row.outcome) (cause_open (cause_of b.row.outcome) (by b.line.node) h))

is_alone_same : (before : List Answered) (b : Answered) → is_first_look before b ≡ is_alone before b
is_alone_same before b = alone_same (is_logged b) (list_any (logs_beside b) before)

pub occasions_same : (by : ℕ → Cause → Bool) (told : List Answered)
    → length (picked (λ before b. is_opened_by by before b && is_first_look before b) [] told) + turns_of (picked (λ before b. is_opened_by by before b && not (is_first_look before b)) [] told)
    ≡ occasions by told
occasions_same by told =
    ap₂ (λ (looks others : List Answered → Answered → Bool). length (picked looks [] told) + turns_of (picked others [] told))
    (fun_ext (λ before. fun_ext (λ b. ap₂ (λ t u. t && u) (is_opened_same by before b) (is_alone_same before b))))
    (fun_ext (λ before. fun_ext (λ b. ap₂ (λ t u. t && not u) (is_opened_same by before b) (is_alone_same before b))))
