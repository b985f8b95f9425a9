-- Replacements of the loglet: what is known of their rows agrees with the chain.
use Rattle.std.proofs.Common.{◌≡◌, refl, sym, subst, inl, inr, ◌⊎◌, ℕ, zero, suc, ◌+◌, ◌<◌, Bool, true, false, not, ◌&&◌, ◌||◌, ◌==◌, cond, List, [], ◌∷◌, Some, is_some, length, map, nat_lt, nat_le, count_by, slice_get, arith, lt-ltb, ltb-true, le-leb, eq-eqb, eqb-true, ne_eqb}
use Rattle.std.specs.List.{AllByRecursion, list_all, list_any}
use Rattle.std.proofs.lemmas.Bool.{and_from, and_parts, both_ways, not_from_false, or_left, or_right}
use Rattle.std.proofs.lemmas.Map.Keys.{any_passes_from_place}
use Rattle.std.proofs.lemmas.List.Sums.{sum_by-cons}
use Rattle.delos_types.specs.declared.chain.Chain.{Chain}
use Rattle.chain_map.specs.Chain.{last_id}
use Rattle.script_text.specs.declared.faults.FaultLine.{FaultLine}
use Rattle.row_text.specs.declared.row.Outcome.{Outcome}
use Rattle.row_text.specs.declared.row.Outcome.TheVariants as out
use Rattle.fitting_run.specs.declared.answered.Answered.{Answered}
use Rattle.fitting_run.specs.declared.told.Told.{Told}
use Rattle.fitting_run.specs.Answered.{before_barrier}
use Rattle.fitting_run.specs.Fits.{told_of}
use Rattle.fitting_run.specs.Replacements.{ReplacementsAgree, begins_at, has_ids, is_behind, is_beside, is_overtaken, lacks_spare, make_in_order, start_made, stays_spent, stops_another, stops_beside, tells_higher, version_found, version_told, versions_at}
use Rattle.fitting_run.specs.Tests.{◌⇒◌, where_some}
use Rattle.fitting_run.specs.Yard.{Shown}
use Rattle.log_laws.specs.Order.{EachPair}
use Rattle.log_laws.proofs.Pairs.{all-imply}
use Rattle.run_laws.specs.Ended.{IsApart, IsBeside, IsReplaced, IsStoppedBeside, Played, Precedes, Replacements, RunEnded, SomeTurn, tells_version}
use Rattle.run_laws.proofs.Behind.{any-at}
use Rattle.run_laws.proofs.Members.{all-test, among-get}
use Rattle.run_laws.proofs.Pairs.{pairs-imply}
use Rattle.run_laws.proofs.Telling.{tell, told-is}
use Rattle.run_laws.proofs.Tests.{each_pair-from, implies-from}

-- Elements by their places

pub all-places : {A : Type 0} (P : A → Type 0) (xs : List A) → ((i : ℕ) (x : A) → slice_get xs i ≡ Some x → P x) → AllByRecursion P xs
all-places P [] f = tt
all-places P (x ∷ xs) f = (f zero x refl, all-places P xs (λ i y is. f (suc i) y is))

pub pairs-places : {A : Type 0} (R : A → A → Type 0) (xs : List A) → ((i j : ℕ) (x y : A) → slice_get xs i ≡ Some x → slice_get xs j ≡ Some y → i < j → R x y) → EachPair R xs
pairs-places R [] f = tt
pairs-places R (x ∷ xs) f = (
  all-places (R x) xs (λ j y is. f zero (suc j) x y refl is (omega arith)),
  pairs-places R xs (λ i j y z is it low. f (suc i) (suc j) y z is it (omega (arith, low))),
)

-- What rows tell

apart-test : (a b : Outcome) → IsApart a b → make_in_order a b ≡ true
apart-test (out.Extended v s) (out.Extended w r) (inl h) = let low = h.0 in let start = h.1 in or_left (nat_lt v w && nat_le s r) (nat_lt w v && nat_le r s) (and_from (nat_lt v w) (nat_le s r) (lt-ltb v w low) (le-leb s r start))
apart-test (out.Extended v s) (out.Extended w r) (inr h) = let low = h.0 in let start = h.1 in or_right (nat_lt v w && nat_le s r) (nat_lt w v && nat_le r s) (and_from (nat_lt w v) (nat_le r s) (lt-ltb w v low) (le-leb r s start))
apart-test (out.Extended v s) b h = refl
apart-test a b h = refl

higher-test : (a b : Outcome) → Precedes a b → where_some (version_told a) (λ v. where_some (version_told b) (λ w. nat_lt v w)) ≡ true
higher-test (out.Extended v s) (out.Extended w r) low = lt-ltb v w low
higher-test (out.Extended v s) (out.Moved w) low = lt-ltb v w low
higher-test (out.Extended v s) b low = refl
higher-test (out.Moved v) (out.Extended w r) low = lt-ltb v w low
higher-test (out.Moved v) (out.Moved w) low = lt-ltb v w low
higher-test (out.Moved v) b low = refl
higher-test a b low = refl

spent-test : (a b : Outcome) → Precedes a b → lacks_spare a ≡ true → not (is_some (version_told b)) ≡ true
spent-test out.NoSpare (out.Extended w r) low e = absurd low
spent-test out.NoSpare (out.Moved w) low e = absurd low
spent-test out.NoSpare b low e = refl
spent-test a b low e = absurd (both_ways false refl e)

overtaken-test : (o : Outcome) (test : ℕ → Bool) → ((v : ℕ) → o ≡ out.Moved v → test v ≡ true) → where_some (version_found o) test ≡ true
overtaken-test (out.Moved v) test h = h v refl
overtaken-test o test h = refl

-- how many rows of a node tell a version
versions-are : (node : ℕ) (ts : List Played) → versions_at node (map tell ts) ≡ count_by (tells_version node) ts
versions-are node [] = refl
versions-are node (t ∷ ts) = omega (
  arith,
  versions-are node ts,
  sum_by-cons (λ (a : Answered). cond ((a.line.node == node) && is_some (version_told a.row.outcome)) 1 0) (tell t) (map tell ts),
  sum_by-cons (λ (u : Played). cond (tells_version node u) 1 0) t ts,
)

-- a line of another node, in the phase
beside-is : (t u : Played) → IsBeside t u → is_beside (tell t) u.line ≡ true
beside-is t u b =
    and_from (u.line.phase == t.line.phase) (not (u.line.node == t.line.node)) (eq-eqb u.line.phase t.line.phase b.phase_is) (not_from_false (u.line.node == t.line.node) (ne_eqb u.line.node t.line.node b.another))

-- a stop of another node's disk, in the phase
stop-is : (faults : List FaultLine) (t : Played) → IsStoppedBeside faults t → list_any (stops_beside (tell t)) faults ≡ true
stop-is faults t b =
    let stops : stops_another t.line.node b.line.asks ≡ true = subst (λ asked. stops_another t.line.node asked ≡ true) (sym b.asks_is) (not_from_false (b.node == t.line.node) (ne_eqb b.node t.line.node b.another)) in
    any_passes_from_place (stops_beside (tell t)) faults b.at b.line b.is (and_from (b.line.phase == t.line.phase) (stops_another t.line.node b.line.asks) (eq-eqb b.line.phase t.line.phase b.phase_is) stops)

-- another node has a part in the phase
found-beside : (played : List Played) (faults : List FaultLine) (t : Played) → SomeTurn played (IsBeside t) ⊎ IsStoppedBeside faults t
    → (list_any (is_beside (tell t)) (map (λ u. u.line) played) || list_any (stops_beside (tell t)) faults) ≡ true
found-beside played faults t some = elim some [
  | inl k ↦ or_left (list_any (is_beside (tell t)) (map (λ (u : Played). u.line) played)) (list_any (stops_beside (tell t)) faults)
      (any-at (λ (u : Played). u.line) (is_beside (tell t)) played k.turn (among-get played k.at k.turn k.is) (beside-is t k.turn k.so))
  | inr stop ↦ or_right (list_any (is_beside (tell t)) (map (λ (u : Played). u.line) played)) (list_any (stops_beside (tell t)) faults) (stop-is faults t stop)
]

module _ (version : ℕ) (chain : Chain) (shelf : ℕ) where
  abbrev Is : Outcome → Type 0
  Is o = IsReplaced version chain shelf o

  begun-test : (o : Outcome) → Is o → where_some (start_made o) (begins_at chain) ≡ true
  begun-test (out.Extended v s) h = h.1
  begun-test o h = refl

  upto-test : (o : Outcome) → Is o → where_some (version_told o) (λ v. nat_le v version) ≡ true
  upto-test (out.Extended v s) h = le-leb v version h.0
  upto-test (out.Moved v) h = le-leb v version h
  upto-test o h = refl

  last-test : (o : Outcome) → Is o → (lacks_spare o ⇒ (last_id chain + 1 == shelf)) ≡ true
  last-test out.NoSpare h = eq-eqb (last_id chain + 1) shelf h
  last-test o h = refl

pub behind-is : (a b : Answered) → is_behind a b ≡ true → (a.line.phase < b.line.phase) ⊎ (a.line.node ≡ b.line.node)
behind-is a b e =
    elim (a.line.node == b.line.node) as (λ t. (a.line.node == b.line.node) ≡ t → (t || before_barrier a b) ≡ true → (a.line.phase < b.line.phase) ⊎ (a.line.node ≡ b.line.node)) [
      | true ↦ λ is f. inr (eqb-true a.line.node b.line.node is)
      | false ↦ λ is f. inl (ltb-true a.line.phase b.line.phase f)
    ] refl e

module _ (played : List Played) (fault_lines : List FaultLine) (version : ℕ) (chain : Chain) (shelf : ℕ) (h : Replacements played fault_lines version chain shelf) where
  all_replaced : AllByRecursion (λ t. IsReplaced version chain shelf t.row.outcome) played
  all_replaced = all-places (λ (t : Played). IsReplaced version chain shelf t.row.outcome) played h.each

  each-tells : (test : Outcome → Bool) → ((o : Outcome) → IsReplaced version chain shelf o → test o ≡ true) → list_all (λ a. test a.row.outcome) (map tell played) ≡ true
  each-tells test f =
      all-test tell (λ (a : Answered). test a.row.outcome) played
      (all-imply (λ (t : Played). IsReplaced version chain shelf t.row.outcome) (λ (t : Played). test t.row.outcome ≡ true) played (λ t is. f t.row.outcome is) all_replaced)

  abbrev InOrder : Played → Played → Type 0
  InOrder t u = (t.line.phase < u.line.phase) ⊎ (t.line.node ≡ u.line.node) → Precedes t.row.outcome u.row.outcome

  all_in_order : EachPair InOrder played
  all_in_order = pairs-places InOrder played (λ i j t u is it low. h.order i j t u is it low)

  pub told-agree : ReplacementsAgree (map (λ t. t.line) played) fault_lines (map tell played) version chain shelf
  told-agree = record {
    versions = each_pair-from tell (λ a b. make_in_order a.row.outcome b.row.outcome) played
        (pairs-places (λ t u. make_in_order t.row.outcome u.row.outcome ≡ true) played (λ i j t u is it low. apart-test t.row.outcome u.row.outcome (h.apart i j t u is it low)));
    rise = each_pair-from tell tells_higher played (pairs-imply InOrder (λ t u. tells_higher (tell t) (tell u) ≡ true) played
        (λ t u k. implies-from (is_behind (tell t) (tell u)) _ (λ behind. higher-test t.row.outcome u.row.outcome (k (behind-is (tell t) (tell u) behind))))
        all_in_order);
    spent = each_pair-from tell stays_spent played (pairs-imply InOrder (λ t u. stays_spent (tell t) (tell u) ≡ true) played
        (λ t u k. implies-from (is_behind (tell t) (tell u) && lacks_spare t.row.outcome) _ (λ both.
        let parts = and_parts (is_behind (tell t) (tell u)) (lacks_spare t.row.outcome) both in
        spent-test t.row.outcome u.row.outcome (k (behind-is (tell t) (tell u) parts.0)) parts.1))
        all_in_order);
    ids = all-test tell (has_ids chain (map tell played)) played (all-places (λ (t : Played). has_ids chain (map tell played) (tell t) ≡ true) played (λ i t is.
        let ids = h.ids i t is in
        le-leb (versions_at t.line.node (map tell played)) (last_id chain) (omega (arith, versions-are t.line.node played, ids))));
    starts = each-tells (λ o. where_some (start_made o) (begins_at chain)) (begun-test version chain shelf);
    upto = each-tells (λ o. where_some (version_told o) (λ v. nat_le v version)) (upto-test version chain shelf);
    overtaken = all-test tell (is_overtaken (map (λ t. t.line) played) fault_lines) played (all-places (λ (t : Played). is_overtaken (map (λ (u : Played). u.line) played) fault_lines (tell t) ≡ true) played (λ i t is.
        overtaken-test t.row.outcome _ (λ v told.
        let k = h.found i t v is told in
        and_from (nat_le 2 v) (list_any (is_beside (tell t)) (map (λ (u : Played). u.line) played) || list_any (stops_beside (tell t)) fault_lines) (le-leb 2 v k.0) (found-beside played fault_lines t k.1))));
    last = each-tells (λ o. lacks_spare o ⇒ (last_id chain + 1 == shelf)) (last-test version chain shelf);
    counts = h.counts;
  }

pub replacements-agree : (played : List Played) (fault_lines : List FaultLine) (o : Told) (yard : Shown) → RunEnded played fault_lines o yard
    → ReplacementsAgree (map (λ t. t.line) played) fault_lines (told_of (map (λ t. t.line) played) o) o.version o.chain (length yard.cells)
replacements-agree played fault_lines o yard e =
    let lines = map (λ (t : Played). t.line) played in
    subst (λ told. ReplacementsAgree lines fault_lines told o.version o.chain (length yard.cells)) (sym (told-is played o e.rows))
    (told-agree played fault_lines o.version o.chain (length yard.cells) e.replacements)
