-- Trims: how far lines trimmed the log, and how far it is trimmed at the end.
use Rattle.std.proofs.Common.{◌≡◌, ◌≢◌, refl, sym, ap, ◌∙◌, subst, inl, inr, ◌⊎◌, ℕ, zero, suc, ◌+◌, ◌<◌, ◌≤◌, Bool, true, false, not, ◌&&◌, ◌||◌, ◌==◌, if◌then◌else◌, List, [], ◌∷◌, ◌++◌, Some, None, length, map, is_some, slice_get, nat_lt, nat_le, append_assoc, arith, le-leb, eq-eqb, eqb-true, ltb-true}
use Rattle.std.specs.Prelude.{filter}
use Rattle.std.specs.List.{AllByRecursion, list_all, list_any}
use Rattle.std.proofs.lemmas.Bool.{and_from, and_parts, both_ways, cases_lt, or_left, or_right}
use Rattle.std.proofs.lemmas.List.{map-append}
use Rattle.std.proofs.lemmas.Option.{slice_get_within}
use Rattle.engine_api.specs.declared.content.Content.TheVariants as content
use Rattle.engine_api.specs.declared.content.Placed.{Placed}
use Rattle.engine_api.specs.Members.{report_of, trim_asked}
use Rattle.engine_api.specs.Order.{numbers}
use Rattle.script_text.specs.declared.line.Admin.TheVariants.{Alive, Retire}
use Rattle.script_text.specs.declared.asks.Asks.{Asks}
use Rattle.script_text.specs.declared.asks.Asks.TheVariants as asks
use Rattle.script_text.specs.declared.asks.NamedLine.{NamedLine}
use Rattle.script_text.specs.declared.faults.FaultLine.{FaultLine}
use Rattle.row_text.specs.declared.row.Outcome.{Outcome}
use Rattle.row_text.specs.declared.row.Outcome.TheVariants as out
use Rattle.fitting_run.specs.declared.answered.Answered.{Answered}
use Rattle.fitting_run.specs.declared.told.Told.{Told}
use Rattle.fitting_run.specs.Answered.{is_open}
use Rattle.fitting_run.specs.Fits.{told_of}
use Rattle.fitting_run.specs.Lines.{asks_to_leave}
use Rattle.fitting_run.specs.Replacements.{is_behind}
use Rattle.fitting_run.specs.Reports.{is_retired, items_of, reported}
use Rattle.fitting_run.specs.Tests.{each_amid, some_is, where_some}
use Rattle.fitting_run.specs.Trims.{TrimsStand, asks_to_report, asks_to_trim, each_node, has_trim, is_allowed, is_as_allowed, is_reported, is_upto, may_allow, may_report, rises_to, trimmed, went_past}
use Rattle.fitting_run.proofs.Walks.{any-among}
use Rattle.fitting_run.specs.Yard.{Shown}
use Rattle.run_laws.specs.Ended.{IsReported, IsToLeave, LineTrimmed, MayHaveAllowed, Played, RunEnded, SaysTrim, SomeTurn, TellsFrom, TellsUpto, TrimsEnded}
use Rattle.run_laws.proofs.Behind.{any-at, any-mapped}
use Rattle.run_laws.proofs.Members.{Among, all-test, among-get}
use Rattle.run_laws.proofs.Replacing.{all-places, behind-is, pairs-places}
use Rattle.run_laws.proofs.Reporting.{among-at, nothing, says-some}
use Rattle.run_laws.proofs.Telling.{tell, told-is}
use Rattle.run_laws.proofs.Tests.{each_pair-from, implies-from, where_some-from}

-- Rows

is-trimmed : (o : Outcome) (d : ℕ) → trimmed o ≡ Some d → o ≡ out.Trimmed d
is-trimmed (out.Trimmed trim) d e = cc
is-trimmed o d e = absurd (nothing d e)

tells_trim : (o : Outcome) → is_some (trimmed o) ≡ true → (d : ℕ) × (o ≡ out.Trimmed d)
tells_trim (out.Trimmed trim) e = (trim, refl)
tells_trim o e = absurd (both_ways false refl e)

-- Numbers

all-numbers : (p : ℕ → Bool) (a n : ℕ) → ((k : ℕ) → a ≤ k → k < a + n → p k ≡ true) → list_all p (numbers a n) ≡ true
all-numbers p a zero f = refl
all-numbers p a (suc n) f =
    and_from (p a) (list_all p (numbers (a + 1) n)) (f a (omega arith) (omega arith))
    (all-numbers p (a + 1) n (λ k low high. f k (omega (arith, low)) (omega (arith, high))))

fails-number : (p : ℕ → Bool) (a n k : ℕ) → a ≤ k → k < a + n → p k ≡ false → not (list_all p (numbers a n)) ≡ true
fails-number p a zero k low high is = absurd (omega (arith, low, high))
fails-number p a (suc n) k low high is =
    elim (cases_lt a k) [
      | inl above ↦ later (p a) (list_all p (numbers (a + 1) n)) (fails-number p (a + 1) n k (omega (arith, above)) (omega (arith, high)) is)
      | inr upto ↦ let same : k ≡ a = omega (arith, low, upto) in ap (λ b. not (b && list_all p (numbers (a + 1) n))) (ap p (sym same) ∙ is)
    ]
  where
    later : (t u : Bool) → not u ≡ true → not (t && u) ≡ true
    later true u h = h
    later false u h = refl

-- Tests

none-passes : {A B : Type 0} (f : A → B) (p : B → Bool) (xs : List A) → AllByRecursion (λ x. p (f x) ≡ false) xs → list_any p (map f xs) ≡ false
none-passes f p [] h = refl
none-passes f p (x ∷ xs) h = ap (λ b. b || list_any p (map f xs)) h.0 ∙ none-passes f p xs h.1

fails-from : (b : Bool) → (b ≡ true → ⊥) → b ≡ false
fails-from true never = absurd (never refl)
fails-from false never = refl

-- a row that tells no more than this tells of no leave, and of no report of more
stays-by : (trim : ℕ) (o : Outcome) → TellsUpto trim o → (is_retired o || some_is (reported o) (nat_lt trim)) ≡ false
stays-by trim out.Retired h = absurd h
stays-by trim (out.Alive clean) h = fails-from (nat_lt trim clean) (λ e. let above = ltb-true trim clean e in omega (arith, above, h))
stays-by trim (out.Placed p reply late) h = refl
stays-by trim (out.Read after found) h = refl
stays-by trim (out.Extended v s) h = refl
stays-by trim (out.Moved v) h = refl
stays-by trim out.NoSpare h = refl
stays-by trim (out.Trimmed t) h = refl
stays-by trim (out.Open c) h = refl

-- a row tells that its node reported so much, or is open
may-so : (n : ℕ) (a : Asks) (o : Outcome) → TellsFrom n a o → (some_is (reported o) (nat_le n) || (asks_to_report a && is_open o)) ≡ true
may-so n (asks.Admin Alive) (out.Alive clean) h = or_left (nat_le n clean) (true && false) (le-leb n clean h)
may-so n (asks.Admin Alive) (out.Open cause) h = refl
may-so n a o h = absurd h

-- The place of an element behind others

get-front : {A : Type 0} (xs ys : List A) (i : ℕ) (x : A) → slice_get xs i ≡ Some x → slice_get (xs ++ ys) i ≡ Some x
get-front [] ys i x e = absurd (nothing x e)
get-front (y ∷ xs) ys zero x e = e
get-front (y ∷ xs) ys (suc i) x e = get-front xs ys i x e

get-here : {A : Type 0} (xs ys : List A) (x : A) → slice_get (xs ++ x ∷ ys) (length xs) ≡ Some x
get-here [] ys x = refl
get-here (y ∷ xs) ys x = get-here xs ys x

-- an element is before one, or is that, or is behind it
get-apart : {A : Type 0} (xs ys : List A) (y x : A) (i : ℕ) → slice_get (xs ++ y ∷ ys) i ≡ Some x → Among xs x ⊎ ((i ≡ length xs) × (y ≡ x)) ⊎ ((length xs < i) × Among ys x)
get-apart [] ys y x zero e = let same : y ≡ x = cc in inr (inl (refl, same))
get-apart [] ys y x (suc i) e = inr (inr (omega arith, among-get ys i x e))
get-apart (z ∷ xs) ys y x zero e = let same : z ≡ x = cc in inl (inl same)
get-apart (z ∷ xs) ys y x (suc i) e = elim (get-apart xs ys y x i e) [
  | inl before ↦ inl (inr before)
  | inr rest ↦ elim rest [
    | inl here ↦ inr (inl (omega (arith, here.0), here.1))
    | inr behind ↦ inr (inr (omega (arith, behind.0), behind.1))
  ]
]

-- each row, between those of the lines before it and of those behind it
walk : (test : List Answered → Answered → List Answered → Bool) (done rest : List Played)
    → ((before : List Played) (t : Played) (behind : List Played) → before ++ t ∷ behind ≡ done ++ rest → test (map tell before) (tell t) (map tell behind) ≡ true)
    → each_amid test (map tell done) (map tell rest) ≡ true
walk test done [] f = refl
walk test done (t ∷ rest) f =
    and_from (test (map tell done) (tell t) (map tell rest)) (each_amid test (map tell done ++ tell t ∷ []) (map tell rest)) (f done t rest refl)
    (subst (λ rows. each_amid test rows (map tell rest) ≡ true) (map-append tell done (t ∷ []))
    (walk test (done ++ t ∷ []) rest (λ before u behind e. f before u behind (e ∙ append_assoc done (t ∷ []) rest))))

module _ (played : List Played) (nodes : ℕ) (o : Told) (yard : Shown) (h : TrimsEnded played nodes o.chain yard.cells o.end) where
  -- before a line that trimmed some node hadn't left, and had reported no more
  stays : (before behind : List Played) (t : Played) (d : ℕ) → before ++ t ∷ behind ≡ played → (k : LineTrimmed played nodes o.chain.trim (length before) t d)
      → list_any (λ a. (a.line.node == k.node) && went_past d (tell t) a) (map tell before) ≡ false
  stays before behind t d whole k =
      none-passes tell (λ a. (a.line.node == k.node) && went_past d (tell t) a) before
      (all-places (λ (u : Played). ((u.line.node == k.node) && went_past d (tell t) (tell u)) ≡ false) before (λ i u at.
      fails-from ((u.line.node == k.node) && went_past d (tell t) (tell u)) (λ both.
      let node = and_parts (u.line.node == k.node) (went_past d (tell t) (tell u)) both in
      let past = and_parts (is_behind (tell u) (tell t)) (is_retired u.row.outcome || some_is (reported u.row.outcome) (nat_lt d)) node.1 in
      let low = k.told i u (subst (λ ts. slice_get ts i ≡ Some u) whole (get-front before (t ∷ behind) i u at)) (slice_get_within before i u at) (eqb-true u.line.node k.node node.0) (behind-is (tell u) (tell t) past.0) in
      both_ways (is_retired u.row.outcome || some_is (reported u.row.outcome) (nat_lt d)) (stays-by d u.row.outcome low) past.1)))

  -- each node may have allowed it by then
  module _ (before behind : List Played) (t : Played) (d : ℕ) (whole : before ++ t ∷ behind ≡ played) (node : ℕ) where
    abbrev passes : Answered → Bool
    passes a = (a.line.node == node) && may_allow d a

    abbrev beside : Answered → Bool
    beside a = not (is_behind (tell t) a)

    how-so : (a : Asks) (o : Outcome) → (a ≡ asks.Admin Retire) ⊎ TellsFrom d a o → (asks_to_leave a || (some_is (reported o) (nat_le d) || (asks_to_report a && is_open o))) ≡ true
    how-so a o (inl e) = or_left (asks_to_leave a) _ (ap asks_to_leave e)
    how-so a o (inr h) = or_right (asks_to_leave a) _ (may-so d a o h)

    node-allows : MayHaveAllowed played (length before) t d node → list_any passes (map tell before ++ filter beside (map tell behind)) ≡ true
    node-allows m = any-among passes beside (map tell before) (map tell behind) ∙ by (get-apart before behind t u m.at (subst (λ ts. slice_get ts m.at ≡ Some u) (sym whole) m.is))
      where
        u : Played
        u = m.turn

        so : passes (tell u) ≡ true
        so = and_from (u.line.node == node) (may_allow d (tell u)) (eq-eqb u.line.node node m.node_is) (how-so u.line.asks u.row.outcome m.how)

        isnt-behind : length before < m.at → beside (tell u) ≡ true
        isnt-behind high = ap not (fails-from (is_behind (tell t) (tell u)) (λ is. elim (behind-is (tell t) (tell u) is) [
          | inl later ↦ let phase = m.phase in omega (arith, later, phase)
          | inr same ↦ let low = m.own (sym same) in omega (arith, low, high)
        ]))

        by : Among before u ⊎ ((m.at ≡ length before) × (t ≡ u)) ⊎ ((length before < m.at) × Among behind u) → (list_any passes (map tell before) || list_any (λ a. beside a && passes a) (map tell behind)) ≡ true
        by (inl first) = or_left (list_any passes (map tell before)) _ (any-at tell passes before u first so)
        by (inr (inl here)) = let low = m.own (ap (λ (x : Played). x.line.node) (sym here.1)) in absurd (omega (arith, low, here.0))
        by (inr (inr last)) =
            or_right (list_any passes (map tell before)) _
            (any-at tell (λ a. beside a && passes a) behind u last.1 (and_from (beside (tell u)) (passes (tell u)) (isnt-behind last.0) so))

  reaches : (before : List Played) (t : Played) (behind : List Played) → before ++ t ∷ behind ≡ played → is_as_allowed nodes (map tell before) (tell t) (map tell behind) ≡ true
  reaches before t behind whole =
      where_some-from (trimmed t.row.outcome) (λ d. not (each_node nodes (went_past d (tell t)) (map tell before)) && ((d == 0) || each_node nodes (may_allow d) (map tell before ++ filter (λ a. not (is_behind (tell t) a)) (map tell behind)))) (λ d is.
      let here = subst (λ ts. slice_get ts (length before) ≡ Some t) whole (get-here before behind t) in
      let k = h.each (length before) t d here (is-trimmed t.row.outcome d is) in
      let least = k.least in
      let most = k.most in
      and_from (not (each_node nodes (went_past d (tell t)) (map tell before))) ((d == 0) || each_node nodes (may_allow d) (map tell before ++ filter (λ a. not (is_behind (tell t) a)) (map tell behind)))
      (fails-number (λ node. list_any (λ a. (a.line.node == node) && went_past d (tell t) a) (map tell before)) 1 nodes k.node least (omega (arith, most)) (stays before behind t d whole k))
      (by d k (d == 0) refl))
    where
      by : (d : ℕ) → LineTrimmed played nodes o.chain.trim (length before) t d → (b : Bool) → (d == 0) ≡ b → ((d == 0) || each_node nodes (may_allow d) (map tell before ++ filter (λ a. not (is_behind (tell t) a)) (map tell behind))) ≡ true
      by d k true e = or_left (d == 0) _ e
      by d k false e =
          or_right (d == 0) _
          (all-numbers (λ node. list_any (λ a. (a.line.node == node) && may_allow d a) (map tell before ++ filter (λ a. not (is_behind (tell t) a)) (map tell behind))) 1 nodes (λ node low high.
          elim (k.allowed node low (omega (arith, high))) [
            | inl none ↦ absurd (both_ways (d == 0) e (eq-eqb d 0 none))
            | inr m ↦ node-allows before behind t d whole node m
          ]))

  rises : (i j : ℕ) (t u : Played) → slice_get played i ≡ Some t → slice_get played j ≡ Some u → i < j → rises_to (tell t) (tell u) ≡ true
  rises i j t u at there low =
      implies-from (is_behind (tell t) (tell u)) _ (λ behind.
      where_some-from (trimmed t.row.outcome) (λ d. where_some (trimmed u.row.outcome) (nat_le d)) (λ d is.
      where_some-from (trimmed u.row.outcome) (nat_le d) (λ more also.
      le-leb d more ((h.each j u more there (is-trimmed u.row.outcome more also)).rises i t d at low (behind-is (tell t) (tell u) behind) (is-trimmed t.row.outcome d is)))))

  upto-end : (i : ℕ) (t : Played) → slice_get played i ≡ Some t → is_upto o.chain.trim (tell t) ≡ true
  upto-end i t at =
      where_some-from (trimmed t.row.outcome) (λ d. nat_le d o.chain.trim) (λ d is.
      le-leb d o.chain.trim ((h.each i t d at (is-trimmed t.row.outcome d is)).upto))

  abbrev lines : List NamedLine
  lines = map (λ t. t.line) played

  abbrev items : List Placed
  items = items_of o.chain yard.cells

  -- a trim that stands in the log
  asks-so : (trim : ℕ) → SaysTrim o.chain yard.cells trim → list_any (λ p. some_is (trim_asked p.content) (nat_le trim)) items ≡ true
  asks-so trim k = says-some o.chain yard.cells trim (content.Trim k.position) (λ c. some_is (trim_asked c) (nat_le trim)) k.says (le-leb trim k.position k.above)

  in-log : has_trim (map tell played) o.chain.trim items ≡ true
  in-log = by (o.chain.trim == 0) refl
    where
      by : (b : Bool) → (o.chain.trim == 0) ≡ b → has_trim (map tell played) o.chain.trim items ≡ true
      by false e = implies-from (not (o.chain.trim == 0) || list_any (λ b. is_some (trimmed b.row.outcome)) (map tell played)) (list_any (λ p. some_is (trim_asked p.content) (nat_le o.chain.trim)) items) (λ is. asks-so o.chain.trim (h.rests (λ none. both_ways (o.chain.trim == 0) e (eq-eqb o.chain.trim 0 none))))
      by true e =
          let trim : o.chain.trim ≡ 0 = eqb-true o.chain.trim 0 e in
          implies-from (not (o.chain.trim == 0) || list_any (λ b. is_some (trimmed b.row.outcome)) (map tell played)) (list_any (λ p. some_is (trim_asked p.content) (nat_le o.chain.trim)) items) (λ is.
          let told : list_any (λ b. is_some (trimmed b.row.outcome)) (map tell played) ≡ true = subst (λ t. (not t || list_any (λ b. is_some (trimmed b.row.outcome)) (map tell played)) ≡ true) e is in
          let x = any-mapped tell (λ b. is_some (trimmed b.row.outcome)) played told in
          let at = among-at played x.0 x.1 in
          let tells = tells_trim x.0.row.outcome x.2 in
          asks-so o.chain.trim (subst (SaysTrim o.chain yard.cells) (sym trim) (h.stand at.0 x.0 tells.0 at.1 tells.1 trim)))

  -- a node that reported so much
  module _ (node : ℕ) (k : IsReported played o.chain yard.cells o.chain.trim node) where
    abbrev one : Played
    one = k.line.turn

    abbrev may : Bool
    may = may_report o.chain.trim (tell one)

    abbrev says : Bool
    says = list_any (λ p. some_is (report_of one.line.node p.content) (nat_le o.chain.trim)) items

    report-is : (other n : ℕ) (b : Bool) → (node == other) ≡ b → node ≡ other → o.chain.trim ≤ n → some_is (if node == other then Some n else None) (nat_le o.chain.trim) ≡ true
    report-is other n b e same above = subst (λ t. some_is (if t then Some n else None) (nat_le o.chain.trim) ≡ true) (sym (eq-eqb node other same)) (le-leb o.chain.trim n above)

    reported-so : is_reported o.chain.trim items (tell one) ≡ true
    reported-so =
        and_from may says (may-so o.chain.trim one.line.asks one.row.outcome k.line.so.tells)
        (says-some o.chain yard.cells o.chain.trim (content.Alive node k.says.position) (λ c. some_is (report_of one.line.node c) (nat_le o.chain.trim)) k.says.says
        (report-is one.line.node k.says.position (node == one.line.node) refl (sym k.line.so.node_is) k.says.above))

    one-among : Among played one
    one-among = among-get played k.line.at one k.line.is

  some-reports : (node : ℕ) → IsReported played o.chain yard.cells o.chain.trim node → list_any (is_reported o.chain.trim items) (map tell played) ≡ true
  some-reports node k = any-at tell (is_reported o.chain.trim items) played k.line.turn (one-among node k) (reported-so node k)

  abbrev lets_go : Answered → Bool
  lets_go a = asks_to_leave a.line.asks || is_reported o.chain.trim items a

  goes-so : (node : ℕ) → SomeTurn played (IsToLeave node) ⊎ IsReported played o.chain yard.cells o.chain.trim node → list_any (λ a. (a.line.node == node) && lets_go a) (map tell played) ≡ true
  goes-so node (inl k) =
      any-at tell (λ a. (a.line.node == node) && lets_go a) played k.turn (among-get played k.at k.turn k.is)
      (and_from (k.turn.line.node == node) (lets_go (tell k.turn)) (eq-eqb k.turn.line.node node k.so.node_is)
      (or_left (asks_to_leave k.turn.line.asks) (is_reported o.chain.trim items (tell k.turn)) (ap asks_to_leave k.so.asks)))
  goes-so node (inr k) =
      any-at tell (λ a. (a.line.node == node) && lets_go a) played k.line.turn (one-among node k)
      (and_from (k.line.turn.line.node == node) (lets_go (tell k.line.turn)) (eq-eqb k.line.turn.line.node node k.line.so.node_is)
      (or_right (asks_to_leave k.line.turn.line.asks) (is_reported o.chain.trim items (tell k.line.turn)) (reported-so node k)))

  allowed-so : (b : Bool) → (o.chain.trim == 0) ≡ b → is_allowed lines (map tell played) nodes o.chain.trim items ≡ true
  allowed-so true e = or_left (o.chain.trim == 0) _ e
  allowed-so false e =
      let some : o.chain.trim ≢ 0 = λ none. both_ways (o.chain.trim == 0) e (eq-eqb o.chain.trim 0 none) in
      let k = h.asked some in
      let r = h.some some in
      or_right (o.chain.trim == 0) _
      (and_from (list_any (λ l. asks_to_trim l.asks) lines) _ (any-at (λ (t : Played). t.line) (λ l. asks_to_trim l.asks) played k.turn (among-get played k.at k.turn k.is) (ap asks_to_trim k.so))
      (and_from (list_any (is_reported o.chain.trim items) (map tell played)) (each_node nodes lets_go (map tell played)) (some-reports r.0 r.1)
      (all-numbers (λ node. list_any (λ a. (a.line.node == node) && lets_go a) (map tell played)) 1 nodes (λ node low high. goes-so node (h.kept node low (omega (arith, high)) some)))))

  trims-stand_told : TrimsStand lines (map tell played) nodes o.chain.trim items o.end
  trims-stand_told = record {
    upto = all-test tell (is_upto o.chain.trim) played (all-places (λ (t : Played). is_upto o.chain.trim (tell t) ≡ true) played upto-end);
    within = h.within;
    each = walk (is_as_allowed nodes) [] played reaches;
    rise = each_pair-from tell rises_to played (pairs-places (λ t u. rises_to (tell t) (tell u) ≡ true) played rises);
    stand = in-log;
    allowed = allowed-so (o.chain.trim == 0) refl;
  }

pub trims-stand : (played : List Played) (fault_lines : List FaultLine) (o : Told) (yard : Shown) → RunEnded played fault_lines o yard
    → TrimsStand (map (λ t. t.line) played) (told_of (map (λ t. t.line) played) o) (length yard.disks) o.chain.trim (items_of o.chain yard.cells) o.end
trims-stand played fault_lines o yard e =
    subst (λ told. TrimsStand (map (λ (t : Played). t.line) played) told (length yard.disks) o.chain.trim (items_of o.chain yard.cells) o.end) (sym (told-is played o e.rows))
    (trims-stand_told played (length yard.disks) o yard e.trims)
