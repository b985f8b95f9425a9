-- What the rows tell of replacements of the last loglet, by the chain that is told.
use Rattle.std.proofs.Common.{◌≡◌, refl, sym, ap, ◌∙◌, subst, ◌⊎◌, inl, inr, ⊎_elim, ℕ, suc, ◌+◌, ◌<◌, ◌≤◌, ◌&&◌, ◌==◌, Bool, true, false, cond, List, [], ◌∷◌, Option, Some, None, map, length, count_by, slice_get, nat_lt, arith, eq-eqb}
use Rattle.std.specs.Prelude.{is_some}
use Rattle.std.specs.List.{list_any}
use Rattle.std.proofs.lemmas.Bool.{and_from, and_parts, or_left, or_right}
use Rattle.std.proofs.lemmas.Bool.Decides.{nat_tests}
use Rattle.std.proofs.lemmas.Option.{slice_get_cases, slice_get_within}
use Rattle.delos_types.specs.declared.chain.Segment.{Segment}
use Rattle.delos_types.specs.declared.chain.Chain.{Chain}
use Rattle.chain_map.specs.Chain.{first_start, last_id}
use Rattle.legal_journal.specs.Law.{Law}
use Rattle.legal_journal.specs.declared.events.Event.{Event}
use Rattle.legal_journal.specs.Journal.{IsLegal, RegisterState, start, state_of}
use Rattle.legal_journal.proofs.Legal.{goes_on}
use Rattle.virtual_log.specs.declared.extend.Extension.{Extension}
use Rattle.virtual_log.specs.declared.extend.Extension.TheVariants.{Extended, Moved, NoSpare}
use Rattle.node_lines.specs.Chains.{HasStarted}
use Rattle.script_text.specs.declared.line.Admin.TheVariants.{Extend, Alive, Retire, Trim}
use Rattle.script_text.specs.declared.asks.NamedLine.{NamedLine}
use Rattle.script_text.specs.declared.faults.FaultLine.{FaultLine}
use Rattle.script_text.specs.declared.asks.Asks.{Asks}
use Rattle.script_text.specs.declared.asks.Asks.TheVariants as asks
use Rattle.row_text.specs.declared.row.Row.{Row}
use Rattle.row_text.specs.declared.row.Outcome.{Outcome}
use Rattle.row_text.specs.declared.row.Outcome.TheVariants as out
use Rattle.fitting_run.specs.Replacements.{begins_at, goes_by_ones, version_told}
use Rattle.node_lines.specs.declared.desk.Desk.{Desk}
use Rattle.node_lines.specs.declared.lines.Looked.{Looked}
use Rattle.node_lines.specs.declared.lines.Looked.TheVariants as looked
use Rattle.run_laws.specs.Ended.{IsApart, IsBeside, IsReplaced, IsStoppedBeside, Played, Precedes, Replacements, SomeTurn, tells_version}
use Rattle.run_laws.proofs.Members.{Among, contained-among}
use Rattle.node_course.specs.Script.{AreLines, failure_of_look}
use Rattle.node_course.specs.Moments.{NodeCourse, moment}
use Rattle.node_course.specs.Played.{Came, goes_further, went_further}
use Rattle.node_course.specs.Replacing.{AsksNode, GoesBefore, IsReplaced as IsReplacedSo}
use Rattle.node_course.specs.Joined.{AreJoined}
use Rattle.node_course.proofs.Lines.{at_get, count-cons}
use Rattle.node_course.proofs.Moments.{grown_legal}
use Rattle.node_course.proofs.Parts.{run_legal, run_seen}
use Rattle.node_course.proofs.Segments.{all_counted, each_told}
use Rattle.node_course.proofs.Versions.{stands_now, versions_apart, versions_rise}
use Rattle.node_course.specs.FaultLines.{HasLineIn, HasStopIn}
use Rattle.run_ends.specs.Closing.{HasBeside, WorkerEnd}
use Rattle.run_ends.specs.Rows.{AreRows, Tells, desk_for, played_of}
use Rattle.run_ends.proofs.Turns.{lines_are as rows_lines, turn_is, turn_of}

-- Where a segment begins

segment_begins : (ss : List Segment) (pos : ℕ) → Among (map (λ (s : Segment). s.start) ss) pos → list_any (λ (s : Segment). s.start == pos) ss ≡ true
segment_begins [] pos h = absurd h
segment_begins (s ∷ ss) pos (inl h) = or_left (s.start == pos) (list_any (λ (r : Segment). r.start == pos) ss) (eq-eqb s.start pos h)
segment_begins (s ∷ ss) pos (inr h) = or_right (s.start == pos) (list_any (λ (r : Segment). r.start == pos) ss) (segment_begins ss pos h)

begins : (chain : Chain) (pos : ℕ) → HasStarted chain pos → begins_at chain pos ≡ true
begins chain pos (inl h) = or_left (list_any (λ (s : Segment). s.start == pos) chain.segments) (nat_lt pos (first_start chain)) (segment_begins chain.segments pos (contained-among (map (λ (s : Segment). s.start) chain.segments) pos h))
begins chain pos (inr h) = or_right (list_any (λ (s : Segment). s.start == pos) chain.segments) (nat_lt pos (first_start chain)) (grind (arith, nat_tests, h))

-- What a row tells

abbrev extension_in : Outcome → Option Extension
extension_in (out.Extended version start) = Some (Extended version start)
extension_in (out.Moved version) = Some (Moved version)
extension_in out.NoSpare = Some NoSpare
extension_in answered = None

none_some : (x : Extension) → None ≡ Some x → ⊥
none_some x e = cc

same_some : (x y : Extension) → Some x ≡ Some y → x ≡ y
same_some x y e = cc

came_to : (look : Option Looked) (x y : Extension) → look ≡ Some (looked.Extended x) → Some x ≡ Some y → look ≡ Some (looked.Extended y)
came_to look x y t e = t ∙ ap (λ z. Some (looked.Extended z)) (same_some x y e)

look_is : (d : Option Desk) (look : Option Looked) (a : Asks) (o : Outcome) (x : Extension) → Tells d look a o → extension_in o ≡ Some x → look ≡ Some (looked.Extended x)
look_is (Some d) look (asks.Logged s r command) (out.Placed place reply late) x t e = absurd (none_some x e)
look_is (Some d) look (asks.Logged s r command) (out.Open cause) x t e = absurd (none_some x e)
look_is (Some d) look (asks.Look s query) (out.Read after answer) x t e = absurd (none_some x e)
look_is (Some d) look (asks.Look s query) (out.Open cause) x t e = absurd (none_some x e)
look_is None look (asks.Admin Extend) (out.Extended version start) x t e = came_to look (Extended version start) x t e
look_is None look (asks.Admin Extend) (out.Moved version) x t e = came_to look (Moved version) x t e
look_is None look (asks.Admin Extend) out.NoSpare x t e = came_to look NoSpare x t e
look_is None look (asks.Admin Extend) (out.Open cause) x t e = absurd (none_some x e)
look_is None look (asks.Admin Alive) (out.Alive clean) x t e = absurd (none_some x e)
look_is None look (asks.Admin Alive) (out.Open cause) x t e = absurd (none_some x e)
look_is None look (asks.Admin Retire) out.Retired x t e = absurd (none_some x e)
look_is None look (asks.Admin Retire) (out.Open cause) x t e = absurd (none_some x e)
look_is None look (asks.Admin Trim) (out.Trimmed trim) x t e = absurd (none_some x e)
look_is None look (asks.Admin Trim) (out.Open cause) x t e = absurd (none_some x e)
look_is d look a o x t e = absurd t

-- What the register at the end has of what a line came to

abbrev StandsSo : RegisterState → ℕ → Extension → Type 0
StandsSo now cells (Extended version start) = (version ≤ now.version) × HasStarted now.chain start
StandsSo now cells (Moved version) = version ≤ now.version
StandsSo now cells NoSpare = last_id now.chain + 1 ≡ cells

abbrev AreApart : Extension → Extension → Type 0
AreApart (Extended v s) (Extended w r) = ((v < w) × (s ≤ r)) ⊎ ((w < v) × (r ≤ s))
AreApart x y = Unit {0}

stands_so : (cells who : ℕ) (old new : List Event) (x : Extension) → IsReplacedSo cells who old new x → StandsSo (state_of new).register cells x
stands_so cells who old new (Extended version start) h = (h.0.within, h.0.started)
stands_so cells who old new (Moved version) h = h.0.within
stands_so cells who old new NoSpare h = h

-- of each row, and of any two, by the replacements that they tell

replaced_from : (version : ℕ) (chain : Chain) (cells : ℕ) (now : RegisterState) (o : Outcome) → now.version ≡ version → now.chain ≡ chain → ((x : Extension) → extension_in o ≡ Some x → StandsSo now cells x) → IsReplaced version chain cells o
replaced_from version chain cells now (out.Extended v s) same is each =
    let k = each (Extended v s) refl in
    (let low = k.0 in omega (arith, low, same), subst (λ c. begins_at c s ≡ true) is (begins now.chain s k.1))
replaced_from version chain cells now (out.Moved v) same is each = let low = each (Moved v) refl in omega (arith, low, same)
replaced_from version chain cells now out.NoSpare same is each = ap (λ c. last_id c + 1) (sym is) ∙ each NoSpare refl
replaced_from version chain cells now (out.Placed place reply late) same is each = tt
replaced_from version chain cells now (out.Read after answer) same is each = tt
replaced_from version chain cells now (out.Alive clean) same is each = tt
replaced_from version chain cells now (out.Trimmed trim) same is each = tt
replaced_from version chain cells now out.Retired same is each = tt
replaced_from version chain cells now (out.Open cause) same is each = tt

apart_from : (o p : Outcome) → ((x y : Extension) → extension_in o ≡ Some x → extension_in p ≡ Some y → AreApart x y) → IsApart o p
apart_from (out.Extended v s) (out.Extended w r) both = both (Extended v s) (Extended w r) refl refl
apart_from (out.Extended v s) (out.Moved w) both = tt
apart_from (out.Extended v s) out.NoSpare both = tt
apart_from (out.Extended v s) (out.Placed place reply late) both = tt
apart_from (out.Extended v s) (out.Read after answer) both = tt
apart_from (out.Extended v s) (out.Alive clean) both = tt
apart_from (out.Extended v s) (out.Trimmed trim) both = tt
apart_from (out.Extended v s) out.Retired both = tt
apart_from (out.Extended v s) (out.Open cause) both = tt
apart_from (out.Moved v) p both = tt
apart_from out.NoSpare p both = tt
apart_from (out.Placed place reply late) p both = tt
apart_from (out.Read after answer) p both = tt
apart_from (out.Alive clean) p both = tt
apart_from (out.Trimmed trim) p both = tt
apart_from out.Retired p both = tt
apart_from (out.Open cause) p both = tt

precedes_from : (o p : Outcome) → ((x y : Extension) → extension_in o ≡ Some x → extension_in p ≡ Some y → GoesBefore x y) → Precedes o p
precedes_from (out.Extended v s) (out.Extended w r) both = both (Extended v s) (Extended w r) refl refl
precedes_from (out.Extended v s) (out.Moved w) both = both (Extended v s) (Moved w) refl refl
precedes_from (out.Extended v s) out.NoSpare both = tt
precedes_from (out.Extended v s) (out.Placed place reply late) both = tt
precedes_from (out.Extended v s) (out.Read after answer) both = tt
precedes_from (out.Extended v s) (out.Alive clean) both = tt
precedes_from (out.Extended v s) (out.Trimmed trim) both = tt
precedes_from (out.Extended v s) out.Retired both = tt
precedes_from (out.Extended v s) (out.Open cause) both = tt
precedes_from (out.Moved v) (out.Extended w r) both = both (Moved v) (Extended w r) refl refl
precedes_from (out.Moved v) (out.Moved w) both = both (Moved v) (Moved w) refl refl
precedes_from (out.Moved v) out.NoSpare both = tt
precedes_from (out.Moved v) (out.Placed place reply late) both = tt
precedes_from (out.Moved v) (out.Read after answer) both = tt
precedes_from (out.Moved v) (out.Alive clean) both = tt
precedes_from (out.Moved v) (out.Trimmed trim) both = tt
precedes_from (out.Moved v) out.Retired both = tt
precedes_from (out.Moved v) (out.Open cause) both = tt
precedes_from out.NoSpare (out.Extended w r) both = both NoSpare (Extended w r) refl refl
precedes_from out.NoSpare (out.Moved w) both = both NoSpare (Moved w) refl refl
precedes_from out.NoSpare out.NoSpare both = tt
precedes_from out.NoSpare (out.Placed place reply late) both = tt
precedes_from out.NoSpare (out.Read after answer) both = tt
precedes_from out.NoSpare (out.Alive clean) both = tt
precedes_from out.NoSpare (out.Trimmed trim) both = tt
precedes_from out.NoSpare out.Retired both = tt
precedes_from out.NoSpare (out.Open cause) both = tt
precedes_from (out.Placed place reply late) p both = tt
precedes_from (out.Read after answer) p both = tt
precedes_from (out.Alive clean) p both = tt
precedes_from (out.Trimmed trim) p both = tt
precedes_from out.Retired p both = tt
precedes_from (out.Open cause) p both = tt

-- Counting those that tell a version

told : (o : Outcome) → is_some (version_told o) ≡ true → (x : Extension) × (extension_in o ≡ Some x) × (goes_further (Some (looked.Extended x)) ≡ true)
told (out.Extended v s) e = (Extended v s, refl, refl)
told (out.Moved v) e = (Moved v, refl, refl)
told out.NoSpare e = absurd (cc)
told (out.Placed place reply late) e = absurd (cc)
told (out.Read after answer) e = absurd (cc)
told (out.Alive clean) e = absurd (cc)
told (out.Trimmed trim) e = absurd (cc)
told out.Retired e = absurd (cc)
told (out.Open cause) e = absurd (cc)

one_low : (b c : Bool) → (b ≡ true → c ≡ true) → cond b 1 0 ≤ cond c 1 0
one_low false c h = omega arith
one_low true c h = let e : ◌≡◌ {A = ℕ} (cond c 1 0) 1 = ap {B = ℕ} (λ b. cond b 1 0) (h refl) in omega (arith, e)

-- of a node's lines
count_low : (node : ℕ) (lines : List NamedLine) (rows : List Row) (looks : List (Option Looked)) → ((i : ℕ) (t : Played) (k : Option Looked) → slice_get (played_of lines rows looks) i ≡ Some t → slice_get looks i ≡ Some k → is_some (version_told t.row.outcome) ≡ true → goes_further k ≡ true)
    → count_by (tells_version node) (played_of lines rows looks) ≤ went_further node lines looks
count_low node [] rows looks each = omega arith
count_low node (l ∷ lines) [] looks each = omega arith
count_low node (l ∷ lines) (row ∷ rows) [] each = omega arith
count_low node (l ∷ lines) (row ∷ rows) (look ∷ looks) each =
    let t : Played = record { line = l; row = row; paid = failure_of_look look } in
    let a = count-cons (tells_version node) t (played_of lines rows looks) in
    let one = one_low (tells_version node t) ((l.node == node) && goes_further look) (λ e.
    let both = and_parts (l.node == node) (is_some (version_told row.outcome)) e in
    and_from (l.node == node) (goes_further look) both.0 (each 0 t look refl refl both.1)) in
    let rest = count_low node lines rows looks (λ i u k at look_at. each (suc i) u k at look_at) in
    omega (arith, a, one, rest)

-- A row tells a version exactly where its line found the chain further on.

not_replaced : (look : Option Looked) → ((x : Extension) → look ≡ Some (looked.Extended x) → ⊥) → false ≡ goes_further look
not_replaced None h = refl
not_replaced (Some (looked.Found after found)) h = refl
not_replaced (Some (looked.Kept cause)) h = refl
not_replaced (Some (looked.Failed cause)) h = refl
not_replaced (Some (looked.Extended x)) h = absurd (h x refl)
not_replaced (Some (looked.Reported position)) h = refl
not_replaced (Some looked.Left) h = refl
not_replaced (Some (looked.Trimmed trim)) h = refl

told_so : (d : Option Desk) (look : Option Looked) (a : Asks) (o : Outcome) → Tells d look a o → ((x : Extension) → look ≡ Some (looked.Extended x) → AsksNode a) → is_some (version_told o) ≡ goes_further look
told_so (Some d) look (asks.Logged s r command) (out.Placed place reply late) t own = not_replaced look own
told_so (Some d) look (asks.Logged s r command) (out.Open cause) t own = not_replaced look own
told_so (Some d) look (asks.Look s query) (out.Read after answer) t own = sym (ap goes_further t)
told_so (Some d) look (asks.Look s query) (out.Open cause) (inl t) own = sym (ap goes_further t)
told_so (Some d) look (asks.Look s query) (out.Open cause) (inr t) own = sym (ap goes_further t)
told_so None look (asks.Admin Extend) (out.Extended version start) t own = sym (ap goes_further t)
told_so None look (asks.Admin Extend) (out.Moved version) t own = sym (ap goes_further t)
told_so None look (asks.Admin Extend) out.NoSpare t own = sym (ap goes_further t)
told_so None look (asks.Admin Extend) (out.Open cause) t own = sym (ap goes_further t)
told_so None look (asks.Admin Alive) (out.Alive clean) t own = sym (ap goes_further t)
told_so None look (asks.Admin Alive) (out.Open cause) t own = sym (ap goes_further t)
told_so None look (asks.Admin Retire) out.Retired t own = sym (ap goes_further t)
told_so None look (asks.Admin Retire) (out.Open cause) t own = sym (ap goes_further t)
told_so None look (asks.Admin Trim) (out.Trimmed trim) t own = sym (ap goes_further t)
told_so None look (asks.Admin Trim) (out.Open cause) t own = sym (ap goes_further t)
told_so d look a o t own = absurd t

abbrev tells_one : Row → Bool
tells_one row = is_some (version_told row.outcome)

count_same : (rows : List Row) (looks : List (Option Looked)) → length rows ≡ length looks → ((i : ℕ) (row : Row) (look : Option Looked) → slice_get rows i ≡ Some row → slice_get looks i ≡ Some look → tells_one row ≡ goes_further look)
    → count_by tells_one rows ≡ count_by goes_further looks
count_same [] [] size each = refl
count_same [] (look ∷ looks) size each = absurd (omega (arith, size))
count_same (row ∷ rows) [] size each = absurd (omega (arith, size))
count_same (row ∷ rows) (look ∷ looks) size each =
    let a = count-cons tells_one row rows in
    let b = count-cons goes_further look looks in
    let one : ◌≡◌ {A = ℕ} (cond (tells_one row) 1 0) (cond (goes_further look) 1 0) = ap {B = ℕ} (λ t. cond t 1 0) (each 0 row look refl refl) in
    let rest = count_same rows looks (omega (arith, size)) (λ i r k at look_at. each (suc i) r k at look_at) in
    omega (arith, a, b, one, rest)

-- the first chain has version 1, and versions rise
version_least : (law : Law) (seen : List Event) → IsLegal law seen → 1 ≤ (state_of seen).register.version
version_least law seen legal = (goes_on law [] seen legal).version

-- All of them

module _ (law : Law) (lines : List NamedLine) (home : ℕ → ℕ) (run : NodeCourse) (courses : ℕ → NodeCourse) (workers : List WorkerEnd) (looks : List (Option Looked)) (rows : List Row) (lines_are : AreLines lines home (length workers)) (join : AreJoined law lines home (length workers) run looks courses) (are : AreRows lines workers looks rows) where
  abbrev played : List Played
  played = played_of lines rows looks

  came : (i : ℕ) (t : Played) (x : Extension) → slice_get played i ≡ Some t → extension_in t.row.outcome ≡ Some x → Came lines looks t.line.node i t.line (looked.Extended x)
  came i t x at is =
      let k = turn_is lines rows looks i t at in
      let row = are.each i k.line k.look k.row k.line_at k.look_at k.row_at in
      let same : t.row.outcome ≡ k.row.outcome = ap (λ (y : Played). y.row.outcome) k.is in
      record {
        is = k.line_at ∙ ap Some (sym (ap (λ (y : Played). y.line) k.is));
        own = refl;
        looked = k.look_at ∙ ap Some (look_is (desk_for workers k.line.node k.line.asks) k.look k.line.asks k.row.outcome x row.tells (sym (ap extension_in same) ∙ is));
      }

  -- the line's node is one of them
  there : (i : ℕ) (t : Played) → slice_get played i ≡ Some t → (1 ≤ t.line.node) × (t.line.node ≤ length workers)
  there i t at =
      let k = turn_is lines rows looks i t at in
      at_get (λ (l : NamedLine). (1 ≤ l.node) × (l.node ≤ length workers)) lines i t.line lines_are.nodes_are (k.line_at ∙ ap Some (sym (ap (λ (y : Played). y.line) k.is)))

  -- each node's rows that tell a version are no more than its lines that found the chain further on
  pub own_told : (node : ℕ) → count_by (tells_version node) played ≤ went_further node lines looks
  own_told node = count_low node lines rows looks each
    where
      same_look : (a b : Option Looked) → Some a ≡ Some b → a ≡ b
      same_look a b e = cc

      each : (i : ℕ) (t : Played) (k : Option Looked) → slice_get played i ≡ Some t → slice_get looks i ≡ Some k → is_some (version_told t.row.outcome) ≡ true → goes_further k ≡ true
      each i t k at look_at is =
          let x = told t.row.outcome is in
          ap goes_further (same_look k (Some (looked.Extended x.0)) (sym look_at ∙ (came i t x.0 at x.1).looked)) ∙ x.2

  -- all rows tell as many versions as lines found the chain further on
  pub all_rows_told : length looks ≡ length lines → count_by tells_one rows ≡ count_by goes_further looks
  all_rows_told size = count_same rows looks (are.size ∙ sym size) each
    where
      own : (i : ℕ) (l : NamedLine) (look : Option Looked) → slice_get lines i ≡ Some l → slice_get looks i ≡ Some look → (x : Extension) → look ≡ Some (looked.Extended x) → AsksNode l.asks
      own i l look at look_at x is =
          let node = at_get (λ (m : NamedLine). (1 ≤ m.node) × (m.node ≤ length workers)) lines i l lines_are.nodes_are at in
          (join.did l.node node.0 node.1).replaced.asked i l x (record { is = at; own = refl; looked = look_at ∙ ap Some is })

      each : (i : ℕ) (row : Row) (look : Option Looked) → slice_get rows i ≡ Some row → slice_get looks i ≡ Some look → tells_one row ≡ goes_further look
      each i row look at look_at =
          let low = slice_get_within rows i row at in
          elim ((slice_get_cases lines i).1) [
            | inl some ↦ told_so (desk_for workers some.0.node some.0.asks) look some.0.asks row.outcome (are.each i some.0 look row some.2 look_at at).tells (own i some.0 look some.2 look_at)
            | inr none ↦ absurd (let high = none.0 in omega (arith, low, high, are.size))
          ]

  -- where a line found another's, another node has a part in its phase
  module _ (size : length looks ≡ length lines) (fault_lines : List FaultLine) (beside : (i : ℕ) (l : NamedLine) (version : ℕ) → slice_get lines i ≡ Some l → slice_get looks i ≡ Some (Some (looked.Extended (Moved version))) → HasBeside lines fault_lines l) where
    others_line : (i : ℕ) (t : Played) (version : ℕ) → slice_get played i ≡ Some t → t.row.outcome ≡ out.Moved version → (2 ≤ version) × (SomeTurn played (IsBeside t) ⊎ IsStoppedBeside fault_lines t)
    others_line i t version at is =
        let c = came i t (Moved version) at (ap extension_in is) in
        let node = there i t at in
        let above = (stands_now law lines home (length workers) run looks courses lines_are join t.line.node i t.line (Moved version) c).0.above in
        let first = version_least law (moment run t.line.phase)
        (grown_legal law (moment run t.line.phase) run.seen (run_seen law lines home (length workers) run looks courses join t.line.node node.0 node.1 t.line.phase)
        (run_legal law lines home (length workers) run looks courses join (let low = node.0 in let high = node.1 in omega (arith, low, high)))) in
        let b = beside i t.line version c.is c.looked in (
          omega (arith, above, first),
          ⊎_elim
              (λ (k : HasLineIn lines t.line.phase b.node).
              let u = turn_of played k.at k.line (ap (λ ls. slice_get ls k.at) (rows_lines lines rows looks are.size size) ∙ k.is) in
              inl (record {
                at = k.at;
                turn = u.0;
                is = u.1;
                so = record { phase_is = ap (λ (l : NamedLine). l.phase) u.2 ∙ k.phase_is; another = λ same. b.another (sym k.node_is ∙ sym (ap (λ (l : NamedLine). l.node) u.2) ∙ same) };
              }))
              (λ (k : HasStopIn fault_lines t.line.phase b.node). inr (record { at = k.at; line = k.line; is = k.is; phase_is = k.phase_is; node = b.node; after = k.after; asks_is = k.asks_is; another = b.another }))
              b.part,
        )

    -- what the run has of its lines, the rows tell of the chain that is told
    pub replacements : 1 ≤ length workers → (version : ℕ) (chain : Chain) (cells : ℕ) → (state_of run.seen).register.version ≡ version → (state_of run.seen).register.chain ≡ chain → length law.shelf ≡ cells → Replacements played fault_lines version chain cells
    replacements some version chain cells same is cells_is = record {
      each = λ i t at. replaced_from version chain cells (state_of run.seen).register t.row.outcome same is (λ x says.
          subst (λ n. StandsSo (state_of run.seen).register n x) cells_is
          (stands_so (length law.shelf) t.line.node (moment run t.line.phase) run.seen x (stands_now law lines home (length workers) run looks courses lines_are join t.line.node i t.line x (came i t x at says))));
      ids = λ i t at.
          let node = there i t at in
          let low = own_told t.line.node in
          let most = each_told law lines home (length workers) run looks courses join t.line.node node.0 node.1 in
          let last = ap last_id is in
          omega (arith, low, most, last);
      apart = λ i j t u at then' low. apart_from t.row.outcome u.row.outcome (λ x y a b. apart_so i j t u x y at then' low a b);
      order = λ i j t u at then' low behind. precedes_from t.row.outcome u.row.outcome (λ x y a b.
          versions_rise law lines home (length workers) run looks courses lines_are join t.line.node u.line.node i j t.line u.line x y (came i t x at a) (came j u y then' b) low behind);
      counts = subst (λ v. goes_by_ones v chain ≡ true) same (subst (λ c. goes_by_ones (state_of run.seen).register.version c ≡ true) is (all_counted law lines home (length workers) run looks courses join some));
      found = others_line;
    }
      where
        apart_so : (i j : ℕ) (t u : Played) (x y : Extension) → slice_get played i ≡ Some t → slice_get played j ≡ Some u → i < j → extension_in t.row.outcome ≡ Some x → extension_in u.row.outcome ≡ Some y → AreApart x y
        apart_so i j t u (Extended v s) (Extended w r) at then' low a b =
            versions_apart law lines home (length workers) run looks courses lines_are join t.line.node u.line.node i j t.line u.line v w s r (came i t (Extended v s) at a) (came j u (Extended w r) then' b) low
        apart_so i j t u (Extended v s) (Moved w) at then' low a b = tt
        apart_so i j t u (Extended v s) NoSpare at then' low a b = tt
        apart_so i j t u (Moved v) y at then' low a b = tt
        apart_so i j t u NoSpare y at then' low a b = tt
