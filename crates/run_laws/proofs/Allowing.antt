-- What was said of trims by the greatest of each node's reports follows from what is said of them by single rows.
use Rattle.std.proofs.Common.{◌≡◌, refl, ap, ◌∙◌, subst, inl, inr, ◌⊎◌, ℕ, ◌≤◌, Bool, true, false, not, cond, ◌&&◌, ◌||◌, ◌==◌, if◌then◌else◌, List, [], ◌∷◌, Option, Some, None, nat_lt, nat_le, arith, le-leb, lt-ltb, eqb-true}
use Rattle.std.specs.Prelude.{filter, filter_map}
use Rattle.std.specs.List.{cons_option, list_all, list_any}
use Rattle.std.proofs.lemmas.Bool.{and_from, and_parts, both_ways, cases_lt, leb-true, or_left, or_right}
use Rattle.engine_api.specs.declared.content.Placed.{Placed}
use Rattle.engine_api.specs.Members.{greatest, report_of}
use Rattle.engine_api.specs.Order.{numbers}
use Rattle.script_text.specs.declared.line.Admin.TheVariants.{Alive}
use Rattle.script_text.specs.declared.asks.NamedLine.{NamedLine}
use Rattle.script_text.specs.declared.asks.Asks.{Asks}
use Rattle.script_text.specs.declared.asks.Asks.TheVariants as asks
use Rattle.row_text.specs.declared.row.Outcome.{Outcome}
use Rattle.row_text.specs.declared.row.Outcome.TheVariants as out
use Rattle.fitting_run.specs.declared.answered.Answered.{Answered}
use Rattle.fitting_run.specs.Answered.{is_open}
use Rattle.fitting_run.specs.Lines.{asks_to_leave}
use Rattle.fitting_run.specs.Outcomes.{answers}
use Rattle.fitting_run.specs.Replacements.{is_behind}
use Rattle.fitting_run.specs.Reports.{is_retired, reported}
use Rattle.fitting_run.specs.Tests.{◌⇒◌, some_is}
use Rattle.fitting_run.specs.Trims.{asks_to_report, each_node, is_reported, may_report, went_past}
use Rattle.run_laws.proofs.Behind.{any-one}
use Rattle.run_laws.proofs.Members.{Among}
use Rattle.run_laws.proofs.Reporting.{nothing}

-- The greatest of a node's reports

abbrev pub reported_by : ℕ → Answered → Option ℕ
reported_by node a = if a.line.node == node then reported a.row.outcome else None

abbrev pub most_reported : ℕ → List Answered → ℕ
most_reported node rows = greatest (filter_map (reported_by node) rows)

-- the node left, as the row says
abbrev pub leaves : ℕ → Answered → Bool
leaves node a = (a.line.node == node) && is_retired a.row.outcome

-- the node hasn't left, and reported no more than this
abbrev pub needs_above : ℕ → List Answered → ℕ → Bool
needs_above trim rows node = not (list_any (leaves node) rows) && nat_le (most_reported node rows) trim

-- A trim reached what some node had reported

or-false : (t u : Bool) → (t || u) ≡ false → (t ≡ false) × (u ≡ false)
or-false true u h = absurd (both_ways true h refl)
or-false false u h = (refl, h)

some-fails : (p q : ℕ → Bool) (ns : List ℕ) → ((k : ℕ) → p k ≡ false → q k ≡ true) → not (list_all p ns) ≡ true → list_any q ns ≡ true
some-fails p q [] f h = absurd (both_ways false refl h)
some-fails p q (k ∷ ns) f h =
    elim (p k) as (λ t. p k ≡ t → not (t && list_all p ns) ≡ true → (q k || list_any q ns) ≡ true) [
      | true ↦ λ e g. or_right (q k) (list_any q ns) (some-fails p q ns f g)
      | false ↦ λ e g. or_left (q k) (list_any q ns) (f k e)
    ] refl h

module _ (trim node : ℕ) (b : Answered) where
  abbrev known : Answered → Bool
  known a = is_behind a b

  one-row : (n ret : Bool) (o : Option ℕ) → (n && (ret || some_is o (nat_lt trim))) ≡ false → ((n && ret) ≡ false) × ((d : ℕ) → (if n then o else None) ≡ Some d → d ≤ trim)
  one-row false ret o h = (refl, λ d e. absurd (nothing d e))
  one-row true true o h = absurd (both_ways true h refl)
  one-row true false None h = (refl, λ d e. absurd (nothing d e))
  one-row true false (Some n) h = (
    refl,
    λ d e. elim (cases_lt trim n) [
      | inl above ↦ absurd (both_ways (nat_lt trim n) h (lt-ltb trim n above))
      | inr upto ↦ let same : n ≡ d = cc in omega (arith, upto, same)
    ],
  )

  rows-low : (rows : List Answered) → list_any (λ a. (a.line.node == node) && went_past trim b a) rows ≡ false
      → (list_any (leaves node) (filter known rows) ≡ false) × (most_reported node (filter known rows) ≤ trim)
  rows-low [] h = (refl, omega arith)
  rows-low (a ∷ rows) h =
      let parts = or-false ((a.line.node == node) && went_past trim b a) (list_any (λ x. (x.line.node == node) && went_past trim b x) rows) h in
      step (is_behind a b) parts.0 (rows-low rows parts.1)
    where
      most : (o : Option ℕ) (fs : List ℕ) → ((d : ℕ) → o ≡ Some d → d ≤ trim) → greatest fs ≤ trim → greatest (cons_option o fs) ≤ trim
      most None fs f low = low
      most (Some d) fs f low = let high = f d refl in omega (arith, high, low)

      step : (k : Bool) → ((a.line.node == node) && (k && (is_retired a.row.outcome || some_is (reported a.row.outcome) (nat_lt trim)))) ≡ false
          → (list_any (leaves node) (filter known rows) ≡ false) × (most_reported node (filter known rows) ≤ trim)
          → (list_any (leaves node) (cond k (a ∷ filter known rows) (filter known rows)) ≡ false) × (most_reported node (cond k (a ∷ filter known rows) (filter known rows)) ≤ trim)
      step false is rest = rest
      step true is rest =
          let o = one-row (a.line.node == node) (is_retired a.row.outcome) (reported a.row.outcome) is in
          (ap (λ t. t || list_any (leaves node) (filter known rows)) o.0 ∙ rest.0, most (reported_by node a) (filter_map (reported_by node) (filter known rows)) o.1 rest.1)

-- where not each node went past it before, one hadn't left, and had reported no more
pub some-needs : (trim nodes : ℕ) (b : Answered) (above : List Answered) → not (each_node nodes (went_past trim b) above) ≡ true → list_any (needs_above trim (filter (λ a. is_behind a b) above)) (numbers 1 nodes) ≡ true
some-needs trim nodes b above h =
    some-fails (λ node. list_any (λ a. (a.line.node == node) && went_past trim b a) above) (needs_above trim (filter (λ a. is_behind a b) above)) (numbers 1 nodes) (λ node none.
    let low = rows-low trim node b above none in
    and_from (not (list_any (leaves node) (filter (λ a. is_behind a b) above))) (nat_le (most_reported node (filter (λ a. is_behind a b) above)) trim) (ap not low.0)
    (le-leb (most_reported node (filter (λ a. is_behind a b) above)) trim low.1)) h

-- What each node let go of at the end

abbrev pub is_to_leave : ℕ → NamedLine → Bool
is_to_leave node l = (l.node == node) && asks_to_leave l.asks

abbrev pub is_to_report : ℕ → NamedLine → Bool
is_to_report node l = (l.node == node) && asks_to_report l.asks

-- it isn't known what the node reported: a line that asks it to is open
abbrev pub leaves_open : ℕ → Answered → Bool
leaves_open node a = is_to_report node a.line && is_open a.row.outcome

-- where the node isn't to leave, and all that it reported is known, the log is trimmed no further than that
abbrev pub is_held : List NamedLine → List Answered → ℕ → ℕ → Bool
is_held lines told trim node =
    (not (list_any (is_to_leave node) lines) && not (list_any (leaves_open node) told)) ⇒ nat_le trim (most_reported node told)

-- the log has a report of as much as is trimmed, of a node that isn't to leave
abbrev pub lets_go : List NamedLine → ℕ → List Placed → ℕ → Bool
lets_go lines trim items node = list_any (is_to_leave node) lines || list_any (λ p. some_is (report_of node p.content) (nat_le trim)) items

most-above : (node : ℕ) (rows : List Answered) (a : Answered) (d : ℕ) → Among rows a → reported_by node a ≡ Some d → d ≤ most_reported node rows
most-above node [] a d m is = absurd m
most-above node (b ∷ rows) a d m is =
    elim m [
      | inl same ↦ first (reported_by node b) (ap (reported_by node) same ∙ is)
      | inr later ↦ further (reported_by node b) (most-above node rows a d later is)
    ]
  where
    first : (o : Option ℕ) → o ≡ Some d → d ≤ greatest (cons_option o (filter_map (reported_by node) rows))
    first None e = absurd (nothing d e)
    first (Some n) e = let same : n ≡ d = cc in omega (arith, same)

    further : (o : Option ℕ) → d ≤ greatest (filter_map (reported_by node) rows) → d ≤ greatest (cons_option o (filter_map (reported_by node) rows))
    further None low = low
    further (Some n) low = omega (arith, low)

or-is : (t u : Bool) → (t || u) ≡ true → (t ≡ true) ⊎ (u ≡ true)
or-is true u h = inl refl
or-is false u h = inr h

held-by : (leave unknown upto : Bool) → (leave ≡ true) ⊎ ((unknown ≡ true) ⊎ (upto ≡ true)) → ((not leave && not unknown) ⇒ upto) ≡ true
held-by true unknown upto h = refl
held-by false true upto h = refl
held-by false false true h = refl
held-by false false false (inl e) = e
held-by false false false (inr (inl e)) = e
held-by false false false (inr (inr e)) = e

module _ (lines : List NamedLine) (told : List Answered) (trim : ℕ) (items : List Placed) (node : ℕ) (of_lines : (a : Answered) → Among told a → Among lines a.line) where
  abbrev Leaves : Type 0
  Leaves = list_any (is_to_leave node) lines ≡ true

  abbrev Says : Type 0
  Says = list_any (λ p. some_is (report_of node p.content) (nat_le trim)) items ≡ true

  abbrev Tells : Type 0
  Tells = (list_any (leaves_open node) told ≡ true) ⊎ (nat_le trim (most_reported node told) ≡ true)

  tells-so : (a : Answered) → Among told a → a.line.node ≡ node → (a.line.node == node) ≡ true → may_report trim a ≡ true → Tells
  tells-so a m at_node is may = elim (or-is (some_is (reported a.row.outcome) (nat_le trim)) (asks_to_report a.line.asks && is_open a.row.outcome) may) [
    | inl told-it ↦ inr (by (reported a.row.outcome) refl told-it)
    | inr unknown ↦
        let parts = and_parts (asks_to_report a.line.asks) (is_open a.row.outcome) unknown in
        inl (any-one-of a m (and_from (is_to_report node a.line) (is_open a.row.outcome) (and_from (a.line.node == node) (asks_to_report a.line.asks) is parts.0) parts.1))
  ]
    where
      any-one-of : (x : Answered) → Among told x → leaves_open node x ≡ true → list_any (leaves_open node) told ≡ true
      any-one-of x k e = among-any told x k e
        where
          among-any : (xs : List Answered) (y : Answered) → Among xs y → leaves_open node y ≡ true → list_any (leaves_open node) xs ≡ true
          among-any [] y k e = absurd k
          among-any (z ∷ zs) y k e = elim k [
            | inl same ↦ or_left (leaves_open node z) (list_any (leaves_open node) zs) (ap (leaves_open node) same ∙ e)
            | inr later ↦ or_right (leaves_open node z) (list_any (leaves_open node) zs) (among-any zs y later e)
          ]

      by : (o : Option ℕ) → reported a.row.outcome ≡ o → some_is o (nat_le trim) ≡ true → nat_le trim (most_reported node told) ≡ true
      by None e h = absurd (both_ways false refl h)
      by (Some d) e h =
          let low = most-above node told a d m (ap (λ t. if t then reported a.row.outcome else None) is ∙ e) in
          let up = leb-true trim d h in
          le-leb trim (most_reported node told) (omega (arith, low, up))

  lines-any : (ls : List NamedLine) (l : NamedLine) → Among ls l → is_to_leave node l ≡ true → list_any (is_to_leave node) ls ≡ true
  lines-any [] l k e = absurd k
  lines-any (z ∷ zs) l k e = elim k [
    | inl same ↦ or_left (is_to_leave node z) (list_any (is_to_leave node) zs) (ap (is_to_leave node) same ∙ e)
    | inr later ↦ or_right (is_to_leave node z) (list_any (is_to_leave node) zs) (lines-any zs l later e)
  ]

  -- the node is to leave, or its rows and the log say what it reported
  let-go : list_any (λ a. (a.line.node == node) && (asks_to_leave a.line.asks || is_reported trim items a)) told ≡ true → Leaves ⊎ (Tells × Says)
  let-go h =
      let x = any-one (λ a. (a.line.node == node) && (asks_to_leave a.line.asks || is_reported trim items a)) told h in
      let a = x.one in
      let parts = and_parts (a.line.node == node) (asks_to_leave a.line.asks || is_reported trim items a) x.passes in
      let at_node = eqb-true a.line.node node parts.0 in
      elim (or-is (asks_to_leave a.line.asks) (is_reported trim items a) parts.1) [
        | inl leave ↦ inl (lines-any lines a.line (of_lines a x.among) (and_from (a.line.node == node) (asks_to_leave a.line.asks) parts.0 leave))
        | inr both ↦
            let halves = and_parts (may_report trim a) (list_any (λ p. some_is (report_of a.line.node p.content) (nat_le trim)) items) both in
            inr (tells-so a x.among at_node parts.0 halves.0, subst (λ n. list_any (λ p. some_is (report_of n p.content) (nat_le trim)) items ≡ true) at_node halves.1)
      ]

  -- so the log is trimmed no further than it reported, as far as that is known, and the log says a report of as much
  pub node-held : list_any (λ a. (a.line.node == node) && (asks_to_leave a.line.asks || is_reported trim items a)) told ≡ true → (is_held lines told trim node ≡ true) × (lets_go lines trim items node ≡ true)
  node-held h = by (let-go h)
    where
      by : Leaves ⊎ (Tells × Says) → (is_held lines told trim node ≡ true) × (lets_go lines trim items node ≡ true)
      by (inl left) = (
        held-by (list_any (is_to_leave node) lines) (list_any (leaves_open node) told) (nat_le trim (most_reported node told)) (inl left),
        or_left (list_any (is_to_leave node) lines) _ left,
      )
      by (inr h) = (
        held-by (list_any (is_to_leave node) lines) (list_any (leaves_open node) told) (nat_le trim (most_reported node told)) (inr h.0),
        or_right (list_any (is_to_leave node) lines) _ h.1,
      )

-- Who was asked to report or to leave

-- the node is to report or to leave
abbrev pub is_to_let_go : List NamedLine → ℕ → Bool
is_to_let_go lines node = list_any (λ l. is_to_report node l || is_to_leave node l) lines

-- a row that reports answers a line that asks for that
report-asked : (a : Asks) (o : Outcome) (n : ℕ) → answers a o ≡ true → some_is (reported o) (nat_le n) ≡ true → asks_to_report a ≡ true
report-asked (asks.Admin Alive) o n h r = refl
report-asked a (out.Alive clean) n h r = absurd (both_ways false refl h)
report-asked a o n h r = absurd (both_ways false refl r)

line-among : (p : NamedLine → Bool) (ls : List NamedLine) (l : NamedLine) → Among ls l → p l ≡ true → list_any p ls ≡ true
line-among p [] l k e = absurd k
line-among p (z ∷ zs) l k e = elim k [
  | inl same ↦ or_left (p z) (list_any p zs) (ap p same ∙ e)
  | inr later ↦ or_right (p z) (list_any p zs) (line-among p zs l later e)
]

-- where each row is of its line's kind, a line asks each node that let go to report or to leave
pub node-asked : (lines : List NamedLine) (told : List Answered) (trim : ℕ) (items : List Placed) (node : ℕ) → ((a : Answered) → Among told a → Among lines a.line) → ((a : Answered) → Among told a → answers a.line.asks a.row.outcome ≡ true)
    → list_any (λ a. (a.line.node == node) && (asks_to_leave a.line.asks || is_reported trim items a)) told ≡ true → is_to_let_go lines node ≡ true
node-asked lines told trim items node of_lines kinds h =
    let x = any-one (λ a. (a.line.node == node) && (asks_to_leave a.line.asks || is_reported trim items a)) told h in
    let a = x.one in
    let parts = and_parts (a.line.node == node) (asks_to_leave a.line.asks || is_reported trim items a) x.passes in
    line-among (λ l. is_to_report node l || is_to_leave node l) lines a.line (of_lines a x.among) (elim (or-is (asks_to_leave a.line.asks) (is_reported trim items a) parts.1) [
      | inl leave ↦ or_right (is_to_report node a.line) (is_to_leave node a.line) (and_from (a.line.node == node) (asks_to_leave a.line.asks) parts.0 leave)
      | inr both ↦
          let may = (and_parts (may_report trim a) (list_any (λ p. some_is (report_of a.line.node p.content) (nat_le trim)) items) both).0 in
          or_left (is_to_report node a.line) (is_to_leave node a.line) (and_from (a.line.node == node) (asks_to_report a.line.asks) parts.0 (asks-so a x.among may))
    ])
  where
    asks-so : (a : Answered) → Among told a → may_report trim a ≡ true → asks_to_report a.line.asks ≡ true
    asks-so a m may = elim (or-is (some_is (reported a.row.outcome) (nat_le trim)) (asks_to_report a.line.asks && is_open a.row.outcome) may) [
      | inl told-it ↦ report-asked a.line.asks a.row.outcome trim (kinds a m) told-it
      | inr unknown ↦ (and_parts (asks_to_report a.line.asks) (is_open a.row.outcome) unknown).0
    ]
