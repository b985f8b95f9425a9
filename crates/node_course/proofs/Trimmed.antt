-- Where the log of a run was trimmed, its nodes had told so.
use Rattle.std.proofs.Common.{◌≡◌, refl, sym, ap, ◌∙◌, subst, ◌⊎◌, inl, inr, ⊎_elim, ℕ, ◌+◌, ◌<◌, ◌≤◌, Bool, true, false, List, Option, Some, Contains, arith}
use Rattle.std.proofs.lemmas.Bool.{cases_lt}
use Rattle.delos_types.specs.declared.entry.Entry.{Entry}
use Rattle.legal_journal.specs.Law.{Law}
use Rattle.legal_journal.specs.declared.events.Event.{Event}
use Rattle.legal_journal.specs.Journal.{IsLegal, state_of, trim_of}
use Rattle.journal_laws.specs.Changes.{Frees, appended, raised}
use Rattle.journal_laws.proofs.Changes.{appended_may, held_appended, raised_free, trim_raised}
use Rattle.fabric_core.proofs.OneLoglet.{at}
use Rattle.virtual_log.proofs.Agreeing.{holds_agree}
use Rattle.virtual_log.proofs.Holding.{holds_stands}
use Rattle.turn_scopes.proofs.Bounds.{stands_below}
use Rattle.engine_api.specs.declared.content.Content.{Content}
use Rattle.engine_api.specs.declared.content.Content.TheVariants as content
use Rattle.engine_api.specs.declared.content.Placed.{Placed}
use Rattle.engine_api.specs.Items.{unpack}
use Rattle.engine_api.specs.Acted.{unpack_all}
use Rattle.engine_api.specs.Members.{has_left, least_position, position_of}
use Rattle.log_laws.proofs.Membership.{least_some}
use Rattle.turn_scopes.specs.Floors.{FloorIs}
use Rattle.script_text.specs.declared.line.Admin.TheVariants.{Alive, Retire}
use Rattle.script_text.specs.declared.asks.NamedLine.{NamedLine}
use Rattle.node_lines.specs.declared.lines.Looked.{Looked}
use Rattle.node_lines.specs.declared.lines.Looked.TheVariants as looked
use Rattle.node_lines.specs.Measuring.{IsCleanPoint}
use Rattle.node_lines.specs.Workers.{Grows, IsReported, IsSaid, MayRun, ReportsUpTo, appended_by}
use Rattle.node_lines.proofs.Cleaning.{clean_none}
use Rattle.node_lines.proofs.Own.{legal_own, reported_by}
use Rattle.node_lines.proofs.Saying.{left_said, position_low, position_said}
use Rattle.node_course.specs.Script.{AreLines}
use Rattle.node_course.specs.Moments.{NodeCourse, moment, tails}
use Rattle.node_course.specs.Played.{Came}
use Rattle.node_course.specs.Reporting.{StandsThere}
use Rattle.node_course.specs.Telling.{AreTold, AskedFor, HasToldSo, IsReportedBehind, IsTrim, SaysBelow, StaysBelow, TellsAtLeast, ToldSo}
use Rattle.node_course.specs.Joined.{AreJoined, AreOfNodes, GoesFirst, HadLowest, IsClean}
use Rattle.node_course.proofs.Moments.{grown_legal, grows_both}
use Rattle.node_course.proofs.Parts.{moment_is, node_there, run_legal, run_seen, run_upto}
use Rattle.node_course.proofs.Stands.{says_one, stands_on, trim_rises}
use Rattle.node_course.proofs.Told.{stand_on}
use Rattle.node_course.proofs.Turning.{member_above}

-- Some node has applied as much as is trimmed

module _ (law : Law) (nodes : ℕ) (seen : List Event) (cursors : ℕ → ℕ) (is : FloorIs law.floor nodes) (legal : IsLegal law seen) (upto : (k : ℕ) → 1 ≤ k → k ≤ nodes → ReportsUpTo k (cursors k) seen) where
  abbrev Within' : ℕ → Type 0
  Within' trim = (trim ≡ 0) ⊎ ((k : ℕ) × (1 ≤ k) × (k ≤ nodes) × (trim ≤ cursors k))

  some_has : (trim : ℕ) → Frees law.floor seen trim → Within' trim
  some_has trim f = ⊎_elim
      (λ (some : 0 < least_position nodes (unpack_all 0 f.log)).
      let first = least_some nodes (unpack_all 0 f.log) some in
      let free = (is.only f.log trim f.free).least in
      let low = position_low seen f.log f.each first.node (cursors first.node) (upto first.node first.low first.high) in
      inr (first.node, first.low, first.high, omega (arith, free, low, first.is)))
      (λ (none : least_position nodes (unpack_all 0 f.log) ≤ 0). inl (let free = (is.only f.log trim f.free).least in omega (arith, free, none)))
      (cases_lt 0 (least_position nodes (unpack_all 0 f.log)))

  pub some_told : Within' (trim_of (state_of seen))
  some_told = ⊎_elim (λ (none : trim_of (state_of seen) ≡ 0). inl none)
      (λ (h : Contains (raised seen) (trim_of (state_of seen))). ⊎_elim (λ (none : trim_of (state_of seen) ≡ 0). inl none) (λ (f : Frees law.floor seen (trim_of (state_of seen))). some_has (trim_of (state_of seen)) f)
      (raised_free law seen (trim_of (state_of seen)) legal h))
      (trim_raised law seen legal)

-- Who appended it

-- an entry that was appended somebody appended
pub appender : (law : Law) (seen : List Event) (e : Entry) → IsLegal law seen → Contains (appended seen) e → (who : ℕ) × (law.may who e × Contains (appended_by who seen) e)
appender law seen e legal there =
    appended_may (record law { may = λ who x. law.may who x × Contains (appended_by who seen) x }) seen e (legal_own law (λ who x. law.may who x × Contains (appended_by who seen) x) seen legal (λ who x own allowed. (allowed, own))) there

-- who tells so much tells less
pub tells_less : (trim position : ℕ) (look : Looked) → trim ≤ position → TellsAtLeast position look → TellsAtLeast trim look
tells_less trim position (looked.Found after found) low h = h
tells_less trim position (looked.Kept cause) low h = h
tells_less trim position (looked.Failed cause) low h = tt
tells_less trim position (looked.Extended x) low h = h
tells_less trim position (looked.Reported n) low h = omega (arith, low, h)
tells_less trim position looked.Left low h = h
tells_less trim position (looked.Trimmed t) low h = h

pub left_by : (law : Law) → MayRun law → (seen : List Event) (k : ℕ) → IsLegal law seen → (s : IsSaid seen (content.Leave k)) → Contains (appended_by k seen) s.entry
left_by law run seen k legal s =
    let by = appender law seen s.entry legal s.appended_is in
    subst (λ who. Contains (appended_by who seen) s.entry) (run.leaves by.0 k s.entry s.placed by.1.0 s.among s.is) by.1.1

module _ (law : Law) (run_may : MayRun law) (lines : List NamedLine) (home : ℕ → ℕ) (nodes : ℕ) (run : NodeCourse) (looks : List (Option Looked)) (courses : ℕ → NodeCourse) (join : AreJoined law lines home nodes run looks courses) where
  -- what a node appended, lines of its own asked it to tell
  told_by : (n : ℕ) → 1 ≤ n → n ≤ nodes → AreTold lines looks n run.seen
  told_by n least most = subst (AreTold lines looks n) (join.part n least most).seen (join.did n least most).told

  module _ (k : ℕ) (is : FloorIs law.floor nodes) (least : 1 ≤ k) (most : k ≤ nodes) where
    legal : IsLegal law run.seen
    legal = run_legal law lines home nodes run looks courses join (omega (arith, least, most))

    abbrev Told : ℕ → Type 0
    Told trim = (trim ≡ 0) ⊎ (AskedFor lines looks k Retire (λ look. Unit {0}) ⊎ AskedFor lines looks k Alive (TellsAtLeast trim))

    reported : (trim position : ℕ) → trim ≤ position → IsSaid run.seen (content.Alive k position) → AskedFor lines looks k Alive (TellsAtLeast trim)
    reported trim position low s =
        let own = reported_by law law run_may (λ user e h. h) run.seen legal k position s.entry s.placed s.appended_is s.among s.is in
        let h = subst (ToldSo lines looks k run.seen) s.is (told_by k least most s.entry s.placed own s.among) in
        record { at = h.2.at; line = h.2.line; look = h.2.look; came = h.2.came; asks = h.2.asks; so = tells_less trim position h.2.look low h.2.so }

    freed : (trim : ℕ) → Frees law.floor run.seen trim → Told trim
    freed trim f = by (has_left (unpack_all 0 f.log) k) refl
      where
        by : (b : Bool) → has_left (unpack_all 0 f.log) k ≡ b → Told trim
        by true left =
            let s = left_said run.seen f.log f.each k left in
            inr (inl (subst (ToldSo lines looks k run.seen) s.is (told_by k least most s.entry s.placed (left_by law run_may run.seen k legal s) s.among)).1)
        by false stays = ⊎_elim (λ (none : position_of (unpack_all 0 f.log) k ≡ 0). inl (let above = member_above law nodes is run.seen legal k least most trim f stays in omega (arith, above, none)))
            (λ (s : IsSaid run.seen (content.Alive k (position_of (unpack_all 0 f.log) k))). inr (inr (reported trim (position_of (unpack_all 0 f.log) k) (member_above law nodes is run.seen legal k least most trim f stays) s)))
            (position_said run.seen f.log f.each k)

    pub each_told : Told (trim_of (state_of run.seen))
    each_told = ⊎_elim (λ (none : trim_of (state_of run.seen) ≡ 0). inl none)
        (λ (h : Contains (raised run.seen) (trim_of (state_of run.seen))). ⊎_elim (λ (none : trim_of (state_of run.seen) ≡ 0). inl none) (λ (f : Frees law.floor run.seen (trim_of (state_of run.seen))). freed (trim_of (state_of run.seen)) f)
        (raised_free law run.seen (trim_of (state_of run.seen)) legal h))
        (trim_raised law run.seen legal)

  -- What was told is clean

  module _ (of : AreOfNodes law.may nodes) (some : 1 ≤ nodes) where
    all_legal : IsLegal law run.seen
    all_legal = run_legal law lines home nodes run looks courses join some

    report_clean : (node n : ℕ) (e : Entry) (p : Placed) → Contains (appended run.seen) e → Contains (unpack 0 e) p → p.content ≡ content.Alive node n → IsReportedBehind run.seen node n
    report_clean node n e p there among is =
        let by = appender law run.seen e all_legal there in
        let who = of by.0 e p by.1.0 among in
        let h = subst (ToldSo lines looks by.0 run.seen) is (told_by by.0 who.0 who.1 e p by.1.1 among) in
        subst (λ m. IsReportedBehind run.seen m n) (sym h.0) h.1

    was_reported : (n : ℕ) → IsReported run.seen n → IsCleanPoint run.seen n
    was_reported n (inl none) = subst (IsCleanPoint run.seen) (sym none) (clean_none run.seen)
    was_reported n (inr h) = let s = h.1 in (report_clean h.0 n s.entry s.placed s.appended_is s.among s.is).clean

    pub told_clean : (e : Entry) (p : Placed) → Contains (appended run.seen) e → Contains (unpack 0 e) p → IsClean run.seen p.content
    told_clean e p there among = by p.content refl
      where
        by : (c : Content) → p.content ≡ c → IsClean run.seen c
        by (content.Session s r x) is = tt
        by (content.Alive node n) is = report_clean node n e p there among is
        by (content.Leave node) is = tt
        by (content.Trim n) is =
            let who = appender law run.seen e all_legal there in
            let one = of who.0 e p who.1.0 among in
            was_reported n (subst (ToldSo lines looks who.0 run.seen) is (told_by who.0 one.0 one.1 e p who.1.1 among))

-- the entry that says so isn't among those that are reported
not_among : (law : Law) (journal : List Event) → IsLegal law journal → (n position : ℕ) → IsReportedBehind journal n position → (s : StandsThere journal (content.Alive n position)) → s.at < position → ⊥
not_among law journal legal n position b s low =
    let p = says_one (unpack 0 s.entry) (content.Alive n position) s.says in
    let x = at b.clean.log s.at (omega (arith, low, b.clean.within)) in
    let same : x.element ≡ s.entry = holds_agree law journal s.at x.element s.entry legal (b.clean.front s.at x.element x.is) s.held in
    b.behind s.at s.entry p.0 low (◌∙◌ {b = Some x.element} x.is (ap {B = Option Entry} (λ e. Some e) same)) p.1 p.2

-- Where a line trimmed the log: the journal before it and after, by the run's moments

module _ (law : Law) (lines : List NamedLine) (home : ℕ → ℕ) (nodes : ℕ) (run : NodeCourse) (looks : List (Option Looked)) (courses : ℕ → NodeCourse) (join : AreJoined law lines home nodes run looks courses) (n : ℕ) (least : 1 ≤ n) (most : n ≤ nodes) (j : ℕ) (l : NamedLine) (trim : ℕ) (t : IsTrim lines looks nodes n (courses n) j l trim) where
  pub trim_began : Grows (moment run l.phase) t.before
  trim_began = subst (λ m. Grows m t.before) (moment_is law lines home nodes run looks courses join n least most l.phase) t.began

  pub trim_ended : Grows t.early (moment run (l.phase + 1))
  trim_ended = subst (Grows t.early) (moment_is law lines home nodes run looks courses join n least most (l.phase + 1)) t.ended

  pub trim_seen : Grows t.early run.seen
  trim_seen = grows_both t.early (moment run (l.phase + 1)) run.seen trim_ended (run_seen law lines home nodes run looks courses join n least most (l.phase + 1))

  pub early_legal : IsLegal law t.early
  early_legal = grown_legal law t.early run.seen trim_seen (run_legal law lines home nodes run looks courses join (omega (arith, least, most)))

  pub before_legal : IsLegal law t.before
  before_legal = grown_legal law t.before t.early t.went early_legal

-- Some node was the lowest

module _ (law : Law) (lines : List NamedLine) (home : ℕ → ℕ) (nodes : ℕ) (run : NodeCourse) (looks : List (Option Looked)) (courses : ℕ → NodeCourse) (are : AreLines lines home nodes) (join : AreJoined law lines home nodes run looks courses) where
  below : (journal : List Event) (trim k : ℕ) (look : Looked) → ((x : Content) → StandsThere journal x → SaysBelow trim k x) → HasToldSo journal k look → StaysBelow trim look
  below journal trim k (looked.Found after found) low h = tt
  below journal trim k (looked.Kept cause) low h = tt
  below journal trim k (looked.Failed cause) low h = tt
  below journal trim k (looked.Extended x) low h = tt
  below journal trim k (looked.Reported n) low h = low (content.Alive k n) h refl
  below journal trim k looked.Left low h = low (content.Leave k) h refl
  below journal trim k (looked.Trimmed t) low h = tt

  pub had_lowest : (n j : ℕ) (l : NamedLine) (trim : ℕ) → Came lines looks n j l (looked.Trimmed trim) → HadLowest lines looks nodes j l trim
  had_lowest n j l trim come = record {
    node = t.lowest.node;
    least = t.lowest.least;
    most = t.lowest.most;
    each = λ i m look come' first. by i m look come' first;
  }
    where
      there : (1 ≤ n) × (n ≤ nodes)
      there = node_there law lines home nodes run looks courses are join n j l (looked.Trimmed trim) come

      t : IsTrim lines looks nodes n (courses n) j l trim
      t = (join.did n there.0 there.1).trims j l trim come

      by : (i : ℕ) (m : NamedLine) (look : Looked) → Came lines looks t.lowest.node i m look → GoesFirst i m j l → StaysBelow trim look
      by i m look come' (inl early) =
          let k = t.lowest.node in
          let is = moment_is law lines home nodes run looks courses join k t.lowest.least t.lowest.most (m.phase + 1) in
          let stood : HasToldSo (moment run (m.phase + 1)) k look = subst (λ x. HasToldSo x k look) is ((join.did k t.lowest.least t.lowest.most).stand i m look come') in
          let up = grows_both (moment run (m.phase + 1)) (moment run l.phase) t.before (run_upto law lines home nodes run looks courses join n there.0 there.1 (m.phase + 1) l.phase (omega (arith, early)))
          (trim_began law lines home nodes run looks courses join n there.0 there.1 j l trim t) in
          let then' : HasToldSo t.before k look = stand_on (moment run (m.phase + 1)) t.before (λ x s. stands_on law (moment run (m.phase + 1)) t.before up.0 up.1 (before_legal law lines home nodes run looks courses join n there.0 there.1 j l trim t) x s) k look stood in
          below t.before trim k look t.lowest.stood then'
      by i m look come' (inr own) =
          let same : t.lowest.node ≡ n = sym come'.own ∙ (own.0 ∙ come.own) in
          t.lowest.own same i m look (record { is = come'.is; own = come'.own ∙ same; looked = come'.looked }) own.1

  -- what a line told stands in the log
  pub told_stands : (n i : ℕ) (l : NamedLine) (look : Looked) → Came lines looks n i l look → HasToldSo run.seen n look
  told_stands n i l look come =
      let there = node_there law lines home nodes run looks courses are join n i l look come in
      let is = moment_is law lines home nodes run looks courses join n there.0 there.1 (l.phase + 1) in
      let up = run_seen law lines home nodes run looks courses join n there.0 there.1 (l.phase + 1) in
      let legal = run_legal law lines home nodes run looks courses join (omega (arith, there.0, there.1)) in
      stand_on (moment run (l.phase + 1)) run.seen (λ x s. stands_on law (moment run (l.phase + 1)) run.seen up.0 up.1 legal x s) n look (subst (λ m. HasToldSo m n look) is ((join.did n there.0 there.1).stand i l look come))

  -- the log is trimmed as far as a line trimmed it, and an entry that asks for a trim stands there
  pub trim_stands : (n j : ℕ) (l : NamedLine) (trim : ℕ) → Came lines looks n j l (looked.Trimmed trim) → (trim ≤ trim_of (state_of run.seen)) × ((position : ℕ) × StandsThere run.seen (content.Trim position))
  trim_stands n j l trim come =
      let there = node_there law lines home nodes run looks courses are join n j l (looked.Trimmed trim) come in
      let t = (join.did n there.0 there.1).trims j l trim come in
      let same = (join.part n there.0 there.1).seen in
      let up = trim_seen law lines home nodes run looks courses join n there.0 there.1 j l trim t in
      let rises = trim_rises law t.early run.seen up.0 up.1 (run_legal law lines home nodes run looks courses join (omega (arith, there.0, there.1))) in
      let upto = t.upto in
      (omega (arith, upto, rises), (t.position, subst (λ s. StandsThere s (content.Trim t.position)) same t.stands))

  -- a report stands behind what it reports, and below where the next phase begins
  pub report_behind : (run_may : MayRun law) (n i : ℕ) (l : NamedLine) (position : ℕ) → Came lines looks n i l (looked.Reported position)
      → (s : StandsThere run.seen (content.Alive n position)) × (position ≤ s.at) × (s.at < tails run (l.phase + 1))
  report_behind run_may n i l position come = (
    stands_on law then' run.seen up.0 up.1 legal (content.Alive n position) s,
    ⊎_elim (λ (low : s.at < position). absurd (none_early low)) (λ (high : position ≤ s.at). high) (cases_lt s.at position),
    stands_below law run_may.low then' s.at s.entry then_legal (holds_stands law then' s.at s.entry then_legal s.held),
  )
    where
      there : (1 ≤ n) × (n ≤ nodes)
      there = node_there law lines home nodes run looks courses are join n i l (looked.Reported position) come

      legal : IsLegal law run.seen
      legal = run_legal law lines home nodes run looks courses join (omega (arith, there.0, there.1))

      then' : List Event
      then' = moment run (l.phase + 1)

      up : Grows then' run.seen
      up = run_seen law lines home nodes run looks courses join n there.0 there.1 (l.phase + 1)

      then_legal : IsLegal law then'
      then_legal = grown_legal law then' run.seen up legal

      s : StandsThere then' (content.Alive n position)
      s = subst (λ m. StandsThere m (content.Alive n position)) (moment_is law lines home nodes run looks courses join n there.0 there.1 (l.phase + 1)) ((join.did n there.0 there.1).stand i l (looked.Reported position) come)

      -- the entry says it, so it isn't among those that are reported
      none_early : s.at < position → ⊥
      none_early low =
          let now = stands_on law then' run.seen up.0 up.1 legal (content.Alive n position) s in
          let p = says_one (unpack 0 now.entry) (content.Alive n position) now.says in
          let own = reported_by law law run_may (λ user e h. h) run.seen legal n position now.entry p.0 (held_appended law run.seen now.at now.entry legal now.held) p.1 p.2 in
          let h = subst (ToldSo lines looks n run.seen) p.2 (told_by law run_may lines home nodes run looks courses join n there.0 there.1 now.entry p.0 own p.1) in
          not_among law run.seen legal n position h.1 now low
