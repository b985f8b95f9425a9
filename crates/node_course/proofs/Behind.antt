-- What comes behind a node's report stands at it or above, in the run that nodes tell together.
use Rattle.std.proofs.Common.{◌≡◌, subst, ⊎_elim, ℕ, ◌+◌, ◌<◌, ◌≤◌, true, List, length, slice_get, Some, Option, Contains, arith}
use Rattle.std.proofs.lemmas.Bool.{cases_lt}
use Rattle.delos_types.specs.declared.entry.Entry.{Entry}
use Rattle.table_core.specs.declared.command.Found.{Found}
use Rattle.table_core.specs.declared.command.Query.{Query}
use Rattle.legal_journal.specs.Law.{Law}
use Rattle.legal_journal.specs.Journal.{IsLegal, state_of, tail_of}
use Rattle.journal_laws.proofs.Changes.{held_appended}
use Rattle.virtual_log.specs.Holding.{Holds}
use Rattle.turn_scopes.proofs.Moments.{held_before}
use Rattle.script_text.specs.declared.line.Session.{Session}
use Rattle.script_text.specs.declared.asks.NamedLine.{NamedLine}
use Rattle.script_text.specs.declared.asks.Asks.TheVariants as asks
use Rattle.fitting_run.specs.Lines.{logs_for}
use Rattle.node_lines.specs.declared.lines.Looked.{Looked}
use Rattle.node_lines.specs.declared.lines.Looked.TheVariants as looked
use Rattle.node_lines.specs.UnderWay.{HasRank}
use Rattle.node_lines.specs.Workers.{Grows, IsHome, appended_by}
use Rattle.run_laws.specs.Ended.{rank_in}
use Rattle.node_course.specs.Script.{AreLines}
use Rattle.node_course.specs.Moments.{NodeCourse, moment, tails}
use Rattle.node_course.specs.Played.{Came}
use Rattle.node_course.specs.Behind.{WasReported}
use Rattle.node_course.specs.Joined.{AreJoined}
use Rattle.node_course.proofs.Fronts.{front_low}
use Rattle.node_course.proofs.Lines.{asked_more}
use Rattle.node_course.proofs.Moments.{grown_legal, grown_on, grows_both}
use Rattle.node_course.proofs.Parts.{moment_is, node_there, run_legal, run_seen}
use Rattle.node_course.proofs.Ranks.{rank_counts}
use Rattle.node_course.proofs.Trimmed.{appender}

-- In the run

module _ (law : Law) (lines : List NamedLine) (home : ℕ → ℕ) (nodes : ℕ) (run : NodeCourse) (looks : List (Option Looked)) (courses : ℕ → NodeCourse) (are : AreLines lines home nodes) (join : AreJoined law lines home nodes run looks courses) where
  pub read_high : (n i j : ℕ) (l m : NamedLine) (position after : ℕ) (found : Found) → Came lines looks n i l (looked.Reported position) → Came lines looks n j m (looked.Found after found) → i < j → position ≤ after
  read_high n i j l m position after found come then' low =
      let there = node_there law lines home nodes run looks courses are join n i l (looked.Reported position) come in
      (join.did n there.0 there.1).reports.reads i j l m position after found come then' low

  -- a node's later read looks at no lower position
  pub read_forward : (n i j : ℕ) (l m : NamedLine) (s : Session) (query : Query) (after later : ℕ) (found next : Found) → Came lines looks n i l (looked.Found after found) → Came lines looks n j m (looked.Found later next) → l.asks ≡ asks.Look s query → i < j
      → after ≤ later
  read_forward n i j l m s query after later found next come then' asks_is low =
      let there = node_there law lines home nodes run looks courses are join n i l (looked.Found after found) come in
      (join.did n there.0 there.1).reports.forward i j l m s query after later found next come then' asks_is low

  pub report_high : (n i j : ℕ) (l m : NamedLine) (position later : ℕ) → Came lines looks n i l (looked.Reported position) → Came lines looks n j m (looked.Reported later) → i < j → position ≤ later
  report_high n i j l m position later come then' low =
      let there = node_there law lines home nodes run looks courses are join n i l (looked.Reported position) come in
      (join.did n there.0 there.1).reports.again i j l m position later come then' low

module _ (law : Law) (low : (log : List Entry) (n : ℕ) → law.floor log n → n ≤ length log) (lines : List NamedLine) (home : ℕ → ℕ) (nodes : ℕ) (run : NodeCourse) (looks : List (Option Looked)) (courses : ℕ → NodeCourse) (are : AreLines lines home nodes) (join : AreJoined law lines home nodes run looks courses) where
  -- a line that reported, by the run's moments
  module _ (n i : ℕ) (l : NamedLine) (position : ℕ) (come : Came lines looks n i l (looked.Reported position)) where
    there : (1 ≤ n) × (n ≤ nodes)
    there = node_there law lines home nodes run looks courses are join n i l (looked.Reported position) come

    was : WasReported lines n (courses n) i l.phase position
    was = (join.did n there.0 there.1).reports.each i l position come

    legal : IsLegal law run.seen
    legal = run_legal law lines home nodes run looks courses join (let a = there.0 in let b = there.1 in omega (arith, a, b))

    next : Grows (moment run (l.phase + 1)) run.seen
    next = run_seen law lines home nodes run looks courses join n there.0 there.1 (l.phase + 1)

    upto : Grows was.early (moment run (l.phase + 1))
    upto = subst (Grows was.early) (moment_is law lines home nodes run looks courses join n there.0 there.1 (l.phase + 1)) was.upto

    later : Grows was.early run.seen
    later = grows_both was.early (moment run (l.phase + 1)) run.seen upto next

    early_legal : IsLegal law was.early
    early_legal = grown_legal law was.early run.seen later legal

    -- what it reports isn't above the log's tail then
    below : position ≤ tail_of (state_of was.early)
    below =
        let reach = front_low law low was.early was.clean.log early_legal was.clean.front in
        let within = was.clean.within in
        omega (arith, reach, within)

    -- so it isn't above the tail at which the next phase begins
    pub report_low : position ≤ tails run (l.phase + 1)
    report_low =
        let rises = (grown_on law was.early (moment run (l.phase + 1)) upto (grown_legal law (moment run (l.phase + 1)) run.seen next legal)).tail in
        let high = below in
        omega (arith, rises, high)

  -- a later line's command of the node stands at what was reported or above
  pub rank_high : (n i j s r pos : ℕ) (l m : NamedLine) (position : ℕ) (e : Entry) → IsHome law.may s n → Came lines looks n i l (looked.Reported position) → i < j → slice_get lines j ≡ Some m → m.node ≡ n → logs_for s m ≡ true → rank_in m.asks ≡ r → Holds run.seen pos e → HasRank s r e
      → position ≤ pos
  rank_high n i j s r pos l m position e only come before at node logs rank held has = ⊎_elim
      (λ (under : pos < position).
      let k = was n i l position come in
      let g = later n i l position come in
      let first = early_legal n i l position come in
      let high = below n i l position come in
      let stood : Holds k.early pos e =
      held_before law low k.early g.0 pos e (subst (IsLegal law) g.1 (legal n i l position come)) (omega (arith, under, high)) (subst (λ es. Holds es pos e) g.1 held) in
      let by = appender law k.early e first (held_appended law k.early pos e first stood) in
      let own : Contains (appended_by n k.early) e = subst (λ who. Contains (appended_by who k.early) e) (only by.0 r e by.1.0 has) by.1.1 in
      let few = k.own s r e own has in
      let counts = rank_counts lines home nodes are n j s m at node logs in
      let more = asked_more lines n s i j (omega (arith, before)) in
      absurd (omega (arith, few, counts, rank, more)))
      (λ (over : position ≤ pos). over)
      (cases_lt pos position)
