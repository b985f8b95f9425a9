-- What stood in the log of a run as a phase began.
use Rattle.std.proofs.Common.{sym, subst, ℕ, ◌<◌, ◌≤◌, List, Option, length, Contains, arith}
use Rattle.delos_types.specs.declared.entry.Entry.{Entry}
use Rattle.legal_journal.specs.Law.{Law}
use Rattle.legal_journal.specs.Journal.{IsLegal}
use Rattle.journal_laws.proofs.Changes.{held_appended}
use Rattle.virtual_log.specs.Holding.{Holds}
use Rattle.turn_scopes.proofs.Moments.{held_before}
use Rattle.script_text.specs.declared.asks.NamedLine.{NamedLine}
use Rattle.node_lines.specs.declared.lines.Looked.{Looked}
use Rattle.node_lines.specs.UnderWay.{HasRank}
use Rattle.node_lines.specs.Workers.{IsHome, appended_by}
use Rattle.node_course.specs.Script.{AreLines, asked_before}
use Rattle.node_course.specs.Moments.{NodeCourse, moment, tails}
use Rattle.node_course.specs.Joined.{AreJoined}
use Rattle.node_course.proofs.Moments.{grown_legal}
use Rattle.node_course.proofs.Parts.{moment_is, run_legal, run_seen}
use Rattle.node_course.proofs.Trimmed.{appender}

module _ (law : Law) (low : (log : List Entry) (n : ℕ) → law.floor log n → n ≤ length log) (lines : List NamedLine) (home : ℕ → ℕ) (nodes : ℕ) (run : NodeCourse) (looks : List (Option Looked)) (courses : ℕ → NodeCourse) (are : AreLines lines home nodes) (join : AreJoined law lines home nodes run looks courses) where
  pub stood_asked : (p s r pos : ℕ) (e : Entry) → p ≤ run.phase → IsHome law.may s (home s) → Holds run.seen pos e → pos < tails run p → HasRank s r e → r ≤ asked_before lines s p
  stood_asked p s r pos e upto only held below has =
      let n = home s in
      let least = are.there s in
      let most = are.within s in
      let legal = run_legal law lines home nodes run looks courses join (omega (arith, least, most)) in
      let up = run_seen law lines home nodes run looks courses join n least most p in
      let was : Holds (moment run p) pos e = held_before law low (moment run p) up.0 pos e (subst (IsLegal law) up.1 legal) below (subst (λ l. Holds l pos e) up.1 held) in
      let then' = grown_legal law (moment run p) run.seen up legal in
      let by = appender law (moment run p) e then' (held_appended law (moment run p) pos e then' was) in
      let own : Contains (appended_by n (moment run p)) e = subst (λ who. Contains (appended_by who (moment run p)) e) (only by.0 r e by.1.0 has) by.1.1 in
      let is = moment_is law lines home nodes run looks courses join n least most p in
      (join.did n least most).began p s r e (let same = (join.part n least most).phase in omega (arith, upto, same)) (subst (λ m. Contains (appended_by n m) e) (sym is) own) has
