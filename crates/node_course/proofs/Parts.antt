-- The nodes of a run have the run's moments.
use Rattle.std.proofs.Common.{◌≡◌, ap, ◌∙◌, subst, ℕ, ◌+◌, ◌≤◌, List, Option, arith}
use Rattle.std.specs.Prelude.{get_or}
use Rattle.legal_journal.specs.Law.{Law}
use Rattle.legal_journal.specs.declared.events.Event.{Event}
use Rattle.legal_journal.specs.Journal.{IsLegal}
use Rattle.script_text.specs.declared.asks.NamedLine.{NamedLine}
use Rattle.node_lines.specs.declared.lines.Looked.{Looked}
use Rattle.node_lines.specs.Workers.{Grows}
use Rattle.node_course.specs.Script.{AreLines}
use Rattle.node_course.specs.Moments.{NodeCourse, moment}
use Rattle.node_course.specs.Played.{Came}
use Rattle.node_course.specs.Joined.{AreJoined, IsPartOf}
use Rattle.node_course.proofs.Lines.{at_get}
use Rattle.node_course.proofs.Moments.{moment_seen, moment_upto}

pub same_moment : (home : ℕ → ℕ) (n : ℕ) (run c : NodeCourse) → IsPartOf home n run c → (p : ℕ) → moment c p ≡ moment run p
same_moment home n run c part p = ap (λ (bs : List (List Event)). get_or bs p c.seen) part.begins ∙ ap (λ d. get_or run.begins p d) part.seen

module _ (law : Law) (lines : List NamedLine) (home : ℕ → ℕ) (nodes : ℕ) (run : NodeCourse) (looks : List (Option Looked)) (courses : ℕ → NodeCourse) (are : AreLines lines home nodes) (j : AreJoined law lines home nodes run looks courses) where
  -- a line's node is one of them
  pub node_there : (n i : ℕ) (l : NamedLine) (look : Looked) → Came lines looks n i l look → (1 ≤ n) × (n ≤ nodes)
  node_there n i l look come =
      let h = at_get (λ (m : NamedLine). (1 ≤ m.node) × (m.node ≤ nodes)) lines i l are.nodes_are come.is in
      (omega (arith, h.0, come.own), omega (arith, h.1, come.own))

module _ (law : Law) (lines : List NamedLine) (home : ℕ → ℕ) (nodes : ℕ) (run : NodeCourse) (looks : List (Option Looked)) (courses : ℕ → NodeCourse) (j : AreJoined law lines home nodes run looks courses) where
  pub run_legal : 1 ≤ nodes → IsLegal law run.seen
  run_legal some = subst (IsLegal law) (j.part 1 (omega arith) some).seen (j.did 1 (omega arith) some).legal

  module _ (n : ℕ) (least : 1 ≤ n) (most : n ≤ nodes) where
    pub moment_is : (p : ℕ) → moment (courses n) p ≡ moment run p
    moment_is p = same_moment home n run (courses n) (j.part n least most) p

    pub run_upto : (p q : ℕ) → p ≤ q → Grows (moment run p) (moment run q)
    run_upto p q low = subst (λ m. Grows m (moment run q)) (moment_is p) (subst (Grows (moment (courses n) p)) (moment_is q) (moment_upto (courses n) (j.did n least most).rise p q low))

    pub run_seen : (p : ℕ) → Grows (moment run p) run.seen
    run_seen p = subst (λ m. Grows m run.seen) (moment_is p) (subst (Grows (moment (courses n) p)) (j.part n least most).seen (moment_seen (courses n) (j.did n least most).rise p))

  pub run_rises : 1 ≤ nodes → (p : ℕ) → Grows (moment run p) (moment run (p + 1))
  run_rises some p = run_upto 1 (omega arith) some p (p + 1) (omega arith)
