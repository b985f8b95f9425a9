use Rattle.std.proofs.Common.{◌≡◌, ℕ, ◌+◌, ◌≤◌, None, length}
use Rattle.std.specs.Prelude.{All}
use Rattle.virtual_log.specs.Turning.{Later}
use Rattle.base_engine.specs.Settling.{view_of, Begins, MaySend}
use Rattle.base_engine.proofs.Settling.{SoFar, LandedSoFar}
use Rattle.base_engine.proofs.settle.carry_all.Given as goal

abbrev pub invariant-entry : goal.invariant-entry
invariant-entry g l =
    let p = g.L.Law.Rules in
    let t = g.L.SharedLog in
    record {
      later : Later p.law (t.seen l.fn.log) (t.seen l.log);
      who : t.who l.log ≡ t.who l.fn.log;
      known : t.reaches l.fn.log ≤ t.reaches l.log;
      may : All (λ e. MaySend p.law.may (t.who l.log) e) l.outbox.entries.items;
      landed : l.outbox.unsettled ≡ None → LandedSoFar t.holds (t.who l.fn.log) (t.seen l.fn.log) l.fn.outbox.entries.items (t.seen l.log) l.outbox.entries.items (t.reaches l.log);
      once : (n : ℕ) × (n + length l.outbox.entries.items ≤ length l.fn.outbox.entries.items) × Begins (t.who l.fn.log) n (t.seen l.fn.log) (t.seen l.log);
      begun : l.outbox.unsettled ≡ None → (n : ℕ) × (n + length l.outbox.entries.items ≡ length l.fn.outbox.entries.items) × Begins (t.who l.fn.log) n (t.seen l.fn.log) (t.seen l.log);
      sofar : SoFar t.holds (t.who l.fn.log) (t.seen l.fn.log) (view_of l.fn.outbox) (t.seen l.log) (view_of l.outbox);
    }

abbrev pub decreases-entry : goal.decreases-entry
decreases-entry g l = length l.outbox.entries.items
