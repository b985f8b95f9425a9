-- How often entries are begun.
use Rattle.std.proofs.Common.{◌≡◌, ℕ, ◌+◌, ◌≤◌, ◌&&◌, [], List, inl, inr, ◌⊎◌, ◌++◌, sym, ap, ◌∙◌, subst, arith}
use Rattle.std.specs.Prelude.{◌==◌}
use Rattle.std.proofs.lemmas.List.{append_assoc, append-nil}
use Rattle.delos_types.specs.declared.entry.Entry.{Entry}
use Rattle.legal_journal.specs.declared.events.Event.{Event}
use Rattle.legal_journal.proofs.Sealing.{count-append}
use Rattle.virtual_log.specs.declared.fault.Fault.{Fault}
use Rattle.virtual_log.specs.declared.fault.Fault.TheVariants.{NoQuorum, Full, Meta, Memory}
use Rattle.virtual_log.specs.Attempts.{is_begun, is_refused, Attempts, AppendsNone, AppendsOnce, AppendsAtMostOnce}
use Rattle.base_engine.specs.Settling.{Begins}

pub begins_none : (who : ℕ) (a : List Event) → Begins who 0 a a
begins_none who a = record { more = []; seen = sym (append-nil a); count = omega arith }

pub begins_then : (who user n m : ℕ) (a b c : List Event) → user ≡ who → Begins who n a b → Begins user m b c → Begins who (n + m) a c
begins_then who user n m a b c same f h =
    let g = subst (λ u. Begins u m b c) same h in
    record {
      more = f.more ++ g.more;
      seen = g.seen ∙ (ap (λ l. l ++ g.more) f.seen ∙ append_assoc a f.more g.more);
      count = omega (arith, count-append (λ e. is_begun e.call e.answer && (e.who == who)) f.more g.more, count-append (λ e. is_refused e.answer && (e.who == who)) f.more g.more, f.count, g.count);
    }

-- by an append of one entry
pub begins_of : (who : ℕ) (entry : Entry) (n : ℕ) (a b : List Event) → Attempts who entry 0 n a b → Begins who n a b
begins_of who entry n a b h = record { more = h.more; seen = h.seen; count = omega (arith, h.count) }

none_or_one : (who : ℕ) (entry : Entry) (a b : List Event) → AppendsNone who entry a b ⊎ AppendsOnce who entry a b → (n : ℕ) × (n ≤ 1) × Begins who n a b
none_or_one who entry a b (inl h) = (0, omega arith, begins_of who entry 0 a b h)
none_or_one who entry a b (inr h) = (1, omega arith, begins_of who entry 1 a b h)

-- .. that failed
pub begins_at_most : (who : ℕ) (entry : Entry) (a b : List Event) (f : Fault) → AppendsAtMostOnce who entry a f b → (n : ℕ) × (n ≤ 1) × Begins who n a b
begins_at_most who entry a b Memory h = none_or_one who entry a b h
begins_at_most who entry a b (NoQuorum id unreached) h = none_or_one who entry a b h
begins_at_most who entry a b (Full id) h = (0, omega arith, begins_of who entry 0 a b h)
begins_at_most who entry a b Meta h = (0, omega arith, begins_of who entry 0 a b h)
