-- A store is opened again, and then a tail is found.
use Rattle.std.proofs.Common.{◌≡◌, refl, sym, ap, ◌∙◌, subst, ℕ, ◌≤◌, inl, inr, false, List, [], ◌∷◌, ◌++◌, length, arith, append-nil}
use Rattle.delos_types.specs.declared.entry.Entry.{Entry}
use Rattle.delos_types.specs.declared.cause.Cause.{Cause}
use Rattle.legal_journal.specs.Law.{Law}
use Rattle.legal_journal.specs.Journal.{IsLegal}
use Rattle.virtual_log.specs.Turning.{OnlyOwn, IsAbove}
use Rattle.base_engine.specs.declared.fault.Fault.TheVariants.{Because}
use Rattle.base_engine.specs.Arming.{LeavesArming, StoreTwice}
use Rattle.base_engine.specs.Causes.{Blames}
use Rattle.base_engine.specs.Following.{IsAt, EndsBy}
use Rattle.base_engine.specs.Node.{NodeView, Keeps}
use Rattle.base_engine.proofs.Arming.{arming_refl, arming_trans}
use Rattle.node_lines.specs.Moving.{Moves, Spends, strikes}
use Rattle.node_lines.proofs.Moving.{moves-sync}
use Rattle.node_lines.proofs.Spending.{spends-none, spends-both, spends-blames}
use Rattle.run_closing.specs.Ending.{Reopens, PlaysOut}

module _ (law : Law) where
  pub comes_up : (old new : NodeView) → Keeps law old new → new.seen ≡ old.seen → new.replica.kept ≡ old.replica.kept → new.outbox ≡ old.outbox → strikes old.replica ≤ strikes new.replica → LeavesArming 0 old.replica new.replica → new.replica.down ≡ false → Reopens old new
  comes_up old new k seen kept outbox low arms up = record {
    who = k.who;
    nodes = k.nodes;
    origin = k.origin;
    seen = seen;
    forward = k.forward;
    counts = k.counts;
    struck = low;
    arming = arms;
    kept = kept;
    outbox = outbox;
    up = inl up;
  }

  pub stays_down : (old new : NodeView) (c : Cause) → Keeps law old new → new.seen ≡ old.seen → new.replica.kept ≡ old.replica.kept → new.outbox ≡ old.outbox
      → strikes old.replica ≤ strikes new.replica → Blames old.who old.seen old.replica.faults (Because c) new.seen new.replica.faults → StoreTwice old.replica (Because c) new.replica → LeavesArming 0 old.replica new.replica → Reopens old new
  stays_down old new c k seen kept outbox low blames twice arms = record {
    who = k.who;
    nodes = k.nodes;
    origin = k.origin;
    seen = seen;
    forward = k.forward;
    counts = k.counts;
    struck = low;
    arming = arms;
    kept = kept;
    outbox = outbox;
    up = inr (record { cause = c; spends = spends-blames old.who old.seen new.seen c old.replica new.replica (k.later.more, k.later.seen) low blames twice });
  }

  keeps_on : (old mid new : NodeView) → Reopens old mid → Keeps law mid new → Keeps law old new
  keeps_on old mid new r k = record {
    who = k.who ∙ r.who;
    nodes = k.nodes ∙ r.nodes;
    origin = k.origin ∙ r.origin;
    later = record { more = k.later.more; seen = k.later.seen ∙ ap (λ l. l ++ k.later.more) r.seen; legal = k.later.legal };
    forward = omega (arith, k.forward, r.forward);
    counts = omega (arith, k.counts, r.counts);
  }

  module _ (low : (log : List Entry) (n : ℕ) → law.floor log n → n ≤ length log) where
    -- a node that is passed by
    pub moves_nothing : (n : NodeView) → IsLegal law n.seen → Moves law n n []
    moves_nothing n legal =
        let none = sym (append-nil n.seen) in
        moves-sync law low n n []
        (record { who = refl; nodes = refl; origin = refl; later = record { more = []; seen = none; legal = legal }; forward = omega arith; counts = omega arith })
        refl refl (arming_refl 0 n.replica) (spends-none n.who n.seen n.seen (strikes n.replica) (strikes n.replica) ([], none) (omega arith))

    pub moves_on : (old mid new : NodeView) → Reopens old mid → Keeps law mid new → strikes mid.replica ≤ strikes new.replica → new.replica.kept ≡ mid.replica.kept → new.outbox ≡ mid.outbox → LeavesArming 0 mid.replica new.replica → Moves law old new []
    moves_on old mid new r k rise kept outbox arms =
        let on = keeps_on old mid new r k in
        moves-sync law low old new [] on (outbox ∙ r.outbox) (kept ∙ r.kept) (arming_trans 0 old.replica mid.replica new.replica r.arming arms) (spends-none old.who old.seen new.seen (strikes old.replica) (strikes new.replica) (on.later.more, on.later.seen) (omega (arith, r.struck, rise)))

  pub played : (old mid new : NodeView) (tail : ℕ) → Reopens old mid → IsAbove mid.who mid.seen tail new.seen → IsAt tail new.replica new.seen → EndsBy mid.who mid.replica.cursor mid.seen tail new.seen → PlaysOut old new
  played old mid new tail r above at exact = inl (record {
    tail = tail;
    above = subst (λ w. IsAbove w old.seen tail new.seen) r.who (subst (λ l. IsAbove mid.who l tail new.seen) r.seen above);
    at = at;
    exact = λ low alone. exact (omega (arith, low, r.forward)) (subst (λ w. OnlyOwn w mid.seen new.seen) (sym r.who) (subst (λ l. OnlyOwn old.who l new.seen) (sym r.seen) alone));
  })

  pub failed : (old mid new : NodeView) (c : Cause) → Reopens old mid → Keeps law mid new → strikes mid.replica ≤ strikes new.replica → Blames mid.who mid.seen mid.replica.faults (Because c) new.seen new.replica.faults → StoreTwice mid.replica (Because c) new.replica → PlaysOut old new
  failed old mid new c r k low blames twice = inr (record {
    cause = c;
    spends = spends-both old.who old.seen mid.seen new.seen (strikes old.replica) (strikes mid.replica) (strikes new.replica) [] (c ∷ [])
        (spends-none old.who old.seen mid.seen (strikes old.replica) (strikes mid.replica) ([], r.seen ∙ sym (append-nil old.seen)) r.struck)
        (subst (λ w. Spends w mid.seen new.seen (strikes mid.replica) (strikes new.replica) (c ∷ [])) r.who
        (spends-blames mid.who mid.seen new.seen c mid.replica new.replica (k.later.more, k.later.seen) low blames twice));
  })
