-- A node stays well.
use Rattle.std.proofs.Common.{◌≡◌, ◌≢◌, ℕ, ◌≤◌, List, [], ◌∷◌, ◌++◌, length, Option, Some, None, refl, sym, ◌∙◌, subst}
use Rattle.std.specs.Prelude.{All}
use Rattle.delos_types.specs.declared.entry.Entry.{Entry}
use Rattle.delos_types.specs.declared.item.Item.{Item}
use Rattle.engine_api.specs.Packing.{packed}
use Rattle.legal_journal.specs.Law.{Law}
use Rattle.legal_journal.specs.declared.events.Event.{Event}
use Rattle.legal_journal.specs.Journal.{IsLegal}
use Rattle.replica_api.specs.Replica.{Meaning, ReplicaView, Survives, Queues, Flushes, armed_by}
use Rattle.base_engine.specs.Reading.{IsFront}
use Rattle.base_engine.specs.Following.{Follows, IsKnown}
use Rattle.base_engine.specs.Settling.{MaySend}
use Rattle.base_engine.specs.Node.{NodeView, NodeOk}
use Rattle.base_engine.proofs.Following.{follows_armed, known_armed}

module _ (law : Law) (holds : List Event → ℕ → Entry → Type 0) (meaning : Meaning) where
  -- its entries and what waits are as they were
  pub ok_same : (old new : NodeView) → NodeOk law holds meaning old → IsLegal law new.seen → new.who ≡ old.who → Follows holds meaning new.seen new.replica → IsKnown new.known new.replica
      → new.outbox.entries ≡ old.outbox.entries → new.replica.kept ≡ old.replica.kept → new.replica.origin ≡ old.replica.origin → new.nodes ≡ old.nodes → NodeOk law holds meaning new
  ok_same old new ok legal who follows bounded entries kept origin nodes = record {
    eight = subst (λ n. n ≤ 8) (sym nodes) ok.eight;
    legal = legal;
    follows = follows;
    bounded = bounded;
    own = subst (λ w. All (λ e. MaySend law.may w e) new.outbox.entries) (sym who) (subst (λ es. All (λ e. MaySend law.may old.who e) es) (sym entries) ok.own);
    few = subst (λ es. length es ≤ 4) (sym entries) ok.few;
    waiting = λ some. subst (λ w. law.may w (packed new.replica.origin new.replica.kept)) (sym who)
        (subst (λ o. law.may old.who (packed o new.replica.kept)) (sym origin)
        (subst (λ k. law.may old.who (packed old.replica.origin k)) (sym kept) (ok.waiting (λ none. some (kept ∙ none)))));
  }

  -- so it is where its disk is armed
  pub ok_armed : (n : NodeView) (after : ℕ) → NodeOk law holds meaning n → NodeOk law holds meaning (record n { replica = armed_by n.replica after })
  ok_armed n after ok =
      ok_same n (record n { replica = armed_by n.replica after }) ok ok.legal refl (follows_armed holds meaning n.seen n.replica after ok.follows) (known_armed n.known n.replica after ok.bounded) refl refl refl refl

  pub ok_waiting : (old new : NodeView) → new.nodes ≤ 8 → IsLegal law new.seen → Follows holds meaning new.seen new.replica → IsKnown new.known new.replica → All (λ e. MaySend law.may new.who e) new.outbox.entries → length new.outbox.entries ≤ 4
      → new.who ≡ old.who → new.replica.origin ≡ old.replica.origin → (new.replica.kept ≢ [] → law.may old.who (packed old.replica.origin new.replica.kept)) → NodeOk law holds meaning new
  ok_waiting old new eight legal follows bounded own few who origin waiting = record {
    eight = eight;
    legal = legal;
    follows = follows;
    bounded = bounded;
    own = own;
    few = few;
    waiting = λ some. subst (λ w. law.may w (packed new.replica.origin new.replica.kept)) (sym who) (subst (λ o. law.may old.who (packed o new.replica.kept)) (sym origin) (waiting some));
  }

pub front_none : (holds : List Event → ℕ → Entry → Type 0) (seen : List Event) → IsFront holds seen []
front_none holds seen pos e h = absurd (cc)

pub follows_fresh : (holds : List Event → ℕ → Entry → Type 0) (meaning : Meaning) (seen : List Event) (v : ReplicaView) → meaning.state [] v.contents → v.cursor ≡ 0 → v.asked ≡ None → Survives meaning.spells v → Follows holds meaning seen v
follows_fresh holds meaning seen v led start none survives = record {
  now = record { log = []; size = sym start; front = front_none holds seen; led = led };
  asked = λ s is. let no : None ≡ Some s = sym none ∙ is in absurd (cc);
  survives = survives;
}

-- What waits after a proposal

pub queued_waiting : (may : ℕ → Entry → Type 0) (who origin : ℕ) (kept kept' : List Item) (item : Item) (packed_as : Option Entry) → Queues origin kept item packed_as kept' → may who (packed origin (kept ++ item ∷ [])) → kept' ≢ [] → may who (packed origin kept')
queued_waiting may who origin kept kept' item None q own some = subst (λ k. may who (packed origin k)) (sym q.0) own
queued_waiting may who origin kept kept' item (Some e) q own some = absurd (some q.2)

pub flushed_waiting : (may : ℕ → Entry → Type 0) (who origin : ℕ) (kept kept' : List Item) (packed_as : Option Entry) → Flushes origin kept packed_as kept' → kept' ≢ [] → may who (packed origin kept')
flushed_waiting may who origin kept kept' None q some = absurd (some q.1)
flushed_waiting may who origin kept kept' (Some e) q some = absurd (some q.2)

pub kept_waiting : (may : ℕ → Entry → Type 0) (who origin : ℕ) (kept kept' : List Item) → kept' ≡ kept → (kept ≢ [] → may who (packed origin kept)) → kept' ≢ [] → may who (packed origin kept')
kept_waiting may who origin kept kept' same was some = subst (λ k. may who (packed origin k)) (sym same) (was (λ none. some (same ∙ none)))
