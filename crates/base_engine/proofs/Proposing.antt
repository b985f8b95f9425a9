-- How an item goes down.
use Rattle.std.proofs.Common.{Bool, true, false, ◌≡◌, inl, inr, ℕ, List, Option, Some, None, refl, sym, subst, ⊎_elim}
use Rattle.delos_types.specs.declared.entry.Entry.{Entry}
use Rattle.delos_types.specs.declared.item.Item.{Item}
use Rattle.legal_journal.specs.declared.events.Event.{Event}
use Rattle.engine_api.specs.declared.content.Content.{Content}
use Rattle.engine_api.specs.declared.content.Content.TheVariants as content
use Rattle.engine_steps.specs.Words.{under}
use Rattle.base_engine.specs.declared.fault.Fault.{Fault}
use Rattle.base_engine.specs.declared.fault.Fault.TheVariants.{Memory}
use Rattle.table_core.specs.declared.command.Command.{Command}
use Rattle.replica_api.specs.Replica.{ReplicaView}
use Rattle.base_engine.specs.Settling.{OutboxView, Settled}
use Rattle.base_engine.specs.Proposing.{Sent, CaughtUp, Readied, GaveUp, GaveUpAt, Refused, IsNear, IsNearAt, IsFarAt, IsNearBy}
use Rattle.base_engine.proofs.Settling.{settled_further}

pub refused_memory : (holds : List Event → ℕ → Entry → Type 0) (who : ℕ) (old : List Event) (was : OutboxView) (w : Option Content) (new : List Event) (is : OutboxView) → Settled holds who old was new is → GaveUpAt holds who old was w Memory new is
refused_memory holds who old was None new is h = h
refused_memory holds who old was (Some (content.Session s r command)) new is h = h
refused_memory holds who old was (Some (content.Alive node position)) new is h = h
refused_memory holds who old was (Some (content.Leave node)) new is h = h
refused_memory holds who old was (Some (content.Trim position)) new is h = h

pub refused_by : (holds : List Event → ℕ → Entry → Type 0) (who : ℕ) (old : List Event) (was : OutboxView) (item : Item) (s r : ℕ) (command : Option Command) (f : Fault) (new : List Event) (is : OutboxView) → under 2 item ≡ Some (content.Session s r command) → GaveUp holds who old was s f new is → Refused holds who old was item f new is
refused_by holds who old was item s r command f new is word h = subst (λ w. GaveUpAt holds who old was w f new is) (sym word) h

pub readied_word : (holds : List Event → ℕ → Entry → Type 0) (who : ℕ) (old : List Event) (was : OutboxView) (item : Item) (s r : ℕ) (command : Option Command) (near : Bool) (new : List Event) (is : OutboxView) (v : ReplicaView)
    → under 2 item ≡ Some (content.Session s r command) → CaughtUp holds who old was new is v → IsNearBy v.contents s r near → Readied holds who old was item near new is v
readied_word holds who old was item s r command true new is v word c near = (inr c, subst (λ w. IsNearAt v.contents w) (sym word) near)
readied_word holds who old was item s r command false new is v word c far = (c, subst (λ w. IsFarAt v.contents w) (sym word) far)

pub readied_at_once : (holds : List Event → ℕ → Entry → Type 0) (who : ℕ) (old : List Event) (was : OutboxView) (item : Item) (s r : ℕ) (command : Option Command) (v : ReplicaView)
    → under 2 item ≡ Some (content.Session s r command) → IsNearBy v.contents s r true → Readied holds who old was item true old was v
readied_at_once holds who old was item s r command v word near = (inl (refl, refl), subst (λ w. IsNearAt v.contents w) (sym word) near)

-- what goes down after the node caught up, or at once
pub sent_after : (holds : List Event → ℕ → Entry → Type 0) (who : ℕ) (old mid new : List Event) (was now is : OutboxView) (v w : ReplicaView) (item : Item) (Q : Option Entry → Type 0)
    → Readied holds who old was item true mid now v → Sent holds who mid now Q new is → w.contents ≡ v.contents → Sent holds who old was Q new is × IsNear w.contents item
sent_after holds who old mid new was now is v w item Q ready sent same = (⊎_elim at_once later ready.0, subst (λ m. IsNear m item) (sym same) ready.1)
  where
    at_once : (mid ≡ old) × (now ≡ was) → Sent holds who old was Q new is
    at_once k = subst (λ o. Sent holds who old o Q new is) k.1 (subst (λ es. Sent holds who es now Q new is) k.0 sent)

    later : CaughtUp holds who old was mid now v → Sent holds who old was Q new is
    later c = record {
      mid = sent.mid;
      settled = settled_further holds who old mid new was now sent.mid c.settled c.none sent.settled;
      room = sent.room;
      packed = sent.packed;
      out = sent.out;
      is_with = sent.is_with;
    }

pub settled_after : (holds : List Event → ℕ → Entry → Type 0) (who : ℕ) (old mid new : List Event) (was now is : OutboxView) (v : ReplicaView) (item : Item)
    → Readied holds who old was item true mid now v → Settled holds who mid now new is → Settled holds who old was new is
settled_after holds who old mid new was now is v item ready h = ⊎_elim at_once later ready.0
  where
    at_once : (mid ≡ old) × (now ≡ was) → Settled holds who old was new is
    at_once k = subst (λ o. Settled holds who old o new is) k.1 (subst (λ es. Settled holds who es now new is) k.0 h)

    later : CaughtUp holds who old was mid now v → Settled holds who old was new is
    later c = settled_further holds who old mid new was now is c.settled c.none h
