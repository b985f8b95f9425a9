-- What a node's calls keep of its sessions.
use Rattle.std.proofs.Common.{◌≡◌, ◌⊎◌, inl, inr, refl, sym, ap, ◌∙◌, subst, ℕ, ◌+◌, ◌≤◌, cond, Bool, true, false, List, [], ◌∷◌, ◌++◌, Option, Some, None, map, length, arith, append_assoc, append-nil}
use Rattle.std.specs.Prelude.{◌==◌, All}
use Rattle.std.proofs.lemmas.Bool.Decides.{nat_tests}
use Rattle.std.proofs.lemmas.List.{map-append}
use Rattle.std.proofs.lemmas.List.Elements.{All-nil, All-cons, All-append}
use Rattle.delos_types.specs.declared.entry.Entry.{Entry}
use Rattle.delos_types.specs.declared.item.Item.{Item}
use Rattle.delos_types.specs.declared.cause.Cause.{Cause}
use Rattle.legal_journal.specs.Law.{Law}
use Rattle.legal_journal.specs.Journal.{IsLegal}
use Rattle.virtual_log.specs.Holding.{Holds}
use Rattle.engine_api.specs.declared.content.Content.{Content}
use Rattle.engine_api.specs.declared.content.Content.TheVariants as content
use Rattle.engine_api.specs.Items.{content_of}
use Rattle.engine_api.specs.Packing.{IsProposable}
use Rattle.replica_api.specs.Replica.{ReplicaView, Queues, Flushes}
use Rattle.base_engine.specs.declared.outbox.Given.{Given}
use Rattle.base_engine.specs.Arming.{LeavesArming}
use Rattle.base_engine.specs.Settling.{OutboxView, Settled, cause_in}
use Rattle.base_engine.specs.Proposing.{Sent, with_entry}
use Rattle.base_engine.specs.Node.{NodeView, Keeps}
use Rattle.base_engine.proofs.Arming.{arming_same, arming_rest, arming_refl, arming_trans}
use Rattle.node_lines.specs.UnderWay.{IsGiven, rank_under, ranks_in}
use Rattle.node_lines.proofs.Settling.{Extends, settled_given, none-front}
use Rattle.node_lines.proofs.Queueing.{flushed_given, sent_given, sent_other}
use Rattle.node_lines.specs.Moving.{Spends, strikes, CanPack, causes_of, Goes, StaysGiven, HasNoneOf, IsQuiet, Moves, HandsIn}
use Rattle.node_lines.proofs.Quiet.{IsStill, settled_still, flushed_still, sent_still}
use Rattle.node_lines.proofs.Spending.{spends-none, spends-both, spends-settled, spends-permuted, shuffled, strikes-same, strikes-kept}

given_of : (mid : OutboxView) (p : Option Entry) → (with_entry mid p).given ≡ mid.given
given_of mid None = refl
given_of mid (Some e) = refl

packs-flushed : (origin : ℕ) (kept kept' : List Item) (p : Option Entry) → Flushes origin kept p kept' → CanPack kept → CanPack kept'
packs-flushed origin kept kept' None h c = subst CanPack (h.0 ∙ sym h.1) c
packs-flushed origin kept kept' (Some e) h c = subst CanPack (sym h.2) (record { each = All-nil IsProposable; few = omega arith })

-- an item that goes down waits then, or was packed with all that waited
pub waits-queued : (origin : ℕ) (kept kept' : List Item) (item : Item) (p : Option Entry) → Queues origin kept item p kept' → (kept' ≡ kept ++ item ∷ []) ⊎ (kept' ≡ [])
waits-queued origin kept kept' item None h = inl h.0
waits-queued origin kept kept' item (Some e) h = inr h.2

still_in : (n : NodeView) (s : ℕ) → IsQuiet n s → IsStill n.outbox n.replica.kept s
still_in n s q = record { outstanding = q.outstanding; waiting = q.waiting; free = q.free }

quiet_in : (n : NodeView) (s : ℕ) → IsStill n.outbox n.replica.kept s → IsQuiet n s
quiet_in n s q = record { outstanding = q.outstanding; waiting = q.waiting; free = q.free }

-- An item that is a command of one session is none of another.
pub rank_elsewhere : (s t r : ℕ) (o : Option Content) → rank_under s o ≡ Some r → (s == t) ≡ false → rank_under t o ≡ None
rank_elsewhere s t r (Some (content.Session u q c)) own other = by (u == s) (u == t) refl refl own
  where
    differ : (u s t : ℕ) → (u == s) ≡ true → (s == t) ≡ false → (u == t) ≡ false
    differ u s t e f = grind (arith, nat_tests)

    by : (a b : Bool) → (u == s) ≡ a → (u == t) ≡ b → cond a (Some q) None ≡ Some r → cond b (Some q) None ≡ None
    by true true e f h = absurd (let g : true ≡ false = sym f ∙ differ u s t e other in cc)
    by true false e f h = refl
    by false b e f h = absurd (cc)
rank_elsewhere s t r (Some (content.Alive n p)) own other = refl
rank_elsewhere s t r (Some (content.Leave n)) own other = refl
rank_elsewhere s t r (Some (content.Trim p)) own other = refl
rank_elsewhere s t r None own other = refl

module _ (law : Law) (low : (log : List Entry) (n : ℕ) → law.floor log n → n ≤ length log) where
  extends-of : (old new : NodeView) → Keeps law old new → Extends old.seen new.seen
  extends-of old new k = (k.later.more, k.later.seen)

  -- entries were settled, and then what is outstanding changed alone
  goes-settled : (old new : NodeView) (mid : OutboxView) → Keeps law old new → strikes old.replica ≤ strikes new.replica → (h : Settled Holds old.who old.seen old.outbox new.seen mid) → new.outbox.given ≡ mid.given
      → (CanPack old.replica.kept → CanPack new.replica.kept) → LeavesArming 0 old.replica new.replica → Goes law old new []
  goes-settled old new mid k low_count h same packs arms = record {
    keeps = k;
    given = h.given;
    gained = same ∙ h.gained;
    spends = spends-both old.who old.seen new.seen new.seen (strikes old.replica) (strikes old.replica) (strikes new.replica) (map (λ g. g.cause) h.given) []
        (spends-settled old.who old.seen new.seen old.outbox mid (strikes old.replica) h)
        (spends-none old.who new.seen new.seen (strikes old.replica) (strikes new.replica) ([], sym (append-nil new.seen)) low_count);
    packs = packs;
    arming = arms;
  }

  pub moves-pack : (old new : NodeView) → CanPack old.replica.kept → Keeps law old new → new.replica ≡ record old.replica { kept = new.replica.kept }
      → Sent Holds old.who old.seen old.outbox (λ packed. Flushes old.replica.origin old.replica.kept packed new.replica.kept) new.seen new.outbox → Moves law old new []
  moves-pack old new can k rest h = record {
    goes = goes-settled old new h.mid k (strikes-kept old.replica new.replica rest) h.settled (ap (λ (o : OutboxView). o.given) h.is_with ∙ given_of h.mid h.packed) (packs-flushed old.replica.origin old.replica.kept new.replica.kept h.packed h.out)
        (arming_rest 0 old.replica new.replica rest);
    stays = λ s sent none g. flushed_given law low old.who old.replica.origin s sent old.seen new.seen old.outbox new.outbox old.replica.kept new.replica.kept k.later.legal none can.each can.few h g;
    quiet = λ s q. quiet_in new s (flushed_still old.who old.replica.origin s old.seen new.seen old.outbox new.outbox old.replica.kept new.replica.kept can.each can.few h (still_in old s q));
  }

  pub moves-settle : (old new : NodeView) (cause : Option Cause) → Keeps law old new → new.replica ≡ old.replica
      → Settled Holds old.who old.seen old.outbox new.seen (record { entries = new.outbox.entries; given = new.outbox.given; unsettled = cause }) → Moves law old new []
  moves-settle old new cause k same h = record {
    goes = goes-settled old new (record { entries = new.outbox.entries; given = new.outbox.given; unsettled = cause }) k (strikes-same old.replica new.replica same) h refl (λ c. subst (λ r. CanPack r.kept) (sym same) c)
        (arming_same 0 old.replica new.replica same);
    stays = λ s sent none g. subst (λ r. IsGiven new.seen new.outbox.entries r.kept s sent) (sym same)
        (settled_given law low old.who s sent old.seen new.seen old.outbox (record { entries = new.outbox.entries; given = new.outbox.given; unsettled = cause }) old.replica.kept k.later.legal none h g);
    quiet = λ s q.
        let then' = settled_still old.who s old.seen new.seen old.outbox (record { entries = new.outbox.entries; given = new.outbox.given; unsettled = cause }) old.replica.kept h (still_in old s q) in
        record { outstanding = then'.outstanding; waiting = ap (λ (r : ReplicaView). ranks_in s r.kept) same ∙ then'.waiting; free = then'.free };
  }

  -- nothing was settled
  nothing : (old new : NodeView) → Keeps law old new → Settled Holds old.who old.seen old.outbox new.seen old.outbox
  nothing old new k = record {
    done = [];
    given = [];
    all = refl;
    gained = sym (append-nil old.outbox.given);
    moment = old.seen;
    fates = (refl, refl, refl);
    rest = extends-of old new k;
  }

  pub moves-sync : (old new : NodeView) (others : List Cause) → Keeps law old new → new.outbox ≡ old.outbox → new.replica.kept ≡ old.replica.kept → LeavesArming 0 old.replica new.replica
      → Spends old.who old.seen new.seen (strikes old.replica) (strikes new.replica) others → Moves law old new others
  moves-sync old new others k same kept arms spends = record {
    goes = record {
      keeps = k;
      given = [];
      gained = ap (λ (o : OutboxView). o.given) same ∙ sym (append-nil old.outbox.given);
      spends = spends;
      packs = λ c. subst CanPack (sym kept) c;
      arming = arms;
    };
    stays = λ s sent none g. subst (λ (x : List Item). IsGiven new.seen new.outbox.entries x s sent) (sym kept)
        (subst (λ (o : OutboxView). IsGiven new.seen o.entries old.replica.kept s sent) (sym same)
        (settled_given law low old.who s sent old.seen new.seen old.outbox old.outbox old.replica.kept k.later.legal (subst (λ (o : OutboxView). cause_in s o.given ≡ None) same none) (nothing old new k) g));
    quiet = λ s q. record {
      outstanding = subst (λ (o : OutboxView). All (HasNoneOf s) o.entries) (sym same) q.outstanding;
      waiting = ap (ranks_in s) kept ∙ q.waiting;
      free = ap (λ (o : OutboxView). cause_in s o.given) same ∙ q.free;
    };
  }

  all-more : (xs : List Item) (x : Item) → All IsProposable xs → IsProposable x → All IsProposable (xs ++ x ∷ [])
  all-more xs x h k = All-append IsProposable xs (x ∷ []) h (All-cons IsProposable x [] k (All-nil IsProposable))

  packs-queued : (origin : ℕ) (kept kept' : List Item) (item : Item) (p : Option Entry) → IsProposable item → Queues origin kept item p kept' → CanPack kept → CanPack kept'
  packs-queued origin kept kept' item None fine h c = record { each = subst (λ k. All IsProposable k) (sym h.0) (all-more kept item c.each fine); few = h.1 }
  packs-queued origin kept kept' item (Some e) fine h c = subst CanPack (sym h.2) (record { each = All-nil IsProposable; few = omega arith })

  pub hands-in : (old new : NodeView) (item : Item) (s sent : ℕ) → CanPack old.replica.kept → IsProposable item → Keeps law old new → new.replica ≡ record old.replica { kept = new.replica.kept } → rank_under s (content_of item) ≡ Some (sent + 1)
      → Sent Holds old.who old.seen old.outbox (λ packed. Queues old.replica.origin old.replica.kept item packed new.replica.kept) new.seen new.outbox → HandsIn law old new s sent
  hands-in old new item s sent can fine k rest own h = record {
    goes = goes-settled old new h.mid k (strikes-kept old.replica new.replica rest) h.settled (ap (λ (o : OutboxView). o.given) h.is_with ∙ given_of h.mid h.packed) (packs-queued old.replica.origin old.replica.kept new.replica.kept item h.packed fine h.out)
        (arming_rest 0 old.replica new.replica rest);
    own = λ none g. sent_given law low old.who old.replica.origin s sent old.seen new.seen old.outbox new.outbox old.replica.kept new.replica.kept item k.later.legal none can.each fine own h g;
    stays = λ t other n none g. sent_other law low old.who old.replica.origin t n old.seen new.seen old.outbox new.outbox old.replica.kept new.replica.kept item k.later.legal none can.each fine
        (rank_elsewhere s t (sent + 1) (content_of item) own other) h g;
    quiet = λ t other q. quiet_in new t (sent_still old.who old.replica.origin t old.seen new.seen old.outbox new.outbox old.replica.kept new.replica.kept item can.each fine
        (rank_elsewhere s t (sent + 1) (content_of item) own other) h (still_in old t q));
  }

  -- an item of no session goes down
  pub moves-plain : (old new : NodeView) (item : Item) → CanPack old.replica.kept → IsProposable item → Keeps law old new → new.replica ≡ record old.replica { kept = new.replica.kept } → ((s : ℕ) → rank_under s (content_of item) ≡ None)
      → Sent Holds old.who old.seen old.outbox (λ packed. Queues old.replica.origin old.replica.kept item packed new.replica.kept) new.seen new.outbox → Moves law old new []
  moves-plain old new item can fine k rest none h = record {
    goes = goes-settled old new h.mid k (strikes-kept old.replica new.replica rest) h.settled (ap (λ (o : OutboxView). o.given) h.is_with ∙ given_of h.mid h.packed) (packs-queued old.replica.origin old.replica.kept new.replica.kept item h.packed fine h.out)
        (arming_rest 0 old.replica new.replica rest);
    stays = λ s sent free g. sent_other law low old.who old.replica.origin s sent old.seen new.seen old.outbox new.outbox old.replica.kept new.replica.kept item k.later.legal free can.each fine (none s) h g;
    quiet = λ s q. quiet_in new s (sent_still old.who old.replica.origin s old.seen new.seen old.outbox new.outbox old.replica.kept new.replica.kept item can.each fine (none s) h (still_in old s q));
  }

  -- One call after another

  pub keeps-both : (old mid new : NodeView) → Keeps law old mid → Keeps law mid new → Keeps law old new
  keeps-both old mid new h k = record {
    who = k.who ∙ h.who;
    nodes = k.nodes ∙ h.nodes;
    origin = k.origin ∙ h.origin;
    later = record { more = h.later.more ++ k.later.more; seen = k.later.seen ∙ ap (λ l. l ++ k.later.more) h.later.seen ∙ append_assoc old.seen h.later.more k.later.more; legal = k.later.legal };
    forward = omega (arith, h.forward, k.forward);
    counts = omega (arith, h.counts, k.counts);
  }

  pub goes-both : (old mid new : NodeView) (others more : List Cause) → Goes law old mid others → Goes law mid new more → Goes law old new (others ++ more)
  goes-both old mid new others more h k = record {
    keeps = keeps-both old mid new h.keeps k.keeps;
    given = h.given ++ k.given;
    gained = k.gained ∙ ap (λ l. l ++ k.given) h.gained ∙ append_assoc old.outbox.given h.given k.given;
    spends = subst (λ cs. Spends old.who old.seen new.seen (strikes old.replica) (strikes new.replica) (cs ++ (others ++ more))) (sym (map-append (λ (g : Given). g.cause) h.given k.given))
        (spends-permuted old.who old.seen new.seen (strikes old.replica) (strikes new.replica)
        (causes_of h.given others ++ causes_of k.given more)
        ((map (λ g. g.cause) h.given ++ map (λ g. g.cause) k.given) ++ (others ++ more))
        (λ P. sym (shuffled P (map (λ g. g.cause) h.given) (map (λ g. g.cause) k.given) others more))
        (spends-both old.who old.seen mid.seen new.seen (strikes old.replica) (strikes mid.replica) (strikes new.replica) (causes_of h.given others) (causes_of k.given more) h.spends
        (subst (λ w. Spends w mid.seen new.seen (strikes mid.replica) (strikes new.replica) (causes_of k.given more)) h.keeps.who k.spends)));
    packs = λ c. k.packs (h.packs c);
    arming = arming_trans 0 old.replica mid.replica new.replica h.arming k.arming;
  }

  -- a session that has no cause had none before
  pub none-before : (old new : NodeView) (others : List Cause) (s : ℕ) → Goes law old new others → cause_in s new.outbox.given ≡ None → cause_in s old.outbox.given ≡ None
  none-before old new others s h none = none-front s old.outbox.given h.given (subst (λ g. cause_in s g ≡ None) h.gained none)

  pub stays-both : (old mid new : NodeView) (more : List Cause) (s : ℕ) → Goes law mid new more → StaysGiven old mid s → StaysGiven mid new s → StaysGiven old new s
  stays-both old mid new more s goes h k = λ sent none g. k sent none (h sent (none-before mid new more s goes none) g)

  pub moves-both : (old mid new : NodeView) (others more : List Cause) → Moves law old mid others → Moves law mid new more → Moves law old new (others ++ more)
  moves-both old mid new others more h k = record {
    goes = goes-both old mid new others more h.goes k.goes;
    stays = λ s. stays-both old mid new more s k.goes (h.stays s) (k.stays s);
    quiet = λ s q. k.quiet s (h.quiet s q);
  }

  -- nothing was done
  pub moves-none : (n : NodeView) → IsLegal law n.seen → Moves law n n []
  moves-none n legal = moves-sync n n [] (record { who = refl; nodes = refl; origin = refl; later = record { more = []; seen = sym (append-nil n.seen); legal = legal }; forward = omega arith; counts = omega arith }) refl refl (arming_refl 0 n.replica)
      (spends-none n.who n.seen n.seen (strikes n.replica) (strikes n.replica) ([], sym (append-nil n.seen)) (omega arith))
