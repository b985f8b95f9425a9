-- A report goes down alone, and is appended, or fails and gives no session its cause.
use Rattle.std.proofs.Common.{◌≡◌, refl, sym, ap, ◌∙◌, subst, ℕ, ◌≤◌, cond, Bool, true, false, List, [], ◌∷◌, ◌++◌, Option, Some, None, length, arith, append-nil}
use Rattle.std.specs.Prelude.{◌==◌}
use Rattle.std.specs.List.{cons_option}
use Rattle.std.proofs.lemmas.List.Elements.{All-nil, All-cons}
use Rattle.delos_types.specs.Spaces.{SpaceMap}
use Rattle.delos_types.specs.declared.entry.Entry.{Entry}
use Rattle.delos_types.specs.declared.item.Header.{Header}
use Rattle.delos_types.specs.declared.item.Item.{Item}
use Rattle.delos_types.specs.declared.cause.Cause.{Cause}
use Rattle.legal_journal.specs.Law.{Law}
use Rattle.legal_journal.specs.declared.events.Event.{Event}
use Rattle.virtual_log.specs.Holding.{Holds}
use Rattle.engine_api.specs.declared.content.Content.{Content}
use Rattle.engine_api.specs.declared.content.Content.TheVariants as content
use Rattle.engine_api.specs.Items.{content_in, content_of, content_under, placed_from, unpack}
use Rattle.engine_api.specs.Packing.{packed, IsProposable, IsBatch}
use Rattle.engine_api.proofs.Packed.{unpack-packed}
use Rattle.engine_steps.specs.Words.{under_in}
use Rattle.replica_api.specs.Replica.{ReplicaView, Queues, Flushes}
use Rattle.base_engine.specs.declared.outbox.Given.{Given}
use Rattle.base_engine.specs.Causes.{HasEventOf}
use Rattle.base_engine.specs.Settling.{OutboxView, Fate, Landed, Lost, Meets, Settles, Settled, Lands, Answers, gives, given_to, first_of, session_of, sessions_among, sessions_in}
use Rattle.base_engine.specs.Proposing.{Sent, with_entry, IsNear, IsNearAt}
use Rattle.base_engine.specs.Node.{NodeView, Keeps}
use Rattle.node_lines.specs.UnderWay.{rank_under}
use Rattle.node_lines.proofs.Settling.{Extends}
use Rattle.node_lines.specs.Moving.{CanPack, Goes, Moves, strikes}
use Rattle.node_lines.specs.Reporting.{IsPlain, LaysDown, IsAppendedWithin, Tells}
use Rattle.node_lines.proofs.Moving.{moves-both, moves-settle}
use Rattle.node_lines.proofs.Spending.{spends-none, spends-both, spends-event, strikes-same}
use Rattle.node_lines.proofs.Ending.{all}

-- An item of no session

near-content : (m : SpaceMap) (c : Content) → session_of c ≡ None → IsNearAt m (Some c)
near-content m (content.Session s r x) h = absurd (cc)
near-content m (content.Alive n p) h = tt
near-content m (content.Leave n) h = tt
near-content m (content.Trim p) h = tt

rank-content : (s : ℕ) (c : Content) → session_of c ≡ None → rank_under s (Some c) ≡ None
rank-content s (content.Session t r x) h = absurd (cc)
rank-content s (content.Alive n p) h = refl
rank-content s (content.Leave n) h = refl
rank-content s (content.Trim p) h = refl

-- it is near, whatever was applied
pub plain-near : (m : SpaceMap) (item : Item) → IsPlain item → IsNear m item
plain-near m item p = by item.headers p.says
  where
    by_kind : (o : Option Content) → o ≡ Some p.content → (b : Bool) → IsNearAt m (cond b o None)
    by_kind o says true = subst (IsNearAt m) (sym says) (near-content m p.content p.none)
    by_kind o says false = tt

    by : (hs : List Header) → content_in hs item.payload ≡ Some p.content → IsNearAt m (under_in 2 hs item.payload)
    by [] says = tt
    by (h ∷ []) says = by_kind (content_under h item.payload) says (h.kind == 2)
    by (h ∷ k ∷ hs) says = tt

pub plain-rank : (item : Item) → IsPlain item → (s : ℕ) → rank_under s (content_of item) ≡ None
plain-rank item p s = ap (rank_under s) p.says ∙ rank-content s p.content p.none

alone : (item : Item) → IsProposable item → IsBatch (item ∷ [])
alone item fine = record { some = omega arith; few = omega arith; each = All-cons IsProposable item [] fine (All-nil IsProposable) }

-- its entry is of no session
pub plain-sessions : (origin : ℕ) (item : Item) → IsProposable item → IsPlain item → sessions_in (packed origin (item ∷ [])) ≡ []
plain-sessions origin item fine p =
    ap sessions_among (unpack-packed origin (item ∷ []) 0 (alone item fine))
    ∙ (ap (λ o. sessions_among (placed_from 0 0 (cons_option o []))) p.says ∙ ap (λ o. cons_option o []) p.none)

pub pack-none : (kept : List Item) → kept ≡ [] → CanPack kept
pack-none kept none = subst CanPack (sym none) (record { each = All-nil IsProposable; few = omega arith })

-- the node may append what it tells
pub may_tell : (may : ℕ → Entry → Type 0) (old synced : NodeView) (item said : Item) → synced.who ≡ old.who → synced.replica.origin ≡ old.replica.origin → item ≡ said
    → may old.who (packed old.replica.origin (said ∷ [])) → may synced.who (packed synced.replica.origin (item ∷ []))
may_tell may old synced item said who origin is allowed =
    subst (λ w. may w (packed synced.replica.origin (item ∷ []))) (sym who)
    (subst (λ o. may old.who (packed o (item ∷ []))) (sym origin)
    (subst (λ i. may old.who (packed old.replica.origin (i ∷ []))) (sym is) allowed))

-- its entry says so, and nothing else
pub says_alone : (origin : ℕ) (item said : Item) (c : Content) → IsProposable item → content_of item ≡ Some c → item ≡ said → unpack 0 (packed origin (said ∷ [])) ≡ placed_from 0 0 (c ∷ [])
says_alone origin item said c fine says is =
    ap (λ i. unpack 0 (packed origin (i ∷ []))) (sym is) ∙ (unpack-packed origin (item ∷ []) 0 (alone item fine) ∙ ap (λ o. placed_from 0 0 (cons_option o [])) says)

-- it was appended as the node's own
pub appended_own : (old synced : NodeView) (new : List Event) (known : ℕ) (item said : Item) → synced.who ≡ old.who → synced.replica.origin ≡ old.replica.origin → item ≡ said
    → IsAppendedWithin synced.who synced.seen (packed synced.replica.origin (item ∷ [])) new known → IsAppendedWithin old.who synced.seen (packed old.replica.origin (said ∷ [])) new known
appended_own old synced new known item said who origin is h =
    subst (λ w. IsAppendedWithin w synced.seen (packed old.replica.origin (said ∷ [])) new known) who
    (subst (λ o. IsAppendedWithin synced.who synced.seen (packed o (said ∷ [])) new known) origin
    (subst (λ i. IsAppendedWithin synced.who synced.seen (packed synced.replica.origin (i ∷ [])) new known) is h))

-- Nothing was outstanding, so nothing was settled.
nothing-settled : (who : ℕ) (old new : List Event) (was is : OutboxView) → was.entries ≡ [] → Settled Holds who old was new is → (is.entries ≡ []) × (is.unsettled ≡ was.unsettled)
nothing-settled who old new was is none h = by h.done h.given h.all h.fates
  where
    by : (done : List Entry) (given : List Given) → was.entries ≡ done ++ is.entries → Settles Holds who old done h.moment given was.unsettled is.unsettled → (is.entries ≡ []) × (is.unsettled ≡ was.unsettled)
    by [] given all fates = (sym all ∙ none, fates.2)
    by (e ∷ es) given all fates = absurd (let no : [] ≡ e ∷ (es ++ is.entries) = sym none ∙ all in cc)

-- The one outstanding entry met its fate.
record MetOne (who : ℕ) (old : List Event) (was : OutboxView) (e : Entry) (new : List Event) (is : OutboxView) : Type 0 where
  pub fate : Fate
  pub mid : List Event
  pub met : Meets Holds who old e fate mid
  pub gained : is.given ≡ was.given ++ gives e fate
  pub unsettled : is.unsettled ≡ first_of was.unsettled fate
  pub on : Extends mid new

met-one : (who : ℕ) (old new : List Event) (was is : OutboxView) (e : Entry) → was.entries ≡ e ∷ [] → is.entries ≡ [] → Settled Holds who old was new is → MetOne who old was e new is
met-one who old new was is e one none h = by h.done h.given h.all h.gained h.fates
  where
    heads : (x y : Entry) → x ∷ [] ≡ y ∷ [] → x ≡ y
    heads x y same = cc

    by : (done : List Entry) (given : List Given) → was.entries ≡ done ++ is.entries → is.given ≡ was.given ++ given → Settles Holds who old done h.moment given was.unsettled is.unsettled → MetOne who old was e new is
    by [] given all gained fates = absurd (let no : e ∷ [] ≡ [] = sym one ∙ (all ∙ none) in cc)
    by (x ∷ []) given all gained fates =
        let same : x ≡ e = heads x e (sym (all ∙ ap (λ l. x ∷ l) none) ∙ one) in
        let rest = fates.5 in
        record {
          fate = fates.1;
          mid = fates.0;
          met = subst (λ y. Meets Holds who old y fates.1 fates.0) same fates.3;
          gained = gained ∙ ap (λ l. was.given ++ l) (fates.4 ∙ (ap (λ l. gives x fates.1 ++ l) rest.1 ∙ (append-nil (gives x fates.1) ∙ ap (λ y. gives y fates.1) same)));
          unsettled = rest.2;
          on = subst (λ l. Extends l new) rest.0 h.rest;
        }
    by (x ∷ y ∷ ys) given all gained fates = absurd (let no : e ∷ [] ≡ x ∷ (y ∷ (ys ++ is.entries)) = sym one ∙ all in cc)

module _ (law : Law) (low : (log : List Entry) (n : ℕ) → law.floor log n → n ≤ length log) where
  -- an item went down and was packed
  pub lays-down : (old mid new : NodeView) (item : Item) → Moves law old mid [] → Moves law mid new [] → old.outbox.entries ≡ [] → old.replica.kept ≡ [] → new.replica.kept ≡ []
      → Sent Holds old.who old.seen old.outbox (λ p. Queues old.replica.origin old.replica.kept item p mid.replica.kept) mid.seen mid.outbox
      → Sent Holds mid.who mid.seen mid.outbox (λ p. Flushes mid.replica.origin mid.replica.kept p new.replica.kept) new.seen new.outbox
      → mid.replica ≡ record old.replica { kept = mid.replica.kept } → new.replica ≡ record mid.replica { kept = [] } → LaysDown law old new item
  lays-down old mid new item first then none kept empty s f queued_in packed_in = record {
    moves = moves-both law low old mid new [] [] first then;
    entries = flushed.0;
    unsettled = flushed.1;
    kept = empty;
    replica = packed_in ∙ ap (λ (r : ReplicaView). record r { kept = [] }) queued_in;
  }
    where
      queued : (mid.outbox.entries ≡ []) × (mid.outbox.unsettled ≡ old.outbox.unsettled) × (mid.replica.kept ≡ item ∷ [])
      queued = by s.packed s.is_with s.out (nothing-settled old.who old.seen mid.seen old.outbox s.mid none s.settled)
        where
          by : (p : Option Entry) → mid.outbox ≡ with_entry s.mid p → Queues old.replica.origin old.replica.kept item p mid.replica.kept → (s.mid.entries ≡ []) × (s.mid.unsettled ≡ old.outbox.unsettled)
              → (mid.outbox.entries ≡ []) × (mid.outbox.unsettled ≡ old.outbox.unsettled) × (mid.replica.kept ≡ item ∷ [])
          by None with_is out is = (ap (λ (o : OutboxView). o.entries) with_is ∙ is.0, ap (λ (o : OutboxView). o.unsettled) with_is ∙ is.1, out.0 ∙ ap (λ k. k ++ item ∷ []) kept)
          by (Some e) with_is out is = absurd (let z : length old.replica.kept ≡ 0 = ap length kept in omega (arith, out.0, z))

      flushed : (new.outbox.entries ≡ packed old.replica.origin (item ∷ []) ∷ []) × (new.outbox.unsettled ≡ old.outbox.unsettled)
      flushed = by f.packed f.is_with f.out (nothing-settled mid.who mid.seen new.seen mid.outbox f.mid queued.0 f.settled)
        where
          by : (p : Option Entry) → new.outbox ≡ with_entry f.mid p → Flushes mid.replica.origin mid.replica.kept p new.replica.kept → (f.mid.entries ≡ []) × (f.mid.unsettled ≡ mid.outbox.unsettled)
              → (new.outbox.entries ≡ packed old.replica.origin (item ∷ []) ∷ []) × (new.outbox.unsettled ≡ old.outbox.unsettled)
          by None with_is out is = absurd (let no : [] ≡ item ∷ [] = sym out.0 ∙ queued.2 in cc)
          by (Some e) with_is out is =
              let entry : e ≡ packed old.replica.origin (item ∷ []) = out.1.entry ∙ (ap (λ o. packed o mid.replica.kept) first.goes.keeps.origin ∙ ap (packed old.replica.origin) queued.2) in
              (ap (λ (o : OutboxView). o.entries) with_is ∙ (ap (λ es. es ++ e ∷ []) is.0 ∙ ap (λ x. x ∷ []) entry), ap (λ (o : OutboxView). o.unsettled) with_is ∙ (is.1 ∙ queued.1))

  -- its entry failed, which gives no session the cause
  moves-lost : (old new : NodeView) (e : Entry) (cause : Cause) → Keeps law old new → new.replica ≡ old.replica → old.outbox.entries ≡ e ∷ [] → sessions_in e ≡ [] → old.outbox.unsettled ≡ None
      → Answers Holds old.who old.seen old.outbox (Some cause) new.seen new.outbox → Moves law old new (cause ∷ [])
  moves-lost old new e cause k same one silent calm a = record { goes = by m.fate m.met m.gained (m.unsettled ∙ ap (λ o. first_of o m.fate) calm); stays = plain.stays; quiet = plain.quiet }
    where
      plain : Moves law old new []
      plain = moves-settle law low old new (Some cause) k same a.settled

      m : MetOne old.who old.seen old.outbox e new.seen (record { entries = new.outbox.entries; given = new.outbox.given; unsettled = Some cause })
      m = met-one old.who old.seen new.seen old.outbox (record { entries = new.outbox.entries; given = new.outbox.given; unsettled = Some cause }) e one a.none a.settled

      same_cause : (x y : Cause) → Some x ≡ Some y → y ≡ x
      same_cause x y h = cc

      by : (fate : Fate) → Meets Holds old.who old.seen e fate m.mid → new.outbox.given ≡ old.outbox.given ++ gives e fate → Some cause ≡ first_of None fate → Goes law old new (cause ∷ [])
      by (Landed pos) met gained says = absurd (cc)
      by (Lost x) met gained says = record {
        keeps = k;
        given = [];
        gained = gained ∙ ap (λ l. old.outbox.given ++ l) (ap (λ ss. given_to ss x) silent);
        spends = spends-both old.who old.seen m.mid new.seen (strikes old.replica) (strikes old.replica) (strikes new.replica) (cause ∷ []) []
            (spends-event old.who old.seen m.mid cause (strikes old.replica) (strikes old.replica) (omega arith) (subst (λ c. HasEventOf old.who old.seen c m.mid) (same_cause cause x says) met))
            (spends-none old.who m.mid new.seen (strikes old.replica) (strikes new.replica) m.on (strikes-same old.replica new.replica same));
        packs = plain.goes.packs;
        arming = plain.goes.arming;
      }

  pub tells-lost : (old mid new : NodeView) (item : Item) (cause : Cause) → IsProposable item → IsPlain item → LaysDown law old mid item → old.outbox.unsettled ≡ None → Keeps law mid new → new.replica ≡ mid.replica
      → Answers Holds mid.who mid.seen mid.outbox (Some cause) new.seen new.outbox → Tells law old new item (Some cause)
  tells-lost old mid new item cause fine p lays calm k same a = record {
    moves = moves-both law low old mid new [] (cause ∷ []) lays.moves
        (moves-lost mid new (packed old.replica.origin (item ∷ [])) cause k same lays.entries (plain-sessions old.replica.origin item fine p) (lays.unsettled ∙ calm) a);
    none = a.none;
    kept = ap (λ (r : ReplicaView). r.kept) same ∙ lays.kept;
    replica = same ∙ lays.replica;
    appended = λ none. absurd (cc);
  }

  pub tells-landed : (old mid new : NodeView) (item : Item) → LaysDown law old mid item → Keeps law mid new → new.replica ≡ mid.replica → Answers Holds mid.who mid.seen mid.outbox None new.seen new.outbox
      → Lands Holds mid.who mid.seen mid.outbox.entries new.seen new.known → Tells law old new item None
  tells-landed old mid new item lays k same a landed = record {
    moves = moves-both law low old mid new [] [] lays.moves (moves-settle law low mid new None k same a.settled);
    none = a.none;
    kept = ap (λ (r : ReplicaView). r.kept) same ∙ lays.kept;
    replica = same ∙ lays.replica;
    appended = λ none. record {
      landed = record {
        before = mid.seen;
        since = (lays.moves.goes.keeps.later.more, lays.moves.goes.keeps.later.seen);
        position = one.1;
        after = one.0;
        met = subst (λ w. Meets Holds w mid.seen e (Landed one.1) one.0) lays.moves.goes.keeps.who one.2;
        rest = ([], one.4 ∙ sym (append-nil one.0));
      };
      within = one.3;
    };
  }
    where
      e : Entry
      e = packed old.replica.origin (item ∷ [])

      one : Lands Holds mid.who mid.seen (e ∷ []) new.seen new.known
      one = subst (λ es. Lands Holds mid.who mid.seen es new.seen new.known) lays.entries landed
