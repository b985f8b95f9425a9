-- What is settled over several calls, and what goes down meanwhile.
use Rattle.std.proofs.Common.{◌≡◌, ◌≢◌, ◌⊎◌, inl, inr, ℕ, Bool, true, false, List, [], ◌∷◌, ◌++◌, Option, Some, None, refl, sym, ap, ◌∙◌, subst, ⊎_elim, arith}
use Rattle.std.specs.Prelude.{◌==◌}
use Rattle.std.proofs.lemmas.Bool.Decides.{nat_tests}
use Rattle.std.proofs.lemmas.List.{append_assoc, append-nil}
use Rattle.delos_types.specs.declared.cause.Cause.{Cause}
use Rattle.delos_types.specs.declared.entry.Entry.{Entry}
use Rattle.delos_types.specs.declared.item.Item.{Item}
use Rattle.engine_api.specs.Packing.{packed, trim_item}
use Rattle.legal_journal.specs.Law.{Law}
use Rattle.legal_journal.specs.declared.events.Event.{Event}
use Rattle.legal_journal.specs.Journal.{IsLegal, state_of}
use Rattle.legal_journal.specs.Laws.{Clears}
use Rattle.legal_journal.specs.Turns.{AreOthers}
use Rattle.legal_journal.proofs.Legal.{legal_front}
use Rattle.virtual_log.specs.Turning.{FirstTurn, IsAbove}
use Rattle.virtual_log.proofs.Appending.{above_since}
use Rattle.replica_api.specs.Replica.{ReplicaView, Queues, Flushes}
use Rattle.base_engine.specs.declared.fault.Fault.{Fault}
use Rattle.base_engine.specs.declared.fault.Fault.TheVariants.{Because, Memory}
use Rattle.base_engine.specs.declared.outbox.Given.{Given}
use Rattle.base_engine.specs.Arming.{StoreTwice}
use Rattle.base_engine.specs.Settling.{OutboxView, Fate, Landed, Lost, Meets, gives, first_of, Settles, Settled, Answers, Failing}
use Rattle.base_engine.specs.Proposing.{Sent, with_entry, with_sent, GaveUpAt}
use Rattle.base_engine.specs.Trimming.{GoesDown, GoesThrough, StopsShort, Unpushed, Untrimmed, IsEarlier}
use Rattle.base_engine.proofs.Landing.{On, event_of_since, settles_on, settles_keeps, no_push}

-- The first event of who's

record FirstOwn (who : ℕ) (es : List Event) : Type 0 where
  pub others : List Event
  pub apart : AreOthers who others
  pub event : Event
  pub own : event.who ≡ who
  pub rest : List Event
  pub is : es ≡ others ++ event ∷ rest

others_or_own : (who : ℕ) (es : List Event) → AreOthers who es ⊎ FirstOwn who es
others_or_own who [] = inl tt
others_or_own who (e ∷ es) = by_test (e.who == who) refl (others_or_own who es)
  where
    by_test : (b : Bool) → (e.who == who) ≡ b → AreOthers who es ⊎ FirstOwn who es → AreOthers who (e ∷ es) ⊎ FirstOwn who (e ∷ es)
    by_test true is later = inr record { others = []; apart = tt; event = e; own = (grind (arith, nat_tests)); rest = es; is = refl }
    by_test false is (inl apart) =
        let other : e.who ≢ who = grind (arith, nat_tests) in
        inl (other, apart)
    by_test false is (inr first) =
        let other : e.who ≢ who = grind (arith, nat_tests) in
        inr record { others = e ∷ first.others; apart = (other, first.apart); event = first.event; own = first.own; rest = first.rest; is = ap (λ l. e ∷ l) first.is }

others_append : (who : ℕ) (xs ys : List Event) → AreOthers who xs → AreOthers who ys → AreOthers who (xs ++ ys)
others_append who [] ys h k = k
others_append who (x ∷ xs) ys h k = (h.0, others_append who xs ys h.1 k)

-- What was above at a later moment was at an earlier one

above_from : (law : Law) (who pos : ℕ) (a b new : List Event) → On a b → IsLegal law new → IsAbove who b pos new → IsAbove who a pos new
above_from law who pos a b new on legal x = by (others_or_own who on.0)
  where
    first : FirstTurn who b new
    first = x.first

    all : List Event
    all = first.others ++ first.event ∷ first.rest

    seen : new ≡ b ++ all
    seen = first.seen ∙ append_assoc b first.others (first.event ∷ first.rest)

    there : IsLegal law b
    there = legal_front law b all (subst (IsLegal law) seen legal)

    by : AreOthers who on.0 ⊎ FirstOwn who on.0 → IsAbove who a pos new
    by (inl apart) =
        let at : b ++ first.others ≡ a ++ (on.0 ++ first.others) = ap (λ l. l ++ first.others) on.1 ∙ append_assoc a on.0 first.others in
        record {
          first = record {
            others = on.0 ++ first.others;
            apart = others_append who on.0 first.others apart first.apart;
            event = first.event;
            own = first.own;
            rest = first.rest;
            seen = first.seen ∙ ap (λ l. l ++ first.event ∷ first.rest) at;
          };
          clears = subst (λ l. Clears (state_of l) pos) at x.clears;
        }
    by (inr f) =
        above_since law who pos a b b new
        (record {
          others = f.others;
          apart = f.apart;
          event = f.event;
          own = f.own;
          rest = f.rest;
          seen = on.1 ∙ (ap (λ l. a ++ l) f.is ∙ sym (append_assoc a f.others (f.event ∷ f.rest)));
        })
        (record { more = []; seen = sym (append-nil b); legal = there })
        (record { more = all; seen = seen; legal = legal })
        x

-- .. as is what entries came to

meets_from : (law : Law) (holds : List Event → ℕ → Entry → Type 0) (who : ℕ) (a b : List Event) (e : Entry) (fate : Fate) (new : List Event) → On a b → IsLegal law new → Meets holds who b e fate new → Meets holds who a e fate new
meets_from law holds who a b e (Landed pos) new on legal h = (h.0, h.1, above_from law who pos a b new on legal h.2)
meets_from law holds who a b e (Lost x) new on legal h = event_of_since who a b new x on h

settles_from : (law : Law) (holds : List Event → ℕ → Entry → Type 0) (who : ℕ) (a b new : List Event) (e : Entry) (es : List Entry) (given : List Given) (before after : Option Cause) → On a b → IsLegal law new
    → Settles holds who b (e ∷ es) new given before after → Settles holds who a (e ∷ es) new given before after
settles_from law holds who a b new e es given before after on legal s =
    let rest = settles_on holds who s.0 new es s.2 (first_of before s.1) after s.5 in
    let there = legal_front law s.0 rest.0 (subst (IsLegal law) rest.1 legal) in
    (s.0, s.1, s.2, meets_from law holds who a b e s.1 s.0 on there s.3, s.4, s.5)

settles_then : (law : Law) (holds : List Event → ℕ → Entry → Type 0) (who : ℕ) (a b c d : List Event) (xs : List Entry) (y : Entry) (ys : List Entry) (given more : List Given) (before mid after : Option Cause) → On b c → IsLegal law d
    → Settles holds who a xs b given before mid → Settles holds who c (y ∷ ys) d more mid after → Settles holds who a (xs ++ y ∷ ys) d (given ++ more) before after
settles_then law holds who a b c d [] y ys given more before mid after on legal s t =
    let here : On a c = (on.0, on.1 ∙ ap (λ l. l ++ on.0) s.0) in
    let first = settles_from law holds who a c d y ys more mid after here legal t in
    subst (λ g. Settles holds who a (y ∷ ys) d g before after) (sym (ap (λ g. g ++ more) s.1))
    (subst (λ o. Settles holds who a (y ∷ ys) d more o after) s.2 first)
settles_then law holds who a b c d (x ∷ xs) y ys given more before mid after on legal s t =
    (s.0, s.1, s.2 ++ more, s.3, ap (λ g. g ++ more) s.4 ∙ append_assoc (gives x s.1) s.2 more, settles_then law holds who s.0 b c d xs y ys s.2 more (first_of before s.1) mid after on legal s.5 t)

-- What was settled, and then what is

pub settled_trans : (law : Law) (holds : List Event → ℕ → Entry → Type 0) (who : ℕ) (a b c : List Event) (was mid is : OutboxView) → IsLegal law c → Settled holds who a was b mid → Settled holds who b mid c is → Settled holds who a was c is
settled_trans law holds who a b c was mid is legal h k = by k.done k.given k.all k.gained k.fates
  where
    there : IsLegal law k.moment
    there = legal_front law k.moment k.rest.0 (subst (IsLegal law) k.rest.1 legal)

    by : (done : List Entry) (given : List Given) → mid.entries ≡ done ++ is.entries → is.given ≡ mid.given ++ given → Settles holds who b done k.moment given mid.unsettled is.unsettled → Settled holds who a was c is
    by [] given all gained fates = record {
      done = h.done;
      given = h.given;
      all = h.all ∙ ap (λ x. h.done ++ x) all;
      gained = gained ∙ (ap (λ x. mid.given ++ x) fates.1 ∙ (append-nil mid.given ∙ h.gained));
      moment = h.moment;
      fates = subst (λ o. Settles holds who a h.done h.moment h.given was.unsettled o) (sym fates.2) h.fates;
      rest = (h.rest.0 ++ k.rest.0, k.rest.1 ∙ ap (λ l. l ++ k.rest.0) (fates.0 ∙ h.rest.1) ∙ append_assoc h.moment h.rest.0 k.rest.0);
    }
    by (e ∷ es) given all gained fates = record {
      done = h.done ++ e ∷ es;
      given = h.given ++ given;
      all = h.all ∙ (ap (λ x. h.done ++ x) all ∙ sym (append_assoc h.done (e ∷ es) is.entries));
      gained = gained ∙ (ap (λ x. x ++ given) h.gained ∙ append_assoc was.given h.given given);
      moment = k.moment;
      fates = settles_then law holds who a h.moment b k.moment h.done e es h.given given was.unsettled mid.unsettled is.unsettled h.rest there h.fates fates;
      rest = k.rest;
    }

-- nothing was settled yet
pub settled_from : (law : Law) (holds : List Event → ℕ → Entry → Type 0) (who : ℕ) (a b c : List Event) (was is : OutboxView) → On a b → IsLegal law c → Settled holds who b was c is → Settled holds who a was c is
settled_from law holds who a b c was is on legal k =
    settled_trans law holds who a b c was was is legal
    (record { done = []; given = []; all = refl; gained = sym (append-nil was.given); moment = a; fates = (refl, refl, refl); rest = on })
    k

-- what comes behind doesn't matter to what is settled
settled_behind : (holds : List Event → ℕ → Entry → Type 0) (who : ℕ) (a b : List Event) (was is : OutboxView) (es : List Entry) → Settled holds who a was b is → Settled holds who a (with_sent was es) b (with_sent is es)
settled_behind holds who a b was is es h = record {
  done = h.done;
  given = h.given;
  all = ap (λ x. x ++ es) h.all ∙ append_assoc h.done is.entries es;
  gained = h.gained;
  moment = h.moment;
  fates = h.fates;
  rest = h.rest;
}

settled_alone : (holds : List Event → ℕ → Entry → Type 0) (who : ℕ) (a b : List Event) (was is : OutboxView) → Settled holds who a was b is → Settled holds who a (with_sent was []) b is
settled_alone holds who a b was is h = record {
  done = h.done;
  given = h.given;
  all = append-nil was.entries ∙ h.all;
  gained = h.gained;
  moment = h.moment;
  fates = h.fates;
  rest = h.rest;
}

-- What goes down

-- an item did: its entry came out, or it waits
record Queued (holds : List Event → ℕ → Entry → Type 0) (who origin : ℕ) (a : List Event) (was : OutboxView) (kept : List Item) (item : Item) (b : List Event) (is : OutboxView) (kept' : List Item) : Type 0 where
  pub sent : List Entry
  pub down : ((sent ≡ packed origin (kept ++ item ∷ []) ∷ []) × (kept' ≡ [])) ⊎ ((sent ≡ []) × (kept' ≡ kept ++ item ∷ []))
  pub settled : Settled holds who a (with_sent was sent) b is

queued : (holds : List Event → ℕ → Entry → Type 0) (who origin : ℕ) (a b : List Event) (was is : OutboxView) (kept kept' : List Item) (item : Item) → Sent holds who a was (λ p. Queues origin kept item p kept') b is → Queued holds who origin a was kept item b is kept'
queued holds who origin a b was is kept kept' item s = by s.packed s.out s.is_with
  where
    mid : OutboxView
    mid = s.mid

    by : (p : Option Entry) → Queues origin kept item p kept' → is ≡ with_entry mid p → Queued holds who origin a was kept item b is kept'
    by None q same = record {
      sent = [];
      down = inr (refl, q.0);
      settled = subst (λ o. Settled holds who a (with_sent was []) b o) (sym same) (settled_alone holds who a b was mid s.settled);
    }
    by (Some e) q same = record {
      sent = e ∷ [];
      down = inl (ap (λ x. x ∷ []) q.1.entry, q.2);
      settled = subst (λ o. Settled holds who a (with_sent was (e ∷ [])) b o) (sym same) (settled_behind holds who a b was mid (e ∷ []) s.settled);
    }

-- then what waits came out too
record Pushed (holds : List Event → ℕ → Entry → Type 0) (who origin : ℕ) (a : List Event) (was : OutboxView) (kept : List Item) (item : Item) (b : List Event) (is : OutboxView) (kept' : List Item) : Type 0 where
  pub settled : Settled holds who a (with_sent was (packed origin (kept ++ item ∷ []) ∷ [])) b is
  pub none : kept' ≡ []

flushed : (law : Law) (holds : List Event → ℕ → Entry → Type 0) (who origin : ℕ) (a b c : List Event) (was mid is : OutboxView) (kept kept1 kept2 : List Item) (item : Item) → IsLegal law c → Queued holds who origin a was kept item b mid kept1
    → Sent holds who b mid (λ p. Flushes origin kept1 p kept2) c is → Pushed holds who origin a was kept item c is kept2
flushed law holds who origin a b c was mid is kept kept1 kept2 item legal q s = by q.down s.packed s.out s.is_with
  where
    last : OutboxView
    last = s.mid

    one : Entry
    one = packed origin (kept ++ item ∷ [])

    first : Settled holds who a (with_sent was q.sent) c last
    first = settled_trans law holds who a b c (with_sent was q.sent) mid last legal q.settled s.settled

    by : ((q.sent ≡ one ∷ []) × (kept1 ≡ [])) ⊎ ((q.sent ≡ []) × (kept1 ≡ kept ++ item ∷ [])) → (p : Option Entry) → Flushes origin kept1 p kept2 → is ≡ with_entry last p → Pushed holds who origin a was kept item c is kept2
    by (inl out) None f same = record {
      settled = subst (λ o. Settled holds who a (with_sent was (one ∷ [])) c o) (sym same) (subst (λ (es : List Entry). Settled holds who a (with_sent was es) c last) out.0 first);
      none = f.1;
    }
    by (inl out) (Some e) f same = absurd (f.0 out.1)
    by (inr waits) None f same = absurd (no_push kept item (sym waits.1 ∙ f.0))
    by (inr waits) (Some e) f same =
        let is_one : e ≡ one = f.1.entry ∙ ap (packed origin) waits.1 in
        let behind : Settled holds who a was c last = record {
          done = first.done;
          given = first.given;
          all = sym (append-nil was.entries) ∙ (ap (λ (es : List Entry). was.entries ++ es) (sym waits.0) ∙ first.all);
          gained = first.gained;
          moment = first.moment;
          fates = first.fates;
          rest = first.rest;
        } in
        record {
          settled = subst (λ o. Settled holds who a (with_sent was (one ∷ [])) c o) (sym same)
              (subst (λ (x : Entry). Settled holds who a (with_sent was (one ∷ [])) c (with_sent last (x ∷ []))) (sym is_one) (settled_behind holds who a c was last (one ∷ []) behind));
          none = f.2;
        }

-- A push

pub refused_down : (holds : List Event → ℕ → Entry → Type 0) (who origin : ℕ) (a b : List Event) (was is : OutboxView) (kept kept' : List Item) (item : Item) (f : Fault) → GaveUpAt holds who a was None f b is → kept' ≡ kept → Unpushed holds who origin a was kept item f b is kept'
refused_down holds who origin a b was is kept kept' item Memory h same = record { sent = []; down = inr (inr (refl, same)); settled = settled_alone holds who a b was is h }
refused_down holds who origin a b was is kept kept' item (Because cause) h same = absurd h

pub unflushed : (law : Law) (holds : List Event → ℕ → Entry → Type 0) (who origin : ℕ) (a b c : List Event) (was mid is : OutboxView) (kept kept1 kept2 : List Item) (item : Item) → IsLegal law c → Sent holds who a was (λ p. Queues origin kept item p kept1) b mid
    → Settled holds who b mid c is → kept2 ≡ kept1 → StopsShort holds who origin a was kept item c is kept2
unflushed law holds who origin a b c was mid is kept kept1 kept2 item legal s k same = record {
  sent = q.sent;
  down = by q.down;
  settled = settled_trans law holds who a b c (with_sent was q.sent) mid is legal q.settled k;
}
  where
    q : Queued holds who origin a was kept item b mid kept1
    q = queued holds who origin a b was mid kept kept1 item s

    by : ((q.sent ≡ packed origin (kept ++ item ∷ []) ∷ []) × (kept1 ≡ [])) ⊎ ((q.sent ≡ []) × (kept1 ≡ kept ++ item ∷ [])) → GoesDown origin kept item q.sent kept2
    by (inl out) = inl (out.0, same ∙ out.1)
    by (inr waits) = inr (inl (waits.0, same ∙ waits.1))

pub went_through : (law : Law) (holds : List Event → ℕ → Entry → Type 0) (who origin : ℕ) (a b c d : List Event) (was o1 o2 is : OutboxView) (kept kept1 kept2 : List Item) (item : Item) (cause : Option Cause) → IsLegal law c → IsLegal law d
    → Sent holds who a was (λ p. Queues origin kept item p kept1) b o1 → Sent holds who b o1 (λ p. Flushes origin kept1 p kept2) c o2 → Answers holds who c o2 cause d is → GoesThrough holds who origin a was kept item cause d is kept2
went_through law holds who origin a b c d was o1 o2 is kept kept1 kept2 item cause now legal s t h =
    let all = flushed law holds who origin a b c was o1 o2 kept kept1 kept2 item now (queued holds who origin a b was o1 kept kept1 item s) t in
    record {
      answered = record {
        settled = settled_trans law holds who a c d (with_sent was (packed origin (kept ++ item ∷ []) ∷ [])) o2 (record { entries = is.entries; given = is.given; unsettled = cause }) legal all.settled h.settled;
        none = h.none;
        answered = h.answered;
      };
      none = all.none;
    }

pub push_failed : (law : Law) (holds : List Event → ℕ → Entry → Type 0) (who origin : ℕ) (a b c d : List Event) (was o1 o2 is : OutboxView) (kept kept1 kept2 : List Item) (item : Item) (f : Fault) → IsLegal law c → IsLegal law d
    → Sent holds who a was (λ p. Queues origin kept item p kept1) b o1 → Sent holds who b o1 (λ p. Flushes origin kept1 p kept2) c o2 → Failing holds who c o2 f d is → Unpushed holds who origin a was kept item f d is kept2
push_failed law holds who origin a b c d was o1 o2 is kept kept1 kept2 item Memory now legal s t h =
    let all = flushed law holds who origin a b c was o1 o2 kept kept1 kept2 item now (queued holds who origin a b was o1 kept kept1 item s) t in
    record {
      sent = packed origin (kept ++ item ∷ []) ∷ [];
      down = inl (refl, all.none);
      settled = settled_trans law holds who a c d (with_sent was (packed origin (kept ++ item ∷ []) ∷ [])) o2 is legal all.settled h;
    }
push_failed law holds who origin a b c d was o1 o2 is kept kept1 kept2 item (Because cause) now legal s t h =
    went_through law holds who origin a b c d was o1 o2 is kept kept1 kept2 item (Some cause) now legal s t h

-- A trim, which is a push between other calls

pub through_from : (law : Law) (holds : List Event → ℕ → Entry → Type 0) (who origin : ℕ) (a b c d : List Event) (was is : OutboxView) (kept kept' : List Item) (item : Item) (cause : Option Cause) → On a b → IsLegal law c → On c d
    → GoesThrough holds who origin b was kept item cause c is kept' → GoesThrough holds who origin a was kept item cause d is kept'
through_from law holds who origin a b c d was is kept kept' item cause on legal rest h =
    let sent = with_sent was (packed origin (kept ++ item ∷ []) ∷ []) in
    let s = settled_from law holds who a b c sent (record { entries = is.entries; given = is.given; unsettled = cause }) on legal h.answered.settled in
    record {
      answered = record {
        settled = record { done = s.done; given = s.given; all = s.all; gained = s.gained; moment = s.moment; fates = s.fates; rest = (s.rest.0 ++ rest.0, rest.1 ∙ ap (λ l. l ++ rest.0) s.rest.1 ∙ append_assoc s.moment s.rest.0 rest.0) };
        none = h.answered.none;
        answered = h.answered.answered;
      };
      none = h.none;
    }

pub unpushed_from : (law : Law) (holds : List Event → ℕ → Entry → Type 0) (who origin : ℕ) (a b c : List Event) (was is : OutboxView) (kept kept' : List Item) (item : Item) (f : Fault) → On a b → IsLegal law c
    → Unpushed holds who origin b was kept item f c is kept' → Unpushed holds who origin a was kept item f c is kept'
unpushed_from law holds who origin a b c was is kept kept' item Memory on legal h = record { sent = h.sent; down = h.down; settled = settled_from law holds who a b c (with_sent was h.sent) is on legal h.settled }
unpushed_from law holds who origin a b c was is kept kept' item (Because cause) on legal h = through_from law holds who origin a b c c was is kept kept' item (Some cause) on legal ([], sym (append-nil c)) h

-- a trim whose request failed
pub untrimmed_push : (holds : List Event → ℕ → Entry → Type 0) (who origin position : ℕ) (a c : List Event) (was is : OutboxView) (kept kept' : List Item) (f : Fault) → Unpushed holds who origin a was kept (trim_item position) f c is kept' → Untrimmed holds who origin a was kept f c is kept'
untrimmed_push holds who origin position a c was is kept kept' Memory h = (position, h)
untrimmed_push holds who origin position a c was is kept kept' (Because cause) h = inr (inl (record { position = position; through = h }))

-- .. that found no tail
pub untrimmed_before : (holds : List Event → ℕ → Entry → Type 0) (who origin : ℕ) (a b : List Event) (was is : OutboxView) (kept kept' : List Item) (f : Fault) → On a b → is ≡ was → kept' ≡ kept → Untrimmed holds who origin a was kept f b is kept'
untrimmed_before holds who origin a b was is kept kept' Memory on same keeps = (
  0,
  record {
    sent = [];
    down = inr (inr (refl, keeps));
    settled = subst (λ o. Settled holds who a (with_sent was []) b o) (sym same) (record { done = []; given = []; all = append-nil was.entries; gained = sym (append-nil was.given); moment = a; fates = (refl, refl, refl); rest = on });
  },
)
untrimmed_before holds who origin a b was is kept kept' (Because cause) on same keeps = inl (same, keeps)

-- .. whose request went through
pub untrimmed_after : (holds : List Event → ℕ → Entry → Type 0) (who origin position : ℕ) (a c : List Event) (was is : OutboxView) (kept kept' : List Item) (f : Fault) → GoesThrough holds who origin a was kept (trim_item position) None c is kept' → Untrimmed holds who origin a was kept f c is kept'
untrimmed_after holds who origin position a c was is kept kept' Memory h = (
  position,
  record {
    sent = packed origin (kept ++ trim_item position ∷ []) ∷ [];
    down = inl (refl, h.none);
    settled = subst (λ o. Settled holds who a (with_sent was (packed origin (kept ++ trim_item position ∷ []) ∷ [])) c (record { entries = is.entries; given = is.given; unsettled = o })) (sym h.answered.answered) h.answered.settled;
  },
)
untrimmed_after holds who origin position a c was is kept kept' (Because cause) h = inr (inr (record { position = position; through = h }))

-- Whose the cause is

-- what waits for a settling is its answer
pub earlier_answers : (holds : List Event → ℕ → Entry → Type 0) (who origin : ℕ) (a c : List Event) (was is : OutboxView) (kept kept' : List Item) (item : Item) (cause : Cause) (f : Fault) → was.unsettled ≡ Some cause → Unpushed holds who origin a was kept item f c is kept' → (f ≡ Memory) ⊎ (f ≡ Because cause)
earlier_answers holds who origin a c was is kept kept' item cause Memory waits h = inl refl
earlier_answers holds who origin a c was is kept kept' item cause (Because x) waits h =
    let s = h.answered.settled in
    let same : Some x ≡ Some cause = settles_keeps holds who a s.moment s.done s.given was.unsettled (Some x) cause s.fates waits in
    let one : x ≡ cause = cc in
    inr (ap Because one)

-- a fault of a push, in two cases: a cause waited, or none did
pub earlier_or : (P : Fault → Type 0) (o : Option Cause) (f : Fault) → P Memory → (o ≡ None → P f) → ((cause : Cause) → o ≡ Some cause → (f ≡ Memory) ⊎ (f ≡ Because cause)) → IsEarlier o f ⊎ P f
earlier_or P None f memory fresh waits = inr (fresh refl)
earlier_or P (Some cause) f memory fresh waits = ⊎_elim (λ e. inr (subst P (sym e) memory)) (λ e. inl e) (waits cause refl)

-- want of memory isn't the store's
pub memory_twice : (old new : ReplicaView) → StoreTwice old Memory new
memory_twice old new is = absurd (cc)
