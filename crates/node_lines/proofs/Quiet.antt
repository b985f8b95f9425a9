-- A session of which nothing is on its way is given no cause.
use Rattle.std.proofs.Common.{◌≡◌, ◌≢◌, refl, sym, ap, ◌∙◌, subst, ℕ, suc, ◌+◌, ◌≤◌, cond, Bool, true, false, List, [], ◌∷◌, ◌++◌, Option, Some, None, length, arith}
use Rattle.std.specs.Prelude.{◌==◌, All, filter_map}
use Rattle.std.specs.List.{cons_option}
use Rattle.std.proofs.lemmas.List.Elements.{All-nil, All-cons, All-head, All-tail, All-append}
use Rattle.delos_types.specs.declared.entry.Entry.{Entry}
use Rattle.delos_types.specs.declared.item.Item.{Item}
use Rattle.delos_types.specs.declared.cause.Cause.{Cause}
use Rattle.legal_journal.specs.declared.events.Event.{Event}
use Rattle.virtual_log.specs.Holding.{Holds}
use Rattle.engine_api.specs.declared.content.Content.{Content}
use Rattle.engine_api.specs.declared.content.Content.TheVariants as content
use Rattle.engine_api.specs.Items.{content_of, placed_from}
use Rattle.engine_api.specs.Packing.{packed, IsProposable, IsBatch}
use Rattle.engine_api.proofs.Packed.{unpack-packed}
use Rattle.replica_api.specs.Replica.{Queues, Flushes}
use Rattle.base_engine.specs.declared.outbox.Given.{Given}
use Rattle.base_engine.specs.Settling.{OutboxView, Fate, Landed, Lost, Settles, Settled, gives, given_to, first_of, sessions_among, sessions_in, has_session, cause_in}
use Rattle.base_engine.specs.Proposing.{Sent, with_entry}
use Rattle.node_lines.specs.UnderWay.{rank_under, ranks_in}
use Rattle.node_lines.proofs.Ranks.{ranks-append, ranks-other}
use Rattle.node_lines.specs.Moving.{HasNoneOf}

-- Entries that are settled

-- a session that has no cause in two lists has none in both together
none-append : (s : ℕ) (xs ys : List Given) → cause_in s xs ≡ None → cause_in s ys ≡ None → cause_in s (xs ++ ys) ≡ None
none-append s [] ys h k = k
none-append s (x ∷ xs) ys h k = by (has_session s x.sessions) (λ n. none-append s xs ys n k) h
  where
    by : (b : Bool) → (cause_in s xs ≡ None → cause_in s (xs ++ ys) ≡ None) → cond b (Some x.cause) (cause_in s xs) ≡ None → cond b (Some x.cause) (cause_in s (xs ++ ys)) ≡ None
    by true rest n = absurd (cc)
    by false rest n = rest n

given-none : (s : ℕ) (ss : List ℕ) (c : Cause) → has_session s ss ≡ false → cause_in s (given_to ss c) ≡ None
given-none s [] c h = refl
given-none s (t ∷ ts) c h = ap (λ b. cond b (Some c) None) h

gives-none : (s : ℕ) (e : Entry) (f : Fate) → HasNoneOf s e → cause_in s (gives e f) ≡ None
gives-none s e (Landed pos) h = refl
gives-none s e (Lost c) h = given-none s (sessions_in e) c h

settles-none : (who s : ℕ) (old new : List Event) (done : List Entry) (given : List Given) (before after : Option Cause) → Settles Holds who old done new given before after → All (HasNoneOf s) done → cause_in s given ≡ None
settles-none who s old new [] given before after h all = ap (cause_in s) h.1
settles-none who s old new (e ∷ es) given before after h all =
    ap (cause_in s) h.4
    ∙ none-append s (gives e h.1) h.2 (gives-none s e h.1 (All-head (HasNoneOf s) e es all)) (settles-none who s h.0 new es h.2 (first_of before h.1) after h.5 (All-tail (HasNoneOf s) e es all))

all-front : (P : Entry → Type 0) (xs ys : List Entry) → All P (xs ++ ys) → All P xs
all-front P [] ys h = All-nil P
all-front P (x ∷ xs) ys h = All-cons P x xs (All-head P x (xs ++ ys) h) (all-front P xs ys (All-tail P x (xs ++ ys) h))

all-behind : (P : Entry → Type 0) (xs ys : List Entry) → All P (xs ++ ys) → All P ys
all-behind P [] ys h = h
all-behind P (x ∷ xs) ys h = all-behind P xs ys (All-tail P x (xs ++ ys) h)

-- of session s no item is outstanding, none of these waits, and it has no cause
pub record IsStill (o : OutboxView) (kept : List Item) (s : ℕ) : Type 0 where
  pub outstanding : All (HasNoneOf s) o.entries
  pub waiting : ranks_in s kept ≡ []
  pub free : cause_in s o.given ≡ None

pub settled_still : (who s : ℕ) (old new : List Event) (was is : OutboxView) (kept : List Item) → Settled Holds who old was new is → IsStill was kept s → IsStill is kept s
settled_still who s old new was is kept h still =
    let whole = subst (All (HasNoneOf s)) h.all still.outstanding in
    record {
      outstanding = all-behind (HasNoneOf s) h.done is.entries whole;
      waiting = still.waiting;
      free =
          ap (cause_in s) h.gained
          ∙ none-append s was.given h.given still.free (settles-none who s old h.moment h.done h.given was.unsettled is.unsettled h.fates (all-front (HasNoneOf s) h.done is.entries whole));
    }

-- Items that are packed

-- where no item is of the session, none of what stands there is
none-placed : (s pos sub : ℕ) (items : List Item) → ranks_in s items ≡ [] → has_session s (sessions_among (placed_from pos sub (filter_map content_of items))) ≡ false
none-placed s pos sub [] h = refl
none-placed s pos sub (i ∷ is) h = by_content (content_of i) (λ n k. none-placed s pos n is k) h
  where
    by_content : (o : Option Content) → ((n : ℕ) → ranks_in s is ≡ [] → has_session s (sessions_among (placed_from pos n (filter_map content_of is))) ≡ false) → cons_option (rank_under s o) (ranks_in s is) ≡ []
        → has_session s (sessions_among (placed_from pos sub (cons_option o (filter_map content_of is)))) ≡ false
    by_content None rest k = rest sub k
    by_content (Some (content.Alive n p)) rest k = rest (sub + 1) k
    by_content (Some (content.Leave n)) rest k = rest (sub + 1) k
    by_content (Some (content.Trim p)) rest k = rest (sub + 1) k
    by_content (Some (content.Session t q c)) rest k = by_session (t == s) refl k
      where
        by_session : (b : Bool) → (t == s) ≡ b → cons_option (cond b (Some q) None) (ranks_in s is) ≡ [] → has_session s (t ∷ sessions_among (placed_from pos (sub + 1) (filter_map content_of is))) ≡ false
        by_session true e k = absurd (cc)
        by_session false e k = ap (λ b. cond b true (has_session s (sessions_among (placed_from pos (sub + 1) (filter_map content_of is))))) e ∙ rest (sub + 1) k

none-packed : (origin s : ℕ) (items : List Item) → IsBatch items → ranks_in s items ≡ [] → HasNoneOf s (packed origin items)
none-packed origin s items b h = ap (λ l. has_session s (sessions_among l)) (unpack-packed origin items 0 b) ∙ none-placed s 0 0 items h

some_of : (xs : List Item) → xs ≢ [] → 1 ≤ length xs
some_of [] h = absurd (h refl)
some_of (x ∷ xs) h = omega arith

length-snoc : (xs : List Item) (x : Item) → length (xs ++ x ∷ []) ≡ length xs + 1
length-snoc [] x = refl
length-snoc (y ∷ ys) x = ap suc (length-snoc ys x) ∙ (let e : suc (length ys + 1) ≡ length (y ∷ ys) + 1 = omega arith in e)

-- an entry without the session is outstanding as well, and nothing waits
with_packed : (o : OutboxView) (e : Entry) (kept kept' : List Item) (s : ℕ) → IsStill o kept s → HasNoneOf s e → kept' ≡ [] → IsStill (with_entry o (Some e)) kept' s
with_packed o e kept kept' s still none empty = record {
  outstanding = All-append (HasNoneOf s) o.entries (e ∷ []) still.outstanding (All-cons (HasNoneOf s) e [] none (All-nil (HasNoneOf s)));
  waiting = ap (ranks_in s) empty;
  free = still.free;
}

-- what waited is packed
pub flushed_still : (who origin s : ℕ) (old new : List Event) (was is : OutboxView) (kept kept' : List Item) → All IsProposable kept → length kept ≤ 15
    → Sent Holds who old was (λ packed. Flushes origin kept packed kept') new is → IsStill was kept s → IsStill is kept' s
flushed_still who origin s old new was is kept kept' all few h still = cases h.packed h.is_with h.out
  where
    mid : IsStill h.mid kept s
    mid = settled_still who s old new was h.mid kept h.settled still

    cases : (p : Option Entry) → is ≡ with_entry h.mid p → Flushes origin kept p kept' → IsStill is kept' s
    cases None e out = subst (λ (o : OutboxView). IsStill o kept' s) (sym e) (record { outstanding = mid.outstanding; waiting = ap (ranks_in s) out.1; free = mid.free })
    cases (Some x) e out =
        let batch : IsBatch kept = record { some = some_of kept out.0; few = omega (arith, few); each = all } in
        let none : HasNoneOf s x = subst (HasNoneOf s) (sym out.1.entry) (none-packed origin s kept batch still.waiting) in
        subst (λ (o : OutboxView). IsStill o kept' s) (sym e) (with_packed h.mid x kept kept' s mid none out.2)

-- an item that isn't of the session goes down
pub sent_still : (who origin s : ℕ) (old new : List Event) (was is : OutboxView) (kept kept' : List Item) (item : Item) → All IsProposable kept → IsProposable item → rank_under s (content_of item) ≡ None
    → Sent Holds who old was (λ packed. Queues origin kept item packed kept') new is → IsStill was kept s → IsStill is kept' s
sent_still who origin s old new was is kept kept' item all fine other h still = cases h.packed h.is_with h.out
  where
    mid : IsStill h.mid kept s
    mid = settled_still who s old new was h.mid kept h.settled still

    none_of : ranks_in s (kept ++ item ∷ []) ≡ []
    none_of = ranks-append s kept (item ∷ []) ∙ ap (λ l. l ++ ranks_in s (item ∷ [])) still.waiting ∙ ranks-other s item other

    cases : (p : Option Entry) → is ≡ with_entry h.mid p → Queues origin kept item p kept' → IsStill is kept' s
    cases None e out = subst (λ (o : OutboxView). IsStill o kept' s) (sym e) (record { outstanding = mid.outstanding; waiting = ap (ranks_in s) out.0 ∙ none_of; free = mid.free })
    cases (Some x) e out =
        let batch : IsBatch (kept ++ item ∷ []) = record {
          some = omega (arith, length-snoc kept item);
          few = omega (arith, length-snoc kept item, out.0);
          each = All-append IsProposable kept (item ∷ []) all (All-cons IsProposable item [] fine (All-nil IsProposable));
        } in
        let none : HasNoneOf s x = subst (HasNoneOf s) (sym out.1.entry) (none-packed origin s (kept ++ item ∷ []) batch none_of) in
        subst (λ (o : OutboxView). IsStill o kept' s) (sym e) (with_packed h.mid x kept kept' s mid none out.2)
