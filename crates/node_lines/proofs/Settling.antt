-- What becomes of a session's commands as outstanding entries are settled.
use Rattle.std.proofs.Common.{◌≡◌, refl, sym, ap, ◌∙◌, subst, ◌⊎◌, inl, inr, ⊎_elim, ℕ, ◌≤◌, Bool, true, false, cond, List, [], ◌∷◌, ◌++◌, Option, Some, None, is_some, length, arith, append_assoc}
use Rattle.std.specs.Prelude.{◌==◌, ◌&&◌, if◌then◌else◌}
use Rattle.std.specs.List.{cons_option}
use Rattle.delos_types.specs.declared.entry.Entry.{Entry}
use Rattle.delos_types.specs.declared.item.Item.{Item}
use Rattle.delos_types.specs.declared.cause.Cause.{Cause}
use Rattle.delos_types.specs.declared.cause.Cause.TheVariants as cause
use Rattle.legal_journal.specs.Law.{Law}
use Rattle.legal_journal.specs.declared.events.Event.{Event}
use Rattle.legal_journal.specs.Journal.{IsLegal}
use Rattle.legal_journal.proofs.Legal.{legal_front, goes_on}
use Rattle.virtual_log.specs.Holding.{Holds}
use Rattle.virtual_log.proofs.Holding.{holds_later}
use Rattle.engine_api.specs.declared.content.Content.{Content}
use Rattle.engine_api.specs.declared.content.Content.TheVariants.{Session, Alive, Leave, Trim}
use Rattle.engine_api.specs.declared.content.Placed.{Placed}
use Rattle.engine_api.specs.Items.{unpack}
use Rattle.engine_api.specs.Acted.{appearances, appearance_of}
use Rattle.engine_api.specs.Order.{first_of}
use Rattle.base_engine.specs.declared.outbox.Given.{Given}
use Rattle.base_engine.specs.Settling.{OutboxView, Fate, Landed, Lost, Meets, Settles, Settled, gives, given_to, first_of as first_cause, session_of, sessions_among, sessions_in, has_session, cause_in}
use Rattle.turn_scopes.proofs.Bounds.{stands_below}
use Rattle.node_lines.specs.UnderWay.{Among, HasRank, IsHeld, HasLanded, Waits, IsUnderWay, IsGiven}

true_not_false : {A : Type 0} → true ≡ false → A
true_not_false e = absurd (cc)

-- The sessions of an entry

has-more : (s t : ℕ) (ss : List ℕ) → has_session s ss ≡ true → has_session s (t ∷ ss) ≡ true
has-more s t ss h = by (t == s) refl
  where
    by : (b : Bool) → (t == s) ≡ b → (if t == s then true else has_session s ss) ≡ true
    by true e = ap (λ b. cond b true (has_session s ss)) e
    by false e = ap (λ b. cond b true (has_session s ss)) e ∙ h

-- a rank of s is among the items, so s is among the sessions
session-among : (s r : ℕ) (ps : List Placed) → is_some (first_of (appearances ps) s r) ≡ true → has_session s (sessions_among ps) ≡ true
session-among s r [] h = true_not_false (sym h)
session-among s r (p ∷ ps) h = by_content p.content (session-among s r ps) h
  where
    by_content : (c : Content) → (is_some (first_of (appearances ps) s r) ≡ true → has_session s (sessions_among ps) ≡ true) → is_some (first_of (cons_option (appearance_of p.place c) (appearances ps)) s r) ≡ true → has_session s (cons_option (session_of c) (sessions_among ps)) ≡ true
    by_content (Alive n q) rest k = rest k
    by_content (Leave n) rest k = rest k
    by_content (Trim q) rest k = rest k
    by_content (Session t q c) rest k = by_test (t == s) refl k
      where
        by_test : (b : Bool) → (t == s) ≡ b → is_some (cond ((t == s) && (q == r)) (Some (record { place = p.place; session = t; rank = q; command = c })) (first_of (appearances ps) s r)) ≡ true → has_session s (t ∷ sessions_among ps) ≡ true
        by_test true e k = ap (λ b. cond b true (has_session s (sessions_among ps))) e
        by_test false e k = has-more s t (sessions_among ps) (rest (sym (ap (λ b. is_some (cond (b && (q == r)) (Some (record { place = p.place; session = t; rank = q; command = c })) (first_of (appearances ps) s r))) e) ∙ k))

session-in : (s r : ℕ) (e : Entry) → HasRank s r e → has_session s (sessions_in e) ≡ true
session-in s r e h = session-among s r (unpack 0 e) h

-- a session was given no cause, so none in a front nor in the rest
pub none-front : (s : ℕ) (xs ys : List Given) → cause_in s (xs ++ ys) ≡ None → cause_in s xs ≡ None
none-front s [] ys h = refl
none-front s (x ∷ xs) ys h = by (has_session s x.sessions) (none-front s xs ys) h
  where
    by : (b : Bool) → (cause_in s (xs ++ ys) ≡ None → cause_in s xs ≡ None) → cond b (Some x.cause) (cause_in s (xs ++ ys)) ≡ None → cond b (Some x.cause) (cause_in s xs) ≡ None
    by true rest k = absurd (cc)
    by false rest k = rest k

pub none-rest : (s : ℕ) (xs ys : List Given) → cause_in s (xs ++ ys) ≡ None → cause_in s ys ≡ None
none-rest s [] ys h = h
none-rest s (x ∷ xs) ys h = by (has_session s x.sessions) (none-rest s xs ys) h
  where
    by : (b : Bool) → (cause_in s (xs ++ ys) ≡ None → cause_in s ys ≡ None) → cond b (Some x.cause) (cause_in s (xs ++ ys)) ≡ None → cause_in s ys ≡ None
    by true rest k = absurd (cc)
    by false rest k = rest k

-- a session to which a cause was given has it
given-has : (s : ℕ) (ss : List ℕ) (c : Cause) → has_session s ss ≡ true → cause_in s (given_to ss c) ≡ Some c
given-has s [] c h = true_not_false (sym h)
given-has s (t ∷ ts) c h = ap (λ b. cond b (Some c) None) h

-- Moments

abbrev pub Extends : List Event → List Event → Type 0
Extends old new = (more : List Event) × (new ≡ old ++ more)

pub extends-trans : (a b c : List Event) → Extends a b → Extends b c → Extends a c
extends-trans a b c f g = (f.0 ++ g.0, g.1 ∙ (ap (λ l. l ++ g.0) f.1 ∙ append_assoc a f.0 g.0))

nil : (xs : List Event) → xs ≡ xs ++ []
nil [] = refl
nil (x ∷ xs) = ap (λ l. x ∷ l) (nil xs)

-- an entry meets its fate at a later moment
meets-extends : (who : ℕ) (old new : List Event) (e : Entry) (f : Fate) → Meets Holds who old e f new → Extends old new
meets-extends who old new e (Landed pos) h = let f = h.2.first in (f.others ++ f.event ∷ f.rest, f.seen ∙ append_assoc old f.others (f.event ∷ f.rest))
meets-extends who old new e (Lost (cause.NoQuorum id u)) h = (h.before ++ h.event ∷ h.after, h.seen ∙ append_assoc old h.before (h.event ∷ h.after))
meets-extends who old new e (Lost (cause.Full id)) h = (h.before ++ h.event ∷ h.after, h.seen ∙ append_assoc old h.before (h.event ∷ h.after))
meets-extends who old new e (Lost cause.Meta) h = (h.before ++ h.event ∷ h.after, h.seen ∙ append_assoc old h.before (h.event ∷ h.after))
meets-extends who old new e (Lost cause.Store) h = absurd h

pub settles-extends : (who : ℕ) (old new : List Event) (done : List Entry) (given : List Given) (before after : Option Cause) → Settles Holds who old done new given before after → Extends old new
settles-extends who old new [] given before after h = ([], h.0 ∙ nil old)
settles-extends who old new (e ∷ es) given before after h =
    extends-trans old h.0 new (meets-extends who old h.0 e h.1 h.3) (settles-extends who h.0 new es h.2 (first_cause before h.1) after h.5)

module _ (law : Law) (low : (log : List Entry) (n : ℕ) → law.floor log n → n ≤ length log) where
  -- what is held is held at every later moment
  pub held_later : (old new : List Event) (e : Entry) → IsLegal law new → Extends old new → IsHeld old e → IsHeld new e
  held_later old new e legal on h =
      let whole = subst (IsLegal law) on.1 legal in
      let goes = goes_on law old on.0 whole in
      subst (λ es. IsHeld es e) (sym on.1) (record {
        pos = h.pos;
        held = holds_later law old (old ++ on.0) h.pos e (legal_front law old on.0 whole) goes h.held;
        below = omega (arith, h.below, goes.tail);
      })

  pub landed_later : (old new : List Event) (s r : ℕ) → IsLegal law new → Extends old new → HasLanded old s r → HasLanded new s r
  landed_later old new s r legal on h = record { entry = h.entry; held = held_later old new h.entry legal on h.held; rank = h.rank }

  pub front_of : (old new : List Event) → IsLegal law new → Extends old new → IsLegal law old
  front_of old new legal on = legal_front law old on.0 (subst (IsLegal law) on.1 legal)

  -- an entry that gave a session of its no cause landed
  met_held : (who s : ℕ) (old new : List Event) (e : Entry) (f : Fate) → IsLegal law new → has_session s (sessions_in e) ≡ true → cause_in s (gives e f) ≡ None → Meets Holds who old e f new → IsHeld new e
  met_held who s old new e (Landed pos) legal own none h = record { pos = pos; held = h.1; below = stands_below law low new pos e legal h.0 }
  met_held who s old new e (Lost c) legal own none h = absurd (let given : Some c ≡ None = sym (given-has s (sessions_in e) c own) ∙ none in cc)

  -- Of entries that were settled without a cause for s, each with a rank of s is held.
  pub settled_held : (who s r : ℕ) (old new : List Event) (done : List Entry) (given : List Given) (before after : Option Cause) (e : Entry) → IsLegal law new → cause_in s given ≡ None
      → Settles Holds who old done new given before after → Among e done → HasRank s r e → IsHeld new e
  settled_held who s r old new [] given before after e legal none h among has = absurd among
  settled_held who s r old new (x ∷ xs) given before after e legal none h among has =
      let on = settles-extends who h.0 new xs h.2 (first_cause before h.1) after h.5 in
      let none' = subst (λ g. cause_in s g ≡ None) h.4 none in
      ⊎_elim
      (λ (same : x ≡ e). held_later h.0 new e legal on (subst (IsHeld h.0) same (met_held who s old h.0 x h.1 (front_of h.0 new legal on) (session-in s r x (subst (HasRank s r) (sym same) has)) (none-front s (gives x h.1) h.2 none') h.3)))
      (λ (k : Among e xs). settled_held who s r h.0 new xs h.2 (first_cause before h.1) after e legal (none-rest s (gives x h.1) h.2 none') h.5 k has)
      among

  among-split : (e : Entry) (xs ys : List Entry) → Among e (xs ++ ys) → Among e xs ⊎ Among e ys
  among-split e [] ys h = inr h
  among-split e (x ∷ xs) ys (inl h) = inl (inl h)
  among-split e (x ∷ xs) ys (inr h) = ⊎_elim (λ (k : Among e xs). inl (inr k)) (λ (k : Among e ys). inr k) (among-split e xs ys h)

  -- A settling that gave s no cause: what is under way stays so.
  pub settled_under_way : (who s r : ℕ) (old new : List Event) (was is : OutboxView) → IsLegal law new → cause_in s is.given ≡ None
      → Settled Holds who old was new is → IsUnderWay old was.entries s r → IsUnderWay new is.entries s r
  settled_under_way who s r old new was is legal none h (inl x) =
      inl (landed_later old new s r legal (extends-trans old h.moment new (settles-extends who old h.moment h.done h.given was.unsettled is.unsettled h.fates) h.rest) x)
  settled_under_way who s r old new was is legal none h (inr x) =
      let given = none-rest s was.given h.given (subst (λ g. cause_in s g ≡ None) h.gained none) in
      ⊎_elim
      (λ (k : Among x.entry h.done).
      inl (landed_later h.moment new s r legal h.rest (record {
        entry = x.entry;
        held = settled_held who s r old h.moment h.done h.given was.unsettled is.unsettled x.entry (front_of h.moment new legal h.rest) given h.fates k x.rank;
        rank = x.rank;
      })))
      (λ (k : Among x.entry is.entries). inr (record { entry = x.entry; among = k; rank = x.rank }))
      (among-split x.entry h.done is.entries (subst (Among x.entry) h.all x.among))

  -- where nothing is outstanding any more, it has landed
  pub settled_landed : (who s r : ℕ) (old new : List Event) (was is : OutboxView) → IsLegal law new → cause_in s is.given ≡ None → is.entries ≡ []
      → Settled Holds who old was new is → IsUnderWay old was.entries s r → HasLanded new s r
  settled_landed who s r old new was is legal none empty h x = ⊎_elim
      (λ (k : HasLanded new s r). k)
      (λ (k : Waits is.entries s r). absurd (subst (Among k.entry) empty k.among))
      (settled_under_way who s r old new was is legal none h x)

  -- a session's commands after a settling that gave it no cause
  pub settled_given : (who s sent : ℕ) (old new : List Event) (was is : OutboxView) (kept : List Item) → IsLegal law new → cause_in s is.given ≡ None
      → Settled Holds who old was new is → IsGiven old was.entries kept s sent → IsGiven new is.entries kept s sent
  settled_given who s sent old new was is kept legal none h g = record {
    queued = g.queued;
    few = g.few;
    waiting = g.waiting;
    under_way = λ r first last. settled_under_way who s r old new was is legal none h (g.under_way r first last);
  }
