-- What a log holds it holds at each later moment, and what it says then stands there still.
use Rattle.std.proofs.Common.{◌≡◌, refl, sym, ap, ◌∙◌, subst, inl, inr, ℕ, ◌<◌, ◌≤◌, List, [], ◌∷◌, ◌++◌, Option, Some, map, length, slice_get, Contains, arith}
use Rattle.delos_types.specs.declared.entry.Entry.{Entry}
use Rattle.legal_journal.specs.Law.{Law}
use Rattle.legal_journal.specs.declared.events.Event.{Event}
use Rattle.legal_journal.specs.Journal.{IsLegal, state_of, tail_of, trim_of}
use Rattle.legal_journal.proofs.Legal.{goes_on, legal_front}
use Rattle.fabric_core.proofs.OneLoglet.{at}
use Rattle.virtual_log.specs.Holding.{Holds}
use Rattle.virtual_log.proofs.Holding.{holds_stands}
use Rattle.virtual_log.proofs.Agreeing.{holds_agree}
use Rattle.engine_api.specs.declared.content.Content.TheVariants as content
use Rattle.engine_api.specs.declared.content.Content.{Content}
use Rattle.engine_api.specs.declared.content.Placed.{Placed}
use Rattle.engine_api.specs.Items.{unpack}
use Rattle.engine_api.specs.Acted.{unpack_all}
use Rattle.base_engine.specs.Holding.{held_stays}
use Rattle.base_engine.specs.Reading.{IsFront}
use Rattle.log_laws.proofs.Membership.{says_unpack}
use Rattle.turn_scopes.proofs.Bounds.{stands_below}
use Rattle.node_lines.specs.Measuring.{IsCleanPoint}
use Rattle.run_laws.proofs.Members.{Among, among-get, contained-among, contains-among}
use Rattle.node_course.specs.Reporting.{StandsThere}
use Rattle.node_course.specs.Telling.{IsReportedBehind, IsSaidBehind}

-- some item says it
pub says_one : (ps : List Placed) (c : Content) → Contains (map (λ p. p.content) ps) c → (p : Placed) × Contains ps p × (p.content ≡ c)
says_one ps c h =
    let m = one ps (contained-among (map (λ (p : Placed). p.content) ps) c h) in
    (m.0, contains-among ps m.0 m.1, m.2)
  where
    one : (ps : List Placed) → Among (map (λ p. p.content) ps) c → (p : Placed) × Among ps p × (p.content ≡ c)
    one [] m = absurd m
    one (p ∷ ps) (inl same) = (p, inl refl, same)
    one (p ∷ ps) (inr m) = let r = one ps m in (r.0, inr r.1, r.2)

module _ (law : Law) (old new more : List Event) (seen : new ≡ old ++ more) (legal : IsLegal law new) where
  whole : IsLegal law (old ++ more)
  whole = subst (IsLegal law) seen legal

  pub held_on : (pos : ℕ) (e : Entry) → Holds old pos e → Holds new pos e
  held_on pos e h = subst (λ l. Holds l pos e) (sym seen) (held_stays law old more pos e whole h)

  pub front_on : (log : List Entry) → IsFront Holds old log → IsFront Holds new log
  front_on log h = λ pos e at. held_on pos e (h pos e at)

  abbrev pub stands_on : (c : Content) → StandsThere old c → StandsThere new c
  stands_on c h = record { at = h.at; entry = h.entry; held = held_on h.at h.entry h.held; says = h.says }

  -- what stands in one front stands in each other that goes so far
  pub in_other : (a b : List Entry) → IsFront Holds new a → IsFront Holds new b → (i : ℕ) (e : Entry) → slice_get a i ≡ Some e → i < length b → slice_get b i ≡ Some e
  in_other a b one other i e is within =
      let x = at b i within in
      x.is ∙ ap {B = Option Entry} (λ y. Some y) (sym (holds_agree law new i e x.element legal (one i e is) (other i x.element x.is)))

  pub clean_on : (n : ℕ) → IsCleanPoint old n → IsCleanPoint new n
  clean_on n h = record { log = h.log; front = front_on h.log h.front; within = h.within; clean = h.clean }

  pub behind_so : (n : ℕ) (c : Content) → IsSaidBehind old n c → IsSaidBehind new n c
  behind_so n c h = record {
    clean = record { log = h.clean.log; front = front_on h.clean.log h.clean.front; within = h.clean.within; clean = h.clean.clean };
    behind = h.behind;
  }

  pub behind_on : (node n : ℕ) → IsReportedBehind old node n → IsReportedBehind new node n
  behind_on node n h = behind_so n (content.Alive node n) h

  pub trim_rises : trim_of (state_of old) ≤ trim_of (state_of new)
  trim_rises = subst (λ l. trim_of (state_of old) ≤ trim_of (state_of l)) (sym seen) (goes_on law old more whole).trim

  -- what stood in the log then is said in each front of it that reaches the tail of then
  pub said_in : ((log : List Entry) (n : ℕ) → law.floor log n → n ≤ length log) → (log : List Entry) → IsFront Holds new log → tail_of (state_of old) ≤ length log → (c : Content) → StandsThere old c
      → (p : Placed) × Contains (unpack_all 0 log) p × (p.content ≡ c)
  said_in low log front reach c h =
      let early = legal_front law old more whole in
      let below = stands_below law low old h.at h.entry early (holds_stands law old h.at h.entry early h.held) in
      let x = at log h.at (omega (arith, below, reach)) in
      let same : x.element ≡ h.entry = sym (holds_agree law new h.at h.entry x.element legal (held_on h.at h.entry h.held) (front h.at x.element x.is)) in
      let q = says_one (unpack 0 h.entry) c h.says in
      let among : Contains log h.entry = contains-among log h.entry (among-get log h.at h.entry (x.is ∙ ap {B = Option Entry} (λ e. Some e) same)) in
      let p = says_unpack log h.entry q.0 among q.1 in
      (p.0, p.1, ◌∙◌ {a = p.0.content} p.2 q.2)
