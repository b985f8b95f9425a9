-- What nodes tell stands behind what it tells, where a journal goes on by events of several of them.
use Rattle.std.proofs.Common.{◌≡◌, refl, sym, ap, ◌∙◌, subst, ◌⊎◌, inl, inr, ⊎_elim, ℕ, zero, suc, ◌<◌, ◌≤◌, List, ◌++◌, Option, Some, length, arith, append_assoc}
use Rattle.std.specs.Prelude.{Contains}
use Rattle.std.proofs.lemmas.Bool.{cases_lt}
use Rattle.std.proofs.lemmas.List.{append_cancel_left}
use Rattle.std.proofs.lemmas.List.Elements.{Contains-append_left}
use Rattle.delos_types.specs.declared.entry.Entry.{Entry}
use Rattle.legal_journal.specs.Law.{Law}
use Rattle.legal_journal.specs.declared.events.Event.{Event}
use Rattle.legal_journal.specs.Journal.{IsLegal}
use Rattle.journal_laws.specs.Changes.{appended}
use Rattle.journal_laws.proofs.Changes.{appended_parts, appended_stays, held_appended}
use Rattle.fabric_core.proofs.OneLoglet.{at}
use Rattle.virtual_log.specs.Holding.{Holds}
use Rattle.virtual_log.proofs.Agreeing.{holds_agree}
use Rattle.virtual_log.proofs.Holding.{holds_stands}
use Rattle.engine_api.specs.declared.content.Content.{Content}
use Rattle.engine_api.specs.declared.content.Content.TheVariants as content
use Rattle.engine_api.specs.declared.content.Placed.{Placed}
use Rattle.engine_api.specs.Items.{unpack}
use Rattle.turn_scopes.proofs.Bounds.{stands_below}
use Rattle.turn_scopes.proofs.Moments.{held_before}
use Rattle.script_text.specs.declared.asks.NamedLine.{NamedLine}
use Rattle.node_lines.specs.declared.lines.Looked.{Looked}
use Rattle.node_lines.specs.Measuring.{IsCleanPoint}
use Rattle.node_lines.specs.Workers.{Grows, IsHeld, IsReported, IsSaid, MayRun, appended_by}
use Rattle.node_lines.proofs.Cleaning.{clean_none}
use Rattle.node_lines.proofs.Own.{own_more}
use Rattle.node_course.specs.FaultLines.{IsOutside}
use Rattle.node_course.specs.Telling.{AreBehind, AreTold, AsksBehind, IsAskedBehind, IsBehind, IsReportedBehind, IsSaidBehind, ToldSo}
use Rattle.node_course.proofs.Keeping.{behind_then, moments_or}
use Rattle.node_course.proofs.Moments.{grown_legal, grows_both, grows_not}
use Rattle.node_course.proofs.Outside.{some_other}
use Rattle.node_course.proofs.Stands.{held_on}

-- The journal goes on by `more`, each event of which is of number 0, or of a node that tells of itself only what lines had it tell, and asks
-- for trims behind reports of as much.
module _ (law : Law) (run : MayRun law) (lines : List NamedLine) (looks : List (Option Looked)) (old new more : List Event) (seen : new ≡ old ++ more) (legal : IsLegal law new) (was : AreBehind old)
    (tells : (e : Event) → Contains more e → IsOutside e ⊎ (AreTold lines looks e.who new × AsksBehind e.who new)) where
  grows : Grows old new
  grows = (more, seen)

  -- by that moment such a node had begun to append it
  abbrev Telling : List Event → Entry → Type 0
  Telling early x = (who : ℕ) × Contains (appended_by who early) x × AreTold lines looks who new × AsksBehind who new

  -- what had been begun to be appended by a moment was before, or by such a node
  by_then : (early : List Event) → Grows early new → (x : Entry) → Contains (appended early) x → Contains (appended old) x ⊎ Telling early x
  by_then early up x h = ⊎_elim
      (λ (low : Grows early old). inl (subst (λ es. Contains (appended es) x) (sym low.1) (appended_stays early low.0 x h)))
      (λ (high : Grows old early × (length old < length early)).
      let part : List Event = high.0.0 in
      let is : early ≡ old ++ part = high.0.1 in
      let whole : more ≡ part ++ up.0 = append_cancel_left old more (part ++ up.0) (sym seen ∙ (up.1 ∙ (ap (λ l. l ++ up.0) is ∙ append_assoc old part up.0))) in
      ⊎_elim
      (λ (before : Contains (appended old) x). inl before)
      (λ (since : Contains (appended part) x).
      let b = some_other part x since in
      ⊎_elim
      (λ (outside : IsOutside b.0). absurd (b.2 outside))
      (λ (t : AreTold lines looks b.0.who new × AsksBehind b.0.who new).
      inr (b.0.who, subst (λ es. Contains (appended_by b.0.who es) x) (sym is) (own_more b.0.who old part x b.3), t.0, t.1))
      (tells b.0 (subst (λ es. Contains es b.0) (sym whole) (Contains-append_left part up.0 b.0 b.1))))
      (appended_parts old part x (subst (λ es. Contains (appended es) x) is h)))
      (moments_or early old new up grows)

  -- what is reported
  reported : (node n : ℕ) (e : Entry) (p : Placed) → Contains (appended new) e → Contains (unpack 0 e) p → p.content ≡ content.Alive node n → IsReportedBehind new node n
  reported node n e p there among is = ⊎_elim
      (λ (before : Contains (appended old) e). behind_then law old new grows legal (content.Alive node n) (subst (IsBehind old) is (was e p before among)))
      (λ (t : Telling new e).
      let h = subst (ToldSo lines looks t.0 new) is (t.2 e p t.1 among) in
      subst (λ k. IsReportedBehind new k n) (sym h.0) h.1)
      (by_then new (grows_not new) e there)

  -- where something is said behind its position, nothing below says it
  not_below : (n : ℕ) (c : Content) → IsSaidBehind new n c → (i : ℕ) (e : Entry) (p : Placed) → i < n → Holds new i e → Contains (unpack 0 e) p → p.content ≡ c → ⊥
  not_below n c b i e p low held among is =
      let x = at b.clean.log i (omega (arith, low, b.clean.within)) in
      let same : x.element ≡ e = holds_agree law new i x.element e legal (b.clean.front i x.element x.is) held in
      b.behind i e p low (◌∙◌ {b = Some x.element} x.is (ap {B = Option Entry} (λ y. Some y) same)) among is

  held_now : (early : List Event) → Grows early new → (i : ℕ) (e : Entry) → Holds early i e → Holds new i e
  held_now early up i e h = held_on law early new up.0 up.1 legal i e h

  -- a report that the log held stands at what it reports, or above
  held_high : (early : List Event) → Grows early new → (node n : ℕ) → (h : IsHeld early (content.Alive node n)) → n ≤ h.at
  held_high early up node n h = ⊎_elim
      (λ (low : h.at < n).
      let there = subst (λ es. Contains (appended es) h.entry) (sym up.1) (appended_stays early up.0 h.entry (held_appended law early h.at h.entry (grown_legal law early new up legal) h.held)) in
      absurd (not_below n (content.Alive node n) (reported node n h.entry h.placed there h.among h.is) h.at h.entry h.placed low (held_now early up h.at h.entry h.held) h.among h.is))
      (λ (high : n ≤ h.at). high)
      (cases_lt h.at n)

  -- No entry below a position asks for a trim to it: the first such one was asked for behind a report of it, which stood above.
  none_below : (fuel : ℕ) (early : List Event) → length early < fuel → Grows early new → (n i : ℕ) (e : Entry) (p : Placed) → i < n → Holds early i e → Contains (unpack 0 e) p → p.content ≡ content.Trim n → ⊥
  none_below zero early short up n i e p low held among is = absurd (omega (arith, short))
  none_below (suc fuel) early short up n i e p low held among is = ⊎_elim
      (λ (before : Contains (appended old) e).
      not_below n (content.Trim n) (behind_then law old new grows legal (content.Trim n) (subst (IsBehind old) is (was e p before among))) i e p low (held_now early up i e held) among is)
      (λ (t : Telling early e).
      let w = t.3 early e p n up t.1 among is in
      ⊎_elim
      (λ (none : n ≡ 0). absurd (omega (arith, low, none)))
      (λ (r : (node : ℕ) × IsHeld w.before (content.Alive node n)).
      let up' = grows_both w.before early new w.grows up in
      let before_legal = grown_legal law w.before new up' legal in
      let high = held_high w.before up' r.0 n r.1 in
      let below = stands_below law run.low w.before r.1.at r.1.entry before_legal (holds_stands law w.before r.1.at r.1.entry before_legal r.1.held) in
      let stood : Holds w.before i e =
      held_before law run.low w.before w.grows.0 i e (subst (IsLegal law) w.grows.1 early_legal) (omega (arith, low, high, below)) (subst (λ es. Holds es i e) w.grows.1 held) in
      none_below fuel w.before (let less = w.earlier in omega (arith, less, short)) up' n i e p low stood among is)
      w.held)
      (by_then early up e (held_appended law early i e early_legal held))
    where
      early_legal : IsLegal law early
      early_legal = grown_legal law early new up legal

  -- what is asked for as a trim
  asked : (n : ℕ) (e : Entry) (p : Placed) → Contains (appended new) e → Contains (unpack 0 e) p → p.content ≡ content.Trim n → IsAskedBehind new n
  asked n e p there among is = ⊎_elim
      (λ (before : Contains (appended old) e). behind_then law old new grows legal (content.Trim n) (subst (IsBehind old) is (was e p before among)))
      (λ (t : Telling new e).
      let c = clean (subst (ToldSo lines looks t.0 new) is (t.2 e p t.1 among)) in
      record { clean = c; behind = λ i x q low stands says same. none_below (suc (length new)) new (omega arith) (grows_not new) n i x q low (c.front i x stands) says same })
      (by_then new (grows_not new) e there)
    where
      clean : IsReported new n → IsCleanPoint new n
      clean (inl none) = subst (IsCleanPoint new) (sym none) (clean_none new)
      clean (inr h) = let s : IsSaid new (content.Alive h.0 n) = h.1 in (reported h.0 n s.entry s.placed s.appended_is s.among s.is).clean

  pub behind_joined : AreBehind new
  behind_joined e p there among = by p.content refl
    where
      by : (c : Content) → p.content ≡ c → IsBehind new c
      by (content.Session s r x) is = tt
      by (content.Alive node n) is = reported node n e p there among is
      by (content.Leave node) is = tt
      by (content.Trim n) is = asked n e p there among is
