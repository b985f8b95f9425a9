-- What let a line trim the log: each node had left by then, or reported as much, and lines that aren't behind it asked it to.
use Rattle.std.proofs.Common.{◌≡◌, refl, sym, ◌∙◌, subst, ◌⊎◌, inl, inr, ⊎_elim, ℕ, ◌+◌, ◌<◌, ◌≤◌, Bool, true, false, List, map, length, Option, Some, Contains, arith}
use Rattle.std.proofs.lemmas.Bool.{cases_lt}
use Rattle.delos_types.specs.declared.entry.Entry.{Entry}
use Rattle.legal_journal.specs.Law.{Law}
use Rattle.legal_journal.specs.declared.events.Event.{Event}
use Rattle.legal_journal.specs.Journal.{IsLegal, log_at, state_of, tail_of, trim_of}
use Rattle.legal_journal.proofs.Legal.{sound}
use Rattle.journal_laws.specs.Changes.{Frees, raised}
use Rattle.journal_laws.proofs.Changes.{raised_free, trim_raised}
use Rattle.virtual_log.specs.Holding.{Holds}
use Rattle.engine_api.specs.declared.content.Content.{Content}
use Rattle.engine_api.specs.declared.content.Content.TheVariants as content
use Rattle.engine_api.specs.declared.content.Placed.{Placed}
use Rattle.engine_api.specs.Items.{unpack}
use Rattle.engine_api.specs.Acted.{unpack_all}
use Rattle.engine_api.specs.Members.{has_left, position_of}
use Rattle.base_engine.proofs.Showing.{held_below, shows_all}
use Rattle.log_laws.proofs.Membership.{least_upto, left_says, position_says, unpack_says}
use Rattle.turn_scopes.specs.Floors.{FloorIs}
use Rattle.turn_scopes.proofs.Bounds.{shown_below, trim_below}
use Rattle.script_text.specs.declared.line.Admin.TheVariants.{Alive, Retire}
use Rattle.script_text.specs.declared.asks.NamedLine.{NamedLine}
use Rattle.run_laws.proofs.Members.{among-map, contained-among, contains-among}
use Rattle.node_lines.specs.declared.lines.Looked.{Looked}
use Rattle.node_lines.specs.declared.lines.Looked.TheVariants as looked
use Rattle.node_lines.specs.Workers.{IsSaid, MayRun, appended_by}
use Rattle.node_lines.proofs.Cleaning.{at_index}
use Rattle.node_lines.proofs.Own.{reported_by}
use Rattle.node_lines.proofs.Saying.{left_said, position_said}
use Rattle.node_course.specs.Script.{AreLines}
use Rattle.node_course.specs.Moments.{NodeCourse, moment}
use Rattle.node_course.specs.Played.{Came}
use Rattle.node_course.specs.Reporting.{StandsThere}
use Rattle.node_course.specs.Telling.{AreAsked, AskedBy, AskedSo, IsTrim, SaysBelow, TellsAtLeast}
use Rattle.node_course.specs.Joined.{AreJoined, GoesFirst, IsNotBehind}
use Rattle.node_course.proofs.Keeping.{own_upto}
use Rattle.node_course.proofs.Lines.{phase_before}
use Rattle.node_course.proofs.Looks.{same_or_other}
use Rattle.node_course.proofs.Moments.{grows_both, moment_now}
use Rattle.node_course.proofs.Parts.{moment_is, node_there, run_upto}
use Rattle.node_course.proofs.Stands.{trim_rises}
use Rattle.node_course.proofs.Told.{asked_wider, told_asked}
use Rattle.node_course.proofs.Trimmed.{before_legal, early_legal, left_by, tells_less, trim_began, trim_ended}
use Rattle.node_course.proofs.Turning.{member_above}

-- What allowed a trim stands in the log

module _ (law : Law) (low : (log : List Entry) (n : ℕ) → law.floor log n → n ≤ length log) (seen : List Event) (legal : IsLegal law seen) where
  -- what was shown is held
  shown_held : (pos : ℕ) (e : Entry) → (state_of seen).shown pos ≡ Some e → Holds seen pos e
  shown_held pos e shown =
      let w = state_of seen in
      let ok = sound law seen legal in
      let trimmed = trim_below law low seen legal in
      let below : pos < tail_of w = ⊎_elim (λ (under : pos < trim_of w). omega (arith, under, trimmed)) (λ (at : log_at w pos ≡ Some e). shown_below (length law.shelf) w pos e ok at) (ok.was_shown pos e shown) in
      let x = held_below law low seen pos legal below in
      subst (Holds seen pos) (same x.0 (sym (shows_all law low seen pos x.0 legal x.1) ∙ shown)) x.1
    where
      same : (x : Entry) → Some x ≡ Some e → x ≡ e
      same x is = cc

  -- so what it says stands there
  freed_stands : (trim : ℕ) (f : Frees law.floor seen trim) (p : Placed) → Contains (unpack_all 0 f.log) p → StandsThere seen p.content
  freed_stands trim f p has =
      let e = unpack_says f.log p has in
      let shown = f.shows e.1.0 e.1.1 ∙ at_index f.log e.1.0 e.0 e.1.1 e.1.2 in
      let says : Contains (map (λ (q : Placed). q.content) (unpack 0 e.0)) e.2.content = contains-among (map (λ (q : Placed). q.content) (unpack 0 e.0)) e.2.content (among-map (λ (q : Placed). q.content) (unpack 0 e.0) e.2 (contained-among (unpack 0 e.0) e.2 e.3)) in
      record { at = e.1.0; entry = e.0; held = shown_held e.1.0 e.0 shown; says = subst (Contains (map (λ (q : Placed). q.content) (unpack 0 e.0))) e.4 says }

  -- A node that hadn't left, and had reported no more than this: the log isn't trimmed further.
  module _ (nodes : ℕ) (is : FloorIs law.floor nodes) (node : ℕ) (least : 1 ≤ node) (most : node ≤ nodes) (trim : ℕ) (stood : (x : Content) → StandsThere seen x → SaysBelow trim node x) where
    freed_low : (n : ℕ) → Frees law.floor seen n → n ≤ trim
    freed_low n f = by (has_left (unpack_all 0 f.log) node) refl
      where
        by : (b : Bool) → has_left (unpack_all 0 f.log) node ≡ b → n ≤ trim
        by true left =
            let q = left_says (unpack_all 0 f.log) node left in
            absurd (stood (content.Leave node) (subst (StandsThere seen) q.2 (freed_stands n f q.0 q.1)) refl)
        by false stays =
            let free = (is.only f.log n f.free).least in
            let upto = least_upto nodes node (unpack_all 0 f.log) least most stays in
            ⊎_elim
            (λ (none : position_of (unpack_all 0 f.log) node ≡ 0). omega (arith, free, upto, none))
            (λ (q : (p : Placed) × Contains (unpack_all 0 f.log) p × (p.content ≡ content.Alive node (position_of (unpack_all 0 f.log) node))).
            let low = stood (content.Alive node (position_of (unpack_all 0 f.log) node)) (subst (StandsThere seen) q.2 (freed_stands n f q.0 q.1)) refl in
            omega (arith, free, upto, low))
            (position_says (unpack_all 0 f.log) node)

    pub trim_low : trim_of (state_of seen) ≤ trim
    trim_low = ⊎_elim (λ (none : trim_of (state_of seen) ≡ 0). omega (arith, none))
        (λ (h : Contains (raised seen) (trim_of (state_of seen))). ⊎_elim (λ (none : trim_of (state_of seen) ≡ 0). omega (arith, none)) (λ (f : Frees law.floor seen (trim_of (state_of seen))). freed_low (trim_of (state_of seen)) f)
        (raised_free law seen (trim_of (state_of seen)) legal h))
        (trim_raised law seen legal)

module _ (law : Law) (run_may : MayRun law) (lines : List NamedLine) (home : ℕ → ℕ) (nodes : ℕ) (run : NodeCourse) (looks : List (Option Looked)) (courses : ℕ → NodeCourse) (are : AreLines lines home nodes) (join : AreJoined law lines home nodes run looks courses) (is : FloorIs law.floor nodes) where
  -- as a phase began, lines of earlier phases had asked a node for what it had told of itself
  asked_then : (k : ℕ) → 1 ≤ k → k ≤ nodes → (p : ℕ) → AreAsked lines looks k (λ i l. l.phase < p) (moment run p)
  asked_then k least most p =
      let c = courses k in
      let did = join.did k least most in
      subst (AreAsked lines looks k (λ i l. l.phase < p)) (moment_is law lines home nodes run looks courses join k least most p)
      (⊎_elim
      (λ (high : c.phase < p).
      subst (AreAsked lines looks k (λ i l. l.phase < p)) (sym (moment_now c p (let long = did.long in omega (arith, high, long))))
      (told_asked lines looks k (λ i l. l.phase < p) c.seen (λ i l look come other. let early = did.ahead i l look come in omega (arith, early, high)) did.told))
      (λ (low : p ≤ c.phase). did.asked p low)
      (cases_lt c.phase p))

  module _ (n j : ℕ) (l : NamedLine) (trim : ℕ) (come : Came lines looks n j l (looked.Trimmed trim)) where
    there : (1 ≤ n) × (n ≤ nodes)
    there = node_there law lines home nodes run looks courses are join n j l (looked.Trimmed trim) come

    t : IsTrim lines looks nodes n (courses n) j l trim
    t = (join.did n there.0 there.1).trims j l trim come

    legal : IsLegal law t.early
    legal = early_legal law lines home nodes run looks courses join n there.0 there.1 j l trim t

    -- what was trimmed before it by lines that it is behind isn't more
    pub trim_rises_to : (k i : ℕ) (m : NamedLine) (less : ℕ) → Came lines looks k i m (looked.Trimmed less) → GoesFirst i m j l → less ≤ trim
    trim_rises_to k i m less came first =
        let low = trim_low law run_may.low t.before (before_legal law lines home nodes run looks courses join n there.0 there.1 j l trim t) nodes is t.lowest.node t.lowest.least t.lowest.most trim t.lowest.stood in
        let before = by first in
        omega (arith, low, before)
      where
        by : GoesFirst i m j l → less ≤ trim_of (state_of t.before)
        by (inl early) =
            let here = node_there law lines home nodes run looks courses are join k i m (looked.Trimmed less) came in
            let s = (join.did k here.0 here.1).trims i m less came in
            let up = grows_both s.early (moment run (m.phase + 1)) t.before (trim_ended law lines home nodes run looks courses join k here.0 here.1 i m less s)
            (grows_both (moment run (m.phase + 1)) (moment run l.phase) t.before (run_upto law lines home nodes run looks courses join n there.0 there.1 (m.phase + 1) l.phase (omega (arith, early)))
            (trim_began law lines home nodes run looks courses join n there.0 there.1 j l trim t)) in
            let rises = trim_rises law s.early t.before up.0 up.1 (before_legal law lines home nodes run looks courses join n there.0 there.1 j l trim t) in
            let upto = s.upto in
            omega (arith, upto, rises)
        by (inr own) = t.earlier i m less (record { is = came.is; own = own.0 ∙ come.own; looked = came.looked }) own.1

    module _ (k : ℕ) (least : 1 ≤ k) (most : k ≤ nodes) where
      abbrev These : ℕ → NamedLine → Type 0
      These = IsNotBehind j l

      -- what the node had told of itself by then, lines asked that aren't behind this one
      asked_of : AreAsked lines looks k These t.early
      asked_of e p own among = ⊎_elim
          (λ (same : k ≡ n).
          let so : AskedSo lines looks n (λ i m. i < j) p.content = t.asked e p (subst (λ who. Contains (appended_by who t.early) e) same own) among in
          subst (λ who. AskedSo lines looks who These p.content) (sym same)
          (asked_wider lines looks looks n (λ i m. i < j) These (λ i m look came. came)
          (λ i m look came early. (phase_before lines home nodes are i j m l came.is come.is (omega (arith, early)), λ at_node. early)) p.content so))
          (λ (other : k ≡ n → ⊥).
          let up = trim_ended law lines home nodes run looks courses join n there.0 there.1 j l trim t in
          let so : AskedSo lines looks k (λ i m. m.phase < l.phase + 1) p.content = asked_then k least most (l.phase + 1) e p (own_upto k t.early (moment run (l.phase + 1)) up e own) among in
          asked_wider lines looks looks k (λ i m. m.phase < l.phase + 1) These (λ i m look came. came)
          (λ i m look came early. (omega (arith, early), λ at_node. absurd (other (sym came.own ∙ (at_node ∙ come.own))))) p.content so)
          (same_or_other k n)

      abbrev Told : Type 0
      Told = (trim ≡ 0) ⊎ (AskedBy lines looks k These Retire (λ look. Unit {0}) ⊎ AskedBy lines looks k These Alive (TellsAtLeast trim))

      reported : (position : ℕ) → trim ≤ position → IsSaid t.early (content.Alive k position) → AskedBy lines looks k These Alive (TellsAtLeast trim)
      reported position low s =
          let own = reported_by law law run_may (λ user e h. h) t.early legal k position s.entry s.placed s.appended_is s.among s.is in
          let h = subst (AskedSo lines looks k These) s.is (asked_of s.entry s.placed own s.among) in
          let a = h.by in
          record { by = record { at = a.at; line = a.line; look = a.look; came = a.came; asks = a.asks; so = tells_less trim position a.look low a.so }; these = h.these }

      freed : (m : ℕ) → trim ≤ m → Frees law.floor t.early m → Told
      freed m low f = by (has_left (unpack_all 0 f.log) k) refl
        where
          by : (b : Bool) → has_left (unpack_all 0 f.log) k ≡ b → Told
          by true left =
              let s = left_said t.early f.log f.each k left in
              inr (inl (subst (AskedSo lines looks k These) s.is (asked_of s.entry s.placed (left_by law run_may t.early k legal s) s.among)))
          by false stays =
              let above = member_above law nodes is t.early legal k least most m f stays in
              ⊎_elim (λ (none : position_of (unpack_all 0 f.log) k ≡ 0). inl (omega (arith, above, none, low)))
              (λ (s : IsSaid t.early (content.Alive k (position_of (unpack_all 0 f.log) k))). inr (inr (reported (position_of (unpack_all 0 f.log) k) (omega (arith, above, low)) s)))
              (position_said t.early f.log f.each k)

      -- where the log was trimmed, the node had left, or had reported as much, and a line asked it to that isn't behind this one
      pub trim_allowed : Told
      trim_allowed =
          let upto = t.upto in
          ⊎_elim (λ (none : trim_of (state_of t.early) ≡ 0). inl (omega (arith, upto, none)))
          (λ (h : Contains (raised t.early) (trim_of (state_of t.early))).
          ⊎_elim (λ (none : trim_of (state_of t.early) ≡ 0). inl (omega (arith, upto, none))) (λ (f : Frees law.floor t.early (trim_of (state_of t.early))). freed (trim_of (state_of t.early)) upto f)
          (raised_free law t.early (trim_of (state_of t.early)) legal h))
          (trim_raised law t.early legal)
