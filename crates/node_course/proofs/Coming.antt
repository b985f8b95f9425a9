-- The causes that a node was given came to it.
use Rattle.std.proofs.Common.{◌≡◌, refl, sym, subst, ℕ, List, [], ◌∷◌, ◌++◌, Some, Bool, true, false, cond, map}
use Rattle.std.specs.List.{AllByRecursion}
use Rattle.delos_types.specs.declared.cause.Cause.{Cause}
use Rattle.legal_journal.specs.Law.{Law}
use Rattle.legal_journal.specs.declared.events.Event.{Event}
use Rattle.base_engine.specs.declared.outbox.Given.{Given}
use Rattle.base_engine.specs.Settling.{cause_in, has_session}
use Rattle.log_laws.proofs.Pairs.{all-append}
use Rattle.node_lines.specs.Moving.{causes_of}
use Rattle.run_laws.specs.Ended.{CameTo}
use Rattle.run_laws.proofs.Members.{Among, all-of, among-left, among-map, among-right, contains-among}
use Rattle.node_course.specs.Moments.{NodeCourse}
use Rattle.node_course.proofs.Advance.{advanced, fault_at}
use Rattle.node_course.proofs.Growing.{Grown, given_grows}

pub came_at : (c : NodeCourse) (n : ℕ) (came : List Cause) (journal : List Event) (when : ℕ → ℕ) (k : Cause) → Among came k → CameTo (advanced c n came journal when).faults k n c.phase
came_at c n came journal when k m = record {
  fault = fault_at n c.phase k;
  among = contains-among (c.faults ++ map (fault_at n c.phase) came) (fault_at n c.phase k) (among-right c.faults (map (fault_at n c.phase) came) (fault_at n c.phase k) (among-map (fault_at n c.phase) came k m));
  cause_is = refl;
  node_is = refl;
  phase_is = refl;
}

-- the causes that were given before, and since
pub given_then : (law : Law) (c : NodeCourse) (n : ℕ) (came : List Cause) (journal : List Event) (when : ℕ → ℕ) (old more new : List Given) → Grown law c (advanced c n came journal when)
    → new ≡ old ++ more → ((g : Given) → Among more g → Among came g.cause) → AllByRecursion (λ g. CameTo c.faults g.cause n c.phase) old → AllByRecursion (λ g. CameTo (advanced c n came journal when).faults g.cause n c.phase) new
given_then law c n came journal when old more new grown is own h =
    let then' : NodeCourse = advanced c n came journal when in
    subst (AllByRecursion (λ (g : Given). CameTo then'.faults g.cause n c.phase)) (sym is)
    (all-append (λ (g : Given). CameTo then'.faults g.cause n c.phase) old more
    (given_grows law c then' grown n c.phase old h)
    (all-of (λ (g : Given). CameTo then'.faults g.cause n c.phase) more (λ g m. came_at c n came journal when g.cause (own g m))))

-- each cause that was given is one of them all
pub given_among : (given : List Given) (others : List Cause) (g : Given) → Among given g → Among (causes_of given others) g.cause
given_among given others g m = among-left (map (λ (x : Given). x.cause) given) others g.cause (among-map (λ (x : Given). x.cause) given g m)

-- a session's cause is one that was given
pub cause_came : (P : Cause → Type 0) (s : ℕ) (given : List Given) (k : Cause) → AllByRecursion (λ g. P g.cause) given → cause_in s given ≡ Some k → P k
cause_came P s [] k h e = absurd (cc)
cause_came P s (g ∷ given) k h e = by (has_session s g.sessions) (cause_came P s given k h.1) e
  where
    by : (b : Bool) → (cause_in s given ≡ Some k → P k) → cond b (Some g.cause) (cause_in s given) ≡ Some k → P k
    by true rest e = let same : g.cause ≡ k = cc in subst P same h.0
    by false rest e = rest e
