-- The next phase begins: what is known of a node that rests holds still.
use Rattle.std.proofs.Common.{◌≡◌, refl, sym, ap, ◌∙◌, subst, inl, ◌⊎◌, inr, ℕ, ◌+◌, ◌<◌, ◌≤◌, List, [], ◌∷◌, Option, Contains, arith, length-append}
use Rattle.std.specs.List.{AllByRecursion}
use Rattle.std.proofs.lemmas.Bool.{cases_lt}
use Rattle.delos_types.specs.declared.entry.Entry.{Entry}
use Rattle.legal_journal.specs.Law.{Law}
use Rattle.replica_api.specs.Replica.{Meaning}
use Rattle.base_engine.specs.declared.outbox.Given.{Given}
use Rattle.script_text.specs.declared.asks.NamedLine.{NamedLine}
use Rattle.turn_scopes.specs.Seats.{SeatView}
use Rattle.node_lines.specs.declared.desk.Desk.{Desk}
use Rattle.node_lines.specs.declared.lines.Looked.{Looked}
use Rattle.node_lines.specs.declared.lines.Looked.TheVariants as looked
use Rattle.node_lines.specs.UnderWay.{HasRank}
use Rattle.node_lines.specs.Workers.{Grows, OwnWithin, appended_by, sent_of, sent_by}
use Rattle.node_lines.proofs.Own.{own_may}
use Rattle.run_laws.specs.Ended.{CameTo, session_in}
use Rattle.node_course.specs.Script.{BeginsAt, asked_before}
use Rattle.node_course.specs.Moments.{NodeCourse, moment, next_phase}
use Rattle.node_course.specs.Telling.{AreAsked}
use Rattle.node_course.specs.Course.{IsCourse}
use Rattle.node_course.specs.Workers.{Rests}
use Rattle.node_course.proofs.Asking.{asked_early}
use Rattle.node_course.proofs.Held.{hold_on}
use Rattle.node_course.proofs.Legal.{worker_within}
use Rattle.node_course.proofs.Moments.{moment_next, moment_now}
use Rattle.node_course.proofs.Sent.{sent_low}
use Rattle.node_course.proofs.Growing.{Grown, desk_same, ended_grows, grown_next, played_grows}
use Rattle.node_course.proofs.Replacing.{replaced_on}
use Rattle.node_course.proofs.Told.{stand_then, told_asked, trim_on}

module _ (law : Law) (meaning : Meaning) (lines : List NamedLine) (home : ℕ → ℕ) (nodes : ℕ) (c : NodeCourse) (looks : List (Option Looked)) (n from : ℕ) (seat : SeatView) (desks : List Desk) (begins : BeginsAt lines from (c.phase + 1)) (r : Rests law meaning lines home nodes c looks n from (c.phase + 1) seat desks) where
  abbrev then' : NodeCourse
  then' = next_phase c

  abbrev ok : IsCourse law lines nodes n c looks
  ok = r.node.did

  grown : Grown law c then'
  grown = grown_next law c ok.rise ok.legal

  -- by now the node sent what its lines so far ask, and no more
  sent_asked : (s : ℕ) → sent_of (sent_by desks) s ≤ asked_before lines s (c.phase + 1)
  sent_asked s = sent_low desks s (asked_before lines s (c.phase + 1))
      (λ d at.
      let few = (r.node.ok.each s d at).few in
      let asked = (r.node.each s d at).asked in
      let early = asked_early lines n s from (c.phase + 1) begins in
      omega (arith, few, asked, early))

  now : (s q : ℕ) (e : Entry) → Contains (appended_by n c.seen) e → HasRank s q e → q ≤ asked_before lines s (c.phase + 1)
  now s q e there has =
      let within = own_may (record law { may = OwnWithin n law.may (sent_by desks) }) c.seen n e (worker_within law meaning n c.seen seat desks r.node.ok) there in
      let low = within.1 refl s q has in
      let asked = sent_asked s in
      omega (arith, low, asked)

  began : (p s q : ℕ) (e : Entry) → p ≤ c.phase + 1 → Contains (appended_by n (moment then' p)) e → HasRank s q e → q ≤ asked_before lines s p
  began p s q e low there has = by (cases_lt c.phase p)
    where
      was : Contains (appended_by n (moment c p)) e
      was = subst (λ m. Contains (appended_by n m) e) (moment_next c p) there

      by : (c.phase < p) ⊎ (p ≤ c.phase) → q ≤ asked_before lines s p
      by (inr old) = ok.began p s q e old was has
      by (inl high) =
          let same : c.phase + 1 ≡ p = omega (arith, low, high) in
          subst (λ k. q ≤ asked_before lines s k) same (now s q e (subst (λ m. Contains (appended_by n m) e) (moment_now c p (let long = ok.long in omega (arith, high, long))) was) has)

  asked : (p : ℕ) → p ≤ c.phase + 1 → AreAsked lines looks n (λ i l. l.phase < p) (moment then' p)
  asked p low = subst (AreAsked lines looks n (λ i l. l.phase < p)) (sym (moment_next c p)) (by (cases_lt c.phase p))
    where
      by : (c.phase < p) ⊎ (p ≤ c.phase) → AreAsked lines looks n (λ i l. l.phase < p) (moment c p)
      by (inr old) = ok.asked p old
      by (inl high) =
          subst (AreAsked lines looks n (λ i l. l.phase < p)) (sym (moment_now c p (let long = ok.long in omega (arith, high, long))))
          (told_asked lines looks n (λ i l. l.phase < p) c.seen (λ i l look come other. let early = ok.ahead i l look come in omega (arith, early, high)) ok.told)

  did : IsCourse law lines nodes n then' looks
  did = record {
    legal = ok.legal;
    long = length-append c.begins (c.seen ∷ []) ∙ ap (λ k. k + 1) ok.long;
    rise = λ p. subst (λ m. Grows m (moment then' (p + 1))) (sym (moment_next c p)) (subst (Grows (moment c p)) (sym (moment_next c (p + 1))) (ok.rise p));
    began = began;
    size = ok.size;
    here = ok.here;
    events = ok.events;
    ahead = λ i l look come. let low = ok.ahead i l look come in omega (arith, low);
    replaced = replaced_on law c then' grown lines looks n ok.ahead ok.replaced looks (λ i l look come. come) refl;
    seals = ok.seals;
    told = ok.told;
    asked = asked;
    behind = ok.behind;
    stand = λ i l look come. stand_then law c then' grown lines looks looks nodes n l look (ok.stand i l look come);
    reports = hold_on law c then' grown lines looks looks n (λ i l look come. come) ok.reports;
    trims = λ j l trim come. trim_on law c then' grown lines looks looks nodes n (λ i m look come'. come') j l trim (ok.ahead j l (looked.Trimmed trim) come) (λ i m look come' low. come') (ok.trims j l trim come);
  }

  -- Between two phases nothing is halted, and nothing was given.
  pub rests_then : Rests law meaning lines home nodes then' looks n from (c.phase + 1) seat desks
  rests_then = record {
    node = record {
      ok = r.node.ok;
      did = did;
      nodes_is = r.node.nodes_is;
      order = r.node.order;
      early = λ i l low at own. let before = begins.before i l at low in omega (arith, before);
      each = λ s d at.
          let h = r.node.each s d at in
          record {
            asked = h.asked;
            ended = λ a e. ended_grows law c then' grown lines n (c.phase + 1) (c.phase + 1) s seat.node.replica.cursor d d a (omega arith) e (desk_same c then' seat.node.replica.cursor s d refl) (h.ended a e);
            here = h.here;
            halted = λ cause none stop. absurd (let k = (h.halted cause none stop).asked in omega (arith, k));
            held = h.held;
          };
      quiet = r.node.quiet;
      given = subst (AllByRecursion (λ (g : Given). CameTo c.faults g.cause n (c.phase + 1))) (sym r.none_given) tt;
      waiting = r.node.waiting;
      played = λ i l low at own.
          played_grows law c then' grown lines (c.phase + 1) (c.phase + 1) seat.node.replica.cursor seat.node.replica.cursor n desks desks looks looks i l.phase l.asks
          (let before = begins.before i l at low in omega (arith, before)) (λ over. over) (omega arith) refl (λ d get. (d, get, desk_same c then' seat.node.replica.cursor (session_in l.asks) d refl)) (r.node.played i l low at own);
      reports = r.node.reports;
      stores = r.node.stores;
    };
    none_given = r.none_given;
  }
