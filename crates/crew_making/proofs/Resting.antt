-- A run before its first line.
use Rattle.std.proofs.Common.{◌≡◌, refl, sym, ap, ◌∙◌, subst, ℕ, zero, suc, ◌+◌, ◌≤◌, max, if◌then◌else◌, Bool, true, false, List, [], ◌∷◌, Option, Some, None, length, arith}
use Rattle.std.specs.Prelude.{Contains, get_or, slice_get, All}
use Rattle.std.proofs.lemmas.Option.{slice_get_within}
use Rattle.std.specs.List.{AllByRecursion}
use Rattle.legal_journal.specs.Law.{Law}
use Rattle.legal_journal.specs.declared.events.Event.{Event}
use Rattle.engine_api.specs.Acted.{asked_in}
use Rattle.engine_api.specs.Order.{gap_from}
use Rattle.engine_steps.specs.declared.layout.Kept.{Kept}
use Rattle.base_engine.specs.Settling.{OutboxView, cause_in}
use Rattle.replica_api.specs.Replica.{Meaning}
use Rattle.script_text.specs.declared.asks.NamedLine.{NamedLine}
use Rattle.script_text.specs.declared.faults.FaultLine.{FaultLine}
use Rattle.turn_scopes.specs.Seats.{SeatView, node_of}
use Rattle.node_lines.specs.declared.desk.Desk.{Desk}
use Rattle.node_lines.specs.UnderWay.{IsGiven, ranks_in}
use Rattle.node_lines.specs.declared.lines.Looked.{Looked}
use Rattle.node_lines.specs.Moving.{CanPack, IsQuiet, HasNoneOf}
use Rattle.node_lines.specs.Desks.{HasAnswers, DeskOk}
use Rattle.node_lines.specs.Workers.{IsOfSession, Sends, WorkerOk, sent_by}
use Rattle.node_lines.proofs.Scoping.{seat_allowed, sends_more}
use Rattle.node_lines.proofs.Widening.{seat_wider}
use Rattle.node_course.specs.Script.{AreLines}
use Rattle.node_course.specs.Moments.{first_course}
use Rattle.node_course.specs.Workers.{HasNotBegun, Rests}
use Rattle.node_course.proofs.Opening.{node_opens}
use Rattle.node_crew.specs.Crews.{AreAtWork, CrewRests, CrewStands}
use Rattle.node_crew.proofs.Working.{at_work_none}
use Rattle.crew_making.specs.Fresh.{IsFreshDesk, IsNewWorker, AreNewWorkers}

-- Sessions

no_answers : (seen : List Event) (cursor s : ℕ) (answers : List Kept) → answers ≡ [] → HasAnswers seen cursor s answers
no_answers seen cursor s answers none = subst (HasAnswers seen cursor s) (sym none) (record {
  log = [];
  front = λ pos e at. absurd (cc);
  upto = omega arith;
  are = record {
    each = λ i k at. absurd (cc);
    below = (let first : gap_from (asked_in 0 []) s 1 ≡ 1 = refl in omega (arith, first));
  };
})

module _ (seat : SeatView) (none_kept : seat.node.replica.kept ≡ []) (none_sent : seat.node.outbox ≡ record { entries = []; given = []; unsettled = None }) where
  none_given : (s : ℕ) → IsGiven [] seat.node.outbox.entries seat.node.replica.kept s 0
  none_given s =
      subst (λ (o : OutboxView). IsGiven [] o.entries seat.node.replica.kept s 0) (sym none_sent)
      (subst (λ k. IsGiven [] [] k s 0) (sym none_kept)
      (record { queued = 0; few = omega arith; waiting = refl; under_way = λ r least most. absurd (omega (arith, least, most)) }))

  quiet : (s : ℕ) → IsQuiet (node_of seat []) s
  quiet s = record {
    outstanding = subst (λ (o : OutboxView). All (HasNoneOf s) o.entries) (sym none_sent) (λ k d low. absurd (omega (arith, low)));
    waiting = subst (λ k. ranks_in s k ≡ []) (sym none_kept) refl;
    free = subst (λ (o : OutboxView). cause_in s o.given ≡ None) (sym none_sent) refl;
  }

  desk_ok : (s : ℕ) (d : Desk) → s ≤ 63 → IsFreshDesk s d → DeskOk (node_of seat []) s d
  desk_ok s d known h = record {
    session = h.session_is;
    known = known;
    few = omega (arith, h.none_sent);
    near = omega (arith, h.none_sent);
    acted = no_answers [] seat.node.replica.cursor s d.answers.items h.no_answers;
    ended = λ _. h.not_ended;
    given = λ _ free. (h.none_sent ∙ sym h.none_asked, subst (IsGiven [] seat.node.outbox.entries seat.node.replica.kept s) (sym h.none_sent) (none_given s));
  }

-- a store that is down failed once
struck : (d : Bool) (f : ℕ) → f ≡ (if d then 1 else 0) → 1 ≤ (if d then f else max f 1)
struck true f counted = omega (arith, counted)
struck false f counted = omega arith

none_in : {X : Type 0} (x : X) → Contains [] x → ⊥
none_in x h = omega (arith, h.1)

-- nothing has happened as any phase begins
no_moment : (p : ℕ) → ◌≡◌ {A = List Event} (get_or ([] ∷ []) p []) []
no_moment zero = refl
no_moment (suc p) = refl

-- A node, and the run

module _ (law : Law) (lines : List NamedLine) (faults : List FaultLine) (looks : List (Option Looked)) (size : length looks ≡ length lines) (none : AllByRecursion (λ look. look ≡ None) looks) (meaning : Meaning) where
  module _ (nodes n : ℕ) (seat : SeatView) (desks : List Desk) (w : IsNewWorker (record law { may = Sends n law.may [] [] }) meaning nodes n seat desks) where
    kept : seat.node.replica.kept ≡ []
    kept = w.waits.replica.fresh.nothing_waits

    known : (s : ℕ) (d : Desk) → slice_get desks s ≡ Some d → s ≤ 63
    known s d at = let low = slice_get_within desks s d at in omega (arith, low, w.desks_are.size)

    worker_ok : WorkerOk law meaning n [] seat desks
    worker_ok = record {
      who_is = w.waits.who_is;
      origin = w.waits.replica.fresh.origin_is;
      ok = seat_wider (record law { may = Sends n law.may [] [] }) (record law { may = Sends n law.may (sent_by desks) [] }) (record { may = λ user e k. sends_more n law.may [] (sent_by desks) [] (λ s. omega arith) user e k; floor = λ log m k. k; shelf = refl }) meaning [] seat w.waits.ok;
      packs = subst CanPack (sym kept) (record { each = λ k d low. absurd (omega (arith, low)); few = omega arith });
      waits = subst (All IsOfSession) (sym kept) (λ k d low. absurd (omega (arith, low)));
      size = w.desks_are.size;
      each = λ s d at. desk_ok seat kept w.waits.outbox s d (known s d at) (w.desks_are.each s d at);
      home = λ s d at some. let asked = (w.desks_are.each s d at).none_asked in absurd (omega (arith, asked, some));
    }

    has_not_begun : HasNotBegun seat desks
    has_not_begun = record {
      struck = struck seat.node.replica.down seat.node.replica.faults w.waits.replica.counted;
      given = ap (λ (o : OutboxView). o.given) w.waits.outbox;
      quiet = quiet seat kept w.waits.outbox;
      asked = λ s d at. (w.desks_are.each s d at).none_asked;
      answered = λ s d at. (w.desks_are.each s d at).not_ended;
      stopped = λ s d at. (w.desks_are.each s d at).goes_on;
    }

    worker_rests : (home : ℕ → ℕ) → Rests law meaning lines home nodes first_course looks n 0 0 seat desks
    worker_rests home = node_opens law meaning lines home nodes looks n seat desks size none w.waits.nodes_is has_not_begun worker_ok

  pub crew_rests : {A : Type 0} (home : ℕ → ℕ) (seat : A → SeatView) (desks : A → List Desk) (workers : List A) → AreLines lines home (length workers)
      → AreNewWorkers (λ n. record law { may = Sends n law.may [] [] }) meaning (length workers) seat desks workers → CrewRests law meaning lines faults 0 0 [] looks seat desks workers
  crew_rests home seat desks workers are new = record {
    home = home;
    courses = λ n. first_course;
    begins = [] ∷ [];
    lines_are = are;
    ends = record { before = λ i l at low. absurd (omega (arith, low)); behind = λ i l at high. omega arith };
    long = refl;
    made = λ i l at low.
        subst (λ j. AreAtWork lines faults l.phase j (get_or ([] ∷ []) (l.phase + 1) [])) (sym (no_moment l.phase))
        (subst (AreAtWork lines faults l.phase []) (sym (no_moment (l.phase + 1))) (at_work_none lines faults l.phase []));
    seals = λ e has is. absurd (none_in e has);
    behind = λ e p has among. absurd (none_in e has);
    seen = λ n least most. record { phase_is = refl; begins_are = refl; seen_is = refl };
    each = λ j w at. worker_rests (length workers) (j + 1) (seat w) (desks w) (new j w at) home;
  }

pub new_stands : {A : Type 0} (law : Law) (meaning : Meaning) (nodes : ℕ) (seat : A → SeatView) (desks : A → List Desk) (workers : List A)
    → AreNewWorkers (λ n. record law { may = Sends n law.may [] [] }) meaning nodes seat desks workers → CrewStands law meaning [] seat workers
new_stands law meaning nodes seat desks workers new = λ j w at. seat_allowed law (j + 1) [] meaning [] (seat w) (new j w at).waits.ok
