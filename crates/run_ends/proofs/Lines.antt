-- How the lines have ended once the nodes have closed.
use Rattle.std.proofs.Common.{◌≡◌, refl, sym, ap, ◌∙◌, subst, ◌⊎◌, inl, inr, ⊎_elim, ℕ, zero, suc, ◌+◌, ◌-◌, ◌<◌, ◌≤◌, ◌==◌, ◌&&◌, Bool, true, false, cond, List, [], ◌∷◌, Option, Some, None, IsSome, map, length, take, count_by, slice_get, nat_lt, arith, eq-eqb, length-take-le}
use Rattle.std.specs.List.{AllByRecursion, list_any}
use Rattle.std.specs.FinMap as finmap
use Rattle.std.proofs.lemmas.Bool.{and_from, and_parts, cases_lt}
use Rattle.std.proofs.lemmas.Bool.Decides.{nat_tests}
use Rattle.std.proofs.lemmas.List.{length-take}
use Rattle.std.proofs.lemmas.List.Sums.{count_by-le-length}
use Rattle.std.proofs.lemmas.Option.{slice_get_within}
use Rattle.delos_types.specs.declared.entry.Entry.{Entry}
use Rattle.delos_types.specs.declared.place.Place.{Place}
use Rattle.delos_types.specs.declared.cause.Cause.{Cause}
use Rattle.table_core.specs.declared.command.Query.{Query}
use Rattle.table_core.specs.declared.command.Found.{Found}
use Rattle.table_core.specs.declared.command.Reply.{Reply}
use Rattle.table_core.specs.Find.{find_in}
use Rattle.legal_journal.specs.Law.{Law}
use Rattle.legal_journal.specs.declared.events.Event.{Event}
use Rattle.legal_journal.specs.Journal.{IsLegal}
use Rattle.virtual_log.specs.Holding.{Holds}
use Rattle.engine_api.specs.declared.act.Act.{Act}
use Rattle.engine_api.specs.Acted.{asked_in, table_after}
use Rattle.engine_api.specs.Order.{gap_from}
use Rattle.engine_steps.specs.declared.layout.Kept.{Kept}
use Rattle.log_laws.specs.State.{acts_in}
use Rattle.replica_api.specs.Replica.{Meaning}
use Rattle.base_engine.specs.Reading.{IsFront}
use Rattle.script_text.specs.declared.line.Admin.{Admin}
use Rattle.script_text.specs.declared.line.Admin.TheVariants.{Extend, Alive, Retire, Trim}
use Rattle.script_text.specs.declared.line.Session.{Session}
use Rattle.script_text.specs.declared.asks.NamedLine.{NamedLine}
use Rattle.script_text.specs.declared.faults.FaultLine.{FaultLine}
use Rattle.script_text.specs.declared.asks.Asks.{Asks}
use Rattle.script_text.specs.declared.asks.Asks.TheVariants as asks
use Rattle.row_text.specs.declared.row.Row.{Row}
use Rattle.row_text.specs.declared.row.Outcome.{Outcome}
use Rattle.row_text.specs.declared.row.Outcome.TheVariants as out
use Rattle.fitting_run.specs.Answered.{session_asking}
use Rattle.fitting_run.specs.Lines.{is_of, logs_for}
use Rattle.fitting_run.specs.Outcomes.{answers, is_row_of}
use Rattle.log_laws.specs.Told.{IsTold}
use Rattle.node_lines.specs.declared.desk.Desk.{Desk}
use Rattle.node_lines.specs.Answered.{ActedSo, AreAllAnswers}
use Rattle.node_lines.specs.UnderWay.{HasRank}
use Rattle.node_lines.specs.declared.lines.Looked.{Looked}
use Rattle.node_lines.specs.declared.lines.Looked.TheVariants as looked
use Rattle.node_lines.specs.Workers.{IsHome, MayRun}
use Rattle.run_laws.specs.Ended.{AllAfter, CameOf, CameTo, HasLooked, HasReported, IsLeft, IsAtHome, IsPlaced, IsStoppedBy, IsUnread, LineEnded, Played, SessionEnd, act_of_rank, rank_in, session_in}
use Rattle.run_laws.proofs.Fronts.{front-acts}
use Rattle.run_laws.proofs.Members.{all-at, found-among}
use Rattle.run_laws.proofs.Placing.{is_rank}
use Rattle.node_course.specs.Script.{asked_before, asked_by, failure_of_look, logs_at}
use Rattle.node_course.specs.Moments.{tails}
use Rattle.node_course.specs.Reporting.{IsReport, ReportedSo}
use Rattle.node_course.specs.Leaving.{IsLeave, LeftSo}
use Rattle.node_course.specs.Desks.{HasActed, IsOfNode, IsUpTo, LoggedSo, LogsBefore, LookedSo, PlayedSo, SawSo, WasFree, WasStopped}
use Rattle.node_course.proofs.Behind.{report_low}
use Rattle.node_course.proofs.Legal.{worker_within}
use Rattle.node_course.proofs.Lines.{asked_home, at_get, count-cons, phase_before}
use Rattle.node_course.proofs.Ranks.{node_is_home, rank_counts, rank_low}
use Rattle.node_course.proofs.Sent.{acted_low}
use Rattle.node_course.proofs.Stood.{stood_asked}
use Rattle.node_course.proofs.Together.{played_run}
use Rattle.node_course.proofs.Versions.{begins_in_phase}
use Rattle.run_ends.specs.Closing.{HasClosed, WorkerEnd}
use Rattle.run_ends.specs.Rows.{AreRows, CanTell, CanTellLine, IsOfTable, IsRowOf, Tells, TellsIt, TellsPlace, desk_for, is_behind, played_of}
use Rattle.run_ends.specs.Ends.{answered_of, desk_in, desks_at}
use Rattle.run_ends.proofs.Turns.{all_after, any_map, count_map, lines_are, map_take, some_at, turn_is}
use Rattle.run_ends.proofs.Sessions.{AtHome, HasDesk, at_home, ended_at, ends_so, has_desk, legal as run_is_legal, size as looks_size, stopped_first, the_end}
use Rattle.run_ends.proofs.Placing.{acted_below, acted_on, acts_low, acts_not, appeared_by, fronts_agree}
use Rattle.run_ends.proofs.Reports.{has_reported, leave_within, report_within}

-- Counting

-- what q counts of a list stands among its first elements, where p counts it
module _ {A : Type 0} (p q : A → Bool) where
  none_first : (xs : List A) → count_by p (take 0 xs) ≡ 0
  none_first [] = refl
  none_first (x ∷ xs) = refl

  counted_no : (x : A) → (q x ≡ true → ⊥) → ◌≡◌ {A = ℕ} (cond (q x) 1 0) 0
  counted_no x never = by (q x) refl
    where
      by : (b : Bool) → q x ≡ b → ◌≡◌ {A = ℕ} (cond b 1 0) 0
      by true e = absurd (never e)
      by false e = refl

  counted_yes : (x : A) → (q x ≡ true → p x ≡ true) → cond (q x) 1 0 ≤ cond (p x) 1 0
  counted_yes x imply = by (q x) (p x) imply
    where
      by : (b c : Bool) → (b ≡ true → c ≡ true) → cond b 1 0 ≤ cond c 1 0
      by false c h = omega arith
      by true c h = let e : ◌≡◌ {A = ℕ} (cond c 1 0) 1 = ap {B = ℕ} (λ b. cond b 1 0) (h refl) in omega (arith, e)

  few_before : (xs : List A) (i : ℕ) → ((j : ℕ) (x : A) → slice_get xs j ≡ Some x → q x ≡ true → (p x ≡ true) × (j < i)) → count_by q xs ≤ count_by p (take i xs)
  few_before [] i each = omega arith
  few_before (x ∷ xs) zero each =
      let more = count-cons q x xs in
      let zero' = counted_no x (λ e. let k = (each 0 x refl e).1 in omega (arith, k)) in
      let rest = few_before xs zero (λ j y at e. absurd (let k = (each (suc j) y at e).1 in omega (arith, k))) in
      let none = none_first xs in
      omega (arith, more, zero', rest, none)
  few_before (x ∷ xs) (suc i) each =
      let a = count-cons q x xs in
      let b = count-cons p x (take i xs) in
      let one = counted_yes x (λ e. (each 0 x refl e).0) in
      let rest = few_before xs i (λ j y at e. let k = each (suc j) y at e in (k.0, let low = k.1 in omega (arith, low))) in
      omega (arith, a, b, one, rest)

-- a row that tells what comes of such a line answers it
answers_so : (d : Option Desk) (look : Option Looked) (a : Asks) (o : Outcome) → Tells d look a o → answers a o ≡ true
answers_so (Some d) look (asks.Logged s r command) (out.Placed place reply late) t = refl
answers_so (Some d) look (asks.Logged s r command) (out.Open cause) t = refl
answers_so (Some d) look (asks.Look s query) (out.Read after found) t = refl
answers_so (Some d) look (asks.Look s query) (out.Open cause) t = refl
answers_so None look (asks.Admin Extend) (out.Extended version start) t = refl
answers_so None look (asks.Admin Extend) (out.Moved version) t = refl
answers_so None look (asks.Admin Extend) out.NoSpare t = refl
answers_so None look (asks.Admin Extend) (out.Open cause) t = refl
answers_so None look (asks.Admin Alive) (out.Alive clean) t = refl
answers_so None look (asks.Admin Alive) (out.Open cause) t = refl
answers_so None look (asks.Admin Retire) out.Retired t = refl
answers_so None look (asks.Admin Retire) (out.Open cause) t = refl
answers_so None look (asks.Admin Trim) (out.Trimmed trim) t = refl
answers_so None look (asks.Admin Trim) (out.Open cause) t = refl
answers_so d look a o t = absurd t

same_some : {A : Type 0} (x y : A) → Some x ≡ Some y → x ≡ y
same_some x y e = cc

module _ (law : Law) (meaning : Meaning) (run : MayRun law) (lines : List NamedLine) (fault_lines : List FaultLine) (journal : List Event) (looks : List (Option Looked)) (log : List Entry) (workers : List WorkerEnd) (h : HasClosed law meaning lines fault_lines journal looks log workers) where
  abbrev Home : ℕ → Type 0
  Home s = AtHome law meaning lines fault_lines journal looks log workers h s

  abbrev Seat : (s : ℕ) → Home s → Type 0
  Seat s n = HasDesk law meaning lines fault_lines journal looks log workers h s n

  abbrev ends : ℕ → SessionEnd
  ends s = the_end law meaning lines fault_lines journal looks log workers h s

  abbrev end_so : ℕ → Desk → SessionEnd
  end_so s d = ends_so law meaning lines fault_lines journal looks log workers h s d

  first_stop : (s : ℕ) (n : Home s) (d : Seat s n) (k : Cause) → d.was.stopped ≡ Some k → (a : ℕ) × (d.was.answered ≡ Some a)
  first_stop s n d k stop = stopped_first law meaning lines fault_lines journal looks log workers h s n d k stop

  legal : IsLegal law h.run.seen
  legal = run_is_legal law meaning lines fault_lines journal looks log workers h

  size : length looks ≡ length lines
  size = looks_size law meaning lines fault_lines journal looks log workers h

  -- the log as far as it was played is a front of what is held
  front : IsFront Holds h.run.seen log
  front = subst (λ j. IsFront Holds j log) (sym h.seen_is) h.front

  -- what a node has applied is how the log begins
  begins_so : (s : ℕ) (n : Home s) (l : List Entry) → IsFront Holds h.run.seen l → length l ≤ n.worker.seat.node.replica.cursor → (length l ≤ length log) × (l ≡ take (length l) log)
  begins_so s n l was upto =
      let short : length l ≤ length log = let a = n.closed.short in omega (arith, a, upto) in
      (short, fronts_agree law h.run.seen l log legal was front short)

  -- no command of a phase or a later one was sent when that phase began
  sent_before : (i : ℕ) (l : NamedLine) (s phase : ℕ) → slice_get lines i ≡ Some l → logs_for s l ≡ true → phase ≤ l.phase → asked_before lines s phase < rank_in l.asks
  sent_before i l s phase at logs late =
      let before = few_before (logs_for s) (λ m. logs_for s m && nat_lt m.phase phase) lines i each in
      let home = asked_home lines h.home (length workers) h.lines_are s i in
      let node = node_is_home lines h.home (length workers) h.lines_are i s l at logs in
      let rank = rank_counts lines h.home (length workers) h.lines_are (h.home s) i s l at node logs in
      omega (arith, before, home, rank)
    where
      each : (j : ℕ) (m : NamedLine) → slice_get lines j ≡ Some m → (logs_for s m && nat_lt m.phase phase) ≡ true → (logs_for s m ≡ true) × (j < i)
      each j m there e =
          let parts = and_parts (logs_for s m) (nat_lt m.phase phase) e in (
            parts.0,
            ⊎_elim (λ (before : j < i). before)
                (λ (behind : i ≤ j).
                let up = phase_before lines h.home (length workers) h.lines_are i j l m at there behind in
                absurd (let low : m.phase < phase = grind (arith, nat_tests, parts.1) in omega (arith, low, up, late)))
                (cases_lt j i),
          )

  -- what stood in the log when a phase began is logged by a line of an earlier one
  pub early_line : (i : ℕ) (l : NamedLine) (s phase pos : ℕ) (e : Entry) → IsHome law.may s (h.home s) → slice_get lines i ≡ Some l → logs_for s l ≡ true → slice_get log pos ≡ Some e → HasRank s (rank_in l.asks) e → pos < tails h.run phase → l.phase < phase
  early_line i l s phase pos e own at logs there has low = ⊎_elim (λ (early : l.phase < phase). early)
      (λ (late : phase ≤ l.phase).
      let before = sent_before i l s phase at logs late in
      let begun : phase ≤ h.run.phase = let over = h.over i l at in omega (arith, over, late) in
      let asked = stood_asked law run.low lines h.home (length workers) h.run looks h.courses h.lines_are h.joined phase s (rank_in l.asks) pos e begun own (front pos e there) low has in
      absurd (omega (arith, before, asked)))
      (cases_lt l.phase phase)

  -- A line that logs a command

  module _ (i : ℕ) (l : NamedLine) (s r : ℕ) (n : Home s) (d : Seat s n) (at : slice_get lines i ≡ Some l) (logs : logs_for s l ≡ true) (rank : rank_in l.asks ≡ r) where
    within : i < length lines
    within = slice_get_within lines i l at

    over : l.phase < h.run.phase
    over = h.over i l at

    node : l.node ≡ h.home s
    node = node_is_home lines h.home (length workers) h.lines_are i s l at logs

    rank_is : r ≡ asked_by lines (h.home s) s i + 1
    rank_is = sym rank ∙ rank_counts lines h.home (length workers) h.lines_are (h.home s) i s l at node logs

    least : 1 ≤ r
    least = omega (arith, rank_is)

    asked : r ≤ asked_by lines (h.home s) s (length lines)
    asked = let low = rank_low lines h.home (length workers) h.lines_are (h.home s) i (length lines) s l at within node logs in omega (arith, low, rank)

    few : r ≤ length lines
    few =
        let most = count_by-le-length (logs_at (h.home s) s) (take (length lines) lines) in
        let size = length-take-le (length lines) lines (omega arith) in
        omega (arith, asked, most, size)

    -- the session's answers are all of its ranks that acted
    all : AreAllAnswers log s d.now.answers.items
    all = d.all (let is = d.stands.asked in omega (arith, asked, least, is))

    answered_is : d.now.answered ≡ d.was.answered
    answered_is = ap (λ (x : Desk). x.answered) d.rest

    stopped_is : d.now.stopped ≡ d.was.stopped
    stopped_is = ap (λ (x : Desk). x.stopped) d.rest

    -- no command of then or later was sent when its phase began
    sent_later : asked_before lines s l.phase < r
    sent_later = let k = sent_before i l s l.phase at logs (omega arith) in omega (arith, k, rank)

    module _ (so : LoggedSo h.run h.run.phase n.worker.seat.node.replica.cursor d.was l.phase s r) where
      -- it acted by the end of its phase, where it isn't above what was answered
      acted_so : (o : Option ℕ) → d.was.answered ≡ o → r ≤ answered_of lines o → HasActed h.run n.worker.seat.node.replica.cursor l.phase s r
      acted_so o is low = so.acted over (subst (λ x. IsUpTo x r) (sym is) (upto o low))
        where
          upto : (x : Option ℕ) → r ≤ answered_of lines x → IsUpTo x r
          upto None k = tt
          upto (Some a) k = k

      acts_there : HasActed h.run n.worker.seat.node.replica.cursor l.phase s r → r < gap_from (asked_in 0 log) s 1
      acts_there k =
          let b = begins_so s n k.log k.front k.within in
          acted_on log (length k.log) s r (subst (λ x. r < gap_from (asked_in 0 x) s 1) b.1 k.acted)

      -- its row tells where it was placed
      -- no more of its session acts than its desk sent
      module _ (own : IsHome law.may s (h.home s)) where
        acted_upto : gap_from (asked_in 0 log) s 1 ≤ d.was.sent + 1
        acted_upto =
            let seen = (h.joined.part (h.home s) (h.lines_are.there s) (h.lines_are.within s)).seen in
            acted_low law (h.home s) n.closed.was (h.courses (h.home s)).seen
            (worker_within law meaning (h.home s) (h.courses (h.home s)).seen n.worker.seat n.closed.was n.closed.rests.node.ok) s d.was d.was_there own log (subst (λ j. IsFront Holds j log) (sym seen) front)

      module _ (own : IsHome law.may s (h.home s)) (told : (log : List Entry) → AllByRecursion (λ a. IsTold a.reply) (acts_in log)) (place : Place) (reply : Option Reply) (late : Bool) (t : TellsPlace d.now r place reply late) where
        so_kept : ActedSo log s (t.index + 1) t.kept
        so_kept = all.each t.index t.kept t.at

        found : act_of_rank log s r ≡ Some so_kept.act
        found = subst (λ q. act_of_rank log s q ≡ Some so_kept.act) (sym t.rank) so_kept.found

        late_so : (o : Option ℕ) → is_behind o r ≡ nat_lt (answered_of lines o) r
        late_so None = let no : nat_lt (length lines) r ≡ false = grind (arith, nat_tests, few) in sym no
        late_so (Some a) = refl

        placed_from : tails h.run l.phase ≤ so_kept.act.place.pos
        placed_from =
            let x = appeared_by log s r least so_kept.act found in
            let up = x.4 in
            ⊎_elim
            (λ (below : x.0 < tails h.run l.phase).
            let begun : l.phase ≤ h.run.phase = let low = over in omega (arith, low) in
            let asked = stood_asked law run.low lines h.home (length workers) h.run looks h.courses h.lines_are h.joined l.phase s r x.0 x.1 begun own (front x.0 x.1 x.2) below x.3 in
            absurd (omega (arith, asked, sent_later)))
            (λ (high : tails h.run l.phase ≤ x.0). omega (arith, high, up))
            (cases_lt x.0 (tails h.run l.phase))

        placed_upto : r ≤ answered_of lines d.was.answered → so_kept.act.place.pos < tails h.run (l.phase + 1)
        placed_upto low =
            let k = acted_so d.was.answered refl low in
            let b = begins_so s n k.log k.front k.within in
            let below = acted_below log s r least so_kept.act found (length k.log) b.0 (subst (λ x. r < gap_from (asked_in 0 x) s 1) b.1 k.acted) in
            omega (arith, below, k.upto)

        placed : IsPlaced log (tails h.run) (end_so s d.was) l.phase s r place reply late
        placed = record {
          act = so_kept.act;
          found = found;
          place_is = t.place_is ∙ ap (λ (k : Kept). k.place) so_kept.is;
          reply_is = t.reply_is so_kept.act.reply (all-at (λ (a : Act). IsTold a.reply) (acts_in log) so_kept.act (told log) (found-among (is_rank s r) (acts_in log) so_kept.act found).0) (ap (λ (k : Kept). k.reply) so_kept.is);
          late_is = t.late_is ∙ ap (λ o. is_behind o r) answered_is ∙ late_so d.was.answered;
          from = placed_from;
          upto = placed_upto;
        }

        -- nothing of a later phase acts than that in which its session was stopped
        not_stopped : (k : Cause) → d.was.stopped ≡ Some k → h.run.when s < l.phase → ⊥
        not_stopped k stop earlier =
            let first = first_stop s n d k stop in
            let unsent = so.unsent first.0 first.1 earlier in
            let low = acts_low log s r least so_kept.act found in
            let most = acted_upto own in omega (arith, unsent, low, most)

      -- its row tells that it is open
      left : (cause : Cause) → length d.now.answers.items < r → d.now.stopped ≡ Some cause → IsLeft log (end_so s d.was) s r cause
      left cause high stop =
          let was : d.was.stopped ≡ Some cause = sym stopped_is ∙ stop in
          let gap = all.all in
          record {
            none = acts_not log s r least (omega (arith, gap, high));
            stopped = was;
            above = ⊎_elim (λ (above : answered_of lines d.was.answered < r). above)
                (λ (low : r ≤ answered_of lines d.was.answered). absurd (let acted = acts_there (acted_so d.was.answered refl low) in omega (arith, acted, gap, high)))
                (cases_lt (answered_of lines d.was.answered) r);
          }

      -- it is answered, or its session was stopped
      has_outcome : (r ≤ length d.now.answers.items) ⊎ IsSome d.now.stopped
      has_outcome = by d.was.answered refl
        where
          by : (o : Option ℕ) → d.was.answered ≡ o → (r ≤ length d.now.answers.items) ⊎ IsSome d.now.stopped
          by None is = inl (let acted = acts_there (so.acted over (subst (λ o. IsUpTo o r) (sym is) tt)) in let gap = all.all in omega (arith, acted, gap))
          by (Some a) is = inr (subst IsSome (sym (stopped_is ∙ (d.stands.ended a is).is)) refl)

      missed : answered_of lines d.was.answered < r → IsSome d.was.stopped × (h.run.when s ≤ l.phase)
      missed above = by d.was.answered refl above
        where
          by : (o : Option ℕ) → d.was.answered ≡ o → answered_of lines o < r → IsSome d.was.stopped × (h.run.when s ≤ l.phase)
          by None is high = absurd (omega (arith, high, few))
          by (Some a) is high =
              let ended = d.stands.ended a is in (
                subst IsSome (sym ended.is) refl,
                ⊎_elim (λ (early : l.phase < h.run.when s). absurd (let low = ended.earlier i l at logs early in omega (arith, low, rank, high)))
                    (λ (late : h.run.when s ≤ l.phase). late)
                    (cases_lt l.phase (h.run.when s)),
              )

  -- A line that was played

  -- what the node of a line was asked itself came to
  abbrev CameOfNode : ℕ → NamedLine → Admin → Type 0
  CameOfNode i l a = (look : Looked) × (slice_get looks i ≡ Some (Some look)) × IsOfNode a look × ReportedSo h.run.seen (tails h.run l.phase) (length log) l.node look × LeftSo h.run.seen (length log) l.node look

  own_home : (node : ℕ) (a : Asks) → IsAtHome h.home node a → IsSome (session_asking a) → node ≡ h.home (session_in a)
  own_home node (asks.Logged s r command) at some = at
  own_home node (asks.Look s query) at some = at
  own_home node (asks.Admin a) at some = absurd (cc)

  of_table : (s : ℕ) (n : Home s) (d : Seat s n) (i phase : ℕ) (query : Query) (look : Looked) → LookedSo lines h.run n.worker.seat.node.replica.cursor (h.home s) d.was i phase s query look → IsOfTable look
  of_table s n d i phase query (looked.Found after answer) so = tt
  of_table s n d i phase query (looked.Kept cause) so = tt
  of_table s n d i phase query (looked.Failed cause) so = tt
  of_table s n d i phase query (looked.Extended x) so = so
  of_table s n d i phase query (looked.Reported position) so = so
  of_table s n d i phase query looked.Left so = so
  of_table s n d i phase query (looked.Trimmed trim) so = so

  module _ (i : ℕ) (l : NamedLine) (line_at : slice_get lines i ≡ Some l) where
    -- at its session's desk, if it has one

    module _ (a : Asks) (is : l.asks ≡ a) where
      known : session_in a < 64
      known = let low = at_get (λ (m : NamedLine). session_in m.asks ≤ 63) lines i l h.lines_are.known line_at in let same = ap session_in is in omega (arith, low, same)

      home_of : Home (session_in a)
      home_of = at_home law meaning lines fault_lines journal looks log workers h (session_in a)

      seat_of : Seat (session_in a) home_of
      seat_of = has_desk law meaning lines fault_lines journal looks log workers h (session_in a) home_of known

      module _ (some : IsSome (session_asking a)) where
        node_is : l.node ≡ h.home (session_in a)
        node_is = own_home l.node a (subst (IsAtHome h.home l.node) is (at_get (λ (m : NamedLine). IsAtHome h.home m.node m.asks) lines i l h.lines_are.at_home line_at)) some

        desk_there : desk_in (desks_at workers l.node) (session_in a) ≡ Some seat_of.now
        desk_there = ap (λ n. desk_in (desks_at workers n) (session_in a)) node_is ∙ ap (λ w. desk_in w (session_in a)) home_of.at ∙ seat_of.now_there

        played_so : PlayedSo lines h.run h.run.phase home_of.worker.seat.node.replica.cursor (h.home (session_in a)) home_of.closed.was looks i l.phase a
        played_so =
            subst (PlayedSo lines h.run h.run.phase home_of.worker.seat.node.replica.cursor (h.home (session_in a)) home_of.closed.was looks i l.phase) is
            (played_run law meaning lines h.home (length workers) h.run looks h.courses h.joined (h.home (session_in a)) (length lines) (length lines) h.run.phase home_of.worker.seat home_of.closed.was (h.lines_are.there (session_in a)) (h.lines_are.within (session_in a))
            (ended_at law meaning lines fault_lines journal looks log workers h (h.home (session_in a)) home_of.worker home_of.closed (h.lines_are.there (session_in a)) (h.lines_are.within (session_in a))) i l (slice_get_within lines i l line_at) line_at node_is)

    desk_is : (a : Asks) (is : l.asks ≡ a) → IsSome (session_asking a) → desk_for workers l.node a ≡ Some (seat_of a is).now
    desk_is (asks.Logged s r command) is some = desk_there (asks.Logged s r command) is some
    desk_is (asks.Look s query) is some = desk_there (asks.Look s query) is some
    desk_is (asks.Admin a) is some = absurd (cc)

    -- at its node
    node_played : (a : Admin) → l.asks ≡ asks.Admin a → CameOfNode i l a
    node_played a is =
        let there = at_get (λ (m : NamedLine). (1 ≤ m.node) × (m.node ≤ length workers)) lines i l h.lines_are.nodes_are line_at in
        let low = there.0 in
        let high = there.1 in
        let w = some_at workers (l.node - 1) (omega (arith, low, high)) in
        let same : l.node ≡ l.node - 1 + 1 = omega (arith, low) in
        let k = h.each (l.node - 1) w.0 w.1 in
        let least : 1 ≤ l.node - 1 + 1 = omega (arith, low) in
        let most : l.node - 1 + 1 ≤ length workers = omega (arith, low, high) in
        let so =
        subst (PlayedSo lines h.run h.run.phase w.0.seat.node.replica.cursor (l.node - 1 + 1) k.was looks i l.phase) is
        (played_run law meaning lines h.home (length workers) h.run looks h.courses h.joined (l.node - 1 + 1) (length lines) (length lines) h.run.phase w.0.seat k.was least most
        (ended_at law meaning lines fault_lines journal looks log workers h (l.node - 1 + 1) w.0 k least most) i l (slice_get_within lines i l line_at) line_at same) in (
          so.0,
          so.1,
          so.2,
          subst (λ n. ReportedSo h.run.seen (tails h.run l.phase) (length log) n so.0) (sym same)
              (report_within h.run.seen (tails h.run l.phase) w.0.seat.node.replica.cursor (length log) (l.node - 1 + 1) so.0 k.short so.3),
          subst (λ n. LeftSo h.run.seen (length log) n so.0) (sym same) (leave_within h.run.seen w.0.seat.node.replica.cursor (length log) (l.node - 1 + 1) so.0 k.short so.4),
        )

    -- what it reported, if it did
    pub report_played : (a : Admin) → l.asks ≡ asks.Admin a → (clean : ℕ) → slice_get looks i ≡ Some (Some (looked.Reported clean)) → IsReport h.run.seen (tails h.run l.phase) (length log) l.node clean
    report_played a is clean came =
        let so = node_played a is in
        let same : so.0 ≡ looked.Reported clean = same_some so.0 (looked.Reported clean) (same_some (Some so.0) (Some (looked.Reported clean)) (sym so.1 ∙ came)) in
        subst (ReportedSo h.run.seen (tails h.run l.phase) (length log) l.node) same so.3

    -- and that it left, if it did
    pub leave_played : (a : Admin) → l.asks ≡ asks.Admin a → slice_get looks i ≡ Some (Some looked.Left) → IsLeave h.run.seen (length log) l.node
    leave_played a is came =
        let so = node_played a is in
        let same : so.0 ≡ looked.Left = same_some so.0 looked.Left (same_some (Some so.0) (Some looked.Left) (sym so.1 ∙ came)) in
        subst (LeftSo h.run.seen (length log) l.node) same so.4

    can_tell_so : (a : Asks) (is : l.asks ≡ a) (look : Option Looked) → slice_get looks i ≡ Some look → TellsIt (desk_for workers l.node a) look a
    can_tell_so (asks.Logged s r command) is look look_at =
        let asked = asks.Logged s r command in
        let n = home_of asked is in
        let x = seat_of asked is in
        let so = played_so asked is refl in
        let logs = ap (is_of s.id) is ∙ eq-eqb s.id s.id refl in
        subst (λ d. TellsIt d look asked) (sym (desk_is asked is refl))
        (least i l s.id r n x line_at logs (ap rank_in is), has_outcome i l s.id r n x line_at logs (ap rank_in is) (so x.was x.was_there))
    can_tell_so (asks.Look s query) is look look_at =
        let asked = asks.Look s query in
        let x = seat_of asked is in
        let so = played_so asked is refl in
        subst (λ d. TellsIt d look asked) (sym (desk_is asked is refl))
        (subst (λ o. TellsIt (Some x.now) o asked) (same_some (Some so.0) look (sym so.1 ∙ look_at)) (of_table s.id (home_of asked is) x i l.phase query so.0 (so.2 x.was x.was_there)))
    can_tell_so (asks.Admin a) is look look_at =
        let so = node_played a is in
        subst (λ o. TellsIt None o (asks.Admin a)) (same_some (Some so.0) look (sym so.1 ∙ look_at)) so.2

    can_tell_line : CanTellLine workers looks i l
    can_tell_line =
        let within = slice_get_within lines i l line_at in
        let look = some_at looks i (omega (arith, size, within)) in
        record { look = look.0; look_at = look.1; tells = can_tell_so l.asks refl look.0 look.1 }

  pub can_tell : CanTell lines workers looks
  can_tell = record { size = size; each = can_tell_line }

  -- A line that looks

  module _ (own : (s : ℕ) → IsHome law.may s (h.home s)) (told : (log : List Entry) → AllByRecursion (λ a. IsTold a.reply) (acts_in log)) (rows : List Row) (are : AreRows lines workers looks rows) where
    abbrev played : List Played
    played = played_of lines rows looks

    played_lines : map (λ t. t.line) played ≡ lines
    played_lines = lines_are lines rows looks are.size size

    -- the first lines, with their rows
    first_lines : (i : ℕ) → map (λ t. t.line) (take i played) ≡ take i lines
    first_lines i = map_take (λ (t : Played). t.line) i played ∙ ap (take i) played_lines

    count_first : (i s : ℕ) → count_by (λ t. logs_for s t.line) (take i played) ≡ count_by (logs_for s) (take i lines)
    count_first i s = count_map (λ (t : Played). t.line) (logs_for s) (take i played) ∙ ap (count_by (logs_for s)) (first_lines i)

    any_first : (i s phase : ℕ) → list_any (λ t. logs_for s t.line && (t.line.phase == phase)) (take i played) ≡ list_any (λ l. logs_for s l && (l.phase == phase)) (take i lines)
    any_first i s phase =
        any_map (λ (t : Played). t.line) (λ l. logs_for s l && (l.phase == phase)) (take i played) ∙ ap (list_any (λ l. logs_for s l && (l.phase == phase))) (first_lines i)

    module _ (i : ℕ) (l : NamedLine) (s : ℕ) (query : Query) (n : Home s) (d : Seat s n) where
      -- what it saw was answered
      answered_so : (o : Option ℕ) → ((a : ℕ) → o ≡ Some a → count_by (logs_for s) (take i lines) ≤ a) → count_by (λ t. logs_for s t.line) (take i played) ≤ answered_of lines o
      answered_so None few =
          let same = count_first i s in
          let most = count_by-le-length (logs_for s) (take i lines) in
          let size = length-take i lines in
          omega (arith, same, most, size)
      answered_so (Some a) few = let same = count_first i s in let low = few a refl in omega (arith, same, low)

      saw : (after : ℕ) (found : Found) → SawSo lines h.run n.worker.seat.node.replica.cursor d.was i l.phase s query after found → HasLooked log (tails h.run) (end_so s d.was) (take i played) l.phase s query after found
      saw after found k =
          let b = begins_so s n k.log k.front (let a = k.within in let e = k.size in omega (arith, a, e)) in
          let front_is : k.log ≡ take after log = b.1 ∙ ap (λ m. take m log) k.size in
          let short : after ≤ length log = let a = b.0 in let e = k.size in omega (arith, a, e) in
          record {
            within = short;
            shows = k.shows ∙ ap (λ acts. find_in (table_after finmap.empty acts) query) (ap acts_in front_is ∙ sym (front-acts log after short));
            sees = ap (λ x. gap_from (asked_in 0 x) s 1) (sym front_is) ∙ k.sees ∙ ap (λ m. m + 1) (sym (count_first i s));
            from = k.from;
            upto = k.upto;
            answered = answered_so d.was.answered (λ a is. k.answered a is);
          }

      kept : (row : Row) (look : Option Looked) (cause : Cause) → WasStopped h.run d.was l.phase s cause ⊎ (LogsBefore lines i s l.phase × CameTo h.run.faults cause (h.home s) l.phase × WasFree h.run d.was l.phase s) → l.node ≡ h.home s
          → IsUnread h.run.faults (end_so s d.was) (take i played) (record { line = l; row = row; paid = failure_of_look look }) s cause
      kept row look cause (inl k) own = inr (inl (k.cause_is, k.earlier))
      kept row look cause (inr k) own = inr (inr (any_first i s l.phase ∙ k.0, subst (λ m. CameTo h.run.faults cause m l.phase) (sym own) k.1))

    -- A line with its row

    module _ (i : ℕ) (l : NamedLine) (row : Row) (look : Option Looked) (line_at : slice_get lines i ≡ Some l) (row_at : slice_get rows i ≡ Some row) (look_at : slice_get looks i ≡ Some look) where
      abbrev turn : Played
      turn = record { line = l; row = row; paid = failure_of_look look }

      abbrev n : (a : Asks) → l.asks ≡ a → Home (session_in a)
      n a is = home_of i l line_at a is

      abbrev d : (a : Asks) (is : l.asks ≡ a) → Seat (session_in a) (n a is)
      d a is = seat_of i l line_at a is

      row_so : IsRowOf l (desk_for workers l.node l.asks) look row
      row_so = are.each i l look row line_at look_at row_at

      tells : (a : Asks) (is : l.asks ≡ a) → IsSome (session_asking a) → Tells (Some (d a is).now) look a row.outcome
      tells a is some =
          subst (λ o. Tells o look a row.outcome) (desk_is i l line_at a is some)
          (subst (λ x. Tells (desk_for workers l.node x) look x row.outcome) is row_so.tells)

      row_is : is_row_of (record { line = l; row = row }) ≡ true
      row_is = and_from _ _ (and_from _ _ (eq-eqb row.number l.number row_so.number) row_so.who) (answers_so (desk_for workers l.node l.asks) look l.asks row.outcome row_so.tells)

      -- of each kind of line

      came : (a : Asks) (is : l.asks ≡ a) (o : Outcome) → PlayedSo lines h.run h.run.phase (n a is).worker.seat.node.replica.cursor (h.home (session_in a)) (n a is).closed.was looks i l.phase a → Tells (Some (d a is).now) look a o
          → CameOf log (tails h.run) h.run.faults ends (take i played) turn a o
      came (asks.Logged s r command) is (out.Placed place reply late) so t =
          let x = d (asks.Logged s r command) is in
          subst (λ e. IsPlaced log (tails h.run) e l.phase s.id r place reply late) (sym x.ends)
          (placed i l s.id r (n (asks.Logged s r command) is) x line_at (ap (is_of s.id) is ∙ eq-eqb s.id s.id refl) (ap rank_in is) (so x.was x.was_there) (own s.id) told place reply late t)
      came (asks.Logged s r command) is (out.Open cause) so t =
          let x = d (asks.Logged s r command) is in
          subst (λ e. IsLeft log e s.id r cause) (sym x.ends)
          (left i l s.id r (n (asks.Logged s r command) is) x line_at (ap (is_of s.id) is ∙ eq-eqb s.id s.id refl) (ap rank_in is) (so x.was x.was_there) cause t.0 t.1)
      came (asks.Look s query) is (out.Read after found) so t =
          let x = d (asks.Look s query) is in
          let same : so.0 ≡ looked.Found after found = same_some so.0 (looked.Found after found) (same_some (Some so.0) (Some (looked.Found after found)) (sym so.1 ∙ look_at ∙ ap Some t)) in
          subst (λ e. HasLooked log (tails h.run) e (take i played) l.phase s.id query after found) (sym x.ends)
          (saw i l s.id query (n (asks.Look s query) is) x after found (subst (LookedSo lines h.run (n (asks.Look s query) is).worker.seat.node.replica.cursor (h.home s.id) x.was i l.phase s.id query) same (so.2 x.was x.was_there)))
      came (asks.Look s query) is (out.Open cause) so (inl t) =
          let x = d (asks.Look s query) is in
          let same : so.0 ≡ looked.Kept cause = same_some so.0 (looked.Kept cause) (same_some (Some so.0) (Some (looked.Kept cause)) (sym so.1 ∙ look_at ∙ ap Some t)) in
          subst (λ e. IsUnread h.run.faults e (take i played) turn s.id cause) (sym x.ends)
          (kept i l s.id query (n (asks.Look s query) is) x row look cause
          (subst (LookedSo lines h.run (n (asks.Look s query) is).worker.seat.node.replica.cursor (h.home s.id) x.was i l.phase s.id query) same (so.2 x.was x.was_there)) (node_is i l line_at (asks.Look s query) is refl))
      came (asks.Look s query) is (out.Open cause) so (inr t) = inl (ap failure_of_look t)
      came a is o so t = absurd t

      missed_so : (a : Asks) (is : l.asks ≡ a) → PlayedSo lines h.run h.run.phase (n a is).worker.seat.node.replica.cursor (h.home (session_in a)) (n a is).closed.was looks i l.phase a → IsStoppedBy (ends (session_in a)) l.phase a
      missed_so (asks.Logged s r command) is so =
          let x = d (asks.Logged s r command) is in
          subst (λ e. IsStoppedBy e l.phase (asks.Logged s r command)) (sym x.ends)
          (missed i l s.id r (n (asks.Logged s r command) is) x line_at (ap (is_of s.id) is ∙ eq-eqb s.id s.id refl) (ap rank_in is) (so x.was x.was_there))
      missed_so (asks.Look s query) is so = tt
      missed_so (asks.Admin a) is so = tt

      -- what its look came to is known
      looked_so : (s : Session) (query : Query) (is : l.asks ≡ asks.Look s query) → PlayedSo lines h.run h.run.phase (n (asks.Look s query) is).worker.seat.node.replica.cursor (h.home s.id) (n (asks.Look s query) is).closed.was looks i l.phase (asks.Look s query)
          → (x : Looked) → look ≡ Some x → LookedSo lines h.run (n (asks.Look s query) is).worker.seat.node.replica.cursor (h.home s.id) (d (asks.Look s query) is).was i l.phase s.id query x
      looked_so s query is so x t =
          let y = d (asks.Look s query) is in
          let same : so.0 ≡ x = same_some so.0 x (same_some (Some so.0) (Some x) (sym so.1 ∙ look_at ∙ ap Some t)) in
          subst (LookedSo lines h.run (n (asks.Look s query) is).worker.seat.node.replica.cursor (h.home s.id) y.was i l.phase s.id query) same (so.2 y.was y.was_there)

      -- a session that was stopped in an earlier phase wasn't free
      not_free : (s : Session) (query : Query) (is : l.asks ≡ asks.Look s query) (k : Cause) → (d (asks.Look s query) is).was.stopped ≡ Some k → WasFree h.run (d (asks.Look s query) is).was l.phase s.id → h.run.when s.id < l.phase → ⊥
      not_free s query is k stop free earlier =
          let first = first_stop s.id (n (asks.Look s query) is) (d (asks.Look s query) is) k stop in
          let late = free first.0 first.1 in
          omega (arith, late, earlier)

      stopped_so : (a : Asks) (is : l.asks ≡ a) (o : Outcome) → PlayedSo lines h.run h.run.phase (n a is).worker.seat.node.replica.cursor (h.home (session_in a)) (n a is).closed.was looks i l.phase a → Tells (Some (d a is).now) look a o
          → (k : Cause) → (d a is).was.stopped ≡ Some k → h.run.when (session_in a) < l.phase → o ≡ out.Open k
      stopped_so (asks.Logged s r command) is (out.Placed place reply late) so t k stop earlier =
          let x = d (asks.Logged s r command) is in
          absurd (not_stopped i l s.id r (n (asks.Logged s r command) is) x line_at (ap (is_of s.id) is ∙ eq-eqb s.id s.id refl) (ap rank_in is) (so x.was x.was_there) (own s.id) told place reply late t k stop earlier)
      stopped_so (asks.Logged s r command) is (out.Open cause) so t k stop earlier =
          let x = d (asks.Logged s r command) is in
          ap out.Open (same_some cause k (sym t.1 ∙ ap (λ (y : Desk). y.stopped) x.rest ∙ stop))
      stopped_so (asks.Look s query) is (out.Read after found) so t k stop earlier =
          let x = d (asks.Look s query) is in
          let seen : SawSo lines h.run (n (asks.Look s query) is).worker.seat.node.replica.cursor x.was i l.phase s.id query after found = looked_so s query is so (looked.Found after found) t in
          absurd (not_free s query is k stop seen.free earlier)
      stopped_so (asks.Look s query) is (out.Open cause) so (inl t) k stop earlier =
          let x = d (asks.Look s query) is in
          ⊎_elim
          (λ (w : WasStopped h.run x.was l.phase s.id cause). ap out.Open (same_some cause k (sym w.cause_is ∙ stop)))
          (λ (w : LogsBefore lines i s.id l.phase × CameTo h.run.faults cause (h.home s.id) l.phase × WasFree h.run x.was l.phase s.id). absurd (not_free s query is k stop w.2 earlier))
          (looked_so s query is so (looked.Kept cause) t)
      stopped_so (asks.Look s query) is (out.Open cause) so (inr t) k stop earlier = absurd (not_free s query is k stop (looked_so s query is so (looked.Failed cause) t) earlier)
      stopped_so a is o so t k stop earlier = absurd t

      -- a line of a session
      ended_there : IsSome (session_asking l.asks) → LineEnded log (tails h.run) h.run.faults ends (take i played) turn
      ended_there some =
          let so = played_so i l line_at l.asks refl some in
          let told = tells l.asks refl some in
          record {
            row = row_is;
            came = came l.asks refl row.outcome so told;
            missed = missed_so l.asks refl so;
            stopped = λ own. subst (λ e. (k : Cause) → e.stopped ≡ Some k → e.when < l.phase → row.outcome ≡ out.Open k) (sym (d l.asks refl).ends) (stopped_so l.asks refl row.outcome so told);
          }

      -- a line that asks its node itself
      module _ (admin : Admin) (is : l.asks ≡ asks.Admin admin) where
        reported : (clean : ℕ) → look ≡ Some (looked.Reported clean) → HasReported log (tails h.run) l.phase clean
        reported clean t =
            has_reported law h.run.seen log (tails h.run) l.phase l.node clean legal front (report_played i l line_at admin is clean (look_at ∙ ap Some t))
            (report_low law run.low lines h.home (length workers) h.run looks h.courses h.lines_are h.joined l.node i l clean (record { is = line_at; own = refl; looked = look_at ∙ ap Some t }))

        node_came : (a : Admin) (o : Outcome) → Tells None look (asks.Admin a) o → CameOf log (tails h.run) h.run.faults ends (take i played) turn (asks.Admin a) o
        node_came Extend (out.Extended version start) t = begins_in_phase law lines h.home (length workers) h.run looks h.courses h.lines_are h.joined l.node i l version start (record { is = line_at; own = refl; looked = look_at ∙ ap Some t })
        node_came Extend (out.Moved version) t = tt
        node_came Extend out.NoSpare t = tt
        node_came Extend (out.Open cause) t = ap failure_of_look t
        node_came Alive (out.Alive clean) t = reported clean t
        node_came Alive (out.Open cause) t = ap failure_of_look t
        node_came Retire out.Retired t = tt
        node_came Retire (out.Open cause) t = ap failure_of_look t
        node_came Trim (out.Trimmed trim) t = tt
        node_came Trim (out.Open cause) t = ap failure_of_look t
        node_came a o t = absurd t

        ended_at_node : LineEnded log (tails h.run) h.run.faults ends (take i played) turn
        ended_at_node = record {
          row = row_is;
          came = subst (λ a. CameOf log (tails h.run) h.run.faults ends (take i played) turn a row.outcome) (sym is)
              (node_came admin row.outcome (subst (λ a. Tells (desk_for workers l.node a) look a row.outcome) is row_so.tells));
          missed = subst (λ a. IsStoppedBy (ends (session_in a)) l.phase a) (sym is) tt;
          stopped = λ some. absurd (no_session (subst (λ a. IsSome (session_asking a)) is some));
        }
          where
            no_session : IsSome (session_asking (asks.Admin admin)) → ⊥
            no_session some = cc

      ended : LineEnded log (tails h.run) h.run.faults ends (take i played) turn
      ended = by l.asks refl
        where
          by : (a : Asks) → l.asks ≡ a → LineEnded log (tails h.run) h.run.faults ends (take i played) turn
          by (asks.Logged s r command) is = ended_there (subst (λ a. IsSome (session_asking a)) (sym is) refl)
          by (asks.Look s query) is = ended_there (subst (λ a. IsSome (session_asking a)) (sym is) refl)
          by (asks.Admin a) is = ended_at_node a is

    pub lines_ended : AllAfter (LineEnded log (tails h.run) h.run.faults ends) [] played
    lines_ended = all_after (LineEnded log (tails h.run) h.run.faults ends) [] played each
      where
        each : (i : ℕ) (t : Played) → slice_get played i ≡ Some t → LineEnded log (tails h.run) h.run.faults ends (take i played) t
        each i t at =
            let k = turn_is lines rows looks i t at in
            subst (LineEnded log (tails h.run) h.run.faults ends (take i played)) (sym k.is) (ended i k.line k.row k.look k.line_at k.row_at k.look_at)
