-- Reads are current: each shows the table after what acts below where it looked, and sees of its session what was asked before.
use Rattle.std.proofs.Common.{◌≡◌, refl, sym, ap, ◌∙◌, subst, ℕ, ◌+◌, ◌≤◌, true, false, not, ◌&&◌, ◌==◌, ◌<◌, List, [], ◌∷◌, ◌++◌, Option, Some, None, is_some, length, map, take, slice_get, nat_lt, nat_le, arith, eqb-true, le-leb, lt-ltb, le-ltb, ltb-false}
use Rattle.std.proofs.lemmas.Bool.{and_from, and_parts, both_ways, not-true}
use Rattle.delos_types.specs.declared.entry.Entry.{Entry}
use Rattle.delos_types.specs.declared.place.Place.{Place}
use Rattle.table_core.specs.declared.command.Found.{Found}
use Rattle.engine_api.specs.declared.act.Act.{Act}
use Rattle.engine_api.specs.Acted.{asked_in}
use Rattle.engine_api.specs.Order.{gap_from}
use Rattle.log_laws.specs.State.{acts_in}
use Rattle.script_text.specs.declared.line.Admin.TheVariants.{Extend, Alive, Trim, Retire}
use Rattle.script_text.specs.declared.asks.Asks.{Asks}
use Rattle.script_text.specs.declared.asks.Asks.TheVariants as asks
use Rattle.script_text.specs.declared.faults.FaultLine.{FaultLine}
use Rattle.row_text.specs.declared.row.Outcome.{Outcome}
use Rattle.row_text.specs.declared.row.Outcome.TheVariants as out
use Rattle.fitting_run.specs.declared.answered.Answered.{Answered}
use Rattle.fitting_run.specs.declared.told.Told.{Told}
use Rattle.fitting_run.specs.Acts.{placed_acts}
use Rattle.fitting_run.specs.Answered.{is_logged, is_placed_on_time, logs, looked_at, on_read, on_time, place_on_time, same_session}
use Rattle.fitting_run.specs.Fits.{told_of}
use Rattle.fitting_run.specs.Reads.{ReadsAreCurrent, Shows, is_kept_open, looks_forward, looks_in_order}
use Rattle.fitting_run.specs.Yard.{Shown}
use Rattle.run_laws.specs.Ended.{CameOf, Fault, Played, RunEnded, SessionEnd, rank_in, session_in}
use Rattle.run_laws.proofs.Answering.{IsOnTime, its-act, logged_by, logged-more, logged-own, one-session}
use Rattle.run_laws.proofs.Behind.{after-each, pairs-behind}
use Rattle.run_laws.proofs.Fronts.{below-gap}
use Rattle.run_laws.proofs.Members.{all-map, all-test}
use Rattle.run_laws.proofs.Orders.{Looked, OnTime, Turn, all_turns, turn-looked, turn-on_time}
use Rattle.run_laws.proofs.Placing.{placed-are_acts}
use Rattle.run_laws.proofs.Replacing.{pairs-places}
use Rattle.run_laws.proofs.Telling.{tell, told-is}
use Rattle.run_laws.proofs.Tests.{each_pair-from, implies-from, where_some-from}

shows-table : (log : List Entry) (tails : ℕ → ℕ) (faults : List Fault) (ends : ℕ → SessionEnd) (before : List Played) (t : Played) (told : List Answered) (a : Asks) (o : Outcome)
    → placed_acts told ≡ acts_in log → CameOf log tails faults ends before t a o → Shows told a o
shows-table log tails faults ends before t told (asks.Look s q) (out.Read after found) acts h = rw acts h.shows
shows-table log tails faults ends before t told (asks.Look s q) (out.Open cause) acts h = tt
shows-table log tails faults ends before t told (asks.Look s q) o acts h = absurd h
shows-table log tails faults ends before t told (asks.Logged s r c) o acts h = tt
shows-table log tails faults ends before t told (asks.Admin a) o acts h = tt

nothing : {A : Type 0} (x : A) → None ≡ Some x → ⊥
nothing x e = cc

read-is : (o : Outcome) (after : ℕ) → looked_at o ≡ Some after → (found : Found) × (o ≡ out.Read after found)
read-is (out.Read at found) after e = (found, let same : at ≡ after = cc in ap (λ n. out.Read n found) same)
read-is o after e = absurd (nothing after e)

-- what a read saw is answered by its phase's end
read-answered : (log : List Entry) (tails : ℕ → ℕ) (faults : List Fault) (ends : ℕ → SessionEnd) (before : List Played) (t : Played) (a : Asks) (o : Outcome) (after : ℕ)
    → CameOf log tails faults ends before t a o → looked_at o ≡ Some after → logged_by (session_in a) before ≤ (ends (session_in a)).answered
read-answered log tails faults ends before t (asks.Look s q) (out.Read at found) after h e = h.answered
read-answered log tails faults ends before t (asks.Look s q) (out.Open cause) after h e = absurd (nothing after e)
read-answered log tails faults ends before t (asks.Look s q) o after h e = absurd h
read-answered log tails faults ends before t (asks.Logged s r c) (out.Placed place reply late) after h e = absurd (nothing after e)
read-answered log tails faults ends before t (asks.Logged s r c) (out.Open cause) after h e = absurd (nothing after e)
read-answered log tails faults ends before t (asks.Logged s r c) o after h e = absurd h
read-answered log tails faults ends before t (asks.Admin Extend) (out.Read at found) after h e = absurd h
read-answered log tails faults ends before t (asks.Admin Alive) (out.Read at found) after h e = absurd h
read-answered log tails faults ends before t (asks.Admin Trim) (out.Read at found) after h e = absurd h
read-answered log tails faults ends before t (asks.Admin Retire) (out.Read at found) after h e = absurd h
read-answered log tails faults ends before t (asks.Admin a) o after h e = absurd (nothing after e)

-- a command whose rank is answered is placed in its phase
answered-on_time : (log : List Entry) (tails : ℕ → ℕ) (faults : List Fault) (ends : ℕ → SessionEnd) (before : List Played) (t : Played) (a : Asks) (o : Outcome)
    → CameOf log tails faults ends before t a o → logs a ≡ true → rank_in a ≤ (ends (session_in a)).answered → is_some (place_on_time o) ≡ true
answered-on_time log tails faults ends before t (asks.Logged s r c) (out.Placed place reply late) h l low =
    subst (λ b. is_some (place_on_time (out.Placed place reply b)) ≡ true) (sym (h.late_is ∙ le-ltb (ends s.id).answered r low)) refl
answered-on_time log tails faults ends before t (asks.Logged s r c) (out.Open cause) h l low = absurd (let above = h.above in omega (arith, above, low))
answered-on_time log tails faults ends before t (asks.Logged s r c) o h l low = absurd h
answered-on_time log tails faults ends before t (asks.Look s q) o h l low = absurd (both_ways false refl l)
answered-on_time log tails faults ends before t (asks.Admin a) o h l low = absurd (both_ways false refl l)

module _ (played : List Played) (fault_lines : List FaultLine) (o : Told) (yard : Shown) (e : RunEnded played fault_lines o yard) where
  -- whether the act of a line stands below a position, told by the first rank that is missing there
  below-is : (t : Played) (p : Place) (x : IsOnTime e.log e.tails t.line.phase t.line.asks p) (n after : ℕ) → after ≤ length e.log → rank_in t.line.asks ≡ n + 1
      → nat_lt p.pos after ≡ nat_lt (n + 1) (gap_from (asked_in 0 (take after e.log)) (session_in t.line.asks) 1)
  below-is t p x n after within rank =
      let act : Act = x.act in
      let its = its-act e.log t.line.asks act x.found in
      ap (λ (q : Place). nat_lt q.pos after) x.place_is
      ∙ below-gap e.log after act within its.among (let is = its.rank in omega (arith, is, rank))
      ∙ ap (λ r. nat_lt r (gap_from (asked_in 0 (take after e.log)) act.session 1)) (its.rank ∙ rank)
      ∙ ap (λ s. nat_lt (n + 1) (gap_from (asked_in 0 (take after e.log)) s 1)) its.session

  sees-earlier : (b : List Played) (t : Played) (mid : List Played) (u : Played) → Turn played fault_lines o yard e b t → session_in t.line.asks ≡ session_in u.line.asks
      → (p : Place) (after : ℕ) → OnTime played fault_lines o yard e t p → Looked played fault_lines o yard e (b ++ t ∷ mid) u after → nat_lt p.pos after ≡ true
  sees-earlier b t mid u h session p after x y =
      let n = logged_by (session_in t.line.asks) b in
      let gap = gap_from (asked_in 0 (take after e.log)) in
      let sees : gap (session_in t.line.asks) 1 ≡ logged_by (session_in u.line.asks) (b ++ t ∷ mid) + 1 = ap (λ s. gap s 1) session ∙ y.sees in
      let more = logged-own (session_in u.line.asks) b t mid session x.logged in
      below-is t p x n after y.within (h.1 x.logged) ∙ lt-ltb (n + 1) (gap (session_in t.line.asks) 1) (omega (arith, sees, more))

  sees-no_later : (b : List Played) (t : Played) (mid : List Played) (u : Played) → Turn played fault_lines o yard e (b ++ t ∷ mid) u → session_in t.line.asks ≡ session_in u.line.asks
      → (after : ℕ) (q : Place) → Looked played fault_lines o yard e b t after → OnTime played fault_lines o yard e u q → nat_le after q.pos ≡ true
  sees-no_later b t mid u k session after q x y =
      let n = logged_by (session_in u.line.asks) (b ++ t ∷ mid) in
      let gap = gap_from (asked_in 0 (take after e.log)) in
      let sees : gap (session_in u.line.asks) 1 ≡ logged_by (session_in t.line.asks) b + 1 = ap (λ s. gap s 1) (sym session) ∙ x.sees in
      let more = logged-more (session_in u.line.asks) b t mid session in
      le-leb after q.pos (ltb-false q.pos after (below-is u q y n after x.within (k.1 y.logged) ∙ le-ltb (n + 1) (gap (session_in u.line.asks) 1) (omega (arith, sees, more))))

  looks-ordered : (b : List Played) (t : Played) (mid : List Played) (u : Played) → Turn played fault_lines o yard e b t → Turn played fault_lines o yard e (b ++ t ∷ mid) u → looks_in_order (tell t) (tell u) ≡ true
  looks-ordered b t mid u h k =
      let above = on_time t.row.outcome (λ p. on_read u.row.outcome (λ after. nat_lt p.pos after)) in
      let below = on_read t.row.outcome (λ after. on_time u.row.outcome (λ q. nat_le after q.pos)) in
      implies-from (same_session (tell t) (tell u)) (above && below) (λ same.
      let session = one-session t.line.asks u.line.asks same in
      and_from above below
      (where_some-from (place_on_time t.row.outcome) (λ p. on_read u.row.outcome (λ after. nat_lt p.pos after))
      (λ p is. where_some-from (looked_at u.row.outcome) (λ after. nat_lt p.pos after)
      (λ after it. sees-earlier b t mid u h session p after (turn-on_time played fault_lines o yard e b t h p is) (turn-looked played fault_lines o yard e (b ++ t ∷ mid) u k after it))))
      (where_some-from (looked_at t.row.outcome) (λ after. on_time u.row.outcome (λ q. nat_le after q.pos))
      (λ after is. where_some-from (place_on_time u.row.outcome) (λ q. nat_le after q.pos)
      (λ q it. sees-no_later b t mid u k session after q (turn-looked played fault_lines o yard e b t h after is) (turn-on_time played fault_lines o yard e (b ++ t ∷ mid) u k q it)))))

  -- a read that was answered saw each earlier command of its session, which is answered in its phase
  kept-open : (b : List Played) (t : Played) (mid : List Played) (u : Played) → Turn played fault_lines o yard e b t → Turn played fault_lines o yard e (b ++ t ∷ mid) u → is_kept_open (tell t) (tell u) ≡ true
  kept-open b t mid u h k =
      let session = same_session (tell t) (tell u) in
      let timely = is_placed_on_time (tell t) in
      implies-from (session && is_logged (tell t) && not timely) (not (is_some (looked_at u.row.outcome))) (λ all.
      let two = and_parts (session && is_logged (tell t)) (not timely) all in
      let one = and_parts session (is_logged (tell t)) two.0 in
      by one.0 one.1 two.1 (looked_at u.row.outcome) refl)
    where
      by : same_session (tell t) (tell u) ≡ true → is_logged (tell t) ≡ true → not (is_placed_on_time (tell t)) ≡ true → (seen : Option ℕ) → looked_at u.row.outcome ≡ seen → not (is_some seen) ≡ true
      by same logged missed None is = refl
      by same logged missed (Some after) is =
          let s = one-session t.line.asks u.line.asks same in
          let few = read-answered e.log e.tails e.faults e.ends (b ++ t ∷ mid) u u.line.asks u.row.outcome after k.0.1.came is in
          let more = logged-own (session_in u.line.asks) b t mid s logged in
          let rank = h.1 logged in
          let ends : (e.ends (session_in t.line.asks)).answered ≡ (e.ends (session_in u.line.asks)).answered = ap (λ n. (e.ends n).answered) s in
          let timely = answered-on_time e.log e.tails e.faults e.ends b t t.line.asks t.row.outcome h.0.1.came logged (omega (arith, few, more, rank, ends)) in
          absurd (both_ways (is_placed_on_time (tell t)) (not-true _ missed) timely)

  looks-forward : (i j : ℕ) (t u : Played) → slice_get played i ≡ Some t → slice_get played j ≡ Some u → i < j → looks_forward (tell t) (tell u) ≡ true
  looks-forward i j t u is it low =
      implies-from (t.line.node == u.line.node) (on_read t.row.outcome (λ after. on_read u.row.outcome (λ later. nat_le after later))) (λ same.
      where_some-from (looked_at t.row.outcome) (λ after. on_read u.row.outcome (λ later. nat_le after later)) (λ after saw.
      where_some-from (looked_at u.row.outcome) (λ later. nat_le after later) (λ later next.
      let a = read-is t.row.outcome after saw in
      let b = read-is u.row.outcome later next in
      le-leb after later (e.forward i j t u after later a.0 b.0 is it low (eqb-true t.line.node u.line.node same) a.1 b.1))))

  told-current : ReadsAreCurrent (map tell played) o.end
  told-current = record {
    within = all-test tell (λ a. on_read a.row.outcome (λ after. nat_le after o.end)) played
        (after-each (Turn played fault_lines o yard e) (λ t. on_read t.row.outcome (λ after. nat_le after o.end) ≡ true) [] played
        (λ b t h. where_some-from (looked_at t.row.outcome) (λ after. nat_le after o.end)
        (λ after is. let low = (turn-looked played fault_lines o yard e b t h after is).within in let end = e.end in le-leb after o.end (omega (arith, low, end)))) (all_turns played fault_lines o yard e));
    shows = all-map tell (λ a. Shows (map tell played) a.line.asks a.row.outcome) played
        (after-each (Turn played fault_lines o yard e) (λ t. Shows (map tell played) t.line.asks t.row.outcome) [] played
        (λ b t h. shows-table e.log e.tails e.faults e.ends b t (map tell played) t.line.asks t.row.outcome (placed-are_acts played fault_lines o yard e) h.0.1.came) (all_turns played fault_lines o yard e));
    order = each_pair-from tell looks_in_order played
        (pairs-behind (Turn played fault_lines o yard e) (λ t u. looks_in_order (tell t) (tell u) ≡ true) [] played looks-ordered (all_turns played fault_lines o yard e));
    forward = each_pair-from tell looks_forward played (pairs-places (λ t u. looks_forward (tell t) (tell u) ≡ true) played looks-forward);
    kept = each_pair-from tell is_kept_open played
        (pairs-behind (Turn played fault_lines o yard e) (λ t u. is_kept_open (tell t) (tell u) ≡ true) [] played kept-open (all_turns played fault_lines o yard e));
  }

pub reads-current : (played : List Played) (fault_lines : List FaultLine) (o : Told) (yard : Shown) → RunEnded played fault_lines o yard → ReadsAreCurrent (told_of (map (λ t. t.line) played) o) o.end
reads-current played fault_lines o yard e = subst (λ told. ReadsAreCurrent told o.end) (sym (told-is played o e.rows)) (told-current played fault_lines o yard e)
