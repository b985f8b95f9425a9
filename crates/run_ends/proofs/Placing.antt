-- Where the ranks of a log act, and in which fronts of it.
use Rattle.std.proofs.Common.{◌≡◌, refl, sym, ap, ◌∙◌, subst, ℕ, ◌+◌, ◌<◌, ◌≤◌, true, false, List, [], Option, Some, None, is_some, length, take, drop, slice_get, nat_lt, ◌==◌, arith, ltb-true, eqb-true, take-append-drop, length-take-le}
use Rattle.std.specs.FinMap as finmap
use Rattle.std.proofs.Math.Seq.{take-append_seam, take-length}
use Rattle.std.proofs.lemmas.Bool.{and_parts}
use Rattle.std.proofs.lemmas.Bool.Decides.{nat_tests}
use Rattle.std.proofs.lemmas.Option.{slice_get_within}
use Rattle.delos_types.specs.declared.entry.Entry.{Entry}
use Rattle.legal_journal.specs.Law.{Law}
use Rattle.legal_journal.specs.declared.events.Event.{Event}
use Rattle.legal_journal.specs.Journal.{IsLegal}
use Rattle.legal_journal.proofs.Log.{slice_get_front}
use Rattle.virtual_log.specs.Holding.{Holds}
use Rattle.virtual_log.proofs.Agreeing.{holds_agree}
use Rattle.base_engine.specs.Reading.{IsFront}
use Rattle.engine_api.specs.declared.act.Act.{Act}
use Rattle.engine_api.specs.Acted.{asked_in}
use Rattle.engine_api.specs.Order.{gap_from, top_rank}
use Rattle.engine_api.proofs.Gaps.{gap-run}
use Rattle.log_laws.specs.State.{acts_in}
use Rattle.log_laws.proofs.Replies.{log_turn}
use Rattle.node_lines.specs.UnderWay.{HasRank}
use Rattle.node_lines.proofs.Catching.{appears_in}
use Rattle.node_lines.proofs.Fronts.{gap-longer, splits}
use Rattle.run_laws.specs.Ended.{act_of_rank}
use Rattle.run_laws.proofs.Fronts.{below-gap}
use Rattle.run_laws.proofs.Members.{Among, found-among}
use Rattle.run_laws.proofs.Placing.{is_rank}

none_of : {A : Type 0} (o : Option A) → is_some o ≡ false → o ≡ None
none_of None e = refl
none_of (Some x) e = absurd (cc)

module _ (log : List Entry) (s r : ℕ) (low : 1 ≤ r) where
  -- a rank acts where no rank up to it is missing
  rank_found : is_some (act_of_rank log s r) ≡ nat_lt r (gap_from (asked_in 0 log) s 1)
  rank_found = (log_turn finmap.empty (asked_in 0 log)).acted s r low

  pub acts_not : gap_from (asked_in 0 log) s 1 ≤ r → act_of_rank log s r ≡ None
  acts_not high = let below : nat_lt r (gap_from (asked_in 0 log) s 1) ≡ false = grind (arith, nat_tests) in none_of (act_of_rank log s r) (rank_found ∙ below)

  module _ (a : Act) (found : act_of_rank log s r ≡ Some a) where
    pub acts_low : r < gap_from (asked_in 0 log) s 1
    acts_low = ltb-true r (gap_from (asked_in 0 log) s 1) (sym rank_found ∙ ap is_some found)

    own : Among (acts_in log) a × (is_rank s r a ≡ true)
    own = found-among (is_rank s r) (acts_in log) a found

    session_is : a.session ≡ s
    session_is = eqb-true a.session s (and_parts (a.session == s) (a.rank == r) own.1).0

    rank_is : a.rank ≡ r
    rank_is = eqb-true a.rank r (and_parts (a.session == s) (a.rank == r) own.1).1

    -- it acts in just those fronts of the log that go on behind its place
    in_front : (n : ℕ) → n ≤ length log → nat_lt a.place.pos n ≡ nat_lt r (gap_from (asked_in 0 (take n log)) s 1)
    in_front n short =
        below-gap log n a short own.0 (omega (arith, low, rank_is))
        ∙ ap (λ q. nat_lt q (gap_from (asked_in 0 (take n log)) a.session 1)) rank_is
        ∙ ap (λ t. nat_lt r (gap_from (asked_in 0 (take n log)) t 1)) session_is

    -- where it acted in a front, its place is below the front's end
    pub acted_below : (n : ℕ) → n ≤ length log → r < gap_from (asked_in 0 (take n log)) s 1 → a.place.pos < n
    acted_below n short acted = let yes' : nat_lt r (gap_from (asked_in 0 (take n log)) s 1) ≡ true = grind (arith, nat_tests) in ltb-true a.place.pos n (in_front n short ∙ yes')

    place_within : a.place.pos < length log
    place_within = acted_below (length log) (omega arith) (subst (λ l. r < gap_from (asked_in 0 l) s 1) (sym (take-length log)) acts_low)

    -- an entry up to its place has the rank
    pub appeared_by : (p : ℕ) × (e : Entry) × (slice_get log p ≡ Some e) × HasRank s r e × (p ≤ a.place.pos)
    appeared_by =
        let n = a.place.pos + 1 in
        let short : n ≤ length log = omega (arith, place_within) in
        let here : nat_lt a.place.pos n ≡ true = grind (arith, nat_tests) in
        let acted : r < gap_from (asked_in 0 (take n log)) s 1 = ltb-true r (gap_from (asked_in 0 (take n log)) s 1) (sym (in_front n short) ∙ here) in
        let x = appears_in (record { may = λ who e. ⊥; floor = λ l n. ⊥; shelf = [] }) s r 0 (take n log) (gap-run (asked_in 0 (take n log)) s 1 (top_rank (asked_in 0 (take n log)) + 1) r low acted) in
        let within = slice_get_within (take n log) x.0 x.1 x.2 in
        let size = length-take-le n log short in
        (x.0, x.1, subst (λ l. slice_get l x.0 ≡ Some x.1) (take-append-drop n log) (slice_get_front (take n log) (drop n log) x.0 x.1 x.2), x.3, omega (arith, within, size))

-- what acted in a front of a log acts in the log
pub acted_on : (log : List Entry) (n s r : ℕ) → r < gap_from (asked_in 0 (take n log)) s 1 → r < gap_from (asked_in 0 log) s 1
acted_on log n s r h = subst (λ l. r < gap_from (asked_in 0 l) s 1) (take-append-drop n log) (gap-longer (take n log) (drop n log) s r h)

-- of two fronts of what a journal's log holds, the one that isn't longer is how the other begins
pub fronts_agree : (law : Law) (seen : List Event) (front log : List Entry) → IsLegal law seen → IsFront Holds seen front → IsFront Holds seen log → length front ≤ length log
    → front ≡ take (length front) log
fronts_agree law seen front log legal was is longer =
    let whole = splits front log longer (λ p x y i j. holds_agree law seen p x y legal (was p x i) (is p y j)) in
    sym (ap (take (length front)) (sym whole) ∙ take-append_seam front (drop (length front) log))
