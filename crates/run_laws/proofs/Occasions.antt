-- What rows were opened by such causes is at most what came of them.
use Rattle.std.proofs.Common.{◌≡◌, sym, ap, ◌∙◌, subst, inl, inr, ℕ, ◌+◌, ◌≤◌, Bool, true, not, ◌&&◌, List, [], ◌++◌, length, length-append, map, filter, count_by, arith}
use Rattle.std.proofs.lemmas.Bool.{and_parts, and_from, and_right, both_ways, not-true, not_from_false}
use Rattle.std.proofs.lemmas.List.{length-map}
use Rattle.std.proofs.lemmas.List.Sums.{length-filter}
use Rattle.delos_types.specs.declared.cause.Cause.{Cause}
use Rattle.script_text.specs.declared.faults.FaultLine.{FaultLine}
use Rattle.fitting_run.specs.declared.answered.Answered.{Answered}
use Rattle.fitting_run.specs.declared.told.Told.{Told}
use Rattle.fitting_run.specs.Faults.{is_alone, is_opened, occasions, picked}
use Rattle.fitting_run.specs.Yard.{Shown}
use Rattle.run_laws.specs.Ended.{Played, Fault, AllAfter, CameTo, LineEnded, RunEnded, counted, paid_by, pays}
use Rattle.run_laws.proofs.Behind.{Cut, cuts, after-both, after-imply, picked-all, picked-among, picked-apart, picked-split}
use Rattle.run_laws.proofs.Causes.{Ended}
use Rattle.run_laws.proofs.Members.{Among, among-filter, among-left, among-map, among-right, contained-among}
use Rattle.run_laws.proofs.Opened.{opened-by}
use Rattle.run_laws.proofs.Telling.{tell}
use Rattle.run_laws.proofs.Turns.{turn_of, turns-few, turns-most}

-- such a cause opened it, and it stands alone, or doesn't
abbrev pub opens_look : (ℕ → Cause → Bool) → List Answered → Answered → Bool
opens_look by = λ before b. is_opened by before b && is_alone before b

abbrev pub opens_other : (ℕ → Cause → Bool) → List Answered → Answered → Bool
opens_other by = λ before b. is_opened by before b && not (is_alone before b)

abbrev pub fault_turn : Fault → ℕ × ℕ
fault_turn f = (f.node, f.phase)

-- the turn of a fault that came
pub came-turn : (faults more : List Fault) (k : Cause) (node phase : ℕ) → CameTo faults k node phase → ((f : Fault) → Among faults f → f.cause ≡ k → f.node ≡ node → Among more f) → Among (map fault_turn more) (node, phase)
came-turn faults more k node phase c keeps =
    let f : Fault = c.fault in
    let there = among-map fault_turn more f (keeps f (contained-among faults f c.among) c.cause_is c.node_is) in
    subst (λ n. Among (map fault_turn more) (n, phase)) c.node_is (subst (λ p. Among (map fault_turn more) (f.node, p)) c.phase_is there)

-- no row stands alone and doesn't
pub occasions-most : (by : ℕ → Cause → Bool) (told : List Answered) → occasions by told ≤ length told
occasions-most by told =
    let looks = opens_look by in
    let others = opens_other by in
    let apart = picked-apart looks others [] told (λ b x first other.
    let is = and_parts (is_opened by b x) (is_alone b x) first in
    let is_not = and_parts (is_opened by b x) (not (is_alone b x)) other in
    both_ways (is_alone b x) (not-true _ is_not.1) is.1) in
    omega (arith, apart, turns-most (picked others [] told))

module _ (played : List Played) (fault_lines : List FaultLine) (o : Told) (yard : Shown) (e : RunEnded played fault_lines o yard) where
  pub all_ended : AllAfter (Ended played fault_lines o yard e) [] played
  all_ended = after-both (Cut played) (LineEnded e.log e.tails e.faults e.ends) (Ended played fault_lines o yard e) [] played (λ b t cut line. (cut, line)) (cuts [] played) e.lines

  module _ (by : ℕ → Cause → Bool) where
    -- a look of its own failed by such a cause, and it isn't an opened row that stands alone
    abbrev pays_other : List Played → Played → Bool
    pays_other b t = paid_by by t && not (opens_look by (map tell b) (tell t))

    abbrev caused : List Fault
    caused = filter (λ (f : Fault). by f.node f.cause) e.faults

    abbrev turns : List (ℕ × ℕ)
    turns = map (λ (t : Played). turn_of (tell t)) (picked pays_other [] played) ++ map fault_turn caused

    look-pays : (b : List Played) (t : Played) → Ended played fault_lines o yard e b t → opens_look by (map tell b) (tell t) ≡ true → paid_by by t ≡ true
    look-pays b t h opens =
        let both = and_parts (is_opened by (map tell b) (tell t)) (is_alone (map tell b) (tell t)) opens in
        let w = opened-by played fault_lines o yard e by b t h both.0 in
        elim w.rests [
          | inl paid ↦ ap (pays (by t.line.node)) paid ∙ w.is
          | inr came ↦ absurd (both_ways (is_alone (map tell b) (tell t)) came.0 both.1)
        ]

    other-turn : (b : List Played) (t : Played) → Ended played fault_lines o yard e b t → (pays_other b t ≡ true → Among (picked pays_other [] played) t) → opens_other by (map tell b) (tell t) ≡ true → Among turns (turn_of (tell t))
    other-turn b t h is_picked opens =
        let both = and_parts (is_opened by (map tell b) (tell t)) (not (is_alone (map tell b) (tell t))) opens in
        let w = opened-by played fault_lines o yard e by b t h both.0 in
        let own = map (λ (t : Played). turn_of (tell t)) (picked pays_other [] played) in
        elim w.rests [
          | inl paid ↦
              let pays_it : paid_by by t ≡ true = ap (pays (by t.line.node)) paid ∙ w.is in
              let not_first = and_right (is_opened by (map tell b) (tell t)) (is_alone (map tell b) (tell t)) (not-true _ both.1) in
              let m = is_picked (and_from (paid_by by t) (not (opens_look by (map tell b) (tell t))) pays_it (not_from_false _ not_first)) in
              among-left own (map fault_turn caused) (turn_of (tell t)) (among-map (λ (t : Played). turn_of (tell t)) (picked pays_other [] played) t m)
          | inr came ↦
              among-right own (map fault_turn caused) (turn_of (tell t)) (came-turn e.faults caused w.cause t.line.node t.line.phase came.1
              (λ f m cause node. among-filter (λ (f : Fault). by f.node f.cause) e.faults f m
              (subst (λ n. by n f.cause ≡ true) (sym node) (subst (λ k. by t.line.node k ≡ true) (sym cause) w.is))))
        ]

    pub occasions-few : occasions by (map tell played) ≤ counted by played e.faults
    occasions-few =
        let looks = picked-split tell (opens_look by) (paid_by by) [] played
        (after-imply (Ended played fault_lines o yard e) (λ b t. opens_look by (map tell b) (tell t) ≡ true → paid_by by t ≡ true) [] played look-pays all_ended) in
        let others = turns-few (picked (opens_other by) [] (map tell played)) turns (picked-all tell (opens_other by) (λ a. Among turns (turn_of a)) [] played
        (after-both (Ended played fault_lines o yard e) (λ b t. pays_other b t ≡ true → Among (picked pays_other [] played) t) (λ b t. opens_other by (map tell b) (tell t) ≡ true → Among turns (turn_of (tell t))) [] played
        other-turn all_ended (picked-among pays_other [] played))) in
        let own = picked pays_other [] played in
        let few : length turns ≡ length own + count_by (λ (f : Fault). by f.node f.cause) e.faults =
        length-append (map (λ (t : Played). turn_of (tell t)) own) (map fault_turn caused)
        ∙ ap (λ n. n + length (map fault_turn caused)) (length-map own (λ (t : Played). turn_of (tell t)))
        ∙ ap (λ n. length own + n) (length-map caused fault_turn ∙ length-filter (λ (f : Fault). by f.node f.cause) e.faults) in
        omega (arith, looks, others, few)
