-- Each cause stands in the yard, and came as often as the rows need that it opened, or that are late.
use Rattle.std.proofs.Common.{◌≡◌, sym, subst, ℕ, ◌≤◌, ◌-◌, min, Bool, true, List, [], length, map, filter, arith}
use Rattle.std.specs.List.{AllByRecursion}
use Rattle.std.proofs.lemmas.List.{length-map}
use Rattle.std.proofs.lemmas.List.Sums.{length-filter, count_by-le-length}
use Rattle.delos_types.specs.declared.cause.Cause.{Cause}
use Rattle.script_text.specs.declared.faults.FaultLine.{FaultLine}
use Rattle.fitting_run.specs.declared.answered.Answered.{Answered}
use Rattle.fitting_run.specs.declared.told.Told.{Told}
use Rattle.fitting_run.specs.Answered.{cause_of, is_late}
use Rattle.fitting_run.specs.Faults.{FaultsAreCounted, finds_full, lacks_quorum, lacks_register, lacks_store, occasions, stands, turns_of}
use Rattle.fitting_run.specs.Fits.{told_of}
use Rattle.fitting_run.specs.Tests.{where_some}
use Rattle.fitting_run.specs.Yard.{Shown}
use Rattle.run_laws.specs.Ended.{Played, RunEnded, counted, most_faults}
use Rattle.run_laws.proofs.Behind.{after-each}
use Rattle.run_laws.proofs.Causes.{Ended, cause-stands, late-came}
use Rattle.run_laws.proofs.Families.{all-few}
use Rattle.run_laws.proofs.Members.{Among, all-filter, all-test}
use Rattle.run_laws.proofs.Occasions.{all_ended, came-turn, fault_turn, occasions-few, occasions-most}
use Rattle.run_laws.proofs.Telling.{tell, told-is}
use Rattle.run_laws.proofs.Tests.{where_some-from}
use Rattle.run_laws.proofs.Turns.{turn_of, turns-few, turns-most}

-- a count that ended at most_faults is still at least what so few rows need
capped : (n c m : ℕ) → n ≤ c → n ≤ 20000 → min c most_faults ≤ m → n ≤ m
capped n c m low few counts = omega (arith, low, few, counts)

-- .. or at one less
spared : (n c m : ℕ) → n ≤ c → n ≤ 20000 → min c (most_faults - 1) ≤ m → n ≤ m
spared n c m low few counts = omega (arith, low, few, counts)

module _ (played : List Played) (fault_lines : List FaultLine) (o : Told) (yard : Shown) (e : RunEnded played fault_lines o yard) where
  abbrev late_rows : List Answered
  late_rows = filter (λ a. is_late a.row.outcome) (map tell played)

  few_told : length (map tell played) ≤ 20000
  few_told = let few = e.few in omega (arith, few, length-map played tell)

  late-turns : AllByRecursion (λ a. Among (map fault_turn e.faults) (turn_of a)) late_rows
  late-turns =
      all-filter tell (λ a. is_late a.row.outcome) (λ a. Among (map fault_turn e.faults) (turn_of a)) played
      (after-each (Ended played fault_lines o yard e) (λ t. is_late t.row.outcome ≡ true → Among (map fault_turn e.faults) (turn_of (tell t))) [] played
      (λ b t h late. let c = late-came played fault_lines o yard e b t h late in came-turn e.faults e.faults c.0 t.line.node t.line.phase c.1 (λ f m cause node. m)) (all_ended played fault_lines o yard e))

  late-few : turns_of late_rows ≤ 20000
  late-few = let few = few_told in omega (arith, few, turns-most late_rows, length-filter (λ (a : Answered). is_late a.row.outcome) (map tell played), count_by-le-length (λ (a : Answered). is_late a.row.outcome) (map tell played))

  counted-few : (by : ℕ → Cause → Bool) (m : ℕ) → min (counted by played e.faults) most_faults ≤ m → occasions by (map tell played) ≤ m
  counted-few by m counts =
      capped (occasions by (map tell played)) (counted by played e.faults) m (occasions-few played fault_lines o yard e by)
      (let few = few_told in omega (arith, few, occasions-most by (map tell played))) counts

  told-counted : FaultsAreCounted (map tell played) yard
  told-counted = record {
    causes = all-test tell (λ a. where_some (cause_of a.row.outcome) (stands yard a.line.node)) played
        (after-each (Ended played fault_lines o yard e) (λ t. where_some (cause_of t.row.outcome) (stands yard t.line.node) ≡ true) [] played
        (λ b t h. where_some-from (cause_of t.row.outcome) (stands yard t.line.node) (λ k is. cause-stands played fault_lines o yard e b t k h is)) (all_ended played fault_lines o yard e));
    lacks = λ cell. let few = occasions-few played fault_lines o yard e (lacks_quorum cell) in let counts = e.came.lacks cell in omega (arith, few, counts);
    refusals = λ cell. counted-few (finds_full cell) _ (e.came.refusals cell);
    register = counted-few lacks_register _ e.came.register;
    stores = λ node. spared (occasions (lacks_store node) (map tell played)) (counted (lacks_store node) played e.faults) _ (occasions-few played fault_lines o yard e (lacks_store node))
        (let few = few_told in omega (arith, few, occasions-most (lacks_store node) (map tell played))) (e.came.stores node);
    late = all-few played e.faults yard e.came (turns_of late_rows)
        (let few = turns-few late_rows (map fault_turn e.faults) late-turns in omega (arith, few, length-map e.faults fault_turn))
        (let few = late-few in omega (arith, few));
  }

pub faults-counted : (played : List Played) (fault_lines : List FaultLine) (o : Told) (yard : Shown) → RunEnded played fault_lines o yard → FaultsAreCounted (told_of (map (λ t. t.line) played) o) yard
faults-counted played fault_lines o yard e =
    let told : told_of (map (λ (t : Played). t.line) played) o ≡ map tell played = told-is played o e.rows in
    subst (λ told. FaultsAreCounted told yard) (sym told) (told-counted played fault_lines o yard e)
