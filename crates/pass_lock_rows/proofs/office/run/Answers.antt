use Rattle.std.proofs.Common.{rules, ◌≡◌, ◌<◌, ℕ, List, sym, subst}
use Rattle.std.specs.List.{All}
use Rattle.pass_lock.specs.Pass.{all_parts, whole}
use Rattle.pass_lock_rows.specs.declared.desk.Event.{Event}
use Rattle.pass_lock_rows.specs.Turns.{IsDone}
use Rattle.pass_lock_rows.proofs.Clerks.{parts_of}
use Rattle.pass_lock_rows.proofs.Closing.{all_back, all_done, only_clerks}
use Rattle.pass_lock_rows.proofs.office.run.Goals as goal

pub close-requires-clause-all : goal.close-requires-clause-all
close-requires-clause-all g c = let first : c.in_ok-lock.main ≡ whole c.in_ok-lock.lock = search rules in parts_of 0 all_parts (whole c.in_ok-lock.lock) c.in_ok-lock.main first

pub close-requires-2-clause-all : goal.close-requires-2-clause-all
close-requires-2-clause-all g c = all_back c.in_ok-lock.lock c.args.count c.args.turns c.run_clerks.new.main c.run_clerks.ensures c.ranges.count.fits

pub returns-clause-done : goal.returns-clause-done
returns-clause-done g c = subst (λ (j : List Event). (who : ℕ) → who < c.args.count → IsDone c.args.turns who j) (sym c.into_parts.ensures)
    (all_done c.in_ok-lock.lock c.args.count c.args.turns c.run_clerks.new.main c.run_clerks.ensures c.close-2.result c.close-2.ensures.seen)

pub returns-clause-nobody_else : goal.returns-clause-nobody_else
returns-clause-nobody_else g c = subst (λ (j : List Event). All (λ e. e.who < c.args.count) j) (sym c.into_parts.ensures)
    (only_clerks c.in_ok-lock.lock c.args.count c.args.turns c.run_clerks.new.main c.run_clerks.ensures c.close-2.result c.close-2.ensures.seen c.close-2.ensures.signed)
