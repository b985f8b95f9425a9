use Rattle.std.proofs.Common.{arith, sym, ap, subst, ◌∙◌}
use Rattle.std.specs.Result.{result_ok}
use Rattle.store_records.specs.declared.fields.Stop.{Stop}
use Rattle.store_records.specs.Reading.{Fails, commit_fields}
use Rattle.store_records.proofs.Spellings.{commit_takes, commit_again}
use Rattle.store_records.proofs.spell.read_commit.Goals as goal

pub returns-in-Ok-clause-found : goal.returns-in-Ok-clause-found
returns-in-Ok-clause-found c = commit_takes c.args.bytes.now c.in-Ok.commit (λ i. omega (arith, c.type_inv.bytes i)) (ap result_ok c.in-Ok.ensures)

pub returns-in-Ok-clause-only : goal.returns-in-Ok-clause-only
returns-in-Ok-clause-only c = λ x spelled. sym (ap result_ok c.in-Ok.ensures) ∙ commit_again c.args.bytes.now x spelled

pub returns-in-Err-NoCommit-clause-only : goal.returns-in-Err-NoCommit-clause-only
returns-in-Err-NoCommit-clause-only c =
    let bytes = c.args.bytes.now in
    let none = subst (λ (e : Stop). Fails e (commit_fields bytes)) c.in-Err-NoCommit.field-0-is c.in-Err-NoCommit.ensures in
    λ x spelled. sym (ap result_ok none) ∙ commit_again bytes x spelled
