use Rattle.journal_laws.proofs.Counting.{as_long}
use Rattle.journal_laws.proofs.seals.a_list_with_all_numbers_is_as_long.Goals as goal

pub returns : goal.returns
returns c = λ n numbers all. as_long n numbers all
