use Rattle.std.proofs.Common.{ℕ, List, sym, subst}
use Rattle.store_records.specs.Format.{SpellsCommit}
use Rattle.local_store.specs.Keeping.{saved_by, commit_of_asked}
use Rattle.local_store.proofs.Keeping.{spells_next}
use Rattle.local_store.proofs.asked.BaseKeptValue.spell.Goals as goal

pub returns : goal.returns
returns c =
    let next = commit_of_asked c.args.change.now in
    let text : SpellsCommit c.from_vec.result next = subst (λ (bytes : List ℕ). SpellsCommit bytes next) (sym c.from_vec.ensures) c.in_ok-bytes.ensures in
    record { follows = λ records spelled. spells_next (saved_by c.args.self.now) next c.from_vec.result c.requires.can.rises text records spelled }
