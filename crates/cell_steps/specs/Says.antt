-- What can be asked of a reply in a tally.
use Rattle.std.specs.Prelude.{Bool}
use Rattle.quorum_cell.specs.declared.message.Reply.{Reply}
use Rattle.quorum_cell.specs.Tallies.{open_to, open_within, open_at, says_sealed, sealed_within, sealed_at, mended_to, trimmed_to, gives_entry, failed_reply}
use Rattle.cell_steps.specs.declared.tally.Says.{Says}
use Rattle.cell_steps.specs.declared.tally.Says.TheVariants.{OpenTo, OpenWithin, OpenAt, Sealed, SealedWithin, SealedAt, MendedTo, TrimmedTo, GivesEntry, Failed}

abbrev pub says : Says → Reply → Bool
says (OpenTo n) r = open_to n r
says (OpenWithin n) r = open_within n r
says (OpenAt n) r = open_at n r
says Sealed r = says_sealed r
says (SealedWithin n) r = sealed_within n r
says (SealedAt n) r = sealed_at n r
says (MendedTo n) r = mended_to n r
says (TrimmedTo n) r = trimmed_to n r
says (GivesEntry p) r = gives_entry p r
says Failed r = failed_reply r
