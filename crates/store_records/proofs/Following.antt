-- One more record after the others.
use Rattle.std.proofs.Common.{◌≡◌, ℕ, ◌≤◌, cond, List, [], ◌∷◌, ◌++◌, Option, Some, None, ap, ◌∙◌}
use Rattle.std.proofs.lemmas.Bool.{le-leb}
use Rattle.std.proofs.lemmas.List.Sums.{fold-append}
use Rattle.store_records.specs.declared.change.Commit.{Commit}
use Rattle.store_records.specs.Format.{SpellsCommit}
use Rattle.store_records.specs.Spelled.{Saved, nothing_saved, committed, saved_next, saved_after, saved_of}
use Rattle.store_records.proofs.Spellings.{commit_again}

pub saved_of-more : (records : List (List ℕ)) (bytes : List ℕ) → saved_of (records ++ bytes ∷ []) ≡ saved_after (saved_of records) bytes
saved_of-more records bytes = fold-append saved_after (Some nothing_saved) records (bytes ∷ [])

-- a transaction whose cursor doesn't fall is the next
pub commit_follows : (s : Saved) (c : Commit) → s.cursor ≤ c.cursor → saved_next s (Some c) ≡ Some (committed s c)
commit_follows s c le = ap (λ t. cond t (Some (committed s c)) None) (le-leb _ _ le)

pub record_follows : (s : Saved) (c : Commit) (bytes : List ℕ) → s.cursor ≤ c.cursor → SpellsCommit bytes c → saved_after (Some s) bytes ≡ Some (committed s c)
record_follows s c bytes le spelled = ap (saved_next s) (commit_again bytes c spelled) ∙ commit_follows s c le

pub record_follows_all : (records : List (List ℕ)) (s : Saved) (c : Commit) (bytes : List ℕ) → saved_of records ≡ Some s → s.cursor ≤ c.cursor → SpellsCommit bytes c → saved_of (records ++ bytes ∷ []) ≡ Some (committed s c)
record_follows_all records s c bytes held le spelled =
    saved_of-more records bytes ∙ ap (λ (o : Option Saved). saved_after o bytes) held ∙ record_follows s c bytes le spelled
