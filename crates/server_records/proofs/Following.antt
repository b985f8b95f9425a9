-- Records follow the server's own table.
use Rattle.std.proofs.Common.{◌≡◌, ℕ, Bool, true, false, ◌&&◌, cond, eqb, List, [], ◌∷◌, ◌++◌, length, Option, Some, None, ap, sym, subst, ◌∙◌, arith}
use Rattle.std.proofs.lemmas.Bool.{ne_eqb}
use Rattle.std.proofs.lemmas.List.Sums.{fold-append}
use Rattle.quorum_cell.specs.declared.message.Ask.{Ask}
use Rattle.quorum_cell.specs.declared.message.Ask.TheVariants.{Store, Seal, Tail, Repair, Read, Trim}
use Rattle.quorum_cell.specs.Servers.{Server, writes, wrote}
use Rattle.server_records.specs.declared.record.Record.{Record}
use Rattle.server_records.specs.declared.record.Record.TheVariants.{Stored, Sealed, Trimmed}
use Rattle.server_records.specs.Format.{SpellsRecord}
use Rattle.server_records.specs.Reading.{record_of}
use Rattle.server_records.specs.Spelled.{empty_server, follows, holding, holding_next, server_after, server_of, record_for}
use Rattle.server_records.proofs.Spellings.{record_again}

right_true : (a b : Bool) → (a && b) ≡ true → b ≡ true
right_true true b e = e
right_true false b e = absurd (cc)

taken : (first : Bool) (s : Server) (r : Record) → follows first s r ≡ true → holding_next first s (Some r) ≡ Some (holding s r)
taken first s r e = ap (λ t. cond t (Some (holding s r)) None) e

-- the record of a write that the table wants is the next one, the first or a further one
pub writes_next : (first : Bool) (s : Server) (a : Ask) (r : Record) → writes s a ≡ true → record_for a ≡ Some r → holding_next first s (Some r) ≡ Some (wrote s a)
writes_next first s (Store p e) r w is = let same : Stored p e ≡ r = cc in subst (λ (x : Record). holding_next first s (Some x) ≡ Some (wrote s (Store p e))) same (taken first s (Stored p e) (right_true _ _ w))
writes_next first s Seal r w is = let same : Sealed ≡ r = cc in subst (λ (x : Record). holding_next first s (Some x) ≡ Some (wrote s Seal)) same (taken first s Sealed w)
writes_next first s Tail r w is = absurd (cc)
writes_next first s (Repair p e) r w is = let same : Stored p e ≡ r = cc in subst (λ (x : Record). holding_next first s (Some x) ≡ Some (wrote s (Repair p e))) same (taken first s (Stored p e) (right_true _ _ w))
writes_next first s (Read p) r w is = absurd (cc)
writes_next first s (Trim n) r w is = let same : Trimmed n ≡ r = cc in subst (λ (x : Record). holding_next first s (Some x) ≡ Some (wrote s (Trim n))) same (taken first s (Trimmed n) w)

-- so are its bytes
pub follows_next : (first : Bool) (s : Server) (a : Ask) (r : Record) (bytes : List ℕ) → writes s a ≡ true → record_for a ≡ Some r → SpellsRecord bytes r → holding_next first s (record_of bytes) ≡ Some (wrote s a)
follows_next first s a r bytes w is spelled = ap (holding_next first s) (record_again bytes r spelled) ∙ writes_next first s a r w is

-- and so is one more record after the others
pub server_of-more : (records : List (List ℕ)) (s : Server) (bytes : List ℕ) → server_of records ≡ Some s → server_of (records ++ bytes ∷ []) ≡ holding_next (eqb (length records) 0) s (record_of bytes)
server_of-more [] s bytes held = let same : empty_server ≡ s = cc in ap (λ (x : Server). holding_next true x (record_of bytes)) same
server_of-more (front ∷ others) s bytes held =
    let further : eqb (length (front ∷ others)) 0 ≡ false = ne_eqb (length (front ∷ others)) 0 (λ e. omega arith) in
    fold-append server_after (holding_next true empty_server (record_of front)) others (bytes ∷ []) ∙ ap (λ (o : Option Server). server_after o bytes) held
    ∙ ap (λ (first : Bool). holding_next first s (record_of bytes)) (sym further)

pub follows_more : (records : List (List ℕ)) (s : Server) (a : Ask) (r : Record) (bytes : List ℕ) → server_of records ≡ Some s → writes s a ≡ true → record_for a ≡ Some r → SpellsRecord bytes r → server_of (records ++ bytes ∷ []) ≡ Some (wrote s a)
follows_more records s a r bytes held w is spelled = server_of-more records s bytes held ∙ follows_next (eqb (length records) 0) s a r bytes w is spelled
