-- What a change or a record leaves of a server of which some bytes spell all, and what the records spell then.
use Rattle.std.proofs.Common.{◌≡◌, ℕ, ◌+◌, ◌-◌, ◌^◌, ◌<◌, ◌≤◌, Bool, true, false, cond, eqb, List, [], ◌∷◌, ◌++◌, length, drop, Option, Some, None, Result, Ok, Err, refl, sym, ap, subst, ◌∙◌, arith}
use Rattle.std.specs.Prelude.{IfOk, IfSome, Vec}
use Rattle.std.specs.declared.alloc.Global.{Global}
use Rattle.journal_core.specs.Records.{payloads}
use Rattle.journal_core.proofs.Closing.{payloads-push}
use Rattle.std.proofs.lemmas.Bool.{eqb-true, ltb-true, lt-ltb}
use Rattle.std.proofs.lemmas.List.{length_push, length-drop}
use Rattle.std.proofs.lemmas.List.Elements.{All-nil, All-push, All-drop}
use Rattle.delos_types.specs.declared.entry.Entry.{Entry}
use Rattle.delos_types.specs.Spelling.{IsSpellable}
use Rattle.quorum_cell.specs.declared.message.Ask.{Ask}
use Rattle.quorum_cell.specs.declared.message.Ask.TheVariants.{Store, Seal, Tail, Repair, Read, Trim}
use Rattle.quorum_cell.specs.Servers.{Server, length_of, writes, wrote}
use Rattle.server_records.specs.declared.record.Record.{Record}
use Rattle.server_records.specs.declared.record.Record.TheVariants.{Stored, Sealed, Trimmed, Compacted}
use Rattle.server_records.specs.Format.{SpellsRecord, IsSpellableRecord}
use Rattle.server_records.specs.Reading.{record_of}
use Rattle.server_records.specs.Spelled.{server_of, follows, holding, holding_next}
use Rattle.server_records.proofs.Following.{server_of-more, follows_more}
use Rattle.log_server.specs.Kind.{CanWrite, SpellsChange, IsSound}

pub sound_wrote : (s : Server) (a : Ask) → IsSound s → CanWrite s a → IsSound (wrote s a)
sound_wrote s (Store p e) h can = record { small = can.small; sealed = h.sealed; entries = All-push IsSpellable s.entries e h.entries can.spellable.1 }
sound_wrote s Seal h can = record { small = can.small; sealed = λ n is. let same : length_of s ≡ n = cc in omega (arith, same, h.small); entries = h.entries }
sound_wrote s Tail h can = absurd can.spellable
sound_wrote s (Repair p e) h can = record { small = can.small; sealed = h.sealed; entries = All-push IsSpellable s.entries e h.entries can.spellable.1 }
sound_wrote s (Read p) h can = absurd can.spellable
sound_wrote s (Trim n) h can = record { small = can.small; sealed = h.sealed; entries = All-drop IsSpellable (n - s.base) s.entries h.entries }

pub sound_holding : (first : Bool) (s : Server) (r : Record) → IsSound s → IsSpellableRecord r → follows first s r ≡ true → IsSound (holding s r)
sound_holding first s (Stored p e) h can next =
    let here : p ≡ length_of s = eqb-true _ _ next in
    record { small = omega (arith, here, can.0, length_push s.entries e); sealed = h.sealed; entries = All-push IsSpellable s.entries e h.entries can.1 }
sound_holding first s Sealed h can next = record { small = h.small; sealed = λ n is. let same : length_of s ≡ n = cc in omega (arith, same, h.small); entries = h.entries }
sound_holding first s (Trimmed n) h can next =
    let above : s.base < n = ltb-true _ _ next in
    record { small = omega (arith, above, can, h.small, length-drop (n - s.base) s.entries); sealed = h.sealed; entries = All-drop IsSpellable (n - s.base) s.entries h.entries }
sound_holding first s (Compacted base sealed_at) h can next = record { small = omega (arith, can.0); sealed = can.1; entries = All-nil IsSpellable }

pub may_be_next : (first : Bool) (s : Server) (r : Record) → follows first s r ≡ true → follows true s r ≡ true
may_be_next first s (Stored p e) next = next
may_be_next first s Sealed next = next
may_be_next first s (Trimmed n) next = next
may_be_next first s (Compacted base sealed_at) next = refl

pub can_trim : (s : Server) (n : ℕ) → length_of s ≤ 2 ^ 32 → s.base < n → n ≤ 2 ^ 32 → CanWrite s (Trim n)
can_trim s n short above small = record { wanted = lt-ltb s.base n above; small = omega (arith, short, above, small, length-drop (n - s.base) s.entries); spellable = small }

-- ---- one record more

-- what the records spell with it
more : (records : List (List ℕ)) (before : ℕ) (s : Server) (bytes : List ℕ) (read : Option Record) → length records ≡ before → server_of records ≡ Some s → read ≡ record_of bytes
    → server_of (records ++ bytes ∷ []) ≡ holding_next (eqb before 0) s read
more records before s bytes read counted held is =
    server_of-more records s bytes held ∙ ap (λ n. holding_next (eqb n 0) s (record_of bytes)) counted ∙ ap (holding_next (eqb before 0) s) (sym is)

pub more_follows : (records : List (List ℕ)) (before : ℕ) (s after : Server) (bytes : List ℕ) (read : Option Record) (r : Record) (next : Bool) → length records ≡ before → server_of records ≡ Some s → read ≡ record_of bytes
    → read ≡ Some r → next ≡ follows (eqb before 0) s r → next ≡ true → after ≡ holding s r → server_of (records ++ bytes ∷ []) ≡ Some after
more_follows records before s after bytes read r next counted held is some tests fine held_then =
    more records before s bytes read counted held is ∙ ap (holding_next (eqb before 0) s) some ∙ ap (λ t. cond t (Some (holding s r)) None) (sym tests ∙ fine) ∙ ap Some (sym held_then)

pub more_is_none : (records : List (List ℕ)) (before : ℕ) (s : Server) (bytes : List ℕ) (read : Option Record) → length records ≡ before → server_of records ≡ Some s → read ≡ record_of bytes → read ≡ None
    → server_of (records ++ bytes ∷ []) ≡ None
more_is_none records before s bytes read counted held is none = more records before s bytes read counted held is ∙ ap (holding_next (eqb before 0) s) none

pub more_is_refused : (records : List (List ℕ)) (before : ℕ) (s : Server) (bytes : List ℕ) (read : Option Record) (r : Record) (next : Bool) → length records ≡ before → server_of records ≡ Some s → read ≡ record_of bytes
    → read ≡ Some r → next ≡ follows (eqb before 0) s r → next ≡ false → server_of (records ++ bytes ∷ []) ≡ None
more_is_refused records before s bytes read r next counted held is some tests refused =
    more records before s bytes read counted held is ∙ ap (holding_next (eqb before 0) s) some ∙ ap (λ t. cond t (Some (holding s r)) None) (sym tests ∙ refused)

-- the record of a change
pub change_more : (records : List (List ℕ)) (s : Server) (a : Ask) (bytes : List ℕ) → server_of records ≡ Some s → CanWrite s a → SpellsChange a bytes → server_of (records ++ bytes ∷ []) ≡ Some (wrote s a)
change_more records s (Store p e) bytes held can spelled = follows_more records s (Store p e) (Stored p e) bytes held can.wanted refl spelled
change_more records s Seal bytes held can spelled = follows_more records s Seal Sealed bytes held can.wanted refl spelled
change_more records s Tail bytes held can spelled = absurd spelled
change_more records s (Repair p e) bytes held can spelled = follows_more records s (Repair p e) (Stored p e) bytes held can.wanted refl spelled
change_more records s (Read p) bytes held can spelled = absurd spelled
change_more records s (Trim n) bytes held can spelled = follows_more records s (Trim n) (Trimmed n) bytes held can.wanted refl spelled

pub more_changes : {E : Type 0} (result : Result (List ℕ) E) (s : Server) (a : Ask) → CanWrite s a → IfOk result (λ bytes. SpellsChange a bytes) → (records : List (List ℕ)) → server_of records ≡ Some s
    → IfOk result (λ bytes. server_of (records ++ bytes ∷ []) ≡ Some (wrote s a))
more_changes (Ok bytes) s a can spelled records held = change_more records s a bytes held can spelled
more_changes (Err e) s a can spelled records held = tt

pub spelled_of : (o : Option Record) (r : Record) (bytes : List ℕ) → o ≡ Some r → IfSome o (λ x. SpellsRecord bytes x) → IsSpellableRecord r
spelled_of None r bytes is spelled = absurd (cc)
spelled_of (Some x) r bytes is spelled = let same : x ≡ r = cc in subst IsSpellableRecord same spelled.1

-- the records that spell a server, and behind them that of a change
pub compacted_more : (vs after : List (Vec ℕ Global)) (v : Vec ℕ Global) (s : Server) (a : Ask) (bytes : List ℕ) → server_of (payloads vs) ≡ Some s → CanWrite s a → SpellsChange a bytes → v.items ≡ bytes → after ≡ vs ++ v ∷ []
    → server_of (payloads after) ≡ Some (wrote s a)
compacted_more vs after v s a bytes held can spelled is grown =
    ap (λ (ws : List (Vec ℕ Global)). server_of (payloads ws)) grown ∙ ap server_of (payloads-push vs v) ∙ ap (λ (b : List ℕ). server_of (payloads vs ++ b ∷ [])) is
    ∙ change_more (payloads vs) s a bytes held can spelled
