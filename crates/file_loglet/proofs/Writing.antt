-- What the records of a server ask for, and what a restart finds.
use Rattle.std.proofs.Common.{◌≡◌, ℕ, ◌+◌, ◌-◌, ◌^◌, ◌<◌, ◌≤◌, ◌⊎◌, Bool, true, false, cond, not, eqb, ltb, lt-ltb, List, [], ◌∷◌, ◌++◌, length, length-append, length-drop, drop, Option, Some, None, refl, sym, ap, subst, ◌∙◌, arith, inl, inr}
use Rattle.std.specs.Prelude.{option_map, unwrap_or, Err}
use Rattle.std.proofs.lemmas.Bool.Decides.{nat_tests}
use Rattle.delos_types.specs.declared.entry.Entry.{Entry}
use Rattle.journal_core.specs.Journal.{View, WithOrWithout, LeavesRecords, Survives}
use Rattle.quorum_cell.specs.declared.message.Ask.{Ask}
use Rattle.quorum_cell.specs.declared.message.Ask.TheVariants.{Store, Seal, Tail, Repair, Read, Trim}
use Rattle.quorum_cell.specs.Servers.{Server, length_of, is_sealed, writes, wrote, written, restarted}
use Rattle.server_records.specs.declared.record.Record.{Record}
use Rattle.server_records.specs.declared.record.Record.TheVariants.{Stored, Sealed, Trimmed, Compacted}
use Rattle.server_records.specs.Format.{SpellsRecord}
use Rattle.server_records.specs.Reading.{record_of}
use Rattle.server_records.specs.Spelled.{empty_server, holding_next, server_of}
use Rattle.server_records.proofs.Spellings.{record_again}
use Rattle.server_records.proofs.Following.{writes_next, server_of-more}
use Rattle.file_loglet.specs.declared.extent.Change.{Change}
use Rattle.file_loglet.specs.declared.extent.Change.TheVariants.{Storing, Sealing, Trimming}
use Rattle.file_loglet.specs.declared.extent.Extent.{Extent}
use Rattle.file_loglet.specs.Extents.{extent_of, extent_after, extent_restarted}
use Rattle.journal_core.specs.declared.fault.Fault.{Fault}
use Rattle.journal_core.specs.declared.fault.Fault.TheVariants.{Disk, Memory}
use Rattle.disk_model.specs.Disk.{bumped}
use Rattle.file_loglet.specs.Held.{Held, ask_by, ask_of, spelled, held_by, Changes, Tears, IsHeldBy, Restores}

asks : (bytes : List ℕ) (r : Record) → SpellsRecord bytes r → ask_of bytes ≡ ask_by (Some r)
asks bytes r s = ap ask_by (record_again bytes r s)

pub store_asked : (now : Held) (j : View) (x : Extent) (torn : Option Change) (e : Entry) (made bytes : List ℕ) → held_by j ≡ now → IsHeldBy j x torn → SpellsRecord made (Stored x.length e) → bytes ≡ made → ask_of bytes ≡ Store (length_of now.server) e
store_asked now j x torn e made bytes view h s same =
    ap ask_of same ∙ asks made (Stored x.length e) s
    ∙ ap (λ n. Store n e) (ap (λ (y : Extent). y.length) h.extent_is ∙ ap (λ (w : Held). length_of w.server) view)

pub asked : (r : Record) (made bytes : List ℕ) → SpellsRecord made r → bytes ≡ made → ask_of bytes ≡ ask_by (Some r)
asked r made bytes s same = ap ask_of same ∙ asks made r s

pub may_store : (s : Server) (e : Entry) → is_sealed s ≡ false → writes s (Store (length_of s) e) ≡ true
may_store s e h = rw h (grind (arith, nat_tests))

-- the record of a write that the server wants is the next one
next_of : (first : Bool) (s : Server) (o : Option Record) → writes s (ask_by o) ≡ true → holding_next first s o ≡ Some (wrote s (ask_by o))
next_of first s None w = absurd (cc)
next_of first s (Some (Stored p e)) w = writes_next first s (Store p e) (Stored p e) w refl
next_of first s (Some Sealed) w = writes_next first s Seal Sealed w refl
next_of first s (Some (Trimmed n)) w = writes_next first s (Trim n) (Trimmed n) w refl
next_of first s (Some (Compacted base sealed_at)) w = absurd (cc)

wrote_alone : (s : Server) (o : Option Record) → (s.up ≡ true) × (s.torn ≡ None) → ((wrote s (ask_by o)).up ≡ true) × ((wrote s (ask_by o)).torn ≡ None)
wrote_alone s None h = h
wrote_alone s (Some (Stored p e)) h = h
wrote_alone s (Some Sealed) h = h
wrote_alone s (Some (Trimmed n)) h = h
wrote_alone s (Some (Compacted base sealed_at)) h = h

-- a server that is up and has nothing torn
bare_is : (s : Server) → (s.up ≡ true) × (s.torn ≡ None) → record s { up = true; torn = None } ≡ s
bare_is s h = ap (λ (u : Bool). record s { up = u; torn = None }) (sym h.0) ∙ ap (λ (t : Option Ask). record s { torn = t }) (sym h.1)

-- nothing was kept
as_it_was : (s : Server) (torn : Option Ask) → (s.up ≡ true) × (s.torn ≡ None) → (b : Bool) → Some s ≡ Some (restarted (record s { up = b; torn = torn }) false torn)
as_it_was s None h b = ap Some (sym (bare_is s h))
as_it_was s (Some a) h b = ap Some (sym (bare_is s h))

-- all was kept
kept_whole : (s : Server) (a : Ask) (b : Bool) → writes s a ≡ true → (s.up ≡ true) × (s.torn ≡ None) → Some (wrote s a) ≡ Some (restarted (record s { up = b; torn = Some a }) true (Some a))
kept_whole s a b w h =
    let here : wrote s a ≡ written s a = rw w refl in
    ap Some here ∙ ap (λ (x : Server). Some (written x a)) (sym (bare_is s h))

pub base_is : (now : Held) (j : View) (x : Extent) (torn : Option Change) → held_by j ≡ now → IsHeldBy j x torn → x.base ≡ now.server.base
base_is now j x torn view h = ap (λ (y : Extent). y.base) h.extent_is ∙ ap (λ (w : Held). w.server.base) view

pub may_trim : (now : Held) (j : View) (x : Extent) (torn : Option Change) (n : ℕ) → held_by j ≡ now → IsHeldBy j x torn → x.base < n → writes now.server (Trim n) ≡ true
may_trim now j x torn n view h above = let e = base_is now j x torn view h in let below : now.server.base < n = omega arith in grind (arith, nat_tests)

-- What a crash leaves spells the server, with the torn write or without.
found_server : (s : Server) (records : List (List ℕ)) (torn : Option (List ℕ)) (change : Option Change) (up : Bool) (found : List (List ℕ)) → server_of records ≡ Some s → (s.up ≡ true) × (s.torn ≡ None) → Tears s torn change
    → (found ≡ records) ⊎ ((p : List ℕ) × (torn ≡ Some p) × (found ≡ records ++ p ∷ []))
    → (kept : Bool) × (server_of found ≡ Some (restarted (record s { up = up; torn = option_map ask_of torn }) kept (option_map ask_of torn)))
found_server s records torn change up found is alone tears (inl same) = (false, ap server_of same ∙ is ∙ as_it_was s (option_map ask_of torn) alone up)
found_server s records None change up found is alone tears (inr more) = absurd (let e = more.1 in cc)
found_server s records (Some bytes) None up found is alone tears (inr more) = absurd tears
found_server s records (Some bytes) (Some change) up found is alone tears (inr more) =
    let same : bytes ≡ more.0 = (let e = more.1 in cc) in
    let next : server_of (records ++ bytes ∷ []) ≡ Some (wrote s (ask_of bytes)) =
    server_of-more records s bytes is ∙ next_of (eqb (length records) 0) s (record_of bytes) tears.0 in
    (true, ap server_of more.2 ∙ ap (λ (p : List ℕ). server_of (records ++ p ∷ [])) (sym same) ∙ next ∙ kept_whole s (ask_of bytes) up tears.0 alone)

pub found_held : (held : Held) (j : View) (x : Extent) (change : Option Change) → held_by j ≡ held → IsHeldBy j x change
    → LeavesRecords held.disk (λ found. (kept : Bool) × (server_of found ≡ Some (restarted held.server kept held.server.torn)))
found_held held j x change view h =
    subst (λ (w : Held). LeavesRecords w.disk (λ found. (kept : Bool) × (server_of found ≡ Some (restarted w.server kept w.server.torn)))) view
    (λ image is. found_server (spelled j.records) j.records j.torn change (not j.shut) _ h.is h.alone h.tears (h.survives.left image is))

-- What is held beside a journal whose records spell this server, and in which nothing is torn.
held_of : (now : View) (s : Server) (x : Extent) → server_of now.records ≡ Some s → (s.up ≡ true) × (s.torn ≡ None) → x ≡ extent_of s → x.length ≤ 2 ^ 32 → now.torn ≡ None → Survives now → IsHeldBy now x None
held_of now s x is alone extent small torn survives =
    let same : s ≡ spelled now.records = sym (ap (λ (o : Option Server). unwrap_or o empty_server) is) in
    record {
      is = is ∙ ap Some same;
      alone = subst (λ (y : Server). (y.up ≡ true) × (y.torn ≡ None)) same alone;
      extent_is = extent ∙ ap extent_of same;
      small = small;
      tears = subst (λ (t : Option (List ℕ)). Tears (spelled now.records) t None) (sym torn) tt;
      survives = survives;
    }

running : (shut : Bool) → not shut ≡ true → shut ≡ false
running true e = absurd (cc)
running false e = refl

-- where the journal isn't shut, the server is what its records spell
standing : (j : View) (x : Extent) (torn : Option Change) → IsHeldBy j x torn → j.shut ≡ false → (held_by j).server ≡ spelled j.records
standing j x torn h unshut =
    ap (λ (b : Bool). record (spelled j.records) { up = not b; torn = option_map ask_of j.torn }) unshut
    ∙ ap (λ (t : Option (List ℕ)). record (spelled j.records) { up = true; torn = option_map ask_of t }) (h.survives.whole unshut)
    ∙ bare_is (spelled j.records) h.alone

no_change : (s : Server) (torn : Option Change) → Tears s None torn → torn ≡ None
no_change s None h = refl
no_change s (Some change) h = absurd h

-- no change is torn then either
pub untorn : (j : View) (x : Extent) (torn : Option Change) → IsHeldBy j x torn → j.shut ≡ false → torn ≡ None
untorn j x torn h unshut = no_change (spelled j.records) torn (subst (λ (t : Option (List ℕ)). Tears (spelled j.records) t torn) (h.survives.whole unshut) h.tears)

-- the extent after a write is that of the server after it, and stays small
one_more : (s : Server) (e : Entry) → length_of s + 1 ≡ length_of (record s { entries = s.entries ++ e ∷ [] })
one_more s e = omega (arith, length-append s.entries (e ∷ []))

let_go : (s : Server) (n : ℕ) → s.base < n → n ≤ length_of s → length_of s ≡ n + length (drop (n - s.base) s.entries)
let_go s n above within = omega (arith, length-drop (n - s.base) s.entries)

abbrev Reaches : Server → Ask → Change → Type 0
Reaches s a change = (extent_after (extent_of s) change ≡ extent_of (wrote s a)) × ((extent_after (extent_of s) change).length ≤ 2 ^ 32)

reaches : (s : Server) (a : Ask) (change : Change) → length_of s ≤ 2 ^ 32 → writes s a ≡ true → Changes s a change → Reaches s a change
reaches s (Store p e) Storing small w room = (ap (λ (n : ℕ). record (extent_of s) { length = n }) (one_more s e), omega arith)
reaches s Seal Sealing small w room = (refl, small)
reaches s (Trim n) (Trimming m) small w h =
    let above : s.base < n = grind (arith, nat_tests) in
    (ap (λ (b : ℕ). record (extent_of s) { base = b }) (sym h.0) ∙ ap (λ (k : ℕ). record { base = n; length = k; sealed = is_sealed s }) (let_go s n above h.1), small)
reaches s a change small w h = absurd h

-- the records with one more spell the server after that write
spelled_more : (records : List (List ℕ)) (bytes : List ℕ) → server_of records ≡ Some (spelled records) → writes (spelled records) (ask_of bytes) ≡ true → server_of (records ++ bytes ∷ []) ≡ Some (wrote (spelled records) (ask_of bytes))
spelled_more records bytes is w = server_of-more records (spelled records) bytes is ∙ next_of (eqb (length records) 0) (spelled records) (record_of bytes) w

-- the extent that is kept becomes the one after the change
held_more : (j now : View) (x : Extent) (torn : Option Change) (bytes : List ℕ) (change : Change) → IsHeldBy j x torn → writes (spelled j.records) (ask_of bytes) ≡ true → Changes (spelled j.records) (ask_of bytes) change
    → now.records ≡ j.records ++ bytes ∷ [] → now.torn ≡ None → Survives now → IsHeldBy now (extent_after x change) None
held_more j now x torn bytes change h w changes more untorn_now survives =
    let s : Server = spelled j.records in
    let same : x ≡ extent_of s = h.extent_is in
    let small : length_of s ≤ 2 ^ 32 = subst (λ (y : Extent). y.length ≤ 2 ^ 32) same h.small in
    let r = reaches s (ask_of bytes) change small w changes in
    held_of now (wrote s (ask_of bytes)) (extent_after x change)
    (ap server_of more ∙ spelled_more j.records bytes h.is w)
    (wrote_alone s (record_of bytes) h.alone)
    (ap (λ (y : Extent). extent_after y change) same ∙ r.0)
    (subst (λ (y : Extent). (extent_after y change).length ≤ 2 ^ 32) (sym same) r.1)
    untorn_now survives

-- what is asked for and changed of the server that a journal holds
asked_of_spelled : (held : Held) (j : View) (x : Extent) (torn : Option Change) → held_by j ≡ held → IsHeldBy j x torn → j.shut ≡ false → held.server ≡ spelled j.records
asked_of_spelled held j x torn view h unshut = sym (ap (λ (w : Held). w.server) view) ∙ standing j x torn h unshut

pub up_is_unshut : (held : Held) (j : View) → held_by j ≡ held → held.server.up ≡ true → j.shut ≡ false
up_is_unshut held j view up = running j.shut (ap (λ (w : Held). w.server.up) view ∙ up)

-- An append that succeeded: what is kept beside the journal then, and the server.
pub appended : (held : Held) (j now : View) (x after : Extent) (torn : Option Change) (bytes : List ℕ) (change : Change) → held_by j ≡ held → IsHeldBy j x torn → held.server.up ≡ true → writes held.server (ask_of bytes) ≡ true → Changes held.server (ask_of bytes) change
    → now ≡ record { records = j.records ++ bytes ∷ []; torn = None; shut = false; disk = now.disk } → Survives now → after ≡ extent_after x change → IsHeldBy now after torn
appended held j now x after torn bytes change view h up w changes more survives is =
    let unshut : j.shut ≡ false = up_is_unshut held j view up in
    let same : held.server ≡ spelled j.records = asked_of_spelled held j x torn view h unshut in
    let made : IsHeldBy now (extent_after x change) None = held_more j now x torn bytes change h
    (subst (λ (s : Server). writes s (ask_of bytes) ≡ true) same w)
    (subst (λ (s : Server). Changes s (ask_of bytes) change) same changes)
    (ap (λ (v : View). v.records) more) (ap (λ (v : View). v.torn) more) survives in
    subst (λ (y : Extent). IsHeldBy now y torn) (sym is)
    (subst (λ (t : Option Change). IsHeldBy now (extent_after x change) t) (sym (untorn j x torn h unshut)) made)

pub appended_server : (held : Held) (j now : View) (x : Extent) (torn : Option Change) (bytes : List ℕ) → held_by j ≡ held → IsHeldBy j x torn → held.server.up ≡ true → writes held.server (ask_of bytes) ≡ true
    → now ≡ record { records = j.records ++ bytes ∷ []; torn = None; shut = false; disk = now.disk } → (held_by now).server ≡ wrote held.server (ask_of bytes)
appended_server held j now x torn bytes view h up w more =
    let unshut : j.shut ≡ false = up_is_unshut held j view up in
    let same : held.server ≡ spelled j.records = asked_of_spelled held j x torn view h unshut in
    let w_spelled : writes (spelled j.records) (ask_of bytes) ≡ true = subst (λ (s : Server). writes s (ask_of bytes) ≡ true) same w in
    let spelled_now : spelled (j.records ++ bytes ∷ []) ≡ wrote (spelled j.records) (ask_of bytes) = ap (λ (o : Option Server). unwrap_or o empty_server) (spelled_more j.records bytes h.is w_spelled) in
    ap (λ (v : View). (held_by v).server) more
    ∙ ap (λ (s : Server). record s { up = true; torn = None }) spelled_now
    ∙ bare_is (wrote (spelled j.records) (ask_of bytes)) (wrote_alone (spelled j.records) (record_of bytes) h.alone)
    ∙ ap (λ (s : Server). wrote s (ask_of bytes)) (sym same)

-- A restart that succeeded: the torn change stands where there is a record more.
longer : (records : List (List ℕ)) (p : List ℕ) → ltb (length records) (length (records ++ p ∷ [])) ≡ true
longer records p = lt-ltb (length records) (length (records ++ p ∷ [])) (omega (arith, length-append records (p ∷ [])))

not_longer : (n : ℕ) → ltb n n ≡ false
not_longer n = grind (arith, nat_tests)

unchanged : (x : Extent) (torn : Option Change) → extent_restarted x false torn ≡ x
unchanged x None = refl
unchanged x (Some change) = refl

held_again : (j now : View) (x : Extent) (change : Option Change) → IsHeldBy j x change → now.torn ≡ None → Survives now
    → (torn : Option (List ℕ)) → j.torn ≡ torn → WithOrWithout j.records torn now.records → IsHeldBy now (extent_restarted x (ltb (length j.records) (length now.records)) change) None
held_again j now x change h untorn_now survives torn is (inl same) =
    let kept : ltb (length j.records) (length now.records) ≡ false = ap (λ (rs : List (List ℕ)). ltb (length j.records) (length rs)) same ∙ not_longer (length j.records) in
    let extent : extent_restarted x (ltb (length j.records) (length now.records)) change ≡ x = ap (λ (b : Bool). extent_restarted x b change) kept ∙ unchanged x change in
    subst (λ (y : Extent). IsHeldBy now y None) (sym extent)
    (held_of now (spelled j.records) x (ap server_of same ∙ h.is) h.alone h.extent_is h.small untorn_now survives)
held_again j now x None h untorn_now survives torn is (inr more) =
    absurd (subst (λ (t : Option (List ℕ)). Tears (spelled j.records) t None) (is ∙ more.1) h.tears)
held_again j now x (Some change) h untorn_now survives torn is (inr more) =
    let tears : Tears (spelled j.records) (Some more.0) (Some change) = subst (λ (t : Option (List ℕ)). Tears (spelled j.records) t (Some change)) (is ∙ more.1) h.tears in
    let kept : ltb (length j.records) (length now.records) ≡ true = ap (λ (rs : List (List ℕ)). ltb (length j.records) (length rs)) more.2 ∙ longer j.records more.0 in
    subst (λ (b : Bool). IsHeldBy now (extent_restarted x b (Some change)) None) (sym kept)
    (held_more j now x (Some change) more.0 change h tears.0 tears.1 more.2 untorn_now survives)

pub restarted_held : (j now : View) (x after : Extent) (change : Option Change) → IsHeldBy j x change
    → now ≡ record { records = now.records; torn = None; shut = false; disk = now.disk } → WithOrWithout j.records j.torn now.records → Survives now
    → after ≡ extent_restarted x (ltb (length j.records) (length now.records)) change → IsHeldBy now after None
restarted_held j now x after change h opened found survives is =
    subst (λ (y : Extent). IsHeldBy now y None) (sym is)
    (held_again j now x change h (ap (λ (v : View). v.torn) opened) survives j.torn refl found)

-- a server that came up is up, and has nothing torn
whole_wrote : (s : Server) (a : Ask) → record (wrote (record s { up = true; torn = None }) a) { up = true; torn = None } ≡ wrote (record s { up = true; torn = None }) a
whole_wrote s (Store p e) = refl
whole_wrote s Seal = refl
whole_wrote s Tail = refl
whole_wrote s (Repair p e) = refl
whole_wrote s (Read p) = refl
whole_wrote s (Trim n) = refl

whole_written : (s : Server) (a : Ask) (wanted : Bool) → record (cond wanted (wrote (record s { up = true; torn = None }) a) (record s { up = true; torn = None })) { up = true; torn = None } ≡ cond wanted (wrote (record s { up = true; torn = None }) a) (record s { up = true; torn = None })
whole_written s a true = whole_wrote s a
whole_written s a false = refl

up_again : (s : Server) (kept : Bool) (torn : Option Ask) → s.torn ≡ torn → record (restarted s kept torn) { up = true; torn = None } ≡ restarted s kept torn
up_again s kept None is = ap (λ (t : Option Ask). record s { up = true; torn = t }) (sym is)
up_again s true (Some a) is = whole_written s a (writes (record s { up = true; torn = None }) a)
up_again s false (Some a) is = refl

pub restarted_server : (held : Held) (j now : View) (x : Extent) (change : Option Change) → held_by j ≡ held → IsHeldBy j x change
    → now ≡ record { records = now.records; torn = None; shut = false; disk = now.disk } → WithOrWithout j.records j.torn now.records
    → (kept : Bool) × ((held_by now).server ≡ restarted held.server kept held.server.torn)
restarted_server held j now x change view h opened found =
    let it = found_server (spelled j.records) j.records j.torn change (not j.shut) now.records h.is h.alone h.tears found in
    let server : (held_by now).server ≡ record (spelled now.records) { up = true; torn = None } = ap (λ (v : View). (held_by v).server) opened in
    let spelled_now : spelled now.records ≡ restarted (held_by j).server it.0 (held_by j).server.torn = ap (λ (o : Option Server). unwrap_or o empty_server) it.1 in (
      it.0,
      server ∙ ap (λ (s : Server). record s { up = true; torn = None }) spelled_now
          ∙ up_again (held_by j).server it.0 (held_by j).server.torn refl
          ∙ ap (λ (w : Held). restarted w.server it.0 w.server.torn) view,
    )

-- a server whose journal couldn't be reopened is down as before
still_down : (held : Held) (j now : View) → held_by j ≡ held → held.server.up ≡ false → now ≡ record j { shut = true; disk = now.disk } → (held_by now).server ≡ held.server
still_down held j now view was same =
    let shut : not j.shut ≡ false = ap (λ (w : Held). w.server.up) view ∙ was in
    ap (λ (v : View). (held_by v).server) same
    ∙ ap (λ (b : Bool). record (spelled j.records) { up = b; torn = option_map ask_of j.torn }) (sym shut)
    ∙ ap (λ (w : Held). w.server) view

pub not_restored : (word : ℕ) (held : Held) (j now : View) (f : Fault) → held_by j ≡ held → held.server.up ≡ false
    → (f ≡ Memory → (now ≡ record j { disk = now.disk }) × (now.disk.faults ≡ j.disk.faults)) → (f ≡ Memory → now.disk.word ≡ word)
    → (f ≡ Disk → (now ≡ record j { shut = true; disk = now.disk }) × (now.disk.faults ≡ bumped j.disk.faults)) → (f ≡ Disk → (now.disk.word ≡ word) ⊎ (now.disk.word ≡ j.disk.word))
    → Restores {U = Unit {0}} word held (Err f) (held_by now)
not_restored word held j now Memory view was same again failed tried =
    record {
      was = was;
      server = ap (λ (v : View). (held_by v).server) (same refl).0 ∙ ap (λ (w : Held). w.server) view;
      faults = (same refl).1 ∙ ap (λ (w : Held). w.disk.faults) view;
      reopened = again refl;
    }
not_restored word held j now Disk view was same again failed tried =
    record {
      was = was;
      server = still_down held j now view was (failed refl).0;
      faults = (failed refl).1 ∙ ap (λ (w : Held). bumped w.disk.faults) view;
      tried = subst (λ (w : Held). (now.disk.word ≡ word) ⊎ (now.disk.word ≡ w.disk.word)) view (tried refl);
    }
