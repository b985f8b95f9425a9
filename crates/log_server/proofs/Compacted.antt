-- The records that a journal is compacted to, one after another.
use Rattle.std.proofs.Common.{◌≡◌, ℕ, ◌+◌, ◌-◌, ◌^◌, ◌<◌, ◌≤◌, Bool, true, false, cond, eqb, List, [], ◌∷◌, ◌++◌, length, take, drop, Option, Some, None, sym, ap, subst, ◌∙◌, arith, slice_index_or}
use Rattle.std.specs.Prelude.{All, Vec}
use Rattle.std.specs.declared.alloc.Global.{Global}
use Rattle.std.proofs.lemmas.Bool.{eq-eqb}
use Rattle.std.proofs.lemmas.List.{take_more, take_all, length-take-le, length-drop, get_or-drop}
use Rattle.std.proofs.lemmas.List.Elements.{All-get_or}
use Rattle.delos_types.specs.declared.entry.Entry.{Entry}
use Rattle.delos_types.specs.Spelling.{IsSpellable}
use Rattle.server_records.specs.declared.record.Record.TheVariants.{Stored, Compacted}
use Rattle.server_records.specs.Format.{SpellsRecord}
use Rattle.server_records.specs.Reading.{record_of}
use Rattle.server_records.specs.Spelled.{empty_server, server_of, holding, holding_next}
use Rattle.server_records.proofs.Spellings.{record_again}
use Rattle.server_records.proofs.Following.{server_of-more}
use Rattle.journal_core.specs.Records.{payloads}
use Rattle.journal_core.proofs.Closing.{payloads-push}
use Rattle.log_server.specs.Kind.{server_at}

-- the records spell a server that holds so many of these entries
pub record SpellFirst (records : List (List ℕ)) (base : ℕ) (sealed_at : Option ℕ) (entries : List Entry) (count : ℕ) : Type 0 where
  pub is : server_of records ≡ Some (server_at base sealed_at (take count entries))

pub begins : (base : ℕ) (sealed_at : Option ℕ) (entries : List Entry) (gone : ℕ) (bytes : List ℕ) → SpellsRecord bytes (Compacted base sealed_at) → SpellFirst (bytes ∷ []) base sealed_at entries (gone - gone)
begins base sealed_at entries gone bytes spelled =
    let none : 0 ≡ gone - gone = omega arith in
    record { is = ap (holding_next true empty_server) (record_again bytes (Compacted base sealed_at) spelled) ∙ ap (λ n. Some (server_at base sealed_at (take n entries))) none }

pub goes_on : (records : List (List ℕ)) (base : ℕ) (sealed_at : Option ℕ) (entries : List Entry) (count : ℕ) (bytes : List ℕ) (e : Entry) → SpellFirst records base sealed_at entries count → count < length entries
    → SpellsRecord bytes (Stored (base + count) e) → e ≡ slice_index_or entries count e → SpellFirst (records ++ bytes ∷ []) base sealed_at entries (count + 1)
goes_on records base sealed_at entries count bytes e first within spelled is =
    let s = server_at base sealed_at (take count entries) in
    let here : eqb (base + count) (base + length (take count entries)) ≡ true = eq-eqb _ _ (omega (arith, length-take-le count entries (omega (arith, within)))) in
    record {
      is =
          server_of-more records s bytes first.is
          ∙ ap (holding_next (eqb (length records) 0) s) (record_again bytes (Stored (base + count) e) spelled)
          ∙ ap (λ t. cond t (Some (holding s (Stored (base + count) e))) None) here
          ∙ ap (λ (es : List Entry). Some (server_at base sealed_at es)) (ap (λ (x : Entry). take count entries ++ x ∷ []) is ∙ sym (take_more entries count e within));
    }

pub all_of : (records : List (List ℕ)) (base : ℕ) (sealed_at : Option ℕ) (entries : List Entry) (count : ℕ) → SpellFirst records base sealed_at entries count → length entries ≤ count → server_of records ≡ Some (server_at base sealed_at entries)
all_of records base sealed_at entries count first all = first.is ∙ ap (λ (es : List Entry). Some (server_at base sealed_at es)) (take_all count entries all)

-- the entry at a place behind those that are gone is one that some bytes spell
pub spellable_at : (entries : List Entry) (gone index : ℕ) (e : Entry) → All IsSpellable (drop gone entries) → gone ≤ index → index < length entries → e ≡ slice_index_or entries index e → IsSpellable e
spellable_at entries gone index e all behind within is =
    let inside : index - gone < length (drop gone entries) = omega (arith, behind, within, length-drop gone entries) in
    let place : gone + (index - gone) ≡ index = omega (arith, behind) in
    subst IsSpellable (get_or-drop gone entries (index - gone) e ∙ ap (λ n. slice_index_or entries n e) place ∙ sym is) (All-get_or IsSpellable (drop gone entries) (index - gone) e inside all)

-- one record is pushed
pub pushed : (vs after : List (Vec ℕ Global)) (v : Vec ℕ Global) (bytes : List ℕ) (base : ℕ) (sealed_at : Option ℕ) (entries : List Entry) (count : ℕ) → after ≡ vs ++ v ∷ [] → v.items ≡ bytes
    → SpellFirst (payloads vs ++ bytes ∷ []) base sealed_at entries count → SpellFirst (payloads after) base sealed_at entries count
pushed vs after v bytes base sealed_at entries count grown is first = record {
  is =
      ap (λ (ws : List (Vec ℕ Global)). server_of (payloads ws)) grown ∙ ap server_of (payloads-push vs v) ∙ ap (λ (b : List ℕ). server_of (payloads vs ++ b ∷ [])) is ∙ first.is;
}

pub at_next : (records : List (List ℕ)) (base : ℕ) (sealed_at : Option ℕ) (entries : List Entry) (gone index : ℕ) → gone ≤ index → SpellFirst records base sealed_at entries (index - gone + 1) → SpellFirst records base sealed_at entries (index + 1 - gone)
at_next records base sealed_at entries gone index behind first =
    let same : index - gone + 1 ≡ index + 1 - gone = omega (arith, behind) in
    subst (λ n. SpellFirst records base sealed_at entries n) same first

pub begun : (vs after : List (Vec ℕ Global)) (v : Vec ℕ Global) (bytes : List ℕ) (base : ℕ) (sealed_at : Option ℕ) (entries : List Entry) (gone : ℕ) → vs ≡ [] → after ≡ vs ++ v ∷ [] → v.items ≡ bytes → SpellsRecord bytes (Compacted base sealed_at)
    → SpellFirst (payloads after) base sealed_at entries (gone - gone)
begun vs after v bytes base sealed_at entries gone none grown is spelled =
    pushed vs after v bytes base sealed_at entries (gone - gone) grown is
    (subst (λ (ws : List (Vec ℕ Global)). SpellFirst (payloads ws ++ bytes ∷ []) base sealed_at entries (gone - gone)) (sym none) (begins base sealed_at entries gone bytes spelled))

entry_there : (entries : List Entry) (gone index : ℕ) (e : Entry) → gone ≤ index → e ≡ slice_index_or entries index e → e ≡ slice_index_or (drop gone entries) (index - gone) e
entry_there entries gone index e behind is =
    let place : index ≡ gone + (index - gone) = omega (arith, behind) in
    is ∙ ap (λ n. slice_index_or entries n e) place ∙ sym (get_or-drop gone entries (index - gone) e)

-- the record of the next entry
pub step : (vs after : List (Vec ℕ Global)) (v : Vec ℕ Global) (bytes : List ℕ) (base : ℕ) (sealed_at : Option ℕ) (entries : List Entry) (gone index : ℕ) (e : Entry) → SpellFirst (payloads vs) base sealed_at (drop gone entries) (index - gone)
    → gone ≤ index → index < length entries → e ≡ slice_index_or entries index e → SpellsRecord bytes (Stored (base + (index - gone)) e) → v.items ≡ bytes → after ≡ vs ++ v ∷ [] → SpellFirst (payloads after) base sealed_at (drop gone entries) (index + 1 - gone)
step vs after v bytes base sealed_at entries gone index e first behind within there spelled is grown =
    let inside : index - gone < length (drop gone entries) = omega (arith, behind, within, length-drop gone entries) in
    at_next (payloads after) base sealed_at (drop gone entries) gone index behind
    (pushed vs after v bytes base sealed_at (drop gone entries) (index - gone + 1) grown is
    (goes_on (payloads vs) base sealed_at (drop gone entries) (index - gone) bytes e first inside spelled (entry_there entries gone index e behind there)))
