-- What users may do who may do anything.
use Rattle.std.proofs.Common.{◌≡◌, inr, ℕ, ◌≤◌, ◌<◌, ◌^◌, List, [], ◌∷◌, ◌++◌, All, Option, Some, None, sym, ap, ◌∙◌, arith}
use Rattle.std.proofs.lemmas.List.Elements.{All-nil, All-push, All-same}
use Rattle.delos_types.specs.declared.entry.Entry.{Entry}
use Rattle.delos_types.specs.declared.chain.Chain.{Chain}
use Rattle.chain_map.specs.Chain.{first_chain}
use Rattle.chain_map.specs.Step.{dropped_below}
use Rattle.legal_journal.specs.Law.{Law}
use Rattle.legal_journal.specs.declared.events.Event.{Event}
use Rattle.legal_journal.specs.declared.events.FabricCall.TheVariants.{WriteChain}
use Rattle.legal_journal.specs.Journal.{state_of, IsFree}
use Rattle.legal_journal.specs.Turns.{MayTurn}
use Rattle.legal_journal.proofs.Cells.{put_same}
use Rattle.legal_journal.proofs.Legal.{goes_on}

-- any position may be trimmed, by any rules that let so much be trimmed
pub free_by : (shown : ℕ → Option Entry) (floor : List Entry → ℕ → Type 0) (n : ℕ) → ((l : List Entry) (m : ℕ) → m ≤ 2 ^ 38 → floor l m) → n ≤ 2 ^ 38 → IsFree shown floor n
free_by shown floor n all h = record { log = []; shows = λ i l. absurd (omega (arith, l)); free = all [] n h }

-- the first chain, which every journal gave, may be written with a higher trim, by any rules that let so much be trimmed
pub may_raise_first : (law : Law) (who : ℕ) (old : List Event) (n : ℕ) (c d : Chain) → ((l : List Entry) (m : ℕ) → m ≤ 2 ^ 38 → law.floor l m) → c ≡ first_chain → d ≡ dropped_below c n → 0 < n → n ≤ 2 ^ 38 → MayTurn law who old (WriteChain 1 d)
may_raise_first law who old n c d free first is up low others apart legal =
    let on = goes_on law [] (old ++ others) legal in
    let trim : n ≡ d.trim = ap (λ (x : Chain). x.trim) (sym is) in
    let above : c.trim < n = omega (arith, up, ap (λ (x : Chain). x.trim) first) in
    record {
      there = tt;
      asks = (
        c,
        on.given 1 first_chain (put_same (λ _. None) 1 (Some first_chain)) ∙ ap (λ x. Some x) (sym first),
        inr (record { trim = n; above = above; small = low; is = is }, free_by (state_of (old ++ others)).shown law.floor d.trim free (omega (arith, low, trim))),
      );
    }

-- what holds of three values holds of the list to which they were added one after another
pub all_three : {A : Type 0} (P : A → Type 0) (none one two three : List A) (a b c : A) → none ≡ [] → one ≡ none ++ a ∷ [] → two ≡ one ++ b ∷ [] → three ≡ two ++ c ∷ [] → P a → P b → P c → All P three
all_three P none one two three a b c n o t h pa pb pc =
    let first = All-same P one (none ++ a ∷ []) o (All-push P none a (All-same P none [] n (All-nil P)) pa) in
    let second = All-same P two (one ++ b ∷ []) t (All-push P one b first pb) in
    All-same P three (two ++ c ∷ []) h (All-push P two c second pc)
