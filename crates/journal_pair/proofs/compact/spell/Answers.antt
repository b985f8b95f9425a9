use Rattle.std.proofs.Common.{◌≡◌, ℕ, ◌+◌, List, [], ◌∷◌, ◌++◌, length, drop, Vec, ◌∙◌, sym, ap, arith}
use Rattle.std.specs.declared.alloc.Global.{Global}
use Rattle.std.specs.Int.{w64, to_be_bytes}
use Rattle.std.proofs.lemmas.List.{drop_more, drop_all}
use Rattle.journal_core.specs.Records.{payloads}
use Rattle.journal_pair.specs.Layout.{spelled}
use Rattle.journal_pair.proofs.Moving.{spelled_more}
use Rattle.journal_pair.proofs.compact.spell.Goals as goal

pub loop-record-preserved : goal.loop-record-preserved
loop-record-preserved c =
    let vs = c.args.records.now in
    let i = c.loop-record.record-index in
    let v = c.record-item.result in
    let bytes = c.loop-record.bytes.items in
    let rest = spelled (payloads (drop (i + 1) vs)) in
    let here : drop i vs ≡ v ∷ drop (i + 1) vs = drop_more vs i v (omega (arith, c.loop-record-test.true)) ∙ ap (λ (w : Vec ℕ Global). w ∷ drop (i + 1) vs) (sym c.record-item.is) in
    let long : c.len.result ≡ length v.items = omega (arith, v.ok, c.len.ensures) in
    let grown : c.extend_from_slice-in-loop-record.new.self.items ≡ ((bytes ++ 1 ∷ []) ++ to_be_bytes w64 (length v.items)) ++ v.items =
    c.in_ok-extend_from_slice-2.ensures.items
    ∙ ap (λ (l : List ℕ). l ++ c.deref.result.now) (c.in_ok-extend_from_slice.ensures.items ∙ ap (λ (l : List ℕ). l ++ c.to_be_bytes.result) c.in_ok-push.ensures.items
    ∙ ap (λ (l : List ℕ). (bytes ++ 1 ∷ []) ++ l) (c.to_be_bytes.ensures ∙ ap (to_be_bytes w64) long))
    ∙ ap (λ (l : List ℕ). ((bytes ++ 1 ∷ []) ++ to_be_bytes w64 (length v.items)) ++ l) c.deref.ensures.value in
    ap (λ (l : List ℕ). l ++ rest) grown ∙ spelled_more bytes rest v.items ∙ ap (λ (ws : List (Vec ℕ Global)). bytes ++ spelled (payloads ws)) (sym here) ∙ c.loop-record.invariant

pub returns : goal.returns
returns c =
    let vs = c.args.records.now in
    let i = c.loop-record.record-index in
    let bytes = c.loop-record.bytes.items in
    let none : drop i vs ≡ [] = drop_all i vs (omega (arith, c.loop-record-test.false)) in
    c.in_ok-push-2.ensures.items ∙ ap (λ (ws : List (Vec ℕ Global)). bytes ++ spelled (payloads ws)) (sym none) ∙ c.loop-record.invariant
