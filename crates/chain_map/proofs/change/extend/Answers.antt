use Rattle.std.proofs.Common.{◌≡◌, ◌∙◌, ◌++◌, ◌∷◌, [], ap, sym, subst, true, List, arith}
use Rattle.delos_types.specs.declared.chain.Segment.{Segment}
use Rattle.chain_map.specs.Chain.{is_chain, last_of_segments}
use Rattle.chain_map.proofs.Changes.{is_chain-extended, made-extended, last-append}
use Rattle.chain_map.proofs.change.extend.Goals as goal

pub overflow_add-seam : goal.overflow_add-seam
overflow_add-seam c =
    let split : c.args.chain.now.segments ≡ c.in-Some.before.now ++ c.in-Some.last.now ∷ [] = sym c.as_slice.ensures ∙ c.in-Some.ensures.cases.0 in
    let last : last_of_segments c.args.chain.now.segments ≡ c.in-Some.last.now = ap last_of_segments split ∙ last-append c.in-Some.before.now c.in-Some.last.now in
    omega (arith, c.requires.seam, ap (λ (s : Segment). s.start) last)

pub overflow_add-last : goal.overflow_add-last
overflow_add-last c =
    let split : c.args.chain.now.segments ≡ c.in-Some.before.now ++ c.in-Some.last.now ∷ [] = sym c.as_slice.ensures ∙ c.in-Some.ensures.cases.0 in
    let last : last_of_segments c.args.chain.now.segments ≡ c.in-Some.last.now = ap last_of_segments split ∙ last-append c.in-Some.before.now c.in-Some.last.now in
    omega (arith, c.requires.next, ap (λ (s : Segment). s.id) last)

pub returns-clause-value : goal.returns-clause-value
returns-clause-value c =
    let split : c.args.chain.now.segments ≡ c.in-Some.before.now ++ c.in-Some.last.now ∷ [] = sym c.as_slice.ensures ∙ c.in-Some.ensures.cases.0 in
    let front : c.extend_from_slice.new.self.items ≡ c.in-Some.before.now = c.in_ok-extend_from_slice.ensures.items ∙ ap (λ (x : List Segment). x ++ c.in-Some.before.now) c.in_ok-segments.ensures.items in
    let whole = made-extended c.args.chain.now.segments c.in-Some.before.now c.extend_from_slice.new.self.items c.push.new.self.items c.push-2.new.self.items c.in-Some.last.now c.args.t split front c.in_ok-push.ensures.items c.in_ok-push-2.ensures.items in
    ap (λ (x : List Segment). record c.args.chain.now { segments = x }) (c.from_vec.ensures ∙ whole)

pub returns-clause-chain : goal.returns-clause-chain
returns-clause-chain c =
    let split : c.args.chain.now.segments ≡ c.in-Some.before.now ++ c.in-Some.last.now ∷ [] = sym c.as_slice.ensures ∙ c.in-Some.ensures.cases.0 in
    let front : c.extend_from_slice.new.self.items ≡ c.in-Some.before.now = c.in_ok-extend_from_slice.ensures.items ∙ ap (λ (x : List Segment). x ++ c.in-Some.before.now) c.in_ok-segments.ensures.items in
    let whole = made-extended c.args.chain.now.segments c.in-Some.before.now c.extend_from_slice.new.self.items c.push.new.self.items c.push-2.new.self.items c.in-Some.last.now c.args.t split front c.in_ok-push.ensures.items c.in_ok-push-2.ensures.items in
    subst (λ (x : List Segment). is_chain (record c.args.chain.now { segments = x }) ≡ true) (sym (c.from_vec.ensures ∙ whole)) (is_chain-extended c.args.chain.now c.args.t c.requires.chain c.requires.next)
