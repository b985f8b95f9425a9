use Rattle.std.proofs.Common.{◌≡◌, ◌∙◌, ap, sym, subst, true}
use Rattle.chain_map.specs.Chain.{is_chain}
use Rattle.chain_map.proofs.Changes.{is_chain-dropped, above}
use Rattle.delos_types.specs.declared.chain.Segment.{Segment}
use Rattle.std.proofs.Common.{List}
use Rattle.chain_map.proofs.change.drop_below.Goals as goal

pub returns-clause-chain : goal.returns-clause-chain
returns-clause-chain c =
    let segments : c.from_vec.result ≡ above c.args.n c.args.chain.now.segments = c.from_vec.ensures ∙ c.in_ok-segments.ensures ∙ ap (λ (ss : List Segment). above c.args.n ss) c.as_slice.ensures in
    subst (λ (ss : List Segment). is_chain (record { trim = c.args.n; segments = ss }) ≡ true) (sym segments) (is_chain-dropped c.args.chain.now c.args.n c.requires.chain c.requires.rise)
