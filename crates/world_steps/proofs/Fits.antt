-- Numbers of a world stay small, and the chain that follows one that was given is one.
use Rattle.std.proofs.Common.{◌≡◌, ⊎_elim, ℕ, ◌+◌, ◌<◌, ◌^◌, true, ◌∙◌, arith, List, length, Some}
use Rattle.std.proofs.lemmas.Bool.{and_parts, ltb-true}
use Rattle.std.proofs.lemmas.List.{length-map}
use Rattle.delos_types.specs.declared.entry.Entry.{Entry}
use Rattle.delos_types.specs.declared.chain.Chain.{Chain}
use Rattle.chain_map.specs.Chain.{IsChain, last_segment, last_id}
use Rattle.legal_journal.specs.Journal as journal
use Rattle.legal_journal.proofs.Log.{last_starts}
use Rattle.legal_journal.proofs.Sound.{StateOk}
use Rattle.legal_journal.proofs.Chains.{chain_ok}
use Rattle.world_steps.specs.declared.step.ChainChange.{ChainChange}
use Rattle.world_steps.specs.declared.step.ChainChange.TheVariants.{Extend, Raise}
use Rattle.world_steps.specs.declared.cell.WorldCell.{WorldCell}
use Rattle.world_steps.specs.Cells.{view_of}
use Rattle.world_steps.specs.Parts.{World, given_under, shelf_of}
use Rattle.world_steps.specs.Guards.{ChangeFits, may_follow}
use Rattle.world_steps.specs.Laws.{WorldLaw}
use Rattle.world_steps.proofs.Kept.{state_ok}

module _ (may : ℕ → Entry → Type 0) (floor : List Entry → ℕ → Type 0) (w : World) (law : WorldLaw may floor w) where
  ok : StateOk (length (shelf_of w)) (journal.state_of w.events)
  ok = state_ok may floor w law

  -- versions stay small
  pub version_small : w.register.version < 2 ^ 48
  version_small = ⊎_elim
      (λ (h : (w.register.version ≡ (journal.state_of w.events).register.version) × (w.register.chain ≡ (journal.state_of w.events).register.chain)). omega (arith, h.0, ok.version, ok.trim, ok.shelf, ok.few))
      (λ (h : (w.register.version ≡ (journal.state_of w.events).register.version + 1) × ((journal.state_of w.events).register.asked ≡ Some w.register.chain)). omega (arith, h.0, ok.version, ok.trim, ok.shelf, ok.few))
      law.register.current

  pub given_chain : (v : ℕ) (c : Chain) → given_under w.register v ≡ Some c → IsChain c
  given_chain v c h = chain_ok (length (shelf_of w)) (journal.state_of w.events) v c ok (law.register.given v ∙ h)

  many : length (shelf_of w) ≡ length w.cells
  many = length-map w.cells (λ (c : WorldCell). (view_of c).servers)

  -- what may close the last segment ends it within a word, and the next cell is one of 64
  pub record IsSeam (c : Chain) (t : ℕ) : Type 0 where
    pub seam : (last_segment c).start + t < 2 ^ 64
    pub next : last_id c + 1 < 64

  pub seam_fits : (v : ℕ) (c : Chain) (t : ℕ) → given_under w.register v ≡ Some c → may_follow w c (Extend t) ≡ true → IsSeam c t
  seam_fits v c t given h =
      let parts = and_parts _ _ h in
      let told = law.ends (last_id c) t parts.1 in
      let cell = ok.cell (last_id c) in
      let far = cell.ends t told in
      let known = ok.olds v c (law.register.given v ∙ given) in
      let starts = known.start (last_id c) (last_segment c).start (last_starts (journal.ends (journal.state_of w.events).cells) known.id known.from c.segments known.joined) in
      let low = ok.rooms (last_id c) (last_segment c).start starts in
      let next : last_id c + 1 < length w.cells = ltb-true _ _ parts.0 in record {
        seam = omega (arith, low, far.3, cell.firm, cell.room, next, many, ok.few);
        next = omega (arith, next, many, ok.few);
      }

  pub change_fits : (v : ℕ) (c : Chain) (change : ChainChange) → given_under w.register v ≡ Some c → may_follow w c change ≡ true → ChangeFits c change
  change_fits v c (Extend t) given h = let s = seam_fits v c t given h in (s.seam, s.next)
  change_fits v c (Raise n) given h = ltb-true _ _ (and_parts _ _ h).0
