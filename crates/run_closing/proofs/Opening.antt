-- What number 0 did as the register was opened again: the chain was read, and then the register opened, once.
use Rattle.std.proofs.Common.{◌≡◌, refl, sym, ap, ◌∙◌, subst, inl, inr, ℕ, List, [], ◌∷◌, ◌++◌, lit≤}
use Rattle.std.proofs.lemmas.List.{append_cancel_left}
use Rattle.delos_types.specs.declared.chain.Chain.{Chain}
use Rattle.chain_map.specs.Chain.{last_of_segments}
use Rattle.legal_journal.specs.declared.events.Event.{Event}
use Rattle.legal_journal.specs.declared.events.FabricCall.TheVariants.{ReadChain, MendMeta}
use Rattle.legal_journal.specs.Shown.{end_of}
use Rattle.legal_journal.specs.Journal.{CellState, State, reach, tail_of}
use Rattle.fabric_core.specs.Fabric.{FabricView}
use Rattle.turn_scopes.specs.Alone.{AreOwn, OwnSince}
use Rattle.node_course.specs.FaultLines.{AreOutside}
use Rattle.run_ends.proofs.Reading.{Same}
use Rattle.last_chain.specs.Last.{OpenedOnce, OpensOnce, calls_of}
use Rattle.run_closing.specs.Opening.{MendsOnly}
use Rattle.run_closing.proofs.Mending.{mended_once, mends_only, outside_calls, read_none}

pub outside_opened : (old new : FabricView) (es : List Event) → AreOwn 0 es → OpenedOnce old (calls_of es) new → AreOutside es
outside_opened old new es own (inl h) = outside_calls es (ReadChain ∷ []) h.0 (inl refl, tt) own
outside_opened old new es own (inr h) = outside_calls es (ReadChain ∷ MendMeta 0 ∷ []) h.0 (inl refl, (inr refl, tt)) own

pub own_more : (who : ℕ) (early new more : List Event) → OwnSince who early new → new ≡ early ++ more → AreOwn who more
own_more who early new more since seen = subst (AreOwn who) (append_cancel_left early since.more more (sym since.seen ∙ seen)) since.own

-- the register was opened again once at most, and nothing else was broken or mended
pub opened_only : (old new : FabricView) → OwnSince 0 old.journal new.journal → OpensOnce old new → MendsOnly 1 old.journal new.journal
opened_only old new since o = by o.calls
  where
    own : AreOwn 0 o.more
    own = own_more 0 old.journal new.journal o.more since o.seen

    by : OpenedOnce old (calls_of o.more) new → MendsOnly 1 old.journal new.journal
    by (inl h) = mends_only 1 0 old.journal new.journal o.more (lit≤ tt) o.seen own (read_none (calls_of o.more) h.0)
    by (inr h) = mends_only 1 1 old.journal new.journal o.more (lit≤ tt) o.seen own (mended_once (calls_of o.more) h.0)

-- the chain and its loglets are the same, and so is the log's end
pub same_tail : (a b : State) → Same a b → tail_of b ≡ tail_of a
same_tail a b s =
    ap (λ (cells : ℕ → CellState). end_of (reach cells) (last_of_segments b.register.chain.segments)) s.cells ∙ ap (λ (c : Chain). end_of (reach a.cells) (last_of_segments c.segments)) s.chain
