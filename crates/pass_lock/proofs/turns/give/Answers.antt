use Rattle.std.proofs.Common.{rules, arith, ◌≡◌, [], ◌∷◌, ◌++◌, sym, ap, ◌∙◌, subst, Some, List}
use Rattle.atomic_table.specs.Table.{rest}
use Rattle.pass_lock.specs.declared.view.View.{View}
use Rattle.pass_lock.specs.Journal.{Signed}
use Rattle.pass_lock.specs.Pass.{brought, first_seen, added}
use Rattle.pass_lock.specs.Rule.{seeing}
use Rattle.pass_lock.proofs.Known.{brought-again, added-append}
use Rattle.pass_lock.proofs.Steps.{raises, advances}
use Rattle.pass_lock.proofs.turns.give.Goals as goal
use Rattle.pass_lock.proofs.turns.give.Goals.{After-store}

pub store-requires : goal.store-requires
store-requires g c = let words = c.requires.table.words in let e = c.exchange.ensures in let i = c.requires.inside in let grew = c.requires.grew in
    let view : c.args.place.now.me.0 ≡ c.exchange.new.seat.me.0 = sym (ap (λ m. m.0) e.3) in let same : c.args.place.now.me.0.ticket ≡ c.exchange.new.seat.me.0.ticket = ap (λ v. v.ticket) view in let number = i.number in
    let was : List g.row.S-Entry.Denot = first_seen c.args.place.now.me.0.parts in (
      e.0 ∙ c.requires.seat,
      omega arith,
      raises g.S.Chronicled.journal g.S.Chronicled.signer _ _ _ _ _ c.args.value was grew.0 (ap (λ m. m.0.stage) e.3 ∙ i.stage)
          (ap (λ m. m.1) e.3 ∙ ap (λ l. (0, Some c.args.value) ∷ rest l) i.slot) (subst (λ (v : View g.row.S-Entry.Denot). v.parts ≡ brought was v.parts) view i.seen) grew.1
          (subst (λ (v : View g.row.S-Entry.Denot). Signed g.S.Chronicled.signer v.parts grew.0) view grew.2) (omega arith),
    )

-- what the step tells that made the value's journal the history
after : (g : _) (c : After-store g) → let journal = g.S.Chronicled.journal c.args.value in let place = c.args.place.now in
    (c.store.new.seat.me.1 ≡ (0, Some c.args.value) ∷ []) × (c.store.new.seat.me.0 ≡ seeing (brought journal place.me.0.parts) (place.me.0.made ++ (place.me.0.ticket, c.requires.grew.0) ∷ []) 3 place.me.0.ticket)
after g c = let e = c.exchange.ensures in let i = c.requires.inside in let grew = c.requires.grew in let journal = g.S.Chronicled.journal c.args.value in let was : List g.row.S-Entry.Denot = first_seen c.args.place.now.me.0.parts in
    let carried = ap (λ m. m.1) e.3 ∙ ap (λ l. (0, Some c.args.value) ∷ rest l) i.slot in
    let r = c.store.ensures.2 c.args.value was grew.0 carried (subst (λ (v : View g.row.S-Entry.Denot). v.parts ≡ brought was v.parts) (sym (ap (λ m. m.0) e.3)) i.seen) grew.1 in
    (r.0 ∙ carried, r.1 ∙ ap (λ m. seeing (brought journal m.0.parts) (m.0.made ++ (m.0.ticket, grew.0) ∷ []) 3 m.0.ticket) e.3)

pub fetch_add-requires : goal.fetch_add-requires
fetch_add-requires g c = let words = c.requires.table.words in let journal = g.S.Chronicled.journal c.args.value in let a = after g (goal.at.fetch_add-requires g c).After-store in let parts = ap (λ v. v.parts) a.1 in (
  search rules,
  omega arith,
  advances g.S.Chronicled.journal g.S.Chronicled.signer _ _ _ _ c.args.value (ap (λ v. v.stage) a.1) a.0
      (parts ∙ sym (ap (brought journal) parts ∙ brought-again journal journal c.args.place.now.me.0.parts)),
)

pub returns-clause-view : goal.returns-clause-view
returns-clause-view g c = let journal = g.S.Chronicled.journal c.args.value in let was : List g.row.S-Entry.Denot = first_seen c.args.place.now.me.0.parts in
    let a = after g (goal.at.returns-clause-view g c).After-store in let piece : added was journal ≡ c.requires.grew.0 = added-append was c.requires.grew.0 journal c.requires.grew.1 in
    let place = c.args.place.now in
    c.fetch_add.ensures.2.1 ∙ (ap (λ v. seeing v.parts v.made 0 v.ticket) a.1 ∙ ap (λ p. seeing (brought journal place.me.0.parts) (place.me.0.made ++ (place.me.0.ticket, p) ∷ []) 0 place.me.0.ticket) (sym piece))
