-- What acts in a front of a log: of each session the ranks below the first that is missing there.
use Rattle.std.proofs.Common.{◌≡◌, refl, sym, ap, ◌∙◌, ℕ, ◌≤◌, Bool, true, false, List, Option, Some, None, length, take, drop, find, is_some, nat_lt, ◌==◌, eq-eqb, eqb-true, take-append-drop, length-take-le}
use Rattle.std.specs.FinMap as finmap
use Rattle.std.proofs.lemmas.Bool.{and_from, and_parts, both_ways}
use Rattle.delos_types.specs.declared.entry.Entry.{Entry}
use Rattle.engine_api.specs.declared.act.Act.{Act}
use Rattle.engine_api.specs.Acted.{asked_in}
use Rattle.engine_api.specs.Order.{gap_from}
use Rattle.log_laws.specs.State.{acts_in}
use Rattle.log_laws.proofs.Replies.{log_turn}
use Rattle.fitting_run.specs.Acts.{acts_below}
use Rattle.log_laws.proofs.Acting.{front}
use Rattle.run_laws.proofs.Members.{Among, among-filter, among-found, filter-among, found-among}
use Rattle.run_laws.proofs.Placing.{act-found, is_rank, same_some}

pub front-acts : (log : List Entry) (n : ℕ) → n ≤ length log → acts_below n (acts_in log) ≡ acts_in (take n log)
front-acts log n short =
    let low = take n log in
    ap (λ m. acts_below m (acts_in log)) (sym (length-take-le n log short)) ∙ ap (λ l. acts_below (length low) (acts_in l)) (sym (take-append-drop n log)) ∙ sym (front low (drop n log))

-- an act stands below a position just where its rank is found there
below-found : (log : List Entry) (n : ℕ) (a : Act) → Among (acts_in log) a → is_some (find (is_rank a.session a.rank) (acts_below n (acts_in log))) ≡ nat_lt a.place.pos n
below-found log n a m = by_test (nat_lt a.place.pos n) refl (find (is_rank a.session a.rank) (acts_below n (acts_in log))) refl
  where
    own : is_rank a.session a.rank a ≡ true
    own = and_from _ _ (eq-eqb a.session a.session refl) (eq-eqb a.rank a.rank refl)

    none_some : {b : Act} → None ≡ Some b → ⊥
    none_some e = cc

    by_test : (t : Bool) → nat_lt a.place.pos n ≡ t → (f : Option Act) → find (is_rank a.session a.rank) (acts_below n (acts_in log)) ≡ f → is_some f ≡ t
    by_test true low (Some b) e = refl
    by_test true low None e =
        let found = among-found (is_rank a.session a.rank) (acts_below n (acts_in log)) a (among-filter (λ (b : Act). nat_lt b.place.pos n) (acts_in log) a m low) own in
        absurd (none_some (sym e ∙ found.1))
    by_test false high None e = refl
    by_test false high (Some b) e =
        let found = found-among (is_rank a.session a.rank) (acts_below n (acts_in log)) b e in
        let parts = and_parts (b.session == a.session) (b.rank == a.rank) found.1 in
        let there = filter-among (λ (c : Act). nat_lt c.place.pos n) (acts_in log) b found.0 in
        let same : b ≡ a = same_some b a
        (sym (act-found log b a.session a.rank there.0 (eqb-true b.session a.session parts.0) (eqb-true b.rank a.rank parts.1)) ∙ act-found log a a.session a.rank m refl refl) in
        absurd (both_ways (nat_lt a.place.pos n) high (ap (λ (c : Act). nat_lt c.place.pos n) (sym same) ∙ there.1))

-- and just where no rank up to its own is missing there
pub below-gap : (log : List Entry) (n : ℕ) (a : Act) → n ≤ length log → Among (acts_in log) a → 1 ≤ a.rank → nat_lt a.place.pos n ≡ nat_lt a.rank (gap_from (asked_in 0 (take n log)) a.session 1)
below-gap log n a short m low =
    sym (below-found log n a m)
    ∙ ap (λ acts. is_some (find (is_rank a.session a.rank) acts)) (front-acts log n short)
    ∙ (log_turn finmap.empty (asked_in 0 (take n log))).acted a.session a.rank low
