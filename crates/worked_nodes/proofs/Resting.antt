-- What a node without its log has holds on.
use Rattle.std.proofs.Common.{◌≡◌, ℕ, List, [], refl, sym, ap, subst, ◌∙◌, Some, None}
use Rattle.legal_journal.specs.declared.events.Event.{Event}
use Rattle.legal_journal.specs.Journal.{state_of, IsLegal}
use Rattle.virtual_log.specs.Turning.{Later}
use Rattle.virtual_log.specs.Holding.{Holds}
use Rattle.virtual_log.specs.Log.{GoesBy}
use Rattle.virtual_log.specs.Log as virtual_log
use Rattle.virtual_log.proofs.Going.{goes_later}
use Rattle.journal_pair.specs.Records.{records_of}
use Rattle.journal_pair.proofs.Areas.{no_bytes}
use Rattle.store_records.specs.Spelled.{Saved, committed, saved_of, nothing_saved}
use Rattle.local_store.specs.View as store
use Rattle.local_replica.specs.Shown.{pair_of, shown, Spells, local_meaning}
use Rattle.local_replica.proofs.Showing.{shown_survives}
use Rattle.replica_api.specs.Replica.{Survives, armed_by}
use Rattle.delos_types.specs.declared.item.Item.{Item}
use Rattle.std.specs.Option.{option_map}
use Rattle.base_engine.specs.Holding.{held_stays}
use Rattle.base_engine.specs.Node.{NodeView, NodeOk, Keeps, RestedView, awake}
use Rattle.base_engine.proofs.Following.{follows_later}
use Rattle.base_engine.proofs.Whole.{ok_same}
use Rattle.worked_nodes.specs.Resting.{two_nodes, Rests, AreTwo, IsNew}

pub rests_later : (who : ℕ) (early late : List Event) (node : RestedView) (log : virtual_log.RestedView) → Later two_nodes early late → Rests who early node log → Rests who late node log
rests_later who early late node log on r = record {
  ok = ok_same two_nodes Holds local_meaning (awake node who early log.known) (awake node who late log.known) r.ok on.legal refl
      (follows_later two_nodes Holds local_meaning (held_stays two_nodes) early late node.replica on r.ok.follows) r.ok.bounded refl refl refl refl;
  goes_by = goes_later two_nodes early late log.version log.known log.chain on r.goes_by;
  loglets = r.loglets;
  nodes = r.nodes;
}

pub two_later : (number : ℕ) (old new : NodeView) (other : ℕ) (rested : RestedView) (log : virtual_log.RestedView) → Keeps two_nodes old new → AreTwo number old other rested log → AreTwo number new other rested log
two_later number old new other rested log kept two = record { who = kept.who ∙ two.who; nodes = kept.nodes ∙ two.nodes; rests = rests_later other old.seen new.seen rested log kept.later two.rests }

-- the disk of the node that has the log is armed
pub two_armed : (number : ℕ) (old new : NodeView) (after other : ℕ) (rested : RestedView) (log : virtual_log.RestedView) → new ≡ record old { replica = armed_by old.replica after } → AreTwo number old other rested log → AreTwo number new other rested log
two_armed number old new after other rested log is two = record {
  who = ap (λ (v : NodeView). v.who) is ∙ two.who;
  nodes = ap (λ (v : NodeView). v.nodes) is ∙ two.nodes;
  rests = subst (λ (seen : List Event). Rests other seen rested log) (sym (ap (λ (v : NodeView). v.seen) is)) two.rests;
}

-- a node that is laid down
pub laid_down : (number : ℕ) (view : NodeView) (rested : RestedView) (log : virtual_log.LogView) (kept : virtual_log.RestedView) → view.who ≡ number → view.nodes ≡ 2 → rested ≡ record { nodes = view.nodes; replica = view.replica; outbox = view.outbox }
    → log.seen ≡ view.seen → log.known ≡ view.known → kept ≡ record { known = log.known; version = log.version; chain = log.chain; shelf_len = 1; words = log.words }
    → NodeOk two_nodes Holds local_meaning view → GoesBy (state_of log.seen) log.version log.chain log.known → Rests number view.seen rested kept
laid_down number view rested log kept who two is seen known left ok goes = record {
  ok = subst (NodeOk two_nodes Holds local_meaning) (sym same) ok;
  goes_by = subst (λ (v : virtual_log.RestedView). GoesBy (state_of view.seen) v.version v.chain v.known) (sym left) (subst (λ (s : List Event). GoesBy (state_of s) log.version log.chain log.known) seen goes);
  loglets = ap (λ (v : virtual_log.RestedView). v.shelf_len) left;
  nodes = ap (λ (r : RestedView). r.nodes) is ∙ two;
}
  where
    bare : RestedView
    bare = record { nodes = view.nodes; replica = view.replica; outbox = view.outbox }

    same : awake rested number view.seen kept.known ≡ view
    same =
        ap (λ (r : RestedView). awake r number view.seen kept.known) is
        ∙ (ap (λ (w : ℕ). awake bare w view.seen kept.known) (sym who)
        ∙ ap (λ (k : ℕ). awake bare view.who view.seen k) (ap (λ (v : virtual_log.RestedView). v.known) left ∙ known))

-- a node that is taken up
pub taken_up : (number w : ℕ) (seen : List Event) (rested : RestedView) (kept : virtual_log.RestedView) (log : virtual_log.LogView) → log ≡ record { who = w; seen = seen; known = kept.known; version = kept.version; chain = kept.chain; words = kept.words } → w ≡ number
    → Rests number seen rested kept → NodeOk two_nodes Holds local_meaning (awake rested log.who log.seen log.known)
taken_up number w seen rested kept log is who r =
    subst (λ (l : virtual_log.LogView). NodeOk two_nodes Holds local_meaning (awake rested l.who l.seen l.known)) (sym is)
    (subst (λ (n : ℕ). NodeOk two_nodes Holds local_meaning (awake rested n seen kept.known)) (sym who) r.ok)

-- a store that was opened on an empty disk
pub new_store : (v : store.View) (bytes : List ℕ) → bytes ≡ [] → saved_of (records_of bytes) ≡ Some (store.saved_in v) → v.asked ≡ None → store.Survives v → IsNew v
new_store v bytes empty spelled asked survives =
    let saved : Some nothing_saved ≡ Some (store.saved_in v) = sym (ap (λ b. saved_of (records_of b)) empty ∙ ap saved_of no_bytes) ∙ spelled in
    let is : nothing_saved ≡ store.saved_in v = cc in
    record { start = sym (ap (λ (s : Saved). s.cursor) is); empty = sym (ap (λ (s : Saved). s.contents) is); none_asked = asked; survives = survives }

pub none_asked_so : (v v' : store.View) (o : ℕ) (w : List Item) (st re : ℕ) → v ≡ v' → v'.asked ≡ None → (shown v o w st re).asked ≡ None
none_asked_so v v' o w st re same none = ap (λ a. option_map (λ c. pair_of (committed (store.saved_in v) c)) a) (ap (λ (x : store.View). x.asked) same ∙ none)

pub survives_so : (v v' : store.View) (o : ℕ) (w : List Item) (st re : ℕ) → v ≡ v' → store.Survives v' → Survives Spells (shown v o w st re)
survives_so v v' o w st re same survives = shown_survives v o w st re (subst store.Survives (sym same) survives)

pub legal_by : (es es' : List Event) → es ≡ es' → IsLegal two_nodes es' → IsLegal two_nodes es
legal_by es es' same legal = subst (IsLegal two_nodes) (sym same) legal
