-- The law of a fresh world, and of every world that steps lead to.
use Rattle.std.proofs.Common.{◌≡◌, inl, ℕ, zero, suc, ◌+◌, ◌*◌, ◌^◌, ◌<◌, ◌≤◌, Bool, true, false, refl, sym, ◌∙◌, ap, subst, arith, List, [], ◌∷◌, length, map, get_or, Some, None}
use Rattle.std.specs.Prelude.{All, replicate, slice_get, not, nat_le, if◌then◌else◌}
use Rattle.std.proofs.lemmas.Bool.{false≢true}
use Rattle.std.proofs.lemmas.Bool.Decides.{nat_tests}
use Rattle.std.proofs.lemmas.Option.{none-some}
use Rattle.std.proofs.lemmas.List.{length-map, length-replicate}
use Rattle.std.proofs.lemmas.List.Elements.{All-head, All-tail}
use Rattle.delos_types.specs.declared.entry.Entry.{Entry}
use Rattle.chain_map.specs.Chain.{first_chain}
use Rattle.loglet_api.specs.declared.call.Op.{Op}
use Rattle.loglet_api.specs.declared.call.Op.TheVariants.{Append, Settle, Tail, Seal, Read, Trim}
use Rattle.loglet_api.specs.View.{Operation, operation_at, IsFresh}
use Rattle.loglet_api.specs.Step.{CanBegin}
use Rattle.majority_rule.specs.Majority.{majority, votes_below}
use Rattle.quorum_cell.specs.Servers.{Server, is_sealed}
use Rattle.quorum_cell.specs.Cells.{server, no_server}
use Rattle.quorum_cell.specs.Law.{IsLawful}
use Rattle.quorum_cell.proofs.Lawful.{start_lawful}
use Rattle.cell_views.specs.Views.{IsSpelled, cell_view}
use Rattle.legal_journal.specs.Told.{put}
use Rattle.legal_journal.specs.Journal.{State, fresh_cell, fresh_register}
use Rattle.legal_journal.specs.Journal as journal
use Rattle.legal_journal.proofs.Cells.{put_other}
use Rattle.fabric_core.specs.Fabric.{MatchesOperation}
use Rattle.striped_cells.specs.Ways.{Ways, IsKind}
use Rattle.striped_cells.specs.Quorums.{plain, quorum_ways}
use Rattle.striped_cells.specs.Striped.{MayStripe, stripes_like, striped_ways}
use Rattle.striped_cells.proofs.Quorate.{quorum_kind}
use Rattle.striped_cells.proofs.Starting.{fresh_lawful, fresh_shown}
use Rattle.world_steps.specs.declared.cell.WorldCell.{WorldCell}
use Rattle.world_steps.specs.declared.shape.QuorumShape.{QuorumShape}
use Rattle.world_steps.specs.declared.shape.Shape.{Shape}
use Rattle.world_steps.specs.declared.shape.Shape.TheVariants as shape
use Rattle.world_steps.specs.declared.step.ChainChange.{ChainChange}
use Rattle.world_steps.specs.declared.step.ChainChange.TheVariants.{Extend, Raise}
use Rattle.world_steps.specs.declared.step.WorldStep.{WorldStep}
use Rattle.world_steps.specs.declared.step.WorldStep.TheVariants as step
use Rattle.world_steps.specs.Cells.{once, twice, view_of, entries_of, IsLawfulCell, start_quorum, start_of, servers_of}
use Rattle.world_steps.specs.Parts.{Node, World, no_cell, no_node, cell_at, node_at, of_version, fresh, shelf_of}
use Rattle.world_steps.specs.Steps.{world_step, run_world}
use Rattle.world_steps.specs.Laws.{IsQuorumShaped, AreStripes, IsShaped, IsShelf, IsCellTold, IsFront, WorldLaw, BringsSpelled, IsLet, KeepsTo, AllKeepTo, any_append, any_trim}
use Rattle.world_steps.proofs.Kind.{cell_kind, once_kind}
use Rattle.world_steps.proofs.Kept.{Goes}
use Rattle.world_steps.proofs.Stepped.{run_goes}

-- a fresh cell is as no events tell it
fresh_told : (c : WorldCell) → IsLawfulCell c → IsFresh (view_of c) → entries_of c ≡ [] → IsCellTold fresh_cell c
fresh_told c lawful fresh none = record {
  lawful = lawful;
  view = record {
    cut = fresh.cut;
    log = fresh.log;
    reach = fresh.reach;
    cap = fresh.cap;
    firm = fresh.firm;
    begun = fresh.begun;
    seals = fresh.seals;
    lacks = fresh.lacks;
    sealed = λ h. absurd (false≢true h);
    operations = λ t. subst (λ (os : List (ℕ × Operation)). MatchesOperation None (operation_at os t)) (sym fresh.operations) tt;
    left = λ t o h. absurd (none-some o (sym (ap (λ (os : List (ℕ × Operation)). operation_at os t) fresh.operations) ∙ h));
    sound = cell_kind.sound c lawful;
  };
  entries = sym none;
}

---- fresh cells

new_server : (n i : ℕ) → i < n → get_or (replicate n (record no_server { up = true })) i no_server ≡ record no_server { up = true }
new_server zero i l = absurd (omega arith)
new_server (suc n) zero l = refl
new_server (suc n) (suc i) l = new_server n i (omega arith)

votes_none : (n : ℕ) (f : ℕ → Bool) → ((i : ℕ) → i < n → f i ≡ false) → votes_below n f ≡ 0
votes_none zero f h = refl
votes_none (suc n) f h =
    let a = votes_none n f (λ i l. h i (omega (arith, l))) in
    let b : ◌≡◌ {A = ℕ} (if f n then 1 else 0) 0 = ap (λ (x : Bool). if x then 1 else 0) (h n (omega arith)) in
    omega (arith, a, b)

no_majority : (n v : ℕ) → v ≡ 0 → nat_le (majority n) v ≡ false
no_majority n v e = grind (arith, nat_tests)

-- what is known of a fresh cell of a kind
record IsStart {C : Type 0} (k : Ways C) (c : C) : Type 0 where
  pub lawful : k.is_lawful c
  pub fresh : IsFresh (k.view c)
  pub none : k.entries c ≡ []

quorum_start : (s : QuorumShape) → IsQuorumShaped s → IsStart quorum_ways (start_quorum s)
quorum_start s h =
    let c = start_quorum s in
    let many = length-replicate s.servers (record no_server { up = true }) in
    let new : (i : ℕ) → i < length c.servers → server c i ≡ record no_server { up = true } = (λ i l. new_server s.servers i (omega (arith, l, many))) in
    record {
      lawful = (start_lawful s.servers s.room s.limit h.servers.0 h.servers.1 h.room.0 h.room.1 h.limit, λ i e z. absurd (none-some e z));
      fresh = record {
        cut = refl;
        log = refl;
        reach = refl;
        cap = refl;
        firm = refl;
        shut = no_majority (length c.servers) _ (votes_none (length c.servers) (λ i. is_sealed (server c i)) (λ i l. ap is_sealed (new i l)));
        operations = refl;
        faults = refl;
        down = votes_none (length c.servers) (λ i. not (server c i).up) (λ i l. ap (λ (x : Server). not x.up) (new i l));
        begun = refl;
        seals = refl;
        lacks = refl;
      };
      none = refl;
    }

-- a cell of stripes like a fresh one may be made
may_stripe : {C : Type 0} (k : Ways C) (kind : IsKind k) (m servers room : ℕ) (x : C) → IsStart k x → AreStripes m servers room → (k.view x).servers ≡ servers → (k.view x).room ≡ room → (k.view x).rounds ≤ 2 ^ 24 → MayStripe k m x
may_stripe k kind m servers room x one h es er rounds = record {
  kind = kind;
  lawful = one.lawful;
  fresh = one.fresh;
  count = h.count;
  servers = subst (λ n. m * n ≤ 64) (sym es) h.few;
  rounds = rounds;
  room = subst (λ n. m * n ≤ 2 ^ 32) (sym er) h.small;
}

-- .. and is fresh
stripes_start : {C : Type 0} (k : Ways C) (m : ℕ) (x : C) → MayStripe k m x → IsStart (striped_ways k) (stripes_like k m x)
stripes_start k m x may = record { lawful = fresh_lawful k x m may; fresh = fresh_shown k x m may; none = refl }

servers_in : (s : QuorumShape) → (cell_view plain (start_quorum s)).servers ≡ s.servers
servers_in s = length-replicate s.servers (record no_server { up = true })

pub may_once : (m : ℕ) (s : QuorumShape) → IsQuorumShaped s → AreStripes m s.servers s.room → MayStripe quorum_ways m (start_quorum s)
may_once m s h k = may_stripe quorum_ways quorum_kind m s.servers s.room (start_quorum s) (quorum_start s h) k (servers_in s) refl (omega arith)

once_start : (m : ℕ) (s : QuorumShape) → IsQuorumShaped s → AreStripes m s.servers s.room → IsStart once (stripes_like quorum_ways m (start_quorum s))
once_start m s h k = stripes_start quorum_ways m (start_quorum s) (may_once m s h k)

few_rounds : (m : ℕ) → m ≤ 8 → (3 * m + 1) * 2 ≤ 2 ^ 24
few_rounds m h = omega (arith, h)

pub may_twice : (n m : ℕ) (s : QuorumShape) → IsQuorumShaped s → AreStripes m s.servers s.room → AreStripes n (m * s.servers) (m * s.room) → MayStripe once n (stripes_like quorum_ways m (start_quorum s))
may_twice n m s h k l = may_stripe once once_kind n (m * s.servers) (m * s.room) (stripes_like quorum_ways m (start_quorum s)) (once_start m s h k) l (ap (λ x. m * x) (servers_in s)) refl (few_rounds m k.count.1)

twice_start : (n m : ℕ) (s : QuorumShape) → IsQuorumShaped s → AreStripes m s.servers s.room → AreStripes n (m * s.servers) (m * s.room) → IsStart twice (stripes_like once n (stripes_like quorum_ways m (start_quorum s)))
twice_start n m s h k l = stripes_start once n (stripes_like quorum_ways m (start_quorum s)) (may_twice n m s h k l)

start_told : (s : Shape) → IsShaped s → IsCellTold fresh_cell (start_of s)
start_told (shape.Quorum s) h = let a = quorum_start s h in fresh_told (start_of (shape.Quorum s)) a.lawful a.fresh a.none
start_told (shape.Striped m s) h = let a = once_start m s h.0 h.1 in fresh_told (start_of (shape.Striped m s)) a.lawful a.fresh a.none
start_told (shape.Nested n m s) h = let a = twice_start n m s h.0 h.1 h.2 in fresh_told (start_of (shape.Nested n m s)) a.lawful a.fresh a.none

no_cell_told : IsCellTold fresh_cell no_cell
no_cell_told = start_told (shape.Quorum (record { servers = 1; room = 1; limit = 0 })) (record { servers = (omega arith, omega arith); room = (omega arith, omega arith); limit = omega arith })

shaped_told : (shapes : List Shape) → All IsShaped shapes → (i : ℕ) → IsCellTold fresh_cell (cell_at (map start_of shapes) i)
shaped_told [] h i = no_cell_told
shaped_told (s ∷ shapes) h zero = start_told s (All-head IsShaped s shapes h)
shaped_told (s ∷ shapes) h (suc i) = shaped_told shapes (All-tail IsShaped s shapes h) i

given_first : (v : ℕ) → put (λ (_ : ℕ). None) 1 (Some first_chain) v ≡ of_version (first_chain ∷ []) v
given_first zero = refl
given_first (suc zero) = refl
given_first (suc (suc v)) = put_other (λ (_ : ℕ). None) 1 (Some first_chain) (suc (suc v)) (λ e. absurd (omega arith))

new_node : (n k : ℕ) → node_at (replicate n no_node) k ≡ no_node
new_node zero k = refl
new_node (suc n) zero = refl
new_node (suc n) (suc k) = new_node n k

servers_are : (s : Shape) → (view_of (start_of s)).servers ≡ servers_of s
servers_are (shape.Quorum s) = servers_in s
servers_are (shape.Striped m s) = ap (λ n. m * n) (servers_in s)
servers_are (shape.Nested n m s) = ap (λ x. n * (m * x)) (servers_in s)

shelf_is : (shapes : List Shape) → map (λ (c : WorldCell). (view_of c).servers) (map start_of shapes) ≡ map servers_of shapes
shelf_is [] = refl
shelf_is (s ∷ shapes) = ap (λ n. n ∷ map (λ (c : WorldCell). (view_of c).servers) (map start_of shapes)) (servers_are s) ∙ ap (λ ns. servers_of s ∷ ns) (shelf_is shapes)

pub fresh_shelf : (shapes : List Shape) (nodes : ℕ) → shelf_of (fresh shapes nodes) ≡ map servers_of shapes
fresh_shelf shapes nodes = shelf_is shapes

pub fresh_law : (may : ℕ → Entry → Type 0) (floor : List Entry → ℕ → Type 0) (shapes : List Shape) (nodes : ℕ) → IsShelf shapes → WorldLaw may floor (fresh shapes nodes)
fresh_law may floor shapes nodes shelf =
    let many : length (shelf_of (fresh shapes nodes)) ≡ length shapes = ap (λ (ns : List ℕ). length ns) (shelf_is shapes) ∙ length-map shapes servers_of in record {
      legal = record { least = omega (arith, many, shelf.least); most = omega (arith, many, shelf.most); steps = tt };
      cells = shaped_told shapes shelf.each;
      owners = λ i t who h. absurd (false≢true h);
      ends = λ i n h. absurd (false≢true h);
      placed = λ i p h. absurd (false≢true h);
      register = record {
        count = refl;
        given = given_first;
        last = refl;
        down = refl;
        current = inl (refl, refl);
        whole = λ _. refl;
        torn = λ c h. absurd (none-some c h);
      };
      nodes = λ k. subst (λ (n : Node). IsFront journal.start.shown n) (sym (new_node nodes k)) (record {
        applied = λ i l. absurd (omega arith);
        whole = λ _. refl;
        torn = λ e h. absurd (none-some e h);
      });
    }

---- rules that allow everything

let_any : (w : World) (change : ChainChange) → IsLet any_trim w change
let_any w (Extend t) = tt
let_any w (Raise n) = record { log = []; shows = λ i l. absurd (omega arith); free = tt }

keeps_any_op : (w : World) (who i : ℕ) (op : Op) → CanBegin op → KeepsTo any_append any_trim w (step.Begin who i op)
keeps_any_op w who i (Append e) h = (h, tt)
keeps_any_op w who i (Settle n) h = tt
keeps_any_op w who i Tail h = tt
keeps_any_op w who i Seal h = tt
keeps_any_op w who i (Read p) h = tt
keeps_any_op w who i (Trim n) h = tt

pub keeps_any : (w : World) (s : WorldStep) → BringsSpelled s → KeepsTo any_append any_trim w s
keeps_any w (step.Begin who i op) h = keeps_any_op w who i op h
keeps_any w (step.WriteChain who x change) h = let_any w change
keeps_any w (step.WriteStops who x change) h = let_any w change
keeps_any w (step.Inside i path m) h = tt
keeps_any w (step.Take who i t) h = tt
keeps_any w (step.Forget who i t) h = tt
keeps_any w (step.ReadChain who) h = tt
keeps_any w (step.MendRegister who kept) h = tt
keeps_any w (step.MendFails who) h = tt
keeps_any w (step.Apply k) h = tt
keeps_any w (step.StopNode k) h = tt
keeps_any w (step.RestartNode k kept) h = tt

pub all_keep_any : (steps : List WorldStep) (w : World) → All BringsSpelled steps → AllKeepTo any_append any_trim w steps
all_keep_any [] w h = tt
all_keep_any (s ∷ steps) w h = (keeps_any w s (All-head BringsSpelled s steps h), all_keep_any steps (world_step w s) (All-tail BringsSpelled s steps h))

-- from one world to a later one
pub later : (steps : List WorldStep) (w : World) → WorldLaw any_append any_trim w → All BringsSpelled steps → Goes any_append any_trim w (run_world steps w)
later steps w law h = run_goes any_append any_trim steps w law (all_keep_any steps w h)

pub reached : (shapes : List Shape) (nodes : ℕ) (steps : List WorldStep) → IsShelf shapes → All BringsSpelled steps → WorldLaw any_append any_trim (run_world steps (fresh shapes nodes))
reached shapes nodes steps shelf h = (later steps (fresh shapes nodes) (fresh_law any_append any_trim shapes nodes shelf) h).law

-- a cell of a shape
pub cell_of : (shapes : List Shape) (nodes i : ℕ) (s : Shape) → slice_get shapes i ≡ Some s → cell_at (fresh shapes nodes).cells i ≡ start_of s
cell_of shapes nodes i s = at shapes i
  where
    at : (xs : List Shape) (k : ℕ) → slice_get xs k ≡ Some s → cell_at (map start_of xs) k ≡ start_of s
    at [] k e = absurd (cc)
    at (x ∷ xs) zero e = let same : x ≡ s = cc in ap start_of same
    at (x ∷ xs) (suc k) e = at xs k e

pub shape_in : (shapes : List Shape) → All IsShaped shapes → (i : ℕ) (s : Shape) → slice_get shapes i ≡ Some s → IsShaped s
shape_in [] h i s e = absurd (cc)
shape_in (x ∷ shapes) h zero s e = let same : x ≡ s = cc in subst IsShaped same (All-head IsShaped x shapes h)
shape_in (x ∷ shapes) h (suc i) s e = shape_in shapes (All-tail IsShaped x shapes h) i s e

-- a fresh quorum cell is lawful
pub quorum_lawful : (s : QuorumShape) → IsQuorumShaped s → IsLawful (start_quorum s) × IsSpelled (start_quorum s)
quorum_lawful s h = (quorum_start s h).lawful

pub quorum_servers : (s : QuorumShape) → length (start_quorum s).servers ≡ s.servers
quorum_servers s = servers_in s
