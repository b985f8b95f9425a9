-- Bounds of places.
use Rattle.std.proofs.Common.{◌≡◌, ℕ, arith, ◌<◌, ◌∙◌, ap, subst, List, length, get_or, Some}
use Rattle.std.specs.Prelude.{slice_get}
use Rattle.std.specs.Option.{ForSome}
use Rattle.std.proofs.lemmas.List.{get_or_default}
use Rattle.std.proofs.lemmas.List.Elements.{All-contains}
use Rattle.quorum_cell.specs.declared.message.Ask.{Ask}
use Rattle.quorum_cell.specs.declared.message.Ask.TheVariants.{Store, Seal, Tail, Repair, Read, Trim}
use Rattle.quorum_cell.specs.declared.message.Request.{Request}
use Rattle.quorum_cell.specs.Servers.{Server}
use Rattle.quorum_cell.specs.Cells.{Cell, server, no_server}
use Rattle.quorum_cell.specs.Law.{IsOurs, RequestHolds}
use Rattle.quorum_cell.proofs.Lists.{contained}
use Rattle.quorum_cell.proofs.Steps.{cut_within}
use Rattle.quorum_cell.specs.Law.{IsLawful}
use Rattle.cell_steps.specs.Serving.{AskFits}

-- what is asked of a lawful cell's servers goes no further than its room
ours_fits : (c : Cell) → IsLawful c → (ask : Ask) → IsOurs c ask → AskFits ask
ours_fits c law (Store p e) h = tt
ours_fits c law Seal h = tt
ours_fits c law Tail h = tt
ours_fits c law (Repair p e) h = tt
ours_fits c law (Read p) h = tt
ours_fits c law (Trim n) h = omega (arith, h, cut_within c law.law.quorum, law.law.quorum.fits, law.shape.room.1)

pub request_fits : (c : Cell) → IsLawful c → (k : ℕ) (q : Request) → slice_get c.requests k ≡ Some q → AskFits q.ask
request_fits c law k q at = ours_fits c law q.ask (All-contains (RequestHolds c) c.requests q law.law.quorum.requests (contained c.requests k q at)).ours

pub torn_fits : (c : Cell) → IsLawful c → (ss : List Server) → ss ≡ c.servers → (i : ℕ) (d s : Server) → i < length ss → s ≡ get_or ss i d → ForSome s.torn AskFits
torn_fits c law ss same i d s here is =
    let at : s ≡ server c i = is ∙ get_or_default ss i d no_server here ∙ ap (λ (xs : List Server). get_or xs i no_server) same in
    λ ask z. ours_fits c law ask ((law.law.quorum.servers i).torn ask (subst (λ (x : Server). x.torn ≡ Some ask) at z))
