use Rattle.base_engine.proofs.trim.find_least.Goals as goal

pub returns-in-Ok-least-clause-found : goal.returns-in-Ok-least-clause-found
returns-in-Ok-least-clause-found g c = record { tail = c.in-Ok.field-0; above = c.in-Ok.ensures.synced; at = c.in-Ok.ensures.cursor; led = c.sync.ensures.follows.now; is = c.in-Ok-least.ensures }
