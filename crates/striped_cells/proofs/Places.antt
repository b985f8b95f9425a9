-- What the stripe of a position has there.
use Rattle.std.proofs.lemmas.List.{length-map}
use Rattle.std.proofs.lemmas.Option.{gets, slice_get-map}

pub ruleset at_stripe = (gets, slice_get-map, length-map)
